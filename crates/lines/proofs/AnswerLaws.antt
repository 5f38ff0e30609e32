-- Laws of answering a line.
use Prim.Native.Nat.{ℕ, ◌*◌, ◌≤◌, ◌<◌}
use mathlib.Core.Path.{◌≡◌, refl, sym, ap, ap₂, ◌∙◌}
use mathlib.Core.Bool.{Bool, true, false, cond, not, ◌&&◌, ◌||◌, or-true, or-false}
use mathlib.Core.List.{List, [], ◌∷◌, ◌++◌}
use native.Mathlib.Omega.{arith}
use native.Mathlib.Decide.{ℕ_discrete}
use borrow.Author.Tests.{eq-eqb, ne_eqb, eqb-true, lt-ltb, le-ltb, le-leb, ltb-true, ltb-false}
use lib.Dec.{eqb, leb, ltb}
use lib.ListN.{length, get_or, take, drop, length-append, length-take, length-drop}
use lib.Seq.{take_all, get_or-take}
use Rattle.std.specs.Prelude.{Option, Some, None, MatchOption}
use Rattle.measures.proofs.ListLaws.{table-length, both_ways}
use Rattle.matching.specs.Orders.{Row}
use Rattle.matching.specs.Memory.{flat, written}
use Rattle.matching.proofs.Laws.Orders.RowLaws.{flat-length, written_none}
use Rattle.book.specs.Book.{Rules, rules_of, Book}
use Rattle.book.specs.Refusals.{Outcome}
use Rattle.std.proofs.Common.{Ok, Err, IfOk, is_ok}
use Rattle.measures.specs.declared.refusals.Refusal.{Refusal}
use Rattle.measures.specs.Refused.{number_of}
use Rattle.book.specs.declared.Done.{Done}
use Rattle.book.specs.Layout.{DAYS, LAYOUT, layout_number, book_words, word, decode}
use Rattle.book.specs.Opening.{fresh, opening_refusal}
use Rattle.book.specs.Calls.{Call, call_enrol, call_offer, call_take, call_withdraw, call_order, call_cancel, outcome}
use Rattle.book.specs.Contract.{Answer, Told, Made, Opened, outcome_on}
use Rattle.book.proofs.Laws.Opening.OpeningLaws.{no_such_days}
use Rattle.lines.specs.Lines.{Line, unknown, opening, calling, count_of, is_call, call_of, line_of, called}
use Rattle.lines.specs.Printed.{printed_rows, printed_ok, printed_no}
use Rattle.lines.specs.Inner.Puts.{rows_text, ok_text, answer_text}
use Rattle.lines.specs.Answers.{Stands, no_book, standing, refuses, accepts, is_enrol, given, opening_said, call_said, said_to, after, printed}
use Rattle.lines.specs.Stepping.{one_day, stands_in, Answered}
use Rattle.lines.specs.declared.answering.Letter.{Letter}
use Rattle.lines.specs.declared.answering.Letter.TheVariants.{Open, Enrol, Offer, Take, Withdraw, Order, Cancel, Clear, Close}
use Rattle.lines.specs.Inner.Letters.{byte_of, begins, beyond, MadeBy}
use Rattle.lines.proofs.PuttingLaws.{rows_printed}
use Rattle.book.proofs.Laws.Answer.RulesLaws.{rules_stay}

-- a call that hands back no rows leaves lent rows as they are
flat_none : (rs : List Row) (d : List ℕ) → [] ≡ flat rs ++ d → rs ≡ []
unfolding flat
flat_none [] d e = refl
flat_none (r ∷ rs) d e = let z : ◌≡◌ {A = ℕ} 0 1 = cc in absurd (omega arith)

no_rows : (rows : List ℕ) (rs : List Row) → [] ≡ written [] rs → rows ≡ written rows rs
unfolding written
no_rows rows rs e = rw (flat_none rs (drop (6 * length rs) []) e) (written_none rows)

made_beside : (m rows : List ℕ) (c : Call) (a : Answer) (m' : List ℕ) → Made m [] c a m' [] → Made m rows c a m' rows
made_beside m rows c a m' f =
    record {
      answer = f.answer;
      refused = λ h. ((f.refused h).0, refl);
      accepted = f.accepted;
      handed = λ h. no_rows rows (outcome_on m c).rows (f.handed h);
      aside = f.aside;
      long = f.long;
    }

-- as many rows as there is room for
rows_fit : (rows : List ℕ) (rs : List Row) (rows' : List ℕ) → rows' ≡ written rows rs → length rows' ≡ length rows → 6 * length rs ≤ length rows
unfolding written
rows_fit rows rs rows' e l =
    let a = ap length e in
    let b = length-append (flat rs) (drop (6 * length rs) rows) in
    let k = flat-length rs in
    let d = length-drop (6 * length rs) rows in
    omega arith

-- the numbers that a letter asks for
cond_same : {A : Type 0} (t : Bool) (x y x' y' : A) → (t ≡ true → x ≡ x') → y ≡ y' → cond t x y ≡ cond t x' y'
cond_same true x y x' y' h k = h refl
cond_same false x y x' y' h k = k

module _ (l n : ℕ) (ns : List ℕ) (e : n ≡ count_of l) (long : length ns ≡ 27) where
  number_kept : (k i : ℕ) → count_of l ≡ k → i < k → get_or (take n ns) i 0 ≡ get_or ns i 0
  number_kept k i h up = get_or-take n ns i 0 (omega arith)

  all_kept : count_of l ≡ 27 → take n ns ≡ ns
  all_kept h = take_all n ns (omega arith)

  two_kept : {A : Type 0} → (f : ℕ → ℕ → A) → count_of l ≡ 2 → f (get_or (take n ns) 0 0) (get_or (take n ns) 1 0) ≡ f (get_or ns 0 0) (get_or ns 1 0)
  two_kept f h = rw (number_kept 2 0 h (omega arith), number_kept 2 1 h (omega arith))

  three_kept : {A : Type 0} → (f : ℕ → ℕ → ℕ → A) → count_of l ≡ 3
      → f (get_or (take n ns) 0 0) (get_or (take n ns) 1 0) (get_or (take n ns) 2 0) ≡ f (get_or ns 0 0) (get_or ns 1 0) (get_or ns 2 0)
  three_kept f h = rw (number_kept 3 0 h (omega arith), number_kept 3 1 h (omega arith), number_kept 3 2 h (omega arith))

  five_kept : {A : Type 0} → (f : ℕ → ℕ → ℕ → ℕ → ℕ → A) → count_of l ≡ 5
      → f (get_or (take n ns) 0 0) (get_or (take n ns) 1 0) (get_or (take n ns) 2 0) (get_or (take n ns) 3 0) (get_or (take n ns) 4 0)
      ≡ f (get_or ns 0 0) (get_or ns 1 0) (get_or ns 2 0) (get_or ns 3 0) (get_or ns 4 0)
  five_kept f h =
      rw (
        number_kept 5 0 h (omega arith),
        number_kept 5 1 h (omega arith),
        number_kept 5 2 h (omega arith),
        number_kept 5 3 h (omega arith),
        number_kept 5 4 h (omega arith),
      )

  counts : (k : ℕ) → eqb l k ≡ true → count_of l ≡ count_of k
  counts k h = ap count_of (eqb-true l k h)

  call_kept : call_of l (take n ns) ≡ call_of l ns
  unfolding call_of count_of
  call_kept =
      cond_same (eqb l 69) _ _ _ _ (λ h. three_kept call_enrol (counts 69 h))
      (cond_same (eqb l 76) _ _ _ _ (λ h. ap (λ (x : List ℕ). call_offer (get_or x 0 0) (get_or x 1 0) (get_or x 2 0) (drop 3 x)) (all_kept (counts 76 h)))
      (cond_same (eqb l 84) _ _ _ _ (λ h. three_kept (λ u k q. call_take u k q 4_464) (counts 84 h))
      (cond_same (eqb l 87) _ _ _ _ (λ h. two_kept call_withdraw (counts 87 h))
      (cond_same (eqb l 82) _ _ _ _ (λ h. five_kept (λ u d p price q. call_order u d p price q 4_464) (counts 82 h))
      (cond_same (eqb l 88) _ _ _ _ (λ h. two_kept call_cancel (counts 88 h))
      refl)))))

  line_kept : line_of l (take n ns) ≡ line_of l ns
  unfolding line_of count_of
  line_kept =
      cond_same (eqb l 79) _ _ _ _ (λ h. three_kept opening (counts 79 h))
      (cond_same (is_call l) _ _ _ _ (λ h. ap calling call_kept) refl)

-- a line that was read to its end
module _ (said-by : Line) (l n : ℕ) (ns : List ℕ) (p : said-by ≡ called l (take n ns)) (up : n ≤ 27) (long : length ns ≡ 27) where
  taken_long : length (take n ns) ≡ n
  taken_long = omega (arith, length-take n ns)

  wrong_count : (n ≡ count_of l → ⊥) → said-by ≡ unknown
  unfolding called
  wrong_count ne = let k = taken_long in p ∙ rw (ne_eqb (length (take n ns)) (count_of l) (omega arith))

  right_count : n ≡ count_of l → said-by ≡ line_of l ns
  unfolding called
  right_count e = let k = taken_long in p ∙ rw (eq-eqb (length (take n ns)) (count_of l) (omega arith)) (line_kept l n ns e long)

-- each letter begins a line
letter_begins : (k : Letter) → begins (byte_of k) ≡ true
unfolding is_call
letter_begins Open = refl
letter_begins Enrol = refl
letter_begins Offer = refl
letter_begins Take = refl
letter_begins Withdraw = refl
letter_begins Order = refl
letter_begins Cancel = refl
letter_begins Clear = refl
letter_begins Close = refl

not_begun : (o c t : Bool) (x y : Line) → (o || c) ≡ false → cond t (cond o x (cond c y unknown)) unknown ≡ unknown
not_begun true c t x y h = both_ways h
not_begun false true t x y h = both_ways h
not_begun false false true x y h = refl
not_begun false false false x y h = refl

module _ (said-by : Line) (l n : ℕ) (ns : List ℕ) (p : said-by ≡ called l (take n ns)) (up : n ≤ 27) (long : length ns ≡ 27) where
  not_said : (begins l && eqb (count_of l) n) ≡ false → said-by ≡ unknown
  unfolding called line_of
  not_said h = go (begins l) refl
    where
      go : (b : Bool) → begins l ≡ b → said-by ≡ unknown
      go true q = wrong_count said-by l n ns p up long (λ e. both_ways (rw (q, eq-eqb (count_of l) n (sym e)) at h))
      go false q = p ∙ not_begun (eqb l 79) (is_call l) (eqb (length (take n ns)) (count_of l)) _ _ q

  -- a line says what its letter does, where as many numbers follow as it asks for
  pub heard : (r : Option Letter) → MatchOption r ((begins l && eqb (count_of l) n) ≡ false) (λ k. (l ≡ byte_of k) × (count_of l ≡ n))
      → MatchOption r (said-by ≡ unknown) (λ k. said-by ≡ line_of (byte_of k) ns)
  heard None h = not_said h
  heard (Some k) h = right_count said-by l n ns p up long (sym h.1) ∙ ap (λ (x : ℕ). line_of x ns) h.0

-- a letter makes its call, with the lent rows or beside them
module _ (l : ℕ) (ns m rows : List ℕ) (a : Answer) (m' : List ℕ) (ne : l ≡ 79 → ⊥) where
  pub by_call : (rows' : List ℕ) → Made m rows (call_of l ns) a m' rows' → MadeBy l ns m rows a m' rows'
  by_call rows' f = record { opens = λ e. absurd (ne e); calls = λ h. f }

  pub by_call-beside : Made m [] (call_of l ns) a m' [] → MadeBy l ns m rows a m' rows
  by_call-beside f = by_call rows (made_beside m rows (call_of l ns) a m' f)

-- an enrol when 8 units stand
units_counted : (m : List ℕ) → length (decode m).units ≡ get_or m 5 0
unfolding decode
units_counted m = table-length (get_or m 5 0) _

pub beyond_opening : (k : Letter) (ns m : List ℕ) (started : Bool) → k ≡ Open → ltb 1 (get_or ns 0 0) ≡ beyond (byte_of k) ns started m
beyond_opening k ns m started e = rw e refl

pub beyond_enrol : (k : Letter) (ns m : List ℕ) (started : Bool) → k ≡ Enrol → (started && one_day m) ≡ true
    → leb 8 (get_or m 5 0) ≡ beyond (byte_of k) ns started m
beyond_enrol k ns m started e h = rw (e, h, units_counted m) refl

other_call : (t : Bool) (x y : Call) → is_enrol x ≡ false → is_enrol y ≡ false → is_enrol (cond t x y) ≡ false
other_call true x y h k = h
other_call false x y h k = k

first_call : (t : Bool) (x y : Call) → is_enrol x ≡ true → is_enrol y ≡ false → is_enrol (cond t x y) ≡ t
first_call true x y h k = h
first_call false x y h k = k

enrol_letter : (l : ℕ) (ns : List ℕ) → is_enrol (call_of l ns) ≡ eqb l 69
unfolding call_of
enrol_letter l ns =
    first_call (eqb l 69) _ _ refl
    (other_call (eqb l 76) _ _ refl
    (other_call (eqb l 84) _ _ refl
    (other_call (eqb l 87) _ _ refl
    (other_call (eqb l 82) _ _ refl
    (other_call (eqb l 88) _ _ refl
    (other_call (eqb l 67) _ _ refl refl))))))

-- which book stands
no-book : (started : Bool) (m : List ℕ) → (started && one_day m) ≡ false → stands_in started m ≡ no_book
unfolding stands_in
no-book started m e = rw e

both_true : (a b : Bool) → (a && b) ≡ true → (a ≡ true) × (b ≡ true)
both_true true b e = (refl, e)
both_true false b e = let z : ◌≡◌ {A = ℕ} 0 1 = cc in absurd (omega arith)

-- once an O was accepted and the day count is 1, the layout decides whether a book stands
pub layout_decides : (started : Bool) (m : List ℕ) → started ≡ true → eqb (word m DAYS) 1 ≡ true
    → eqb (word m LAYOUT) layout_number ≡ (started && one_day m)
layout_decides started m s d = rw (s, d) refl

one_days : (m : List ℕ) → one_day m ≡ true → word m DAYS ≡ 1
one_days m e = eqb-true (word m DAYS) 1 (both_true (eqb (word m DAYS) 1) (eqb (word m LAYOUT) layout_number) e).0

one_layout : (m : List ℕ) → one_day m ≡ true → word m LAYOUT ≡ layout_number
one_layout m e = eqb-true (word m LAYOUT) layout_number (both_true (eqb (word m DAYS) 1) (eqb (word m LAYOUT) layout_number) e).1

a-book : (m : List ℕ) → one_day m ≡ true → stands_in true m ≡ standing (decode m)
unfolding stands_in
a-book m e = rw e

days_held : (m : List ℕ) → word m DAYS ≡ (decode m).rules.days
unfolding decode
days_held m = refl

-- the book after an accepted line has one day
book_held : (m : List ℕ) (b : Book) → decode m ≡ b → b.rules.days ≡ 1 → word m LAYOUT ≡ layout_number → stands_in true m ≡ standing b
book_held m b e d y =
    a-book m (rw (eq-eqb (word m DAYS) 1 (days_held m ∙ ap (λ (x : Book). x.rules.days) e ∙ d), eq-eqb (word m LAYOUT) layout_number y) refl)
    ∙ ap standing e

-- what a line is told
module _ (s : Stands) where
  pub unknown_down : (line : Line) → line ≡ unknown → said_to s line ≡ refuses 0
  unfolding said_to
  unknown_down line e = rw e

  days_down : (days floor ceiling : ℕ) → 1 < days → said_to s (opening days floor ceiling) ≡ refuses 0
  unfolding said_to opening_said
  days_down days floor ceiling h = rw (lt-ltb 1 days h)

  module _ (days floor ceiling : ℕ) (up : days ≤ 1) where
    opening_refuses : (opening_refusal (book_words 1) (rules_of days floor ceiling) ≡ 0 → ⊥)
        → said_to s (opening days floor ceiling) ≡ refuses (opening_refusal (book_words 1) (rules_of days floor ceiling))
    unfolding said_to opening_said
    opening_refuses ne = rw (le-ltb 1 days up) (rw (ne_eqb (opening_refusal (book_words 1) (rules_of days floor ceiling)) 0 ne))

    opening_accepts : opening_refusal (book_words 1) (rules_of days floor ceiling) ≡ 0
        → said_to s (opening days floor ceiling) ≡ accepts 0 [] (fresh (rules_of days floor ceiling))
    unfolding said_to opening_said
    opening_accepts e = rw (le-ltb 1 days up) (rw (eq-eqb (opening_refusal (book_words 1) (rules_of days floor ceiling)) 0 e))

early_down : (s : Stands) (line : Line) (c : Call) → s ≡ no_book → line ≡ calling c → said_to s line ≡ refuses 0
unfolding said_to call_said
early_down s line c n e = rw (n, e)

module _ (m : List ℕ) (day : one_day m ≡ true) (l : ℕ) (ns : List ℕ) where
  beyond_down : (eqb l 69 && leb 8 (length (decode m).units)) ≡ true → said_to (stands_in true m) (calling (call_of l ns)) ≡ refuses 0
  unfolding said_to call_said
  beyond_down h = rw (a-book m day) (rw (enrol_letter l ns, h))

  within_taken : (eqb l 69 && leb 8 (length (decode m).units)) ≡ false
      → said_to (stands_in true m) (calling (call_of l ns)) ≡ given (outcome (decode m) (call_of l ns))
  unfolding said_to call_said
  within_taken h = rw (a-book m day) (rw (enrol_letter l ns, h))

-- the answer's promise, for `no` and for `ok`
module _ (started : Bool) (m : List ℕ) (line : Line) (started' : Bool) (m' text : List ℕ) where
  answered-no : (r : ℕ) → said_to (stands_in started m) line ≡ refuses r → started' ≡ started → m' ≡ m → text ≡ printed_no r
      → Answered started m line started' m' text
  unfolding printed after
  answered-no r e s k t =
      record {
        prints = t ∙ sym (ap printed e);
        leaves = ap₂ stands_in s k ∙ sym (ap (after (stands_in started m)) e);
        refused = λ q h. (k, s);
      }

  answered-ok : (n : ℕ) (rs : List Row) (b : Book) → said_to (stands_in started m) line ≡ accepts n rs b → stands_in started' m' ≡ standing b
      → text ≡ printed_ok n rs → Answered started m line started' m' text
  unfolding printed after
  answered-ok n rs b e k t =
      record {
        prints = t ∙ sym (ap printed e);
        leaves = k ∙ sym (ap (after (stands_in started m)) e);
        refused = λ q h. let z : ◌≡◌ {A = ℕ} 0 1 = cc in absurd (omega arith);
      }

pub turned_down : (started : Bool) (m : List ℕ) (line : Line) (started' : Bool) (text : List ℕ)
    → said_to (stands_in started m) line ≡ refuses 0 → started' ≡ started → text ≡ printed_no 0 → Answered started m line started' m text
turned_down started m line started' text e s t = answered-no started m line started' m text 0 e s refl t

given-no : (o : Outcome) → (o.refusal ≡ 0 → ⊥) → given o ≡ refuses o.refusal
unfolding given
given-no o ne = rw (ne_eqb o.refusal 0 ne)

given-ok : (o : Outcome) → o.refusal ≡ 0 → given o ≡ accepts o.number o.rows o.book
unfolding given
given-ok o e = rw (eq-eqb o.refusal 0 e)

-- rows in memory print as the outcome's rows
ok_rows : (n k : ℕ) (rows ws : List ℕ) (rs : List Row) → k ≡ length rs → ws ≡ written rows rs → ok_text n k ws ≡ printed_ok n rs
unfolding ok_text printed_ok written
ok_rows n k rows ws rs e w = rw (w, e, rows_printed rs (drop (6 * length rs) rows))

-- memory of one day is laid out for its book
on_book : (m : List ℕ) (c : Call) → one_day m ≡ true → length m ≡ book_words 1 → outcome_on m c ≡ outcome (decode m) c
unfolding outcome_on
on_book m c d l =
    rw (le-leb (book_words (word m DAYS)) (length m) (omega (arith, one_days m d, l)), eq-eqb (word m LAYOUT) layout_number (one_layout m d)) refl

module _ (m rows : List ℕ) (c : Call) (a : Answer) (m' rows' : List ℕ) (f : Made m rows c a m' rows') where
  told_no : (r : Refusal) → a ≡ Err r → number_of r ≡ (outcome_on m c).refusal
  told_no r e = ap (λ (t : Told). t.refusal) (rw e at f.answer)

  told_nonzero : (r : Refusal) → a ≡ Err r → (outcome_on m c).refusal ≡ 0 → ⊥
  told_nonzero r e z = both_ways (sym (ap (λ (t : Told). t.done) (rw e at f.answer) ∙ eq-eqb (outcome_on m c).refusal 0 z))

  module _ (d : Done) (e : a ≡ Ok d) where
    told_ok : (outcome_on m c).refusal ≡ 0
    told_ok = sym (ap (λ (t : Told). t.refusal) (rw e at f.answer))

    told_number : d.number ≡ (outcome_on m c).number
    told_number = ap (λ (t : Told). t.number) (rw e at f.answer)

    told_count : d.count ≡ length (outcome_on m c).rows
    told_count = ap (λ (t : Told). t.count) (rw e at f.answer)

    room : length rows ≡ 4_464 → length rows' ≡ length rows → 6 * d.count ≤ length rows'
    room long same =
        let t = told_count in
        let w = rows_fit rows (outcome_on m c).rows rows' (f.handed told_ok) same in
        omega arith

  -- the rows that are counted stand in the lent memory
  call_counts : length rows ≡ 4_464 → length rows' ≡ length rows → IfOk a (λ d. 6 * d.count ≤ length rows')
  call_counts long same = go a refl
    where
      go : (x : Answer) → a ≡ x → IfOk x (λ d. 6 * d.count ≤ length rows')
      go (Ok d) e = room d e long same
      go (Err r) e = tt

  module _ (day : one_day m ≡ true) (long : length m ≡ book_words 1) (s : said_to (stands_in true m) (calling c) ≡ given (outcome (decode m) c)) where
    said_on : said_to (stands_in true m) (calling c) ≡ given (outcome_on m c)
    said_on = s ∙ ap given (sym (on_book m c day long))

    after_day : (outcome_on m c).book.rules.days ≡ 1
    after_day = ap (λ (o : Outcome). o.book.rules.days) (on_book m c day long) ∙ ap (λ (r : Rules). r.days) (rules_stay (decode m) c)
        ∙ sym (days_held m) ∙ one_days m day

    call_no : (r : Refusal) (text : List ℕ) → a ≡ Err r → text ≡ printed_no (number_of r) → Answered true m (calling c) true m' text
    call_no r text e t =
        answered-no true m (calling c) true m' text (outcome_on m c).refusal (said_on ∙ given-no (outcome_on m c) (told_nonzero r e)) refl
        (f.refused (told_nonzero r e)).0 (t ∙ ap printed_no (told_no r e))

    call_ok : (d : Done) (text : List ℕ) → a ≡ Ok d → text ≡ ok_text d.number d.count rows' → Answered true m (calling c) true m' text
    call_ok d text e t =
        let y = told_ok d e in
        let rs = (outcome_on m c).rows in
        answered-ok true m (calling c) true m' text (outcome_on m c).number rs (outcome_on m c).book (said_on ∙ given-ok (outcome_on m c) y)
        (book_held m' (outcome_on m c).book (f.accepted y) after_day (f.aside.layout ∙ one_layout m day))
        (t ∙ ok_rows d.number d.count rows rows' rs (told_count d e) (f.handed y) ∙ ap (λ (x : ℕ). printed_ok x rs) (told_number d e))

    call_answered : (text : List ℕ) → text ≡ answer_text a rows' → Answered true m (calling c) true m' text
    unfolding answer_text
    call_answered text t = go a refl
      where
        go : (x : Answer) → a ≡ x → Answered true m (calling c) true m' text
        go (Ok d) e = call_ok d text e (rw e at t)
        go (Err r) e = call_no r text e (rw e at t)

-- an accepted opening is of one day
one_day_lem : (days floor ceiling : ℕ) → days ≤ 1 → opening_refusal (book_words 1) (rules_of days floor ceiling) ≡ 0 → days ≡ 1
one_day_lem days floor ceiling up e = go (ℕ_discrete days 1)
  where
    go : Dec (days ≡ 1) → days ≡ 1
    go (yes d) = d
    go (no d) = let z = no_such_days (book_words 1) days floor ceiling (λ i. omega arith) in absurd (omega arith)

module _ (started : Bool) (m : List ℕ) (days floor ceiling : ℕ) (a : Answer) (m' : List ℕ) (f : Opened m (rules_of days floor ceiling) a m')
    (up : days ≤ 1) (long : length m ≡ book_words 1) where
  abbrev refusal : ℕ
  refusal = opening_refusal (book_words 1) (rules_of days floor ceiling)

  same_refusal : opening_refusal (length m) (rules_of days floor ceiling) ≡ refusal
  same_refusal = ap (λ (k : ℕ). opening_refusal k (rules_of days floor ceiling)) long

  opening_no : (r : Refusal) (text : List ℕ) → a ≡ Err r → text ≡ printed_no (number_of r) → Answered started m (opening days floor ceiling) started m' text
  opening_no r text e t =
      let q : number_of r ≡ refusal = ap (λ (t : Told). t.refusal) (rw e at f.answer) ∙ same_refusal in
      let done_if : refusal ≡ 0 → false ≡ true = λ z.
      ap (λ (t : Told). t.done) (rw e at f.answer) ∙ eq-eqb (opening_refusal (length m) (rules_of days floor ceiling)) 0 (same_refusal ∙ z) in
      let ne : refusal ≡ 0 → ⊥ = λ z. both_ways (sym (done_if z)) in
      answered-no started m (opening days floor ceiling) started m' text refusal
      (opening_refuses (stands_in started m) days floor ceiling up ne) refl (f.refused (λ z. ne (sym same_refusal ∙ z))) (t ∙ ap printed_no q)

  module _ (d : Done) (e : a ≡ Ok d) where
    opening_done : opening_refusal (length m) (rules_of days floor ceiling) ≡ 0
    opening_done = sym (ap (λ (t : Told). t.refusal) (rw e at f.answer))

    opening_count : d.count ≡ 0
    opening_count = ap (λ (t : Told). t.count) (rw e at f.answer)

    opening_ok : (ws text : List ℕ) → text ≡ ok_text d.number d.count ws → Answered started m (opening days floor ceiling) true m' text
    unfolding ok_text rows_text printed_ok printed_rows
    opening_ok ws text t =
        let z = opening_done in
        let y : refusal ≡ 0 = sym same_refusal ∙ z in
        let n₀ : d.number ≡ 0 = ap (λ (t : Told). t.number) (rw e at f.answer) in
        answered-ok started m (opening days floor ceiling) true m' text 0 [] (fresh (rules_of days floor ceiling))
        (opening_accepts (stands_in started m) days floor ceiling up y)
        (book_held m' (fresh (rules_of days floor ceiling)) (f.accepted z) (one_day_lem days floor ceiling up y) (f.laid z))
        (rw (opening_count, n₀) at t)

  opening_counts : (room : ℕ) → IfOk a (λ d. 6 * d.count ≤ room)
  opening_counts room = go a refl
    where
      go : (x : Answer) → a ≡ x → IfOk x (λ d. 6 * d.count ≤ room)
      go (Ok d) e = let k = opening_count d e in omega arith
      go (Err r) e = tt

  opening_answered : (ws : List ℕ) (started' : Bool) (text : List ℕ) → started' ≡ (started || is_ok a) → text ≡ answer_text a ws
      → Answered started m (opening days floor ceiling) started' m' text
  unfolding answer_text
  opening_answered ws started' text s t = go a refl
    where
      go : (x : Answer) → a ≡ x → Answered started m (opening days floor ceiling) started' m' text
      go (Ok d) e = rw (s, e, or-true started) (opening_ok d e ws text (rw e at t))
      go (Err r) e = rw (s, e, or-false started) (opening_no r text e (rw e at t))

-- the amounts behind the first three numbers
pub amounts_behind : (ns : List ℕ) → length ns ≡ 27 → take 24 (drop 3 ns) ≡ drop 3 ns
amounts_behind ns e = take_all 24 (drop 3 ns) (omega (arith, length-drop 3 ns))

-- what a line with a letter is answered
module _ (line : Line) (k : Letter) (ns : List ℕ) (p : line ≡ line_of (byte_of k) ns) (started : Bool) (m : List ℕ) where
  abbrev letter : ℕ
  letter = byte_of k

  abbrev opens : Line
  opens = opening (get_or ns 0 0) (get_or ns 1 0) (get_or ns 2 0)

  line_opens : letter ≡ 79 → line ≡ opens
  unfolding line_of
  line_opens e = p ∙ rw e refl

  line_calls : (letter ≡ 79 → ⊥) → line ≡ calling (call_of letter ns)
  unfolding line_of
  line_calls ne =
      let c : is_call letter ≡ true = rw (ne_eqb letter 79 ne) at (letter_begins k) in
      p ∙ rw (ne_eqb letter 79 ne, c) refl

  pub nothing_made : beyond letter ns started m ≡ true → said_to (stands_in started m) line ≡ refuses 0
  nothing_made h = go (ℕ_discrete letter 79)
    where
      called_down : (t : Bool) → (letter ≡ 79 → ⊥) → (started && one_day m) ≡ t
          → (not t || (eqb letter 69 && leb 8 (length (decode m).units))) ≡ true
          → said_to (stands_in started m) line ≡ refuses 0
      called_down false ne s h = early_down _ line (call_of letter ns) (no-book started m s) (line_calls ne)
      called_down true ne s h =
          let b = both_true started (one_day m) s in
          rw (line_calls ne, b.0) (beyond_down m b.1 letter ns h)

      go : Dec (letter ≡ 79) → said_to (stands_in started m) line ≡ refuses 0
      go (yes e) = rw (line_opens e) (days_down (stands_in started m) _ _ _ (ltb-true _ _ (rw e at h)))
      go (no ne) = called_down (started && one_day m) ne refl (rw (ne_eqb letter 79 ne) at h)

  module _ (rows : List ℕ) (a : Answer) (m' rows' : List ℕ) (f : MadeBy letter ns m rows a m' rows') (within : beyond letter ns started m ≡ false)
      (lent : length rows ≡ 4_464) (back : length rows' ≡ 4_464) (long : length m ≡ book_words 1) where
    few_days : letter ≡ 79 → get_or ns 0 0 ≤ 1
    few_days e = ltb-false _ _ (rw e at within)

    a_day : (letter ≡ 79 → ⊥) → ((started && one_day m) ≡ true) × ((eqb letter 69 && leb 8 (length (decode m).units)) ≡ false)
    a_day ne = go (started && one_day m) (eqb letter 69 && leb 8 (length (decode m).units)) (rw (ne_eqb letter 79 ne) at within)
      where
        go : (t b : Bool) → (not t || b) ≡ false → (t ≡ true) × (b ≡ false)
        go true b h = (refl, h)
        go false b h = both_ways h

    pub rows_within : IfOk a (λ d. 6 * d.count ≤ length rows')
    rows_within = go (ℕ_discrete letter 79)
      where
        go : Dec (letter ≡ 79) → IfOk a (λ d. 6 * d.count ≤ length rows')
        go (yes e) = opening_counts started m _ _ _ a m' (f.opens e) (few_days e) long (length rows')
        go (no ne) = call_counts m rows (call_of letter ns) a m' rows' (f.calls ne) lent (omega arith)

    pub line_answered : (started' : Bool) (text : List ℕ) → started' ≡ (started || is_ok a) → text ≡ answer_text a rows'
        → Answered started m line started' m' text
    line_answered started' text s t = go (ℕ_discrete letter 79)
      where
        go : Dec (letter ≡ 79) → Answered started m line started' m' text
        go (yes e) = rw (line_opens e) (opening_answered started m _ _ _ a m' (f.opens e) (few_days e) long rows' started' text s t)
        go (no ne) =
            let d = a_day ne in
            let b = both_true started (one_day m) d.0 in
            let w = within_taken m b.1 letter ns d.1 in
            rw (line_calls ne, s, b.0) (call_answered m rows (call_of letter ns) a m' rows' (f.calls ne) b.1 long w text t)
