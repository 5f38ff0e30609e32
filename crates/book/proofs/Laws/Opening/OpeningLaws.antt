-- Laws of opening, by cases, and of the head of a fresh book.
use Rattle.std.proofs.Common.{◌≡◌, ℕ, ◌*◌, ◌<◌, ◌≤◌, true, false, ◌&&◌, List, [], ◌∷◌, length, drop, set, refl}
use Rattle.std.proofs.Common.{sym, ap, ◌∙◌, arith, drop-drop, drop-set-lt, ltb-false, le-ltb, lt-ltb, ne_eqb}
use borrow.Author.Tests.{not-false}
use Rattle.measures.specs.Lists.{table_from}
use Rattle.measures.proofs.RangeLaws.{In, inside, outside}
use Rattle.limits.specs.Units.{most_days, days_in}
use Rattle.measures.proofs.ListLaws.{and_left}
use Rattle.matching.specs.Memory.{orders_in}
use Rattle.std.proofs.Common.{Ok, Err}
use Rattle.measures.specs.declared.refusals.Refusal.{Refusal}
use Rattle.measures.specs.Refused.{number_of}
use Rattle.measures.proofs.RefusedLaws.{number_some}
use Rattle.book.specs.Book.{rules_of}
use Rattle.book.specs.Sound.{prices_in}
use Rattle.book.specs.Refusals.{first_refusal, bad_opening}
use Rattle.book.proofs.Laws.Answer.RefusalLaws.{none_applies}
use Rattle.book.specs.Opening.{words_for, fresh, too_short, opening_refusal}
use Rattle.book.specs.Layout.{
  DAYS,
  FLOOR,
  CEILING,
  PHASE,
  GIVEN,
  UNITS,
  OFFERS,
  ORDERS,
  LAYOUT,
  layout_number,
  figures_start,
  day_words,
  book_words,
  word,
  decode,
}
use Rattle.book.specs.Contract.{Opened}

-- the published length by cases
pub words_none : (days : ℕ) → days_in days ≡ false → 0 ≡ words_for days
unfolding words_for
words_none days n = rw n refl

pub words_some : (days : ℕ) → days_in days ≡ true → book_words days ≡ words_for days
unfolding words_for
words_some days h = rw h refl

-- the refusal of an opening by cases
module _ (words days floor ceiling : ℕ) where
  pub no_such_days : (In 1 most_days days → ⊥) → opening_refusal words (rules_of days floor ceiling) ≡ 2
  unfolding opening_refusal first_refusal
  no_such_days n = rw (outside 1 most_days days n)

  pub too_short_lem : In 1 most_days days → words < book_words days → opening_refusal words (rules_of days floor ceiling) ≡ 1
  unfolding opening_refusal first_refusal
  too_short_lem h l = rw (inside 1 most_days days h, lt-ltb words (book_words days) l)

  pub no_such_prices : In 1 most_days days → book_words days ≤ words → prices_in floor ceiling ≡ false → opening_refusal words (rules_of days floor ceiling) ≡ 2
  unfolding opening_refusal first_refusal
  no_such_prices h l p = rw (inside 1 most_days days h, le-ltb words (book_words days) l, p) refl

  pub opens : In 1 most_days days → book_words days ≤ words → prices_in floor ceiling ≡ true → opening_refusal words (rules_of days floor ceiling) ≡ 0
  unfolding opening_refusal first_refusal
  opens h l p = rw (inside 1 most_days days h, le-ltb words (book_words days) l, p) refl

pub opened-refused : (m : List ℕ) (days floor ceiling : ℕ) (r : Refusal) → opening_refusal (length m) (rules_of days floor ceiling) ≡ number_of r
    → Opened m (rules_of days floor ceiling) (Err r) m
opened-refused m days floor ceiling r e =
    let n = number_some r in record {
      answer = rw (e, ne_eqb (number_of r) 0 n) refl;
      refused = λ h. refl;
      accepted = λ h. absurd (n (sym e ∙ h));
      laid = λ h. absurd (n (sym e ∙ h));
      past = refl;
      long = refl;
    }

-- nine words at the front
abbrev pub head_written : List ℕ → ℕ → ℕ → ℕ → List ℕ
head_written m a b c =
    set (set (set (set (set (set (set (set (set m DAYS a) FLOOR b) CEILING c) PHASE 0) GIVEN 0) UNITS 0) OFFERS 0) ORDERS 0) LAYOUT layout_number

pub headed : (m : List ℕ) (a b c : ℕ) → figures_start ≤ length m → (decode (head_written m a b c) ≡ fresh (rules_of a b c)) × (word (head_written m a b c) LAYOUT
    ≡ layout_number)
unfolding decode table_from orders_in
headed (x0 ∷ x1 ∷ x2 ∷ x3 ∷ x4 ∷ x5 ∷ x6 ∷ x7 ∷ x8 ∷ m) a b c h = (refl, refl)
headed [] a b c h = absurd (omega arith)
headed (x0 ∷ []) a b c h = absurd (omega arith)
headed (x0 ∷ x1 ∷ []) a b c h = absurd (omega arith)
headed (x0 ∷ x1 ∷ x2 ∷ []) a b c h = absurd (omega arith)
headed (x0 ∷ x1 ∷ x2 ∷ x3 ∷ []) a b c h = absurd (omega arith)
headed (x0 ∷ x1 ∷ x2 ∷ x3 ∷ x4 ∷ []) a b c h = absurd (omega arith)
headed (x0 ∷ x1 ∷ x2 ∷ x3 ∷ x4 ∷ x5 ∷ []) a b c h = absurd (omega arith)
headed (x0 ∷ x1 ∷ x2 ∷ x3 ∷ x4 ∷ x5 ∷ x6 ∷ []) a b c h = absurd (omega arith)
headed (x0 ∷ x1 ∷ x2 ∷ x3 ∷ x4 ∷ x5 ∷ x6 ∷ x7 ∷ []) a b c h = absurd (omega arith)

-- a store before place n does not touch what stands from n on
past : (n i v : ℕ) (l k : List ℕ) → i < n → drop n l ≡ drop n k → drop n (set l i v) ≡ drop n k
past n i v l k h e = drop-set-lt n l i v h ∙ e

pub head_past : (n : ℕ) (m : List ℕ) (a b c : ℕ) → LAYOUT < n → drop n (head_written m a b c) ≡ drop n m
head_past n m a b c h =
    let l0 = set m DAYS a in
    let l1 = set l0 FLOOR b in
    let l2 = set l1 CEILING c in
    let l3 = set l2 PHASE 0 in
    let l4 = set l3 GIVEN 0 in
    let l5 = set l4 UNITS 0 in
    let l6 = set l5 OFFERS 0 in
    let l7 = set l6 ORDERS 0 in
    past n LAYOUT layout_number l7 m h (past n ORDERS 0 l6 m (omega arith) (past n OFFERS 0 l5 m (omega arith) (past n UNITS 0 l4 m (omega arith)
    (past n GIVEN 0 l3 m (omega arith) (past n PHASE 0 l2 m (omega arith) (past n CEILING c l1 m (omega arith) (past n FLOOR b l0 m (omega arith)
    (past n DAYS a m m (omega arith) refl))))))))

-- what is kept from the figures on is kept behind the whole book
past_book : (days : ℕ) (m m' : List ℕ) → drop figures_start m' ≡ drop figures_start m → drop (book_words days) m' ≡ drop (book_words days) m
past_book days m m' e =
    sym (drop-drop (day_words * days) figures_start m') ∙ ap (drop (day_words * days)) e ∙ drop-drop (day_words * days) figures_start m

pub opened-fresh : (m : List ℕ) (days floor ceiling : ℕ) (m' : List ℕ) → opening_refusal (length m) (rules_of days floor ceiling) ≡ 0
    → decode m' ≡ fresh (rules_of days floor ceiling) → word m' LAYOUT ≡ layout_number → drop figures_start m' ≡ drop figures_start m
    → length m' ≡ length m → Opened m (rules_of days floor ceiling) (Ok (record { number = 0; count = 0 })) m'
opened-fresh m days floor ceiling m' e d y p l = record {
  answer = rw e refl;
  refused = λ h. absurd (h e);
  accepted = λ h. d;
  laid = λ h. y;
  past = past_book days m m' p;
  long = l;
}

-- an accepted opening was lent the words of its days
pub opening_long : (words days floor ceiling : ℕ) → opening_refusal words (rules_of days floor ceiling) ≡ 0 → book_words days ≤ words
unfolding opening_refusal
opening_long words days floor ceiling e =
    let t = none_applies (too_short words (rules_of days floor ceiling) ∷ bad_opening (rules_of days floor ceiling) ∷ []) (omega arith, (omega arith, tt)) e in
    let p : (days_in days && prices_in floor ceiling) ≡ true = not-false _ t.1.0 in
    let d : days_in days ≡ true = and_left (days_in days) (prices_in floor ceiling) p in
    ltb-false words (book_words days) (rw d at t.0)
