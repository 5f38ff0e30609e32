-- The checks of an order on a book in memory: names, day and tables, limits.
use Rattle.std.proofs.Common.{◌≡◌, ℕ, zero, suc, ◌+◌, ◌-◌, ◌*◌, ◌<◌, ◌≤◌, Bool, true, false}
use Rattle.std.proofs.Common.{cond, not, ◌&&◌, ◌||◌, eqb, ltb, leb, List, [], ◌∷◌, ◌++◌, length, get_or, refl}
use Rattle.std.proofs.Common.{sym, ap, ◌∙◌, arith, le-ltb, lt-ltb, eq-eqb, ne_eqb, le-leb}
use borrow.Author.Tests.{lt-leb}
use mir.Val.{bool_byte}
use Rattle.measures.specs.Ranges.{most_energy}
use Rattle.measures.specs.Lists.{keep, sum_of, sum}
use Rattle.measures.proofs.SelectLaws.{byte_one}
use Rattle.measures.proofs.RangeLaws.{In, inside}
use Rattle.measures.proofs.ListLaws.{cond-true, cond-false, or_left, or_right, sum_of-table, sum_ext, sum_none, sum_more, or_none}
use Rattle.matching.specs.Orders.{Order as OpenOrder, sells}
use Rattle.matching.proofs.Laws.Lists.EachLaws.{keep-keep}
use Rattle.matching.specs.Memory.{order_at, orders_in}
use Rattle.book.specs.Book.{Figures, Book, figures_of}
use Rattle.book.specs.Refusals.{
  Check,
  first_refusal,
  orders_of_unit,
  unknown_unit,
  few_rows,
  bad_price,
  bad_quantity,
  bad_period,
  bad_direction,
  other_direction,
  two_open,
  orders_full,
  numbers_used,
  marked_against,
}
use Rattle.book.specs.Layout.{
  DAYS,
  FLOOR,
  CEILING,
  PHASE,
  GIVEN,
  UNITS,
  ORDERS,
  order_place,
  UNIT,
  DIRECTION,
  PERIOD,
  word,
  figures_at,
  orders_part,
  decode,
}
use Rattle.book.specs.Order.{order_checks, new_order}
use Rattle.book.specs.Inner.Ordering.{name_checks, day_checks, order_fit_checks, NameChecked, of_unit_at, against_at}
use Rattle.book.proofs.Laws.Memory.RangeFacts.{units_held, order_word, given_held}
use Rattle.book.proofs.Laws.Check.NumberLaws.{orders_from}
use Rattle.book.proofs.Laws.Answer.RefusalLaws.{Numbered}
use Rattle.book.proofs.Laws.Curve.CurveLaws.{figures_at_lem}

-- a check that applies is the first, one that does not gives way to the next
pub applies_first : (c : Check) (cs : List Check) → c.applies ≡ true → c.number ≡ first_refusal (c ∷ cs)
unfolding first_refusal
applies_first c cs e = sym (cond-true c.applies c.number (first_refusal cs) e refl)

pub passes_first : (c : Check) (cs : List Check) (r : ℕ) → c.applies ≡ false → r ≡ first_refusal cs → r ≡ first_refusal (c ∷ cs)
unfolding first_refusal
passes_first c cs r e h = h ∙ sym (cond-false c.applies c.number (first_refusal cs) e refl)

none_first : 0 ≡ first_refusal []
unfolding first_refusal
none_first = refl

-- the first of a part is the first of the whole
pub first_part : (cs ds : List Check) (r : ℕ) → (r ≡ 0 → ⊥) → r ≡ first_refusal cs → r ≡ first_refusal (cs ++ ds)
unfolding first_refusal
first_part [] ds r n h = absurd (n h)
first_part (c ∷ cs) ds r n h = go c.applies refl (λ e. first_part cs ds r n e)
  where
    go : (b : Bool) → c.applies ≡ b → (r ≡ first_refusal cs → r ≡ first_refusal (cs ++ ds)) → r ≡ first_refusal (c ∷ (cs ++ ds))
    go true e ih = h ∙ cond-true c.applies c.number (first_refusal cs) e refl ∙ applies_first c (cs ++ ds) e
    go false e ih = passes_first c (cs ++ ds) r e (ih (h ∙ cond-false c.applies c.number (first_refusal cs) e refl))

-- where a part has none, the rest decides
pub next_part : (cs ds : List Check) (r : ℕ) → Numbered cs → 0 ≡ first_refusal cs → r ≡ first_refusal ds → r ≡ first_refusal (cs ++ ds)
unfolding first_refusal
next_part [] ds r n z h = h
next_part (c ∷ cs) ds r n z h = go c.applies refl (λ e. next_part cs ds r n.1 e h)
  where
    go : (b : Bool) → c.applies ≡ b → (0 ≡ first_refusal cs → r ≡ first_refusal (cs ++ ds)) → r ≡ first_refusal (c ∷ (cs ++ ds))
    go true e ih = let w : 0 ≡ c.number = z ∙ cond-true c.applies c.number (first_refusal cs) e refl in let k = n.0 in absurd (omega arith)
    go false e ih = passes_first c (cs ++ ds) r e (ih (z ∙ cond-false c.applies c.number (first_refusal cs) e refl))

-- the first part, by cases
module _ (m : List ℕ) (u d p price q lent : ℕ) where
  unknown_no : In 1 (word m UNITS) u → (unknown_unit (decode m) u).applies ≡ false
  unknown_no h = rw (units_held m, inside 1 (word m UNITS) u h) refl

  price-no : In (word m FLOOR) (word m CEILING) price → (bad_price (decode m) price).applies ≡ false
  unfolding decode
  price-no h = rw (inside (word m FLOOR) (word m CEILING) price h) refl

  quantity_no : In 1 most_energy q → (bad_quantity q).applies ≡ false
  quantity_no h = rw (inside 1 most_energy q h) refl

  period_no : p < 24 * word m DAYS → (bad_period (decode m) p).applies ≡ false
  unfolding decode
  period_no h = rw (lt-ltb p (24 * word m DAYS) h) refl

  refused : (r : ℕ) → (r ≡ 0 → ⊥) → r ≡ first_refusal (name_checks (decode m) u d p price q lent) → NameChecked m u d p price q lent r
  refused r n e = record { answer = e; named = λ z. absurd (n z) }

  module _ (h : In 1 (word m UNITS) u) (l : 4464 ≤ lent) (w : In (word m FLOOR) (word m CEILING) price) (e : In 1 most_energy q) (t : p < 24 * word m DAYS) where
    rest_names : (r : ℕ) → r ≡ first_refusal (bad_direction d ∷ []) → r ≡ first_refusal (name_checks (decode m) u d p price q lent)
    unfolding name_checks
    rest_names r f =
        passes_first (unknown_unit (decode m) u) _ r (unknown_no h)
        (passes_first (few_rows lent) _ r (le-ltb lent 4464 l)
        (passes_first (bad_price (decode m) price) _ r (price-no w)
        (passes_first (bad_quantity q) _ r (quantity_no e) (passes_first (bad_period (decode m) p) _ r (period_no t) f))))

    pub names_pass : d ≤ 1 → NameChecked m u d p price q lent 0
    unfolding first_refusal
    names_pass n =
        record {
          answer = rest_names 0 (passes_first (bad_direction d) [] 0 (rw (le-leb d 1 n) refl) refl);
          named = λ z. record { from = h.0; upto = h.1; direction = n; period = t; quantity = e.1 };
        }

-- how many are kept, as a sum
module _ {A : Type 0} where
  kept_length : (f : A → Bool) (l : List A) → length (keep f l) ≡ sum_of (λ x. cond (f x) 1 0) l
  kept_length f [] = refl
  kept_length f (x ∷ xs) = go (f x) (kept_length f xs)
    where
      go : (b : Bool) → length (keep f xs) ≡ sum_of (λ y. cond (f y) 1 0) xs → length (cond b (x ∷ keep f xs) (keep f xs))
          ≡ cond b 1 0 + sum_of (λ y. cond (f y) 1 0) xs
      go true h = omega arith
      go false h = omega arith

-- a unit's orders of a period, by places
module _ (m : List ℕ) (u d p : ℕ) (few : word m ORDERS ≤ 256) where
  here : (k i : ℕ) → k < word m ORDERS → i < 6 → get_or (orders_part m) (6 * k + i) 0 ≡ word m (order_place k + i)
  here k i h l = order_word m (6 * k + i) (omega arith) ∙ ap (word m) (omega arith)

  abbrev of_unit : OpenOrder → Bool
  of_unit o = eqb o.unit u && eqb o.period p

  abbrev goes_against : OpenOrder → Bool
  goes_against o = not (eqb o.direction d)

  pub stand_count : length (orders_of_unit (decode m) u p) ≡ sum (word m ORDERS) (of_unit_at m u p)
  unfolding of_unit_at orders_in
  stand_count =
      kept_length of_unit (decode m).orders
      ∙ ap (sum_of (λ (o : OpenOrder). cond (of_unit o) 1 0)) (orders_from m)
      ∙ sum_of-table (λ (o : OpenOrder). cond (of_unit o) 1 0) (word m ORDERS) (order_at (orders_part m))
      ∙ sum_ext (word m ORDERS) (λ k. cond (of_unit (order_at (orders_part m) k)) 1 0) (of_unit_at m u p)
      (λ k h. rw (here k 1 h (omega arith), here k 3 h (omega arith)) refl)

  pub against_count : length (keep goes_against (orders_of_unit (decode m) u p)) ≡ sum (word m ORDERS) (against_at m u d p)
  unfolding against_at orders_in
  against_count =
      ap (λ (l : List OpenOrder). length l) (keep-keep goes_against of_unit (decode m).orders)
      ∙ kept_length (λ (o : OpenOrder). of_unit o && goes_against o) (decode m).orders
      ∙ ap (sum_of (λ (o : OpenOrder). cond (of_unit o && goes_against o) 1 0)) (orders_from m)
      ∙ sum_of-table (λ (o : OpenOrder). cond (of_unit o && goes_against o) 1 0) (word m ORDERS) (order_at (orders_part m))
      ∙ sum_ext (word m ORDERS) (λ k. cond (of_unit (order_at (orders_part m) k) && goes_against (order_at (orders_part m) k)) 1 0) (against_at m u d p)
      (λ k h. rw (here k 1 h (omega arith), here k 2 h (omega arith), here k 3 h (omega arith)) refl)

-- one place more, and all of them
pub one_at_most : (b : Bool) → bool_byte b ≤ 1
one_at_most true = omega arith
one_at_most false = omega arith

pub counting_more : (f : ℕ → ℕ) (k s r : ℕ) (b : Bool) → s ≡ sum k f → r ≡ bool_byte b → cond b 1 0 ≡ f k → s + r ≡ sum (k + 1) f
counting_more f k s r b e g h = rw (e, g ∙ byte_one b ∙ h) (sym (sum_more k f))

pub counting_end : (f : ℕ → ℕ) (k n s : ℕ) → s ≡ sum k f → k ≡ n → s ≡ sum n f
counting_end f k n s h e = h ∙ ap (λ (x : ℕ). sum x f) e

-- whether any place counts, by places
pub any_none : (f : ℕ → ℕ) → false ≡ ltb 0 (sum 0 f)
any_none f = rw (sum_none f) refl

pub any_more : (f : ℕ → ℕ) (k : ℕ) (a b : Bool) → a ≡ ltb 0 (sum k f) → cond b 1 0 ≡ f k → (a || b) ≡ ltb 0 (sum (k + 1) f)
any_more f k a b e h = rw (e, sum_more k f, ← h) (go b)
  where
    go : (t : Bool) → (ltb 0 (sum k f) || t) ≡ ltb 0 (sum k f + cond t 1 0)
    go true = or_right (ltb 0 (sum k f)) true refl ∙ sym (lt-ltb 0 (sum k f + 1) (omega arith))
    go false = let n : sum k f ≡ sum k f + 0 = omega arith in or_none (ltb 0 (sum k f)) ∙ ap (λ (x : ℕ). ltb 0 x) n

pub any_end : (f : ℕ → ℕ) (k n : ℕ) (a : Bool) → a ≡ ltb 0 (sum k f) → k ≡ n → a ≡ ltb 0 (sum n f)
any_end f k n a h e = h ∙ ap (λ (x : ℕ). ltb 0 (sum x f)) e

-- the order at one place
module _ (m : List ℕ) (u d p k : ℕ) where
  pub unit_other : (word m (order_place k + UNIT) ≡ u → ⊥) → cond (eqb (word m (order_place k + UNIT)) u) 1 0 ≡ of_unit_at m u p k
  unfolding of_unit_at
  unit_other n = rw (ne_eqb (word m (order_place k + UNIT)) u n) refl

  pub unit_own : word m (order_place k + UNIT) ≡ u → cond (eqb (word m (order_place k + PERIOD)) p) 1 0 ≡ of_unit_at m u p k
  unfolding of_unit_at
  unit_own e = rw (eq-eqb (word m (order_place k + UNIT)) u e) refl

  pub against_same : word m (order_place k + DIRECTION) ≡ d → cond (not (eqb (word m (order_place k + DIRECTION)) d)) 1 0 ≡ against_at m u d p k
  unfolding against_at
  against_same e = rw (eq-eqb (word m (order_place k + DIRECTION)) d e) (go (eqb (word m (order_place k + UNIT)) u && eqb (word m (order_place k + PERIOD)) p))
    where
      go : (b : Bool) → ◌≡◌ {A = ℕ} 0 (cond (b && false) 1 0)
      go true = refl
      go false = refl

  pub against_other : (r : ℕ) → (word m (order_place k + DIRECTION) ≡ d → ⊥) → r ≡ of_unit_at m u p k → r ≡ against_at m u d p k
  unfolding against_at of_unit_at
  against_other r n e = e ∙ go (eqb (word m (order_place k + UNIT)) u && eqb (word m (order_place k + PERIOD)) p)
    where
      go : (b : Bool) → ◌≡◌ {A = ℕ} (cond b 1 0) (cond (b && not (eqb (word m (order_place k + DIRECTION)) d)) 1 0)
      go true = rw (ne_eqb (word m (order_place k + DIRECTION)) d n) refl
      go false = refl

-- today's mark against the order's direction
pub mark_both : (d mark : ℕ) → eqb mark 3 ≡ true → true ≡ marked_against d mark
mark_both d mark e = sym (or_right (cond (sells d) (eqb mark 2) (eqb mark 1)) (eqb mark 3) e)

-- no mark of both
pub mark_one : (d mark : ℕ) → d ≤ 1 → eqb mark 3 ≡ false → eqb mark (2 - d) ≡ marked_against d mark
mark_one zero mark h n = rw n (sym (or_none (eqb mark 2)))
mark_one (suc zero) mark h n = rw n (sym (or_none (eqb mark 1)))
mark_one (suc (suc d)) mark h n = absurd (omega arith)

-- the second part, by cases
module _ (m : List ℕ) (u d p price q : ℕ) (few : word m ORDERS ≤ 256) (hu : In 1 (word m UNITS) u) (hp : p < 24 * word m DAYS) where
  mark_held : (f : Figures) → f ≡ figures_at m (u - 1) p → (figures_of (decode m) u p).mark ≡ f.mark
  mark_held f e = ap (λ (g : Figures). g.mark) (figures_at_lem m u p hu hp ∙ sym e)

  against_is : (a : Bool) → a ≡ ltb 0 (sum (word m ORDERS) (against_at m u d p))
      → ltb 0 (length (keep (λ (o : OpenOrder). not (eqb o.direction d)) (orders_of_unit (decode m) u p))) ≡ a
  against_is a e = ap (λ (n : ℕ). ltb 0 n) (against_count m u d p few) ∙ sym e

  pub days_against : (a : Bool) → a ≡ ltb 0 (sum (word m ORDERS) (against_at m u d p)) → a ≡ true
      → 15 ≡ first_refusal (day_checks (decode m) u d p price q)
  unfolding day_checks
  days_against a e h =
      applies_first (other_direction (decode m) u d p) _
      (or_left (ltb 0 (length (keep (λ (o : OpenOrder). not (eqb o.direction d)) (orders_of_unit (decode m) u p))))
      (marked_against d (figures_of (decode m) u p).mark) (against_is a e ∙ h))

  pub days_mark : (f : Figures) → f ≡ figures_at m (u - 1) p → (r : Bool) → r ≡ marked_against d f.mark → r ≡ true
      → 15 ≡ first_refusal (day_checks (decode m) u d p price q)
  unfolding day_checks
  days_mark f ef r e t =
      applies_first (other_direction (decode m) u d p) _
      (or_right (ltb 0 (length (keep (λ (o : OpenOrder). not (eqb o.direction d)) (orders_of_unit (decode m) u p))))
      (marked_against d (figures_of (decode m) u p).mark)
      (ap (marked_against d) (mark_held f ef) ∙ sym e ∙ t))

  module _ (a : Bool) (ea : a ≡ ltb 0 (sum (word m ORDERS) (against_at m u d p))) (na : a ≡ false) (f : Figures)
      (ef : f ≡ figures_at m (u - 1) p) (w : Bool) (ew : w ≡ marked_against d f.mark) (nw : w ≡ false) where
    other_no : (other_direction (decode m) u d p).applies ≡ false
    other_no = rw (against_is a ea ∙ na) (ap (marked_against d) (mark_held f ef) ∙ sym ew ∙ nw)

    module _ (s : ℕ) (es : s ≡ sum (word m ORDERS) (of_unit_at m u p)) (t : Bool) (et : t ≡ (eqb (word m PHASE) 0 && leb 2 s)) where
      two_is : (two_open (decode m) u p).applies ≡ t
      unfolding decode
      two_is = ap (λ (x : ℕ). eqb (word m PHASE) 0 && leb 2 x) (stand_count m u d p few ∙ sym es) ∙ sym et

      pub days_two : t ≡ true → 16 ≡ first_refusal (day_checks (decode m) u d p price q)
      unfolding day_checks
      days_two h =
          passes_first (other_direction (decode m) u d p) _ 16 other_no (applies_first (two_open (decode m) u p) _ (two_is ∙ h))

      module _ (nt : t ≡ false) where
        two_no : (two_open (decode m) u p).applies ≡ false
        two_no = two_is ∙ nt

        abbrev full : Check
        full = orders_full (decode m) (new_order (decode m) u d p price q)

        pub days_full : full.applies ≡ true → 17 ≡ first_refusal (day_checks (decode m) u d p price q)
        unfolding day_checks
        days_full h =
            passes_first (other_direction (decode m) u d p) _ 17 other_no
            (passes_first (two_open (decode m) u p) _ 17 two_no (applies_first full _ h))

        module _ (full-no : full.applies ≡ false) where
          pub days_used : 65535 ≤ word m GIVEN → 18 ≡ first_refusal (day_checks (decode m) u d p price q)
          unfolding day_checks
          days_used h =
              passes_first (other_direction (decode m) u d p) _ 18 other_no
              (passes_first (two_open (decode m) u p) _ 18 two_no
              (passes_first full _ 18 full-no
              (applies_first (numbers_used (decode m)) [] (le-leb 65535 (decode m).given (rw (given_held m) h)))))

          pub days_pass : word m GIVEN < 65535 → 0 ≡ first_refusal (day_checks (decode m) u d p price q)
          unfolding day_checks
          days_pass h =
              passes_first (other_direction (decode m) u d p) _ 0 other_no
              (passes_first (two_open (decode m) u p) _ 0 two_no
              (passes_first full _ 0 full-no
              (passes_first (numbers_used (decode m)) [] 0 (lt-leb 65535 (decode m).given (rw (given_held m) h)) none_first)))

-- the parts are the whole
module _ (b : Book) (u d p price q lent : ℕ) where
  pub order_names_first : (r : ℕ) → (r ≡ 0 → ⊥) → r ≡ first_refusal (name_checks b u d p price q lent)
      → r ≡ first_refusal (order_checks b u d p price q lent)
  unfolding name_checks day_checks order_fit_checks
  order_names_first r n e = first_part (name_checks b u d p price q lent) (day_checks b u d p price q ++ order_fit_checks b u d p q) r n e

  pub order_days_first : (r : ℕ) → 0 ≡ first_refusal (name_checks b u d p price q lent) → (r ≡ 0 → ⊥)
      → r ≡ first_refusal (day_checks b u d p price q) → r ≡ first_refusal (order_checks b u d p price q lent)
  unfolding name_checks day_checks order_fit_checks
  order_days_first r z n e =
      next_part (name_checks b u d p price q lent) (day_checks b u d p price q ++ order_fit_checks b u d p q) r
      (omega arith, (omega arith, (omega arith, (omega arith, (omega arith, (omega arith, tt)))))) z
      (first_part (day_checks b u d p price q) (order_fit_checks b u d p q) r n e)

  pub order_fit_first : 0 ≡ first_refusal (name_checks b u d p price q lent) → 0 ≡ first_refusal (day_checks b u d p price q)
      → first_refusal (order_fit_checks b u d p q) ≡ first_refusal (order_checks b u d p price q lent)
  unfolding name_checks day_checks order_fit_checks
  order_fit_first z y =
      next_part (name_checks b u d p price q lent) (day_checks b u d p price q ++ order_fit_checks b u d p q) _
      (omega arith, (omega arith, (omega arith, (omega arith, (omega arith, (omega arith, tt)))))) z
      (next_part (day_checks b u d p price q) (order_fit_checks b u d p q) _
      (omega arith, (omega arith, (omega arith, (omega arith, tt)))) y refl)
