-- Demand 3 of the engine itself: what each contract promises keeps tally and memory in step.
use Prim.Native.Nat.{ℕ, zero, suc, ◌+◌, ◌*◌, ◌≤◌, ◌<◌}
use mathlib.Core.Path.{◌≡◌, refl, sym, ap, ◌∙◌}
use mathlib.Core.Bool.{Bool, true, false, cond}
use mathlib.Core.List.{List, ◌++◌}
use native.Mathlib.Omega.{arith}
use native.Mathlib.Decide.{ℕ_discrete}
use borrow.Author.Tests.{leb-true, le-leb, eqb-true, eq-eqb, ne_eqb}
use lib.ListN.{length, get_or, drop, get_or-append}
use lib.Dec.{eqb, leb}
use Rattle.measures.proofs.RangeLaws.{In}
use Rattle.measures.proofs.ListLaws.{cond-true, cond-false, and_true, and_left, and_right}
use Rattle.matching.specs.Orders.{Row}
use Rattle.matching.specs.Memory.{written, rows_in}
use Rattle.book.specs.Book.{Book}
use Rattle.book.specs.Sound.{sound}
use Rattle.book.specs.Refusals.{Outcome, first_refusal}
use Rattle.book.specs.Opening.{fresh, opening_refusal}
use Rattle.book.specs.Curve.{Drawn, curve, curve_refusal, curve_checks, points, points_from}
use Rattle.book.specs.Layout.{DAYS, UNITS, LAYOUT, layout_number, book_words, word, decode, laid_out}
use Rattle.book.specs.Calls.{Call, call_enrol, call_offer, call_take, call_withdraw, call_order, call_cancel, call_clear, call_close, outcome, answered}
use Rattle.book.specs.Calls.{Heard}
use Rattle.book.specs.Contract.{Answer, Told, told_by, sound_in, outcome_on, Made, curve_on, Curved}
use Rattle.demands.specs.Tally.{Tally, opened, tallied, accounted}
use Rattle.demands.specs.Demand3.{Demand3, is_member, net_of}
use Rattle.demands.specs.Trace.{Trace, none, next, heard, tally_of, Claimed, OverEveryTrace}
use Rattle.book.proofs.Laws.Rows.SmallLaws.{rows_written}
use Rattle.book.proofs.Laws.Memory.RangeFacts.{units_held, days_held}
use Rattle.book.proofs.Laws.Answer.MadeLaws.{sound-book, sound-laid, chain_sound}
use Rattle.book.proofs.Laws.Curve.CurveLaws.{drawn}
use Rattle.book.proofs.Laws.Opening.OpeningLaws.{opening_long}
use Rattle.demands.proofs.Laws.Tally.AgreeLaws.{agree_start, enrolled_in}
use Rattle.demands.proofs.Laws.Theorem.DemandLaws.{demand_from}
use Rattle.demands.proofs.Laws.Sound.KeepLaws.{fresh-sound}
use Rattle.demands.proofs.Laws.Theorem.ListsLaws.{InStep, in_step_after}

-- the tally's days stay
tallied_days : (t : Tally) (c : Call) (a : Heard) → (tallied t c a).rules.days ≡ t.rules.days
unfolding accounted
tallied_days t c a = go (eqb a.refusal 0) c
  where
    go : (b : Bool) (c : Call) → (cond b (accounted t c a) t).rules.days ≡ t.rules.days
    go false c = refl
    go true (call_enrol kind capacity asset) = refl
    go true (call_offer unit partner price amounts) = refl
    go true (call_take unit number quantity lent) = refl
    go true (call_withdraw unit number) = refl
    go true (call_order unit direction period price quantity lent) = refl
    go true (call_cancel unit number) = refl
    go true (call_clear lent) = refl
    go true call_close = refl

-- memory that is laid out for a book, and holds one in step with the tally
pub record Holding (t : Tally) (m : List ℕ) : Type 0 where
  pub laid : laid_out m ≡ true
  pub step : InStep t (decode m)

laid_by : (m : List ℕ) → book_words (word m DAYS) ≤ length m → word m LAYOUT ≡ layout_number → laid_out m ≡ true
laid_by m l y = and_true (leb (book_words (word m DAYS)) (length m)) (eqb (word m LAYOUT) layout_number) (le-leb _ _ l) (eq-eqb _ _ y)

on_book : (m : List ℕ) (c : Call) → laid_out m ≡ true → outcome_on m c ≡ outcome (decode m) c
unfolding outcome_on
on_book m c e = cond-true (laid_out m) (outcome (decode m) c) _ e refl

-- what was heard of a call is what its outcome answers
module _ (m rows : List ℕ) (c : Call) (a : Answer) (n rows' : List ℕ) (p : Made m rows c a n rows') (e : laid_out m ≡ true) where
  o : Outcome
  o = outcome (decode m) c

  is : outcome_on m c ≡ outcome (decode m) c
  is = on_book m c e

  refusal_is : (told_by a).refusal ≡ (outcome (decode m) c).refusal
  refusal_is = ap (λ (x : Told). x.refusal) p.answer ∙ ap (λ (x : Outcome). x.refusal) is

  number_is : (told_by a).number ≡ (outcome (decode m) c).number
  number_is = ap (λ (x : Told). x.number) p.answer ∙ ap (λ (x : Outcome). x.number) is

  count_is : (told_by a).count ≡ length (outcome (decode m) c).rows
  count_is = ap (λ (x : Told). x.count) p.answer ∙ ap (λ (x : Outcome). length x.rows) is

  accepted-rows : (outcome (decode m) c).refusal ≡ 0 → rows_in rows' (told_by a).count ≡ (outcome (decode m) c).rows
  accepted-rows z =
      let w : rows' ≡ written rows (outcome (decode m) c).rows = p.handed (ap (λ (x : Outcome). x.refusal) is ∙ z)
      ∙ ap (λ (x : Outcome). written rows x.rows) is in
      ap (λ (x : List ℕ). rows_in x (told_by a).count) w
      ∙ ap (rows_in (written rows (outcome (decode m) c).rows)) count_is
      ∙ rows_written rows (outcome (decode m) c).rows

  heard_same : {r r' k k' : ℕ} {rs rs' : List Row} → r ≡ r' → k ≡ k' → rs ≡ rs'
      → ◌≡◌ {A = Heard} (record { refusal = r; number = k; rows = rs }) (record { refusal = r'; number = k'; rows = rs' })
  heard_same x y z = rw (x, y, z)

  tally_same : (t : Tally) → tallied t c (heard a rows') ≡ tallied t c (answered (outcome (decode m) c))
  tally_same t = go (ℕ_discrete (outcome (decode m) c).refusal 0)
    where
      go : Dec ((outcome (decode m) c).refusal ≡ 0) → tallied t c (heard a rows') ≡ tallied t c (answered (outcome (decode m) c))
      go (yes z) = ap (tallied t c) (heard_same refusal_is number_is (accepted-rows z))
      go (no z) =
          cond-false (eqb (told_by a).refusal 0) (accounted t c (heard a rows')) t (ne_eqb _ _ (λ q. z (sym refusal_is ∙ q))) refl
          ∙ sym (cond-false (eqb (outcome (decode m) c).refusal 0) (accounted t c (answered (outcome (decode m) c))) t (ne_eqb _ _ z) refl)

  -- the book that the memory then holds
  refused-book : ((outcome (decode m) c).refusal ≡ 0 → ⊥) → n ≡ m
  refused-book z = (p.refused (λ q. z (sym (ap (λ (x : Outcome). x.refusal) is) ∙ q))).0

  accepted-book : (outcome (decode m) c).refusal ≡ 0 → decode n ≡ (outcome (decode m) c).book
  accepted-book z = p.accepted (ap (λ (x : Outcome). x.refusal) is ∙ z) ∙ ap (λ (x : Outcome). x.book) is

-- one call
pub holding_after : (t : Tally) (m rows : List ℕ) (c : Call) (a : Answer) (n rows' : List ℕ) → Made m rows c a n rows' → Holding t m
    → Holding (tallied t c (heard a rows')) n
holding_after t m rows c a n rows' p h = go (ℕ_discrete (outcome (decode m) c).refusal 0)
  where
    same : tallied t c (heard a rows') ≡ tallied t c (answered (outcome (decode m) c))
    same = tally_same m rows c a n rows' p h.laid t

    go : Dec ((outcome (decode m) c).refusal ≡ 0) → Holding (tallied t c (heard a rows')) n
    go (no z) =
        let stay : tallied t c (heard a rows') ≡ t = same ∙ cond-false (eqb (outcome (decode m) c).refusal 0)
        (accounted t c (answered (outcome (decode m) c))) t (ne_eqb _ _ z) refl in
        let nm : n ≡ m = refused-book m rows c a n rows' p h.laid z in
        rw (stay, nm) h
    go (yes z) =
        let b : decode n ≡ (outcome (decode m) c).book = accepted-book m rows c a n rows' p h.laid z in
        let k : InStep (tallied t c (answered (outcome (decode m) c))) (outcome (decode m) c).book = in_step_after t (decode m) c h.step in
        let k' : InStep (tallied t c (heard a rows')) (decode n) = rw (same, b) k in
        let d : word n DAYS ≡ word m DAYS = sym (days_held n) ∙ sym k'.agree.days ∙ tallied_days t c (heard a rows') ∙ h.step.agree.days ∙ days_held m in
        let l = p.long in
        let q = leb-true (book_words (word m DAYS)) (length m) (and_left (leb (book_words (word m DAYS)) (length m)) (eqb (word m LAYOUT) layout_number)
        h.laid) in
        let y = eqb-true (word m LAYOUT) layout_number (and_right (leb (book_words (word m DAYS)) (length m)) (eqb (word m LAYOUT) layout_number) h.laid) in
        record { laid = laid_by n (omega arith) (p.aside.layout ∙ y); step = k' }

-- every list
holding_all : {m x : List ℕ} (t : Tally) (tr : Trace m x) → Holding t m → Holding (tally_of t tr) x
unfolding tally_of
holding_all t none h = h
holding_all {m} t (next {n = n} c rows rows' a l p tr) h = holding_all (tallied t c (heard a rows')) tr (holding_after t m rows c a n rows' p h)

-- a list of points has two for each period
points-length : (b : Book) (u p n : ℕ) → length (points_from b u p n) ≡ 2 * n
unfolding points_from
points-length b u p zero = refl
points-length b u p (suc n) = let t = points-length b u (suc p) n in omega arith

-- a curve of an enrolled unit on a day of the term is drawn
drawn_on : (m : List ℕ) (u day lent : ℕ) → sound_in m ≡ true → 0 ≡ first_refusal (curve_checks (decode m) u day lent) → curve_on m u day lent
    ≡ record { refusal = 0; points = points (decode m) u day }
unfolding curve_on curve curve_refusal
drawn_on m u day lent e f =
    cond-true (laid_out m) _ _ (sound-laid m e) refl ∙ rw (chain_sound (decode m) (curve_checks (decode m) u day lent) (sound-book m e), ← f) refl

module _ (t : Tally) (x : List ℕ) (h : Holding t x) where
  sound-x : sound_in x ≡ true
  unfolding sound_in
  sound-x = and_true (laid_out x) (sound (decode x)) h.laid h.step.sound

  pub claimed : Claimed t x
  claimed = record { sound = sound-x; book = d; curves = λ u day pts a pts' e l k c. at u day pts a pts' e l k c }
    where
      d : Demand3 t (decode x)
      d = demand_from t (decode x) h.step.agree h.step.sound

      at : (u day : ℕ) (pts : List ℕ) (a : Answer) (pts' : List ℕ) → is_member t u ≡ true → day < t.rules.days → 48 ≤ length pts
          → Curved x pts u day a pts'
          → ((told_by a).refusal ≡ 0)
          × ((i : ℕ) → i < 24 → (get_or pts' (2 * i) 0 + get_or pts' (2 * i + 1) 0 ≡ net_of t u (24 * day + i))
          × (get_or pts' (2 * i) 0 ≤ get_or pts' (2 * i + 1) 0)
          × (get_or pts' (2 * i + 1) 0 ≤ get_or pts' (2 * i) 0 + 1))
      at u day pts a pts' e l k c =
          let i : In 1 (word x UNITS) u = rw (units_held x) at (enrolled_in t (decode x) h.step.agree u e) in
          let ld : day < word x DAYS = rw (h.step.agree.days ∙ days_held x) at l in
          let f = drawn_on x u day (length pts) sound-x (drawn x u day (length pts) i k ld) in
          let z : (curve_on x u day (length pts)).refusal ≡ 0 = ap (λ (y : Drawn). y.refusal) f in
          let w : pts' ≡ points (decode x) u day ++ drop 48 pts = c.accepted z ∙ ap (λ (y : Drawn). y.points ++ drop 48 pts) f in
          let n : length (points (decode x) u day) ≡ 48 = points-length (decode x) u (24 * day) 24 in
          let g : (j : ℕ) → j < 48 → get_or pts' j 0 ≡ get_or (points (decode x) u day) j 0 = λ j lj. ap (λ (y : List ℕ). get_or y j 0) w
          ∙ get_or-append (points (decode x) u day) (drop 48 pts) 0 j (rw n lj) in (
            ap (λ (y : Told). y.refusal) c.answer ∙ z,
            λ j lj.
                let a0 = g (2 * j) (omega arith) in
                let a1 = g (2 * j + 1) (omega arith) in
                let q = d.curves u day e l j lj in
                (rw (a0, a1) q.0, rw (a0, a1) q.1, rw (a0, a1) q.2),
          )

-- demand 3
pub over_every_trace : OverEveryTrace
over_every_trace m₀ rules a m x op z tr = claimed (tally_of (opened rules) tr) x (holding_all (opened rules) tr start)
  where
    r : opening_refusal (length m₀) rules ≡ 0
    r = sym (ap (λ (y : Told). y.refusal) op.answer) ∙ z

    b : decode m ≡ fresh rules
    b = op.accepted r

    d : word m DAYS ≡ rules.days
    d = sym (days_held m) ∙ ap (λ (y : Book). y.rules.days) b

    start : Holding (opened rules) m
    start =
        record {
          laid = laid_by m (let l = op.long in let w = opening_long (length m₀) rules.days rules.floor rules.ceiling r in omega (arith, d))
              (op.laid r);
          step = rw b (record { agree = agree_start rules; sound = fresh-sound (length m₀) rules r });
        }
