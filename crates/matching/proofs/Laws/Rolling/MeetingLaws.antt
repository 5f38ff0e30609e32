-- Laws of matches: one with the best counterpart, and those still to come.
use Prim.Native.Nat.{ℕ, ◌+◌, ◌-◌, ◌<◌, ◌≤◌, min}
use mathlib.Core.Path.{◌≡◌, refl, sym, ap, ◌∙◌}
use mathlib.Core.Bool.{true}
use mathlib.Core.List.{List, [], ◌∷◌}
use native.Mathlib.Omega.{arith}
use native.Mathlib.Decide.{dec_lt}
use borrow.Author.Tests.{eq-eqb, ne_eqb}
use lib.ListN.{length, get_or, length-set}
use Rattle.matching.specs.Orders.{Order, less, lessen, rising, numbers}
use Rattle.matching.specs.Memory.{no_order}
use Rattle.matching.specs.Rolling.{Match, counterparts, matches, after_matches}
use Rattle.matching.proofs.Laws.Rolling.CounterpartLaws.{best, without, found_laid-first}
use Rattle.matching.proofs.Laws.Orders.TakeOffLaws.{without-length, lessen_gone, lessen_kept}

abbrev pub match : Order → ℕ → Match
match o x = record { order = o; quantity = x }

pub matches_none : (q : ℕ) → matches q [] ≡ []
unfolding matches
matches_none q = refl

pub matches_spent : (q : ℕ) (cs : List Order) → q ≡ 0 → matches q cs ≡ []
unfolding matches
matches_spent q [] e = refl
matches_spent q (o ∷ cs) e = rw (eq-eqb q 0 e)

pub matches-more : (q : ℕ) (o : Order) (cs : List Order) → (q ≡ 0 → ⊥) → matches q (o ∷ cs) ≡ match o (min q o.quantity)
    ∷ matches (q - min q o.quantity) cs
unfolding matches
matches-more q o cs ne = rw (ne_eqb q 0 ne)

after_more : (o : Order) (x : ℕ) (ms : List Match) (os : List Order) → after_matches (match o x ∷ ms) os ≡ after_matches ms (lessen o.number x os)
unfolding after_matches
after_more o x ms os = refl

pub after_none : (os : List Order) → after_matches [] os ≡ os
unfolding after_matches
after_none os = refl

-- one match, with the best counterpart, at place b: x is taken off it
module _ (i : Order) (os os' : List Order) (q b x : ℕ) (some : q ≡ 0 → ⊥) (rises : rising (numbers os) ≡ true) (l : b < length os) (eb : b
    ≡ best i os) (ex : x ≡ min q (get_or os b no_order).quantity) (el : os' ≡ lessen (get_or os b no_order).number x os) where
  laid-first : counterparts i os ≡ get_or os b no_order ∷ counterparts i (without b os)
  laid-first = rw eb (found_laid-first i os (rw eb at l))

  -- the orders behind it are the same, or nothing is left for them
  same_rest : matches (q - x) (counterparts i (without b os)) ≡ matches (q - x) (counterparts i os')
  same_rest = go (dec_lt x (get_or os b no_order).quantity)
    where
      go : Dec (x < (get_or os b no_order).quantity) → matches (q - x) (counterparts i (without b os)) ≡ matches (q - x) (counterparts i os')
      go (yes h) =
          let z : q - x ≡ 0 = omega arith in
          matches_spent (q - x) (counterparts i (without b os)) z ∙ sym (matches_spent (q - x) (counterparts i os') z)
      go (no h) = ap (λ (y : List Order). matches (q - x) (counterparts i y)) (sym (el ∙ lessen_gone os b x rises l (omega arith)))

  pub matched : matches q (counterparts i os) ≡ match (get_or os b no_order) x ∷ matches (q - x) (counterparts i os')
  matched =
      ap (matches q) laid-first
      ∙ matches-more q (get_or os b no_order) (counterparts i (without b os)) some
      ∙ ap (λ (y : ℕ). match (get_or os b no_order) y ∷ matches (q - y) (counterparts i (without b os))) (sym ex)
      ∙ ap (λ (ms : List Match). match (get_or os b no_order) x ∷ ms) same_rest

  pub matched_after : after_matches (matches q (counterparts i os)) os ≡ after_matches (matches (q - x) (counterparts i os')) os'
  matched_after =
      ap (λ (ms : List Match). after_matches ms os) matched
      ∙ after_more (get_or os b no_order) x (matches (q - x) (counterparts i os')) os
      ∙ ap (after_matches (matches (q - x) (counterparts i os'))) (sym el)

  -- an order goes, or nothing is left
  pub matched_length : (length os' + 1 ≤ length os + (1 - (q - x))) × (length os' ≤ length os) × ((q - x) + length os' < q + length os)
  matched_length = go (dec_lt x (get_or os b no_order).quantity)
    where
      go : Dec (x < (get_or os b no_order).quantity) → (length os' + 1 ≤ length os + (1 - (q - x))) × (length os' ≤ length os)
          × ((q - x) + length os' < q + length os)
      go (yes h) =
          let e : length os' ≡ length os = ap length (el ∙ lessen_kept os b x rises l h) ∙ length-set os b (less (get_or os b no_order) x) in
          omega arith
      go (no h) =
          let e : length os' ≡ length (without b os) = ap length (el ∙ lessen_gone os b x rises l (omega arith)) in
          omega (arith, without-length b os l)
