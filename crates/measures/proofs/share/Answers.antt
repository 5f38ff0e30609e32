-- `share`: each way out is a case of the definition.
use mathlib.Core.Path.{◌≡◌, sym, ◌∙◌}
use native.Mathlib.Omega.{arith}
use lib.Dec.{ltb}
use borrow.Author.Tests.{eqb-true, eqb-false, leb-true, leb-false, ltb-true, ltb-false}
use Rattle.std.proofs.Common.{rules}
use Rattle.measures.proofs.SharingLaws.{is_short, is_nothing, is_large, is_over, is_shared}
use Rattle.measures.proofs.share.Goals as goal

pub returns-then-parts-amounts : goal.returns-then-parts-amounts
returns-then-parts-amounts c = is_short _ _ _ (omega arith)

pub returns-then-eq : goal.returns-then-eq
returns-then-eq c = is_nothing _ _ _ (omega arith) (eqb-true _ _ (sym c.eq.ensures ∙ c.if-eq.true))

pub returns-then-not-in_range : goal.returns-then-not-in_range
returns-then-not-in_range c =
    let some = eqb-false _ _ (sym c.eq.ensures ∙ c.if-eq.false) in
    let large = leb-false _ _ (sym c.in_range.ensures ∙ c.if-not-in_range.true) in
    is_large _ _ _ (omega arith) (omega (arith, some)) (omega (arith, large))

pub returns-then-lt : goal.returns-then-lt
returns-then-lt c =
    let some = eqb-false _ _ (sym c.eq.ensures ∙ c.if-eq.false) in
    let small = leb-true _ _ (sym c.in_range.ensures ∙ c.if-not-in_range.false) in
    let less : c.lt.result ≡ ltb c.capped_total-whole.result.0 c.args.amount.0 = search rules in
    let over = ltb-true _ _ (sym less ∙ c.if-lt.true) in
    is_over _ _ _ (omega arith) (omega (arith, some)) (omega (arith, small)) (omega (arith, small, over))

pub returns : goal.returns
returns c =
    let some = eqb-false _ _ (sym c.eq.ensures ∙ c.if-eq.false) in
    let small = leb-true _ _ (sym c.in_range.ensures ∙ c.if-not-in_range.false) in
    let less : c.lt.result ≡ ltb c.capped_total-whole.result.0 c.args.amount.0 = search rules in
    let within = ltb-false _ _ (sym less ∙ c.if-lt.false) in
    is_shared _ _ _ (omega arith) (omega (arith, some)) (omega (arith, small)) (omega (arith, small, within)) c.write_parts.ensures
