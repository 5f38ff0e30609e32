-- `offer_in`: a test that fails contradicts one of the offer's facts; the sides decide the rest.
use Rattle.std.proofs.Common.{◌∙◌, arith}
use Rattle.measures.specs.Ranges.{most_energy}
use Rattle.measures.proofs.RangeLaws.{In}
use Rattle.book.proofs.Laws.Memory.RangeFacts.{unit_test, offer_fails, offer_by_sides}
use Rattle.book.proofs.Laws.Memory.TestLaws.{is_in, not_in}
use Rattle.book.proofs.ranges.offer_in.Goals as goal

pub returns-then-not-number_given : goal.returns-then-not-number_given
returns-then-not-number_given c = offer_fails _ _ (λ h. not_in c.number_given.ensures c.if-not-number_given.true h.number)

pub returns-then-not-unit_known : goal.returns-then-not-unit_known
returns-then-not-unit_known c = offer_fails _ _ (λ h. not_in (unit_test _ _ c.unit_known.ensures) c.if-not-unit_known.true h.unit)

pub returns-then-not-price_in : goal.returns-then-not-price_in
returns-then-not-price_in c = offer_fails _ _ (λ h. not_in c.price_in.ensures c.if-not-price_in.true h.price)

pub returns-then-book-at-gt1 : goal.returns-then-book-at-gt1
returns-then-book-at-gt1 c = offer_fails _ _ (λ h. omega (arith, h.taken, c.if-book-at-gt1.true))

pub returns-then-not-can_be_declared : goal.returns-then-not-can_be_declared
returns-then-not-can_be_declared c =
    let w = c.offer_total.ensures in
    let n : In 1 most_energy c.offer_total.result.0 → ⊥ = not_in c.can_be_declared.ensures c.if-not-can_be_declared.true in
    offer_fails _ _ (λ h. let g = h.whole in n (omega arith, omega arith))

pub sides_fit-requires : goal.sides_fit-requires
sides_fit-requires c =
    let u = is_in (unit_test _ _ c.unit_known.ensures) c.if-not-unit_known.false in
    u

pub returns : goal.returns
returns c =
    let w = c.offer_total.ensures in
    let t : In 1 most_energy c.offer_total.result.0 = is_in c.can_be_declared.ensures c.if-not-can_be_declared.false in
    c.sides_fit.ensures
    ∙ offer_by_sides _ _ (is_in c.number_given.ensures c.if-not-number_given.false) (is_in (unit_test _ _ c.unit_known.ensures) c.if-not-unit_known.false)
    (is_in c.price_in.ensures c.if-not-price_in.false) (omega arith) (omega arith, omega arith)
