-- `offer_terms`: each test is a check of the chain.
use Rattle.std.proofs.Common.{arith}
use Rattle.measures.specs.Ranges.{most_energy}
use Rattle.book.proofs.Laws.Memory.RangeFacts.{unit_test}
use Rattle.book.proofs.Laws.Memory.TestLaws.{is_in, not_in}
use Rattle.book.proofs.Laws.Offer.OfferCheckLaws.{terms_partner, terms_long, terms_energy, terms_pass}
use Rattle.book.proofs.offering.offer_terms.Goals as goal

pub returns-then-book-offer : goal.returns-then-book-offer
returns-then-book-offer c =
    let t = c.args.offer in
    let h = is_in (unit_test _ _ c.unit_known.ensures) c.if-not-unit_known.false in
    terms_partner _ t.unit t.partner t.price.0 c.args.amounts.now h (omega arith)

pub returns-then-amounts-book : goal.returns-then-amounts-book
returns-then-amounts-book c =
    let t = c.args.offer in
    let h = is_in (unit_test _ _ c.unit_known.ensures) c.if-not-unit_known.false in
    terms_long _ t.unit t.partner t.price.0 c.args.amounts.now h (omega arith)
    (is_in c.price_in.ensures c.if-not-price_in.false) (omega (arith, c.if-amounts-book.true))

pub returns-then-not-can_be_declared : goal.returns-then-not-can_be_declared
returns-then-not-can_be_declared c =
    let t = c.args.offer in
    let h = is_in (unit_test _ _ c.unit_known.ensures) c.if-not-unit_known.false in
    let n = not_in {a = 1} {b = most_energy} {x = c.capped_total.result.0} c.can_be_declared.ensures c.if-not-can_be_declared.true in
    terms_energy _ t.unit t.partner t.price.0 c.args.amounts.now h (omega arith)
    (is_in c.price_in.ensures c.if-not-price_in.false) (omega (arith, c.if-amounts-book.false))
    (λ i. n (omega (arith, i.0, i.1, c.capped_total.ensures)))

pub returns : goal.returns
returns c =
    let t = c.args.offer in
    let h = is_in (unit_test _ _ c.unit_known.ensures) c.if-not-unit_known.false in
    let e = is_in {a = 1} {b = most_energy} {x = c.capped_total.result.0} c.can_be_declared.ensures c.if-not-can_be_declared.false in
    terms_pass _ t.unit t.partner t.price.0 c.args.amounts.now h (omega arith)
    (is_in c.price_in.ensures c.if-not-price_in.false) (omega (arith, c.if-amounts-book.false))
    (omega (arith, e.0, e.1, c.capped_total.ensures))
