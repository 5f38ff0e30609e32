-- `take_party`: each check in its order.
use Rattle.std.proofs.Common.{sym, ◌∙◌, arith}
use Rattle.measures.specs.Ranges.{most_energy}
use Rattle.measures.proofs.RangeLaws.{In}
use Rattle.book.specs.Layout.{UNITS, word}
use Rattle.book.specs.Inner.RowsIn.{OpenAt}
use Rattle.book.proofs.Laws.Answer.MadeLaws.{sound_readable}
use Rattle.book.proofs.Laws.Memory.RangeFacts.{unit_test}
use Rattle.book.proofs.Laws.Memory.TestLaws.{is_in}
use Rattle.book.proofs.Laws.Take.PartyLaws.{party_none, party_cannot, party_passed, open_at, can_asks}
use Rattle.book.proofs.taking.take_party.Goals as goal
use Rattle.book.proofs.taking.take_party.Goals.{Else-not-unit_known, Else-not-can_be_declared, After-offer_total-total}

known : (c : Else-not-unit_known) → In 1 (word c.args.book.words.now UNITS) c.args.claim.unit
known c = is_in (unit_test _ _ c.unit_known.ensures) c.if-not-unit_known.false

some : (c : Else-not-can_be_declared) → In 1 most_energy c.args.claim.quantity.0
some c = is_in c.can_be_declared.ensures c.if-not-can_be_declared.false

pub invariant_of-book : goal.invariant_of-book
invariant_of-book c = record { readable = sound_readable _ c.args.book.sound }

pub returns-in_default-clause-refusal : goal.returns-in_default-clause-refusal
returns-in_default-clause-refusal c =
    let a = goal.at.returns-in_default-clause-refusal c in
    party_none _ _ _ _ _ (known a.Else-not-unit_known) (omega arith) (some a.Else-not-can_be_declared) c.in_default.ensures

is_open : (c : After-offer_total-total) → OpenAt c.args.book.words.now c.args.claim.number c.in-Some.place c.offer_total-total.result.0
is_open c = open_at _ _ _ _ c.args.book.sound c.in-Some.ensures c.offer_total-total.ensures

pub can_take-requires : goal.can_take-requires
can_take-requires c =
    let a = goal.at.can_take-requires c in
    can_asks _ _ _ _ _ c.args.book.sound (is_open a.After-offer_total-total) (known a.Else-not-unit_known)

pub returns-clause-offer : goal.returns-clause-offer
returns-clause-offer c = is_open (goal.at.returns-clause-offer c).After-offer_total-total

pub returns-then-not-can_take-clause-refusal : goal.returns-then-not-can_take-clause-refusal
returns-then-not-can_take-clause-refusal c =
    let a = goal.at.returns-then-not-can_take-clause-refusal c in
    party_cannot _ _ _ _ _ (known a.Else-not-unit_known) (omega arith) (some a.Else-not-can_be_declared) _ c.in-Some.ensures
    (sym c.can_take.ensures ∙ c.if-not-can_take.true)

pub returns-clause-refusal : goal.returns-clause-refusal
returns-clause-refusal c =
    let a = goal.at.returns-clause-refusal c in
    party_passed _ _ _ _ _ (known a.Else-not-unit_known) (omega arith) (some a.Else-not-can_be_declared) _ c.in-Some.ensures
    (sym c.can_take.ensures ∙ c.if-not-can_take.false)
