-- `withdraw_checks`: each test is a check of the chain, and the place found is the number's.
use Rattle.book.proofs.Laws.Answer.MadeLaws.{sound_readable}
use Rattle.book.proofs.Laws.Withdraw.OfferPlaceLaws.{withdraw_absent, withdraw_other, withdraw_taken, withdraw_passes}
use Rattle.book.proofs.Laws.Memory.RangeFacts.{unit_test}
use Rattle.book.proofs.Laws.Memory.TestLaws.{is_in}
use Rattle.book.proofs.withdrawing.withdraw_checks.Goals as goal

pub invariant_of-book : goal.invariant_of-book
invariant_of-book c = record { readable = sound_readable _ c.args.book.sound }

pub returns-in_default-clause-refusal : goal.returns-in_default-clause-refusal
returns-in_default-clause-refusal c =
    let h = is_in (unit_test _ _ c.unit_known.ensures) c.if-not-unit_known.false in
    withdraw_absent _ _ _ h c.in_default.ensures

pub returns-then-book-j-clause-refusal : goal.returns-then-book-j-clause-refusal
returns-then-book-j-clause-refusal c =
    let h = is_in (unit_test _ _ c.unit_known.ensures) c.if-not-unit_known.false in
    withdraw_other _ _ _ h _ c.in-Some.ensures c.if-book-j.true

pub returns-then-book-j-eq1-clause-refusal : goal.returns-then-book-j-eq1-clause-refusal
returns-then-book-j-eq1-clause-refusal c =
    let h = is_in (unit_test _ _ c.unit_known.ensures) c.if-not-unit_known.false in
    withdraw_taken _ _ _ h _ c.in-Some.ensures c.if-book-j.false c.if-book-j-eq1.true

pub returns-clause-refusal : goal.returns-clause-refusal
returns-clause-refusal c =
    let h = is_in (unit_test _ _ c.unit_known.ensures) c.if-not-unit_known.false in
    withdraw_passes _ _ _ h _ c.in-Some.ensures c.if-book-j.false c.if-book-j-eq1.false
