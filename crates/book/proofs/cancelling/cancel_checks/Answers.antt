-- `cancel_checks`: each test is a check of the chain, and the place found is the number's.
use Rattle.std.proofs.Common.{arith}
use Rattle.book.proofs.Laws.Answer.MadeLaws.{sound_readable}
use Rattle.book.proofs.Laws.Cancel.CancelLaws.{cancel_absent, cancel_other, cancel_passes}
use Rattle.book.proofs.Laws.Memory.RangeFacts.{unit_test}
use Rattle.book.proofs.Laws.Memory.TestLaws.{is_in}
use Rattle.book.proofs.cancelling.cancel_checks.Goals as goal

pub invariant_of-book : goal.invariant_of-book
invariant_of-book c = record { readable = sound_readable _ c.args.book.sound }

pub returns-in_default-clause-refusal : goal.returns-in_default-clause-refusal
returns-in_default-clause-refusal c =
    let h = is_in (unit_test _ _ c.unit_known.ensures) c.if-not-unit_known.false in
    cancel_absent _ (sound_readable _ c.args.book.sound).orders_to _ _ h c.in_default.ensures

pub returns-then-book-k-clause-refusal : goal.returns-then-book-k-clause-refusal
returns-then-book-k-clause-refusal c =
    let h = is_in (unit_test _ _ c.unit_known.ensures) c.if-not-unit_known.false in
    cancel_other _ (sound_readable _ c.args.book.sound).orders_to _ _ h _ c.in-Some.ensures (omega arith)

pub returns-clause-refusal : goal.returns-clause-refusal
returns-clause-refusal c =
    let h = is_in (unit_test _ _ c.unit_known.ensures) c.if-not-unit_known.false in
    cancel_passes _ (sound_readable _ c.args.book.sound).orders_to _ _ h _ c.in-Some.ensures (omega arith)
