-- `make_call`: each letter makes its call; a call that hands back no rows leaves the lent ones.
use Rattle.std.proofs.Common.{◌≡◌, length, arith}
use Rattle.lines.specs.Lines.{call_of}
use Rattle.lines.proofs.AnswerLaws.{by_call, by_call-beside, amounts_behind}
use Rattle.lines.proofs.steps.Memory.make_call.Goals as goal

pub returns-in-Enrol-clause-made : goal.returns-in-Enrol-clause-made
unfolding call_of
returns-in-Enrol-clause-made c = rw c.in-Enrol.is (by_call-beside 69 _ _ _ _ _ (λ e. omega arith) c.enrol.ensures)

pub returns-in-Offer-clause-made : goal.returns-in-Offer-clause-made
unfolding call_of
returns-in-Offer-clause-made c =
    let behind = amounts_behind c.args.self.now.numbers (omega arith) in
    rw c.in-Offer.is (by_call-beside 76 _ _ _ _ _ (λ e. omega arith) (rw behind at c.offer.ensures))

pub returns-in-Take-clause-made : goal.returns-in-Take-clause-made
unfolding call_of
returns-in-Take-clause-made c =
    let lent : length c.args.self.now.rows ≡ 4_464 = omega arith in
    rw c.in-Take.is (by_call 84 _ _ _ _ _ (λ e. omega arith) _ (rw lent at c.take.ensures))

pub returns-in-Withdraw-clause-made : goal.returns-in-Withdraw-clause-made
unfolding call_of
returns-in-Withdraw-clause-made c = rw c.in-Withdraw.is (by_call-beside 87 _ _ _ _ _ (λ e. omega arith) c.withdraw.ensures)

pub returns-in-Order-clause-made : goal.returns-in-Order-clause-made
unfolding call_of
returns-in-Order-clause-made c =
    let lent : length c.args.self.now.rows ≡ 4_464 = omega arith in
    rw c.in-Order.is (by_call 82 _ _ _ _ _ (λ e. omega arith) _ (rw lent at c.order.ensures))

pub returns-in-Cancel-clause-made : goal.returns-in-Cancel-clause-made
unfolding call_of
returns-in-Cancel-clause-made c = rw c.in-Cancel.is (by_call-beside 88 _ _ _ _ _ (λ e. omega arith) c.cancel.ensures)

pub returns-in-Clear-clause-made : goal.returns-in-Clear-clause-made
unfolding call_of
returns-in-Clear-clause-made c =
    let lent : length c.args.self.now.rows ≡ 4_464 = omega arith in
    rw c.in-Clear.is (by_call 67 _ _ _ _ _ (λ e. omega arith) _ (rw lent at c.clear.ensures))

pub returns-in-Close-clause-made : goal.returns-in-Close-clause-made
unfolding call_of
returns-in-Close-clause-made c = rw c.in-Close.is (by_call-beside 68 _ _ _ _ _ (λ e. omega arith) c.close.ensures)
