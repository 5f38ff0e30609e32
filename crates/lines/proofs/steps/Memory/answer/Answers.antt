-- `answer`: a line that is not understood, or that makes no call, gives `no 0`; else the library's answer and rows are printed.
use Rattle.std.proofs.Common.{refl, sym, ap, ◌∙◌, ◌||◌, arith}
use Rattle.lines.proofs.AnswerLaws.{turned_down, unknown_down, nothing_made, rows_within, line_answered}
use Rattle.lines.proofs.steps.Memory.answer.Goals as goal

pub returns-in_default : goal.returns-in_default
returns-in_default c = turned_down _ _ _ _ _ (unknown_down _ _ c.in_default.ensures) refl c.print_no_call.ensures

pub returns-then-is_beyond : goal.returns-then-is_beyond
returns-then-is_beyond c =
    let w = nothing_made _ _ _ c.in-Some.ensures _ _ (sym c.is_beyond.ensures ∙ c.if-is_beyond.true) in
    turned_down _ _ _ _ _ w refl c.print_no_call-then-is_beyond.ensures

pub print_answer-requires-clause-counted : goal.print_answer-requires-clause-counted
print_answer-requires-clause-counted c =
    let m = c.make_call-answer.ensures in
    let w = sym c.is_beyond.ensures ∙ c.if-is_beyond.false in
    rows_within _ _ _ c.in-Some.ensures c.args.self.now.desk.started _ _ _ _ _ m.made w (omega arith) (omega arith) (omega arith)

pub returns : goal.returns
returns c =
    let m = c.make_call-answer.ensures in
    let w = sym c.is_beyond.ensures ∙ c.if-is_beyond.false in
    line_answered _ _ _ c.in-Some.ensures c.args.self.now.desk.started _ _ _ _ _ m.made w (omega arith) (omega arith) (omega arith) _ _
    (rw m.desk (ap (λ t. c.args.self.now.desk.started || t) c.is_ok.ensures.value)) c.print_answer.ensures
