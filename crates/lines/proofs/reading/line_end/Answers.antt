-- `line_end`: the place of the first line end is the length of what stands before it.
use Rattle.std.proofs.Common.{rules, tests, eqb}
use Rattle.std.proofs.lemmas.Iterator.{YieldsList-from_slice}
use Rattle.std.proofs.lemmas.Iterator.Search.{position_from_yields_List}
use Rattle.lines.proofs.StepLaws.{end_placed}
use Rattle.lines.proofs.reading.line_end.Goals as goal

pub returns : goal.returns
returns c =
    let p = position_from_yields_List (λ b. eqb b 10) _ _ c.position.result c.position.ensures.ran (YieldsList-from_slice c.args.bytes.now cc) (λ x b q k. search (rules, tests)) in
    end_placed c.args.bytes.now _ _ p c.unwrap_or.ensures
