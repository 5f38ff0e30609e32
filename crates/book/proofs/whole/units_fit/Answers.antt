-- `units_fit`: each unit fits, by its words.
use Rattle.std.proofs.Common.{sym, ◌∙◌, rules}
use Rattle.book.specs.Inner.Fitting.{unit_holds}
use Rattle.book.specs.Inner.Whole.{open_up, open_down}
use Rattle.book.proofs.Laws.Check.UnitsFitLaws.{units_are}
use Rattle.book.proofs.whole.units_fit.Goals as goal

pub returns : goal.returns
returns c =
    let m = c.args.book.words.now in
    c.every.ensures (λ k. unit_holds m k (open_up m k) (open_down m k)) (λ k r h p. search rules) ∙ sym (units_are m c.args.book.ranged)
