-- `sweep`: the orders' part is cleared and comes back, and the rest of the book stays.
use borrow.Rule.Slice.PartMut.{mid_len}
use Rattle.std.proofs.Common.{ap, ◌∙◌, arith}
use Rattle.std.specs.Prelude.{Option}
use Rattle.matching.specs.declared.orders.Cleared.{Cleared}
use Rattle.matching.specs.Answers.{clear_answer}
use Rattle.matching.proofs.Laws.Periods.PassingLaws.{all_gives, all_fit}
use Rattle.book.specs.Layout.{orders_start, amounts_start}
use Rattle.book.proofs.Laws.Answer.MadeLaws.{sound_readable}
use Rattle.book.proofs.Laws.Clear.ClearEffectLaws.{clear_fits, swept}
use Rattle.book.proofs.periods.sweep.Goals as goal
use Rattle.book.proofs.periods.sweep.Goals.{Start}

pub bounds-book-7 : goal.bounds-book-7
bounds-book-7 c = let r = sound_readable _ c.requires.0 in omega arith

pub bounds-book-0 : goal.bounds-book-0
bounds-book-0 c = let r = sound_readable _ c.requires.0 in omega arith

pub overflow_mul-end : goal.overflow_mul-end
overflow_mul-end c = let r = sound_readable _ c.requires.0 in omega arith

pub slice_bounds-clear_periods-end : goal.slice_bounds-clear_periods-end
slice_bounds-clear_periods-end c = let r = sound_readable _ c.requires.0 in omega arith

pub bounds-book-7-2 : goal.bounds-book-7-2
bounds-book-7-2 c =
    let r = sound_readable _ c.requires.0 in omega arith

pub unreachable-requires : goal.unreachable-requires
unreachable-requires c =
    all_fit _ _ _ _ _ _ _ (clear_fits _ _ c.requires.0 c.requires.1) c.clear_periods.ensures
    (ap (λ (a : Option Cleared). (clear_answer a).fits) c.in_default.is)

pub returns : goal.returns
returns c =
    let r = sound_readable _ c.requires.0 in
    let t = c.clear_periods in
    swept _ _ _ _ _ _ c.requires.0 (t.auto.orders ∙ mid_len orders_start amounts_start c.args.book.now (omega arith))
    (all_gives _ _ _ _ _ _ _ _ _ (clear_fits _ _ c.requires.0 c.requires.1) t.ensures (ap (λ (a : Option Cleared). (clear_answer a).count) c.in-Some.is)
    (ap (λ (a : Option Cleared). (clear_answer a).standing) c.in-Some.is))
