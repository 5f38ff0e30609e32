-- `cancel_effect`: what is removed at place k is what is not kept.
use Rattle.std.proofs.Common.{◌∙◌, arith, refl, length-drop, length-take}
use borrow.Rule.Slice.PartMut.{mid_len}
use Rattle.matching.proofs.Laws.Orders.PlacedLaws.{place_there}
use Rattle.book.specs.Layout.{orders_start, amounts_start}
use Rattle.book.proofs.Laws.Answer.MadeLaws.{sound_readable}
use Rattle.book.proofs.Laws.Cancel.CancelLaws.{cancelled, cancelled_aside}
use Rattle.book.proofs.cancelling.cancel_effect.Goals as goal

pub slice_bounds-remove-end : goal.slice_bounds-remove-end
slice_bounds-remove-end c = let r = sound_readable _ c.requires.0 in omega arith

pub returns : goal.returns
returns c =
    let m = c.args.book.now in
    let o = c.remove.new.orders in
    let f = c.requires.1 in
    let r = sound_readable _ c.requires.0 in
    let long = c.remove.auto.orders ∙ mid_len orders_start amounts_start m (omega arith) in
    let p = c.remove.ensures.orders (place_there _ _ _ r.orders_to (simp (length-take, length-drop) (omega arith)) f) in (
      cancelled m o _ _ c.requires.0 f refl long p,
      cancelled_aside m o _ _ c.requires.0 f refl long p,
    )
