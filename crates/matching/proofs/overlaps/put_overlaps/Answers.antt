-- `put_overlaps`: the fill that ends first shares nothing with what lies behind the other.
use mathlib.Core.Path.{◌≡◌, sym, ◌∙◌}
use lib.Dec.{leb}
use Rattle.std.proofs.Common.{rules}
use native.Mathlib.Omega.{arith}
use Rattle.matching.proofs.Laws.Rows.OverlapLaws.{filling_below, rowing_start, fills_amounts, bids_done, asks_done, bid_in_range, ask_in_range, bid_row, ask_row}
use borrow.Author.Tests.{leb-true, leb-false}
use Rattle.matching.proofs.overlaps.put_overlaps.Goals as goal

pub loop-i-init : goal.loop-i-init
loop-i-init c =
    (omega arith, omega arith, rowing_start _ _ _ _ _ (fills_amounts _ _ _ _ c.requires.2) (fills_amounts _ _ _ _ c.requires.3))

pub returns-then-j-asks : goal.returns-then-j-asks
returns-then-j-asks c =
    asks_done _ _ _ _ _ _ _ _ c.requires.2 c.requires.3 _ _ _ _ _ _ _ c.loop-i.invariant.2 (omega (arith, c.if-j-asks.true))

pub span_at-bid-requires : goal.span_at-bid-requires
span_at-bid-requires c =
    let l = c.loop-i in
    let t = c.loop-i-test.true in
    let f = c.requires.2 in
    let b = filling_below _ _ _ l.i f t in (
      omega (arith, f.few, f.along, t),
      omega (arith, f.few, f.along, t),
      b,
      bid_in_range _ _ _ _ _ _ _ _ f c.requires.3 _ _ _ _ _ _ _ l.invariant.2 t (omega (arith, c.if-j-asks.false, l.invariant.1)),
    )

pub span_at-ask-requires : goal.span_at-ask-requires
span_at-ask-requires c =
    let l = c.loop-i in
    let f = c.requires.3 in
    let b = filling_below _ _ _ l.j f (omega (arith, c.if-j-asks.false, l.invariant.1)) in (
      omega (arith, f.few, f.along, c.if-j-asks.false, l.invariant.1),
      omega (arith, f.few, f.along, c.if-j-asks.false, l.invariant.1),
      b,
      ask_in_range _ _ _ _ _ _ _ _ c.requires.2 f _ _ _ _ _ _ _ l.invariant.2 c.loop-i-test.true
          (omega (arith, c.if-j-asks.false, l.invariant.1)),
    )

pub loop-i-preserved-then-le : goal.loop-i-preserved-then-le
loop-i-preserved-then-le c =
    let e : c.le.result ≡ leb c.span_at-bid.result.upto.0 c.span_at-ask.result.upto.0 = search rules in
    let l = c.loop-i in
    let t = c.loop-i-test.true in
    let bid = c.span_at-bid.ensures in
    let ask = c.span_at-ask.ensures in
    let put = c.put_some-count in
    let wrote = rw c.from.ensures at put.ensures in (
      omega (arith, t),
      l.invariant.1,
      bid_row _ _ _ _ _ _ _ _ c.requires.2 c.requires.3 _ _ _ _ _ _ _ l.invariant.2 t (omega (arith, c.if-j-asks.false, l.invariant.1))
          _ _ _ _ c.overlap-quantity.result.0 _ _ ask.0 bid.0 bid.2 ask.2 (omega (arith, c.overlap-quantity.ensures, bid.1, ask.1))
          put.auto.rows wrote (leb-true _ _ (sym e ∙ c.if-le.true)),
    )

pub loop-i-preserved : goal.loop-i-preserved
loop-i-preserved c =
    let e : c.le.result ≡ leb c.span_at-bid.result.upto.0 c.span_at-ask.result.upto.0 = search rules in
    let l = c.loop-i in
    let bid = c.span_at-bid.ensures in
    let ask = c.span_at-ask.ensures in
    let put = c.put_some-count in
    let wrote = rw c.from.ensures at put.ensures in
    let less = leb-false c.span_at-bid.result.upto.0 c.span_at-ask.result.upto.0 (sym e ∙ c.if-le.false) in (
      l.invariant.0,
      omega (arith, c.if-j-asks.false, l.invariant.1),
      ask_row _ _ _ _ _ _ _ _ c.requires.2 c.requires.3 _ _ _ _ _ _ _ l.invariant.2 c.loop-i-test.true (omega (arith, c.if-j-asks.false, l.invariant.1))
          _ _ _ _ c.overlap-quantity.result.0 _ _ ask.0 bid.0 bid.2 ask.2 (omega (arith, c.overlap-quantity.ensures, bid.1, ask.1))
          put.auto.rows wrote (omega (arith, less)),
    )

pub returns : goal.returns
returns c =
    bids_done _ _ _ _ _ _ _ _ c.requires.2 c.requires.3 _ _ _ _ _ _ _ c.loop-i.invariant.2 (omega (arith, c.loop-i-test.false))
