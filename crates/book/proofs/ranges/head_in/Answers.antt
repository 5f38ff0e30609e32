-- `head_in`: a test that fails contradicts one of the head's facts.
use Rattle.std.proofs.Common.{◌≡◌, ◌≤◌, true, leb, sym, ◌∙◌, arith, le-leb, leb-true}
use Rattle.measures.proofs.ListLaws.{and_true, and_left, and_right, not_both}
use Rattle.book.proofs.Laws.Memory.RangeFacts.{head_fails, head_holds}
use Rattle.measures.specs.Ranges.{most_price}
use Rattle.measures.proofs.RangeLaws.{In}
use Rattle.limits.specs.Units.{most_days}
use Rattle.book.specs.Sound.{prices_in}
use Rattle.book.specs.Layout.{DAYS, FLOOR, CEILING, word}
use Rattle.book.proofs.Laws.Memory.TestLaws.{is_in, not_in, where_err, where_ok, phase_most}
use Rattle.book.proofs.ranges.head_in.Goals as goal

pub returns-then-not-in_range : goal.returns-then-not-in_range
returns-then-not-in_range c = head_fails _ (λ h. not_in c.in_range.ensures c.if-not-in_range.true h.days)

pub returns-then-not-prices_in_range : goal.returns-then-not-prices_in_range
returns-then-not-prices_in_range c =
    head_fails _ (λ h. not_both _ (and_true _ _ (le-leb _ _ h.prices) (le-leb _ _ h.ceiling))
    (sym c.prices_in_range.ensures ∙ c.if-not-prices_in_range.true))

pub returns-then-is_err : goal.returns-then-is_err
returns-then-is_err c =
    head_fails _ (λ h. where_err _ _ c.try_from.result c.try_from.ensures (λ e n. omega (arith, n.1, h.phase)) (sym c.is_err.ensures.value ∙ c.if-is_err.true))

pub returns-then-book-gt-NUMBERS : goal.returns-then-book-gt-NUMBERS
returns-then-book-gt-NUMBERS c = head_fails _ (λ h. omega (arith, h.given, c.if-book-gt-NUMBERS.true))

pub returns-then-book-gt-MOST : goal.returns-then-book-gt-MOST
returns-then-book-gt-MOST c = head_fails _ (λ h. omega (arith, h.units, c.if-book-gt-MOST.true))

pub returns-then-book-gt-MOST-2 : goal.returns-then-book-gt-MOST-2
returns-then-book-gt-MOST-2 c = head_fails _ (λ h. omega (arith, h.offers, c.if-book-gt-MOST-2.true))

pub returns-then-book-gt-MOST-3 : goal.returns-then-book-gt-MOST-3
returns-then-book-gt-MOST-3 c = head_fails _ (λ h. omega (arith, h.orders, c.if-book-gt-MOST-3.true))

pub returns : goal.returns
returns c =
    let m = c.args.book.now in
    let p : prices_in (word m FLOOR) (word m CEILING) ≡ true = sym c.prices_in_range.ensures ∙ c.if-not-prices_in_range.false in
    let prices : word m FLOOR ≤ word m CEILING = leb-true _ _ (and_left (leb (word m FLOOR) (word m CEILING)) _ p) in
    let ceiling : word m CEILING ≤ most_price = leb-true _ _ (and_right (leb (word m FLOOR) (word m CEILING)) _ p) in
    let days : In 1 most_days (word m DAYS) = is_in c.in_range.ensures c.if-not-in_range.false in
    let phase = where_ok _ _ c.try_from.result c.try_from.ensures (phase_most _) (sym c.is_err.ensures.value ∙ c.if-is_err.false) in
    sym (head_holds _ (omega arith))
