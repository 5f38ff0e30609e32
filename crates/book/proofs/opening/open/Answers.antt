-- `open`: a law of `opening_refusal` for each way out.
use Rattle.std.proofs.Common.{◌≡◌, ℕ, true, refl, sym, ◌∙◌, arith}
use Rattle.limits.specs.Units.{days_in, most_days}
use Rattle.measures.proofs.RangeLaws.{In}
use Rattle.book.proofs.Laws.Memory.TestLaws.{is_in, not_in}
use Rattle.book.proofs.Laws.Opening.OpeningLaws.{no_such_days, too_short_lem, no_such_prices, opens, opened-refused, opened-fresh}
use Rattle.book.proofs.opening.open.Goals as goal

days_of : (days : ℕ) → days_in days ≡ true → In 1 most_days days
days_of days h = is_in {a = 1} {b = most_days} {x = days} refl h

pub returns-in_default : goal.returns-in_default
returns-in_default c = opened-refused _ _ _ _ _ (no_such_days _ _ _ _ (not_in {a = 1} {b = most_days} {x = c.args.days} refl c.in_default.ensures))

pub returns-then-book-words : goal.returns-then-book-words
returns-then-book-words c =
    let w = c.in-Some.ensures in
    opened-refused _ _ _ _ _ (too_short_lem _ _ _ _ (days_of _ w.0) (omega (arith, w.1)))

pub returns-then-not-prices_in_range : goal.returns-then-not-prices_in_range
returns-then-not-prices_in_range c =
    let w = c.in-Some.ensures in
    opened-refused _ _ _ _ _ (no_such_prices _ _ _ _ (days_of _ w.0) (omega (arith, w.1)) (sym c.prices_in_range.ensures ∙ c.if-not-prices_in_range.true))

pub returns : goal.returns
returns c =
    let w = c.in-Some.ensures in
    let h = c.write_head in
    let prices = sym c.prices_in_range.ensures ∙ c.if-not-prices_in_range.false in
    opened-fresh _ _ _ _ _ (opens _ _ _ _ (days_of _ w.0) (omega (arith, w.1)) prices) h.ensures.0 h.ensures.1 h.ensures.2 h.auto.book
