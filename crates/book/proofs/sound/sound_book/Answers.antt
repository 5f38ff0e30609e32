-- `sound_book`: a test that fails contradicts soundness; the orders and the fit of the units decide the rest.
use Rattle.std.proofs.Common.{sym, ◌∙◌, arith}
use Rattle.measures.proofs.ListLaws.{not_both}
use Rattle.book.specs.Inner.Readable.{Ranged}
use Rattle.book.proofs.Laws.Memory.RangeFacts.{head_facts, readable}
use Rattle.book.proofs.Laws.Check.SoundInLaws.{sound_fails, sound_by_open, never_short, ranged}
use Rattle.book.proofs.sound.sound_book.Goals as goal
use Rattle.book.proofs.sound.sound_book.Goals.{Else-not-orders_in}

-- what holds once the ranges passed
in_range : (c : Else-not-orders_in) → Ranged c.args.book.now
in_range c =
    ranged _ (omega arith) (sym c.head_in.ensures ∙ c.if-not-head_in.false)
    (sym c.units_in.ensures ∙ c.if-not-units_in.false)
    (sym c.offers_in.ensures ∙ c.if-not-offers_in.false)
    (sym c.orders_in.ensures ∙ c.if-not-orders_in.false)

pub returns-then-book-lt-FIGURES : goal.returns-then-book-lt-FIGURES
returns-then-book-lt-FIGURES c = sound_fails _ (never_short _ (omega arith))

pub returns-then-not-head_in : goal.returns-then-not-head_in
returns-then-not-head_in c = sound_fails _ (λ s. not_both _ s.head (sym c.head_in.ensures ∙ c.if-not-head_in.true))

pub returns-then-book-ne-LAYOUT_NUMBER : goal.returns-then-book-ne-LAYOUT_NUMBER
returns-then-book-ne-LAYOUT_NUMBER c = sound_fails _ (λ s. c.if-book-ne-LAYOUT_NUMBER.true s.layout)

pub overflow_mul-days : goal.overflow_mul-days
overflow_mul-days c =
    let h = head_facts c.args.book.now (sym c.head_in.ensures ∙ c.if-not-head_in.false) in omega arith

pub overflow_add-days : goal.overflow_add-days
overflow_add-days c =
    let h = head_facts c.args.book.now (sym c.head_in.ensures ∙ c.if-not-head_in.false) in omega arith

pub returns-then-book-days : goal.returns-then-book-days
returns-then-book-days c = sound_fails c.args.book.now (λ s. let l = s.long in omega arith)

pub invariant_of-readable : goal.invariant_of-readable
invariant_of-readable c = record { readable = readable _ (head_facts _ (sym c.head_in.ensures ∙ c.if-not-head_in.false)) (omega arith) }

pub returns-then-not-units_in : goal.returns-then-not-units_in
returns-then-not-units_in c = sound_fails _ (λ s. not_both _ s.units (sym c.units_in.ensures ∙ c.if-not-units_in.true))

pub returns-then-not-offers_in : goal.returns-then-not-offers_in
returns-then-not-offers_in c = sound_fails _ (λ s. not_both _ s.offers (sym c.offers_in.ensures ∙ c.if-not-offers_in.true))

pub returns-then-not-orders_in : goal.returns-then-not-orders_in
returns-then-not-orders_in c = sound_fails _ (λ s. not_both _ s.orders (sym c.orders_in.ensures ∙ c.if-not-orders_in.true))

pub returns-then-not-numbers_differ : goal.returns-then-not-numbers_differ
returns-then-not-numbers_differ c = sound_fails _ (λ s. not_both _ s.numbers (sym c.numbers_differ.ensures ∙ c.if-not-numbers_differ.true))

pub invariant_of-open_fit : goal.invariant_of-open_fit
invariant_of-open_fit c =
    record {
      ranged = in_range (goal.at.invariant_of-open_fit c).Else-not-orders_in;
      priced = (head_facts _ (sym c.head_in.ensures ∙ c.if-not-head_in.false)).ceiling;
    }

pub returns : goal.returns
returns c =
    let h = sym c.head_in.ensures ∙ c.if-not-head_in.false in
    let r = in_range (goal.at.returns c).Else-not-orders_in in
    c.open_fit.ensures
    ∙ sound_by_open c.args.book.now (omega arith) (omega arith) h r.units r.offers r.orders
    (sym c.numbers_differ.ensures ∙ c.if-not-numbers_differ.false)
