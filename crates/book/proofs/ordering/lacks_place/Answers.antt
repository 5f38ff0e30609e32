-- `lacks_place`: a place is free, the call phase, or what would be left.
use Rattle.std.proofs.Common.{◌≡◌, not, eqb, ap, ◌∙◌, arith, rules}
use Rattle.matching.specs.Answers.{left_over}
use Rattle.book.proofs.Laws.Order.PlaceNeedLaws.{place_free, full_in_call, full_rolling}
use Rattle.book.proofs.ordering.lacks_place.Goals as goal

pub returns-then-book-lt-MOST : goal.returns-then-book-lt-MOST
returns-then-book-lt-MOST c = place_free _ _ _ _ _ _ (omega arith)

pub returns-then-book : goal.returns-then-book
returns-then-book c = full_in_call _ _ _ _ _ _ (omega arith) (omega arith)

pub returns : goal.returns
returns c =
    let e : c.ne.result ≡ not (eqb c.left_over-left.result.0 0) = search rules in
    e ∙ full_rolling _ _ _ _ _ _ (omega arith) c.args.book.readable (omega arith) _ (c.left_over-left.ensures ∙ ap (left_over _ _) c.numbered-o.ensures)
