-- `can_take`: none takes more than is left, the partner takes all, a unit of the other side takes of a listing.
use Rattle.std.proofs.Common.{◌≡◌, ◌<◌, ◌≤◌, ltb, leb, sym, arith, rules}
use Rattle.book.proofs.Laws.Take.FoundLaws.{takes_past, takes_other, takes_unlike, takes_whole, takes_sides}
use Rattle.book.proofs.Laws.Memory.TestLaws.{is_below, not_below_lem, within_most, over_most, settles}
use Rattle.book.proofs.taking.can_take.Goals as goal
use Rattle.book.proofs.taking.can_take.Goals.{After-lt}

not_all : (c : After-lt) → c.lt.result ≡ ltb c.args.offer.total.0 c.args.claim.quantity.0
not_all c = search rules

pub returns-then-lt : goal.returns-then-lt
returns-then-lt c =
    takes_past _ _ _ _ _ c.requires.5 (is_below (not_all (goal.at.returns-then-lt c).After-lt) c.if-lt.true)

pub returns-then-partner-claim : goal.returns-then-partner-claim
returns-then-partner-claim c =
    takes_other _ _ _ _ _ c.requires.5 (omega arith) (omega arith)

pub returns-then-partner-ne0 : goal.returns-then-partner-ne0
returns-then-partner-ne0 c =
    let w = c.args.offer.total.0 in
    let q = c.args.claim.quantity.0 in
    let le = not_below_lem (not_all (goal.at.returns-then-partner-ne0 c).After-lt) c.if-lt.false in
    let e : c.le.result ≡ leb w q = search rules in
    settles _ _
    (λ t. let ge : w ≤ q = within_most e t in sym (takes_whole _ _ _ _ _ c.requires.5 (omega arith) (omega arith) (omega (arith, le, ge))))
    (λ t. let lt : q < w = over_most e t in takes_unlike _ _ _ _ _ c.requires.5 (omega arith) (omega (arith, lt)))

pub returns : goal.returns
returns c =
    takes_sides _ _ _ _ _ c.requires.5 (omega arith) (not_below_lem (not_all (goal.at.returns c).After-lt) c.if-lt.false) _ _
    c.is_generator-own.ensures c.is_generator-other.ensures
