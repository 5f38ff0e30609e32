-- `unit_in`: a unit is checked just where its fields are in range.
use Rattle.std.proofs.Common.{◌≡◌, ◌∙◌, [], ◌∷◌}
use Rattle.measures.specs.Lists.{holds}
use Rattle.limits.specs.Units.{kind_in, capacity_in, asset_in}
use Rattle.book.specs.Inner.Readable.{unit_fields_in}
use Rattle.limits.proofs.LimitLaws.{checked_ok}
use Rattle.book.proofs.ranges.unit_in.Goals as goal

pub returns : goal.returns
unfolding unit_fields_in
returns c =
    let u = c.unit_at.ensures in
    let e : c.is_ok.result ≡ holds (kind_in c.unit_at.result.kind ∷ capacity_in c.unit_at.result.capacity ∷ asset_in c.unit_at.result.asset.0 ∷ []) =
    c.is_ok.ensures.value ∙ checked_ok _ c.unit_at.result.kind c.unit_at.result.capacity c.unit_at.result.asset.0 c.checked.ensures.refusal in
    rw (u.0, u.1, u.2) at e
