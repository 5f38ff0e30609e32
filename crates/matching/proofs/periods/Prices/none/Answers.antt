-- `Prices::none`: a repeated number stands at each place.
use lib.ListN.{get_or-replicate}
use Rattle.matching.specs.Memory.{most_word}
use Rattle.matching.proofs.periods.Prices.none.Goals as goal

pub returns : goal.returns
returns g c = ((λ p h. get_or-replicate _ p 0 0 h), (λ p h. get_or-replicate _ p most_word 0 h))
