-- `find_edge`: all fractions lie below `whole`, so they end between 0 and it.
use mathlib.Core.Path.{refl}
use Rattle.measures.proofs.LargestLaws.{between_start}
use Rattle.measures.proofs.sharing.find_edge.Goals as goal

pub loop-search-init : goal.loop-search-init
loop-search-init c = let s = c.requires in (refl, refl, between_start _ _ _ _ s.0 s.1 s.2 s.4)
