-- Figure 1 and the shares beside it hold: the definition computes them.
use mathlib.Core.Path.{refl}
use Rattle.measures.specs.Lists.{sum, table_from}
use Rattle.measures.specs.Sharing.{ahead, part, parts, less_each}
use Rattle.measures.specs.Figures.{AllShared, figure1, LeftByFigure1, odd_kwh}

pub figure1-holds : AllShared figure1
unfolding sum table_from ahead part parts
figure1-holds = (refl, (refl, tt))

pub left_by-figure1 : LeftByFigure1
unfolding sum table_from ahead part parts less_each
left_by-figure1 = refl

pub odd_kwh-holds : AllShared odd_kwh
unfolding sum table_from ahead part parts
odd_kwh-holds = (refl, (refl, (refl, (refl, tt))))
