-- Figures 2, 3 and 4 hold: the definitions compute them.
use mathlib.Core.Path.{refl}
use Rattle.measures.specs.Lists.{sum, table_from}
use Rattle.measures.specs.Sharing.{ahead, part, parts}
use Rattle.matching.specs.Orders.{lessen, bid_ahead, ask_ahead, insert, laid}
use Rattle.matching.specs.Rolling.{candidate, counterparts, matches, match_row, after_matches, meet}
use Rattle.matching.specs.Clearing.{
  traded_at,
  largest,
  cleared_volume,
  marginal,
  filled,
  fills_of,
  end_to_end,
  rows_of_bid,
  overlap_rows,
  after_fills,
  clear_period,
}
use Rattle.matching.specs.Figures.{Figure2, Figure3, Figure4}

pub figure2_holds : Figure2
unfolding sum table_from ahead part parts lessen bid_ahead ask_ahead insert laid traded_at largest cleared_volume marginal filled
    fills_of end_to_end rows_of_bid overlap_rows after_fills clear_period
figure2_holds = (refl, refl)

pub figure3_holds : Figure3
unfolding sum table_from ahead part parts lessen bid_ahead ask_ahead insert laid traded_at largest cleared_volume marginal filled
    fills_of end_to_end rows_of_bid overlap_rows after_fills clear_period
figure3_holds = (refl, refl)

pub figure4_holds : Figure4
unfolding lessen bid_ahead ask_ahead insert laid candidate counterparts matches match_row after_matches meet
figure4_holds = refl
