-- The paper's transcript holds: the definitions compute it.
use mathlib.Core.Path.{refl}
use Rattle.measures.specs.Lists.{holds, sum, all}
use Rattle.limits.specs.Limits.{hour_limit, term_limit, volume_limit}
use Rattle.matching.specs.Orders.{rising, lessen, bid_ahead, ask_ahead, insert, laid}
use Rattle.matching.specs.Rolling.{candidate, counterparts, matches, match_row, after_matches, meet}
use Rattle.matching.specs.Clearing.{clear_from, traded_at, largest, cleared_volume, clear_period}
use Rattle.book.specs.Trades.{traded, booked, rows_booked}
use Rattle.book.specs.Fit.{open_orders, open_offers, open_raising, open_lowering, hour_fits, hours_fit, term_fits, volume_fits, unit_fits}
use Rattle.book.specs.Sound.{head_in, unit_in, offer_in, order_in, numbers_differ, each_two, sound}
use Rattle.book.specs.Refusals.{first_refusal}
use Rattle.book.specs.Opening.{opening_refusal}
use Rattle.book.specs.Enrol.{enrol_refusal, enrolment}
use Rattle.book.specs.Order.{order_refusal, waiting, ordering}
use Rattle.book.specs.Clear.{clear_refusal, clearing}
use Rattle.book.specs.Close.{closing}
use Rattle.lines.specs.Lines.{first_field, other_fields, value_from, goes_on, is_number, values, count_of, is_call, call_of, line_of, called, numbered}
use Rattle.lines.specs.Lines.{lettered, parse}
use Rattle.lines.specs.Printed.{digits, decimal, spaced, printed_row, printed_rows, printed_ok, printed_no}
use Rattle.lines.specs.Answers.{given, opening_said, call_said, said_to, after, printed}
use Rattle.lines.specs.Rehearsed.{last_line, lines_from, answers_to, rehearsed}
use Rattle.lines.specs.Texts.{bytes}
use Rattle.lines.specs.Transcript.{Transcript}

pub transcript-holds : Transcript
unfolding
    holds sum all unit_fits hour_limit term_limit volume_limit open_orders open_offers open_raising open_lowering hour_fits hours_fit term_fits volume_fits
    head_in unit_in offer_in order_in rising numbers_differ each_two sound first_refusal enrol_refusal enrolment order_refusal ordering opening_refusal lessen
    bid_ahead ask_ahead insert laid candidate counterparts matches match_row after_matches meet traded_at largest cleared_volume clear_period clear_from
    clear_refusal clearing traded booked rows_booked waiting closing first_field other_fields value_from goes_on is_number values count_of is_call call_of
    line_of called numbered lettered parse digits decimal spaced printed_row printed_rows printed_ok printed_no given opening_said call_said said_to after
    printed last_line lines_from answers_to rehearsed bytes
transcript-holds = ((refl, refl, (refl, refl, (refl, refl, (refl, refl, (refl, refl, (refl, refl, (refl, refl, tt))))))), refl)
