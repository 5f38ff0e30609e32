-- The starred figures hold: the definitions compute them.
use mathlib.Core.Path.{refl}
use Rattle.measures.specs.Lists.{holds, sum, all, table_from}
use Rattle.measures.specs.Sharing.{ahead, part, parts, less_each}
use Rattle.measures.proofs.FiguresHold.{figure1-holds}
use Rattle.limits.specs.Limits.{hour_limit, term_limit, volume_limit}
use Rattle.limits.proofs.FiguresHold.{figure5-holds, figure6-holds}
use Rattle.matching.specs.Orders.{rising}
use Rattle.matching.proofs.Laws.Figures.FiguresHold.{figure2_holds, figure3_holds, figure4_holds}
use Rattle.book.specs.Trades.{traded, booked, rows_booked}
use Rattle.book.specs.Fit.{open_orders, open_offers, open_raising, open_lowering, hour_fits, hours_fit, term_fits, volume_fits, unit_fits}
use Rattle.book.specs.Sound.{head_in, unit_in, offer_in, order_in, numbers_differ, each_two, sound}
use Rattle.book.specs.Refusals.{first_refusal}
use Rattle.book.specs.Enrol.{enrol_refusal, enrolment}
use Rattle.book.specs.Offer.{offer_refusal, offering}
use Rattle.book.specs.Take.{take_refusal, take_rows_from, take_rows, offers_less, taking}
use Rattle.book.specs.Order.{order_refusal, ordering}
use Rattle.book.specs.Close.{closing}
use Rattle.book.specs.Curve.{curve_refusal, points_from, curve}
use Rattle.book.specs.Calls.{answers, book_after}
use Rattle.demands.specs.Figures.{Figure5, Figure6, Figure7, Figure8, figures, Hold}

figure5_calls : Figure5
unfolding holds sum all unit_fits hour_limit term_limit volume_limit open_orders open_offers open_raising open_lowering hour_fits hours_fit term_fits volume_fits head_in
    unit_in offer_in order_in rising numbers_differ each_two sound first_refusal enrol_refusal enrolment order_refusal ordering answers
figure5_calls = (figure5-holds, refl)

figure6_calls : Figure6
unfolding holds sum all unit_fits hour_limit term_limit volume_limit open_orders open_offers open_raising open_lowering hour_fits hours_fit term_fits volume_fits head_in
    unit_in offer_in order_in rising numbers_differ each_two sound first_refusal enrol_refusal enrolment order_refusal ordering answers
figure6_calls = (figure6-holds, refl)

figure7_calls : Figure7
unfolding holds sum all unit_fits hour_limit term_limit volume_limit open_orders open_offers open_raising open_lowering hour_fits hours_fit term_fits volume_fits head_in
    unit_in offer_in order_in rising numbers_differ each_two sound first_refusal enrol_refusal enrolment order_refusal ordering answers
    table_from ahead part parts traded booked rows_booked offer_refusal offering take_refusal take_rows_from take_rows less_each offers_less taking closing
figure7_calls = refl

figure8_holds : Figure8
unfolding holds sum all unit_fits hour_limit term_limit volume_limit open_orders open_offers open_raising open_lowering hour_fits hours_fit term_fits volume_fits head_in
    unit_in offer_in order_in rising numbers_differ each_two sound first_refusal enrol_refusal enrolment book_after
    table_from ahead part parts traded booked rows_booked offer_refusal offering take_refusal take_rows_from take_rows less_each offers_less taking curve_refusal points_from curve
figure8_holds = refl

-- figures 1 to 8
pub figures_hold : Hold figures
figures_hold = (figure1-holds, (figure2_holds, (figure3_holds, (figure4_holds, (figure5_calls, (figure6_calls, (figure7_calls, (figure8_holds, tt))))))))
