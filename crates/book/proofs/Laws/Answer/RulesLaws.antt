-- No call changes the rules of a book.
use Rattle.std.proofs.Common.{◌≡◌, ℕ, Bool, true, false, cond, eqb, List, [], ◌∷◌, refl}
use Rattle.matching.specs.Orders.{Row}
use Rattle.book.specs.Book.{Rules, Book, call_phase}
use Rattle.book.specs.Trades.{booked, row_booked, rows_booked}
use Rattle.book.specs.Refusals.{Outcome, decided, first_refusal, unsound}
use Rattle.book.specs.Enrol.{enrol_refusal, enrolment}
use Rattle.book.specs.Offer.{offer_refusal, offering}
use Rattle.book.specs.Take.{take_refusal, taking}
use Rattle.book.specs.Withdraw.{withdraw_refusal, withdrawal}
use Rattle.book.specs.Order.{order_refusal, ordering}
use Rattle.book.specs.Cancel.{cancel_refusal, cancellation}
use Rattle.book.specs.Clear.{clear_refusal, clearing}
use Rattle.book.specs.Close.{closing}
use Rattle.book.specs.Calls.{Call, call_enrol, call_offer, call_take, call_withdraw, call_order, call_cancel, call_clear, call_close, outcome}

one_of : (d : Rules) (t : Bool) (o p : Outcome) → o.book.rules ≡ d → p.book.rules ≡ d → (cond t o p).book.rules ≡ d
one_of d true o p h k = h
one_of d false o p h k = k

decided-rules : (r : ℕ) (b : Book) (o : Outcome) → o.book.rules ≡ b.rules → (decided r b o).book.rules ≡ b.rules
decided-rules r b o h = one_of b.rules (eqb r 0) o _ h refl

rows-rules : (rs : List Row) (b : Book) → (rows_booked rs b).rules ≡ b.rules
unfolding booked rows_booked
rows-rules [] b = refl
rows-rules (r ∷ rs) b = rows-rules rs (row_booked r b)

pub rules_stay : (b : Book) (c : Call) → (outcome b c).book.rules ≡ b.rules
unfolding enrolment offering taking withdrawal ordering cancellation clearing closing
rules_stay b (call_enrol kind capacity asset) = decided-rules (enrol_refusal b kind capacity asset) b _ refl
rules_stay b (call_offer unit partner price amounts) = decided-rules (offer_refusal b unit partner price amounts) b _ refl
rules_stay b (call_take unit number quantity lent) = decided-rules (take_refusal b unit number quantity lent) b _ (rows-rules _ _)
rules_stay b (call_withdraw unit number) = decided-rules (withdraw_refusal b unit number) b _ refl
rules_stay b (call_order unit direction period price quantity lent) =
    decided-rules (order_refusal b unit direction period price quantity lent) b _
    (one_of b.rules (eqb b.phase call_phase) _ _ refl (rows-rules _ _))
rules_stay b (call_cancel unit number) = decided-rules (cancel_refusal b unit number) b _ refl
rules_stay b (call_clear lent) = decided-rules (clear_refusal b lent) b _ (rows-rules _ _)
rules_stay b call_close = decided-rules (first_refusal (unsound b ∷ [])) b _ refl
