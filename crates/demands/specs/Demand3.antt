-- Demand 3, sentence by sentence, of a tally and the book that the same calls left.
use Rattle.std.specs.Prelude.{ℕ, suc, ◌+◌, ◌-◌, ◌*◌, ◌≤◌, ◌<◌, ◌≡◌, Bool, true, cond, not, ◌&&◌, List, [], ◌∷◌, length, get_or, eqb}
use Rattle.measures.specs.Ranges.{between}
use Rattle.measures.specs.Lists.{sum_of, sum}
use Rattle.limits.specs.Units.{periods, generator}
use Rattle.limits.specs.Limits.{hour_of, hour_limit, term_limit, volume_limit}
use Rattle.matching.specs.Orders.{Order as OpenOrder}
use Rattle.matching.specs.Memory.{no_order}
use Rattle.book.specs.Book.{Rules, Book, figures_of, net}
use Rattle.book.specs.Trades.{raises, lowers}
use Rattle.book.specs.Opening.{fresh, opening_refusal}
use Rattle.book.specs.Curve.{points}
use Rattle.book.specs.Calls.{Call, outcome, answered, book_after}
use Rattle.demands.specs.Tally.{Member, Amounts, no_amounts, Tally, opened, tallied}

-- the unit of a number, and whether there is one
abbrev pub member_of : Tally → ℕ → Member
member_of t u = get_or t.units (u - 1) (record { kind = 0; capacity = 0; asset = 0 })

abbrev pub is_member : Tally → ℕ → Bool
is_member t u = between 1 (length t.units) u

-- what a unit sold and bought in a period, by the rows
unfoldable pub sold : Tally → ℕ → ℕ → ℕ
sold t u p = sum_of (λ r. cond (eqb r.seller u && eqb r.period p) r.quantity 0) t.rows

unfoldable pub bought : Tally → ℕ → ℕ → ℕ
bought t u p = sum_of (λ r. cond (eqb r.buyer u && eqb r.period p) r.quantity 0) t.rows

-- "Raising is a generator's sale or a load's purchase; lowering is the other."
abbrev pub raised_by : Tally → ℕ → ℕ → ℕ
raised_by t u p = cond (generator (member_of t u).kind) (sold t u p) (bought t u p)

abbrev pub lowered_by : Tally → ℕ → ℕ → ℕ
lowered_by t u p = cond (generator (member_of t u).kind) (bought t u p) (sold t u p)

-- "Net: a generator's is sold less bought, a load's bought less sold."
abbrev pub net_of : Tally → ℕ → ℕ → ℕ
net_of t u p = raised_by t u p - lowered_by t u p

-- "Volume is all traded energy, bought and sold"
abbrev pub volume_of : Tally → ℕ → ℕ
volume_of t u = sum (periods t.rules.days) (λ p. sold t u p + bought t u p)

-- "any part, from none to all, of each open amount": of the offer at place j in each period, and of the order at place i
pub record Part (t : Tally) : Type 0 where
  pub of_offer : ℕ → ℕ → ℕ
  pub of_order : ℕ → ℕ
  pub offers : (j p : ℕ) → of_offer j p ≤ get_or (get_or t.offers j no_amounts).amounts p 0
  pub orders : (i : ℕ) → of_order i ≤ (get_or t.orders i no_order).quantity

-- the parts of a unit's offers in a period; f is the part by place and period
unfoldable pub part_of_offers : (ℕ → ℕ → ℕ) → ℕ → ℕ → List Amounts → ℕ
part_of_offers f u p [] = 0
part_of_offers f u p (a ∷ os) = cond (eqb a.unit u) (f 0 p) 0 + part_of_offers (λ j. f (suc j)) u p os

-- the parts of a unit's orders in a period, of those in a direction that side picks; g is the part by place
unfoldable pub part_of_orders : (ℕ → ℕ) → (ℕ → Bool) → ℕ → ℕ → List OpenOrder → ℕ
part_of_orders g side u p [] = 0
part_of_orders g side u p (o ∷ os) =
    cond (eqb o.unit u && eqb o.period p && side o.direction) (g 0) 0 + part_of_orders (λ i. g (suc i)) side u p os

-- "raising to the net, lowering off it": the parts of a unit's open amounts in a period
unfoldable pub raising_part : (t : Tally) → Part t → ℕ → ℕ → ℕ
raising_part t x u p = part_of_offers x.of_offer u p t.offers + part_of_orders x.of_order (raises (member_of t u).kind) u p t.orders

unfoldable pub lowering_part : (t : Tally) → Part t → ℕ → ℕ → ℕ
lowering_part t x u p = part_of_orders x.of_order (lowers (member_of t u).kind) u p t.orders

-- the nets of one side in a period
unfoldable pub nets_of : (ℕ → Bool) → Tally → ℕ → ℕ
nets_of side t p = sum (length t.units) (λ k. cond (side (member_of t (k + 1)).kind) (net_of t (k + 1) p) 0)

-- of a unit, with a part of what is open added
pub record Bounded (t : Tally) (x : Part t) (u : ℕ) : Type 0 where
  -- no net falls below 0 or passes the hour limit
  pub at_least_none : (p : ℕ) → p < periods t.rules.days → lowered_by t u p + lowering_part t x u p ≤ raised_by t u p + raising_part t x u p
  pub within_hour : (p : ℕ) → p < periods t.rules.days
      → raised_by t u p + raising_part t x u p - (lowered_by t u p + lowering_part t x u p) ≤ hour_limit (member_of t u).kind (member_of t u).capacity (hour_of p)
  -- the term and volume limits hold
  pub within_term :
      sum (periods t.rules.days) (λ p. raised_by t u p + raising_part t x u p - (lowered_by t u p + lowering_part t x u p))
      ≤ term_limit (member_of t u).kind (member_of t u).capacity (member_of t u).asset t.rules.days
  pub within_volume :
      volume_of t u + sum (periods t.rules.days) (λ p. raising_part t x u p + lowering_part t x u p)
      ≤ volume_limit (member_of t u).kind (term_limit (member_of t u).kind (member_of t u).capacity (member_of t u).asset t.rules.days)

pub record Demand3 (t : Tally) (b : Book) : Type 0 where
  -- the book's nets and volumes are what the rows sum to
  pub nets : (u : ℕ) → is_member t u ≡ true → (p : ℕ) → p < periods t.rules.days → net (figures_of b u p) ≡ net_of t u p
  pub volumes : (u : ℕ) → is_member t u ≡ true → sum (periods t.rules.days) (λ p. (figures_of b u p).volume) ≡ volume_of t u
  -- in every period the generators' nets total the loads' nets
  pub balance : (p : ℕ) → p < periods t.rules.days → nets_of generator t p ≡ nets_of (λ kind. not (generator kind)) t p
  -- whatever part of each open amount still trades, no limit is passed
  pub bounds : (x : Part t) (u : ℕ) → is_member t u ≡ true → Bounded t x u
  -- each period's two points of the curve sum to its net and differ by at most 1
  pub curves : (u day : ℕ) → is_member t u ≡ true → day < t.rules.days → (h : ℕ) → h < 24
      → (get_or (points b u day) (2 * h) 0 + get_or (points b u day) (2 * h + 1) 0 ≡ net_of t u (24 * day + h))
      × (get_or (points b u day) (2 * h) 0 ≤ get_or (points b u day) (2 * h + 1) 0)
      × (get_or (points b u day) (2 * h + 1) 0 ≤ get_or (points b u day) (2 * h) 0 + 1)

-- the tally of a list of calls from a book
unfoldable pub tally_after : Tally → Book → List Call → Tally
tally_after t b [] = t
tally_after t b (c ∷ cs) = tally_after (tallied t c (answered (outcome b c))) (outcome b c).book cs

-- "one claim about a list as a whole": over every list of calls from a newly opened book
abbrev pub OverEveryList : Type 0
OverEveryList =
    (words : ℕ) (r : Rules) (cs : List Call) → opening_refusal words r ≡ 0
    → Demand3 (tally_after (opened r) (fresh r) cs) (book_after (fresh r) cs)
