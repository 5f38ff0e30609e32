-- Orders and rows, and how orders are laid by price and number (paper 01, "The eight calls").
use Rattle.std.specs.Prelude.{ℕ, ◌-◌, Bool, true, cond, ◌&&◌, ◌||◌, List, [], ◌∷◌, map, eqb, leb, ltb}
use Rattle.measures.specs.Lists.{every, keep, sum_of}

-- "Order (001 8.4): a unit, a direction (0 sell, 1 buy), a period, a price, a quantity", under its number; the quantity
-- is what is still open
pub record Order : Type 0 where
  pub number : ℕ
  pub unit : ℕ
  pub direction : ℕ
  pub period : ℕ
  pub price : ℕ
  pub quantity : ℕ

-- an order of which all is open
abbrev pub order_with : ℕ → ℕ → ℕ → ℕ → ℕ → ℕ → Order
order_with n u d p price q = record { number = n; unit = u; direction = d; period = p; price = price; quantity = q }

abbrev pub sells : ℕ → Bool
sells direction = eqb direction 0

abbrev pub buys : ℕ → Bool
buys direction = eqb direction 1

-- "A row is six numbers: way (1 bilateral, 2 listing, 3 clear, 4 rolling), period, seller, buyer, quantity, price."
pub record Row : Type 0 where
  pub way : ℕ
  pub period : ℕ
  pub seller : ℕ
  pub buyer : ℕ
  pub quantity : ℕ
  pub price : ℕ

-- the order with q still open
abbrev pub leaving : Order → ℕ → Order
leaving o q = record { number = o.number; unit = o.unit; direction = o.direction; period = o.period; price = o.price; quantity = q }

-- the order with x less open
abbrev pub less : Order → ℕ → Order
less o x = leaving o (o.quantity - x)

-- the orders with x less under the number n; "An emptied order is gone."
unfoldable pub lessen : ℕ → ℕ → List Order → List Order
lessen n x [] = []
lessen n x (o ∷ os) =
    cond (eqb o.number n)
    (cond (leb o.quantity x) os (less o x ∷ os))
    (o ∷ lessen n x os)

-- numbers that rise, so that no two are the same
unfoldable pub rising : List ℕ → Bool
rising [] = true
rising (n ∷ ns) = every (ltb n) ns && rising ns

abbrev pub numbers : List Order → List ℕ
numbers os = map (λ o. o.number) os

-- what orders have open together
abbrev pub quantities : List Order → ℕ
quantities os = sum_of (λ o. o.quantity) os

-- "Lay bids high to low and asks low to high, equal prices by number."
unfoldable pub bid_ahead : Order → Order → Bool
bid_ahead a b = ltb b.price a.price || (eqb a.price b.price && ltb a.number b.number)

unfoldable pub ask_ahead : Order → Order → Bool
ask_ahead a b = ltb a.price b.price || (eqb a.price b.price && ltb a.number b.number)

-- an order put into a laid list, before the first that it stands ahead of
unfoldable pub insert : (Order → Order → Bool) → Order → List Order → List Order
insert ahead o [] = o ∷ []
insert ahead o (x ∷ xs) =
    let rest = insert ahead o xs in
    cond (ahead o x) (o ∷ x ∷ xs) (x ∷ rest)

unfoldable pub laid : (Order → Order → Bool) → List Order → List Order
laid ahead [] = []
laid ahead (o ∷ os) = insert ahead o (laid ahead os)

-- a period's bids, high to low
abbrev pub bids : ℕ → List Order → List Order
bids period os = laid bid_ahead (keep (λ o. buys o.direction && eqb o.period period) os)

-- a period's asks, low to high
abbrev pub asks : ℕ → List Order → List Order
asks period os = laid ask_ahead (keep (λ o. sells o.direction && eqb o.period period) os)
