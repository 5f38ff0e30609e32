-- Where a search for a number ends.
use Rattle.std.specs.Prelude.{◌≡◌, ℕ, ◌<◌, Option, None, Some, List, ◌≢◌}
use Rattle.book.specs.Layout.{OFFERS, ORDERS, offer_place, order_place, word}

-- j is the first of the places below n at which f gives v
pub record First (f : ℕ → ℕ) (n v j : ℕ) : Type 0 where
  pub there : j < n
  pub here : f j ≡ v
  pub before : (i : ℕ) → i < j → f i ≢ v

-- r is that place, or none where f gives v at none of them
abbrev pub Found : (ℕ → ℕ) → ℕ → ℕ → Option ℕ → Type 0
Found f n v None = (i : ℕ) → i < n → f i ≢ v
Found f n v (Some j) = First f n v j

-- the number of the open offer at a place, and of the open order
abbrev pub offer_number_at : List ℕ → ℕ → ℕ
offer_number_at m j = word m (offer_place j)

abbrev pub order_number_at : List ℕ → ℕ → ℕ
order_number_at m k = word m (order_place k)

-- the open offer of a number is the one at place j, and the open order the one at place k
abbrev pub OfferHas : List ℕ → ℕ → ℕ → Type 0
OfferHas m n j = First (offer_number_at m) (word m OFFERS) n j

abbrev pub OrderHas : List ℕ → ℕ → ℕ → Type 0
OrderHas m n k = First (order_number_at m) (word m ORDERS) n k

abbrev pub OfferFound : List ℕ → ℕ → Option ℕ → Type 0
OfferFound m n r = Found (offer_number_at m) (word m OFFERS) n r

abbrev pub OrderFound : List ℕ → ℕ → Option ℕ → Type 0
OrderFound m n r = Found (order_number_at m) (word m ORDERS) n r
