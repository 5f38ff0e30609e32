-- The effect of an offer on a book in memory: its amounts, its head and the two counts.
use Rattle.std.proofs.Common.{◌≡◌, ℕ, ◌+◌, ◌*◌, ◌<◌, ◌≤◌, List, [], ◌∷◌, ◌++◌, length, set, refl, ap, ◌∙◌, arith, length-set, get_or-set_other, get_or-set_same}
use native.Mathlib.Decide.{ℕ_discrete}
use Rattle.measures.specs.Lists.{table}
use Rattle.measures.proofs.ListLaws.{table_more, table_is}
use Rattle.matching.specs.Memory.{orders_in}
use Rattle.book.specs.Book.{OpenOffer}
use Rattle.book.specs.Layout.{
  DAYS,
  FLOOR,
  CEILING,
  PHASE,
  GIVEN,
  UNITS,
  OFFERS,
  ORDERS,
  LAYOUT,
  offer_place,
  UNIT,
  PARTNER,
  TAKEN,
  PRICE,
  amounts_start,
  amount_place,
  figures_start,
  word,
  unit_at,
  amount_at,
  offer_at,
  orders_part,
  decode,
  Aside,
}
use Rattle.book.specs.Inner.Readable.{Readable}
use Rattle.book.specs.Offer.{offered}
use Rattle.book.proofs.Laws.Memory.WordLaws.{book_same, units_same, offers_same, orders_same, aside_by}

-- the periods whose amount is written so far
pub record Putting (m : List ℕ) (j : ℕ) (amounts : List ℕ) (x : List ℕ) (p : ℕ) : Type 0 where
  pub at : p ≤ 24 * word m DAYS
  pub long : length x ≡ length m
  pub put : (q : ℕ) → q < p → word x (amount_place j q) ≡ word amounts q
  pub kept : (i : ℕ) → ((q : ℕ) → q < p → i ≡ amount_place j q → ⊥) → word x i ≡ word m i

pub putting_start : (m : List ℕ) (j : ℕ) (amounts : List ℕ) → Putting m j amounts m 0
putting_start m j amounts = record { at = omega arith; long = refl; put = λ q l. absurd (omega arith); kept = λ i h. refl }

pub putting_more : (m : List ℕ) (j : ℕ) (amounts x : List ℕ) (p : ℕ) → Readable m → j < 8 → p < 24 * word m DAYS → Putting m j amounts x p
    → Putting m j amounts (set x (amount_place j p) (word amounts p)) (p + 1)
putting_more m j amounts x p r hj hp g =
    record {
      at = omega arith;
      long = length-set x (amount_place j p) (word amounts p) ∙ g.long;
      put = λ q l. put q l (ℕ_discrete q p);
      kept = λ i h. get_or-set_other x (amount_place j p) i (word amounts p) 0 (λ e. h p (omega arith) e) ∙ g.kept i (λ q l e. h q (omega arith) e);
    }
  where
    put : (q : ℕ) → q < p + 1 → Dec (q ≡ p) → word (set x (amount_place j p) (word amounts p)) (amount_place j q) ≡ word amounts q
    put q l (yes e) =
        let a = r.long in
        let b = g.long in
        rw e (get_or-set_same x (amount_place j p) (word amounts p) 0 (omega arith))
    put q l (no e) = get_or-set_other x (amount_place j p) (amount_place j q) (word amounts p) 0 (omega arith) ∙ g.put q (omega arith)

-- the memory with one offer more
module _ (m x : List ℕ) (unit partner price : ℕ) (amounts : List ℕ) (r : Readable m) (room : word m OFFERS < 8) (whole : length amounts
    ≡ 24 * word m DAYS) (long : length x ≡ length m)
    (put : (p : ℕ) → p < 24 * word m DAYS → word x (amount_place (word m OFFERS) p) ≡ word amounts p)
    (kept : (i : ℕ) → ((p : ℕ) → p < 24 * word m DAYS → i ≡ amount_place (word m OFFERS) p → ⊥) → word x i ≡ word m i) where
  abbrev t0 : List ℕ
  t0 = set x (offer_place (word m OFFERS)) (word m GIVEN + 1)

  abbrev t1 : List ℕ
  t1 = set t0 (offer_place (word m OFFERS) + UNIT) unit

  abbrev t2 : List ℕ
  t2 = set t1 (offer_place (word m OFFERS) + PARTNER) partner

  abbrev t3 : List ℕ
  t3 = set t2 (offer_place (word m OFFERS) + PRICE) price

  abbrev t4 : List ℕ
  t4 = set t3 (offer_place (word m OFFERS) + TAKEN) 0

  abbrev t5 : List ℕ
  t5 = set t4 OFFERS (word m OFFERS + 1)

  abbrev more : List ℕ
  more = set t5 GIVEN (word m GIVEN + 1)

  n0 : length t0 ≡ length m
  n0 = length-set x (offer_place (word m OFFERS)) (word m GIVEN + 1) ∙ long

  n1 : length t1 ≡ length m
  n1 = length-set t0 (offer_place (word m OFFERS) + UNIT) unit ∙ n0

  n2 : length t2 ≡ length m
  n2 = length-set t1 (offer_place (word m OFFERS) + PARTNER) partner ∙ n1

  n3 : length t3 ≡ length m
  n3 = length-set t2 (offer_place (word m OFFERS) + PRICE) price ∙ n2

  n4 : length t4 ≡ length m
  n4 = length-set t3 (offer_place (word m OFFERS) + TAKEN) 0 ∙ n3

  n5 : length t5 ≡ length m
  n5 = length-set t4 OFFERS (word m OFFERS + 1) ∙ n4

  size : figures_start ≤ length m
  size = let a = r.long in let b = r.days_from in omega arith

  -- words that a run of the stores leaves
  from5 : (i : ℕ) → (i ≡ GIVEN → ⊥) → (i ≡ OFFERS → ⊥) → word more i ≡ word t4 i
  from5 i a b = get_or-set_other t5 GIVEN i (word m GIVEN + 1) 0 a ∙ get_or-set_other t4 OFFERS i (word m OFFERS + 1) 0 b

  from3 : (i : ℕ) → (i ≡ GIVEN → ⊥) → (i ≡ OFFERS → ⊥) → (i ≡ offer_place (word m OFFERS) + TAKEN → ⊥)
      → (i ≡ offer_place (word m OFFERS) + PRICE → ⊥) → word more i ≡ word t2 i
  from3 i a b c d =
      from5 i a b ∙ get_or-set_other t3 (offer_place (word m OFFERS) + TAKEN) i 0 0 c
      ∙ get_or-set_other t2 (offer_place (word m OFFERS) + PRICE) i price 0 d

  other : (i : ℕ) → (i ≡ GIVEN → ⊥) → (i ≡ OFFERS → ⊥) → ((f : ℕ) → f < 5 → i ≡ offer_place (word m OFFERS) + f → ⊥) → word more i ≡ word x i
  other i a b h =
      from3 i a b (λ e. h TAKEN (omega arith) (omega arith)) (λ e. h PRICE (omega arith) (omega arith))
      ∙ get_or-set_other t1 (offer_place (word m OFFERS) + PARTNER) i partner 0 (λ e. h PARTNER (omega arith) (omega arith))
      ∙ get_or-set_other t0 (offer_place (word m OFFERS) + UNIT) i unit 0 (λ e. h UNIT (omega arith) (omega arith))
      ∙ get_or-set_other x (offer_place (word m OFFERS)) i (word m GIVEN + 1) 0 (λ e. h 0 (omega arith) (omega arith))

  -- the seven words
  number_set : word more (offer_place (word m OFFERS)) ≡ word m GIVEN + 1
  number_set =
      from3 (offer_place (word m OFFERS)) (omega arith) (omega arith) (omega arith) (omega arith)
      ∙ get_or-set_other t1 (offer_place (word m OFFERS) + PARTNER) (offer_place (word m OFFERS)) partner 0 (omega arith)
      ∙ get_or-set_other t0 (offer_place (word m OFFERS) + UNIT) (offer_place (word m OFFERS)) unit 0 (omega arith)
      ∙ get_or-set_same x (offer_place (word m OFFERS)) (word m GIVEN + 1) 0 (omega (arith, size))

  unit_set : word more (offer_place (word m OFFERS) + UNIT) ≡ unit
  unit_set =
      from3 (offer_place (word m OFFERS) + UNIT) (omega arith) (omega arith) (omega arith) (omega arith)
      ∙ get_or-set_other t1 (offer_place (word m OFFERS) + PARTNER) (offer_place (word m OFFERS) + UNIT) partner 0 (omega arith)
      ∙ get_or-set_same t0 (offer_place (word m OFFERS) + UNIT) unit 0 (omega (arith, size, n0))

  partner_set : word more (offer_place (word m OFFERS) + PARTNER) ≡ partner
  partner_set =
      from3 (offer_place (word m OFFERS) + PARTNER) (omega arith) (omega arith) (omega arith) (omega arith)
      ∙ get_or-set_same t1 (offer_place (word m OFFERS) + PARTNER) partner 0 (omega (arith, size, n1))

  price-set : word more (offer_place (word m OFFERS) + PRICE) ≡ price
  price-set =
      from5 (offer_place (word m OFFERS) + PRICE) (omega arith) (omega arith)
      ∙ get_or-set_other t3 (offer_place (word m OFFERS) + TAKEN) (offer_place (word m OFFERS) + PRICE) 0 0 (omega arith)
      ∙ get_or-set_same t2 (offer_place (word m OFFERS) + PRICE) price 0 (omega (arith, size, n2))

  taken-set : word more (offer_place (word m OFFERS) + TAKEN) ≡ 0
  taken-set =
      from5 (offer_place (word m OFFERS) + TAKEN) (omega arith) (omega arith)
      ∙ get_or-set_same t3 (offer_place (word m OFFERS) + TAKEN) 0 0 (omega (arith, size, n3))

  count_set : word more OFFERS ≡ word m OFFERS + 1
  count_set = get_or-set_other t5 GIVEN OFFERS (word m GIVEN + 1) 0 (omega arith) ∙ get_or-set_same t4 OFFERS (word m OFFERS + 1) 0 (omega (arith, size, n4))

  given-set : word more GIVEN ≡ word m GIVEN + 1
  given-set = get_or-set_same t5 GIVEN (word m GIVEN + 1) 0 (omega (arith, size, n5))

  -- all other words
  low : (i : ℕ) → i < amounts_start → (i ≡ GIVEN → ⊥) → (i ≡ OFFERS → ⊥) → ((f : ℕ) → f < 5 → i ≡ offer_place (word m OFFERS) + f → ⊥) → word more i ≡ word m i
  low i l a b h = other i a b h ∙ kept i (λ p hp e. omega arith)

  high : (i : ℕ) → figures_start ≤ i → word more i ≡ word m i
  high i l =
      other i (omega arith) (omega arith) (λ f hf e. omega (arith, room)) ∙ kept i (λ p hp e. omega (arith, r.days_to, room))

  amounts-set : table (24 * word m DAYS) (amount_at more (word m OFFERS)) ≡ amounts
  amounts-set = table_is (24 * word m DAYS) (amount_at more (word m OFFERS)) amounts 0 whole
      (λ p hp. other (amount_place (word m OFFERS) p) (omega arith) (omega arith) (λ f hf e. omega (arith, room)) ∙ put p hp)

  new : offer_at more (word m DAYS) (word m OFFERS)
      ≡ record { number = word m GIVEN + 1; unit = unit; partner = partner; price = price; taken = 0; amounts = amounts }
  new = rw (number_set, unit_set, partner_set, price-set, taken-set, amounts-set)

  w : (i : ℕ) → i < 8 → (i ≡ GIVEN → ⊥) → (i ≡ OFFERS → ⊥) → word more i ≡ word m i
  w i l a b = low i (omega arith) a b (λ f hf e. omega arith)

  d0 : word more DAYS ≡ word m DAYS
  d0 = w DAYS (omega arith) (omega arith) (omega arith)

  offers : table (word more OFFERS) (offer_at more (word more DAYS)) ≡ table (word m OFFERS) (offer_at m (word m DAYS))
      ++ (record { number = word m GIVEN + 1; unit = unit; partner = partner; price = price; taken = 0; amounts = amounts } ∷ [])
  offers =
      ap (λ (n : ℕ). table n (offer_at more (word more DAYS))) count_set
      ∙ ap (λ (d : ℕ). table (word m OFFERS + 1) (offer_at more d)) d0
      ∙ table_more (word m OFFERS) (offer_at more (word m DAYS))
      ∙ ap (λ (l : List OpenOffer). l ++ (offer_at more (word m DAYS) (word m OFFERS) ∷ []))
      (offers_same more m (word m OFFERS) (word m DAYS) (λ i a b. low i (omega (arith, room)) (omega arith) (omega arith) (λ f hf e. omega arith)) at)
      ∙ ap (λ (o : OpenOffer). table (word m OFFERS) (offer_at m (word m DAYS)) ++ (o ∷ [])) new
    where
      at : (p k : ℕ) → p < 24 * word m DAYS → k < word m OFFERS → word more (amount_place k p) ≡ word m (amount_place k p)
      at p k hp hk =
          other (amount_place k p) (omega arith) (omega arith) (λ f hf e. omega (arith, room))
          ∙ kept (amount_place k p) (λ q hq e. omega (arith, r.days_to))

  offered_in : decode more ≡ offered (decode m) unit partner price amounts
  unfolding decode
  offered_in =
      book_same (decode more) (offered (decode m) unit partner price amounts) d0 (w FLOOR (omega arith) (omega arith) (omega arith))
      (w CEILING (omega arith) (omega arith) (omega arith)) (w PHASE (omega arith) (omega arith) (omega arith)) given-set
      (ap (λ (k : ℕ). table k (unit_at more (word more DAYS))) (w UNITS (omega arith) (omega arith) (omega arith))
      ∙ ap (λ (d : ℕ). table (word m UNITS) (unit_at more d)) d0
      ∙ units_same more m (word m UNITS) (word m DAYS) (λ i a b. low i (omega (arith, r.units_to)) (omega arith) (omega arith)
      (λ f hf e. omega (arith, r.units_to)))
      (λ k p i hk hp l u. high i (omega arith)))
      offers
      (ap (λ (k : ℕ). orders_in (orders_part more) k) (w ORDERS (omega arith) (omega arith) (omega arith))
      ∙ orders_same more m (word m ORDERS) r.orders_to (λ i a b. low i (omega (arith, r.orders_to)) (omega arith) (omega arith)
      (λ f hf e. omega (arith, room))))

  offered_aside : Aside m more
  offered_aside = aside_by more m (length-set t5 GIVEN (word m GIVEN + 1) ∙ n5) (low LAYOUT (omega arith) (omega arith) (omega arith) (λ f hf e. omega arith))
      (λ i l. high i (omega arith))

  pub offer_more : (decode more ≡ offered (decode m) unit partner price amounts) × (Aside m more)
  offer_more = (offered_in, offered_aside)
