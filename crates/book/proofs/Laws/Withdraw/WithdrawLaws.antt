-- The book in memory without an offer.
use Rattle.std.proofs.Common.{◌≡◌, ℕ, ◌+◌, ◌-◌, ◌*◌, ◌<◌, ◌≤◌, true, not, eqb, List, ◌++◌, length, get_or, take, drop, set}
use Rattle.std.proofs.Common.{sym, ap, ◌∙◌, arith, length-append, length-drop, length-set}
use Rattle.std.proofs.Common.{length-take, length-take-le, get_or-drop, get_or-set_other, get_or-take, get_or-set_same, get_or-append-add}
use native.Mathlib.Decide.{dec_lt}
use lib.ListN.{get_or-append}
use Rattle.measures.specs.Lists.{keep, table}
use Rattle.measures.proofs.ListLaws.{table_is, table_ext, table_at, table-length}
use Rattle.matching.specs.Memory.{orders_in}
use Rattle.book.specs.Book.{OpenOffer, no_offer, with_offers}
use Rattle.book.specs.Layout.{
  DAYS,
  FLOOR,
  CEILING,
  PHASE,
  GIVEN,
  UNITS,
  OFFERS,
  ORDERS,
  LAYOUT,
  offer_words,
  offer_place,
  orders_start,
  UNIT,
  PARTNER,
  TAKEN,
  PRICE,
  amounts_start,
  amount_words,
  amounts_place,
  amount_place,
  figures_start,
  word,
  unit_at,
  amount_at,
  offer_at,
  orders_part,
  decode,
  Aside,
}
use Rattle.book.specs.Inner.Runs.{Shifted}
use Rattle.book.specs.Contract.{sound_in}
use Rattle.book.proofs.Laws.Answer.MadeLaws.{sound_readable}
use Rattle.book.proofs.Laws.Memory.WordLaws.{book_same, units_same, orders_same, aside_by}
use Rattle.book.proofs.Laws.Withdraw.OfferPlaceLaws.{offer_gone}

-- a table without one place
pub table-without : {A : Type 0} (n j : ℕ) (f g : ℕ → A) (d : A) → j < n → ((k : ℕ) → k < j → g k ≡ f k) → ((k : ℕ) → j ≤ k → k < n - 1 → g k ≡ f (k + 1))
    → table (n - 1) g ≡ take j (table n f) ++ drop (j + 1) (table n f)
table-without {A} n j f g d hj before behind = table_is (n - 1) g (take j (table n f) ++ drop (j + 1) (table n f)) d len at
  where
    ln : length (table n f) ≡ n
    ln = table-length n f

    lj : length (take j (table n f)) ≡ j
    lj = length-take-le j (table n f) (omega (arith, ln))

    len : length (take j (table n f) ++ drop (j + 1) (table n f)) ≡ n - 1
    len = simp (length-append, length-take, length-drop, ln) (omega arith)

    go : (k : ℕ) → k < n - 1 → Dec (k < j) → g k ≡ get_or (take j (table n f) ++ drop (j + 1) (table n f)) k d
    go k hk (yes l) =
        let a : k < length (take j (table n f)) = omega (arith, lj) in
        before k l ∙ sym (table_at n f k d (omega arith)) ∙ sym (get_or-take j (table n f) k d l)
        ∙ sym (get_or-append (take j (table n f)) (drop (j + 1) (table n f)) d k a)
    go k hk (no l) =
        let e : k ≡ length (take j (table n f)) + (k - j) = omega (arith, lj) in
        let s : j + 1 + (k - j) ≡ k + 1 = omega arith in
        behind k (omega arith) hk ∙ sym (table_at n f (k + 1) d (omega arith))
        ∙ ap (λ (i : ℕ). get_or (table n f) i d) (sym s)
        ∙ sym (get_or-drop (j + 1) (table n f) (k - j) d)
        ∙ sym (get_or-append-add (take j (table n f)) (drop (j + 1) (table n f)) (k - j) d)
        ∙ ap (λ (i : ℕ). get_or (take j (table n f) ++ drop (j + 1) (table n f)) i d) (sym e)

    at : (k : ℕ) → k < n - 1 → g k ≡ get_or (take j (table n f) ++ drop (j + 1) (table n f)) k d
    at k hk = go k hk (dec_lt k j)

-- an offer by its words
pub offer_same : (x m : List ℕ) (d k l : ℕ) → ((f : ℕ) → f < 5 → word x (offer_place k + f) ≡ word m (offer_place l + f))
    → ((p : ℕ) → p < 24 * d → word x (amount_place k p) ≡ word m (amount_place l p)) → offer_at x d k ≡ offer_at m d l
offer_same x m d k l h t =
    rw (
      first,
      h UNIT (omega arith),
      h PARTNER (omega arith),
      h PRICE (omega arith),
      h TAKEN (omega arith),
      table_ext (24 * d) (amount_at x k) (amount_at m l) t,
    )
  where
    first : word x (offer_place k) ≡ word m (offer_place l)
    first =
        let a : offer_place k ≡ offer_place k + 0 = omega arith in
        let b : offer_place l ≡ offer_place l + 0 = omega arith in ap (word x) a ∙ h 0 (omega arith) ∙ sym (ap (word m) b)

-- the memory without the offer at place j: x has the amounts moved, y the heads too
module _ (m x y : List ℕ) (n j : ℕ) (s : sound_in m ≡ true) (hj : j < word m OFFERS) (e : word m (offer_place j) ≡ n)
    (a : Shifted m (amounts_place j) (amounts_place (word m OFFERS - 1)) amount_words x)
    (b : Shifted x (offer_place j) (offer_place (word m OFFERS - 1)) offer_words y) where
  few : word m OFFERS ≤ 8
  few = (sound_readable m s).offers_to

  days : word m DAYS ≤ 31
  days = (sound_readable m s).days_to

  abbrev less : List ℕ
  less = set y OFFERS (word m OFFERS - 1)

  other : (i : ℕ) → (i ≡ OFFERS → ⊥) → word less i ≡ word y i
  other i ne = get_or-set_other y OFFERS i (word m OFFERS - 1) 0 ne

  count : word less OFFERS ≡ word m OFFERS - 1
  count = let r = sound_readable m s in get_or-set_same y OFFERS (word m OFFERS - 1) 0 (omega (arith, a.long, b.long))

  low : (i : ℕ) → i < offer_place j → (i ≡ OFFERS → ⊥) → word less i ≡ word m i
  low i l ne = other i ne ∙ b.before i l ∙ a.before i (omega (arith, few))

  heads : (i : ℕ) → offer_place j ≤ i → i < offer_place (word m OFFERS - 1) → word less i ≡ word m (i + offer_words)
  heads i l u = other i (omega arith) ∙ b.here i l u ∙ a.before (i + offer_words) (omega (arith, few))

  -- past the offers, but for the amounts that moved
  rest : (i : ℕ) → orders_start ≤ i → word less i ≡ word x i
  rest i l = other i (omega arith) ∙ b.behind i (omega (arith, few))

  orders_kept : (i : ℕ) → orders_start ≤ i → i < amounts_start → word less i ≡ word m i
  orders_kept i l u = rest i l ∙ a.before i (omega arith)

  high : (i : ℕ) → figures_start ≤ i → word less i ≡ word m i
  high i l = rest i (omega arith) ∙ a.behind i (omega (arith, few))

  before : (p k : ℕ) → p < 24 * word m DAYS → k < j → amount_at less k p ≡ amount_at m k p
  before p k hp l = rest (amount_place k p) (omega arith) ∙ a.before (amount_place k p) (omega (arith, days))

  behind : (p k : ℕ) → p < 24 * word m DAYS → j ≤ k → k < word m OFFERS - 1 → amount_at less k p ≡ amount_at m (k + 1) p
  behind p k hp l u =
      rest (amount_place k p) (omega arith) ∙ a.here (amount_place k p) (omega arith) (omega (arith, days)) ∙ ap (word m) (omega arith)

  d0 : word less DAYS ≡ word m DAYS
  d0 = low DAYS (omega arith) (omega arith)

  offers : table (word less OFFERS) (offer_at less (word less DAYS)) ≡ keep (λ (o : OpenOffer). not (eqb o.number n)) (decode m).offers
  unfolding decode
  offers =
      ap (λ (k : ℕ). table k (offer_at less (word less DAYS))) count
      ∙ ap (λ (d : ℕ). table (word m OFFERS - 1) (offer_at less d)) d0
      ∙ table-without (word m OFFERS) j (offer_at m (word m DAYS)) (offer_at less (word m DAYS)) no_offer hj
      (λ k l. offer_same less m (word m DAYS) k k (λ f hf. low (offer_place k + f) (omega arith) (omega arith)) (λ p hp. before p k hp l))
      (λ k l u. offer_same less m (word m DAYS) k (k + 1) (λ f hf. heads (offer_place k + f) (omega arith) (omega arith) ∙ ap (word m) (omega arith))
      (λ p hp. behind p k hp l u))
      ∙ sym (offer_gone m s n j hj e)

  pub withdrawn : decode less ≡ with_offers (decode m) (keep (λ (o : OpenOffer). not (eqb o.number n)) (decode m).offers)
  unfolding decode
  withdrawn =
      book_same (decode less) (with_offers (decode m) (keep (λ (o : OpenOffer). not (eqb o.number n)) (decode m).offers)) d0
      (low FLOOR (omega arith) (omega arith)) (low CEILING (omega arith) (omega arith)) (low PHASE (omega arith) (omega arith))
      (low GIVEN (omega arith) (omega arith))
      (ap (λ (k : ℕ). table k (unit_at less (word less DAYS))) (low UNITS (omega arith) (omega arith))
      ∙ ap (λ (d : ℕ). table (word m UNITS) (unit_at less d)) d0
      ∙ units_same less m (word m UNITS) (word m DAYS) (λ i c d. let r = sound_readable m s in low i (omega arith) (omega arith))
      (λ k p i hk hp l u. high i (omega arith)))
      offers
      (ap (λ (k : ℕ). orders_in (orders_part less) k) (low ORDERS (omega arith) (omega arith))
      ∙ orders_same less m (word m ORDERS) (sound_readable m s).orders_to (λ i c d. let r = sound_readable m s in orders_kept i c (omega arith)))

  pub withdrawn_aside : Aside m less
  withdrawn_aside =
      aside_by less m (length-set y OFFERS (word m OFFERS - 1) ∙ b.long ∙ a.long) (low LAYOUT (omega arith) (omega arith)) (λ i l. high i (omega arith))
