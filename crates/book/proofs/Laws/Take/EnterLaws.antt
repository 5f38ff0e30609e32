-- A take's rows fit the book that they are entered in.
use Rattle.std.proofs.Common.{◌≡◌, ℕ, zero, suc, ◌+◌, ◌*◌, ◌<◌, ◌≤◌, Bool, true, false, cond, eqb, List, [], ◌∷◌, length, get_or, take}
use Rattle.std.proofs.Common.{sym, arith, length-take-le, get_or-take}
use native.Mathlib.Decide.{dec_lt}
use Rattle.measures.specs.Ranges.{most_energy}
use Rattle.measures.specs.Lists.{table}
use Rattle.measures.proofs.RangeLaws.{In}
use Rattle.measures.proofs.ListLaws.{cond_case, table_at, amount_le}
use Rattle.limits.specs.Units.{periods, generator}
use Rattle.matching.specs.Orders.{Row}
use Rattle.book.specs.Book.{unit_of}
use Rattle.book.specs.Take.{way_of, take_rows_from, take_rows}
use Rattle.book.specs.Layout.{DAYS, UNITS, OFFERS, offer_place, UNIT, PRICE, word, amount_at, offer_at, decode}
use Rattle.book.specs.Contract.{sound_in}
use Rattle.book.specs.Inner.RowsIn.{RowFits, PartsThere}
use Rattle.book.proofs.Laws.Answer.MadeLaws.{sound_readable}
use Rattle.book.proofs.Laws.Rows.SmallLaws.{no_row}
use Rattle.book.proofs.Laws.Take.PartyLaws.{offer_sound}
use Rattle.book.proofs.Laws.Check.ShareLaws.{get_d_past}

-- the rows from period p on name the two units, periods of the term and the parts
module _ (m : List ℕ) (w s b pr : ℕ) (hs : In 1 (word m UNITS) s) (hb : In 1 (word m UNITS) b) where
  from_fits : (ps : List ℕ) (p : ℕ) → ((i : ℕ) → get_or ps i 0 ≤ most_energy) → p + length ps ≤ 24 * word m DAYS
      → (i : ℕ) → i < length (take_rows_from p w s b pr ps) → RowFits m (get_or (take_rows_from p w s b pr ps) i no_row)
  unfolding take_rows_from
  from_fits [] p h t i l = absurd (omega arith)
  from_fits (q ∷ qs) p h t i l = go (λ k n. from_fits qs (suc p) (λ z. h (suc z)) (omega arith) k n) (eqb q 0) i l
    where
      go : ((k : ℕ) → k < length (take_rows_from (suc p) w s b pr qs) → RowFits m (get_or (take_rows_from (suc p) w s b pr qs) k no_row)) → (z : Bool) (k : ℕ)
          → k < length (cond z (take_rows_from (suc p) w s b pr qs) (record { way = w; period = p; seller = s; buyer = b; quantity = q; price = pr }
          ∷ take_rows_from (suc p) w s b pr qs))
          → RowFits m (get_or (cond z (take_rows_from (suc p) w s b pr qs) (record { way = w; period = p; seller = s; buyer = b; quantity = q; price = pr }
          ∷ take_rows_from (suc p) w s b pr qs)) k no_row)
      go ih true k n = ih k n
      go ih false zero n = record { period = omega arith; seller_from = hs.0; seller_to = hs.1; buyer_from = hb.0; buyer_to = hb.1; quantity = h 0 }
      go ih false (suc k) n = ih k (omega arith)

  from_few : (ps : List ℕ) (p : ℕ) → length (take_rows_from p w s b pr ps) ≤ length ps
  unfolding take_rows_from
  from_few [] p = omega arith
  from_few (q ∷ qs) p = go (from_few qs (suc p)) (eqb q 0)
    where
      go : length (take_rows_from (suc p) w s b pr qs) ≤ length qs → (z : Bool)
          → length (cond z (take_rows_from (suc p) w s b pr qs) (record { way = w; period = p; seller = s; buyer = b; quantity = q; price = pr }
          ∷ take_rows_from (suc p) w s b pr qs)) ≤ suc (length qs)
      go ih true = omega arith
      go ih false = omega arith

module _ (m : List ℕ) (u j : ℕ) (l : List ℕ) (s : sound_in m ≡ true) (hj : j < word m OFFERS) (hu : In 1 (word m UNITS) u) (room : 744
    ≤ length l) (pt : PartsThere m j l) where
  parts_long : length (take (24 * word m DAYS) l) ≡ 24 * word m DAYS
  parts_long = let g = sound_readable m s in length-take-le (24 * word m DAYS) l (omega arith)

  part_small : (i : ℕ) → get_or (take (24 * word m DAYS) l) i 0 ≤ most_energy
  part_small i = go (dec_lt i (24 * word m DAYS))
    where
      go : Dec (i < 24 * word m DAYS) → get_or (take (24 * word m DAYS) l) i 0 ≤ most_energy
      go (yes h) =
          let a = pt i h in
          let b = get_or-take (24 * word m DAYS) l i 0 h in
          let c = amount_le (table (periods (word m DAYS)) (amount_at m j)) i in
          let d = table_at (periods (word m DAYS)) (amount_at m j) i 0 h in
          let e = (offer_sound m j s hj).whole in
          omega arith
      go (no h) =
          let z = get_d_past (take (24 * word m DAYS) l) i (omega (arith, parts_long)) in
          omega arith

  pub take_fits : (i : ℕ) → i < length (take_rows (decode m) (offer_at m (word m DAYS) j) u (take (24 * word m DAYS) l))
      → RowFits m (get_or (take_rows (decode m) (offer_at m (word m DAYS) j) u (take (24 * word m DAYS) l)) i no_row)
  unfolding take_rows
  take_fits =
      let o = (offer_sound m j s hj).unit in
      let n : 0 + length (take (24 * word m DAYS) l) ≤ 24 * word m DAYS = omega (arith, parts_long) in
      cond_case (λ (t : List Row). (i : ℕ) → i < length t → RowFits m (get_or t i no_row)) (generator (unit_of (decode m) (word m (offer_place j + UNIT))).kind) _ _
      (λ e. from_fits m (way_of (offer_at m (word m DAYS) j)) (word m (offer_place j + UNIT)) u (word m (offer_place j + PRICE)) o hu
      (take (24 * word m DAYS) l) 0 part_small n)
      (λ e. from_fits m (way_of (offer_at m (word m DAYS) j)) u (word m (offer_place j + UNIT)) (word m (offer_place j + PRICE)) hu o
      (take (24 * word m DAYS) l) 0 part_small n)

  pub take_few : length (take_rows (decode m) (offer_at m (word m DAYS) j) u (take (24 * word m DAYS) l)) ≤ 744
  unfolding take_rows
  take_few =
      let g = sound_readable m s in
      let o = (offer_sound m j s hj).unit in
      let n : length (take (24 * word m DAYS) l) ≤ 744 = omega (arith, parts_long) in
      cond_case (λ (t : List Row). length t ≤ 744) (generator (unit_of (decode m) (word m (offer_place j + UNIT))).kind) _ _
      (λ e. let a = from_few m (way_of (offer_at m (word m DAYS) j)) (word m (offer_place j + UNIT)) u (word m (offer_place j + PRICE)) o hu
      (take (24 * word m DAYS) l) 0 in omega
      arith)
      (λ e. let a = from_few m (way_of (offer_at m (word m DAYS) j)) u (word m (offer_place j + UNIT)) (word m (offer_place j + PRICE)) hu o
      (take (24 * word m DAYS) l) 0 in omega
      arith)

  pub rows-asks : (rows : List ℕ) → 4464 ≤ length rows
      → (j < 8) × (1 ≤ word m (offer_place j + UNIT)) × (word m (offer_place j + UNIT) ≤ word m UNITS) × (744 ≤ length l) × (4464 ≤ length rows)
  rows-asks rows h =
      let g = sound_readable m s in
      let o = offer_sound m j s hj in
      (omega arith, o.unit.0, o.unit.1, room, h)

  -- the parts of the periods of the term
  pub parts_first : (p : ℕ) → p < 24 * word m DAYS → get_or l p 0 ≡ get_or (take (24 * word m DAYS) l) p 0
  parts_first p h = sym (get_or-take (24 * word m DAYS) l p 0 h)
