-- An offer's amounts shared and lessened where they stand, and the fit of the parts.
use Rattle.std.proofs.Common.{◌≡◌, ℕ, zero, suc, ◌+◌, ◌-◌, ◌*◌, ◌<◌, ◌≤◌, true, List, [], ◌∷◌, ◌++◌, length, get_or, take, drop, replicate, refl}
use Rattle.std.proofs.Common.{sym, ap, ◌∙◌, arith, get_or-drop, get_or-take}
use native.Mathlib.Decide.{dec_lt}
use borrow.Rule.Slice.PartMut.{put_mid, same_len_mid, mid_len}
use Rattle.measures.specs.Ranges.{most_energy}
use Rattle.measures.specs.Lists.{table}
use Rattle.measures.specs.Sharing.{total, parts, less_each, sharing, Is}
use Rattle.measures.proofs.SharingLaws.{is_shared, parts-sum}
use Rattle.measures.proofs.LessLaws.{less-length, less_at_lem}
use Rattle.measures.proofs.ListLaws.{table-length, table_is, amount_le}
use Rattle.measures.proofs.RangeLaws.{In}
use Rattle.limits.specs.Units.{periods}
use Rattle.book.specs.Offer.{raising_amounts}
use Rattle.book.specs.Layout.{DAYS, UNITS, OFFERS, amounts_place, amount_place, word, amount_at, decode}
use Rattle.book.specs.Contract.{sound_in}
use Rattle.book.specs.Inner.Readable.{Readable, declared, Fitted, small}
use Rattle.book.specs.Inner.RowsIn.{fit_checks, parts_at, Nothing, TakeFit, AmountsLess}
use Rattle.book.proofs.Laws.Memory.WordLaws.{word-before, word_behind, word_within}
use Rattle.book.proofs.Laws.Check.MisfitLaws.{zeros_at, misfit_ext, misfit_declared}
use Rattle.book.proofs.Laws.Take.PartyLaws.{offer_sound}
use Rattle.book.proofs.Laws.Sound.RangedLaws.{sound_marks, sound_fits}

-- the amounts of the offer at place j, where they stand
module _ (m : List ℕ) (j : ℕ) (g : Readable m) (hj : j < 8) where
  -- where they begin, and where they end
  abbrev a : ℕ
  a = amounts_place j

  abbrev e : ℕ
  e = amount_place j (24 * word m DAYS)

  abbrev rs : List ℕ
  rs = table (periods (word m DAYS)) (amount_at m j)

  fits : e ≤ length m
  fits = omega (arith, g.long, g.days_to)

  pub amounts_stand : take (e - a) (drop a m) ≡ rs
  amounts_stand =
      sym (table_is (periods (word m DAYS)) (amount_at m j) (take (e - a) (drop a m)) 0 (mid_len a e m fits ∙ omega arith)
      (λ p h. sym (get_or-take (e - a) (drop a m) p 0 (omega arith) ∙ get_or-drop a m p 0)))

  -- `share_offer`: the parts of what stands there
  pub shared-parts : (q : ℕ) (l y : List ℕ) (r : ℕ) → 1 ≤ q → q ≤ total rs → total rs ≤ most_energy → 744 ≤ length l
      → Is (sharing q (take (e - a) (drop a m)) l) r y → y ≡ parts_at m j q ++ drop (periods (word m DAYS)) l
  unfolding parts_at
  shared-parts q l y r some most small room i =
      let n : length rs ≡ 24 * word m DAYS = table-length (periods (word m DAYS)) (amount_at m j) in
      i.memory ∙ ap (λ (x : List ℕ). (sharing q x l).memory) amounts_stand
      ∙ sym (is_shared q rs l (omega (arith, g.days_to)) (omega arith) small most (ap (λ (k : ℕ). parts q rs ++ drop k l) (sym n))).memory

  -- `lessen_amounts`: what stands there is the amounts, each less its part
  module _ (ps ys : List ℕ) (less : ys ≡ less_each (take (e - a) (drop a m)) ps) where
    same : length ys ≡ length (take (e - a) (drop a m))
    same = ap (λ (l : List ℕ). length l) less ∙ less-length (take (e - a) (drop a m)) ps

    as_many : length ys ≡ e - a
    as_many = same ∙ mid_len a e m fits

    own : (p : ℕ) → p < 24 * word m DAYS → word (put_mid a (e - a) m ys) (amount_place j p) ≡ word m (amount_place j p) - get_or ps p 0
    own p h =
        word_within a e m ys (omega arith) fits as_many p (omega arith) ∙ ap (λ (l : List ℕ). get_or l p 0) less
        ∙ less_at_lem (take (e - a) (drop a m)) ps p
        ∙ ap (λ (r : ℕ). r - get_or ps p 0) (get_or-take (e - a) (drop a m) p 0 (omega arith) ∙ get_or-drop a m p 0)

    other : (i : ℕ) → ((p : ℕ) → p < 24 * word m DAYS → i ≡ amount_place j p → ⊥) → word (put_mid a (e - a) m ys) i ≡ word m i
    other i n = go (dec_lt i a) (dec_lt i e)
      where
        go : Dec (i < a) → Dec (i < e) → word (put_mid a (e - a) m ys) i ≡ word m i
        go (yes h) z = word-before a e m ys (omega arith) fits as_many i h
        go (no h) (yes k) = absurd (n (i - a) (omega arith) (omega arith))
        go (no h) (no k) = word_behind a e m ys (omega arith) fits as_many i (omega arith)

    pub amounts_less_lem : AmountsLess m (put_mid a (e - a) m ys) j ps
    amounts_less_lem = record { long = same_len_mid a (e - a) m ys same; own = own; other = other }

-- zeros behind a list change nothing that is read
pub padded_at : (l zs : List ℕ) → ((i : ℕ) → get_or zs i 0 ≡ 0) → (i : ℕ) → get_or (l ++ zs) i 0 ≡ get_or l i 0
padded_at [] zs z i = z i
padded_at (y ∷ l) zs z zero = refl
padded_at (y ∷ l) zs z (suc i) = padded_at l zs z i

-- the parts of a take, as they are shared and as they fit
module _ (m : List ℕ) (u j q : ℕ) (s : sound_in m ≡ true) (hj : j < word m OFFERS) (hu : In 1 (word m UNITS) u) (some : 1 ≤ q) (most : q
    ≤ total (table (periods (word m DAYS)) (amount_at m j))) where
  whole_small : total (table (periods (word m DAYS)) (amount_at m j)) ≤ most_energy
  whole_small = (offer_sound m j s hj).whole.1

  part-most : (i : ℕ) → get_or (parts_at m j q) i 0 ≤ most_energy
  unfolding parts_at
  part-most i =
      let a = amount_le (parts q (table (periods (word m DAYS)) (amount_at m j))) i in
      let b = parts-sum q (table (periods (word m DAYS)) (amount_at m j)) (omega arith) in
      let c = whole_small in
      omega arith

  module _ (l y : List ℕ) (none : Nothing l) (e : y ≡ parts_at m j q ++ drop (periods (word m DAYS)) l) where
    -- behind the parts stands nothing
    parts-only : (i : ℕ) → get_or y i 0 ≡ get_or (parts_at m j q) i 0
    parts-only i =
        ap (λ (x : List ℕ). get_or x i 0) e
        ∙ padded_at (parts_at m j q) (drop (periods (word m DAYS)) l) (λ k. get_or-drop (periods (word m DAYS)) l k 0 ∙ none (periods (word m DAYS) + k)) i

    pub raising_small : small y
    raising_small i = omega (arith, parts-only i, part-most i)

    pub take_fitted : (r : ℕ) → Fitted (decode m) u (declared y (replicate 744 0)) r → TakeFit m u j q r l y
    unfolding fit_checks
    take_fitted r f = record {
      answer =
          f.clean (sound_marks m s u hu)
          ∙ misfit_ext (decode m) u (declared y (replicate 744 0)) (raising_amounts (parts_at m j q)) parts-only (λ i. zeros_at 744 i)
          ∙ misfit_declared (decode m) u (raising_amounts (parts_at m j q)) (sound_fits m s u hu);
      memory = e;
    }
