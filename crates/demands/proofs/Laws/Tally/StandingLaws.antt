-- What demand 3 takes from a sound book.
use Prim.Native.Nat.{ℕ, ◌-◌}
use mathlib.Core.Path.{◌≡◌}
use mathlib.Core.Bool.{true}
use mathlib.Core.List.{List, map}
use native.Mathlib.Omega.{arith}
use lib.ListN.{length}
use Rattle.measures.specs.Lists.{Each, every}
use Rattle.measures.proofs.RangeLaws.{In}
use Rattle.limits.specs.Units.{periods}
use Rattle.matching.specs.Orders.{Order as OpenOrder, rising, numbers}
use Rattle.book.specs.Book.{no_unit, OpenOffer, Book, unit_of}
use Rattle.book.specs.Fit.{nothing}
use Rattle.book.specs.Sound.{each_two, one_direction, sound}
use Rattle.matching.proofs.Laws.Lists.EachLaws.{each_at}
use Rattle.matching.proofs.Laws.Lists.RemainLaws.{each_of}
use Rattle.book.proofs.Laws.Sound.FitLaws.{Fits}
use Rattle.book.proofs.Laws.Sound.SoundLaws.{UnitRanges, OfferRanges, OrderRanges, sound_facts}

-- a unit's orders of a period go one way
abbrev pub OneDirections : List OpenOrder → Type 0
OneDirections os = Each (λ (a : OpenOrder). Each (λ (o : OpenOrder). one_direction a o ≡ true) os) os

pub record Standing (b : Book) : Type 0 where
  pub long : (u : ℕ) → In 1 (length b.units) u → length (unit_of b u).figures ≡ periods b.rules.days
  pub fits : (u : ℕ) → In 1 (length b.units) u → Fits b u nothing
  pub offers : Each (OfferRanges b) b.offers
  pub orders : Each (OrderRanges b) b.orders
  pub offers_rise : rising (map (λ (o : OpenOffer). o.number) b.offers) ≡ true
  pub orders_rise : rising (numbers b.orders) ≡ true
  pub one_directions : OneDirections b.orders

one_directions_lem : (os : List OpenOrder) → each_two one_direction os ≡ true → OneDirections os
unfolding each_two
one_directions_lem os e =
    each_of (λ (a : OpenOrder). every (one_direction a) os) (λ (a : OpenOrder). Each (λ (o : OpenOrder). one_direction a o ≡ true) os)
    (λ a h. each_of (one_direction a) (λ (o : OpenOrder). one_direction a o ≡ true) (λ o k. k) os h) os e

pub standing : (b : Book) → sound b ≡ true → Standing b
standing b e =
    let s = sound_facts b e in
    let f = s.formed in
    record {
      long = λ u h. (each_at (UnitRanges b.rules.days) b.units (u - 1) no_unit f.units (omega arith)).figures;
      fits = s.fits;
      offers = f.offers;
      orders = f.orders;
      offers_rise = f.offers_rise;
      orders_rise = f.orders_rise;
      one_directions = one_directions_lem b.orders f.one_direction;
    }
