-- After rows, the figures are still what all rows sum to.
use Prim.Native.Nat.{ℕ, ◌+◌, ◌-◌, ◌<◌}
use mathlib.Core.Path.{◌≡◌, sym, ap, ◌∙◌}
use mathlib.Core.Bool.{Bool, true, false, cond, ◌&&◌}
use mathlib.Core.List.{List, ◌++◌, map}
use native.Mathlib.Omega.{arith}
use lib.ListN.{length, get_or, length-map, get_or-map}
use lib.Seq.{ext_get_or}
use lib.Dec.{eqb}
use Rattle.measures.proofs.RangeLaws.{In}
use Rattle.measures.proofs.ListLaws.{sum_of_append}
use Rattle.limits.specs.Units.{periods, generator}
use Rattle.matching.specs.Orders.{Row}
use Rattle.measures.specs.Lists.{Each}
use Rattle.matching.proofs.Laws.Lists.EachLaws.{each_map}
use Rattle.book.specs.Book.{Figures, no_unit, Book, unit_of, figures_of}
use Rattle.book.specs.Trades.{rows_booked}
use Rattle.demands.proofs.Laws.Tally.AgreeLaws.{member, sold_in, bought_in, Figured, AllFigured, Parties}
use Rattle.book.proofs.Laws.Rows.TradeLaws.{Kept, Grown, traded_by, kept_rows, grown_rows, Named}

figured_grown : (kind s d s' d' : ℕ) (f h : Figures) → Figured kind s d f → Grown f h (cond (generator kind) s' d') (cond (generator kind) d' s')
    → Figured kind (s + s') (d + d') h
figured_grown kind s d s' d' f h x y = let m = go (generator kind) x.net y in record { net = m.0; volume = m.1 }
  where
    v : f.volume ≡ s + d
    v = x.volume

    go : (g : Bool) → f.held + f.raised + cond g d s ≡ cond g s d + f.lowered → Grown f h (cond g s' d') (cond g d' s')
        → (h.held + h.raised + cond g (d + d') (s + s') ≡ cond g (s + s') (d + d') + h.lowered) × (h.volume ≡ s + s' + (d + d'))
    go true e z = omega (arith, v)
    go false e z = omega (arith, v)

-- what rows leave of each unit
pub members_kept : (b b' : Book) → Kept b b' → map member b'.units ≡ map member b.units
members_kept b b' k = ext_get_or (member no_unit) (map member b'.units) (map member b.units) len at
  where
    len : length (map member b'.units) ≡ length (map member b.units)
    len = length-map b'.units member ∙ k.count ∙ sym (length-map b.units member)

    one : (u : ℕ) → member (unit_of b' u) ≡ member (unit_of b u)
    one u = rw (k.kind u, k.capacity u, k.asset u)

    at : (i : ℕ) → i < length (map member b'.units) → get_or (map member b'.units) i (member no_unit) ≡ get_or (map member b.units) i (member no_unit)
    at i l =
        let q : i + 1 - 1 ≡ i = omega arith in
        get_or-map member b'.units i no_unit ∙ (rw q at (one (i + 1))) ∙ sym (get_or-map member b.units i no_unit)

pub rows_figured : (before rs : List Row) (b : Book) → ((u : ℕ) → In 1 (length b.units) u → length (unit_of b u).figures ≡ periods b.rules.days)
    → Each (Parties (length b.units)) rs → AllFigured before b → AllFigured (before ++ rs) (rows_booked rs b)
unfolding traded_by
rows_figured before rs b full h a u p hu l =
    let b' = rows_booked rs b in
    let k = kept_rows rs b in
    let days : b'.rules.days ≡ b.rules.days = ap (λ (x : Book). x.rules.days) k.rest in
    let i : In 1 (length b.units) u = rw k.count at hu in
    let m : p < periods b.rules.days = rw days at l in
    let named = each_map (Parties (length b.units)) Named rs (λ r n. (n.0.0, n.1.0)) h in
    rw (
      k.kind u,
      sum_of_append (λ (r : Row). cond (eqb r.seller u && eqb r.period p) r.quantity 0) before rs,
      sum_of_append
          (λ (r : Row). cond (eqb r.buyer u && eqb r.period p) r.quantity 0) before rs,
    )
    (figured_grown (unit_of b u).kind _ _ (sold_in rs u p) (bought_in rs u p) (figures_of b u p) (figures_of b' u p) (a u p i m)
    (grown_rows rs b u p named i (omega (arith, full u i))))
