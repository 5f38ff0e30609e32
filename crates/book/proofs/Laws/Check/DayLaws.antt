-- The pass over a unit's day.
use Rattle.std.proofs.Common.{◌≡◌, ℕ, ◌+◌, ◌%◌, ◌<◌, List, get_or, refl, ap, arith}
use Rattle.book.specs.Layout.{RAISED, LOWERED, MARK, VOLUME, word}
use Rattle.book.specs.Inner.Pass.{Same, Low, Joined, CellFits, Pass, day_cell}
use Rattle.book.specs.Inner.Fitting.{Below}
use Rattle.book.specs.Inner.RowsIn.{as_figures, figures_from}
use Rattle.book.specs.Book.{Figures}
use Rattle.book.specs.declared.trades.Figures.{Figures as FiguresValue}
use Rattle.book.proofs.Laws.Check.PassLaws.{pass_more}

module _ (m : List ℕ) (at : ℕ) (limits : List ℕ) (h bad marks whole volume : ℕ) where
  -- one hour more, with what is open
  pub hour_more : (x y : ℕ → ℕ) (s : FiguresValue) (u v bad' marks' o a whole' b volume' : ℕ) → as_figures s ≡ figures_from m (at + h)
      → u ≡ x h → v ≡ y h → h < 24 → Below 5_000_000 limits
      → Pass h (day_cell m at limits x y) bad marks whole volume
      → Same (Low bad') (Low bad × CellFits s.held.0 s.raised.0 s.lowered.0 s.volume.0 (get_or limits h 0) u v)
      → Joined marks s.mark.0 marks'
      → o ≡ (s.raised.0 + u) % 18446744073709551616
      → a ≡ (s.held.0 + o) % 18446744073709551616
      → whole' ≡ (whole + a) % 18446744073709551616
      → b ≡ (s.volume.0 + (u + v)) % 18446744073709551616
      → volume' ≡ (volume + b) % 18446744073709551616
      → Pass (h + 1) (day_cell m at limits x y) bad' marks' whole' volume'
  unfolding day_cell
  hour_more x y s u v bad' marks' o a whole' b volume' read eu ey few low p c j eo ea ew eb ev =
      let f = day_cell m at limits x y in
      let held : s.held.0 ≡ word m (at + h) = ap (λ (t : Figures). t.held) read in
      let raised : s.raised.0 ≡ word m (at + h + RAISED) = ap (λ (t : Figures). t.raised) read in
      let lowered : s.lowered.0 ≡ word m (at + h + LOWERED) = ap (λ (t : Figures). t.lowered) read in
      let mark : s.mark.0 ≡ word m (at + h + MARK) = ap (λ (t : Figures). t.mark) read in
      let traded : s.volume.0 ≡ word m (at + h + VOLUME) = ap (λ (t : Figures). t.volume) read in
      pass_more h f bad marks whole volume (omega arith) (record { limit = λ i. low i }) p (f h) bad' marks' whole' volume' a b refl
      (rw (held, raised, lowered, traded, eu, ey) at c) (rw mark at j)
      (λ g l. let e = g.most in omega arith) ew (λ g l. let e = g.most in let f = g.least in let t = g.traded in omega arith) ev
