-- What the fit of a unit says of a plain book: with nothing declared, and on a unit that fits.
use Rattle.std.proofs.Common.{◌≡◌, ℕ, zero, suc, ◌+◌, ◌<◌, Bool, true, false, ◌||◌, eqb, [], ◌∷◌, get_or, replicate, refl, ◌∙◌, arith, eqb-true}
use Rattle.measures.proofs.ListLaws.{all_true, all_at, all_ext, sum_ext}
use Rattle.limits.specs.Units.{periods}
use Rattle.book.specs.Book.{Book, figures_of}
use Rattle.book.specs.Fit.{Declaration, nothing, open_raising, open_lowering, raising_today, hour_fits, hours_fit, term_fits, volume_fits, unit_fits}
use Rattle.book.specs.Refusals.{first_refusal, hour_misfit, term_misfit, volume_misfit}
use Rattle.book.specs.Inner.Readable.{misfit_of}
use Rattle.book.specs.Inner.Fitting.{Below}

-- a list of zeros
pub zeros_at : (n i : ℕ) → get_or (replicate {A = ℕ} n 0) i 0 ≡ 0
zeros_at zero i = refl
zeros_at (suc n) zero = refl
zeros_at (suc n) (suc i) = zeros_at n i

pub zeros_below : (n b : ℕ) → Below b (replicate n 0)
zeros_below n b i = omega (arith, zeros_at n i)

-- declarations that are the same in each period fit alike
module _ (b : Book) (u : ℕ) where
  pub hour_ext : (d e : Declaration) (p : ℕ) → d.raising p ≡ e.raising p → d.lowering p ≡ e.lowering p → hour_fits b u d p ≡ hour_fits b u e p
  unfolding hour_fits
  hour_ext d e p f g = rw (f, g)

  pub misfit_ext : (d e : Declaration) → ((p : ℕ) → d.raising p ≡ e.raising p) → ((p : ℕ) → d.lowering p ≡ e.lowering p) → misfit_of b u d
      ≡ misfit_of b u e
  unfolding misfit_of term_fits volume_fits
  misfit_ext d e f g =
      let n = periods b.rules.days in
      rw (
        all_ext n (hour_fits b u d) (hour_fits b u e) (λ p l. hour_ext d e p (f p) (g p)),
        sum_ext n _ (λ p. (figures_of b u p).held + (raising_today b u p + e.raising p)) (λ p l. held p),
        sum_ext n _ (λ p. (figures_of b u p).volume + (open_raising b u p + open_lowering b u p + (e.raising p + e.lowering p))) (λ p l. volume p),
      )
    where
      held : (p : ℕ) → (figures_of b u p).held + (raising_today b u p + d.raising p) ≡ (figures_of b u p).held + (raising_today b u p + e.raising p)
      held p = rw (f p)

      volume : (p : ℕ)
          → (figures_of b u p).volume + (open_raising b u p + open_lowering b u p + (d.raising p + d.lowering p))
          ≡ (figures_of b u p).volume + (open_raising b u p + open_lowering b u p + (e.raising p + e.lowering p))
      volume p = rw (f p, g p)

  -- an hour without energy fits where the unit does
  hour_alone : (d : Declaration) → unit_fits b u ≡ true → (p : ℕ) → p < periods b.rules.days → hour_fits b u d p
      ≡ (eqb (d.raising p + d.lowering p) 0 || hour_fits b u d p)
  unfolding unit_fits
  hour_alone d e p h = go (eqb (d.raising p + d.lowering p) 0) refl
    where
      go : (z : Bool) → eqb (d.raising p + d.lowering p) 0 ≡ z → hour_fits b u d p ≡ (z || hour_fits b u d p)
      go true f =
          let s = eqb-true (d.raising p + d.lowering p) 0 f in
          hour_ext d nothing p (omega arith) (omega arith) ∙ all_at (periods b.rules.days) (hour_fits b u nothing) p (all_true _ e).0 h
      go false f = refl

  -- on a unit that fits, the misfit of a declaration is the first that its checks name
  pub misfit_declared : (d : Declaration) → unit_fits b u ≡ true → misfit_of b u d ≡ first_refusal (hour_misfit b u d ∷ term_misfit b u d ∷ volume_misfit b u d ∷ [])
  unfolding misfit_of hours_fit
  misfit_declared d e = rw (all_ext (periods b.rules.days) (hour_fits b u d) (λ p. eqb (d.raising p + d.lowering p) 0
      || hour_fits b u d p) (hour_alone d e))
