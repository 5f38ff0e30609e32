-- Accepted and refused calls, and what both tally and book do at an accepted one.
use Prim.Native.Nat.{ℕ}
use mathlib.Core.Path.{◌≡◌, refl, sym, ap, ◌∙◌}
use mathlib.Core.Bool.{Bool, true, false, cond}
use mathlib.Core.List.{List, [], ◌++◌, map}
use borrow.Author.Tests.{eqb-true, eqb-false, eq-eqb, ne_eqb}
use lib.ListN.{length}
use lib.Dec.{eqb}
use Rattle.measures.specs.Lists.{Each, keep}
use Rattle.matching.specs.Orders.{Order as OpenOrder, Row}
use Rattle.matching.proofs.Laws.Lists.EachLaws.{each_append}
use Rattle.book.specs.Book.{OpenOffer, Book, with_offers, with_orders}
use Rattle.book.specs.Trades.{rows_booked}
use Rattle.book.specs.Refusals.{Outcome, decided}
use Rattle.book.specs.Calls.{Call, outcome, answered}
use Rattle.demands.specs.Tally.{Amounts, Tally, accounted, tallied}
use Rattle.demands.proofs.Laws.Tally.AgreeLaws.{amounts_of, remains, Parties, Agree}
use Rattle.demands.proofs.Laws.Tally.StandingLaws.{Standing}
use Rattle.book.proofs.Laws.Rows.TradeLaws.{kept_rows}
use Rattle.demands.proofs.Laws.Tally.BookedLaws.{members_kept, rows_figured}

-- a refusal of 0 means that no check applied, and the outcome is the call's own
pub decided_is : (r : ℕ) (b : Book) (o : Outcome) → (decided r b o).refusal ≡ 0 → (r ≡ 0) × (decided r b o ≡ o)
decided_is r b o e = go (eqb r 0) refl e
  where
    go : (c : Bool) → eqb r 0 ≡ c → (cond c o (record { refusal = r; number = 0; rows = []; book = b })).refusal ≡ 0 → (r ≡ 0)
        × (cond c o (record { refusal = r; number = 0; rows = []; book = b }) ≡ o)
    go true f z = (eqb-true r 0 f, refl)
    go false f z = absurd (eqb-false r 0 f z)

-- that tally and book agree after a call
abbrev pub AgreeAfter : Tally → Book → Call → Type 0
AgreeAfter t b c = Agree (tallied t c (answered (outcome b c))) (outcome b c).book

-- an accepted call is accounted for
pub accepted_agree : (t : Tally) (b : Book) (c : Call) (o : Outcome) → outcome b c ≡ o → o.refusal ≡ 0 → Agree (accounted t c (answered o)) o.book
    → AgreeAfter t b c
accepted_agree t b c o e z a = rw e (rw (eq-eqb o.refusal 0 z) a)

-- a refused call changes nothing
pub refused_tally : (t : Tally) (b : Book) (c : Call) → ((outcome b c).refusal ≡ 0 → ⊥) → tallied t c (answered (outcome b c)) ≡ t
refused_tally t b c n = rw (ne_eqb (outcome b c).refusal 0 n)

-- other numbers and another phase
pub agree_head : (t : Tally) (b : Book) → Agree t b → (phase given : ℕ)
    → Agree t (record {
      rules = b.rules;
      phase = phase;
      given = given;
      units = b.units;
      offers = b.offers;
      orders =
          b.orders;
    })
agree_head t b a phase given =
    record { days = a.days; units = a.units; offers = a.offers; orders = a.orders; parties = a.parties; figures = a.figures }

-- other open amounts, then rows
module _ (t : Tally) (b : Book) (a : Agree t b) (w : Standing b) where
  pub agree_changed : (rs : List Row) (tos : List Amounts) (bos : List OpenOffer) (tor bor : List OpenOrder)
      → Each (Parties (length b.units)) rs → keep remains tos ≡ map amounts_of bos → tor ≡ bor
      → Agree (record { rules = t.rules; units = t.units; rows = t.rows ++ rs; offers = tos; orders = tor })
      (rows_booked rs (with_orders (with_offers b bos) bor))
  agree_changed rs tos bos tor bor h e f =
      let b₁ = with_orders (with_offers b bos) bor in
      let b' = rows_booked rs b₁ in
      let k = kept_rows rs b₁ in
      record {
        days = a.days ∙ sym (ap (λ (x : Book). x.rules.days) k.rest);
        units = a.units ∙ sym (members_kept b₁ b' k);
        offers = e ∙ ap (map amounts_of) (sym (ap (λ (x : Book). x.offers) k.rest));
        orders = f ∙ sym (ap (λ (x : Book). x.orders) k.rest);
        parties = rw k.count (each_append (Parties (length b.units)) t.rows rs a.parties h);
        figures = rows_figured t.rows rs b₁ w.long h a.figures;
      }
