-- Demand 3 over lists of calls.
use mathlib.Core.Path.{◌≡◌, ap}
use mathlib.Core.Bool.{true}
use mathlib.Core.List.{List, [], ◌∷◌}
use native.Mathlib.Decide.{ℕ_discrete}
use Rattle.book.specs.Book.{Book}
use Rattle.book.specs.Sound.{sound}
use Rattle.book.specs.Refusals.{Outcome}
use Rattle.book.specs.Opening.{fresh}
use Rattle.book.specs.Calls.{Call, call_enrol, call_offer, call_take, call_withdraw, call_order, call_cancel, call_clear, call_close, outcome, answered, book_after}
use Rattle.demands.specs.Tally.{Tally, opened, tallied}
use Rattle.demands.specs.Demand3.{Demand3, tally_after, OverEveryList}
use Rattle.demands.proofs.Laws.Tally.AgreeLaws.{Agree, agree_start}
use Rattle.demands.proofs.Laws.Tally.StandingLaws.{standing}
use Rattle.demands.proofs.Laws.Theorem.DemandLaws.{demand_from}
use Rattle.demands.proofs.Laws.Tally.AcceptedLaws.{AgreeAfter, refused_tally}
use Rattle.demands.proofs.Laws.Tally.WaitingCallLaws.{agree_enrol, agree_offer, agree_withdraw, agree_cancel, agree_close}
use Rattle.demands.proofs.Laws.Tally.TakeTallyLaws.{agree_take}
use Rattle.demands.proofs.Laws.Tally.OrderTallyLaws.{agree_order}
use Rattle.demands.proofs.Laws.Tally.ClearTallyLaws.{agree_clear}
use Rattle.demands.proofs.Laws.Sound.KeepLaws.{fresh-sound}
use Rattle.demands.proofs.Laws.Sound.SoundAfter.{sound-after, refused_unchanged}

-- tally and book agree after each accepted call
pub agree_after : (t : Tally) (b : Book) (c : Call) → Agree t b → sound b ≡ true → (outcome b c).refusal ≡ 0 → AgreeAfter t b c
agree_after t b (call_enrol kind capacity asset) a s e = agree_enrol t b a (standing b s) kind capacity asset e
agree_after t b (call_offer unit partner price amounts) a s e = agree_offer t b a (standing b s) unit partner price amounts e
agree_after t b (call_take unit number quantity lent) a s e = agree_take t b a (standing b s) unit number quantity lent e
agree_after t b (call_withdraw unit number) a s e = agree_withdraw t b a (standing b s) unit number e
agree_after t b (call_order unit direction period price quantity lent) a s e = agree_order t b a (standing b s) unit direction period price quantity lent e
agree_after t b (call_cancel unit number) a s e = agree_cancel t b a (standing b s) unit number e
agree_after t b (call_clear lent) a s e = agree_clear t b a (standing b s) lent e
agree_after t b call_close a s e = agree_close t b a (standing b s) e

-- a tally, and a sound book that agrees with it
pub record InStep (t : Tally) (b : Book) : Type 0 where
  pub agree : Agree t b
  pub sound : sound b ≡ true

-- a refused call changes nothing on either side
pub in_step_after : (t : Tally) (b : Book) (c : Call) → InStep t b → InStep (tallied t c (answered (outcome b c))) (outcome b c).book
in_step_after t b c k = go (ℕ_discrete (outcome b c).refusal 0)
  where
    go : Dec ((outcome b c).refusal ≡ 0) → InStep (tallied t c (answered (outcome b c))) (outcome b c).book
    go (yes e) = record { agree = agree_after t b c k.agree k.sound e; sound = sound-after b c k.sound e }
    go (no n) = rw (refused_tally t b c n, ap (λ (o : Outcome). o.book) (refused_unchanged b c n)) k

demand-after : (cs : List Call) (t : Tally) (b : Book) → InStep t b → Demand3 (tally_after t b cs) (book_after b cs)
unfolding tally_after book_after
demand-after [] t b k = demand_from t b k.agree k.sound
demand-after (c ∷ cs) t b k = demand-after cs (tallied t c (answered (outcome b c))) (outcome b c).book (in_step_after t b c k)

-- demand 3
pub over_every_list : OverEveryList
over_every_list words r cs e = demand-after cs (opened r) (fresh r) (record { agree = agree_start r; sound = fresh-sound words r e })
