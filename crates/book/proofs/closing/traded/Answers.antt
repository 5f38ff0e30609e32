-- `traded`: words are 0 where they joined are.
use Rattle.std.proofs.Common.{rules, ◌≡◌, All, subst, arith}
use Rattle.std.proofs.lemmas.Bool.{eqb-true, not-false}
use Rattle.std.proofs.lemmas.Fn.{fold_over, slice_gives, fronts}
use Rattle.book.proofs.Laws.Close.ClosingLaws.{none_more, untraded}
use Rattle.book.proofs.closing.traded.Goals as goal

pub returns : goal.returns
returns c =
    λ z. untraded _ _ (omega arith) (subst (λ ws. All (λ v. v ≡ 0) ws) c.iter.ensures.rest
    (fold_over fronts (λ y. y.now) _ (λ ws a. a ≡ 0 → All (λ v. v ≡ 0) ws) _ (λ ws a x b f' j k. let more = none_more ws x.now a b j in search rules)
    _ _ _ _ (slice_gives c.iter.result) (λ z i d h. absurd (omega arith)) c.fold.ensures.ran (eqb-true c.fold.result 0 (not-false _ z))))
