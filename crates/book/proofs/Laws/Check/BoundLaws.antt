-- The limits of a unit in memory.
use Rattle.std.proofs.Common.{◌≡◌, ℕ, ◌+◌, ◌<◌, ◌≤◌, List, get_or, sym, ap, ◌∙◌, arith}
use Rattle.measures.proofs.ListLaws.{all_at}
use Rattle.limits.specs.Limits.{Answer, given, hour_limit, limits_at}
use Rattle.std.proofs.Common.{Result, Ok, Err}
use Rattle.measures.specs.declared.refusals.Refusal.{Refusal}
use Rattle.measures.specs.Refused.{number_of}
use Rattle.measures.proofs.RefusedLaws.{number_some}
use Rattle.limits.specs.declared.Limits.{Limits}
use Rattle.limits.specs.Answers.{answer_of}
use Rattle.limits.proofs.LimitLaws.{all_in, term-most, volume-most}
use Rattle.book.specs.Layout.{DAYS, UNITS, unit_place, CAPACITY, ASSET, word}
use Rattle.book.specs.Inner.Readable.{Ranged, unit_fields_in}
use Rattle.book.specs.Inner.Fitting.{term_at, volume_at}
use Rattle.book.proofs.Laws.Memory.RangeFacts.{UnitFields, unit_facts}

-- the fields of a unit in a memory that is in range
pub unit_words : (m : List ℕ) (k : ℕ) → Ranged m → k < word m UNITS → UnitFields m k
unit_words m k r h = unit_facts m k (all_at (word m UNITS) (unit_fields_in m) k r.units h)

-- the limits over the term
module _ (m : List ℕ) (k : ℕ) (r : Ranged m) (h : k < word m UNITS) where
  pub bounds_given : (kind capacity asset : ℕ) → kind ≡ word m (unit_place k) → capacity ≡ word m (unit_place k + CAPACITY) → asset ≡ word m (unit_place k + ASSET)
      → (l : Result Limits Refusal) → answer_of l ≡ limits_at (word m DAYS) kind capacity asset 0
      → answer_of l ≡ given (hour_limit (word m (unit_place k)) (word m (unit_place k + CAPACITY)) 0) (term_at m k) (volume_at m k)
  unfolding term_at volume_at
  bounds_given kind capacity asset e f g l a =
      let u = unit_words m k r h in
      let d = r.readable in
      (rw (e, f, g) at a) ∙ sym (all_in (word m DAYS) (word m (unit_place k)) (word m (unit_place k + CAPACITY)) (word m (unit_place k + ASSET)) 0 (omega arith)
      u.kind u.capacity
      u.asset (omega arith))

  term_at-most : term_at m k ≤ 4_000_000_000
  unfolding term_at
  term_at-most =
      let u = unit_words m k r h in
      let d = r.readable in
      term-most _ _ _ _ u.capacity.1 d.days_to

  pub volume_at-most : volume_at m k ≤ 4_800_000_000
  unfolding volume_at
  volume_at-most = let v = volume-most (word m (unit_place k)) (term_at m k) term_at-most in omega arith

-- an answer of limits is no refusal, and is known by its values
pub bounds_refused : {X : Type 0} (l : Result Limits Refusal) (r : Refusal) (a t v : ℕ) → answer_of l ≡ given a t v → l ≡ Err r → X
bounds_refused l r a t v e i =
    let z : number_of r ≡ 0 = ap (λ (x : Answer). x.number) (sym (ap answer_of i) ∙ e) in
    absurd (number_some r z)

pub bounds_same : (l : Result Limits Refusal) (x : Limits) (a t v : ℕ) → answer_of l ≡ given a t v → l ≡ Ok x → (x.term.0 ≡ t) × (x.volume.0 ≡ v)
bounds_same l x a t v e i =
    let q = sym (ap answer_of i) ∙ e in
    (ap (λ (i : Answer). get_or i.values 1 0) q, ap (λ (i : Answer). get_or i.values 2 0) q)
