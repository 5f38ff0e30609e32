-- Laws of closing the day in memory: hour by hour of a unit's day, unit by unit, day by day.
use Rattle.std.proofs.Common.{◌≡◌, ℕ, ◌+◌, ◌-◌, ◌*◌, ◌^◌, ◌<◌, ◌≤◌, List, [], ◌∷◌, ◌++◌, All, length, take, drop, set, slice_range, sym, refl, ap, ◌∙◌, arith}
use Rattle.std.proofs.Common.{length-set, get_or-set_other, get_or-set_same}
use Rattle.std.proofs.lemmas.List.{length-take, length-drop, get_or-take, get_or-drop}
use Rattle.std.proofs.lemmas.List.Elements.{All-get_or, All-push}
use native.Mathlib.Decide.{ℕ_discrete, dec_lt}
use Rattle.book.specs.Inner.Readable.{Readable}
use Rattle.book.specs.Inner.Closing.{hours, Untraded, BlockNetted, BlockOver, BlockClosed, DayNetted, DayOver, DaysOver}
use Rattle.book.specs.Layout.{DAYS, UNITS, OFFERS, ORDERS, block_words, day_place, RAISED, LOWERED, MARK, VOLUME, word}
use Rattle.book.specs.Inner.Pass.{Joined}
use Rattle.book.specs.Inner.Runs.{Emptied}

-- x has of the figures that begin at a place, in the first n hours, the nets of those of m, and all else as it was
pub record HeldNetted (m x : List ℕ) (at n : ℕ) : Type 0 where
  pub long : length x ≡ length m
  pub held : (h : ℕ) → h < n → word x (at + h) ≡ word m (at + h) + word m (at + h + RAISED) - word m (at + h + LOWERED)
  pub kept : (i : ℕ) → ((h : ℕ) → h < n → i ≡ at + h → ⊥) → word x i ≡ word m i

pub held_none : (m : List ℕ) (at : ℕ) → HeldNetted m m at 0
held_none m at = record { long = refl; held = λ h l. absurd (omega arith); kept = λ i n. refl }

-- one hour more
module _ (m x : List ℕ) (at h : ℕ) (g : HeldNetted m x at h) (hh : h < hours) where
  pub hour_kept : (i : ℕ) → at + h ≤ i → word x i ≡ word m i
  hour_kept i l = g.kept i (λ c hc z. omega arith)

  abbrev y : List ℕ
  y = set x (at + h) (word x (at + h) + word x (at + h + RAISED) - word x (at + h + LOWERED))

  pub held_more : at + block_words ≤ length m → HeldNetted m y at (h + 1)
  held_more fits =
      record {
        long = length-set x (at + h) _ ∙ g.long;
        held = λ c l. held c l (ℕ_discrete c h);
        kept = λ i n. get_or-set_other x (at + h) i _ 0 (n h (omega arith)) ∙ g.kept i (λ c hc. n c (omega arith));
      }
    where
      held : (c : ℕ) → c < h + 1 → Dec (c ≡ h) → word y (at + c) ≡ word m (at + c) + word m (at + c + RAISED) - word m (at + c + LOWERED)
      held c l (yes e) =
          let a = hour_kept (at + h) (omega arith) in
          let b = hour_kept (at + h + RAISED) (omega arith) in
          let d = hour_kept (at + h + LOWERED) (omega arith) in
          rw e (get_or-set_same x (at + h) _ 0 (omega (arith, g.long)) ∙ rw (a, b, d) refl)
      held c l (no e) = get_or-set_other x (at + h) (at + c) _ 0 (λ z. omega arith) ∙ g.held c (omega arith)

-- the nets stand, and behind them nothing is traded
pub closed : (m x y : List ℕ) (at : ℕ) → HeldNetted m x at hours → Emptied x (at + RAISED) (at + VOLUME) y → BlockClosed m y at hours
closed m x y at g e =
    record {
      long = e.long ∙ g.long;
      over =
          record {
            held = λ h l. e.before (at + h) (omega arith) ∙ g.held h l;
            raised = λ h l. e.zeros (at + h + RAISED) (omega arith) (omega arith);
            lowered = λ h l. e.zeros (at + h + LOWERED) (omega arith) (omega arith);
            mark = λ h l. e.zeros (at + h + MARK) (omega arith) (omega arith);
            volume = λ h l. e.behind (at + h + VOLUME) (omega arith) ∙ g.kept (at + h + VOLUME) (λ c hc z. omega arith);
          };
      kept = λ i n. kept i n (dec_lt i (at + RAISED)) (dec_lt i (at + VOLUME));
    }
  where
    kept : (i : ℕ) → ((h f : ℕ) → h < hours → f < 4 → i ≡ at + h + hours * f → ⊥) → Dec (i < at + RAISED) → Dec (i < at + VOLUME)
        → word y i ≡ word m i
    kept i n (yes l) u = e.before i l ∙ g.kept i (λ h hh z. n h 0 hh (omega arith) (omega arith))
    kept i n (no l) (no u) = e.behind i (omega arith) ∙ g.kept i (λ h hh z. omega arith)
    kept i n (no l) (yes u) = between (dec_lt i (at + LOWERED)) (dec_lt i (at + MARK))
      where
        between : Dec (i < at + LOWERED) → Dec (i < at + MARK) → word y i ≡ word m i
        between (yes a) b = absurd (n (i - (at + RAISED)) 1 (omega arith) (omega arith) (omega arith))
        between (no a) (yes b) = absurd (n (i - (at + LOWERED)) 2 (omega arith) (omega arith) (omega arith))
        between (no a) (no b) = absurd (n (i - (at + MARK)) 3 (omega arith) (omega arith) (omega arith))

-- words are 0 where they joined are
pub none_more : (ws : List ℕ) (w a r : ℕ) → (a ≡ 0 → All (λ v. v ≡ 0) ws) → Joined a w r → r ≡ 0 → All (λ v. v ≡ 0) (ws ++ (w ∷ []))
none_more ws w a r u j z =
    let both : (a < 2 ^ 0) × (w < 2 ^ 0) = (j.below 0).there (omega (arith, z)) in
    All-push (λ v. v ≡ 0) ws w (u (let b = both.0 in omega (arith, b))) (let b = both.1 in omega (arith, b))

-- a day is without trades where the words of its trades are 0
pub untraded : (m : List ℕ) (at : ℕ) → at + block_words ≤ length m → All (λ v. v ≡ 0) (slice_range m (at + RAISED) (at + VOLUME)) → Untraded m at VOLUME
untraded m at h a i l u =
    let n = at + VOLUME - (at + RAISED) in
    let behind = drop (at + RAISED) m in
    let k : i - RAISED < length (take n behind) = omega (arith, length-take n behind, length-drop (at + RAISED) m) in
    let e : at + RAISED + (i - RAISED) ≡ at + i = omega arith in
    ap (word m) (sym e) ∙ sym (get_or-take n behind (i - RAISED) 0 (omega arith) ∙ get_or-drop (at + RAISED) m (i - RAISED) 0)
    ∙ All-get_or (λ v. v ≡ 0) (take n behind) (i - RAISED) 0 k a

-- a day without trades is closed as it stands
pub closed_untraded : (m : List ℕ) (at : ℕ) → Untraded m at VOLUME → BlockClosed m m at hours
closed_untraded m at u = record {
  long = refl;
  over = record { held = held; raised = raised; lowered = lowered; mark = mark; volume = λ h l. refl };
  kept = λ i n. refl;
}
  where
    zero : (h f i : ℕ) → h < hours → 1 ≤ f → f ≤ 3 → i ≡ at + h + hours * f → word m i ≡ 0
    zero h f i l a b e =
        let p : at + (h + hours * f) ≡ i = omega arith in
        ap (word m) (sym p) ∙ u (h + hours * f) (omega arith) (omega arith)

    raised : (h : ℕ) → h < hours → word m (at + h + RAISED) ≡ 0
    raised h l = zero h 1 (at + h + RAISED) l (omega arith) (omega arith) (omega arith)

    lowered : (h : ℕ) → h < hours → word m (at + h + LOWERED) ≡ 0
    lowered h l = zero h 2 (at + h + LOWERED) l (omega arith) (omega arith) (omega arith)

    mark : (h : ℕ) → h < hours → word m (at + h + MARK) ≡ 0
    mark h l = zero h 3 (at + h + MARK) l (omega arith) (omega arith) (omega arith)

    held : (h : ℕ) → h < hours → word m (at + h) ≡ word m (at + h) + word m (at + h + RAISED) - word m (at + h + LOWERED)
    held h l = let a = raised h l in let b = lowered h l in omega (arith, a, b)

-- figures of a block that are as they were before, or stay after
over_of : (m x y : List ℕ) (at : ℕ) → BlockOver x y at hours → ((i : ℕ) → at ≤ i → i < at + block_words → word x i ≡ word m i) → BlockOver m y at hours
over_of m x y at o s =
    record {
      held = λ h l.
          let a = s (at + h) (omega arith) (omega arith) in
          let b = s (at + h + RAISED) (omega arith) (omega arith) in
          let c = s (at + h + LOWERED) (omega arith) (omega arith) in o.held h l ∙ rw (a, b, c) refl;
      raised = o.raised;
      lowered = o.lowered;
      mark = o.mark;
      volume = λ h l. o.volume h l ∙ s (at + h + VOLUME) (omega arith) (omega arith);
    }

over_stays : (m x y : List ℕ) (at : ℕ) → BlockOver m x at hours → ((i : ℕ) → at ≤ i → i < at + block_words → word y i ≡ word x i) → BlockOver m y at hours
over_stays m x y at o s =
    record {
      held = λ h l. s (at + h) (omega arith) (omega arith) ∙ o.held h l;
      raised = λ h l. s (at + h + RAISED) (omega arith) (omega arith) ∙ o.raised h l;
      lowered = λ h l. s (at + h + LOWERED) (omega arith) (omega arith) ∙ o.lowered h l;
      mark = λ h l. s (at + h + MARK) (omega arith) (omega arith) ∙ o.mark h l;
      volume = λ h l. s (at + h + VOLUME) (omega arith) (omega arith) ∙ o.volume h l;
    }

netted_same : (m x : List ℕ) (at : ℕ) → BlockNetted m at → ((i : ℕ) → at ≤ i → i < at + block_words → word x i ≡ word m i) → BlockNetted x at
netted_same m x at n s =
    record {
      held = λ h l.
          let a = s (at + h) (omega arith) (omega arith) in
          let b = s (at + h + RAISED) (omega arith) (omega arith) in
          let e = n.held h l in omega arith;
      lowered = λ h l.
          let a = s (at + h) (omega arith) (omega arith) in
          let b = s (at + h + LOWERED) (omega arith) (omega arith) in
          let e = n.lowered h l in omega arith;
    }

-- one unit more
pub over_more : (m x y : List ℕ) (d k : ℕ) → DayOver m x d k → BlockClosed x y (day_place d k) hours → DayOver m y d (k + 1)
over_more m x y d k g b = record {
  long = b.long ∙ g.long;
  over = λ j l. go j l (ℕ_discrete j k);
  before = λ i l. b.kept i (λ h f hh hf e. omega arith) ∙ g.before i l;
  behind = λ i l. b.kept i (λ h f hh hf e. omega arith) ∙ g.behind i (omega arith);
}
  where
    go : (j : ℕ) → j < k + 1 → Dec (j ≡ k) → BlockOver m y (day_place d j) hours
    go j l (yes e) = rw e (over_of m x y (day_place d k) b.over (λ i a z. g.behind i a))
    go j l (no e) = over_stays m x y (day_place d j) (g.over j (omega arith)) (λ i a z. b.kept i (λ h f hh hf q. omega arith))

pub over_netted : (m x : List ℕ) (d k : ℕ) → DayOver m x d k → DayNetted m d → k < word m UNITS → BlockNetted x (day_place d k)
over_netted m x d k g n h = netted_same m x (day_place d k) (n k h) (λ i a z. g.behind i a)

-- one day more
pub days_more : (m x y : List ℕ) (n : ℕ) → word m UNITS ≤ 64 → DaysOver m x n → DayOver x y n (word x UNITS) → DaysOver m y (n + 1)
days_more m x y n few g e = record {
  long = e.long ∙ g.long;
  over = λ d l j h. go d l j h (ℕ_discrete d n);
  before = λ i l. e.before i (omega arith) ∙ g.before i l;
  behind = λ i l. e.behind i (omega (arith, units)) ∙ g.behind i (omega arith);
}
  where
    units : word x UNITS ≡ word m UNITS
    units = g.before UNITS (omega arith)

    go : (d : ℕ) → d < n + 1 → (j : ℕ) → j < word m UNITS → Dec (d ≡ n) → BlockOver m y (day_place d j) hours
    go d l j h (yes z) = rw z (over_of m x y (day_place n j) (e.over j (omega (arith, units))) (λ i a u. g.behind i (omega arith)))
    go d l j h (no z) = over_stays m x y (day_place d j) (g.over d (omega arith) j h) (λ i a u. e.before i (omega arith))

-- what the next day asks
module _ (m x : List ℕ) (n : ℕ) (r : Readable m) (g : DaysOver m x n) where
  pub days_read : Readable x
  days_read =
      let w0 = g.before DAYS (omega arith) in
      let w5 = g.before UNITS (omega arith) in
      let w6 = g.before OFFERS (omega arith) in
      let w7 = g.before ORDERS (omega arith) in
      let l = g.long in
      record {
        days_from = omega (arith, r.days_from);
        days_to = omega (arith, r.days_to);
        units_to = omega (arith, r.units_to);
        offers_to = omega (arith, r.offers_to);
        orders_to = omega (arith, r.orders_to);
        long = omega (arith, r.long);
      }

  pub days_netted : DayNetted m n → DayNetted x n
  days_netted s k h = netted_same m x (day_place n k) (s k (omega (arith, g.before UNITS (omega arith)))) (λ i a z. g.behind i (omega arith))
