-- Laws of which order stands ahead, over either side: `better` is the side's test of two prices.
use Prim.Native.Nat.{ℕ, ◌<◌, ◌≤◌}
use mathlib.Core.Path.{◌≡◌, refl, sym, ◌∙◌}
use mathlib.Core.Logic.{◌⊎◌, inl, inr}
use mathlib.Core.Bool.{Bool, true, false, ◌&&◌, ◌||◌}
use mathlib.Core.List.{List}
use native.Mathlib.Omega.{arith}
use native.Mathlib.Decide.{dec_lt}
use lib.Dec.{eqb, ltb}
use borrow.Author.Tests.{lt-ltb, le-ltb, eq-eqb, ltb-true, ltb-false, eqb-true}
use Rattle.measures.specs.Lists.{keep}
use Rattle.measures.proofs.ListLaws.{both_ways}
use Rattle.matching.specs.Orders.{Order, bid_ahead, ask_ahead, laid, buys, sells, bids, asks}
use Rattle.matching.proofs.Laws.Lists.EachLaws.{Pairs, pairs_map}
use Rattle.matching.proofs.Laws.Orders.LaidLaws.{laid_sorted}

-- which of two prices is better: the higher for a bid, the lower for an ask
abbrev pub dearer : ℕ → ℕ → Bool
dearer p q = ltb q p

abbrev pub cheaper : ℕ → ℕ → Bool
cheaper p q = ltb p q

pub record Strict (better : ℕ → ℕ → Bool) : Type 0 where
  pub same : (p : ℕ) → better p p ≡ false
  pub trans : (p q r : ℕ) → better p q ≡ true → better q r ≡ true → better p r ≡ true
  pub total : (p q : ℕ) → better p q ≡ false → better q p ≡ false → p ≡ q

pub dearer_strict : Strict dearer
dearer_strict =
    record {
      same = λ p. le-ltb p p (omega arith);
      trans = λ p q r e f. lt-ltb r p (omega (arith, ltb-true q p e, ltb-true r q f));
      total = λ p q e f. omega (arith, ltb-false q p e, ltb-false p q f);
    }

pub cheaper_strict : Strict cheaper
cheaper_strict =
    record {
      same = λ p. le-ltb p p (omega arith);
      trans = λ p q r e f. lt-ltb p r (omega (arith, ltb-true p q e, ltb-true q r f));
      total = λ p q e f. omega (arith, ltb-false p q e, ltb-false q p f);
    }

-- ahead by price, or by number at the same price: `bid_ahead` and `ask_ahead` are both of this form
abbrev pub ahead_by : (ℕ → ℕ → Bool) → Order → Order → Bool
ahead_by better a b = better a.price b.price || (eqb a.price b.price && ltb a.number b.number)

pub bid_ahead_lem : (a b : Order) → bid_ahead a b ≡ ahead_by dearer a b
unfolding bid_ahead
bid_ahead_lem a b = refl

pub ask_ahead_lem : (a b : Order) → ask_ahead a b ≡ ahead_by cheaper a b
unfolding ask_ahead
ask_ahead_lem a b = refl

-- laid orders: none is priced better than one before it
abbrev pub Ordered : (ℕ → ℕ → Bool) → List Order → Type 0
Ordered better os = Pairs (λ a b. better b.price a.price ≡ false) os

either : (p q r : Bool) → (p || (q && r)) ≡ true → (p ≡ true) ⊎ ((q ≡ true) × (r ≡ true))
either true q r e = inl refl
either false true r e = inr (refl, e)
either false false r e = both_ways (sym e)

module _ (better : ℕ → ℕ → Bool) (st : Strict better) where
  pub worse : (p q : ℕ) → better p q ≡ true → better q p ≡ false
  worse p q e = go (better q p) refl
    where
      go : (t : Bool) → better q p ≡ t → t ≡ false
      go true f = sym (st.trans p q p e f) ∙ st.same p
      go false f = refl

  -- not better, and not better again
  pub not_better : (p q r : ℕ) → better q p ≡ false → better r q ≡ false → better r p ≡ false
  not_better p q r e f = go (better r p) (better p q) refl refl
    where
      go : (t u : Bool) → better r p ≡ t → better p q ≡ u → t ≡ false
      go true true g h = sym (st.trans r p q g h) ∙ f
      go true false g h = let s : p ≡ q = st.total p q h e in sym g ∙ rw s f
      go false u g h = refl

  -- the better price, or the lower number at the same price
  abbrev Ahead : Order → Order → Type 0
  Ahead a b = (better a.price b.price ≡ true) ⊎ ((a.price ≡ b.price) × (a.number < b.number))

  pub ahead_of : (a b : Order) → ahead_by better a b ≡ true → Ahead a b
  ahead_of a b e = go (either (better a.price b.price) (eqb a.price b.price) (ltb a.number b.number) e)
    where
      go : (better a.price b.price ≡ true) ⊎ ((eqb a.price b.price ≡ true) × (ltb a.number b.number ≡ true)) → Ahead a b
      go (inl h) = inl h
      go (inr h) = inr (eqb-true _ _ h.0, ltb-true _ _ h.1)

  pub is_ahead : (a b : Order) → Ahead a b → ahead_by better a b ≡ true
  is_ahead a b (inl h) = rw h
  is_ahead a b (inr h) = go (better a.price b.price) (eq-eqb _ _ h.0) (lt-ltb _ _ h.1)
    where
      go : (t : Bool) → eqb a.price b.price ≡ true → ltb a.number b.number ≡ true
          → (t || (eqb a.price b.price && ltb a.number b.number)) ≡ true
      go true e f = refl
      go false e f = rw (e, f)

  pub ahead_trans : (a b c : Order) → ahead_by better a b ≡ true → ahead_by better b c ≡ true → ahead_by better a c ≡ true
  ahead_trans a b c e f = is_ahead a c (go (ahead_of a b e) (ahead_of b c f))
    where
      go : Ahead a b → Ahead b c → Ahead a c
      go (inl h) (inl k) = inl (st.trans _ _ _ h k)
      go (inl h) (inr k) = inl (rw k.0 at h)
      go (inr h) (inl k) = inl (rw h.0 k)
      go (inr h) (inr k) = inr (h.0 ∙ k.0, omega arith)

  -- an order does not stand ahead of one that stands ahead of it
  pub ahead-one : (a b : Order) → ahead_by better a b ≡ true → ahead_by better b a ≡ false
  ahead-one a b e = go (ahead_by better b a) refl
    where
      no : Ahead a a → true ≡ false
      no (inl h) = sym h ∙ st.same a.price
      no (inr h) = absurd (omega arith)

      go : (t : Bool) → ahead_by better b a ≡ t → t ≡ false
      go true f = no (ahead_of a a (ahead_trans a b a e f))
      go false f = refl

  -- of two orders with different numbers one stands ahead
  pub ahead_other : (a b : Order) → (a.number ≡ b.number → ⊥) → ahead_by better a b ≡ false → ahead_by better b a ≡ true
  ahead_other a b ne e = go (better a.price b.price) (better b.price a.price) refl refl
    where
      off : (t : Bool) → (a.number ≤ b.number) → ltb a.number b.number ≡ t → (a.price ≡ b.price) → ahead_by better b a ≡ true
      off true h l q = both_ways (sym (is_ahead a b (inr (q, ltb-true _ _ l))) ∙ e)
      off false h l q = let k = ltb-false a.number b.number l in absurd (ne (omega arith))

      by : (a.price ≡ b.price) → Dec (b.number < a.number) → ahead_by better b a ≡ true
      by q (yes l) = is_ahead b a (inr (sym q, l))
      by q (no l) = off (ltb a.number b.number) (omega arith) refl q

      go : (t u : Bool) → better a.price b.price ≡ t → better b.price a.price ≡ u → ahead_by better b a ≡ true
      go true u f g = both_ways (sym (is_ahead a b (inl f)) ∙ e)
      go false true f g = is_ahead b a (inl g)
      go false false f g = by (st.total _ _ f g) (dec_lt b.number a.number)

  pub laid-ordered : (os : List Order) → Ordered better (laid (ahead_by better) os)
  laid-ordered os = laid_sorted (ahead_by better) (λ a b. better b.price a.price ≡ false) fore behind trans os
    where
      front : (a b : Order) → Ahead a b → better b.price a.price ≡ false
      front a b (inl h) = worse _ _ h
      front a b (inr h) = rw h.0 (st.same b.price)

      fore : (a b : Order) → ahead_by better a b ≡ true → better b.price a.price ≡ false
      fore a b e = front a b (ahead_of a b e)

      go : (t r : Bool) → (t || r) ≡ false → t ≡ false
      go true r e = e
      go false r e = refl

      behind : (a b : Order) → ahead_by better a b ≡ false → better a.price b.price ≡ false
      behind a b e = go (better a.price b.price) (eqb a.price b.price && ltb a.number b.number) e

      trans : (a b c : Order) → better b.price a.price ≡ false → better c.price b.price ≡ false → better c.price a.price ≡ false
      trans a b c e f = not_better a.price b.price c.price e f

pub bid_trans : (a b c : Order) → bid_ahead a b ≡ true → bid_ahead b c ≡ true → bid_ahead a c ≡ true
unfolding bid_ahead
bid_trans = ahead_trans dearer dearer_strict

pub bid_one : (a b : Order) → bid_ahead a b ≡ true → bid_ahead b a ≡ false
unfolding bid_ahead
bid_one = ahead-one dearer dearer_strict

pub bid_other : (a b : Order) → (a.number ≡ b.number → ⊥) → bid_ahead a b ≡ false → bid_ahead b a ≡ true
unfolding bid_ahead
bid_other = ahead_other dearer dearer_strict

pub ask_trans : (a b c : Order) → ask_ahead a b ≡ true → ask_ahead b c ≡ true → ask_ahead a c ≡ true
unfolding ask_ahead
ask_trans = ahead_trans cheaper cheaper_strict

pub ask_one : (a b : Order) → ask_ahead a b ≡ true → ask_ahead b a ≡ false
unfolding ask_ahead
ask_one = ahead-one cheaper cheaper_strict

pub ask_other : (a b : Order) → (a.number ≡ b.number → ⊥) → ask_ahead a b ≡ false → ask_ahead b a ≡ true
unfolding ask_ahead
ask_other = ahead_other cheaper cheaper_strict

-- what does not stand ahead of an order does not stand ahead of one before it
not-ahead : (better : ℕ → ℕ → Bool) → Strict better → (a b c : Order) → ahead_by better b a ≡ false → ahead_by better c b ≡ false → ahead_by better c a ≡ false
not-ahead better st a b c e f = go (ahead_by better c a) refl
  where
    Fore : Order → Order → Type 0
    Fore x y = (better x.price y.price ≡ true) ⊎ ((x.price ≡ y.price) × (x.number < y.number))

    refused : (x y : Order) → ahead_by better x y ≡ false → Fore x y → ⊥
    refused x y z h = both_ways (sym (is_ahead better st x y h) ∙ z)

    price : (x y : Order) → ahead_by better x y ≡ false → (t : Bool) → better x.price y.price ≡ t → t ≡ false
    price x y z true h = absurd (refused x y z (inl h))
    price x y z false h = refl

    ba : better b.price a.price ≡ false
    ba = price b a e (better b.price a.price) refl

    cb : better c.price b.price ≡ false
    cb = price c b f (better c.price b.price) refl

    same : a.price ≡ b.price → c.price ≡ a.price → c.number < a.number → Dec (b.number < a.number) → ⊥
    same p q l (yes k) = refused b a e (inr (sym p, k))
    same p q l (no k) = refused c b f (inr (q ∙ p, omega arith))

    no_fore : Fore c a → ⊥
    no_fore (inl h) = both_ways (sym h ∙ not_better better st a.price b.price c.price ba cb)
    no_fore (inr h) = same (st.total a.price b.price (rw h.0 at cb) ba) h.0 h.1 (dec_lt b.number a.number)

    go : (t : Bool) → ahead_by better c a ≡ t → t ≡ false
    go true h = absurd (no_fore (ahead_of better st c a h))
    go false h = refl

pub ask_far : (a b c : Order) → ask_ahead b a ≡ false → ask_ahead c b ≡ false → ask_ahead c a ≡ false
unfolding ask_ahead
ask_far = not-ahead cheaper cheaper_strict

pub bid_far : (a b c : Order) → bid_ahead b a ≡ false → bid_ahead c b ≡ false → bid_ahead c a ≡ false
unfolding bid_ahead
bid_far = not-ahead dearer dearer_strict

pub laid-bids : (os : List Order) → laid bid_ahead os ≡ laid (ahead_by dearer) os
unfolding bid_ahead
laid-bids os = refl

pub laid-asks : (os : List Order) → laid ask_ahead os ≡ laid (ahead_by cheaper) os
unfolding ask_ahead
laid-asks os = refl

pub bids-ordered : (period : ℕ) (os : List Order) → Ordered dearer (bids period os)
bids-ordered period os = rw laid-bids (laid-ordered dearer dearer_strict (keep (λ o. buys o.direction && eqb o.period period) os))

pub asks-ordered : (period : ℕ) (os : List Order) → Ordered cheaper (asks period os)
asks-ordered period os = rw laid-asks (laid-ordered cheaper cheaper_strict (keep (λ o. sells o.direction && eqb o.period period) os))

-- a list of bids never rises in price, one of asks never falls
abbrev pub Falling : List Order → Type 0
Falling os = Pairs (λ a b. b.price ≤ a.price) os

abbrev pub Rising : List Order → Type 0
Rising os = Pairs (λ a b. a.price ≤ b.price) os

pub bids_fall : (period : ℕ) (os : List Order) → Falling (bids period os)
bids_fall period os =
    pairs_map (λ a b. dearer b.price a.price ≡ false) (λ a b. b.price
    ≤ a.price) (bids period os) (λ a b e. ltb-false _ _ e) (bids-ordered period os)

pub asks_rise : (period : ℕ) (os : List Order) → Rising (asks period os)
asks_rise period os =
    pairs_map (λ a b. cheaper b.price a.price ≡ false) (λ a b. a.price
    ≤ b.price) (asks period os) (λ a b e. ltb-false _ _ e) (asks-ordered period os)
