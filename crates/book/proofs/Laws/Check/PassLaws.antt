-- The pass over cells in turn: none, one more, a day more.
use Rattle.std.proofs.Common.{◌≡◌, ℕ, zero, suc, ◌+◌, ◌-◌, ◌*◌, ◌%◌, ◌<◌, ◌≤◌, refl, sym, ap, ◌∙◌, add-zero, add-suc, arith}
use native.Mathlib.Decide.{dec_lt}
use Rattle.measures.specs.Lists.{sum}
use Rattle.measures.proofs.ListLaws.{sum_none, sum_more, sum_ext}
use Rattle.book.specs.Inner.Pass.{Same, Low, Joined, Cell, Fits, CellsFit, Pass, Passed, Limited, Together}
use Rattle.book.specs.declared.pass.Sums.{Sums}
use Rattle.book.proofs.Laws.Check.CellLaws.{joined-low, joined_marks}

-- a sum over n + b numbers is that over n and that over the b that follow
sum_split : (n b : ℕ) (f : ℕ → ℕ) → sum (n + b) f ≡ sum n f + sum b (λ i. f (n + i))
unfolding sum
sum_split n zero f = rw (add-zero n) (omega arith)
sum_split n (suc b) f = rw (add-suc n b) (let t = sum_split n b f in omega arith)

sum-small : (n : ℕ) (f : ℕ → ℕ) → ((i : ℕ) → i < n → f i ≤ 2_000_000_000_000) → sum n f ≤ 2_000_000_000_000 * n
unfolding sum
sum-small zero f h = omega arith
sum-small (suc n) f h =
    let t = sum-small n f (λ i l. h i (omega arith)) in
    let s = h n (omega arith) in
    omega arith

abbrev pub term : Cell → ℕ
term c = c.held + (c.raised + c.up)

abbrev pub most : Cell → ℕ
most c = c.volume + (c.up + c.down)

module _ (n : ℕ) (f : ℕ → Cell) (l : Limited f) (c : CellsFit n f) where
  term-small : sum n (λ i. term (f i)) ≤ 2_000_000_000_000 * n
  term-small = sum-small n (λ i. term (f i)) (λ i h. let g = c.cells i h in let a = g.most in let b = l.limit i in omega arith)

  most-small : sum n (λ i. most (f i)) ≤ 2_000_000_000_000 * n
  most-small =
      sum-small n (λ i. most (f i)) (λ i h.
      let g = c.cells i h in
      let a = g.most in
      let b = l.limit i in
      let d = g.least in
      let t = g.traded in
      omega arith)

pub pass_none : (f : ℕ → Cell) → Pass 0 f 0 0 0 0
pass_none f =
    record {
      faults = record { there = λ h. record { cells = λ i l. absurd (omega arith) }; back = λ h. omega arith };
      marked = record { there = λ h. record { marks = λ i l. absurd (omega arith) }; back = λ h. omega arith };
      term = λ h. sym (sum_none _);
      most = λ h. sym (sum_none _);
    }

-- one number more
below_more : (P : ℕ → Type 0) (n : ℕ) → ((i : ℕ) → i < n → P i) → P n → (i : ℕ) → i < n + 1 → P i
below_more P n h p i l = go (dec_lt i n)
  where
    go : Dec (i < n) → P i
    go (yes k) = h i k
    go (no k) = let e : i ≡ n = omega arith in rw e p

-- b numbers more
below_join : (P : ℕ → Type 0) (n b : ℕ) → ((i : ℕ) → i < n → P i) → ((i : ℕ) → i < b → P (n + i)) → (i : ℕ) → i < n + b → P i
below_join P n b h k i l = go (dec_lt i n)
  where
    go : Dec (i < n) → P i
    go (yes q) = h i q
    go (no q) = let e : n + (i - n) ≡ i = omega arith in rw e at (k (i - n) (omega arith))

-- a sum that wraps does not where it is small
no_wrap : (w x r a b n : ℕ) → w ≡ a → a ≤ 2_000_000_000_000 * n → n ≤ 1000 → x ≡ b → b ≤ 2_000_000_000_000 * 1000 → r ≡ (w + x) % 18446744073709551616 → r
    ≡ a + b
no_wrap w x r a b n e h hn f k g = omega arith

module _ (n : ℕ) (f : ℕ → Cell) (bad marks whole volume : ℕ) (few : n < 1000) (l : Limited f) (p : Pass n f bad marks whole volume) where
  pub pass_more : (c : Cell) (bad' marks' whole' volume' a b : ℕ) → f n ≡ c
      → Same (Low bad') (Low bad × Fits c)
      → Joined marks c.mark marks'
      → (Fits c → c.limit ≤ 5_000_000 → a ≡ term c) → whole' ≡ (whole + a) % 18446744073709551616
      → (Fits c → c.limit ≤ 5_000_000 → b ≡ most c) → volume' ≡ (volume + b) % 18446744073709551616
      → Pass (n + 1) f bad' marks' whole' volume'
  pass_more c bad' marks' whole' volume' a b ec s j ea ew eb ev =
      record {
        faults =
            record {
              there = λ h. record { cells = below_more (λ i. Fits (f i)) n (p.faults.there (s.there h).0).cells (rw ec (s.there h).1) };
              back = λ g. s.back (p.faults.back (record { cells = λ i q. g.cells i (omega arith) }), rw ec at (g.cells n (omega arith)));
            };
        marked =
            record {
              there = λ h.
                  let t = (joined_marks _ _ _ j).there h in
                  record { marks = below_more (λ i. (f i).mark < 4) n (p.marked.there t.0).marks (rw ec t.1) };
              back = λ g.
                  (joined_marks _ _ _ j).back (p.marked.back (record { marks = λ i q. g.marks i (omega arith) }), rw ec at (g.marks n (omega arith)));
            };
        term = λ h. whole_more (s.there h).0 (s.there h).1;
        most = λ h. volume-more (s.there h).0 (s.there h).1;
      }
    where
      limited : c.limit ≤ 5_000_000
      limited = rw ec at (l.limit n)

      whole_more : Low bad → Fits c → whole' ≡ sum (n + 1) (λ i. term (f i))
      whole_more h g =
          let e : sum (n + 1) (λ i. term (f i)) ≡ sum n (λ i. term (f i)) + term c = sum_more n (λ i. term (f i))
          ∙ ap (λ (d : Cell). sum n (λ i. term (f i)) + term d) ec in
          let k = limited in
          let u = g.most in
          no_wrap whole a whole' _ _ n (p.term h) (term-small n f l (p.faults.there h)) (omega arith) (ea g k) (omega arith) ew ∙ sym e

      volume-more : Low bad → Fits c → volume' ≡ sum (n + 1) (λ i. most (f i))
      volume-more h g =
          let e : sum (n + 1) (λ i. most (f i)) ≡ sum n (λ i. most (f i)) + most c = sum_more n (λ i. most (f i))
          ∙ ap (λ (d : Cell). sum n (λ i. most (f i)) + most d) ec in
          let k = limited in
          let u = g.most in
          let v = g.least in
          let t = g.traded in
          no_wrap volume b volume' _ _ n (p.most h) (most-small n f l (p.faults.there h)) (omega arith) (eb g k) (omega arith) ev ∙ sym e

  -- the b numbers that follow, passed by themselves
  pub pass_join : (b : ℕ) (g : ℕ → Cell) (bad₂ marks₂ whole₂ volume₂ bad' marks' whole' volume' : ℕ) → b ≤ 1000
      → ((i : ℕ) → i < b → g i ≡ f (n + i)) → Pass b g bad₂ marks₂ whole₂ volume₂
      → Joined bad bad₂ bad' → Joined marks marks₂ marks'
      → whole' ≡ (whole + whole₂) % 18446744073709551616 → volume' ≡ (volume + volume₂) % 18446744073709551616
      → Pass (n + b) f bad' marks' whole' volume'
  pass_join b g bad₂ marks₂ whole₂ volume₂ bad' marks' whole' volume' hb eg q jb jw ew ev =
      record {
        faults =
            record {
              there = λ h. record { cells = below_join (λ i. Fits (f i)) n b (p.faults.there (low h).0).cells (after (low h).1).cells };
              back = λ c.
                  (joined-low _ _ _ jb).back (
                    p.faults.back (record { cells = λ i k. c.cells i (omega arith) }),
                    q.faults.back (record { cells = λ i k. rw (eg i k) (c.cells (n + i) (omega arith)) }),
                  );
            };
        marked =
            record {
              there = λ h.
                  let t = (joined_marks _ _ _ jw).there h in
                  record {
                    marks = below_join (λ i. (f i).mark < 4) n b (p.marked.there t.0).marks
                        (λ i k. rw (eg i k) at ((q.marked.there t.1).marks i k));
                  };
              back = λ c.
                  (joined_marks _ _ _ jw).back (
                    p.marked.back (record { marks = λ i k. c.marks i (omega arith) }),
                    q.marked.back (record { marks = λ i k. rw (eg i k) (c.marks (n + i) (omega arith)) }),
                  );
            };
        term = λ h. both_whole (low h).0 (low h).1;
        most = λ h. both_volume (low h).0 (low h).1;
      }
    where
      low : Low bad' → Low bad × Low bad₂
      low h = (joined-low _ _ _ jb).there h

      after : Low bad₂ → CellsFit b (λ i. f (n + i))
      after h = record { cells = λ i k. rw (eg i k) at ((q.faults.there h).cells i k) }

      limited : Limited (λ i. f (n + i))
      limited = record { limit = λ i. l.limit (n + i) }

      both_whole : Low bad → Low bad₂ → whole' ≡ sum (n + b) (λ i. term (f i))
      both_whole h k =
          let e : sum b (λ i. term (g i)) ≡ sum b (λ i. term (f (n + i))) = sum_ext b _ _ (λ i z. ap (λ (c : Cell). term c) (eg i z)) in
          let s : sum b (λ i. term (f (n + i))) ≤ 2_000_000_000_000 * b = term-small b (λ i. f (n + i)) limited (after k) in
          no_wrap whole whole₂ whole' _ _ n (p.term h) (term-small n f l (p.faults.there h)) (omega arith) (q.term k ∙ e) (omega arith) ew
          ∙ sym (sum_split n b (λ i. term (f i)))

      both_volume : Low bad → Low bad₂ → volume' ≡ sum (n + b) (λ i. most (f i))
      both_volume h k =
          let e : sum b (λ i. most (g i)) ≡ sum b (λ i. most (f (n + i))) = sum_ext b _ _ (λ i z. ap (λ (c : Cell). most c) (eg i z)) in
          let s : sum b (λ i. most (f (n + i))) ≤ 2_000_000_000_000 * b = most-small b (λ i. f (n + i)) limited (after k) in
          no_wrap volume volume₂ volume' _ _ n (p.most h) (most-small n f l (p.faults.there h)) (omega arith) (q.most k ∙ e) (omega arith) ev
          ∙ sym (sum_split n b (λ i. most (f i)))

-- a pass over the same cells
pub pass_ext : (n : ℕ) (f g : ℕ → Cell) (bad marks whole volume : ℕ) → ((i : ℕ) → i < n → f i ≡ g i) → Pass n f bad marks whole volume
    → Pass n g bad marks whole volume
pass_ext n f g bad marks whole volume e p =
    record {
      faults =
          record {
            there = λ h. record { cells = λ i l. rw (e i l) at ((p.faults.there h).cells i l) };
            back = λ c. p.faults.back (record { cells = λ i l. rw (e i l) (c.cells i l) });
          };
      marked =
          record {
            there = λ h. record { marks = λ i l. rw (e i l) at ((p.marked.there h).marks i l) };
            back = λ c. p.marked.back (record { marks = λ i l. rw (e i l) (c.marks i l) });
          };
      term = λ h. p.term h ∙ sum_ext n _ _ (λ i l. ap (λ (c : Cell). term c) (e i l));
      most = λ h. p.most h ∙ sum_ext n _ _ (λ i l. ap (λ (c : Cell). most c) (e i l));
    }

-- one day more
pub days_more : (f : ℕ → Cell) → Limited f → (d : ℕ) (a b r : Sums) → d < 31 → Passed (24 * d) f a
    → Passed 24 (λ h. f (24 * d + h)) b → Together a b r → Passed (24 * (d + 1)) f r
days_more f l d a b r few p q j =
    let e : 24 * (d + 1) ≡ 24 * d + 24 = omega arith in
    rw e (pass_join (24 * d) f _ _ _ _ (omega arith) l p 24 (λ h. f (24 * d + h)) _ _ _ _ _ _ _ _ (omega arith) (λ i h. refl) q
    j.faults j.marked j.term j.most)
