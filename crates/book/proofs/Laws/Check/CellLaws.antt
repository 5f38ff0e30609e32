-- One cell: words joined, and differences and sums that wrap.
use Rattle.std.proofs.Common.{◌≡◌, ℕ, ◌+◌, ◌%◌, ◌<◌, ◌≤◌, arith}
use lib.Bits.{bit_or, or_add_and, and_le_l, and_le_r, or_lt}
use Rattle.book.specs.Inner.Pass.{Same, Low, Joined, CellFits}

pub or_joined : (a b : ℕ) → Joined a b (bit_or a b)
or_joined a b =
    record {
      below = λ k.
          record {
            there = λ h. (omega (arith, h, or_add_and a b, and_le_r a b), omega (arith, h, or_add_and a b, and_le_l a b));
            back = λ h. or_lt k a b h.0 h.1;
          };
    }

pub joined-low : (a b r : ℕ) → Joined a b r → Same (Low r) (Low a × Low b)
joined-low a b r j = j.below 40

pub joined_marks : (a b r : ℕ) → Joined a b r → Same (r < 4) ((a < 4) × (b < 4))
joined_marks a b r j = j.below 2

module _ (bad held raised lowered volume limit x y declared up down over under : ℕ) where
  fitting : Low raised → Low lowered → Low volume → Low over → Low under → limit ≤ 5_000_000 → Low x → Low y
      → declared ≡ (raised + x) % 18446744073709551616 → up ≡ (held + declared) % 18446744073709551616 → down ≡ (lowered + y) % 18446744073709551616
      → (over + up) % 18446744073709551616 ≡ limit → (under + down) % 18446744073709551616 ≡ held
      → CellFits held raised lowered volume limit x y
  fitting h1 h2 h3 h4 h5 h6 hx hy e0 e1 e2 e3 e4 = record { most = omega arith; least = omega arith; traded = h3 }

  low_over : CellFits held raised lowered volume limit x y → limit ≤ 5_000_000 → over < 18446744073709551616
      → declared ≡ (raised + x) % 18446744073709551616 → up ≡ (held + declared) % 18446744073709551616 → (over + up) % 18446744073709551616 ≡ limit → Low over
  low_over f h k e0 e1 e2 = let a = f.most in omega arith

  low_under : CellFits held raised lowered volume limit x y → limit ≤ 5_000_000 → under < 18446744073709551616
      → down ≡ (lowered + y) % 18446744073709551616 → (under + down) % 18446744073709551616 ≡ held → Low under
  low_under f h k e0 e3 = let a = f.most in let b = f.least in omega arith

  pub cell_same : (a b c d r : ℕ) → declared ≡ (raised + x) % 18446744073709551616 → up ≡ (held + declared) % 18446744073709551616
      → down ≡ (lowered + y) % 18446744073709551616 → (over + up) % 18446744073709551616 ≡ limit → (under + down) % 18446744073709551616 ≡ held
      → Joined bad raised a → Joined a lowered b → Joined b volume c → Joined c over d → Joined d under r
      → limit ≤ 5_000_000 → Low x → Low y → over < 18446744073709551616 → under < 18446744073709551616
      → Same (Low r) (Low bad × CellFits held raised lowered volume limit x y)
  cell_same a b c d r e0 e1 e2 e3 e4 ja jb jc jd jr hl hx hy ho hu =
      let sa = joined-low _ _ _ ja in
      let sb = joined-low _ _ _ jb in
      let sc = joined-low _ _ _ jc in
      let sd = joined-low _ _ _ jd in
      let sr = joined-low _ _ _ jr in
      record {
        there = λ h.
            let p5 = sr.there h in
            let p4 = sd.there p5.0 in
            let p3 = sc.there p4.0 in
            let p2 = sb.there p3.0 in
            let p1 = sa.there p2.0 in
            (p1.0, fitting p1.1 p2.1 p3.1 p4.1 p5.1 hl hx hy e0 e1 e2 e3 e4);
        back = λ h.
            let f = h.1 in
            let u = f.most in
            let w = f.least in
            let t = f.traded in
            sr.back (sd.back (sc.back (sb.back (sa.back (h.0, omega arith), omega arith), t), low_over f hl ho e0 e1 e3), low_under f hl hu e2 e4);
      }
