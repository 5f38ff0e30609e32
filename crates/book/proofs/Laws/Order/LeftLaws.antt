-- Orders that do not cross or go one way, and rows between two units.
use Rattle.std.proofs.Common.{◌≡◌, ℕ, ◌<◌, Bool, true, false, not, ◌&&◌, eqb, ltb, List, refl, ap, lt-ltb, eq-eqb, eqb-true}
use Rattle.measures.specs.Lists.{Each, every}
use Rattle.measures.proofs.RangeLaws.{In}
use Rattle.measures.proofs.ListLaws.{or_left, or_right, or_other, and_true, and_left, and_right, not_fails}
use Rattle.matching.specs.Orders.{Order as OpenOrder, Row, sells, buys}
use Rattle.book.specs.Sound.{one_direction, apart, each_two}
use Rattle.matching.proofs.Laws.Lists.RemainLaws.{each_of, each_imp}
use Rattle.book.proofs.Laws.Rows.TradeLaws.{Named}

-- a buy and a sale of one period that do not cross
abbrev pub Far : OpenOrder → OpenOrder → Type 0
Far x y = x.direction ≡ 1 → y.direction ≡ 0 → x.period ≡ y.period → x.price < y.price

pub far_apart : (x y : OpenOrder) → Far x y → apart x y ≡ true
far_apart x y h = go (buys x.direction && sells y.direction && eqb x.period y.period) refl
  where
    go : (t : Bool) → (buys x.direction && sells y.direction && eqb x.period y.period) ≡ t → apart x y ≡ true
    go true e =
        let i = and_left (buys x.direction && sells y.direction) (eqb x.period y.period) e in
        or_right (not (buys x.direction && sells y.direction && eqb x.period y.period)) (ltb x.price y.price)
        (lt-ltb x.price y.price
        (h (eqb-true _ _ (and_left (buys x.direction) (sells y.direction) i))
        (eqb-true _ _ (and_right (buys x.direction) (sells y.direction) i))
        (eqb-true _ _ (and_right (buys x.direction && sells y.direction) (eqb x.period y.period) e))))
    go false e =
        or_left (not (buys x.direction && sells y.direction && eqb x.period y.period)) (ltb x.price y.price)
        (not_fails (buys x.direction && sells y.direction && eqb x.period y.period) e)

-- two orders of one unit and period go the same way
abbrev pub SameDirection : OpenOrder → OpenOrder → Type 0
SameDirection x y = x.unit ≡ y.unit → x.period ≡ y.period → x.direction ≡ y.direction

pub one_direction_same : (os : List OpenOrder) → each_two one_direction os ≡ true → Each (λ (x : OpenOrder). Each (SameDirection x) os) os
unfolding each_two
one_direction_same os e = each_of (λ (x : OpenOrder). every (one_direction x) os) (λ (x : OpenOrder). Each (SameDirection x) os)
    (λ x h. each_of (one_direction x) (SameDirection x) (same x) os h) os e
  where
    same : (x y : OpenOrder) → one_direction x y ≡ true → SameDirection x y
    same x y h u p =
        let t = and_true (eqb x.unit y.unit) (eqb x.period y.period) (eq-eqb _ _ u) (eq-eqb _ _ p) in
        eqb-true _ _ (or_other (not (eqb x.unit y.unit && eqb x.period y.period)) (eqb x.direction y.direction) h (ap not t))

-- a row is between two different units of n
abbrev pub TwoUnits : ℕ → Row → Type 0
TwoUnits n r = In 1 n r.seller × In 1 n r.buyer × (r.seller ≡ r.buyer → ⊥)

pub two_named : (n : ℕ) (rs : List Row) → Each (TwoUnits n) rs → Each Named rs
two_named n rs e = each_imp (TwoUnits n) Named (λ r h. (h.0.0, h.1.0)) rs e
