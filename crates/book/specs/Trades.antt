-- What rows do to the figures of seller and buyer (paper 01, "Limits").
use Rattle.std.specs.Prelude.{ℕ, ◌+◌, ◌-◌, Bool, cond, List, [], ◌∷◌, set, ◌==◌, nat_le, slice_index_or, slice_set}
use Rattle.limits.specs.Units.{generator}
use Rattle.matching.specs.Orders.{Row, sells, buys}
use Rattle.book.specs.Book.{Figures, no_figures, EnrolledUnit, Book, unit_of, with_units}

-- "Raising is a generator's sale or a load's purchase; lowering is the other."
abbrev pub raises : ℕ → ℕ → Bool
raises kind direction = cond (generator kind) (sells direction) (buys direction)

abbrev pub lowers : ℕ → ℕ → Bool
lowers kind direction = cond (generator kind) (buys direction) (sells direction)

-- a mark (0 none, 1 sold, 2 bought, 3 both) with one direction more
abbrev pub mark_with : ℕ → ℕ → ℕ
mark_with direction mark = cond (mark == 0) (direction + 1) (cond (mark == 2 - direction) 3 mark)

-- today's mark after a trade: ways 3 and 4 add their direction
abbrev pub mark_after : ℕ → ℕ → ℕ → ℕ
mark_after way direction mark = cond (nat_le 3 way) (mark_with direction mark) mark

-- the figures of a unit of this kind after a trade in this direction (0 sold, 1 bought)
unfoldable pub traded : ℕ → ℕ → ℕ → ℕ → Figures → Figures
traded kind way direction q f =
    cond (raises kind direction)
    (record { held = f.held; raised = f.raised + q; lowered = f.lowered; volume = f.volume + q; mark = mark_after way direction f.mark })
    (record { held = f.held; raised = f.raised; lowered = f.lowered + q; volume = f.volume + q; mark = mark_after way direction f.mark })

-- the unit after such a trade in period p
abbrev pub unit_traded : ℕ → ℕ → ℕ → ℕ → EnrolledUnit → EnrolledUnit
unit_traded way direction p q u =
    record {
      kind = u.kind;
      capacity = u.capacity;
      asset = u.asset;
      figures = set u.figures p
          (traded u.kind way direction q (slice_index_or u.figures p no_figures));
    }

-- the book after unit u traded
unfoldable pub booked : ℕ → ℕ → ℕ → ℕ → ℕ → Book → Book
booked way direction p q u b = with_units b (slice_set b.units (u - 1) (unit_traded way direction p q (unit_of b u)))

-- "Each row, of any call: sold by its seller and bought by its buyer in its period."
abbrev pub row_booked : Row → Book → Book
row_booked r b = booked r.way 1 r.period r.quantity r.buyer (booked r.way 0 r.period r.quantity r.seller b)

unfoldable pub rows_booked : List Row → Book → Book
rows_booked [] b = b
rows_booked (r ∷ rs) b = rows_booked rs (row_booked r b)
