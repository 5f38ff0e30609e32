-- The starred figures of paper 01, 1 to 8, as one list.
use Prim.Native.Nat.{ℕ}
use Rattle.std.specs.Prelude.{◌≡◌, List, [], ◌∷◌, ◌++◌, map, replicate}
use Rattle.book.specs.Book.{Book, rules_of}
use Rattle.measures.specs.Figures.{AllShared, figure1}
use Rattle.limits.specs.Figures.{AllLimited, figure5, figure6}
use Rattle.matching.specs.Orders.{Row}
use Rattle.matching.specs.Figures.{Figure2, Figure3, Figure4}
use Rattle.book.specs.Opening.{fresh}
use Rattle.book.specs.Curve.{curve}
use Rattle.book.specs.Calls.{Call, call_enrol, call_offer, call_take, call_order, call_close, Heard, answers, book_after}

-- answers: accepted with a number and rows, or refused
abbrev pub ok : ℕ → List Row → Heard
ok n rs = record { refusal = 0; number = n; rows = rs }

abbrev pub no : ℕ → Heard
no r = record { refusal = r; number = 0; rows = [] }

-- 24 amounts: q in hour h, else 0
abbrev pub in_hour : ℕ → ℕ → List ℕ
in_hour h q = replicate h 0 ++ q ∷ replicate (Prim.Native.Nat.◌-◌ 23 h) 0

-- an order of unit 1 at price 5 with enough rows lent
abbrev pub order1 : ℕ → ℕ → ℕ → Call
order1 direction period quantity = call_order 1 direction period 5 quantity 4_464

abbrev pub On1Day : List Call → List Heard → Type 0
On1Day cs expected = answers (fresh (rules_of 1 0 1_000_000)) cs ≡ expected

-- "Kind 2, 100 kW, one day: limits 100, 2,400, 2,880. Sell 100 accepted, 101 gives 19."
abbrev pub Figure5 : Type 0
Figure5 =
    AllLimited figure5
    × On1Day (call_enrol 2 100 0 ∷ order1 0 8 101 ∷ order1 0 8 100 ∷ []) (ok 1 [] ∷ no 19 ∷ ok 1 [] ∷ [])

-- "Kind 1, 100 kW, one day: hours 5 and 20 give 19 for 1 kWh; 6 and 19 take 100. After 1,000 open, 1 more that fits its
-- hour gives 20."
abbrev pub Figure6 : Type 0
Figure6 =
    AllLimited figure6
    × On1Day
    (call_enrol 1 100 0 ∷ order1 0 5 1 ∷ order1 0 20 1 ∷ order1 0 6 100 ∷ order1 0 19 100
    ∷ map (λ h. order1 0 h 100) (7 ∷ 8 ∷ 9 ∷ 10 ∷ 11 ∷ 12 ∷ 13 ∷ 14 ∷ []) ++ (order1 0 15 1 ∷ []))
    (ok 1 [] ∷ no 19 ∷ no 19 ∷ ok 1 [] ∷ ok 2 []
    ∷ map (λ n. ok n []) (3 ∷ 4 ∷ 5 ∷ 6 ∷ 7 ∷ 8 ∷ 9 ∷ 10 ∷ []) ++ (no 20 ∷ []))

-- "Kind 2, 100 kW, sold 100 in an hour by listing today: its order buying 1 there gives 19. After the close: 100
-- accepted."
abbrev pub Figure7 : Type 0
Figure7 =
    On1Day
    (call_enrol 2 100 0 ∷ call_enrol 3 100 0 ∷ call_offer 1 0 5 (in_hour 8 100) ∷ call_take 2 1 100 4_464 ∷ order1 1 8 1 ∷ call_close ∷ order1 1 8 100 ∷ [])
    (ok 1 [] ∷ ok 2 [] ∷ ok 1 []
    ∷ ok 0 (record { way = 2; period = 8; seller = 1; buyer = 2; quantity = 100; price = 5 } ∷ [])
    ∷ no 19 ∷ ok 0 [] ∷ ok 1 [] ∷ [])

-- a load that took 7 in hour 0, 1 in hour 1 and nothing else
abbrev pub took8 : Book
took8 =
    book_after (fresh (rules_of 1 0 1_000_000))
    (call_enrol 2 100 0 ∷ call_enrol 3 100 0 ∷ call_offer 1 2 5 (7 ∷ 1 ∷ replicate 22 0) ∷ call_take 2 1 8 4_464 ∷ [])

-- "Nets 7, 1, 0: 3,4; 0,1; 0,0."
abbrev pub Figure8 : Type 0
Figure8 = curve took8 2 0 48 ≡ record { refusal = 0; points = 3 ∷ 4 ∷ 0 ∷ 1 ∷ 0 ∷ 0 ∷ replicate 42 0 }

-- the list of the starred figures
abbrev pub figures : List (Type 0)
figures = AllShared figure1 ∷ Figure2 ∷ Figure3 ∷ Figure4 ∷ Figure5 ∷ Figure6 ∷ Figure7 ∷ Figure8 ∷ []

-- every statement of a list
abbrev pub Hold : List (Type 0) → Type 0
Hold [] = Unit {0}
Hold (F ∷ Fs) = F × Hold Fs
