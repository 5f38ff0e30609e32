-- How memory holds a book: words of 64 bits at fixed places. Paper 01 frees this layout. Each place is written here and in
-- src/places.rt, and nowhere else; a change of layout changes `layout_number` too.
--   0 to 8  days, floor, ceiling, phase, numbers given, units, offers, orders, the layout's number
--   64      64 units of 8: kind, capacity, asset
--   1344    8 offers of 8: number, unit, partner, taken, price
--   1536    256 orders of 6: number, unit, direction, period, price, quantity
--   3072    8 offers' amounts of 744, by period
--   9024    for each day 7704: 64 units' figures of 5 times 24, by hour (held, raised, lowered, mark, volume), then 24 words
-- Kept for the requests to come, and not read: 9 to 63, the last 5 words of a unit, 576 to 1343, the last 3 of an offer, 1408
-- to 1535, and the 24 words behind each day's figures.
use Rattle.std.specs.Prelude.{◌≡◌, ℕ, ◌+◌, ◌*◌, ◌/◌, ◌%◌, Bool, ◌&&◌, List, length, take, drop, ◌==◌, nat_le, slice_index}
use Rattle.measures.specs.Lists.{table}
use Rattle.limits.specs.Units.{periods}
use Rattle.matching.specs.Memory.{orders_in}
use Rattle.book.specs.Book.{Figures, EnrolledUnit, OpenOffer, Book, net}

-- the book's own words
abbrev pub DAYS : ℕ
DAYS = 0

abbrev pub FLOOR : ℕ
FLOOR = 1

abbrev pub CEILING : ℕ
CEILING = 2

abbrev pub PHASE : ℕ
PHASE = 3

abbrev pub GIVEN : ℕ
GIVEN = 4

abbrev pub UNITS : ℕ
UNITS = 5

abbrev pub OFFERS : ℕ
OFFERS = 6

abbrev pub ORDERS : ℕ
ORDERS = 7

abbrev pub LAYOUT : ℕ
LAYOUT = 8

-- the number of this layout: no unit's kind, which an older layout had at its place
abbrev pub layout_number : ℕ
layout_number = 3_100_002

-- the unit at place k begins with its kind
abbrev pub units_start : ℕ
units_start = 64

abbrev pub unit_place : ℕ → ℕ
unit_place k = 64 + 8 * k

abbrev pub CAPACITY : ℕ
CAPACITY = 1

abbrev pub ASSET : ℕ
ASSET = 2

-- the offer at place j, and the order at place i, begin with their number
abbrev pub offers_start : ℕ
offers_start = 1_344

abbrev pub offer_words : ℕ
offer_words = 8

abbrev pub offer_place : ℕ → ℕ
offer_place j = 1_344 + 8 * j

abbrev pub orders_start : ℕ
orders_start = 1_536

abbrev pub orders_words : ℕ
orders_words = 1_536

abbrev pub order_place : ℕ → ℕ
order_place i = 1_536 + 6 * i

abbrev pub UNIT : ℕ
UNIT = 1

abbrev pub PARTNER : ℕ
PARTNER = 2

abbrev pub TAKEN : ℕ
TAKEN = 3

abbrev pub DIRECTION : ℕ
DIRECTION = 2

abbrev pub PERIOD : ℕ
PERIOD = 3

abbrev pub PRICE : ℕ
PRICE = 4

abbrev pub QUANTITY : ℕ
QUANTITY = 5

-- where the amounts of the offer at place j begin, and the one of period p
abbrev pub amounts_start : ℕ
amounts_start = 3_072

abbrev pub amount_words : ℕ
amount_words = 744

abbrev pub amounts_place : ℕ → ℕ
amounts_place j = 3_072 + 744 * j

abbrev pub amount_place : ℕ → ℕ → ℕ
amount_place j p = amounts_place j + p

-- where the figures of the unit at place k begin on day d, and where its held energy of period p stands
abbrev pub figures_start : ℕ
figures_start = 9_024

abbrev pub day_words : ℕ
day_words = 7_704

abbrev pub block_words : ℕ
block_words = 120

abbrev pub day_place : ℕ → ℕ → ℕ
day_place d k = 9_024 + 7_704 * d + 120 * k

abbrev pub figure_place : ℕ → ℕ → ℕ
figure_place k p = day_place (p / 24) k + p % 24

abbrev pub RAISED : ℕ
RAISED = 24

abbrev pub LOWERED : ℕ
LOWERED = 48

abbrev pub MARK : ℕ
MARK = 72

abbrev pub VOLUME : ℕ
VOLUME = 96

-- "its needed length depends on the days alone, is published by the library": in words of 64 bits
abbrev pub book_words : ℕ → ℕ
book_words days = 9_024 + 7_704 * days

abbrev pub word : List ℕ → ℕ → ℕ
word m i = slice_index m i

-- the figures of the unit at place k in period p
abbrev pub figures_at : List ℕ → ℕ → ℕ → Figures
figures_at m k p =
    record {
      held = word m (figure_place k p);
      raised = word m (figure_place k p + RAISED);
      lowered = word m (figure_place k p + LOWERED);
      volume = word m (figure_place k p + VOLUME);
      mark = word m (figure_place k p + MARK);
    }

abbrev pub unit_at : List ℕ → ℕ → ℕ → EnrolledUnit
unit_at m days k =
    record {
      kind = word m (unit_place k);
      capacity = word m (unit_place k + CAPACITY);
      asset = word m (unit_place k + ASSET);
      figures = table (periods days) (figures_at m k);
    }

-- the amount of the offer at place j in period p
abbrev pub amount_at : List ℕ → ℕ → ℕ → ℕ
amount_at m j p = word m (amount_place j p)

abbrev pub offer_at : List ℕ → ℕ → ℕ → OpenOffer
offer_at m days j =
    record {
      number = word m (offer_place j);
      unit = word m (offer_place j + UNIT);
      partner = word m (offer_place j + PARTNER);
      price = word m (offer_place j + PRICE);
      taken = word m (offer_place j + TAKEN);
      amounts = table (periods days) (amount_at m j);
    }

-- the part of the memory that holds the orders
abbrev pub orders_part : List ℕ → List ℕ
orders_part m = take orders_words (drop orders_start m)

unfoldable pub decode : List ℕ → Book
decode m =
    record {
      rules = record { days = word m DAYS; floor = word m FLOOR; ceiling = word m CEILING };
      phase = word m PHASE;
      given = word m GIVEN;
      units = table (word m UNITS) (unit_at m (word m DAYS));
      offers = table (word m OFFERS) (offer_at m (word m DAYS));
      orders = orders_in (orders_part m) (word m ORDERS);
    }

-- whether memory is laid out for a book: it has the words that its days ask for ("memory too short"), and this layout's number
abbrev pub laid_out : List ℕ → Bool
laid_out m = nat_le (book_words (word m DAYS)) (length m) && word m LAYOUT == layout_number

-- what a call leaves as it is: the layout's number, and ("Memory past that length is never changed.") what lies past the book
pub record Aside (m m' : List ℕ) : Type 0 where
  pub layout : word m' LAYOUT ≡ word m LAYOUT
  pub past : drop (book_words (word m DAYS)) m' ≡ drop (book_words (word m DAYS)) m

-- the net of the unit at place k in period p
abbrev pub net_in : List ℕ → ℕ → ℕ → ℕ
net_in m k p = net (figures_at m k p)
