-- "Close the day: all open declarations lapse, held becomes net, numbers restart, the call phase begins."
use Rattle.std.specs.Prelude.{[], ◌∷◌, map}
use Rattle.book.specs.Book.{Figures, EnrolledUnit, Book, call_phase, net}
use Rattle.book.specs.Refusals.{Outcome, first_refusal, decided, accepted, unsound}

-- "held becomes net"; nothing is traded today yet
abbrev pub day_over : Figures → Figures
day_over f = record { held = net f; raised = 0; lowered = 0; volume = f.volume; mark = 0 }

abbrev pub unit_day_over : EnrolledUnit → EnrolledUnit
unit_day_over u = record { kind = u.kind; capacity = u.capacity; asset = u.asset; figures = map day_over u.figures }

abbrev pub day_closed : Book → Book
day_closed b =
    record {
      rules = b.rules;
      phase = call_phase;
      given = 0;
      units = map unit_day_over b.units;
      offers = [];
      orders =
          [];
    }

unfoldable pub closing : Book → Outcome
closing b = decided (first_refusal (unsound b ∷ [])) b (accepted 0 [] (day_closed b))
