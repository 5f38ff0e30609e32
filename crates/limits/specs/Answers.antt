-- The paper's number and values for an answer.
use Rattle.std.specs.Prelude.{Result, Ok, Err}
use Rattle.measures.specs.declared.refusals.Refusal.{Refusal}
use Rattle.measures.specs.Refused.{number_of}
use Rattle.limits.specs.declared.Limits.{Limits}
use Rattle.limits.specs.Limits.{Answer, refused, given}

abbrev pub answer_of : Result Limits Refusal → Answer
answer_of (Ok limits) = given limits.hour.0 limits.term.0 limits.volume.0
answer_of (Err refusal) = refused (number_of refusal)
