-- The number of the first question about what is lent that fails, if one does. Assumes nothing.
use Rattle.std.specs.Prelude.{ℕ, Result, Ok, Err}
use Rattle.std.proofs.Math.Option.{Option, none, some}
use Rattle.definitions.specs.Numbered.{question_number}
use Rattle.definitions.specs.declared.Question.{Question}

abbrev pub short_of : Result (Unit {0}) Question → Option ℕ
short_of (Ok u) = none
short_of (Err question) = some (question_number question)
