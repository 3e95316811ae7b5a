-- A question that is answered no, as a refusal. Assumes nothing.
use Rattle.definitions.specs.Numbered.{question_number}
use Rattle.definitions.specs.declared.Question.{Question}
use Rattle.definitions.specs.declared.Refusal.{Refusal}

-- the refusal by a question that is asked of the call, and of no line
abbrev pub asked_of_call : Question → Refusal
asked_of_call question = record { number = question_number question; line = 0 }
