-- What a call hands back and leaves in a room, by what it comes to and the text that is made of it. Assumes nothing.
use Rattle.std.specs.Prelude.{ℕ, ◌≡◌, List, length, Result as Returned, Ok, Err}
use Rattle.definitions.specs.Call.{Result, answer_of, written}
use Rattle.definitions.specs.declared.Refusal.{Refusal}
use Rattle.definitions.specs.declared.Answer.{Answer}
use Rattle.definitions.specs.declared.Answer.TheVariants.{Refused, Answered}
use Rattle.answering.specs.declared.Solved.{Solved}
use Rattle.answering.specs.declared.SolvedExport.{SolvedExport}

-- what an export made, by the room: its listing,
abbrev pub listing_in : Returned SolvedExport Refusal → Returned Solved Refusal
listing_in (Ok solved) = Ok (record { counts = solved.counts; length = solved.listing })
listing_in (Err refusal) = Err refusal

-- and its text
abbrev pub text_in : Returned SolvedExport Refusal → Returned Solved Refusal
text_in (Ok solved) = Ok (record { counts = solved.counts; length = solved.text })
text_in (Err refusal) = Err refusal

-- the answer
abbrev pub answer_in : Returned Solved Refusal → Answer
answer_in (Ok solved) = Answered solved.counts
answer_in (Err refusal) = Refused refusal

-- how many bytes were put into the room
abbrev pub length_in : Returned Solved Refusal → ℕ
length_in (Ok solved) = solved.length
length_in (Err refusal) = 0

-- the answer, and the text with its length at the front of the room
pub record SolvedAs (came : Result) (text room : List ℕ) (r : Returned Solved Refusal) (room_last : List ℕ) : Type 0 where
  pub answer : answer_in r ≡ answer_of came
  pub size : length_in r ≡ length text
  pub stored : room_last ≡ written text room
