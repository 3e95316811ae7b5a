-- What the calls for C do where enough is lent for what they hand over, and otherwise. Assumes nothing.
use Rattle.std.specs.Prelude.{ℕ, Bool, true, false, ◌&&◌, List, [], Result, Ok, Err, leb, length}
use Rattle.definitions.specs.declared.Question.{Question}
use Rattle.cnf_reader.specs.declared.Cnf.{Cnf}

-- one of two, by whether enough is lent
unfoldable pub lent_or : {A : Type 0} → Bool → A → A → A
lent_or true done undone = done
lent_or false done undone = undone

-- five places for the values of an answer
unfoldable pub five_places : List ℕ → Bool
five_places places = leb 5 (length places)

-- the arrays of the reader, and three places
unfoldable pub cnf_lent : List ℕ → List ℕ → List ℕ → Bool
cnf_lent starts literals places = leb 577 (length starts) && leb 4608 (length literals) && leb 3 (length places)

-- an array of what was read, but for a refusal
unfoldable pub unless_refused : (Cnf → List ℕ) → Result Cnf Question → List ℕ
unless_refused words (Err question) = []
unless_refused words (Ok cnf) = words cnf
