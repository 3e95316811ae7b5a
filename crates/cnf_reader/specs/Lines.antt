-- What the functions over literals and clause lines hand back and store, by what the definitions come to. Assumes nothing.
use Rattle.std.specs.Prelude.{ℕ, ◌+◌, ◌≡◌, List, map, length}
use Rattle.std.proofs.lemmas.List.Edits.{sets}
use Rattle.definitions.specs.Lists.{joined}
use Rattle.definitions.specs.Sheet.{Number}
use Rattle.definitions.specs.Questions.{Asked, yes}
use Rattle.definitions.specs.Dimacs.{Front, front}
use Rattle.encoding.specs.Encoding.{starts_from}
use Rattle.cnf_reader.specs.CnfArrays.{number_word, held_cnf}
use Rattle.cnf_reader.specs.declared.Cnf.{Cnf}

-- the literal that was found has this word
pub record LiteralRead (asked : Asked (Front Number)) (word : ℕ) (behind : List ℕ) : Type 0 where
  pub number : Number
  pub reads : asked ≡ yes (front number behind)
  pub is : word ≡ number_word number

-- the words of the numbers that were found stand from `used` up to `end`
pub record LineHeld (asked : Asked (Front (List Number))) (used : ℕ) (before : List ℕ) (end : ℕ) (behind after : List ℕ) : Type 0 where
  pub numbers : List Number
  pub reads : asked ≡ yes (front numbers behind)
  pub place : end ≡ used + length numbers
  pub stored : after ≡ sets before used (map number_word numbers)

-- the clauses that were found stand from place `i` and from word `used` on
pub record ClausesHeld (asked : Asked (List (List Number))) (i used : ℕ) (starts literals : List ℕ) (starts' literals' : List ℕ) : Type 0 where
  pub clauses : List (List Number)
  pub reads : asked ≡ yes clauses
  pub places : starts' ≡ sets starts i (starts_from used clauses)
  pub words : literals' ≡ sets literals used (joined (map number_word) clauses)

-- and nothing else, but for how many there are
pub record CnfHeld (asked : Asked (List (List Number))) (atoms : ℕ) (cnf : Cnf) : Type 0 where
  pub clauses : List (List Number)
  pub reads : asked ≡ yes clauses
  pub is : cnf ≡ held_cnf (record { atoms = atoms; clauses = clauses })
