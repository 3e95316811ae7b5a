-- The text of the clauses from the arrays of the search: a literal by its word, a clause by its words. Assumes nothing.
use Rattle.std.specs.Prelude.{ℕ, ◌+◌, ◌/◌, ◌%◌, ◌≤◌, List, [], ◌∷◌, ◌++◌, eqb, length, get_or}
use Rattle.definitions.specs.Lists.{joined, up_from}
use Rattle.definitions.specs.Dimacs.{header_line, literal_text}
use Rattle.units.specs.Units.{clause_at}
use Rattle.machine.specs.declared.Run.{Run}

-- a literal by its word: its atom's position from 0, doubled, and 1 more where it is negated
unfoldable pub word_text : ℕ → List ℕ
word_text w = literal_text (record { negative = eqb (w % 2) 1; size = w / 2 + 1 })

-- the line of a clause
unfoldable pub line_text : List ℕ → List ℕ → ℕ → List ℕ
line_text starts literals c = joined word_text (clause_at starts literals c) ++ (48 ∷ 10 ∷ [])

unfoldable pub cnf_bytes : Run → List ℕ → List ℕ → List ℕ
cnf_bytes run starts literals = header_line run.atoms run.clauses ++ joined (line_text starts literals) (up_from 0 run.clauses)

-- what writing needs of the arrays: the clauses lie in theirs
pub record Exportable (run : Run) (starts literals : List ℕ) : Type 0 where
  pub limit : run.clauses ≤ 577
  pub inside : (c : ℕ) → c ≤ run.clauses → get_or starts c 0 ≤ length literals
