-- How the words of clauses stand for the goal clauses and the log, and what step A finds, as a word. Assumes nothing.
use Rattle.std.specs.Prelude.{ℕ, ◌+◌, ◌≡◌, List, map, eqb, length, get_or, take}
use Rattle.std.proofs.Math.Option.{Option, none, some}
use Rattle.std.proofs.Math.ListN.{get_elem?}
use Rattle.definitions.specs.Lists.{distinct}
use Rattle.definitions.specs.Words.{Atom, negate, Clause}
use Rattle.definitions.specs.Search.{Logged, clause_of, Act, conflict, force}
use Rattle.encoding.specs.Encoding.{literal_word, clause_words}
use Rattle.units.specs.Units.{clause_at}
use Rattle.units.specs.declared.UnitAct.TheVariants.{Conflict, Force, Nothing}

-- the goal clauses and then the log stand in the arrays, and the negated heads of a logged clause, each once, are its first words
pub record ClausesStand (table : List Atom) (goals : List Clause) (log : List Logged) (starts literals heads : List ℕ) : Type 0 where
  pub goal : (n : ℕ) (c : Clause) → get_elem? goals n ≡ some c → clause_at starts literals n ≡ clause_words table c
  pub logged : (n : ℕ) (g : Logged) → get_elem? log n ≡ some g → clause_at starts literals (length goals + n) ≡ clause_words table (clause_of g)
  pub negated : (n : ℕ) (g : Logged) → get_elem? log n ≡ some g
      → take (get_or heads n 0) (clause_at starts literals (length goals + n)) ≡ distinct eqb (clause_words table (map negate g.instance.heads))

-- what step A found, as a word
unfoldable pub act_word : List Atom → Option Act → Rattle.units.specs.declared.UnitAct.UnitAct
act_word table none = Nothing
act_word table (some conflict) = Conflict
act_word table (some (force l)) = Force (literal_word table l)
