-- Document 02, 9/14: when the clause on a listing's line follows from one filling of the rule that the line names; and assignments of the
-- numbers that stand for atoms in an exported text. Assumes nothing.
use Rattle.std.specs.Prelude.{ℕ, suc, ◌≡◌, Bool, not, List, drop}
use Rattle.std.proofs.Math.Option.{some}
use Rattle.std.proofs.Math.ListN.{get_elem?}
use Rattle.definitions.specs.Lists.{◌∈◌}
use Rattle.definitions.specs.Words.{Clause, Rule, Problem}
use Rattle.definitions.specs.Instances.{Substitution, variables, substitutions}
use Rattle.definitions.specs.Meaning.{Assignment, SatisfiesClause, SatisfiesFilling}
use Rattle.definitions.specs.Sheet.{Number, plus}
use Rattle.definitions.specs.Questions.{Asked, yes, read_clause}
use Rattle.definitions.specs.Dimacs.{Cnf, read_cnf}
use Rattle.definitions.specs.Sheets.{Row}

-- ── a logged clause, by its line ──

-- the clause on a line of kind 6: behind the kind and the rule's number it stands as on a line of kind 4
unfoldable pub clause_on : Problem → Row → Asked Clause
clause_on p row = read_clause p.constants p.arities (drop 2 row)

-- "each logged clause must follow from one filling of the rule whose number stands on its line": the clause on the line, the rule whose
-- number, counted from 1, is in the second column, and a filling of it, such that whatever satisfies the filling satisfies the clause. The
-- other way may fail: of two body literals one is in the clause
pub record Entailed (p : Problem) (row : Row) : Type 0 where
  pub clause : Clause
  pub reads : clause_on p row ≡ yes clause
  pub place : ℕ
  pub number : get_elem? row 1 ≡ some (plus (suc place))
  pub rule : Rule
  pub its : get_elem? p.rules place ≡ some rule
  pub filling : Substitution
  pub inside : filling ∈ substitutions p.constants (variables rule)
  pub follows : (v : Assignment) → SatisfiesFilling v rule filling → SatisfiesClause v clause

-- ── the numbers of an exported text ──

-- true or false for every number; a text asks those from 1 to its header's atoms
abbrev pub NumberAssignment : Type 0
NumberAssignment = ℕ → Bool

-- some number of the clause is true: one without a minus that is assigned true, or one with a minus that is assigned false
pub record SatisfiesNumberClause (v : NumberAssignment) (ns : List Number) : Type 0 where
  pub number : Number
  pub inside : number ∈ ns
  pub holds : v number.size ≡ not number.negative

-- each of the clauses
abbrev pub SatisfiesNumberClauses : NumberAssignment → List (List Number) → Type 0
SatisfiesNumberClauses v cs = (ns : List Number) → ns ∈ cs → SatisfiesNumberClause v ns

-- the text is read, and no assignment satisfies the clauses that are read back
pub record Unsatisfiable (text : List ℕ) : Type 0 where
  pub back : Cnf
  pub reads : read_cnf text ≡ yes back
  pub none : (v : NumberAssignment) → SatisfiesNumberClauses v back.clauses → ⊥

-- names every definition of this module, for a theorem that computes with all of them
unfoldable pub carried_all : Unit {0}
unfolding clause_on
carried_all = tt
