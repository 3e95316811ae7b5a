-- How the values and the index stand for a trail and a table. Assumes nothing.
use Rattle.std.specs.Prelude.{ℕ, suc, ◌≡◌, not, List, get_or}
use Rattle.std.proofs.Math.Option.{some}
use Rattle.std.proofs.Math.ListN.{get_elem?}
use Rattle.bits.specs.Bits.{has}
use Rattle.definitions.specs.Lists.{◌∈◌}
use Rattle.definitions.specs.Words.{Atom, Literal, plain, Problem, position}
use Rattle.definitions.specs.Search.{Trail, is_true, is_unset}
use Rattle.definitions.specs.LiteralTest.{atom_state}
use Rattle.theory.specs.Limits.{LiteralLimits}
use Rattle.encoding.specs.Encoding.{atom_code, literal_word}
use Rattle.encoding.specs.Values.{Values, value_at, true_word}

-- the values are those of the trail, for every atom of the table
abbrev pub Valued : List Atom → Trail → Values → Type 0
Valued table t values = (a : Atom) → a ∈ table → value_at values (position table a) ≡ atom_state t a

-- two words say of each goal atom what the trail says: bit k of the first, whether goal atom k is set; of the second, whether it is true
abbrev pub GoalWords : List Atom → Trail → ℕ → ℕ → Type 0
GoalWords goals t set truth = (k : ℕ) (a : Atom) → get_elem? goals k ≡ some a → (has k set ≡ not (is_unset t (plain a))) × (has k truth ≡ is_true t (plain a))

-- a literal of the table is true just where its word is
abbrev pub TrueWords : List Atom → Trail → Values → Type 0
TrueWords table t values = (l : Literal) → l.atom ∈ table → true_word values (literal_word table l) ≡ is_true t l

-- the index finds every atom of the sheet's symbols and constants that is in the table, and no other
pub record IndexStands (p : Problem) (table : List Atom) (index : List ℕ) : Type 0 where
  pub inside : (a : Atom) → LiteralLimits p (plain a) → a ∈ table → get_or index (atom_code a) 0 ≡ suc (position table a)
  pub outside : (a : Atom) → LiteralLimits p (plain a) → (a ∈ table → ⊥) → get_or index (atom_code a) 0 ≡ 0
