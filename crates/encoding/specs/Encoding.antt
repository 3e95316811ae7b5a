-- What the arrays hold of a problem: codes of atoms, the table and its index, clauses as literals of table positions. Assumes nothing.
use Rattle.std.specs.Prelude.{ℕ, suc, ◌+◌, ◌-◌, ◌*◌, not, List, [], ◌∷◌, map, length, get_or, set, replicate}
use Rattle.std.proofs.lemmas.List.Edits.{sets}
use Rattle.encoding.specs.Lengths.{atom_codes}
use Rattle.definitions.specs.Lists.{joined}
use Rattle.definitions.specs.Words.{Atom, Literal, Clause, Problem, goal_atoms, position}
use Rattle.definitions.specs.Questions.{counted}
use Rattle.encoding.specs.Signs.{word_of}
use Rattle.encoding.specs.Slots.{rule_words}
use Rattle.encoding.specs.declared.Sizes.{Sizes}

-- a constant from 0; 0 too where there is no argument
unfoldable pub place : List ℕ → ℕ → ℕ
place args i = get_or args i 1 - 1

-- a symbol and three constants, each from 0, as one number below 524,288
unfoldable pub code_of : ℕ → ℕ → ℕ → ℕ → ℕ
code_of symbol a b c = ((symbol * 32 + a) * 32 + b) * 32 + c

unfoldable pub atom_code : Atom → ℕ
atom_code a = code_of (a.symbol - 1) (place a.args 0) (place a.args 1) (place a.args 2)

-- a literal: twice its atom's position, and 1 more where it is negated
unfoldable pub literal_word : List Atom → Literal → ℕ
literal_word table l = word_of (not l.positive) (position table l.atom)

unfoldable pub clause_words : List Atom → Clause → List ℕ
clause_words table c = map (literal_word table) c

-- where each clause starts among all literals, whatever stands for one, and where the last clause ends
unfoldable pub starts_from : {A : Type 0} → ℕ → List (List A) → List ℕ
starts_from at [] = at ∷ []
starts_from at (c ∷ cs) = at ∷ starts_from (at + length c) cs

-- the index: at each code one more than the position of the atom with that code, 0 for an atom outside the table
unfoldable pub index_from : ℕ → List Atom → List ℕ → List ℕ
index_from at [] index = index
index_from at (a ∷ as') index = index_from (suc at) as' (set index (atom_code a) (suc at))

unfoldable pub empty_index : List ℕ
empty_index = replicate atom_codes 0

unfoldable pub sizes_of : Problem → Sizes
sizes_of p =
    record {
      constants = p.constants;
      symbols = length p.arities;
      rules = length p.rules;
      counted = counted p.rule_lines;
      clauses = length p.clauses;
      atoms = length (goal_atoms p.clauses);
      literals = length (joined (λ (c : Clause). c) p.clauses);
    }

-- six arrays that hold a problem; what stands behind it is what stood there before
pub record Arrays : Type 0 where
  pub arities : List ℕ
  pub rules : List ℕ
  pub starts : List ℕ
  pub literals : List ℕ
  pub table : List ℕ
  pub index : List ℕ

abbrev pub arrays : List ℕ → List ℕ → List ℕ → List ℕ → List ℕ → List ℕ → Arrays
arrays a r s l t i = record { arities = a; rules = r; starts = s; literals = l; table = t; index = i }

unfoldable pub hold : Problem → Arrays → Arrays
hold p before =
    record {
      arities = sets before.arities 0 p.arities;
      rules = sets before.rules 0 (joined rule_words p.rules);
      starts = sets before.starts 0 (starts_from 0 p.clauses);
      literals = sets before.literals 0 (joined (clause_words (goal_atoms p.clauses)) p.clauses);
      table = sets before.table 0 (map atom_code (goal_atoms p.clauses));
      index = index_from 0 (goal_atoms p.clauses) before.index;
    }
