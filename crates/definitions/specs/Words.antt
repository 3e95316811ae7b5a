-- Document 01, "Words": atoms, literals, rules, and what a sheet says; document 02, 7/14: two-way rules. Assumes nothing.
use Rattle.std.specs.Prelude.{ℕ, suc, Bool, true, false, not, ◌&&◌, List, [], ◌∷◌, ◌++◌, map, eqb}
use Rattle.std.specs.Bool.{beq}
use Rattle.definitions.specs.Lists.{joined, distinct}

-- "atom": a symbol, by its number from 1, with a constant for each argument
pub record Atom : Type 0 where
  pub symbol : ℕ
  pub args : List ℕ

-- "literal": an atom or its negation
pub record Literal : Type 0 where
  pub positive : Bool
  pub atom : Atom

unfoldable pub negate : Literal → Literal
negate l = record { positive = not l.positive; atom = l.atom }

-- the literal that is the atom itself
unfoldable pub plain : Atom → Literal
plain a = record { positive = true; atom = a }

unfoldable pub same_args : List ℕ → List ℕ → Bool
same_args [] [] = true
same_args [] (y ∷ ys) = false
same_args (x ∷ xs) [] = false
same_args (x ∷ xs) (y ∷ ys) = eqb x y && same_args xs ys

unfoldable pub same_atom : Atom → Atom → Bool
same_atom a b = eqb a.symbol b.symbol && same_args a.args b.args

unfoldable pub same_literal : Literal → Literal → Bool
same_literal l m = beq l.positive m.positive && same_atom l.atom m.atom

-- "clause": some literal of it is to be true
abbrev pub Clause : Type 0
Clause = List Literal

-- an argument of a rule's literal
pub data Term : Type 0 where
  variable : ℕ → Term
  constant : ℕ → Term

-- a literal of a rule
pub record Pattern : Type 0 where
  pub positive : Bool
  pub symbol : ℕ
  pub terms : List Term

-- "rule": whenever all head literals hold, all body literals do; an empty body means false
pub record Rule : Type 0 where
  pub heads : List Pattern
  pub body : List Pattern

-- 7/14, "two-way rule": heads that are kept, heads that are rewritten, and a body
pub record TwoWay : Type 0 where
  pub kept : List Pattern
  pub rewritten : List Pattern
  pub body : List Pattern

-- "one forward rule from all heads to the body"; every literal of the two-way rule stands in it, so its fillings are those of this rule
unfoldable pub forward : TwoWay → Rule
forward t = record { heads = t.kept ++ t.rewritten; body = t.body }

-- "the reverse reading (kept heads and body give the rewritten heads)"
unfoldable pub reverse : TwoWay → Rule
reverse t = record { heads = t.kept ++ t.body; body = t.rewritten }

-- what a line of kind 3 or of kind 8 says
pub data RuleLine : Type 0 where
  one_way : Rule → RuleLine
  two_way : TwoWay → RuleLine

-- what a sheet says: the number of constants, the arity of each symbol from 1, the lines of kinds 3 and 8, and the clauses; besides the
-- lines, the rules that they stand for, which are numbered from 1 and which the search works on
pub record Problem : Type 0 where
  pub constants : ℕ
  pub arities : List ℕ
  pub rule_lines : List RuleLine
  pub rules : List Rule
  pub clauses : List Clause

-- "goal atoms": those in the clauses, in order of first appearance
unfoldable pub goal_atoms : List Clause → List Atom
goal_atoms cs = distinct same_atom (map (λ (l : Literal). l.atom) (joined (λ (c : Clause). c) cs))

-- where an atom stands in a table, from 0
unfoldable pub position : List Atom → Atom → ℕ
position [] a = 0
position (b ∷ bs) a = elim (same_atom b a) [ true ↦ 0 | false ↦ suc (position bs a) ]

-- names every definition of this module, for a theorem that computes with all of them
unfoldable pub words_all : Unit {0}
unfolding negate plain same_args same_atom same_literal forward reverse goal_atoms position
words_all = tt
