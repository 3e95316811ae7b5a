-- Document 01, "The listing": lines of kind 5, 6 and 7, and the line of kind 9 for a refusal. Assumes nothing.
use Rattle.std.specs.Prelude.{ℕ, zero, suc, ◌+◌, ◌-◌, ◌/◌, ◌%◌, true, false, not, List, [], ◌∷◌, ◌++◌, map, ltb, length, replicate}
use Rattle.definitions.specs.Lists.{joined, filter}
use Rattle.definitions.specs.Words.{Atom, Literal, negate, plain}
use Rattle.definitions.specs.Sheet.{Number, plus}
use Rattle.definitions.specs.Search.{State, Logged, clause_of, is_true}
use Rattle.definitions.specs.declared.Verdict.{Verdict}
use Rattle.definitions.specs.declared.Verdict.TheVariants.{Unsat, Unknown, Spent, Full}

-- a column that is printed, with its width in bytes
pub record Field : Type 0 where
  pub width : ℕ
  pub number : Number

-- the decimal digits of a number, of which there are at most so many
unfoldable pub decimals : ℕ → ℕ → List ℕ
decimals zero n = []
decimals (suc w) n = elim (ltb n 10) [ true ↦ (48 + n) ∷ [] | false ↦ decimals w (n / 10) ++ ((48 + n % 10) ∷ []) ]

-- with its sign, byte 45
unfoldable pub signed_decimals : ℕ → Number → List ℕ
signed_decimals w n = elim n.negative [ true ↦ 45 ∷ decimals w n.size | false ↦ decimals w n.size ]

-- right-justified with blanks, byte 32
unfoldable pub right_justified : ℕ → List ℕ → List ℕ
right_justified w bytes = replicate (w - length bytes) 32 ++ bytes

unfoldable pub field_bytes : Field → List ℕ
field_bytes f = right_justified f.width (signed_decimals f.width f.number)

-- the columns, then LF
unfoldable pub line_bytes : List Field → List ℕ
line_bytes fs = joined field_bytes fs ++ (10 ∷ [])

unfoldable pub narrow : Number → Field
narrow n = record { width = 4; number = n }

unfoldable pub wide : ℕ → Field
wide n = record { width = 12; number = plus n }

-- this paper's number for each answer
unfoldable pub answer_number : Verdict → ℕ
answer_number Unsat = 0
answer_number Unknown = 1
answer_number Spent = 2
answer_number Full = 3

-- kind 5: answer, atoms in the table, logged clauses; then decisions and conflicts in wide columns
unfoldable pub count_line : Verdict → State → List Field
count_line v s =
    map narrow (plus 5 ∷ plus (answer_number v) ∷ plus (length s.table) ∷ plus (length s.log) ∷ [])
    ++ (wide s.decisions ∷ wide s.conflicts ∷ [])

-- a literal: its symbol, negative when negated, then its constants
unfoldable pub literal_numbers : Literal → List Number
literal_numbers l = record { negative = not l.positive; size = l.atom.symbol } ∷ map plus l.atom.args

-- kind 6: rule number, literal count, literals
unfoldable pub logged_row : Logged → List Number
logged_row g = plus 6 ∷ plus g.instance.rule ∷ plus (length (clause_of g)) ∷ joined literal_numbers (clause_of g)

unfoldable pub logged_line : Logged → List Field
logged_line g = map narrow (logged_row g)

-- kind 7: the literal of a set atom
unfoldable pub set_line : Literal → List Field
set_line l = map narrow (plus 7 ∷ literal_numbers l)

-- the literal of the atom that is true, if the atom is set
unfoldable pub set_literal : State → Atom → List Literal
set_literal s a = filter (is_true s.trail) (plain a ∷ negate (plain a) ∷ [])

-- for UNKNOWN only: the set atoms, in table order
unfoldable pub settings : Verdict → State → List Literal
settings Unsat s = []
settings Unknown s = joined (set_literal s) s.table
settings Spent s = []
settings Full s = []

unfoldable pub listing_lines : Verdict → State → List (List Field)
listing_lines v s = count_line v s ∷ map logged_line s.log ++ map set_line (settings v s)

unfoldable pub listing : Verdict → State → List ℕ
listing v s = joined line_bytes (listing_lines v s)

-- what the program prints for a refusal, kind 9: the question's number, and the line
unfoldable pub refusal_line : ℕ → ℕ → List ℕ
refusal_line question line = line_bytes (map narrow (plus 9 ∷ plus question ∷ plus line ∷ []))

-- names every definition of this module, for a theorem that computes with all of them
unfoldable pub listing_all : Unit {0}
unfolding decimals signed_decimals right_justified field_bytes line_bytes narrow wide answer_number count_line literal_numbers logged_row logged_line set_line set_literal settings listing_lines listing refusal_line
listing_all = tt
