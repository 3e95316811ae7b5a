-- The listing from the arrays of the search: an atom by its code, a clause by its words, a setting by its value. Assumes nothing.
use Rattle.std.specs.Prelude.{ℕ, ◌+◌, ◌-◌, ◌*◌, ◌/◌, ◌%◌, ◌≤◌, ◌<◌, Bool, true, false, List, [], ◌∷◌, ◌++◌, map, eqb, length, get_or}
use Rattle.encoding.specs.Lengths.{literal_array}
use Rattle.definitions.specs.Lists.{joined, up_from}
use Rattle.definitions.specs.Sheet.{Number, plus}
use Rattle.definitions.specs.Listing.{field_bytes, line_bytes, narrow, wide, answer_number}
use Rattle.definitions.specs.declared.Verdict.{Verdict}
use Rattle.definitions.specs.declared.Verdict.TheVariants.{Unsat, Unknown, Spent, Full}
use Rattle.encoding.specs.Values.{Values, unset_at, false_word}
use Rattle.units.specs.Units.{clause_at}
use Rattle.machine.specs.declared.Run.{Run}

-- the bytes of columns of 4 bytes
unfoldable pub column_bytes : List Number → List ℕ
column_bytes ns = joined field_bytes (map narrow ns)

-- the bytes of a line of such columns
unfoldable pub row_bytes : List Number → List ℕ
row_bytes ns = line_bytes (map narrow ns)

-- the symbol of a code, from 0, and its constants, from 1
unfoldable pub code_symbol : ℕ → ℕ
code_symbol code = code / 32768 % 16

unfoldable pub code_constant : ℕ → ℕ → ℕ
code_constant code i =
    elim (eqb i 0) [
      | true ↦ code / 1024 % 32 + 1
      | false ↦ elim (eqb i 1) [ true ↦ code / 32 % 32 + 1 | false ↦ code % 32 + 1 ]
    ]

unfoldable pub constant_number : ℕ → ℕ → Number
constant_number code i = plus (code_constant code i)

-- a literal: its symbol, negative when negated, then its constants
unfoldable pub code_numbers : List ℕ → Bool → ℕ → List Number
code_numbers arities negative code =
    record { negative = negative; size = code_symbol code + 1 } ∷ map (constant_number code) (up_from 0 (get_or arities (code_symbol code) 0))

unfoldable pub word_numbers : List ℕ → List ℕ → ℕ → List Number
word_numbers arities table w = code_numbers arities (eqb (w % 2) 1) (get_or table (w / 2) 0)

-- kind 6 of the n-th logged clause, from 0
unfoldable pub logged_numbers : List ℕ → List ℕ → ℕ → List ℕ → List Number
logged_numbers arities table rule ws = plus 6 ∷ plus rule ∷ plus (length ws) ∷ joined (word_numbers arities table) ws

unfoldable pub logged_bytes : ℕ → List ℕ → List ℕ → List ℕ → List ℕ → List ℕ → ℕ → List ℕ
logged_bytes given arities starts literals numbers table n = row_bytes (logged_numbers arities table (get_or numbers n 0) (clause_at starts literals (given + n)))

unfoldable pub log_bytes : ℕ → ℕ → List ℕ → List ℕ → List ℕ → List ℕ → List ℕ → List ℕ
log_bytes given clauses arities starts literals numbers table = joined (logged_bytes given arities starts literals numbers table) (up_from 0 (clauses - given))

-- kind 7 of the atom at a position, if it is set: the atom, or its negation where the positive literal is false
unfoldable pub setting_bytes : List ℕ → List ℕ → Values → ℕ → List ℕ
setting_bytes arities table values i =
    elim (unset_at values i) [
      | true ↦ []
      | false ↦ row_bytes (plus 7 ∷ code_numbers arities (false_word values (2 * i)) (get_or table i 0))
    ]

-- for UNKNOWN only
unfoldable pub settings_bytes : Verdict → ℕ → List ℕ → List ℕ → Values → List ℕ
settings_bytes Unsat atoms arities table values = []
settings_bytes Unknown atoms arities table values = joined (setting_bytes arities table values) (up_from 0 atoms)
settings_bytes Spent atoms arities table values = []
settings_bytes Full atoms arities table values = []

-- kind 5
unfoldable pub count_bytes : Verdict → ℕ → ℕ → ℕ → ℕ → List ℕ
count_bytes v atoms logged decisions conflicts =
    column_bytes (plus 5 ∷ plus (answer_number v) ∷ plus atoms ∷ plus logged ∷ [])
    ++ (field_bytes (wide decisions) ++ (field_bytes (wide conflicts) ++ (10 ∷ [])))

unfoldable pub listing_bytes : Verdict → Run → ℕ → List ℕ → List ℕ → List ℕ → List ℕ → List ℕ → Values → List ℕ
listing_bytes v run given arities starts literals numbers table values =
    count_bytes v run.atoms (run.clauses - given) run.decisions run.conflicts
    ++ (log_bytes given run.clauses arities starts literals numbers table ++ settings_bytes v run.atoms arities table values)

-- the clauses from `given` on lie in their arrays, one behind the other, and their words are below 512
pub record ClausesListable (given clauses : ℕ) (starts literals : List ℕ) : Type 0 where
  pub some : given ≤ clauses
  pub few : clauses ≤ given + 512
  pub limit : clauses ≤ 577
  pub rising : (c : ℕ) → c < clauses → get_or starts c 0 ≤ get_or starts (c + 1) 0
  pub inside : (c : ℕ) → c ≤ clauses → get_or starts c 0 ≤ literal_array
  pub words : (i : ℕ) → i < get_or starts clauses 0 → get_or literals i 0 < 512
