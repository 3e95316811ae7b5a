-- Document 02, 2/14: clauses as DIMACS CNF, the text that is written and the text that is read. Assumes nothing.
use Rattle.std.specs.Prelude.{ℕ, zero, suc, ◌+◌, ◌-◌, ◌*◌, ◌≤◌, Bool, true, false, not, ◌&&◌, List, [], ◌∷◌, ◌++◌, map, eqb, leb, length}
use Rattle.definitions.specs.Lists.{◌∈◌, is_empty, joined}
use Rattle.definitions.specs.Bounds.{most_atoms, most_literals, most_exported}
use Rattle.definitions.specs.Words.{Atom, Literal, Clause, position}
use Rattle.definitions.specs.Sheet.{Number, is_digit}
use Rattle.definitions.specs.Questions.{Asked, no, yes, ◌>>=◌, ◌>>◌, ask}
use Rattle.definitions.specs.Search.{State, clauses_of}
use Rattle.definitions.specs.Listing.{decimals, signed_decimals}
use Rattle.definitions.specs.Text.{bytes}

-- clauses over atoms that are numbered from 1
pub record Cnf : Type 0 where
  pub atoms : ℕ
  pub clauses : List (List Number)

-- ── what is exported ──

-- "signed table numbers from 1"
unfoldable pub table_number : List Atom → Literal → Number
table_number table l = record { negative = not l.positive; size = suc (position table l.atom) }

-- "the goal clauses and then the log", repeated literals too; created atoms count, set or not
unfoldable pub cnf_of : List Clause → State → Cnf
cnf_of goals s = record { atoms = length s.table; clauses = map (map (table_number s.table)) (clauses_of goals s) }

-- ── the text: "one blank stands between the parts of a line, and LF ends each line" ──

-- the numbers have at most three digits, with no leading zero and no plus
unfoldable pub header_line : ℕ → ℕ → List ℕ
header_line atoms clauses = bytes "p cnf " ++ (decimals 3 atoms ++ (32 ∷ decimals 3 clauses ++ (10 ∷ [])))

unfoldable pub literal_text : Number → List ℕ
literal_text n = signed_decimals 3 n ++ (32 ∷ [])

-- its literals, "then 0"
unfoldable pub clause_text : List Number → List ℕ
clause_text ns = joined literal_text ns ++ (48 ∷ 10 ∷ [])

-- "one line `p cnf` with atoms and clauses, then one clause a line"
unfoldable pub cnf_text : Cnf → List ℕ
cnf_text c = header_line c.atoms (length c.clauses) ++ joined clause_text c.clauses

-- ── the reader ──

-- what stands at the front of some bytes, and the bytes behind it
pub record Front (A : Type 0) : Type 0 where
  pub found : A
  pub behind : List ℕ

abbrev pub front : {A : Type 0} → A → List ℕ → Front A
front a bs = record { found = a; behind = bs }

-- the byte stands at the front; or else the question's number
unfoldable pub expect : ℕ → ℕ → List ℕ → Asked (List ℕ)
expect q b [] = no q
expect q b (x ∷ xs) = ask q (eqb x b) >> yes xs

-- these bytes do
unfoldable pub expects : ℕ → List ℕ → List ℕ → Asked (List ℕ)
expects q [] bs = yes bs
expects q (b ∷ more) bs = expect q b bs >>= expects q more

-- at most so many further digits of a number whose first ones are read
unfoldable pub more_digits : ℕ → ℕ → List ℕ → Front ℕ
more_digits zero n bs = front n bs
more_digits (suc k) n [] = front n []
more_digits (suc k) n (b ∷ bs) = elim (is_digit b) [ true ↦ more_digits k (n * 10 + (b - 48)) bs | false ↦ front n (b ∷ bs) ]

-- 0, or a number of at most three digits that doesn't begin with 0; one that is longer is above every limit
unfoldable pub decimal_at : ℕ → List ℕ → Asked (Front ℕ)
decimal_at q [] = no q
decimal_at q (b ∷ bs) = do
  ask q (is_digit b)
  yes (elim (eqb b 48) [ true ↦ front 0 bs | false ↦ more_digits 2 (b - 48) bs ])

-- how many atoms and clauses a header names
pub record Header : Type 0 where
  pub atoms : ℕ
  pub clauses : ℕ

-- 21: "the first line isn't such a header with at most 256 atoms and 576 clauses"
unfoldable pub header_at : List ℕ → Asked (Front Header)
header_at text = do
  behind_name ← expects 21 (bytes "p cnf ") text
  atoms ← decimal_at 21 behind_name
  ask 21 (leb atoms.found most_atoms)
  behind_blank ← expect 21 32 atoms.behind
  clauses ← decimal_at 21 behind_blank
  ask 21 (leb clauses.found most_exported)
  behind_line ← expect 21 10 clauses.behind
  yes (front (record { atoms = atoms.found; clauses = clauses.found }) behind_line)

-- a minus (byte 45), or none
unfoldable pub minus_at : List ℕ → Front Bool
minus_at [] = front false []
minus_at (b ∷ bs) = elim (eqb b 45) [ true ↦ front true bs | false ↦ front false (b ∷ bs) ]

-- 22: a literal "in range", and the blank behind it
unfoldable pub literal_at : ℕ → List ℕ → Asked (Front Number)
literal_at atoms bs = do
  let sign : Front Bool = minus_at bs
  n ← decimal_at 22 sign.behind
  ask 22 (leb 1 n.found && leb n.found atoms)
  behind_blank ← expect 22 32 n.behind
  yes (front (record { negative = sign.found; size = n.found }) behind_blank)

-- 22: the closing 0 and LF
unfoldable pub close_at : List ℕ → Asked (Front (List Number))
close_at bs = do
  behind_line ← expects 22 (48 ∷ 10 ∷ []) bs
  yes (front [] behind_line)

unfoldable pub starts_with : ℕ → List ℕ → Bool
starts_with b [] = false
starts_with b (x ∷ xs) = eqb x b

-- 22: a clause line of at most so many literals
unfoldable pub clause_line_at : ℕ → ℕ → List ℕ → Asked (Front (List Number))
clause_line_at atoms zero bs = close_at bs
clause_line_at atoms (suc k) bs =
    elim (starts_with 48 bs) [
      | true ↦ close_at bs
      | false ↦ do
        n ← literal_at atoms bs
        ns ← clause_line_at atoms k n.behind
        yes (front (n.found ∷ ns.found) ns.behind)
    ]

-- 22: "what follows isn't exactly that many clause lines of at most 8 literals in range"
unfoldable pub clauses_at : ℕ → ℕ → List ℕ → Asked (List (List Number))
clauses_at atoms zero bs = ask 22 (is_empty bs) >> yes []
clauses_at atoms (suc k) bs = do
  c ← clause_line_at atoms most_literals bs
  cs ← clauses_at atoms k c.behind
  yes (c.found ∷ cs)

unfoldable pub read_cnf : List ℕ → Asked Cnf
read_cnf text = do
  header ← header_at text
  clauses ← clauses_at header.found.atoms header.found.clauses header.behind
  yes (record { atoms = header.found.atoms; clauses = clauses })

-- the limits of what is read: atoms, clauses, literals of a clause, and numbers "in range"
pub record CnfLimits (c : Cnf) : Type 0 where
  pub atoms : c.atoms ≤ most_atoms
  pub clauses : length c.clauses ≤ most_exported
  pub literals : (ns : List Number) → ns ∈ c.clauses → length ns ≤ most_literals
  pub range : (ns : List Number) → ns ∈ c.clauses → (n : Number) → n ∈ ns → (1 ≤ n.size) × (n.size ≤ c.atoms)

-- names every definition of this module, for a theorem that computes with all of them
unfoldable pub dimacs_all : Unit {0}
unfolding table_number cnf_of header_line literal_text clause_text cnf_text expect expects more_digits decimal_at header_at minus_at literal_at close_at starts_with clause_line_at clauses_at read_cnf
dimacs_all = tt
