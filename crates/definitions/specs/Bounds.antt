-- The limits of documents 01 and 02, each by its name. Assumes nothing.
use Rattle.std.specs.Prelude.{ℕ}

-- ── "The sheet" ──

abbrev pub sheet_bytes : ℕ
sheet_bytes = 16384

abbrev pub longest_line : ℕ
longest_line = 136

abbrev pub most_constants : ℕ
most_constants = 32

abbrev pub most_symbols : ℕ
most_symbols = 16

abbrev pub most_arguments : ℕ
most_arguments = 3

-- the variables of a rule are numbered from 1 to this
abbrev pub most_variables : ℕ
most_variables = 6

abbrev pub most_rules : ℕ
most_rules = 32

abbrev pub most_heads : ℕ
most_heads = 3

abbrev pub most_body : ℕ
most_body = 2

-- 7/14: heads of a two-way rule that are kept, and heads that are rewritten
abbrev pub most_kept : ℕ
most_kept = 2

abbrev pub most_rewritten : ℕ
most_rewritten = 2

abbrev pub most_clauses : ℕ
most_clauses = 64

abbrev pub most_literals : ℕ
most_literals = 8

abbrev pub most_goals : ℕ
most_goals = 64

-- ── "The search" ──

abbrev pub most_atoms : ℕ
most_atoms = 256

abbrev pub most_logged : ℕ
most_logged = 512

-- ── question 1 ──

abbrev pub room_bytes : ℕ
room_bytes = 45056

-- ── document 02, 2/14 ──

-- goal clauses and logged ones
abbrev pub most_exported : ℕ
most_exported = 576

-- question 15
abbrev pub export_bytes : ℕ
export_bytes = 16384
