-- The lengths of a search's arrays, each by its name. Assumes nothing.
use Rattle.std.specs.Prelude.{ℕ}

-- the rules, 22 words each
abbrev pub rule_array : ℕ
rule_array = 704

-- where each of 65 goal clauses and 512 logged ones starts, and where the last ends
abbrev pub start_array : ℕ
start_array = 578

-- their literals, at most 520 and 4 a logged one
abbrev pub literal_array : ℕ
literal_array = 2568

-- the codes of atoms: a symbol and three constants
abbrev pub atom_codes : ℕ
atom_codes = 524288
