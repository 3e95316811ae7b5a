-- The text in parts: what one call writes, and what is left to the calls behind it. Assumes nothing.
use Rattle.std.proofs.Common.{◌≡◌, refl, ℕ, ◌+◌, ◌-◌, ◌/◌, ◌%◌, ◌≤◌, ◌<◌, Bool, true, false, eqb, List, [], ◌∷◌, ◌++◌, length, get_or, take, drop, append_assoc}
use Rattle.definitions.specs.Lists.{joined, up_from}
use Rattle.definitions.specs.Listing.{decimals, signed_decimals}
use Rattle.definitions.specs.Text.{bytes}
use Rattle.definitions.specs.Dimacs.{header_line, literal_text}
use Rattle.column.specs.Places.{sign}
use Rattle.column.specs.Widths.{signed_parts}
use Rattle.encoding.specs.ArrayLaws.{part-cons, part-nil}
use Rattle.units.specs.Units.{clause_at}
use Rattle.machine.specs.declared.Run.{Run}
use Rattle.listing.specs.Puts.{Parts}
use Rattle.cnf_writer.specs.CnfBytes.{word_text, line_text, cnf_bytes}

-- ── numbers ──

pub negative-first : (size : ℕ) {negative : Bool} → negative ≡ true → Parts (signed_decimals 3 (record { negative = negative; size = size })) (45 ∷ []) (decimals 3 size)
unfolding sign
negative-first size {negative} e = rw e (record { whole = signed_parts 3 (record { negative = true; size = size }) })

pub unsigned : (size : ℕ) {negative : Bool} → negative ≡ false → decimals 3 size ≡ signed_decimals 3 (record { negative = negative; size = size })
unfolding signed_decimals
unsigned size e = rw e

-- ── the header ──

pub header-first : (atoms clauses : ℕ)
    → Parts (header_line atoms clauses) (112 ∷ 32 ∷ 99 ∷ 110 ∷ 102 ∷ 32 ∷ []) (decimals 3 atoms ++ ((32 ∷ []) ++ (decimals 3 clauses ++ (10 ∷ []))))
unfolding header_line bytes
header-first atoms clauses = record { whole = refl }

-- ── clauses ──

pub literal-text-first : (word : ℕ) {size : ℕ} → size ≡ word / 2 + 1
    → Parts (word_text word) (signed_decimals 3 (record { negative = eqb (word % 2) 1; size = size })) (32 ∷ [])
unfolding word_text literal_text
literal-text-first word e = rw e (record { whole = refl })

-- the words of a clause from the i-th place on, and what ends its line
abbrev pub words_left : List ℕ → ℕ → ℕ → List ℕ
words_left words end i = joined word_text (take (end - i) (drop i words)) ++ (48 ∷ 10 ∷ [])

module _ (words : List ℕ) (end i : ℕ) where
  pub line-words-first : i < end → end ≤ length words → Parts (words_left words end i) (word_text (get_or words i 0)) (words_left words end (i + 1))
  unfolding joined
  line-words-first h fits = record { whole = rw (part-cons words end i h fits, append_assoc) }

  pub line-words-none : end ≤ i → words_left words end i ≡ 48 ∷ 10 ∷ []
  unfolding joined
  line-words-none h = rw (part-nil words end i h)

pub line-left : (starts literals : List ℕ) (c : ℕ) {from end : ℕ} → end ≡ get_or starts (c + 1) 0 → from ≡ get_or starts c 0
    → words_left literals end from ≡ line_text starts literals c
unfolding line_text clause_at
line-left starts literals c e f = rw (e, f)

pub cnf-first : (run : Run) (starts literals : List ℕ)
    → Parts (cnf_bytes run starts literals) (header_line run.atoms run.clauses) (joined (line_text starts literals) (up_from 0 run.clauses))
unfolding cnf_bytes
cnf-first run starts literals = record { whole = refl }
