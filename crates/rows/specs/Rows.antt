-- A line by its bytes and its columns: where it ends, its filled columns, and its kind. Assumes nothing.
use Rattle.std.specs.Prelude.{ℕ, zero, suc, ◌-◌, true, false, ◌&&◌, List, [], ◌∷◌, eqb, leb, ltb, length, take, drop, Result, Ok, Err}
use Rattle.definitions.specs.Sheet.{Line, Number}
use Rattle.definitions.specs.Questions.{Asked, no, yes, ◌>>=◌, Parsed, within, rank, kind_of, columns_asked}
use Rattle.encoding.specs.Signs.{numbers}
use Rattle.definitions.specs.Numbered.{question_number}
use Rattle.definitions.specs.declared.Question.{Question}
use Rattle.rows.specs.declared.LineStart.{LineStart}
use Rattle.rows.specs.Kinds.{number_of_kind}

-- how many bytes stand before the first LF
unfoldable pub line_length : List ℕ → ℕ
line_length [] = 0
line_length (b ∷ bs) = elim (eqb b 10) [ true ↦ 0 | false ↦ suc (line_length bs) ]

-- the line at a place of the sheet: from there to its LF, or to the sheet's end
abbrev pub line_at : List ℕ → ℕ → ℕ → Line
line_at sheet from end = record { bytes = take (end - from) (drop from sheet); ended = ltb end (length sheet) }

-- question 6, by what `read_row` hands back and the row of words: the filled columns
unfoldable pub row_asked : Result ℕ Question → List ℕ → Asked (List Number)
row_asked (Ok n) row = yes (numbers n row)
row_asked (Err q) row = no (question_number q)

-- a count, by what `count` hands back and the columns behind it
unfoldable pub counted : Result ℕ Question → List Number → Asked (Parsed ℕ)
counted (Ok n) left = yes (record { found = n; left = left })
counted (Err q) left = no (question_number q)

-- question 7: the kind of a line by its first number, 0 where it is none that may stand here
unfoldable pub kind_here : ℕ → Number → ℕ
kind_here zero n = elim (within 1 1 n) [ true ↦ 1 | false ↦ 0 ]
kind_here (suc before) n = elim (within 2 8 n && (leb (rank n.size) 4 && leb (rank (suc before)) (rank n.size))) [ true ↦ n.size | false ↦ 0 ]

-- and by all its numbers
unfoldable pub row_kind : ℕ → List Number → ℕ
row_kind before [] = 0
row_kind before (n ∷ ns) = kind_here before n

-- question 7 by that kind: it and the columns behind it
unfoldable pub kind_asked : ℕ → List Number → Asked (Parsed ℕ)
kind_asked zero ns = no 7
kind_asked (suc k) ns = yes (record { found = suc k; left = ns })

-- questions 4 to 7 of a line behind one of a kind
unfoldable pub start_of : ℕ → Line → Asked (Parsed ℕ)
start_of before l = columns_asked l >>= kind_of before

-- and by what `read_line` hands back and the row: the kind and the filled columns behind it
unfoldable pub start_asked : Result LineStart Question → List ℕ → Asked (Parsed ℕ)
start_asked (Ok s) row = yes (record { found = number_of_kind s.kind; left = drop 1 (numbers s.filled row) })
start_asked (Err q) row = no (question_number q)
