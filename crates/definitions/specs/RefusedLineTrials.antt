-- Documents 01 and 02: sheets with a line that fails behind good ones, for the examples of refusals. Assumes nothing.
use Rattle.std.specs.Prelude.{ℕ, true}
use Prim.Native.String.{String}
use mathlib.Core.List.{List, [], ◌∷◌, ◌++◌}
use Rattle.definitions.specs.Sheet.{Line}
use Rattle.definitions.specs.Questions.{Draft}
use Rattle.definitions.specs.Text.{bytes, text}

-- a line that LF ended
unfoldable pub line_of : String → Line
line_of s = record { bytes = bytes s; ended = true }

-- two constants, symbol 1 with one argument, symbol 2 without any
unfoldable pub opening : List String
opening = "   1   2" ∷ "   2   1" ∷ "   2   0" ∷ []

-- what was read then: the kind of the line before, and the problem
unfoldable pub opened : Draft
opened = record { before = 2; problem = record { constants = 2; arities = 1 ∷ 0 ∷ []; rule_lines = []; rules = []; clauses = [] } }

-- a sheet with a line behind the opening, and a clause of no literals behind that
unfoldable pub sheet_with : String → List ℕ
sheet_with line = text (opening ++ (line ∷ "   4   0" ∷ []))

-- p(X) and p(Y) give false, on a line of kind 3,
unfoldable pub apart_line : String
apart_line = "   3   2   0   1   1   1   2"

-- and with p(X) kept and p(Y) rewritten on a line of kind 8, blanks among its columns
unfoldable pub kept_apart_line : String
kept_apart_line = "   8   1   1   0       1   1       1   2"

-- q gives p(X)
unfoldable pub free_line : String
free_line = "   3   1   1   2   1   1"

-- a line of blanks
unfoldable pub blank_line : String
blank_line = "            "
