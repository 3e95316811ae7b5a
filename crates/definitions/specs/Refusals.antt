-- Document 01, "Questions asked of a call": sheets that are refused, by question, and accepted ones beside them. Assumes nothing.
use Rattle.std.specs.Prelude.{ℕ, ◌≡◌, refl, List, [], ◌∷◌, ◌++◌, map, replicate}
use Prim.Native.String.{String}
use Rattle.definitions.specs.Lists.{joined, lists_all}
use Rattle.definitions.specs.Words.{words_all}
use Rattle.definitions.specs.Instances.{instances_all}
use Rattle.definitions.specs.Sheet.{sheet_all}
use Rattle.definitions.specs.Questions.{Reading, refused, accepted, read, questions_all}
use Rattle.definitions.specs.Text.{bytes, text, text_all}

-- a sheet, with the first question that is answered no and its line; 0 and 0 if it is accepted
pub record SheetTrial : Type 0 where
  pub sheet : List ℕ
  pub question : ℕ
  pub line : ℕ

unfoldable pub numbers_of : Reading → List ℕ
numbers_of (refused q n) = q ∷ n ∷ []
numbers_of (accepted p) = 0 ∷ 0 ∷ []

unfoldable pub found : SheetTrial → List ℕ
found t = numbers_of (read t.sheet)

unfoldable pub claimed : SheetTrial → List ℕ
claimed t = t.question ∷ t.line ∷ []

-- three lines: two constants, symbol 1 without arguments, symbol 2 with one
unfoldable pub declared : List String
declared = "   1   2" ∷ "   2   0" ∷ "   2   1" ∷ []

-- four lines: symbol 3 has two arguments
unfoldable pub with_pairs : List String
with_pairs = declared ++ ("   2   2" ∷ [])

-- a clause of 136 bytes
unfoldable pub longest : List ℕ
longest = bytes "   4   8" ++ joined bytes (replicate 8 "   1   1   1   1")

-- twelve lines with 64 goal atoms: symbols 1 and 2 at each of 32 constants; symbol 3 without arguments stands in none
unfoldable pub sixty_four : List String
sixty_four =
    "   1  32" ∷
    "   2   1" ∷
    "   2   1" ∷
    "   2   0" ∷
    "   4   8   1   1   1   2   1   3   1   4   1   5   1   6   1   7   1   8" ∷
    "   4   8   1   9   1  10   1  11   1  12   1  13   1  14   1  15   1  16" ∷
    "   4   8   1  17   1  18   1  19   1  20   1  21   1  22   1  23   1  24" ∷
    "   4   8   1  25   1  26   1  27   1  28   1  29   1  30   1  31   1  32" ∷
    "   4   8   2   1   2   2   2   3   2   4   2   5   2   6   2   7   2   8" ∷
    "   4   8   2   9   2  10   2  11   2  12   2  13   2  14   2  15   2  16" ∷
    "   4   8   2  17   2  18   2  19   2  20   2  21   2  22   2  23   2  24" ∷
    "   4   8   2  25   2  26   2  27   2  28   2  29   2  30   2  31   2  32" ∷ []

unfoldable pub sheets : List SheetTrial
sheets =
    -- 2: at most 16,384 bytes
    record { sheet = replicate 16385 32; question = 2; line = 0 } ∷
    record { sheet = replicate 16385 10; question = 2; line = 0 } ∷
    -- 3: at least one byte
    record { sheet = []; question = 3; line = 0 } ∷
    -- 4: the line ends in LF; before its length and its columns
    record { sheet = replicate 16384 32; question = 4; line = 1 } ∷
    record { sheet = bytes "   1   1"; question = 4; line = 1 } ∷
    record { sheet = bytes "   1   1\n   "; question = 4; line = 2 } ∷
    record { sheet = bytes "   1   1\n   2   0"; question = 4; line = 2 } ∷
    record { sheet = text ("   1   1" ∷ []) ++ replicate 140 32; question = 4; line = 2 } ∷
    -- 5: 4 to 136 bytes without LF, and a multiple of 4; CR counts
    record { sheet = replicate 16384 10; question = 5; line = 1 } ∷
    record { sheet = text ("" ∷ []); question = 5; line = 1 } ∷
    record { sheet = text ("   " ∷ []); question = 5; line = 1 } ∷
    record { sheet = text ("   1   " ∷ []); question = 5; line = 1 } ∷
    record { sheet = text ("   1   1 " ∷ []); question = 5; line = 1 } ∷
    record { sheet = text ("   1   1\r" ∷ []); question = 5; line = 1 } ∷
    record { sheet = text ("   1   1" ∷ "" ∷ []); question = 5; line = 2 } ∷
    record { sheet = text ("   1   1" ∷ "" ∷ "   2   0" ∷ []); question = 5; line = 2 } ∷
    -- 8 literals of arity 3 have 136 bytes; a column more has 140
    record { sheet = text ("   1   1" ∷ "   2   3" ∷ []) ++ longest ++ (10 ∷ []); question = 0; line = 0 } ∷
    record { sheet = text ("   1   1" ∷ "   2   3" ∷ []) ++ longest ++ bytes "   1\n"; question = 5; line = 3 } ∷
    -- 6: a decimal right-justified with blanks, no leading zero, no plus, no -0
    record { sheet = text ("   1   -" ∷ []); question = 6; line = 1 } ∷
    record { sheet = text ("   1  -0" ∷ []); question = 6; line = 1 } ∷
    record { sheet = text ("   1 -00" ∷ []); question = 6; line = 1 } ∷
    record { sheet = text ("   1 -01" ∷ []); question = 6; line = 1 } ∷
    record { sheet = text ("   1  +1" ∷ []); question = 6; line = 1 } ∷
    record { sheet = text ("   1  01" ∷ []); question = 6; line = 1 } ∷
    record { sheet = text ("   1  00" ∷ []); question = 6; line = 1 } ∷
    record { sheet = text ("   10001" ∷ []); question = 6; line = 1 } ∷
    record { sheet = text ("   11   " ∷ []); question = 6; line = 1 } ∷
    record { sheet = text ("   1  1 " ∷ []); question = 6; line = 1 } ∷
    record { sheet = text ("   11 1 " ∷ []); question = 6; line = 1 } ∷
    record { sheet = text ("   1 1 1" ∷ []); question = 6; line = 1 } ∷
    record { sheet = text ("   1 - 1" ∷ []); question = 6; line = 1 } ∷
    record { sheet = text ("   1 --1" ∷ []); question = 6; line = 1 } ∷
    record { sheet = text ("   1  1-" ∷ []); question = 6; line = 1 } ∷
    -- bytes beside the digits, letters, TAB, CR, NUL
    record { sheet = text ("   1   /" ∷ []); question = 6; line = 1 } ∷
    record { sheet = text ("   1   :" ∷ []); question = 6; line = 1 } ∷
    record { sheet = text ("   1  1/" ∷ []); question = 6; line = 1 } ∷
    record { sheet = text ("   1  1:" ∷ []); question = 6; line = 1 } ∷
    record { sheet = text ("   1   a" ∷ []); question = 6; line = 1 } ∷
    record { sheet = text ("   1 0x1" ∷ []); question = 6; line = 1 } ∷
    record { sheet = text ("   1 1.0" ∷ []); question = 6; line = 1 } ∷
    record { sheet = text ("   1\t  1" ∷ []); question = 6; line = 1 } ∷
    record { sheet = text ("   1   \t" ∷ []); question = 6; line = 1 } ∷
    record { sheet = text ("   1  1\r" ∷ []); question = 6; line = 1 } ∷
    record { sheet = text ("   1   \0" ∷ []); question = 6; line = 1 } ∷
    record { sheet = text ("   1\0\0\0\0" ∷ []); question = 6; line = 1 } ∷
    record { sheet = bytes "   1 " ++ (194 ∷ 160 ∷ 49 ∷ 10 ∷ []); question = 6; line = 1 } ∷
    -- the kind is a column too; a bad last column goes before a wrong kind
    record { sheet = text ("   x   1" ∷ []); question = 6; line = 1 } ∷
    record { sheet = text ("   9   1   x" ∷ []); question = 6; line = 1 } ∷
    record { sheet = text ("   1   1" ∷ "   1   x" ∷ []); question = 6; line = 2 } ∷
    -- the least and the greatest decimal are read, and are out of range
    record { sheet = text ("   1-999" ∷ []); question = 8; line = 1 } ∷
    record { sheet = text ("   19999" ∷ []); question = 8; line = 1 } ∷
    -- 7: kind 1 on the first line
    record { sheet = text ("   0   1" ∷ []); question = 7; line = 1 } ∷
    record { sheet = text ("   2   1" ∷ []); question = 7; line = 1 } ∷
    record { sheet = text ("   3   1" ∷ []); question = 7; line = 1 } ∷
    record { sheet = text ("   4   1" ∷ []); question = 7; line = 1 } ∷
    record { sheet = text ("   5   1" ∷ []); question = 7; line = 1 } ∷
    record { sheet = text ("   8   1" ∷ []); question = 7; line = 1 } ∷
    record { sheet = text ("   9   1" ∷ []); question = 7; line = 1 } ∷
    record { sheet = text ("  -1   1" ∷ []); question = 7; line = 1 } ∷
    record { sheet = text ("  11   1" ∷ []); question = 7; line = 1 } ∷
    record { sheet = text ("9999   1" ∷ []); question = 7; line = 1 } ∷
    -- then 2 to 4 or 8, and ranked no lower than the line before
    record { sheet = text ("   1   1" ∷ "   1   1" ∷ []); question = 7; line = 2 } ∷
    record { sheet = text ("   1   1" ∷ "   0   1" ∷ []); question = 7; line = 2 } ∷
    record { sheet = text ("   1   1" ∷ "  -2   1" ∷ []); question = 7; line = 2 } ∷
    record { sheet = text ("   1   1" ∷ "   5   1" ∷ []); question = 7; line = 2 } ∷
    record { sheet = text ("   1   1" ∷ "   7   1" ∷ []); question = 7; line = 2 } ∷
    record { sheet = text ("   1   1" ∷ "   9   1" ∷ []); question = 7; line = 2 } ∷
    record { sheet = text ("   1   1" ∷ "   2   0" ∷ "   1   1" ∷ []); question = 7; line = 3 } ∷
    record { sheet = text (declared ++ ("   3   1   0   1" ∷ "   2   0" ∷ [])); question = 7; line = 5 } ∷
    record { sheet = text (declared ++ ("   4   0" ∷ "   2   0" ∷ [])); question = 7; line = 5 } ∷
    record { sheet = text (declared ++ ("   4   0" ∷ "   3   1   0   1" ∷ [])); question = 7; line = 5 } ∷
    -- before the counts; and a line is asked all before the next one
    record { sheet = text ("   0" ∷ []); question = 7; line = 1 } ∷
    record { sheet = text ("   1   1" ∷ "   1" ∷ []); question = 7; line = 2 } ∷
    record { sheet = text ("   2" ∷ "" ∷ []); question = 7; line = 1 } ∷
    record { sheet = text ("   1   0" ∷ "   x" ∷ []); question = 8; line = 1 } ∷
    -- 8: the constant number
    record { sheet = text ("   1" ∷ []); question = 8; line = 1 } ∷
    record { sheet = text ("   1   0" ∷ []); question = 8; line = 1 } ∷
    record { sheet = text ("   1  33" ∷ []); question = 8; line = 1 } ∷
    record { sheet = text ("   1  -1" ∷ []); question = 8; line = 1 } ∷
    record { sheet = text ("   1   1" ∷ []); question = 0; line = 0 } ∷
    record { sheet = text ("   1  32" ∷ []); question = 0; line = 0 } ∷
    -- the arity
    record { sheet = text ("   1   1" ∷ "   2" ∷ []); question = 8; line = 2 } ∷
    record { sheet = text ("   1   1" ∷ "   2   4" ∷ []); question = 8; line = 2 } ∷
    record { sheet = text ("   1   1" ∷ "   2  -1" ∷ []); question = 8; line = 2 } ∷
    record { sheet = text ("   1   1" ∷ "   2   0" ∷ "   2   3" ∷ []); question = 0; line = 0 } ∷
    -- the counts of a rule
    record { sheet = text (declared ++ ("   3" ∷ [])); question = 8; line = 4 } ∷
    record { sheet = text (declared ++ ("   3   1" ∷ [])); question = 8; line = 4 } ∷
    record { sheet = text (declared ++ ("   3   0   1   1" ∷ [])); question = 8; line = 4 } ∷
    record { sheet = text (declared ++ ("   3   4   0   1   1   1   1" ∷ [])); question = 8; line = 4 } ∷
    record { sheet = text (declared ++ ("   3  -1   0   1" ∷ [])); question = 8; line = 4 } ∷
    record { sheet = text (declared ++ ("   3   1   3   1   1   1   1" ∷ [])); question = 8; line = 4 } ∷
    record { sheet = text (declared ++ ("   3   1  -1   1" ∷ [])); question = 8; line = 4 } ∷
    record { sheet = text (declared ++ ("   3   3   2   2   1   2   1   2   1   2   1   2   1" ∷ [])); question = 0; line = 0 } ∷
    -- the literal count
    record { sheet = text (declared ++ ("   4" ∷ [])); question = 8; line = 4 } ∷
    record { sheet = text (declared ++ ("   4   9   1   1   1   1   1   1   1   1   1" ∷ [])); question = 8; line = 4 } ∷
    record { sheet = text (declared ++ ("   4  -1   1" ∷ [])); question = 8; line = 4 } ∷
    record { sheet = text (declared ++ ("   4   0" ∷ [])); question = 0; line = 0 } ∷
    -- before a column left over
    record { sheet = text ("   1   0   1" ∷ []); question = 8; line = 1 } ∷
    record { sheet = text ("   1   1" ∷ "   2   4   0" ∷ []); question = 8; line = 2 } ∷
    -- 9: at most 16 symbols, 32 rules, 64 clauses
    record { sheet = text ("   1   1" ∷ replicate 16 "   2   0"); question = 0; line = 0 } ∷
    record { sheet = text ("   1   1" ∷ replicate 17 "   2   0"); question = 9; line = 18 } ∷
    record { sheet = text ("   1   1" ∷ "   2   0" ∷ replicate 32 "   3   1   0   1"); question = 0; line = 0 } ∷
    record { sheet = text ("   1   1" ∷ "   2   0" ∷ replicate 33 "   3   1   0   1"); question = 9; line = 35 } ∷
    record { sheet = text ("   1   1" ∷ replicate 64 "   4   0"); question = 0; line = 0 } ∷
    record { sheet = text ("   1   1" ∷ replicate 65 "   4   0"); question = 9; line = 66 } ∷
    -- after the counts, before the literals and a column left over
    record { sheet = text ("   1   1" ∷ replicate 16 "   2   0" ++ ("   2   4" ∷ [])); question = 8; line = 18 } ∷
    record { sheet = text ("   1   1" ∷ replicate 16 "   2   0" ++ ("   2   0   0" ∷ [])); question = 9; line = 18 } ∷
    record { sheet = text ("   1   1" ∷ "   2   0" ∷ replicate 32 "   3   1   0   1" ++ ("   3   0   0" ∷ [])); question = 8; line = 35 } ∷
    record { sheet = text ("   1   1" ∷ "   2   0" ∷ replicate 32 "   3   1   0   1" ++ ("   3   1   0   2" ∷ [])); question = 9; line = 35 } ∷
    record { sheet = text ("   1   1" ∷ replicate 64 "   4   0" ++ ("   4   9" ∷ [])); question = 8; line = 66 } ∷
    record { sheet = text ("   1   1" ∷ replicate 64 "   4   0" ++ ("   4   1" ∷ [])); question = 9; line = 66 } ∷
    -- 10: a symbol that is declared, with either sign
    record { sheet = text (declared ++ ("   4   1   0" ∷ [])); question = 10; line = 4 } ∷
    record { sheet = text (declared ++ ("   4   1   3" ∷ [])); question = 10; line = 4 } ∷
    record { sheet = text (declared ++ ("   4   1  -3" ∷ [])); question = 10; line = 4 } ∷
    record { sheet = text (declared ++ ("   3   1   0   0" ∷ [])); question = 10; line = 4 } ∷
    record { sheet = text (declared ++ ("   3   1   1   1   3" ∷ [])); question = 10; line = 4 } ∷
    record { sheet = text (declared ++ ("   4   2  -1   2   2" ∷ [])); question = 0; line = 0 } ∷
    -- an argument of a clause: a constant from 1
    record { sheet = text (declared ++ ("   4   1   2   0" ∷ [])); question = 10; line = 4 } ∷
    record { sheet = text (declared ++ ("   4   1   2   3" ∷ [])); question = 10; line = 4 } ∷
    record { sheet = text (declared ++ ("   4   1   2  -1" ∷ [])); question = 10; line = 4 } ∷
    -- an argument of a rule: a variable from 1 to 6, or minus a constant
    record { sheet = text (declared ++ ("   3   1   0   2   0" ∷ [])); question = 10; line = 4 } ∷
    record { sheet = text (declared ++ ("   3   1   0   2   7" ∷ [])); question = 10; line = 4 } ∷
    record { sheet = text (declared ++ ("   3   1   0   2  -3" ∷ [])); question = 10; line = 4 } ∷
    record { sheet = text (with_pairs ++ ("   3   2   1   2   6   3  -2   6  -2   6" ∷ [])); question = 0; line = 0 } ∷
    -- each column is present
    record { sheet = text (declared ++ ("   3   1   0" ∷ [])); question = 10; line = 4 } ∷
    record { sheet = text (declared ++ ("   3   1   0   2" ∷ [])); question = 10; line = 4 } ∷
    record { sheet = text (declared ++ ("   3   2   0   1" ∷ [])); question = 10; line = 4 } ∷
    record { sheet = text (declared ++ ("   3   1   1   1" ∷ [])); question = 10; line = 4 } ∷
    record { sheet = text (declared ++ ("   3   1   1   1   2" ∷ [])); question = 10; line = 4 } ∷
    record { sheet = text (declared ++ ("   4   1" ∷ [])); question = 10; line = 4 } ∷
    record { sheet = text (declared ++ ("   4   1   2" ∷ [])); question = 10; line = 4 } ∷
    record { sheet = text (declared ++ ("   4   2   1" ∷ [])); question = 10; line = 4 } ∷
    -- 11: no column is left over
    record { sheet = text ("   1   3   4" ∷ []); question = 11; line = 1 } ∷
    record { sheet = text ("   1   1" ∷ "   2   0   0" ∷ []); question = 11; line = 2 } ∷
    record { sheet = text (declared ++ ("   3   1   0   1   1" ∷ [])); question = 11; line = 4 } ∷
    record { sheet = text (declared ++ ("   4   0   1" ∷ [])); question = 11; line = 4 } ∷
    record { sheet = text (declared ++ ("   4   1   1   1" ∷ [])); question = 11; line = 4 } ∷
    -- after the literals, before the variables of the body
    record { sheet = text (declared ++ ("   4   1   3   1" ∷ [])); question = 10; line = 4 } ∷
    record { sheet = text (declared ++ ("   3   1   1   1   2   1   1" ∷ [])); question = 11; line = 4 } ∷
    -- 12: each body variable stands in the head
    record { sheet = text (declared ++ ("   3   1   1   1   2   1" ∷ [])); question = 12; line = 4 } ∷
    record { sheet = text (declared ++ ("   3   1   1   2   1   2   2" ∷ [])); question = 12; line = 4 } ∷
    record { sheet = text (declared ++ ("   3   1   2   2   1   2   1  -2   2" ∷ [])); question = 12; line = 4 } ∷
    record { sheet = text (with_pairs ++ ("   3   2   1   2   1   3   1   2   2   2" ∷ [])); question = 0; line = 0 } ∷
    record { sheet = text (declared ++ ("   3   1   1   1   2  -2" ∷ [])); question = 0; line = 0 } ∷
    -- 14: of two heads each shares a variable with the other, whatever their signs; a shared constant is none
    record { sheet = text (with_pairs ++ ("   3   2   0   2   1   2   2" ∷ [])); question = 14; line = 5 } ∷
    record { sheet = text (with_pairs ++ ("   3   2   0   2   1   2   1" ∷ [])); question = 0; line = 0 } ∷
    record { sheet = text (with_pairs ++ ("   3   2   0  -2   6   3   1   6" ∷ [])); question = 0; line = 0 } ∷
    record { sheet = text (with_pairs ++ ("   3   2   0   2  -1   2  -1" ∷ [])); question = 14; line = 5 } ∷
    record { sheet = text (with_pairs ++ ("   3   2   0   3   1  -1   3   2  -1" ∷ [])); question = 14; line = 5 } ∷
    -- a head without variables may only stand alone
    record { sheet = text (with_pairs ++ ("   3   1   0   1" ∷ "   3   1   0   3  -1  -2" ∷ [])); question = 0; line = 0 } ∷
    record { sheet = text (with_pairs ++ ("   3   2   0   1   1" ∷ [])); question = 14; line = 5 } ∷
    record { sheet = text (with_pairs ++ ("   3   2   0   1   2   1" ∷ [])); question = 14; line = 5 } ∷
    record { sheet = text (with_pairs ++ ("   3   2   0   2   1   1" ∷ [])); question = 14; line = 5 } ∷
    -- of three heads one is apart
    record { sheet = text (with_pairs ++ ("   3   3   0   2   1   2   2   2   2" ∷ [])); question = 14; line = 5 } ∷
    record { sheet = text (with_pairs ++ ("   3   3   0   2   2   2   1   2   2" ∷ [])); question = 14; line = 5 } ∷
    record { sheet = text (with_pairs ++ ("   3   3   0   2   2   2   2   2   1" ∷ [])); question = 14; line = 5 } ∷
    record { sheet = text (with_pairs ++ ("   3   3   0   2   1   2   1   1" ∷ [])); question = 14; line = 5 } ∷
    -- a chain: 1-2 and 2-3, 1-3 and 3-2, 2-1 and 1-3
    record { sheet = text (with_pairs ++ ("   3   3   0   2   1   3   1   2   2   2" ∷ [])); question = 0; line = 0 } ∷
    record { sheet = text (with_pairs ++ ("   3   3   0   2   1   2   2   3   1   2" ∷ [])); question = 0; line = 0 } ∷
    record { sheet = text (with_pairs ++ ("   3   3   0   3   1   2   2   1   2   2" ∷ [])); question = 0; line = 0 } ∷
    -- the body joins no heads
    record { sheet = text (with_pairs ++ ("   3   2   1   2   1   2   2   3   1   2" ∷ [])); question = 14; line = 5 } ∷
    -- after the variables of the body, which are asked after a column left over
    record { sheet = text (with_pairs ++ ("   3   2   1   2   1   2   2   2   3" ∷ [])); question = 12; line = 5 } ∷
    record { sheet = text (with_pairs ++ ("   3   2   1   2   1   2   2   2   3   1" ∷ [])); question = 11; line = 5 } ∷
    -- document 02, 3/14: a blank column is passed over wherever it stands: behind the last column, between others, before the kind
    record { sheet = text ("   1   1    " ∷ []); question = 0; line = 0 } ∷
    record { sheet = text ("   1       1" ∷ []); question = 0; line = 0 } ∷
    record { sheet = text ("       1   1" ∷ []); question = 0; line = 0 } ∷
    record { sheet = text (declared ++ ("       3   1       1   2       1   1" ∷ "   4   2           1  -2       1" ∷ [])); question = 0; line = 0 } ∷
    -- a line of blanks has no kind; behind blanks the kind is the first filled column
    record { sheet = text ("    " ∷ []); question = 7; line = 1 } ∷
    record { sheet = text ("   1   1" ∷ "            " ∷ "   2   0" ∷ []); question = 7; line = 2 } ∷
    record { sheet = text ("       2   1" ∷ []); question = 7; line = 1 } ∷
    -- a blank column is no 0: what should stand there is missing
    record { sheet = text ("   1    " ∷ []); question = 8; line = 1 } ∷
    record { sheet = text ("   1   1" ∷ "   2    " ∷ []); question = 8; line = 2 } ∷
    record { sheet = text (declared ++ ("   3   1    " ∷ [])); question = 8; line = 4 } ∷
    record { sheet = text (declared ++ ("   4        " ∷ [])); question = 8; line = 4 } ∷
    record { sheet = text (declared ++ ("   3   1       1   2       1    " ∷ [])); question = 10; line = 4 } ∷
    record { sheet = text (declared ++ ("   4   1   2    " ∷ [])); question = 10; line = 4 } ∷
    -- blanks are not left over, a number behind them is
    record { sheet = text (declared ++ ("   4   0        " ∷ "   4   1   1    " ∷ [])); question = 0; line = 0 } ∷
    record { sheet = text (declared ++ ("   4   0           1" ∷ [])); question = 11; line = 4 } ∷
    -- only columns count: four blanks that straddle two are a fault of both, or digits out of place
    record { sheet = text ("   1  1     1   " ∷ []); question = 6; line = 1 } ∷
    record { sheet = text ("   1 1     1" ∷ []); question = 6; line = 1 } ∷
    record { sheet = text ("      1    1" ∷ []); question = 6; line = 1 } ∷
    record { sheet = text ("1          1" ∷ []); question = 6; line = 1 } ∷
    record { sheet = text ("   1   \t    " ∷ []); question = 6; line = 1 } ∷
    -- question 5 counts them: 136 bytes may be blank, 140 may not
    record { sheet = text ("   1   1" ∷ []) ++ bytes "   2   0" ++ replicate 128 32 ++ (10 ∷ []); question = 0; line = 0 } ∷
    record { sheet = text ("   1   1" ∷ []) ++ bytes "   2   0" ++ replicate 132 32 ++ (10 ∷ []); question = 5; line = 2 } ∷
    record { sheet = replicate 136 32 ++ (10 ∷ []); question = 7; line = 1 } ∷
    record { sheet = replicate 140 32 ++ (10 ∷ []); question = 5; line = 1 } ∷
    record { sheet = text ("   1   1" ∷ "   2   3" ∷ []) ++ longest ++ bytes "    \n"; question = 5; line = 3 } ∷
    -- 13: at most 64 goal atoms, whatever their signs
    record { sheet = text sixty_four; question = 0; line = 0 } ∷
    record { sheet = text (sixty_four ++ ("   4   3  -1   1   2   2  -2  32" ∷ [])); question = 0; line = 0 } ∷
    record { sheet = text (sixty_four ++ ("   4   1   3" ∷ [])); question = 13; line = 13 } ∷
    record { sheet = text (sixty_four ++ ("   4   2   1   1  -3" ∷ [])); question = 13; line = 13 } ∷
    -- after a column left over
    record { sheet = text (sixty_four ++ ("   4   1   3   3" ∷ [])); question = 11; line = 13 } ∷
    []

-- each sheet is refused by its question at its line, or accepted
pub refusals : map found sheets ≡ map claimed sheets
unfolding sheets declared with_pairs longest sixty_four found claimed numbers_of text_all lists_all words_all instances_all sheet_all questions_all
refusals = refl
