-- Document 01, "The sheet": lines, and the decimal columns of a line; document 02, 3/14: a blank column. Assumes nothing.
use Rattle.std.specs.Prelude.{ℕ, ◌+◌, ◌-◌, ◌*◌, Bool, true, false, ◌&&◌, List, [], ◌∷◌, eqb, leb}
use Rattle.definitions.specs.Lists.{is_empty}

-- a line without its LF, and whether LF ended it
pub record Line : Type 0 where
  pub bytes : List ℕ
  pub ended : Bool

unfoldable pub put_byte : ℕ → List Line → List Line
put_byte b [] = record { bytes = b ∷ []; ended = false } ∷ []
put_byte b (l ∷ ls) = record { bytes = b ∷ l.bytes; ended = l.ended } ∷ ls

-- the pieces up to each LF (byte 10), and what stands behind the last LF, if anything does
unfoldable pub lines : List ℕ → List Line
lines [] = []
lines (b ∷ bs) = elim (eqb b 10) [ true ↦ record { bytes = []; ended = true } ∷ lines bs | false ↦ put_byte b (lines bs) ]

-- a column's number, its sign apart from its size
pub record Number : Type 0 where
  pub negative : Bool
  pub size : ℕ

unfoldable pub plus : ℕ → Number
plus n = record { negative = false; size = n }

unfoldable pub minus : ℕ → Number
minus n = record { negative = true; size = n }

-- what a column is read as: 3/14 tells "a number, nothing, and a fault"
pub data Column : Type 0 where
  number : Number → Column
  nothing : Column
  fault : Column

unfoldable pub is_digit : ℕ → Bool
is_digit b = leb 48 b && leb b 57

-- digits after a number that was read already
unfoldable pub digits : Bool → ℕ → List ℕ → Column
digits negative n [] = number (record { negative = negative; size = n })
digits negative n (b ∷ bs) = elim (is_digit b) [ true ↦ digits negative (n * 10 + (b - 48)) bs | false ↦ fault ]

-- a digit that is not 0, and more digits
unfoldable pub natural : Bool → List ℕ → Column
natural negative [] = fault
natural negative (b ∷ bs) = elim (leb 49 b) [ true ↦ digits negative 0 (b ∷ bs) | false ↦ fault ]

-- 0 alone, a natural number, or minus (byte 45) and one: no leading zero, no plus, no -0
unfoldable pub signed : List ℕ → Column
signed [] = fault
signed (b ∷ bs) =
    elim (eqb b 45) [
      | true ↦ natural true bs
      | false ↦ elim (eqb b 48 && is_empty bs) [ true ↦ number (plus 0) | false ↦ natural false (b ∷ bs) ]
    ]

-- a decimal right-justified with blanks (byte 32); blanks alone are nothing
unfoldable pub decimal : List ℕ → Column
decimal [] = nothing
decimal (b ∷ bs) = elim (eqb b 32) [ true ↦ decimal bs | false ↦ signed (b ∷ bs) ]

-- names every definition of this module, for a theorem that computes with all of them
unfoldable pub sheet_all : Unit {0}
unfolding put_byte lines plus minus is_digit digits natural signed decimal
sheet_all = tt
