-- Reading a column byte by byte: a scan of the bytes up to a place says what the bytes behind it are read as. Assumes nothing.
use Rattle.std.specs.Prelude.{ℕ, ◌+◌, ◌*◌, ◌≤◌, ◌≡◌, true, false, List, Result, Ok, Err, IfErr}
use Rattle.definitions.specs.Lists.{is_empty}
use Rattle.definitions.specs.Sheet as sheet
use Rattle.definitions.specs.Sheet.{number, fault, plus, digits, natural, decimal}
use Rattle.definitions.specs.declared.Question.{Question}
use Rattle.definitions.specs.declared.Question.TheVariants.{Columns}
use Rattle.column.specs.declared.Scan.{Scan}
use Rattle.column.specs.declared.Scan.TheVariants.{Blanks, Minus, Zero, Digits}

-- what the column is read as, by the bytes from here on
unfoldable pub read_on : Scan → List ℕ → sheet.Column
read_on Blanks bytes = decimal bytes
read_on Minus bytes = natural true bytes
read_on Zero bytes = elim (is_empty bytes) [ true ↦ number (plus 0) | false ↦ fault ]
read_on (Digits n) bytes = digits n.negative n.size bytes

-- the number that the digits up to here make
unfoldable pub size_before : Scan → ℕ
size_before Blanks = 0
size_before Minus = 0
size_before Zero = 0
size_before (Digits n) = n.size

-- the same where the scan may have failed
unfoldable pub scanned_on : Result Scan Question → List ℕ → sheet.Column
scanned_on (Ok scan) bytes = read_on scan bytes
scanned_on (Err q) bytes = fault

unfoldable pub scanned_size : Result Scan Question → ℕ
scanned_size (Ok scan) = size_before scan
scanned_size (Err q) = 0

-- whatever follows, the scan reads it so; its number has at most one digit more than the size; and where it fails, question 6 is answered no
pub record ReadAs (read : List ℕ → sheet.Column) (size : ℕ) (scan : Result Scan Question) : Type 0 where
  pub same : (rest : List ℕ) → scanned_on scan rest ≡ read rest
  pub small : scanned_size scan ≤ size * 10 + 9
  pub question : IfErr scan (λ q. q ≡ Columns)
