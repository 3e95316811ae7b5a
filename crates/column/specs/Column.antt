-- What `read_column` hands back, as the definitions have it. Assumes nothing.
use Rattle.std.specs.Prelude.{ℕ, Option, Some, None, Result, Ok, Err}
use Rattle.definitions.specs.Sheet as sheet
use Rattle.definitions.specs.Sheet.{number, nothing, fault}
use Rattle.definitions.specs.declared.Question.{Question}
use Rattle.column.specs.declared.Number.{Number}

unfoldable pub column_of : Result (Option Number) Question → sheet.Column
column_of (Ok (Some n)) = number (record { negative = n.negative; size = n.size })
column_of (Ok None) = nothing
column_of (Err q) = fault

-- the size of the number, 0 where there is none
unfoldable pub size_of : Result (Option Number) Question → ℕ
size_of (Ok (Some n)) = n.size
size_of (Ok None) = 0
size_of (Err q) = 0
