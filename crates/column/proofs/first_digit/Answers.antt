-- `column::first_digit` meets its contract: a natural number is digits of which the first is no 0. Assumes nothing.
use Rattle.std.proofs.Common.{arith}
use Rattle.column.proofs.Scans.{below-first, first-digits}
use Rattle.column.proofs.first_digit.Goals as goal

pub returns-then-b-lt49 : goal.returns-then-b-lt49
returns-then-b-lt49 c = below-first _ _ (omega arith)

pub returns : goal.returns
returns c = first-digits _ _ (omega arith) c.digit.ensures
