-- `column::first` meets its contract: a blank, a sign, a 0, or the first digit of several. Assumes nothing.
use Rattle.std.proofs.Common.{arith}
use Rattle.column.proofs.Scans.{blank, minus-sign, zero-digit, first-natural}
use Rattle.column.proofs.first.Goals as goal

pub returns-in-32 : goal.returns-in-32
returns-in-32 c = blank _ (omega arith)

pub returns-in-45 : goal.returns-in-45
returns-in-45 c = minus-sign _ (omega arith)

pub returns-in-48 : goal.returns-in-48
returns-in-48 c = zero-digit _ (omega arith)

pub returns-in_default : goal.returns-in_default
returns-in_default c = first-natural _ (λ e. omega arith) (λ e. omega arith) (λ e. omega arith) c.first_digit.ensures
