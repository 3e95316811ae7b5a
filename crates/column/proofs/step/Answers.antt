-- `column::step` meets its contract, by the kind of scan. Assumes nothing.
use Rattle.column.specs.Scan.{read_on, size_before}
use Rattle.column.proofs.Scans.{after-zero}
use Rattle.column.proofs.step.Goals as goal

pub digit-requires : goal.digit-requires
unfolding size_before
digit-requires c = rw c.in-Digits.is at c.requires

pub returns-in-Blanks : goal.returns-in-Blanks
unfolding read_on size_before
returns-in-Blanks c = rw c.in-Blanks.is c.first.ensures

pub returns-in-Minus : goal.returns-in-Minus
unfolding read_on size_before
returns-in-Minus c = rw c.in-Minus.is c.first_digit.ensures

pub returns-in-Digits : goal.returns-in-Digits
unfolding read_on size_before
returns-in-Digits c = rw c.in-Digits.is c.digit.ensures

pub returns-in-Zero : goal.returns-in-Zero
unfolding read_on size_before
returns-in-Zero c = rw c.in-Zero.is (after-zero c.args.b)
