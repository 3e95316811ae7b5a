-- `column::digit` meets its contract: below, above and among the digits. Assumes nothing.
use Rattle.std.proofs.Common.{arith, inl, inr}
use Rattle.column.proofs.Scans.{below-digits, above-digits, among-digits}
use Rattle.column.proofs.digit.Goals as goal

pub returns-then-b-lt48 : goal.returns-then-b-lt48
returns-then-b-lt48 c = elim c.then-b-lt48.either [ inl h ↦ below-digits _ _ _ h | inr h ↦ above-digits _ _ _ h.1 ]

pub returns : goal.returns
returns c = rw c.from.ensures (among-digits _ _ _ (omega arith) (omega arith))
