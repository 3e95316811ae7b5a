-- `put_digits` meets its contract: whatever puts the digits that are left, with those that stand puts all. Assumes nothing.
use Rattle.std.proofs.Common.{ℕ, List, length}
use Rattle.definitions.specs.Listing.{decimals}
use Rattle.column.specs.Places.{PutLast}
use Rattle.column.proofs.put_digits.Given as goal

abbrev pub invariant-loop-left : goal.invariant-loop-left
invariant-loop-left l =
    (rest : ℕ) (after : List ℕ) → PutLast l.field l.left (decimals l.left l.n) rest after
    → PutLast l.initial.field (length l.initial.field) (decimals (length l.initial.field) l.size) rest after
