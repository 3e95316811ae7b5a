-- `slots::read_slots` meets its contract: the patterns found so far stand in the first slots. Assumes nothing.
use Rattle.std.proofs.Common.{◌-◌}
use Rattle.literals.proofs.Literals.{SlotsSoFar, literals_from}
use Rattle.literals.proofs.slots.read_slots.Given as goal

abbrev pub invariant-loop-i : goal.invariant-loop-i
invariant-loop-i l =
    SlotsSoFar (literals_from l.rule l.constants l.arities l.count l.words) (literals_from l.rule l.constants l.arities (l.count - l.i) l.left) l.i l.initial.slots l.slots
