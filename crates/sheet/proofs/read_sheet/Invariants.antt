-- `sheet::read_sheet` meets its contract: the sheet from the next line on, read behind the lines so far, comes to what all of it comes to. Assumes nothing.
use Prim.Native.Nat.{◌-◌}
use lib.ListN.{length}
use Rattle.encoding.specs.Encoding.{arrays}
use Rattle.sheet.proofs.Sheets.{ReadUpTo}
use Rattle.sheet.proofs.read_sheet.Given as goal

abbrev pub invariant-loop-from : goal.invariant-loop-from
invariant-loop-from l =
    ReadUpTo l.sheet (arrays l.initial.arities l.initial.rules l.initial.starts l.initial.literals l.initial.table.codes l.initial.table.index) (arrays l.arities l.rules l.starts l.literals l.table.codes l.table.index) l.s l.before l.from l.line

abbrev pub decreases-loop-from : goal.decreases-loop-from
decreases-loop-from l =
    length l.sheet - l.from
