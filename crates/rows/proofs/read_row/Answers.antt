-- `rows::read_row` meets its contract: what the line comes to stays the same while numbers take the place of its filled columns. Assumes nothing.
use Rattle.std.proofs.Common.{arith, sym}
use Rattle.column.specs.Column.{column_of, size_of}
use Rattle.rows.specs.Rows.{row_asked}
use Rattle.rows.proofs.RowLoops.{row-start, row_number, row-blank, row-fault, row-end}
use Rattle.rows.proofs.read_row.Goals as goal
use Rattle.rows.proofs.read_row.Goals.{in-Some, in_default}

pub loop-i-init : goal.loop-i-init
loop-i-init c = row-start _ _ _ _ (omega arith)

pub returns-in_err-number-clause-reads : goal.returns-in_err-number-clause-reads
unfolding column_of
returns-in_err-number-clause-reads c =
    row-fault _ _ _ _ c.requires.0 c.loop-i-test.true c.loop-i.invariant (sym c.in_err-number.ensures.reads) c.in_err-number.ensures.question _ c.from_residual.ensures.1

pub word_of-requires : goal.word_of-requires
unfolding size_of
word_of-requires c = let small = rw c.in-Some.is at c.in_ok-number.ensures.small in omega arith

pub loop-i-preserved : goal.loop-i-preserved
unfolding column_of
loop-i-preserved c =
    elim c.match-branch-2.branch [
      | in-Some w ↦
          let e = rw w.in-Some.is at c.in_ok-number.ensures.reads in
          rw (w.row-is, w.filled-is) (row_number _ _ _ _ c.requires.0 c.loop-i-test.true c.loop-i.invariant c.requires.1 _ _ _ w.word_of.ensures (sym e))
      | in_default w ↦
          let e = rw w.in_default.is at c.in_ok-number.ensures.reads in
          rw (w.row-is, w.filled-is) (row-blank _ _ _ _ c.requires.0 c.loop-i-test.true c.loop-i.invariant (sym e))
    ]

pub returns-clause-reads : goal.returns-clause-reads
unfolding row_asked
returns-clause-reads c = row-end c.loop-i.invariant c.loop-i-test.false
