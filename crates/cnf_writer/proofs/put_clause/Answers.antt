-- `put_clause` meets its contract: a literal each turn, and those from the i-th word on are still to be written. Assumes nothing.
use Rattle.std.proofs.Common.{arith}
use Rattle.listing.specs.Writes.{writing-all, writing-room, writing-first-room, writing-first, writing-last}
use Rattle.cnf_writer.proofs.Parts.{line-left, line-words-first, line-words-none}
use Rattle.cnf_writer.proofs.put_clause.Goals as goal

pub loop-i-init : goal.loop-i-init
loop-i-init c = writing-all (line-left c.args.store.now.starts c.args.store.now.literals c.args.c c.from-end.ensures c.from-i.ensures)

pub put_literal-requires : goal.put_literal-requires
put_literal-requires c =
    writing-first-room c.loop-i.invariant
    (line-words-first c.args.store.now.literals c.from-end.result c.loop-i.i (omega arith) (omega (arith, c.requires.inside, c.from-end.ensures))) c.requires.room

pub loop-i-preserved : goal.loop-i-preserved
loop-i-preserved c =
    writing-first c.loop-i.invariant
    (line-words-first c.args.store.now.literals c.from-end.result c.loop-i.i (omega arith) (omega (arith, c.requires.inside, c.from-end.ensures))) c.put_literal.ensures

pub bytes-requires : goal.bytes-requires
bytes-requires c = rw (← line-words-none c.args.store.now.literals c.from-end.result c.loop-i.i (omega arith)) (writing-room c.loop-i.invariant c.requires.room)

pub returns : goal.returns
returns c = writing-last (rw (line-words-none c.args.store.now.literals c.from-end.result c.loop-i.i (omega arith)) at c.loop-i.invariant) c.bytes.ensures
