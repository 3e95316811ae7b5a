-- `put_cnf` meets its contract: a line each turn, and those from the c-th on are still to be written. Assumes nothing.
use Rattle.std.proofs.Common.{◌-◌}
use Rattle.definitions.specs.Lists.{joined, up_from}
use Rattle.listing.specs.Writes.{Writing}
use Rattle.cnf_writer.specs.CnfBytes.{line_text}
use Rattle.cnf_writer.proofs.put_cnf.Given as goal

abbrev pub invariant-loop-c : goal.invariant-loop-c
invariant-loop-c l =
    let line = line_text l.searched.store.starts l.searched.store.literals in
    Writing l.initial.out (joined line (up_from 0 l.searched.ended.run.clauses)) (joined line (up_from l.c (l.searched.ended.run.clauses - l.c))) l.out
