-- `put_clause` meets its contract: a literal each turn, and those from the i-th word on are still to be written. Assumes nothing.
use Rattle.listing.specs.Writes.{Writing}
use Rattle.cnf_writer.specs.CnfBytes.{line_text}
use Rattle.cnf_writer.proofs.Parts.{words_left}
use Rattle.cnf_writer.proofs.put_clause.Given as goal

abbrev pub invariant-loop-i : goal.invariant-loop-i
invariant-loop-i l = Writing l.initial.out (line_text l.store.starts l.store.literals l.c) (words_left l.store.literals l.end l.i) l.out
