-- `clause_lines::read_clauses` meets its contract: what the rest of the lines comes to, so do all. Assumes nothing.
use Rattle.std.proofs.Common.{◌+◌, ◌-◌, ◌*◌, ◌≤◌}
use Rattle.cnf_reader.proofs.Clauses.{ClausesGoOn}
use Rattle.cnf_reader.proofs.clause_lines.read_clauses.Given as goal

abbrev pub invariant-loop-i : goal.invariant-loop-i
invariant-loop-i l =
    (l.used + 8 * (l.clauses - l.i) ≤ 4608)
    × ClausesGoOn l.atoms l.clauses l.text l.initial.starts l.initial.literals (l.clauses - l.i) l.rest l.i l.used l.starts l.literals
