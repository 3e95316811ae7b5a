-- `clause_lines::read_line` meets its contract: what the rest of the line comes to, so does all of it. Assumes nothing.
use Rattle.std.proofs.Common.{◌+◌, ◌-◌}
use Rattle.cnf_reader.proofs.ClauseLines.{LineGoesOn}
use Rattle.cnf_reader.proofs.clause_lines.read_line.Given as goal

abbrev pub invariant-loop-end : goal.invariant-loop-end
invariant-loop-end l = LineGoesOn l.atoms l.text l.used l.initial.literals (l.used + 8 - l.end) l.rest l.end l.literals
