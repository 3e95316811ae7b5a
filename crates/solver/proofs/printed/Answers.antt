use Rattle.std.proofs.Common.{arith}
use Rattle.solver.specs.PrintLaws.{refusal-length}
use Rattle.solver.proofs.printed.Goals as goal

pub put_refusal-requires : goal.put_refusal-requires
put_refusal-requires c = omega (arith, refusal-length c.in-Err.refusal.number c.in-Err.refusal.line)
