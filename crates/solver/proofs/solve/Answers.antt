-- `solve` meets its contract: the answer of the call, and what it left. Assumes nothing.
use Rattle.std.proofs.Common.{◌∙◌}
use Rattle.definitions.specs.Call.{call, room_after}
use Rattle.solver.proofs.solve.Goals as goal

pub returns : goal.returns
unfolding call room_after
returns c =
    let e = c.listed-solved.ensures in
    record { answer = c.handed.ensures.answer ∙ e.answer; room = e.stored }
