-- `list` meets its contract: the length of the call's listing, and what it left. Assumes nothing.
use Rattle.std.proofs.Common.{◌∙◌}
use Rattle.definitions.specs.Call.{listed_part, room_after}
use Rattle.solver.proofs.list.Goals as goal

pub returns : goal.returns
unfolding listed_part room_after
returns c =
    let e = c.listed-solved.ensures in
    record { length = c.handed.ensures.length ∙ e.size; room = e.stored }
