-- `solver::solve_listing` meets its contract: the front of the room that `list` left, as long as the listing. Assumes nothing.
use mathlib.Core.Path.{refl, sym}
use lib.Seq.{length-take-le}
use Rattle.definitions.specs.Call.{listed_part, room_after}
use Rattle.solver.specs.LentLaws.{written-fits, written-front}
use Rattle.solver.proofs.solve_listing.Goals as goal

pub slice_bounds-result-end : goal.slice_bounds-result-end
unfolding listed_part room_after
slice_bounds-result-end c =
    let e = c.list-length in
    sym (length-take-le e.result e.new.room (written-fits _ _ e.ensures.length e.ensures.room))

pub returns : goal.returns
unfolding listed_part room_after
returns c =
    let e = c.list-length in
    record { part = written-front _ _ e.ensures.length e.ensures.room; front = refl }
