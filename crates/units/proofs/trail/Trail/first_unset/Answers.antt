-- `Trail::first_unset` meets its contract: the low zeros of the masked word. Assumes nothing.
use Rattle.units.specs.FirstUnset.{goal-found, goal-inside, no-goal-found}
use Rattle.units.proofs.TrailTurns.{found-or-not}
use Rattle.units.proofs.trail.Trail.first_unset.Goals as goal

pub returns : goal.returns
returns c =
    let set = c.goals_set-unset.ensures in
    let mask = c.low_bits.ensures in
    let zeros = c.low_zeros-a.ensures.0 in
    found-or-not _
    (λ l. (goal-found c.args.self.now.values c.args.goals c.requires set.0 set.1 mask zeros l, goal-inside c.args.self.now.values c.args.goals c.requires set.0 set.1 mask zeros l))
    (λ l. no-goal-found c.args.self.now.values c.args.goals c.requires set.0 set.1 mask zeros l)
    c.then_some.ensures
