-- `search::search` meets its contract: the machine as it is lent stands for the start of the search, and the counters are those of the goal
-- clauses. Assumes nothing.
use Rattle.std.proofs.Common.{arith}
use Rattle.counters.specs.CounterLaws.{counters-none}
use Rattle.rules.specs.RuleLaws.{rule-keeps}
use Rattle.machine.specs.StepNeeds.{units-fit, rules-and-index}
use Rattle.machine.specs.Loading.{start_run, loaded-running, loaded-stepping, loaded-ends}
use Rattle.search.proofs.search.Goals as goal

pub users_of-users-requires : goal.users_of-users-requires
users_of-users-requires c =
    let fits = (rules-and-index _ _ _ _ _ (loaded-running c.requires.0 _ c.args.budget _ _ c.requires.1 (omega arith))).0 in
    λ r l. rule-keeps _ _ _ r fits l

pub enter_all-requires : goal.enter_all-requires
unfolding start_run
enter_all-requires c =
    let running = loaded-running c.requires.0 _ c.args.budget _ _ c.requires.1 (omega arith) in
    ((_, _, (units-fit _ _ _ _ _ running).1), counters-none _ _)

pub to_the_end-requires : goal.to_the_end-requires
unfolding start_run
to_the_end-requires c =
    (loaded-stepping c.requires.0 _ _ _ _ c.requires.1 (omega arith) _ c.users_of-users.ensures, c.enter_all.ensures)

pub returns : goal.returns
unfolding start_run
returns c = λ p loaded. loaded-ends p _ _ _ _ loaded _ _ c.to_the_end.ensures.0
