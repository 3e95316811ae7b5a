-- `Listing::put_log` meets its contract: a line each turn, and those from `n` on are still to be written. Assumes nothing.
use Rattle.std.proofs.Common.{◌-◌}
use Rattle.definitions.specs.Lists.{joined, up_from}
use Rattle.listing.specs.Left.{logged_of, log_of}
use Rattle.listing.specs.Writes.{Writing}
use Rattle.listing.proofs.Listing.put_log.Given as goal

abbrev pub invariant-loop-n : goal.invariant-loop-n
invariant-loop-n l =
    Writing l.initial.out (log_of l.self.searched.now) (joined (logged_of l.self.searched.now) (up_from l.n (l.self.searched.now.ended.run.clauses - l.self.searched.now.given - l.n))) l.out
