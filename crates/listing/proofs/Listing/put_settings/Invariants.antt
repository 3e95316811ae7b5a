-- `Listing::put_settings` meets its contract: a line each turn, and those from `i` on are still to be written. Assumes nothing.
use Rattle.std.proofs.Common.{◌-◌}
use Rattle.definitions.specs.Lists.{joined, up_from}
use Rattle.listing.specs.Left.{setting_of, settings_of}
use Rattle.listing.specs.Writes.{Writing}
use Rattle.listing.proofs.Listing.put_settings.Given as goal

abbrev pub invariant-loop-i : goal.invariant-loop-i
invariant-loop-i l =
    Writing l.initial.out (settings_of l.self.searched.now) (joined (setting_of l.self.searched.now) (up_from l.i (l.self.searched.now.ended.run.atoms - l.i))) l.out
