-- `Listing::put_settings` meets its contract: a line each turn, and those from `i` on are still to be written. Assumes nothing.
use Rattle.std.proofs.Common.{◌≡◌, refl, ◌-◌, arith}
use Rattle.listing.specs.JoinedLaws.{joined-first, joined-none}
use Rattle.listing.specs.Left.{setting_of}
use Rattle.listing.specs.Writes.{writing-all, writing-first-room, writing-first, writing-none}
use Rattle.listing.proofs.Parts.{settings-unknown, settings-none}
use Rattle.listing.proofs.Listing.put_settings.Goals as goal

pub returns-in_default : goal.returns-in_default
returns-in_default c = writing-none (writing-all refl) (settings-none c.args.self.now.searched.now c.in_default.not-Unknown)

pub loop-i-init : goal.loop-i-init
loop-i-init c =
    let all : c.args.self.now.searched.now.ended.run.atoms - 0 ≡ c.args.self.now.searched.now.ended.run.atoms = omega arith in
    writing-all (rw all (settings-unknown c.args.self.now.searched.now c.in-Unknown.is))

pub put_setting-requires-clause-room : goal.put_setting-requires-clause-room
put_setting-requires-clause-room c =
    let x = c.args.self.now.searched.now in
    writing-first-room c.loop-i.invariant (joined-first (setting_of x) x.ended.run.atoms c.loop-i.i (omega arith)) c.requires

pub loop-i-preserved : goal.loop-i-preserved
loop-i-preserved c =
    let x = c.args.self.now.searched.now in
    writing-first c.loop-i.invariant (joined-first (setting_of x) x.ended.run.atoms c.loop-i.i (omega arith)) c.put_setting.ensures

pub returns : goal.returns
returns c =
    let x = c.args.self.now.searched.now in
    writing-none c.loop-i.invariant (joined-none (setting_of x) x.ended.run.atoms c.loop-i.i (omega arith))
