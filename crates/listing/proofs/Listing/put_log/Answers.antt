-- `Listing::put_log` meets its contract: a line each turn, and those from `n` on are still to be written. Assumes nothing.
use Rattle.std.proofs.Common.{◌≡◌, ◌-◌, arith}
use Rattle.listing.specs.JoinedLaws.{joined-first, joined-none}
use Rattle.listing.specs.Lines.{log_bytes}
use Rattle.listing.specs.Left.{logged_of}
use Rattle.listing.specs.Writes.{writing-all, writing-first-room, writing-first, writing-none}
use Rattle.listing.proofs.Listing.put_log.Goals as goal

pub loop-n-init : goal.loop-n-init
unfolding log_bytes
loop-n-init c =
    let x = c.args.self.now.searched.now in
    let all : x.ended.run.clauses - x.given - 0 ≡ x.ended.run.clauses - x.given = omega arith in
    writing-all (rw all)

pub put_logged-requires-clause-room : goal.put_logged-requires-clause-room
put_logged-requires-clause-room c =
    let x = c.args.self.now.searched.now in
    writing-first-room c.loop-n.invariant (joined-first (logged_of x) (x.ended.run.clauses - x.given) c.loop-n.n (omega arith)) c.requires

pub loop-n-preserved : goal.loop-n-preserved
loop-n-preserved c =
    let x = c.args.self.now.searched.now in
    writing-first c.loop-n.invariant (joined-first (logged_of x) (x.ended.run.clauses - x.given) c.loop-n.n (omega arith)) c.put_logged.ensures

pub returns : goal.returns
returns c =
    let x = c.args.self.now.searched.now in
    writing-none c.loop-n.invariant (joined-none (logged_of x) (x.ended.run.clauses - x.given) c.loop-n.n (omega arith))
