-- `put_cnf` meets its contract: the header, and then a line each turn. Assumes nothing.
use Rattle.std.proofs.Common.{◌≡◌, ◌-◌, arith}
use Rattle.listing.specs.JoinedLaws.{joined-first, joined-none}
use Rattle.listing.specs.Writes.{writing-all, writing-first-room, writing-first, writing-none, first-room, more-room, both-written, new-room, new-put}
use Rattle.cnf_writer.specs.CnfBytes.{line_text}
use Rattle.cnf_writer.proofs.Parts.{cnf-first}
use Rattle.cnf_writer.proofs.put_cnf.Goals as goal

pub put_header-requires : goal.put_header-requires
put_header-requires c =
    let x = c.args.searched.now in
    first-room (cnf-first x.ended.run x.store.starts x.store.literals) (new-room c.new-out.ensures.room c.new-out.ensures.at _ c.requires.room)

pub loop-c-init : goal.loop-c-init
loop-c-init c =
    let all : c.args.searched.now.ended.run.clauses - 0 ≡ c.args.searched.now.ended.run.clauses = omega arith in
    writing-all (rw all)

pub put_clause-requires-clause-room : goal.put_clause-requires-clause-room
put_clause-requires-clause-room c =
    let x = c.args.searched.now in
    writing-first-room c.loop-c.invariant (joined-first (line_text x.store.starts x.store.literals) x.ended.run.clauses c.loop-c.c (omega arith))
    (more-room (cnf-first x.ended.run x.store.starts x.store.literals) c.put_header.ensures (new-room c.new-out.ensures.room c.new-out.ensures.at _ c.requires.room))

pub loop-c-preserved : goal.loop-c-preserved
loop-c-preserved c =
    let x = c.args.searched.now in
    writing-first c.loop-c.invariant (joined-first (line_text x.store.starts x.store.literals) x.ended.run.clauses c.loop-c.c (omega arith)) c.put_clause.ensures

pub returns : goal.returns
returns c =
    let x = c.args.searched.now in
    let lines = writing-none c.loop-c.invariant (joined-none (line_text x.store.starts x.store.literals) x.ended.run.clauses c.loop-c.c (omega arith)) in
    let written = new-put c.new-out.ensures.room c.new-out.ensures.at (both-written (cnf-first x.ended.run x.store.starts x.store.literals) c.put_header.ensures lines) in
    grind (arith, written, c.written.ensures)
