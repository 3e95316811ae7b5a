-- `export` meets its contract: the refusal of the sheet, or the listing of its search and the text of its clauses. Assumes nothing.
use Rattle.std.proofs.Common.{arith}
use Rattle.definitions.specs.Call.{listing_of}
use Rattle.definitions.specs.Export.{export_of}
use Rattle.cnf_writer.specs.CnfStands.{finished-exportable}
use Rattle.pipe.specs.ReachingLaws.{reading-refused, reading-searched}
use Rattle.answering.specs.SolvingLaws.{refusal-listed, refusal-exported, listing-in-room, text-fits, text_in-room, made-listed, made-written, end-solved}
use Rattle.answering.proofs.Refusals.{handed-on}
use Rattle.answering.proofs.export.Goals as goal

pub returns-in_err-searched : goal.returns-in_err-searched
returns-in_err-searched c =
    let reads = reading-refused _ _ _ c.search_sheet.ensures _ c.in_err-searched.was in
    rw (handed-on c.from_residual.result _ c.from_residual.ensures.1)
    record { text = refusal-exported _ c.args.budget _ reads _; listing = refusal-listed _ c.args.budget _ reads _ }

pub put_listing-listing-requires : goal.put_listing-listing-requires
put_listing-listing-requires c =
    let (p, reads, end) = reading-searched _ _ _ c.search_sheet.ensures _ c.in_ok-searched.was in
    (p, c.args.budget, end.state, end.finished, listing-in-room _ c.args.budget p reads _ end _ (omega (arith, c.ranges.budget.fits)) c.requires.room)

pub put_cnf-text-requires : goal.put_cnf-text-requires
put_cnf-text-requires c =
    let (p, reads, end) = reading-searched _ _ _ c.search_sheet.ensures _ c.in_ok-searched.was in
    record {
      exportable = finished-exportable p c.args.budget end.state _ end.finished;
      room = text_in-room p c.args.budget end.state _ end.finished _ (text-fits _ c.args.budget p reads _ end _ c.requires.cnf);
    }

pub counts_of-counts-requires : goal.counts_of-counts-requires
counts_of-counts-requires c =
    let (p, reads, end) = reading-searched _ _ _ c.search_sheet.ensures _ c.in_ok-searched.was in
    (p, c.args.budget, end.state, end.finished)

pub returns : goal.returns
returns c =
    let (p, reads, end) = reading-searched _ _ _ c.search_sheet.ensures _ c.in_ok-searched.was in
    let listed = listing-in-room _ c.args.budget p reads _ end _ (omega (arith, c.ranges.budget.fits)) c.requires.room in
    let fits = text-fits _ c.args.budget p reads _ end _ c.requires.cnf in
    let made = made-listed p c.args.budget end.state _ end.finished _ (c.counts_of-counts.ensures p c.args.budget end.state end.finished) _ listed _ _ (c.put_listing-listing.ensures p c.args.budget end.state end.finished) in
    record {
      text = end-solved _ c.args.budget p reads _ end export_of _ _ _ (made-written p c.args.budget end.state _ end.finished _ _ _ made _ fits _ _ c.put_cnf-text.ensures);
      listing = end-solved _ c.args.budget p reads _ end (λ reading came. listing_of came) _ _ _ made;
    }
