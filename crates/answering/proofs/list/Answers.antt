-- `list` meets its contract: the refusal of the sheet, or the listing of its search. Assumes nothing.
use Rattle.std.proofs.Common.{arith}
use Rattle.definitions.specs.Call.{listing_of}
use Rattle.pipe.specs.ReachingLaws.{reading-refused, reading-searched}
use Rattle.answering.specs.SolvingLaws.{refusal-listed, listing-in-room, made-listed, end-solved}
use Rattle.answering.proofs.Refusals.{handed-on}
use Rattle.answering.proofs.list.Goals as goal

pub returns-in_err-searched : goal.returns-in_err-searched
returns-in_err-searched c =
    rw (handed-on c.from_residual.result _ c.from_residual.ensures.1)
    (refusal-listed _ c.args.budget _ (reading-refused _ _ _ c.search_sheet.ensures _ c.in_err-searched.was) _)

pub put_listing-length-requires : goal.put_listing-length-requires
put_listing-length-requires c =
    let (p, reads, end) = reading-searched _ _ _ c.search_sheet.ensures _ c.in_ok-searched.was in
    (p, c.args.budget, end.state, end.finished, listing-in-room _ c.args.budget p reads _ end _ (omega (arith, c.ranges.budget.fits)) c.requires)

pub counts_of-counts-requires : goal.counts_of-counts-requires
counts_of-counts-requires c =
    let (p, reads, end) = reading-searched _ _ _ c.search_sheet.ensures _ c.in_ok-searched.was in
    (p, c.args.budget, end.state, end.finished)

pub returns : goal.returns
returns c =
    let (p, reads, end) = reading-searched _ _ _ c.search_sheet.ensures _ c.in_ok-searched.was in
    let fits = listing-in-room _ c.args.budget p reads _ end _ (omega (arith, c.ranges.budget.fits)) c.requires in
    end-solved _ c.args.budget p reads _ end (λ reading came. listing_of came) _ _ _
    (made-listed p c.args.budget end.state _ end.finished _ (c.counts_of-counts.ensures p c.args.budget end.state end.finished) _ fits _ _ (c.put_listing-length.ensures p c.args.budget end.state end.finished))
