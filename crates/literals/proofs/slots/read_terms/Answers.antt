-- `slots::read_terms` meets its contract: the terms found so far stand in the slot, over whatever stood there. Assumes nothing.
use Rattle.std.proofs.Common.{refl}
use Rattle.literals.proofs.Terms.{rest-words, three-zeros, terms-start, terms-short, terms-refused, terms-turn, terms-end, terms_from}
use Rattle.literals.proofs.slots.read_terms.Goals as goal

pub loop-j-init : goal.loop-j-init
loop-j-init c = λ before e. terms-start _ _ _ _ _ before _ e

pub returns-in_default : goal.returns-in_default
unfolding terms_from
returns-in_default c =
    let entry = c.args.slots.now in
    terms-short _ _ _ _ _ entry _ _ _ (c.loop-j.invariant entry (three-zeros entry _)) c.loop-j-test.true c.in_default.len_below

pub returns-in_err-slots : goal.returns-in_err-slots
unfolding terms_from
returns-in_err-slots c =
    let entry = c.args.slots.now in
    terms-refused _ _ _ _ _ entry _ _ _ (c.loop-j.invariant entry (three-zeros entry _)) c.loop-j-test.true c.in-len1-up.len_at_least c.in_err-slots.ensures _ c.from_residual.ensures.1

pub loop-j-preserved : goal.loop-j-preserved
loop-j-preserved c =
    λ before e. rw rest-words (terms-turn _ _ _ _ _ before _ _ _ (c.loop-j.invariant before e) c.loop-j-test.true c.in-len1-up.len_at_least c.in_ok-slots.ensures c.requires.0)

pub returns : goal.returns
unfolding terms_from
returns c =
    let entry = c.args.slots.now in
    terms-end _ _ _ _ _ entry _ _ _ (c.loop-j.invariant entry (three-zeros entry _)) c.loop-j-test.false c.loop-j.left refl
