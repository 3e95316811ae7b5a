-- `lines::clause_line` meets its contract: the count return by return, then the clause by what its slots hold. Assumes nothing.
use Rattle.std.proofs.Common.{arith, refl, sym, ◌∙◌}
use Rattle.std.proofs.lemmas.Bool.{eqb-false}
use Rattle.rows.specs.Rows.{counted}
use Rattle.lines.specs.LineReads.{more_clauses}
use Rattle.lines.proofs.CountColumns.{handed, words-from}
use Rattle.lines.proofs.ClauseLines.{clause-refused, clause-uncounted, clauses-full, clause-unread, clause-over, clause-slots, clause-many, clause-read}
use Rattle.lines.proofs.clause_line.Goals as goal

pub returns-in_err-count : goal.returns-in_err-count
unfolding counted
returns-in_err-count c = clause-refused _ _ _ _ _ _ _ _ _ _ (clause-uncounted _ _ _ _ c.in_err-count.ensures.asked) (handed _ _ c.from_residual.ensures.1 refl)

pub returns-then-clauses-eq-CLAUSES : goal.returns-then-clauses-eq-CLAUSES
unfolding counted
returns-then-clauses-eq-CLAUSES c = clause-refused _ _ _ _ _ _ _ _ _ _ (clauses-full _ _ _ _ c.in_ok-count.ensures.asked c.if-clauses-eq-CLAUSES.true) refl

pub returns-in_err-left : goal.returns-in_err-left
unfolding counted
returns-in_err-left c =
    clause-refused _ _ _ _ _ _ _ _ _ _
    (clause-unread _ c.args.s _ _ _ _ c.in_ok-count.ensures.asked (omega (arith, c.requires.clauses)) _ (rw words-from at c.in_err-left.ensures)) (handed _ _ c.from_residual-in_err-left.ensures.1 refl)

pub returns-then-not-is_empty : goal.returns-then-not-is_empty
unfolding counted
returns-then-not-is_empty c =
    clause-refused _ _ _ _ _ _ _ _ _ _
    (clause-over _ c.args.s _ _ _ _ c.in_ok-count.ensures.asked (omega (arith, c.requires.clauses)) _ (rw words-from at c.in_ok-left.ensures) (eqb-false _ 0 (sym c.is_empty.ensures ∙ c.if-not-is_empty.true))) refl

pub enter_clause-atoms-requires : goal.enter_clause-atoms-requires
unfolding counted
enter_clause-atoms-requires c =
    let ready = c.requires in
    let slots = clause-slots _ c.args.s _ _ _ _ c.in_ok-count.ensures.asked (omega (arith, c.requires.clauses)) _ (rw words-from at c.in_ok-left.ensures) c.in_ok-count.ensures.fits.1 (omega arith) ready.constants ready.declared in
    (c.in_ok-count.ensures.fits.1, ready.atoms, omega (arith, ready.literals, ready.clauses, c.in_ok-count.ensures.fits.1), slots, ready.index)

pub returns-then-atoms-gt-GOALS : goal.returns-then-atoms-gt-GOALS
unfolding counted
returns-then-atoms-gt-GOALS c =
    clause-many _ c.args.s _ _ _ _ c.in_ok-count.ensures.asked (omega (arith, c.requires.clauses)) _ (rw words-from at c.in_ok-left.ensures) c.in_ok-count.ensures.fits.1 (omega arith)
    (grind arith)
    _ _ _ _ _ _ _
    c.enter_clause-atoms.ensures
    _
    c.if-atoms-gt-GOALS.true

pub returns : goal.returns
unfolding counted more_clauses
returns c =
    clause-read _ c.args.s _ _ _ _ c.in_ok-count.ensures.asked (omega (arith, c.requires.clauses)) _ (rw words-from at c.in_ok-left.ensures) c.in_ok-count.ensures.fits.1 (omega arith)
    (grind arith)
    _ _ _ _ _ _ _
    c.enter_clause-atoms.ensures
    _
    c.if-atoms-gt-GOALS.false
