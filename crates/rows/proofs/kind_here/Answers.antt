-- `rows::kind_here` meets its contract: a negative number and one of no kind have none, and each kind says where it may stand. Assumes nothing.
use Rattle.std.proofs.Common.{◌/◌, sym, ◌∙◌}
use Rattle.rows.proofs.RowTests.{positive-number, negative-kind, known-kind, unknown-kind}
use Rattle.rows.proofs.kind_here.Goals as goal

pub returns-then-word-eq1 : goal.returns-then-word-eq1
returns-then-word-eq1 c = negative-kind _ _ c.if-word-eq1.true

pub returns-in_err-kind : goal.returns-in_err-kind
returns-in_err-kind c =
    rw (c.from_residual.ensures, positive-number c.args.word c.if-word-eq1.false)
    (unknown-kind _ _ (rw c.from.ensures at (sym c.of_number.ensures ∙ c.in_err-kind.was)))

pub returns-then-may_follow : goal.returns-then-may_follow
returns-then-may_follow c =
    rw (positive-number c.args.word c.if-word-eq1.false, known-kind (c.args.word / 2) c.in_ok-kind.kind (rw c.from.ensures at (sym c.of_number.ensures ∙ c.in_ok-kind.was)))
    c.if-may_follow.ensures

pub returns : goal.returns
returns c =
    rw (positive-number c.args.word c.if-word-eq1.false, known-kind (c.args.word / 2) c.in_ok-kind.kind (rw c.from.ensures at (sym c.of_number.ensures ∙ c.in_ok-kind.was)))
    c.if-may_follow.ensures
