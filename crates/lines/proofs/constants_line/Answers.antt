-- `lines::constants_line` meets its contract, return by return. Assumes nothing.
use Rattle.std.proofs.Common.{refl}
use Rattle.rows.specs.Rows.{counted}
use Rattle.lines.specs.LineReads.{more_constants}
use Rattle.lines.proofs.CountColumns.{handed}
use Rattle.lines.proofs.CountLines.{constants-refused, constants-uncounted, constants-over, constants-read}
use Rattle.lines.proofs.constants_line.Goals as goal

pub returns-in_err-constants : goal.returns-in_err-constants
unfolding counted
returns-in_err-constants c = constants-refused _ _ (constants-uncounted _ c.in_err-constants.ensures.asked) (handed _ _ c.from_residual.ensures.1 refl)

pub returns-then-line-gt2 : goal.returns-then-line-gt2
unfolding counted
returns-then-line-gt2 c = constants-refused _ _ (constants-over _ c.in_ok-constants.ensures.asked c.if-line-gt2.true) refl

pub returns : goal.returns
unfolding counted more_constants
returns c = constants-read _ c.in_ok-constants.ensures.asked c.if-line-gt2.false _
