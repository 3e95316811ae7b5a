-- `rows::row_kind` meets its contract: the first number tells, if there is one. Assumes nothing.
use Rattle.std.proofs.Common.{◌∙◌}
use Rattle.rows.proofs.RowTests.{no_kind, first-kind}
use Rattle.rows.proofs.row_kind.Goals as goal

pub returns-in-empty : goal.returns-in-empty
returns-in-empty c = no_kind _ _ c.in-empty.len_below

pub returns-in-len1-up : goal.returns-in-len1-up
returns-in-len1-up c = c.kind_here.ensures ∙ first-kind _ _ c.in-len1-up.len_at_least
