-- `rows::count` meets its contract: there is no such column, its number is out of range, or it is the count. Assumes nothing.
use Rattle.std.proofs.Common.{arith, sym, ◌∙◌}
use Rattle.theory.specs.Limits.{within-between}
use Rattle.encoding.specs.Signs.{number_of}
use Rattle.rows.specs.Rows.{counted}
use Rattle.rows.proofs.RowTests.{count-none, count-out, count-in}
use Rattle.rows.proofs.count.Goals as goal

pub returns-in-Some-clause-asked : goal.returns-in-Some-clause-asked
unfolding counted
returns-in-Some-clause-asked c =
    let (_, _, _, (there, read), _) = c.in-Some.ensures.lookup in
    rw (c.from.ensures, read 0) (count-in c.args.line.now c.args.column 8 _ _ there (rw (read 0) at (sym c.in_range.ensures ∙ c.if-in_range.true)))

pub returns-in_default-clause-asked : goal.returns-in_default-clause-asked
unfolding counted
returns-in_default-clause-asked c =
    let (_, _, _, (there, read), _) = c.in-Some.ensures.lookup in
    count-out c.args.line.now c.args.column 8 _ _ there (rw (read 0) at (sym c.in_range.ensures ∙ c.if-in_range.false))

pub returns-in_default-2-clause-asked : goal.returns-in_default-2-clause-asked
unfolding counted
returns-in_default-2-clause-asked c = count-none c.args.line.now c.args.column 8 _ _ (rw c.in_default.is at c.get.ensures.lookup.3)

pub returns-in-Some-clause-fits : goal.returns-in-Some-clause-fits
unfolding number_of
returns-in-Some-clause-fits c =
    let (_, _, _, (there, _), _) = c.in-Some.ensures.lookup in
    (there, omega (arith, c.from.ensures, within-between _ _ _ (sym c.in_range.ensures ∙ c.if-in_range.true)))
