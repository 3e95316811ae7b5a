-- `sheet::line_of_kind` meets its contract, by the kind. Assumes nothing.
use Rattle.sheet.proofs.LineKinds.{line-of-constants, line-of-symbol, line-of-rule, line-of-two-way, line-of-clause}
use Rattle.sheet.proofs.line_of_kind.Goals as goal

pub returns-in-Constants : goal.returns-in-Constants
returns-in-Constants c = rw c.in-Constants.is (line-of-constants _ _ _ _ _ _ _ _ _ c.constants_line.ensures)

pub returns-in-Symbol : goal.returns-in-Symbol
returns-in-Symbol c = rw c.in-Symbol.is (line-of-symbol _ _ _ _ _ _ _ _ _ _ c.symbol_line.ensures)

pub returns-in-Rule : goal.returns-in-Rule
returns-in-Rule c =
    let given = c.args in
    rw c.in-Rule.is (line-of-rule _ given.s given.arities.now _ _ _ _ _ _ _ c.rule_line.ensures)

pub returns-in-TwoWay : goal.returns-in-TwoWay
returns-in-TwoWay c =
    let given = c.args in
    rw c.in-TwoWay.is (line-of-two-way _ given.s given.arities.now _ _ _ _ _ _ _ c.two_way_line.ensures)

pub returns-in-Clause : goal.returns-in-Clause
returns-in-Clause c =
    let given = c.args in
    rw c.in-Clause.is (line-of-clause _ given.s given.arities.now _ _ _ _ _ _ _ _ _ _ c.clause_line.ensures)
