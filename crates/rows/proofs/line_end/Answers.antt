-- `rows::line_end` meets its contract: the first LF ends the line, or the sheet's end does. Assumes nothing.
use Rattle.std.proofs.Common.{arith, ℕ, ◌≡◌, ◌<◌, length, drop, get_or, length-drop}
use Rattle.std.proofs.lemmas.Grind.{common_steps}
use Rattle.rows.proofs.RowLoops.{line_length-first, line_length-whole}
use Rattle.rows.proofs.line_end.Goals as goal

pub returns-in-Some : goal.returns-in-Some
returns-in-Some c =
    let here : get_or (drop c.args.from c.args.sheet.now) c.in-Some.at 0 ≡ 10 = grind (arith, common_steps) in
    let inside : c.in-Some.at < length (drop c.args.from c.args.sheet.now) = grind (arith, common_steps) in
    let before : (j : ℕ) → j < c.in-Some.at → get_or (drop c.args.from c.args.sheet.now) j 0 ≡ 10 → ⊥ = λ j l e. grind (arith, common_steps) in
    omega (arith, line_length-first (drop c.args.from c.args.sheet.now) c.in-Some.at inside here before)

pub returns-in-None : goal.returns-in-None
returns-in-None c =
    let none : (j : ℕ) → j < length (drop c.args.from c.args.sheet.now) → get_or (drop c.args.from c.args.sheet.now) j 0 ≡ 10 → ⊥ = λ j l e. grind (arith, common_steps) in
    omega (arith, line_length-whole (drop c.args.from c.args.sheet.now) none, length-drop c.args.from c.args.sheet.now)
