-- `lines::symbol_line` meets its contract, return by return. Assumes nothing.
use Rattle.std.proofs.Common.{arith, refl}
use Rattle.rows.specs.Rows.{counted}
use Rattle.lines.specs.LineReads.{more_symbols}
use Rattle.lines.proofs.CountColumns.{handed}
use Rattle.lines.proofs.CountLines.{symbol-refused, arity-uncounted, symbols-full, arity-over, arity-read}
use Rattle.lines.proofs.symbol_line.Goals as goal

pub returns-in_err-arity : goal.returns-in_err-arity
unfolding counted
returns-in_err-arity c = symbol-refused _ _ _ _ (arity-uncounted _ _ c.in_err-arity.ensures.asked) (handed _ _ c.from_residual.ensures.1 refl)

pub returns-then-symbols-eq-SYMBOLS : goal.returns-then-symbols-eq-SYMBOLS
unfolding counted
returns-then-symbols-eq-SYMBOLS c = symbol-refused _ _ _ _ (symbols-full _ _ c.in_ok-arity.ensures.asked c.if-symbols-eq-SYMBOLS.true) refl

pub returns-then-line-gt2 : goal.returns-then-line-gt2
unfolding counted
returns-then-line-gt2 c = symbol-refused _ _ _ _ (arity-over _ _ c.in_ok-arity.ensures.asked (omega arith) c.if-line-gt2.true) refl

pub returns : goal.returns
unfolding counted more_symbols
returns c = arity-read _ _ c.in_ok-arity.ensures.asked (omega arith) c.if-line-gt2.false _ _ refl
