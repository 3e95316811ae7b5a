-- `clause_lines::literal_at` meets its contract: a literal is its sign and a number of the range. Assumes nothing.
use Rattle.cnf_reader.proofs.ClauseLines.{literal-none, literal-read}
use Rattle.cnf_reader.proofs.clause_lines.literal_at.Goals as goal

pub returns-in_err-size : goal.returns-in_err-size
returns-in_err-size c = rw c.from_residual.ensures (literal-none _ _ _ _ c.sign_at-negative.ensures (c.in_err-size.ensures.reads 22))

pub returns : goal.returns
returns c = literal-read _ _ _ _ c.sign_at-negative.ensures _ _ _ (c.in_ok-size.ensures.reads 22) c.word_of.ensures
