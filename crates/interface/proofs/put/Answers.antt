use Rattle.std.proofs.Common.{arith}
use Rattle.std.proofs.lemmas.List.Edits.{sets-eq}
use Rattle.interface.proofs.put.Goals as goal

pub returns-clause-words : goal.returns-clause-words
returns-clause-words g c = grind (arith, sets-eq)
