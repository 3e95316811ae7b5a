-- `parts::behind` meets its contract: `strip_prefix` finds what the definition asks for. Assumes nothing.
use Rattle.cnf_reader.proofs.Fronts.{prefix-cases}
use Rattle.cnf_reader.proofs.parts.behind.Goals as goal

pub returns : goal.returns
returns c = λ q. prefix-cases q _ c.strip_prefix.result _ _ c.strip_prefix.ensures.cases
