-- `counts_of` meets its contract: the counts are those of the search. Assumes nothing.
use Rattle.answering.specs.SolvingLaws.{counts-stand}
use Rattle.answering.proofs.counts_of.Goals as goal

pub returns : goal.returns
returns c = λ p budget s finished. counts-stand p budget s _ finished
