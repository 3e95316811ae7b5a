-- `Listing::put_literals` meets its contract: a literal each turn, and those behind it are still to be written. Assumes nothing.
use Rattle.std.proofs.Common.{drop}
use Rattle.listing.specs.Left.{words_columns}
use Rattle.listing.specs.Writes.{Writing}
use Rattle.listing.proofs.Listing.put_literals.Given as goal

abbrev pub invariant-loop-word : goal.invariant-loop-word
invariant-loop-word l = Writing l.initial.out (words_columns l.self.searched.now l.words) (words_columns l.self.searched.now (drop l.word-index l.words)) l.out
