-- `Listing::put_literals` meets its contract: a literal each turn, and those behind it are still to be written. Assumes nothing.
use Rattle.std.proofs.Common.{arith}
use Rattle.listing.specs.Writes.{writing-first-room, writing-first, writing-none}
use Rattle.listing.proofs.Parts.{words-first, words-none}
use Rattle.listing.proofs.Listing.put_literals.Goals as goal

pub put_literal-requires : goal.put_literal-requires
put_literal-requires c = writing-first-room c.loop-word.invariant (words-first c.args.self.now.searched.now.arities c.args.self.now.searched.now.codes c.args.words.now c.loop-word.word-index c.from.ensures (omega arith)) c.requires.room

pub loop-word-preserved : goal.loop-word-preserved
loop-word-preserved c = writing-first c.loop-word.invariant (words-first c.args.self.now.searched.now.arities c.args.self.now.searched.now.codes c.args.words.now c.loop-word.word-index c.from.ensures (omega arith)) c.put_literal.ensures

pub returns : goal.returns
returns c = writing-none c.loop-word.invariant (words-none c.args.self.now.searched.now.arities c.args.self.now.searched.now.codes c.args.words.now c.loop-word.word-index (omega arith))
