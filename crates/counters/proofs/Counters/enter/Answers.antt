-- `Counters::enter` meets its contract: the rows, then the number and the bit of those that ask. Assumes nothing.
use Rattle.std.specs.Prelude.{ℕ, ◌/◌, refl, List, get_or}
use Rattle.std.proofs.Common.{ap, arith}
use Rattle.counters.specs.Entering.{words-free, ask-room, entered-as}
use Rattle.counters.proofs.Counters.enter.Goals as goal

pub enter_words-n-requires : goal.enter_words-n-requires
enter_words-n-requires c = (c.requires.0, c.requires.1, c.requires.2, (words-free _ _ c.requires.0 c.requires.3.1).1)

pub overflow_add-self : goal.overflow_add-self
overflow_add-self c =
    let is = ap (λ (l : List ℕ). get_or l (c.args.c / 64) 0) c.enter_words-n.ensures.2 in
    let room = ask-room _ _ c.requires.0 c.requires.3.1 is (omega arith) c.asking_bit.ensures.1 in
    omega arith

pub returns : goal.returns
returns c = λ clauses same its.
    rw (c.enter_words-n.ensures.1, c.enter_words-n.ensures.2)
    (entered-as _ clauses c.requires.0 its refl c.asking_bit.ensures.0 c.enter_words-n.ensures.0 same)
