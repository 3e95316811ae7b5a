-- `slots::read_terms` meets its contract: the terms found so far stand in the slot, over whatever stood there. Assumes nothing.
use Rattle.std.proofs.Common.{ℕ, ◌-◌, ◌≡◌, List, []}
use Rattle.std.proofs.lemmas.List.Edits.{sets}
use Rattle.encoding.specs.Slots.{term_words}
use Rattle.literals.proofs.Terms.{TermsSoFar, terms_from}
use Rattle.literals.proofs.slots.read_terms.Given as goal

abbrev pub invariant-loop-j : goal.invariant-loop-j
invariant-loop-j l =
    (before : List ℕ) → l.initial.slots ≡ sets before l.base (term_words [])
    → TermsSoFar (terms_from l.rule l.constants l.arity l.words) (terms_from l.rule l.constants (l.arity - l.j) l.left) l.j l.base before l.slots
