-- `slots::read_slot` meets its contract: the symbol's tests, and the arguments into the rest of the slot. Assumes nothing.
use Rattle.std.proofs.Common.{arith, inl, inr, ◌-◌, ◌/◌}
use Rattle.literals.proofs.Terms.{rest-words}
use Rattle.literals.proofs.Literals.{slot-short, slot-no-symbol, slot-undeclared, slot-read}
use Rattle.literals.proofs.slots.read_slot.Goals as goal

pub returns-in_default : goal.returns-in_default
returns-in_default c = slot-short _ _ _ _ _ _ _ c.in_default.len_below

pub returns-then-symbol-eq0 : goal.returns-then-symbol-eq0
returns-then-symbol-eq0 c =
    elim c.then-symbol-eq0.either [
      | inl h ↦ slot-no-symbol _ _ _ _ _ _ _ c.in-len1-up.len_at_least _ c.from-symbol.ensures h
      | inr h ↦ slot-undeclared _ _ _ _ _ _ _ c.in-len1-up.len_at_least _ c.from-symbol.ensures h.0 h.1
    ]

pub read_terms-requires : goal.read_terms-requires
read_terms-requires c = omega (arith, c.from-arity.ensures, c.requires.0 (c.from-symbol.result / 2 - 1))

pub returns : goal.returns
returns c =
    slot-read _ _ _ _ _ _ _ c.in-len1-up.len_at_least _ c.from-symbol.ensures c.if-symbol-eq0.false c.if-arities-symbol.false _ c.from-arity.ensures _ (rw rest-words at c.read_terms.ensures)
