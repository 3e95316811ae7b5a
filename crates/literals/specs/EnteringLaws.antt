-- What one literal does to the arrays, by whether its atom is new; and the turns of a walk over slots. Assumes nothing.
use Prim.Native.Nat.{ℕ, suc, ◌+◌, ◌-◌, ◌*◌, ◌%◌, ◌≤◌, ◌<◌}
use Rattle.std.specs.Prelude.{◌≡◌, List, eqb, get_or, set}
use native.Mathlib.Omega.{arith}
use Rattle.std.proofs.Common.{eqb-true, eq-eqb, ne_eqb}
use Rattle.std.proofs.lemmas.Bool.{eqb-false}
use Rattle.theory.specs.Tests.{by-test}
use Rattle.encoding.specs.CodeLaws.{set-bounded}
use Rattle.literals.specs.Entering.{slot_code, Entered, entered, enter_literal, enter_slots}

-- the index names only atoms of the table
abbrev pub IndexWithin : Entered → Type 0
IndexWithin e = (code : ℕ) → get_or e.index code 0 ≤ e.atoms

module _ (code sign : ℕ) (e : Entered) where
  pub literal-new :
      get_or e.index code 0 ≡ 0
      → enter_literal code sign e
      ≡ entered (e.atoms + 1) (e.count + 1) (set e.literals e.count (2 * e.atoms + sign)) (set e.table e.atoms code) (set e.index code (e.atoms + 1))
  unfolding enter_literal
  literal-new h = cc (eq-eqb (get_or e.index code 0) 0 h)

  pub literal-known :
      (get_or e.index code 0 ≡ 0 → ⊥)
      → enter_literal code sign e
      ≡ entered e.atoms (e.count + 1) (set e.literals e.count (2 * (get_or e.index code 0 - 1) + sign)) e.table e.index
  unfolding enter_literal
  literal-known h = cc (ne_eqb (get_or e.index code 0) 0 h)

  by-atom : {C : Type 0} → (get_or e.index code 0 ≡ 0 → C) → ((get_or e.index code 0 ≡ 0 → ⊥) → C) → C
  by-atom new known = by-test (eqb (get_or e.index code 0) 0) (λ h. new (eqb-true _ _ h)) (λ h. known (eqb-false _ _ h))

  -- at most one atom is new
  pub literal-atoms : (enter_literal code sign e).atoms ≤ e.atoms + 1
  literal-atoms = by-atom (λ h. rw (literal-new h) (omega arith)) (λ h. rw (literal-known h) (omega arith))

  pub literal-within : IndexWithin e → IndexWithin (enter_literal code sign e)
  literal-within w k =
      by-atom
      (λ h. rw (literal-new h) (set-bounded e.index code (e.atoms + 1) (e.atoms + 1) (λ j. omega (arith, w j)) (omega arith) k))
      (λ h. rw (literal-known h) (w k))

module _ (slots : List ℕ) (i count : ℕ) (e : Entered) where
  pub slots-turn :
      i < count
      → enter_slots slots i (count - i) e
      ≡ enter_slots slots (i + 1) (count - (i + 1)) (enter_literal (slot_code slots (4 * i)) (get_or slots (4 * i) 0 % 2) e)
  unfolding enter_slots
  slots-turn h = let left : count - i ≡ suc (count - (i + 1)) = omega arith in rw left

  pub slots_end : count ≤ i → enter_slots slots i (count - i) e ≡ e
  unfolding enter_slots
  slots_end h = let left : count - i ≡ 0 = omega arith in rw left
