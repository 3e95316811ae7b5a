-- A clause enters the arrays literal by literal: an atom outside the table enters it at its end. Assumes nothing.
use Rattle.std.specs.Prelude.{ℕ, zero, suc, ◌+◌, ◌-◌, ◌*◌, ◌/◌, ◌%◌, ◌≤◌, ◌<◌, ◌≡◌, true, false, List, eqb, get_or, set}
use denote.Triple.Both.{Both}
use Rattle.encoding.specs.Encoding.{code_of}
use Rattle.encoding.specs.Lent.{Lent, LentTable}

-- a slot of a clause: its symbol is one of 16, and no term is above constant 32
pub record ClauseSlot (slots : List ℕ) (base : ℕ) : Type 0 where
  pub symbol : 1 ≤ get_or slots base 0 / 2
  pub declared : get_or slots base 0 / 2 ≤ 16
  pub first : get_or slots (base + 1) 0 ≤ 38
  pub second : get_or slots (base + 2) 0 ≤ 38
  pub third : get_or slots (base + 3) 0 ≤ 38

-- so many of them from the first on
abbrev pub ClauseSlots : List ℕ → ℕ → Type 0
ClauseSlots slots count = (i : ℕ) → i < count → ClauseSlot slots (4 * i)

-- the code of the atom in a slot whose terms are constants
unfoldable pub slot_code : List ℕ → ℕ → ℕ
slot_code slots base =
    code_of (get_or slots base 0 / 2 - 1) (get_or slots (base + 1) 0 - 7) (get_or slots (base + 2) 0 - 7) (get_or slots (base + 3) 0 - 7)

-- the number of atoms and of literals, and the arrays that a clause changes
pub record Entered : Type 0 where
  pub atoms : ℕ
  pub count : ℕ
  pub literals : List ℕ
  pub table : List ℕ
  pub index : List ℕ

abbrev pub entered : ℕ → ℕ → List ℕ → List ℕ → List ℕ → Entered
entered a n l t i = record { atoms = a; count = n; literals = l; table = t; index = i }

-- one literal, by its atom's code and its sign
unfoldable pub enter_literal : ℕ → ℕ → Entered → Entered
enter_literal code sign e =
    elim (eqb (get_or e.index code 0) 0) [
      | true ↦ entered (e.atoms + 1) (e.count + 1) (set e.literals e.count (2 * e.atoms + sign)) (set e.table e.atoms code) (set e.index code (e.atoms + 1))
      | false ↦ entered e.atoms (e.count + 1) (set e.literals e.count (2 * (get_or e.index code 0 - 1) + sign)) e.table e.index
    ]

-- so many slots from this one on
unfoldable pub enter_slots : List ℕ → ℕ → ℕ → Entered → Entered
enter_slots slots i zero e = e
enter_slots slots i (suc n) e = enter_slots slots (i + 1) n (enter_literal (slot_code slots (4 * i)) (get_or slots (4 * i) 0 % 2) e)

-- lent: the arrays by both counts, and what a function that enters literals leaves there
abbrev pub lent_entered : Lent → LentTable → Both (ℕ → ℕ → Entered) (ℕ → ℕ → Entered)
lent_entered literals table =
    record {
      entry = λ atoms count. entered atoms count literals.entry.now table.entry.now.codes table.entry.now.index;
      exit = λ atoms count. entered atoms count literals.exit.now table.exit.now.codes table.exit.now.index;
    }

abbrev pub Enters : (Entered → Entered) → ℕ → ℕ → ℕ → ℕ → Both (ℕ → ℕ → Entered) (ℕ → ℕ → Entered) → Type 0
Enters enter atoms count atoms₁ count₁ e = e.exit atoms₁ count₁ ≡ enter (e.entry atoms count)
