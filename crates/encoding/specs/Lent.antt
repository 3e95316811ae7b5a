-- Arrays that are lent to a function one by one: what they hold when it is called and when it is done. And the structs of the arrays of a
-- search, from their parts. Assumes nothing.
use Rattle.std.specs.Prelude.{ℕ, List}
use Rattle.std.proofs.Common.{MutBor}
use denote.Triple.Both.{Both}
use Rattle.encoding.specs.Encoding.{Arrays, arrays}
use Rattle.encoding.specs.declared.ClauseStore.{ClauseStore}
use Rattle.encoding.specs.declared.AtomTable.{AtomTable}

-- an array as a `requires` names it, and at both moments, as an `ensures` does
abbrev pub Array : Type 0
Array = MutBor (List ℕ)

abbrev pub Lent : Type 0
Lent = Both Array Array

-- the atom table likewise
abbrev pub LentTable : Type 0
LentTable = Both (MutBor AtomTable) (MutBor AtomTable)

-- how what is left stands to what was lent
abbrev pub Leaves : {A : Type 0} → (A → A → Type 0) → Both A A → Type 0
Leaves R x = R x.entry x.exit

-- the clause store
abbrev pub clause_store : List ℕ → List ℕ → List ℕ → List ℕ → ClauseStore
clause_store starts literals heads numbers = record { starts = starts; literals = literals; heads = heads; numbers = numbers }

-- the atom table
abbrev pub atom_table : List ℕ → List ℕ → AtomTable
atom_table codes index = record { codes = codes; index = index }

-- ── lent ──

abbrev pub lent_arrays : Lent → Lent → Lent → Lent → LentTable → Both Arrays Arrays
lent_arrays arities rules starts literals table =
    record {
      entry = arrays arities.entry.now rules.entry.now starts.entry.now literals.entry.now table.entry.now.codes table.entry.now.index;
      exit = arrays arities.exit.now rules.exit.now starts.exit.now literals.exit.now table.exit.now.codes table.exit.now.index;
    }
