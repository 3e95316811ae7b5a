-- The kinds of lines by their numbers. Assumes nothing.
use Rattle.std.specs.Prelude.{ℕ, Bool, true, false, Option, Some, None, eqb}
use Rattle.rows.specs.declared.Kind.{Kind}
use Rattle.rows.specs.declared.Kind.TheVariants.{Constants, Symbol, Rule, Clause, TwoWay}

abbrev pub number_of_kind : Kind → ℕ
number_of_kind Constants = 1
number_of_kind Symbol = 2
number_of_kind Rule = 3
number_of_kind Clause = 4
number_of_kind TwoWay = 8

-- 0 for none, as the definitions have it
abbrev pub kind_number : Option Kind → ℕ
kind_number None = 0
kind_number (Some k) = number_of_kind k

unfoldable pub kind_numbered : ℕ → Option Kind
kind_numbered n =
    elim (eqb n 1) [
      | true ↦ Some Constants
      | false ↦ elim (eqb n 2) [
        | true ↦ Some Symbol
        | false ↦ elim (eqb n 3) [
          | true ↦ Some Rule
          | false ↦ elim (eqb n 4) [
            | true ↦ Some Clause
            | false ↦ elim (eqb n 8) [ true ↦ Some TwoWay | false ↦ None ]
          ]
        ]
      ]
    ]

-- the kind's number where it may stand, else 0
abbrev pub kind_if : Bool → Kind → ℕ
kind_if true k = number_of_kind k
kind_if false k = 0
