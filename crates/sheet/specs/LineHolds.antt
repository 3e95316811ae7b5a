-- A line of any kind, by what the questions come to and what it leaves in all arrays; and so the whole sheet. Assumes nothing.
use Rattle.std.specs.Prelude.{ℕ, ◌+◌, ◌*◌, ◌≡◌, true, false, List, eqb, length, set, take, Result, Ok, Err}
use Rattle.std.proofs.lemmas.List.Edits.{sets}
use Rattle.definitions.specs.Lists.{joined}
use Rattle.definitions.specs.Words.{Clause, RuleLine, one_way, two_way}
use Rattle.definitions.specs.Sheet.{Number}
use Rattle.definitions.specs.Questions.{Asked, no, yes, constants_asked, arity_asked, rule_asked, two_way_asked, clause_asked, rules_of, Reading, refused, accepted}
use Rattle.encoding.specs.Slots.{rule_words}
use Rattle.literals.specs.Entering.{Entered}
use Rattle.encoding.specs.Encoding.{Arrays, arrays, hold, sizes_of}
use Rattle.encoding.specs.declared.Sizes.{Sizes}
use Rattle.definitions.specs.declared.Question.{Question}
use Rattle.definitions.specs.declared.Refusal.{Refusal}
use Rattle.lines.specs.LineReads.{Refuses, more_constants, more_symbols, more_rules, clause_entered, clause_answer}

unfoldable pub with_arities : Arrays → List ℕ → Arrays
with_arities a xs = arrays xs a.rules a.starts a.literals a.table a.index

unfoldable pub with_rules : Arrays → List ℕ → Arrays
with_rules a xs = arrays a.arities xs a.starts a.literals a.table a.index

unfoldable pub with_entered : Arrays → List ℕ → Entered → Arrays
with_entered a starts e = arrays a.arities a.rules starts e.literals e.table e.index

abbrev pub ConstantsHeld : Asked ℕ → Result Sizes Question → Sizes → Arrays → Arrays → Type 0
ConstantsHeld (no q) r s before after = Refuses r q
ConstantsHeld (yes n) r s before after = (r ≡ Ok (more_constants n s)) × (after ≡ before)

abbrev pub SymbolHeld : Asked ℕ → Result Sizes Question → Sizes → Arrays → Arrays → Type 0
SymbolHeld (no q) r s before after = Refuses r q
SymbolHeld (yes n) r s before after = (r ≡ Ok (more_symbols s)) × (after ≡ with_arities before (set before.arities s.symbols n))

abbrev pub RuleHeld : {A : Type 0} → (A → RuleLine) → Asked A → Result Sizes Question → Sizes → Arrays → Arrays → Type 0
RuleHeld line (no q) r s before after = Refuses r q
RuleHeld line (yes x) r s before after =
    (r ≡ Ok (more_rules (line x) s)) × (after ≡ with_rules before (sets before.rules (22 * s.rules) (joined rule_words (rules_of (line x)))))

abbrev pub ClauseEntersHeld : Asked Clause → Result Sizes Question → Sizes → Arrays → Arrays → Type 0
ClauseEntersHeld (no q) r s before after = Refuses r q
ClauseEntersHeld (yes c) r s before after =
    (r ≡ clause_answer (clause_entered c s before.literals before.table before.index) s)
    × (after ≡ with_entered before (set before.starts (s.clauses + 1) (s.literals + length c)) (clause_entered c s before.literals before.table before.index))

-- 8 to 14 of a line of kind k, of its columns behind the kind
abbrev pub LineHeld : ℕ → List Number → Result Sizes Question → Sizes → Arrays → Arrays → Type 0
LineHeld k ns r s before after =
    elim (eqb k 1) [
      | true ↦ ConstantsHeld (constants_asked ns) r s before after
      | false ↦ elim (eqb k 2) [
        | true ↦ SymbolHeld (arity_asked s.symbols ns) r s before after
        | false ↦ elim (eqb k 3) [
          | true ↦ RuleHeld one_way (rule_asked s.constants (take s.symbols before.arities) s.counted ns) r s before after
          | false ↦ elim (eqb k 8) [
            | true ↦ RuleHeld two_way (two_way_asked s.constants (take s.symbols before.arities) s.counted ns) r s before after
            | false ↦ ClauseEntersHeld (clause_asked s.constants (take s.symbols before.arities) s.clauses ns) r s before after
          ]
        ]
      ]
    ]

-- the whole sheet: the refusal, or the sizes and the arrays that hold the problem
abbrev pub SheetRead : Reading → Result Sizes Refusal → Arrays → Arrays → Type 0
SheetRead (refused q n) r before after = r ≡ Err (record { number = q; line = n })
SheetRead (accepted p) r before after = (r ≡ Ok (sizes_of p)) × (after ≡ hold p before)
