-- A line of any kind, from what the reader of its kind says: the other arrays stay as they were.
use Prim.Native.Nat.{ℕ}
use mathlib.Core.Path.{refl}
use mathlib.Core.List.{List}
use lib.ListN.{take}
use Rattle.definitions.specs.Words.{Clause, RuleLine, one_way, two_way}
use Rattle.definitions.specs.Sheet.{Number}
use Rattle.definitions.specs.Questions.{Asked, no, yes, constants_asked, arity_asked, rule_asked, two_way_asked, clause_asked}
use Rattle.encoding.specs.Encoding.{arrays}
use Rattle.lines.specs.LineReads.{ConstantsRead, SymbolRead, RuleRead, ClauseRead}
use Rattle.sheet.specs.LineHolds.{with_arities, with_rules, with_entered, ConstantsHeld, SymbolHeld, RuleHeld, ClauseEntersHeld, LineHeld}
use Rattle.encoding.specs.declared.Sizes.{Sizes}
use Rattle.std.specs.Prelude.{Result}
use Rattle.definitions.specs.declared.Question.{Question}

module _ (answer : Result Sizes Question) (s : Sizes) (a r st l t i : List ℕ) where
  constants-held : (m : Asked ℕ) → ConstantsRead m answer s → ConstantsHeld m answer s (arrays a r st l t i) (arrays a r st l t i)
  constants-held (no q) h = h
  constants-held (yes n) h = (h, refl)

  symbol-held : (a₁ : List ℕ) (m : Asked ℕ) → SymbolRead m answer s a a₁ → SymbolHeld m answer s (arrays a r st l t i) (arrays a₁ r st l t i)
  unfolding with_arities
  symbol-held a₁ (no q) h = h
  symbol-held a₁ (yes n) h = (h.0, rw h.1)

  rule-held : {A : Type 0} (line : A → RuleLine) (r₁ : List ℕ) (m : Asked A) → RuleRead line m answer s r r₁ → RuleHeld line m answer s (arrays a r st l t i) (arrays a r₁ st l t i)
  unfolding with_rules
  rule-held line r₁ (no q) h = h
  rule-held line r₁ (yes x) h = (h.0, rw h.1)

  clause-held : (st₁ l₁ t₁ i₁ : List ℕ) (m : Asked Clause) → ClauseRead m answer s st st₁ l l₁ t t₁ i i₁
      → ClauseEntersHeld m answer s (arrays a r st l t i) (arrays a r st₁ l₁ t₁ i₁)
  unfolding with_entered
  clause-held st₁ l₁ t₁ i₁ (no q) h = h
  clause-held st₁ l₁ t₁ i₁ (yes c) h = (h.answer, rw (h.starts, h.literals, h.table, h.index))

  module _ (ns : List Number) where
    pub line-of-constants : ConstantsRead (constants_asked ns) answer s → LineHeld 1 ns answer s (arrays a r st l t i) (arrays a r st l t i)
    line-of-constants h = constants-held (constants_asked ns) h

    pub line-of-symbol : (a₁ : List ℕ) → SymbolRead (arity_asked s.symbols ns) answer s a a₁ → LineHeld 2 ns answer s (arrays a r st l t i) (arrays a₁ r st l t i)
    line-of-symbol a₁ h = symbol-held a₁ (arity_asked s.symbols ns) h

    pub line-of-rule : (r₁ : List ℕ) → RuleRead one_way (rule_asked s.constants (take s.symbols a) s.counted ns) answer s r r₁
        → LineHeld 3 ns answer s (arrays a r st l t i) (arrays a r₁ st l t i)
    line-of-rule r₁ h = rule-held one_way r₁ (rule_asked s.constants (take s.symbols a) s.counted ns) h

    pub line-of-two-way : (r₁ : List ℕ) → RuleRead two_way (two_way_asked s.constants (take s.symbols a) s.counted ns) answer s r r₁
        → LineHeld 8 ns answer s (arrays a r st l t i) (arrays a r₁ st l t i)
    line-of-two-way r₁ h = rule-held two_way r₁ (two_way_asked s.constants (take s.symbols a) s.counted ns) h

    pub line-of-clause : (st₁ l₁ t₁ i₁ : List ℕ) → ClauseRead (clause_asked s.constants (take s.symbols a) s.clauses ns) answer s st st₁ l l₁ t t₁ i i₁
        → LineHeld 4 ns answer s (arrays a r st l t i) (arrays a r st₁ l₁ t₁ i₁)
    line-of-clause st₁ l₁ t₁ i₁ h = clause-held st₁ l₁ t₁ i₁ (clause_asked s.constants (take s.symbols a) s.clauses ns) h
