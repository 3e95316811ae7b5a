-- What the readers of a line of each kind say, by what the questions come to. Assumes nothing.
use Rattle.std.specs.Prelude.{ℕ, ◌+◌, ◌*◌, ◌≤◌, ◌≡◌, Bool, true, false, Result, Ok, Err, IsErrAnd, List, ◌++◌, map, leb, length, get_or, set, take, drop}
use Rattle.std.proofs.lemmas.List.Edits.{sets}
use Rattle.definitions.specs.Lists.{joined}
use Rattle.definitions.specs.Words.{Clause, Rule, TwoWay, forward, RuleLine}
use Rattle.definitions.specs.Sheet.{Number}
use Rattle.definitions.specs.Questions.{Asked, no, yes, Parsed, RuleCounts, TwoWayCounts, rules_of, has_reverse, reverse_rules, counts_as}
use Rattle.theory.specs.ListLaws.{Each}
use Rattle.encoding.specs.Slots.{as_pattern, slot_words, rule_words}
use Rattle.encoding.specs.SlotLaws.{InSlot}
use Rattle.literals.specs.Entering.{Entered, entered, enter_slots}
use Rattle.encoding.specs.Lent.{Lent, LentTable}
use Rattle.encoding.specs.declared.Sizes.{Sizes}
use Rattle.definitions.specs.Numbered.{question_number}
use Rattle.definitions.specs.declared.Question.{Question}
use Rattle.definitions.specs.declared.Question.TheVariants.{Goals}
use Rattle.lines.specs.declared.one_way.RuleCounts as one
use Rattle.lines.specs.declared.two_way.TwoWayCounts as two

-- it is this question that is answered no
abbrev pub Refuses : {A : Type 0} → Result A Question → ℕ → Type 0
Refuses r q = IsErrAnd r (λ d. question_number d ≡ q)

-- ── one line more ──

unfoldable pub more_constants : ℕ → Sizes → Sizes
more_constants n s = record { constants = n; symbols = s.symbols; rules = s.rules; counted = s.counted; clauses = s.clauses; atoms = s.atoms; literals = s.literals }

unfoldable pub more_symbols : Sizes → Sizes
more_symbols s = record { constants = s.constants; symbols = s.symbols + 1; rules = s.rules; counted = s.counted; clauses = s.clauses; atoms = s.atoms; literals = s.literals }

-- so many rules, and so many as question 9 counts them
abbrev pub resized : ℕ → ℕ → Sizes → Sizes
resized rules counted s = record { constants = s.constants; symbols = s.symbols; rules = rules; counted = counted; clauses = s.clauses; atoms = s.atoms; literals = s.literals }

-- with the rules that a line of kind 3 or 8 stands for
unfoldable pub more_rules : RuleLine → Sizes → Sizes
more_rules l s = resized (s.rules + length (rules_of l)) (s.counted + counts_as l) s

unfoldable pub more_clauses : Entered → Sizes → Sizes
more_clauses e s = record { constants = s.constants; symbols = s.symbols; rules = s.rules; counted = s.counted; clauses = s.clauses + 1; atoms = e.atoms; literals = e.count }

abbrev pub ConstantsRead : Asked ℕ → Result Sizes Question → Sizes → Type 0
ConstantsRead (no q) r s = Refuses r q
ConstantsRead (yes n) r s = r ≡ Ok (more_constants n s)

abbrev pub SymbolRead : Asked ℕ → Result Sizes Question → Sizes → List ℕ → List ℕ → Type 0
SymbolRead (no q) r s before after = Refuses r q
SymbolRead (yes n) r s before after = (r ≡ Ok (more_symbols s)) × (after ≡ set before s.symbols n)

-- question 8 of a line of kind 3: both counts, and the columns that are left then
unfoldable pub counts_of : ℕ → ℕ → List Number → Parsed RuleCounts
counts_of h b ns = record { found = record { heads = h; body = b }; left = ns }

abbrev pub CountsRead : Asked (Parsed RuleCounts) → Result one.RuleCounts Question → List ℕ → List Number → Type 0
CountsRead (no q) r line left = Refuses r q × (q ≡ 8)
CountsRead (yes w) r line left =
    (r ≡ Ok (record { heads = w.found.heads; body = w.found.body })) × (w.left ≡ left) × (3 ≤ length line) × (w.found.heads + w.found.body ≤ 5)

-- a rule in slots: so many heads and body literals, put over what was there, each with room in its slot
pub record RuleSlots (x : Rule) (h b : ℕ) (before slots : List ℕ) : Type 0 where
  pub heads : length x.heads ≡ h
  pub body : length x.body ≡ b
  pub wide : 32 ≤ length before
  pub words : slots ≡ sets before 0 (slot_words (x.heads ++ x.body))
  pub in_slots : Each InSlot (x.heads ++ x.body)

-- 10 to 12 and 14 of the literals behind: the question, or the rule stands in the slots and at its place
abbrev pub BehindRead : Asked Rule → ℕ → ℕ → Result (Unit {0}) Question → ℕ → List ℕ → List ℕ → List ℕ → List ℕ → Type 0
BehindRead (no q) h b r place slots₀ slots₁ before after = Refuses r q
BehindRead (yes x) h b r place slots₀ slots₁ before after = (r ≡ Ok tt) × RuleSlots x h b slots₀ slots₁ × (after ≡ sets before (22 * place) (rule_words x))

-- 7/14: question 8 of a line of kind 8, in the same way
unfoldable pub two_way_counts_of : ℕ → ℕ → ℕ → List Number → Parsed TwoWayCounts
two_way_counts_of k r b ns = record { found = record { kept = k; rewritten = r; body = b }; left = ns }

abbrev pub TwoWayCountsRead : Asked (Parsed TwoWayCounts) → Result two.TwoWayCounts Question → List ℕ → List Number → Type 0
TwoWayCountsRead (no q) r line left = Refuses r q × (q ≡ 8)
TwoWayCountsRead (yes w) r line left =
    (r ≡ Ok (record { kept = w.found.kept; rewritten = w.found.rewritten; body = w.found.body })) × (w.left ≡ left) × (4 ≤ length line)
    × (w.found.kept + w.found.rewritten ≤ 3) × (w.found.body ≤ 2)

-- a two-way rule in slots, in the order of its line: its forward rule, with so many heads kept
pub record TwoWaySlots (t : TwoWay) (k r b : ℕ) (slots : List ℕ) : Type 0 where
  pub kept : length t.kept ≡ k
  pub rewritten : length t.rewritten ≡ r
  pub before : List ℕ
  pub rule : RuleSlots (forward t) (k + r) b before slots

-- the same slots in the order of the reverse rule
unfoldable pub turned_words : ℕ → ℕ → ℕ → List ℕ → List ℕ
turned_words k r b slots = (take (4 * k) slots ++ take (4 * b) (drop (4 * k + 4 * r) slots)) ++ take (4 * r) (drop (4 * k) slots)

-- whatever two-way rule they hold: its reverse rule at its place if it is there, and whether it is
abbrev pub ReversePut : ℕ → ℕ → ℕ → List ℕ → Bool → ℕ → List ℕ → List ℕ → Type 0
ReversePut k r b slots there place before after =
    (t : TwoWay) → TwoWaySlots t k r b slots → (there ≡ has_reverse t) × (after ≡ sets before (22 * place) (joined rule_words (reverse_rules t)))

-- a line of kind 3 or 8, by what is read of it: the rules that it stands for, one behind the other
abbrev pub RuleRead : {A : Type 0} → (A → RuleLine) → Asked A → Result Sizes Question → Sizes → List ℕ → List ℕ → Type 0
RuleRead line (no q) r s before after = Refuses r q
RuleRead line (yes x) r s before after = (r ≡ Ok (more_rules (line x) s)) × (after ≡ sets before (22 * s.rules) (joined rule_words (rules_of (line x))))

-- the clause enters, and question 13 is asked of the atoms that there are then
unfoldable pub clause_entered : Clause → Sizes → List ℕ → List ℕ → List ℕ → Entered
clause_entered c s literals table index = enter_slots (slot_words (map as_pattern c)) 0 (length c) (entered s.atoms s.literals literals table index)

unfoldable pub clause_answer : Entered → Sizes → Result Sizes Question
clause_answer e s = elim (leb e.atoms 64) [ true ↦ Ok (more_clauses e s) | false ↦ Err Goals ]

pub record ClauseHeld (c : Clause) (r : Result Sizes Question) (s : Sizes) (starts₀ starts₁ literals₀ literals₁ table₀ table₁ index₀ index₁ : List ℕ) : Type 0 where
  pub answer : r ≡ clause_answer (clause_entered c s literals₀ table₀ index₀) s
  pub starts : starts₁ ≡ set starts₀ (s.clauses + 1) (s.literals + length c)
  pub literals : literals₁ ≡ (clause_entered c s literals₀ table₀ index₀).literals
  pub table : table₁ ≡ (clause_entered c s literals₀ table₀ index₀).table
  pub index : index₁ ≡ (clause_entered c s literals₀ table₀ index₀).index

abbrev pub ClauseRead : Asked Clause → Result Sizes Question → Sizes → List ℕ → List ℕ → List ℕ → List ℕ → List ℕ → List ℕ → List ℕ → List ℕ → Type 0
ClauseRead (no q) r s starts₀ starts₁ literals₀ literals₁ table₀ table₁ index₀ index₁ = Refuses r q
ClauseRead (yes c) r s starts₀ starts₁ literals₀ literals₁ table₀ table₁ index₀ index₁ = ClauseHeld c r s starts₀ starts₁ literals₀ literals₁ table₀ table₁ index₀ index₁

abbrev pub ClauseReads : Asked Clause → Result Sizes Question → Sizes → Lent → Lent → LentTable → Type 0
ClauseReads asked r s starts literals table =
    ClauseRead asked r s starts.entry.now starts.exit.now literals.entry.now literals.exit.now table.entry.now.codes table.exit.now.codes table.entry.now.index table.exit.now.index

-- what the readers ask of the sizes, the declared arities and the index: that they keep the limits
pub record Ready (s : Sizes) (arities index₀ : List ℕ) : Type 0 where
  pub constants : s.constants ≤ 32
  pub symbols : s.symbols ≤ 16
  pub declared : length arities ≤ 16
  pub arity : (i : ℕ) → get_or arities i 0 ≤ 3
  pub rules : s.rules ≤ s.counted
  pub counted : s.counted ≤ 32
  pub clauses : s.clauses ≤ 64
  pub atoms : s.atoms ≤ 64
  pub literals : s.literals ≤ 8 * s.clauses
  pub index : (code : ℕ) → get_or index₀ code 0 ≤ s.atoms
