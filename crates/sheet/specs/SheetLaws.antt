-- One line more: what the reader of a line leaves in the arrays is what the questions read, and so for the whole sheet.
-- Assumes nothing.
use Prim.Native.Nat.{ℕ, ◌+◌, ◌≤◌}
use Rattle.std.specs.Prelude.{◌≡◌, refl, ◌⊎◌, eqb, leb, set, take}
use Rattle.std.proofs.Common.{sym, subst, ◌∙◌, inl, inr, arith, length-append}
use Rattle.std.proofs.Math.Path.{ap}
use mathlib.Core.List.Memᴰ
use mathlib.Core.List.{List, [], ◌∷◌, ◌++◌, map, append-nil}
use Rattle.std.proofs.Math.ListN.{length}
use Rattle.definitions.specs.Lists.{◌∈◌, joined, distinct}
use Rattle.definitions.specs.Words.{Literal, Clause, RuleLine, one_way, two_way, Problem, goal_atoms}
use Rattle.definitions.specs.Sheet.{Line, Number}
use Rattle.definitions.specs.Questions.{Asked, no, yes, ◌>>=◌, ◌>>◌, ask, constants_asked, arity_asked, rule_asked, two_way_asked, clause_asked, counted, rules_of, with_constants, with_symbol, with_line, with_clause, constants_line, symbol_line, rule_line, two_way_line, clause_line, line_of_kind, columns_asked, Draft, read_line, empty_draft}
use Rattle.theory.specs.Tests.{by-test}
use Rattle.theory.specs.ListLaws.{joined-append, joined_length}
use Rattle.theory.specs.AskedLaws.{by-asked}
use Rattle.theory.specs.TwoWayLaws.{counted-more, rules-counted, FromLines}
use Rattle.theory.specs.Limits.{LiteralLimits, Limits, arity-limit, clause-asked-limits, Begun}
use Rattle.column.specs.Sets.{sets-taken}
use Rattle.rows.specs.Rows.{start_of}
use Rattle.encoding.specs.Slots.{as_pattern, slot_words}
use Rattle.literals.specs.Entering.{Entered}
use Rattle.encoding.specs.Encoding.{Arrays, empty_index, sizes_of, hold}
use Rattle.literals.specs.HeldClauseLaws.{entered_of, hold-index-within, clause-held}
use Rattle.sheet.specs.HoldingLaws.{hold-symbol, hold-line, hold-clause}
use Rattle.encoding.specs.HoldLaws.{Encodable, limits-encodable}
use Rattle.lines.specs.LineReads.{Refuses, more_constants, more_symbols, more_rules, more_clauses, clause_entered, clause_answer, Ready}
use Rattle.sheet.specs.LineHolds.{with_arities, with_rules, with_entered, ConstantsHeld, SymbolHeld, RuleHeld, ClauseEntersHeld, LineHeld}
use Rattle.encoding.specs.declared.Sizes.{Sizes}
use Rattle.std.specs.Prelude.{Result, Ok, Err}
use Rattle.definitions.specs.declared.Question.{Question}
use Rattle.definitions.specs.declared.Question.TheVariants.{Goals}

literals-more : (p : Problem) (c : Clause) → length (joined (λ (x : Clause). x) (with_clause p c).clauses) ≡ length (joined (λ (x : Clause). x) p.clauses) + length c
unfolding with_clause joined
literals-more p c =
    omega (arith, ap length (joined-append (λ (x : Clause). x) p.clauses (c ∷ [])), length-append (joined (λ (x : Clause). x) p.clauses) (c ++ []), ap length (append-nil c))

-- ── the arrays of a draft ──

-- a draft before its first line, or after some
abbrev pub Started : Draft → Type 0
Started d = (d ≡ empty_draft) ⊎ Begun d

module _ (before : Arrays) (empty : before.index ≡ empty_index) (wide : length before.arities ≡ 16) where
  held-arities : (p : Problem) → length p.arities ≤ 16 → take (length p.arities) (hold p before).arities ≡ p.arities
  unfolding hold
  held-arities p h = sets-taken before.arities p.arities (omega arith)

  limits-ready : (p : Problem) → Limits p → FromLines p → Ready (sizes_of p) (take (length p.arities) (hold p before).arities) (hold p before).index
  unfolding sizes_of
  limits-ready p l f =
      record {
        constants = l.constants;
        symbols = l.symbols;
        declared = rw (held-arities p l.symbols) l.symbols;
        arity = λ i. rw (held-arities p l.symbols) (arity-limit p l i);
        rules = omega (arith, ap length f.rules, rules-counted p.rule_lines);
        counted = f.few;
        clauses = l.clauses;
        atoms = l.goals;
        literals = joined_length (λ (c : Clause). c) 8 p.clauses (λ c m. (l.each_clause c m).literals);
        index = hold-index-within p before empty;
      }

  empty-ready : Ready (sizes_of empty_draft.problem) (take (length empty_draft.problem.arities) (hold empty_draft.problem before).arities) (hold empty_draft.problem before).index
  unfolding sizes_of empty_draft joined goal_atoms distinct counted
  empty-ready =
      record {
        constants = omega arith;
        symbols = omega arith;
        declared = omega arith;
        arity = λ i. omega arith;
        rules = omega arith;
        counted = omega arith;
        clauses = omega arith;
        atoms = omega arith;
        literals = omega arith;
        index = hold-index-within empty_draft.problem before empty;
      }

  pub draft-ready : (d : Draft) → Started d → Ready (sizes_of d.problem) (take (length d.problem.arities) (hold d.problem before).arities) (hold d.problem before).index
  draft-ready d (inr b) = limits-ready d.problem b.limits b.from_lines
  draft-ready d (inl q) =
      subst (λ (e : Draft). Ready (sizes_of e.problem) (take (length e.problem.arities) (hold e.problem before).arities) (hold e.problem before).index) (sym q) empty-ready

  started-symbols : (d : Draft) → Started d → length d.problem.arities ≤ 16
  unfolding sizes_of
  started-symbols d i = (draft-ready d i).symbols

  -- ── a line of each kind ──

  -- what the questions come to, what the reader answers, and what the arrays hold then
  abbrev pub LineNext : Asked Problem → Result Sizes Question → Arrays → Type 0
  LineNext (no q) r after = Refuses r q
  LineNext (yes p) r after = (r ≡ Ok (sizes_of p)) × (after ≡ hold p before)

  constants-next : (p : Problem) (m : Asked ℕ) (r : Result Sizes Question) (after : Arrays) → ConstantsHeld m r (sizes_of p) (hold p before) after
      → LineNext (m >>= λ n. yes (with_constants p n)) r after
  unfolding ◌>>=◌ sizes_of more_constants with_constants hold
  constants-next p (no q) r after h = h
  constants-next p (yes n) r after h = h

  symbol-next : (p : Problem) (m : Asked ℕ) (r : Result Sizes Question) (after : Arrays) → SymbolHeld m r (sizes_of p) (hold p before) after
      → LineNext (m >>= λ n. yes (with_symbol p n)) r after
  unfolding ◌>>=◌ sizes_of more_symbols with_symbol with_arities
  symbol-next p (no q) r after h = h
  symbol-next p (yes n) r after h = (h.0 ∙ ap (λ k. Ok (with-symbols k)) (sym (length-append p.arities (n ∷ []))), h.1 ∙ hold-symbol p before n)
    where
      with-symbols : ℕ → Sizes
      with-symbols k = record { constants = p.constants; symbols = k; rules = length p.rules; counted = counted p.rule_lines; clauses = length p.clauses; atoms = length (goal_atoms p.clauses); literals = length (joined (λ (c : Clause). c) p.clauses) }

  line-sizes : (p : Problem) (l : RuleLine) → more_rules l (sizes_of p) ≡ sizes_of (with_line p l)
  unfolding more_rules sizes_of with_line
  line-sizes p l = cc (length-append p.rules (rules_of l), counted-more p.rule_lines l)

  rule-next : {A : Type 0} (line : A → RuleLine) (p : Problem) (m : Asked A) (r : Result Sizes Question) (after : Arrays) → RuleHeld line m r (sizes_of p) (hold p before) after
      → LineNext (m >>= λ x. yes (with_line p (line x))) r after
  unfolding ◌>>=◌ sizes_of with_rules
  rule-next line p (no q) r after h = h
  rule-next line p (yes x) r after h = (h.0 ∙ ap Ok (line-sizes p (line x)), h.1 ∙ hold-line p before (line x))

  clause-sizes : (p : Problem) (c : Clause) → more_clauses (entered_of (with_clause p c) before) (sizes_of p) ≡ sizes_of (with_clause p c)
  unfolding more_clauses sizes_of with_clause
  clause-sizes p c = ap with-clauses (sym (length-append p.clauses (c ∷ [])))
    where
      with-clauses : ℕ → Sizes
      with-clauses k = record { constants = p.constants; symbols = length p.arities; rules = length p.rules; counted = counted p.rule_lines; clauses = k; atoms = length (goal_atoms (p.clauses ++ (c ∷ []))); literals = length (joined (λ (x : Clause). x) (p.clauses ++ (c ∷ []))) }

  -- the answer and the arrays once the clause has entered
  entered-next : (p : Problem) (c : Clause) (e : Entered) → e ≡ entered_of (with_clause p c) before → (r : Result Sizes Question) (after : Arrays) (ends : ℕ)
      → ends ≡ length (joined (λ (x : Clause). x) (with_clause p c).clauses)
      → r ≡ clause_answer e (sizes_of p)
      → after ≡ with_entered (hold p before) (set (hold p before).starts (length p.clauses + 1) ends) e
      → LineNext (ask 13 (leb (length (goal_atoms (with_clause p c).clauses)) 64) >> yes (with_clause p c)) r after
  unfolding ◌>>◌ ask clause_answer with_entered
  entered-next p c e q r after ends f h g =
      by-test (leb (length (goal_atoms (with_clause p c).clauses)) 64)
      (λ t. rw (t, ask) (h ∙ ap answer q ∙ rw (t, clause_answer) (ap Ok (clause-sizes p c)), g ∙ rw (f ∙ ap (λ (x : Entered). x.count) (sym q)) (hold-clause p before c e q)))
      (λ t. rw (t, ask) (let no_room : r ≡ Err Goals = h ∙ ap answer q ∙ rw (t, clause_answer) refl in rw no_room refl))
    where
      answer : Entered → Result Sizes Question
      answer x = clause_answer x (sizes_of p)

  clause-next : (p : Problem) → Encodable p → (m : Asked Clause) → ((c : Clause) → m ≡ yes c → (l : Literal) → l ∈ c → LiteralLimits p l)
      → (r : Result Sizes Question) (after : Arrays) → ClauseEntersHeld m r (sizes_of p) (hold p before) after
      → LineNext (m >>= λ c. ask 13 (leb (length (goal_atoms (with_clause p c).clauses)) 64) >> yes (with_clause p c)) r after
  unfolding ◌>>=◌ sizes_of clause_entered
  clause-next p limits (no q) keeps r after h = h
  clause-next p limits (yes c) keeps r after h =
      entered-next p c (clause_entered c (sizes_of p) (hold p before).literals (hold p before).table (hold p before).index)
      (clause-held p limits before empty c (keeps c refl) (slot_words (map as_pattern c)) [] (sym (append-nil (slot_words (map as_pattern c)))))
      r after (length (joined (λ (x : Clause). x) p.clauses) + length c) (sym (literals-more p c)) h.0 h.1

  -- ── a line of any kind ──

  started-encodable : (d : Draft) → Started d → Encodable d.problem
  started-encodable d (inr b) = limits-encodable d.problem b.limits
  started-encodable d (inl q) = subst (λ (e : Draft). Encodable e.problem) (sym q) nothing
    where
      nothing : Encodable empty_draft.problem
      nothing = unfold empty_draft in record { codes = record { few = omega arith; symbols = omega arith; each_arity = λ n m. absurd (Memᴰ.not-nil m) }; literals = λ c m. absurd (Memᴰ.not-nil m) }

  kind-next : (d : Draft) → Started d → (k : ℕ) (ns : List Number) (r : Result Sizes Question) (after : Arrays)
      → LineHeld k ns r (sizes_of d.problem) (hold d.problem before) after → LineNext (line_of_kind k d.problem ns) r after
  unfolding line_of_kind constants_line symbol_line rule_line two_way_line clause_line sizes_of
  kind-next d i k ns r after h =
      by-test (eqb k 1)
      (λ one. rw (one, line_of_kind) (constants-next p (constants_asked ns) r after (rw (one, LineHeld) at h)))
      (λ one. by-test (eqb k 2)
      (λ two. rw (one, two, line_of_kind) (symbol-next p (arity_asked (length p.arities) ns) r after (rw (one, two, LineHeld) at h)))
      (λ two. by-test (eqb k 3)
      (λ three.
      rw (one, two, three, line_of_kind)
      (rule-next one_way p (rule_asked p.constants p.arities (counted p.rule_lines) ns) r after (rw (one, two, three, held, LineHeld) at h)))
      (λ three. by-test (eqb k 8)
      (λ eight.
      rw (one, two, three, eight, line_of_kind)
      (rule-next two_way p (two_way_asked p.constants p.arities (counted p.rule_lines) ns) r after (rw (one, two, three, eight, held, LineHeld) at h)))
      (λ eight.
      rw (one, two, three, eight, line_of_kind)
      (clause-next p (started-encodable d i) (clause_asked p.constants p.arities (length p.clauses) ns)
      (λ c e. (clause-asked-limits p ns c e).each_literal)
      r after (rw (one, two, three, eight, held, LineHeld) at h))))))
    where
      p : Problem
      p = d.problem

      held : take (length p.arities) (hold p before).arities ≡ p.arities
      held = held-arities p (started-symbols d i)

-- ── the questions of a line, from the columns on ──

-- 4 to 7, and then the others
after-start : (d : Draft) (l : Line) → read_line d l ≡ (start_of d.before l >>= λ k. line_of_kind k.found d.problem k.left >>= λ p. yes (record { before = k.found; problem = p }))
unfolding read_line start_of ◌>>=◌
after-start d l = by-asked (columns_asked l) (λ q e. cc) (λ ns e. cc)

-- one of 4 to 7 is answered no
pub start-refused : (d : Draft) (l : Line) (q : ℕ) → start_of d.before l ≡ no q → read_line d l ≡ no q
unfolding ◌>>=◌
start-refused d l q e = cc (after-start d l)

kind-found : (d : Draft) (l : Line) (k : ℕ) (ns : List Number) → start_of d.before l ≡ yes (record { found = k; left = ns })
    → read_line d l ≡ (line_of_kind k d.problem ns >>= λ p. yes (record { before = k; problem = p }))
unfolding ◌>>=◌
kind-found d l k ns e = cc (after-start d l)

module _ (before : Arrays) (empty : before.index ≡ empty_index) (wide : length before.arities ≡ 16) where
  -- what a line comes to, what the reader answers, and what the arrays hold then
  abbrev pub LineEnds : Asked Draft → ℕ → Result Sizes Question → Arrays → Type 0
  LineEnds (no q) k r after = Refuses r q
  LineEnds (yes e) k r after = (e.before ≡ k) × (r ≡ Ok (sizes_of e.problem)) × (after ≡ hold e.problem before)

  pub line-ends : (d : Draft) → Started d → (l : Line) (k : ℕ) (ns : List Number) → start_of d.before l ≡ yes (record { found = k; left = ns })
      → (r : Result Sizes Question) (after : Arrays) → LineHeld k ns r (sizes_of d.problem) (hold d.problem before) after → LineEnds (read_line d l) k r after
  line-ends d i l k ns e r after h =
      rw (kind-found d l k ns e) (from (line_of_kind k d.problem ns) (kind-next before empty wide d i k ns r after h))
    where
      from : (m : Asked Problem) → LineNext before empty wide m r after → LineEnds (m >>= λ p. yes (record { before = k; problem = p })) k r after
      from (no q) g = unfold ◌>>=◌ in g
      from (yes p) g = unfold ◌>>=◌ in (refl, g.0, g.1)
