-- What a clause asks for, by its number. At 2 or more it rests. At 0 it is a conflict. At 1 the first word that is not false is the only one and not
-- true, and its place tells whether the clause may set it. Assumes nothing.
use Rattle.std.specs.Prelude.{◌≡◌, Bool, true, false, not, ◌&&◌, ◌||◌, leb, take, drop, ℕ, zero, suc, ◌+◌, ◌-◌, ◌*◌, ◌≤◌, ◌<◌, List, [], ◌∷◌}
use Rattle.std.proofs.Math.Path.{refl, sym, ap}
use Rattle.std.proofs.Common.{◌∙◌, take-take, arith, eqb-true, ltb-false, le-leb}
use Rattle.std.proofs.Math.Dec.{eqb, ltb, leb-suc-zero, leb-suc-suc}
use Rattle.std.proofs.Math.ListN.{length, get_or}
use Rattle.definitions.specs.Lists.{all, filter, distinct}
use Rattle.theory.specs.Tests.{by-test, true-and-false}
use Rattle.theory.specs.ListLaws.{filter-in, filter-all, filter-both}
use Rattle.theory.specs.DistinctLaws.{distinct-length, filter-distinct}
use Rattle.encoding.specs.Values.{Values, literal_value, true_word, false_word}
use Rattle.units.specs.Units.{clause_at, may_set, not_false_words, act_on_words, ClausesFit}
use Rattle.units.specs.declared.UnitAct.TheVariants.{Nothing}
use Rattle.counters.specs.Counters.{count_not_false, count_true, read_whole}
use Rattle.counters.specs.Weights.{false-not-true}

-- how many words stand before the first that is not false
unfoldable pub first_open : Values → List ℕ → ℕ
first_open values [] = 0
first_open values (w ∷ ws) = elim (false_word values w) [ true ↦ suc (first_open values ws) | false ↦ 0 ]

-- clause c may set a word that so many false ones stand before: a goal atom's, or in a logged clause one behind the negated heads
unfoldable pub may_set_at : List ℕ → ℕ → ℕ → ℕ → ℕ → ℕ → Bool
may_set_at heads goal_clauses goals c w before = ltb w (2 * goals) || (not (ltb c goal_clauses) && leb (get_or heads (c - goal_clauses) 0) before)

module _ (values : Values) where
  abbrev pub open_word : ℕ → Bool
  open_word w = not (false_word values w)

  -- ── the words that are left tell the number ──

  abbrev number_of : List ℕ → ℕ
  number_of left = length left + 256 * length (filter (true_word values) left)

  true-open : (w : ℕ) → true_word values w ≡ true → open_word w ≡ true
  unfolding true_word false_word
  true-open w t = by-test (false_word values w) (λ f. true-and-false t (false-not-true (literal_value values w) f)) (λ f. rw f)

  number-left : (ws : List ℕ) → number_of (not_false_words values ws) ≡ read_whole values ws
  unfolding read_whole count_not_false count_true not_false_words
  number-left ws =
      let different = distinct eqb ws in
      ap (λ (true-ones : List ℕ). length (filter open_word different) + 256 * length true-ones)
      (filter-both (true_word values) open_word different ∙ filter-all open_word (filter (true_word values) different) (λ w m. true-open w (filter-in (true_word values) different w m).1))

  left-rests : (may : ℕ → Bool) (left : List ℕ) → 2 ≤ number_of left → act_on_words values may left ≡ Nothing
  unfolding act_on_words filter
  left-rests may [] l = absurd (omega arith)
  left-rests may (w ∷ []) l = by-test (true_word values w) (λ t. rw (t, act_on_words)) (λ t. absurd (let h = rw (t, filter) at l in omega arith))
  left-rests may (w ∷ v ∷ ws) l = refl

  left-none : (left : List ℕ) → number_of left ≡ 0 → left ≡ []
  left-none [] e = refl
  left-none (w ∷ ws) e = absurd (omega arith)

  left_one : (w : ℕ) (ws : List ℕ) → number_of (w ∷ ws) ≡ 1 → (ws ≡ []) × (true_word values w ≡ false)
  unfolding filter
  left_one w [] e = (refl, by-test (true_word values w) (λ t. absurd (let h = rw (t, filter) at e in omega arith)) (λ t. t))
  left_one w (v ∷ ws) e = absurd (omega arith)

  -- ── the first word that is not false ──

  open-first : (ws : List ℕ) → 1 ≤ length (filter open_word ws)
      → (rest : List ℕ) × (first_open values ws < length ws) × (filter open_word ws ≡ get_or ws (first_open values ws) 0 ∷ rest)
  unfolding first_open filter
  open-first [] l = absurd (omega arith)
  open-first (w ∷ ws) l =
      by-test (false_word values w)
      (λ f. let (rest, inside, e) = open-first ws (rw (f, filter) at l) in rw (f, first_open, filter) (rest, omega arith, e))
      (λ f. rw (f, first_open, filter) (filter open_word ws, omega arith, refl))

  -- so it comes first among the different ones
  open-different : (ws : List ℕ) → 1 ≤ length (not_false_words values ws)
      → (rest : List ℕ) × (first_open values ws < length ws) × (not_false_words values ws ≡ get_or ws (first_open values ws) 0 ∷ rest)
  unfolding not_false_words distinct
  open-different ws l =
      let swapped = filter-distinct eqb eqb-true open_word ws in
      let (rest, inside, e) = open-first ws (omega (arith, ap length swapped, distinct-length eqb (filter open_word ws))) in
      (_, inside, sym swapped ∙ ap (distinct eqb) e)

  -- the words before it are false, and it is not
  first-false : (ws : List ℕ) (n : ℕ) → first_open values ws < length ws → all (false_word values) (take n ws) ≡ leb n (first_open values ws)
  unfolding first_open all
  first-false [] n l = absurd (omega arith)
  first-false (w ∷ ws) zero l = sym (le-leb 0 (first_open values (w ∷ ws)) (omega arith))
  first-false (w ∷ ws) (suc n) l =
      by-test (false_word values w)
      (λ f. let less = rw (f, first_open) at l in rw (f, first_open) (first-false ws n (omega arith) ∙ sym (leb-suc-suc n (first_open values ws))))
      (λ f. rw (f, first_open) (sym (leb-suc-zero n)))

  -- ── what the clause asks for ──

  module _ (ws : List ℕ) where
    pub rests : (may : ℕ → Bool) → 2 ≤ read_whole values ws → act_on_words values may (not_false_words values ws) ≡ Nothing
    rests may l = left-rests may (not_false_words values ws) (omega (arith, number-left ws))

    pub zero_left : read_whole values ws ≡ 0 → not_false_words values ws ≡ []
    zero_left e = left-none (not_false_words values ws) (number-left ws ∙ e)

    pub one_left : read_whole values ws ≡ 1
        → (first_open values ws < length ws) × (not_false_words values ws ≡ get_or ws (first_open values ws) 0 ∷ []) × (true_word values (get_or ws (first_open values ws) 0) ≡ false)
    one_left e =
        let number = number-left ws ∙ e in
        let (rest, inside, left) = open-different ws (omega (arith, number)) in
        let (none, unset) = left_one (get_or ws (first_open values ws) 0) rest (rw left at number) in
        (inside, rw none at left, unset)

  -- the words before the first one that is not false tell what the clause may set
  pub may-by-place : {starts literals heads : List ℕ} {given : ℕ} (goals c w : ℕ) → ClausesFit starts literals heads given (c + 1)
      → first_open values (clause_at starts literals c) < length (clause_at starts literals c)
      → may_set values starts literals heads given goals c w ≡ may_set_at heads given goals c w (first_open values (clause_at starts literals c))
  unfolding may_set may_set_at clause_at
  may-by-place {starts} {literals} {heads} {given} goals c w fit inside =
      by-test (ltb c given)
      (λ b. rw b)
      (λ b.
      let h = get_or heads (c - given) 0 in
      let within = fit.heads-inside c (ltb-false c given b) (omega arith) in
      ap (λ (x : Bool). ltb w (2 * goals) || (not (ltb c given) && x))
      (ap (all (false_word values)) (sym (take-take h (get_or starts (c + 1) 0 - get_or starts c 0) (drop (get_or starts c 0) literals) (omega arith)))
      ∙ first-false (clause_at starts literals c) h inside))
