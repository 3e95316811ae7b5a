-- The slots that a clause is read into: their words keep the limits, and the clause enters by them.
use Prim.Native.Nat.{ℕ, zero, suc, ◌+◌, ◌*◌, ◌<◌, ◌≤◌}
use Rattle.std.specs.Prelude.{◌≡◌, refl, false, not, get_or, take}
use Rattle.std.proofs.Common.{sym, ◌∙◌, ap, arith, get_or-append-add}
use mathlib.Core.List.Memᴰ
use mathlib.Core.List.{List, [], ◌∷◌, ◌++◌, map}
use Rattle.std.proofs.Math.ListN.{length, replicate, get_or-append}
use Rattle.std.proofs.Math.Seq.{get_or-take}
use Rattle.definitions.specs.Lists.{joined}
use Rattle.definitions.specs.Words.{Term, constant, Pattern}
use Rattle.definitions.specs.Instances.{term_value, ground}
use Rattle.theory.specs.ListLaws.{Each}
use Rattle.encoding.specs.Slots.{as_pattern, term_word, term_words, pattern_words, slot_words}
use Rattle.literals.specs.SlotReadLaws.{TermInRange, constant-only, PatternRead}
use Rattle.encoding.specs.SlotLaws.{term_words-length, pattern-length}
use Rattle.encoding.specs.Signs.{word_of-half}
use Rattle.literals.specs.Entering.{ClauseSlot, ClauseSlots, slot_code, Entered, enter_slots}

-- ── the limits ──

module _ (constants : ℕ) (few : constants ≤ 32) where
  term-small : (t : Term) → TermInRange false constants t → term_word t ≤ 38
  unfolding term_word
  term-small t h = let (c, e, low, high) = constant-only constants t h in rw e (omega arith)

  padded-small : (ts : List Term) (k i : ℕ) → Each (TermInRange false constants) ts → get_or (map term_word ts ++ replicate k 0) i 0 ≤ 38
  padded-small [] k i h = zeros-small k i
    where
      zeros-small : (k i : ℕ) → get_or (replicate k 0) i 0 ≤ 38
      zeros-small zero i = omega arith
      zeros-small (suc k) zero = omega arith
      zeros-small (suc k) (suc i) = zeros-small k i
  padded-small (t ∷ ts) k zero h = term-small t (h t (Memᴰ.head refl))
  padded-small (t ∷ ts) k (suc i) h = padded-small ts k i (λ u m. h u (Memᴰ.tail m))

  terms-small : (ts : List Term) (rest : List ℕ) (i : ℕ) → i < 3 → Each (TermInRange false constants) ts → get_or (term_words ts ++ rest) i 0 ≤ 38
  unfolding term_words
  terms-small ts rest i l h =
      rw (get_or-append (term_words ts) rest 0 i (omega (arith, term_words-length ts)), get_or-take 3 (map term_word ts ++ replicate 3 0) i 0 l)
      (padded-small ts 3 i h)

  module _ (arities : List ℕ) (declared : length arities ≤ 16) where
    pattern-slot : (x : Pattern) (rest : List ℕ) → PatternRead false constants arities x → ClauseSlot (pattern_words x ++ rest) 0
    unfolding pattern_words
    pattern-slot x rest r =
        let e = word_of-half (not x.positive) x.symbol in
        record {
          symbol = omega (arith, r.symbol);
          declared = omega (arith, r.declared);
          first = terms-small x.terms rest 0 (omega arith) r.in_range;
          second = terms-small x.terms rest 1 (omega arith) r.in_range;
          third = terms-small x.terms rest 2 (omega arith) r.in_range;
        }

-- a slot behind another one
slot-behind : (front rest : List ℕ) (base : ℕ) → ClauseSlot rest base → ClauseSlot (front ++ rest) (length front + base)
slot-behind front rest base s =
    let at : (k : ℕ) → get_or (front ++ rest) (length front + base + k) 0 ≡ get_or rest (base + k) 0 =
    λ k. let e : length front + base + k ≡ length front + (base + k) = omega arith in rw e (get_or-append-add front rest (base + k) 0) in
    let here = get_or-append-add front rest base 0 in
    record {
      symbol = rw here s.symbol;
      declared = rw here s.declared;
      first = rw (at 1) s.first;
      second = rw (at 2) s.second;
      third = rw (at 3) s.third;
    }

-- a slot among the first words
slot-front : (n : ℕ) (slots : List ℕ) (base : ℕ) → base + 3 < n → ClauseSlot (take n slots) base → ClauseSlot slots base
slot-front n slots base h s =
    let at : (k : ℕ) → k < 4 → get_or (take n slots) (base + k) 0 ≡ get_or slots (base + k) 0 = λ k l. get_or-take n slots (base + k) 0 (omega arith) in
    let here = get_or-take n slots base 0 (omega arith) in
    record {
      symbol = rw here at s.symbol;
      declared = rw here at s.declared;
      first = rw (at 1 (omega arith)) at s.first;
      second = rw (at 2 (omega arith)) at s.second;
      third = rw (at 3 (omega arith)) at s.third;
    }

module _ (constants : ℕ) (few : constants ≤ 32) (arities : List ℕ) (declared : length arities ≤ 16) where
  words-limits : (xs : List Pattern) → Each (PatternRead false constants arities) xs → ClauseSlots (slot_words xs) (length xs)
  unfolding slot_words joined
  words-limits [] r i h = absurd (omega arith)
  words-limits (x ∷ xs) r zero h = pattern-slot constants few arities declared x (slot_words xs) (r x (Memᴰ.head refl))
  words-limits (x ∷ xs) r (suc i) h =
      let e : 4 * suc i ≡ length (pattern_words x) + 4 * i = omega (arith, pattern-length x) in
      rw e (slot-behind (pattern_words x) (slot_words xs) (4 * i) (words-limits xs (λ y m. r y (Memᴰ.tail m)) i (omega arith)))

  pub slots-limits : (xs : List Pattern) → Each (PatternRead false constants arities) xs
      → (slots : List ℕ) (count : ℕ) → length xs ≡ count → take (4 * count) slots ≡ slot_words xs → ClauseSlots slots count
  slots-limits xs r slots count l e i h =
      slot-front (4 * count) slots (4 * i) (omega arith) (rw e (words-limits xs r i (omega arith)))

-- ── the clause by its slots ──

-- only the words of the slots count
enter-same : (a b : List ℕ) (i n : ℕ) (e : Entered) → ((j : ℕ) → j < 4 * (i + n) → get_or a j 0 ≡ get_or b j 0) → enter_slots a i n e ≡ enter_slots b i n e
unfolding enter_slots slot_code
enter-same a b i zero e h = refl
enter-same a b i (suc n) e h =
    rw (h (4 * i) (omega arith), h (4 * i + 1) (omega arith), h (4 * i + 2) (omega arith), h (4 * i + 3) (omega arith))
    (enter-same a b (i + 1) n _ (λ j l. h j (omega arith)))

pub enter-front : (slots words : List ℕ) (count : ℕ) (e : Entered) → take (4 * count) slots ≡ words → enter_slots slots 0 count e ≡ enter_slots words 0 count e
enter-front slots words count e h =
    enter-same slots words 0 count e (λ j l. sym (get_or-take (4 * count) slots j 0 (omega arith)) ∙ ap (λ (ws : List ℕ). get_or ws j 0) h)

-- a pattern whose terms are constants is its literal's
constants-kept : (constants : ℕ) (ts : List Term) → Each (TermInRange false constants) ts → map constant (map (term_value []) ts) ≡ ts
unfolding term_value
constants-kept constants [] h = refl
constants-kept constants (t ∷ ts) h =
    let (c, e, low, high) = constant-only constants t (h t (Memᴰ.head refl)) in
    rw (constants-kept constants ts (λ u m. h u (Memᴰ.tail m)), e)

pub patterns-kept : (constants : ℕ) (arities : List ℕ) (xs : List Pattern) → Each (PatternRead false constants arities) xs → map as_pattern (map (ground []) xs) ≡ xs
unfolding as_pattern ground
patterns-kept constants arities [] r = refl
patterns-kept constants arities (x ∷ xs) r =
    rw (constants-kept constants x.terms (r x (Memᴰ.head refl)).in_range, patterns-kept constants arities xs (λ y m. r y (Memᴰ.tail m)))
