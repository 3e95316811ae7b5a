-- The arrays that `counters_of` names are those that hold place by place what `PlacesKept` says, and no others. Assumes nothing.
use Rattle.std.specs.Prelude.{ℕ, ◌+◌, ◌*◌, ◌/◌, ◌%◌, ◌^◌, ◌≤◌, ◌<◌, ◌≡◌, refl, Bool, ◌&&◌, ltb, length, replicate, List, map}
use Rattle.std.proofs.Math.Path.{sym, ap}
use Rattle.std.proofs.Common.{◌∙◌, zero-add, pow_pos, ext_get_or, lt-ltb, le-ltb, arith}
use Rattle.std.proofs.Math.ListN.{get_or, get_or-eq_default}
use Rattle.std.proofs.lemmas.List.{length-map}
use Rattle.definitions.specs.Lists.{up_from}
use Rattle.theory.specs.Tests.{by-test}
use Rattle.theory.specs.PlaceLaws.{get_d-places}
use Rattle.bits.specs.Bits.{has, packed, has-packed, packed-below, packed-only, among}
use Rattle.encoding.specs.CountLaws.{length-up_from, by_order}
use Rattle.encoding.specs.Values.{Values}
use Rattle.counters.specs.Counters.{read_whole, number_asks, row_bit, number, ask_bit, counters_of, counters, row_at}
use Rattle.counters.specs.declared.Counters.{Counters}
use Rattle.counters.specs.Weights.{once, weighs, whole-is-once}
use Rattle.counters.specs.PlacesKept.{PlacesKept, kept_same, kept-none}

-- ── an array given by its places ──

module _ (g : ℕ → ℕ) where
  at_place : (n i : ℕ) → i < n → get_or (map g (up_from 0 n)) i 0 ≡ g i
  at_place n i l = get_d-places g 0 0 n i l ∙ ap g (zero-add i)

  length-places : (n : ℕ) → length (map g (up_from 0 n)) ≡ n
  length-places n = length-map (up_from 0 n) g ∙ length-up_from 0 n

  -- an array of that size that agrees at each place is that array
  by-places : (n : ℕ) (l : List ℕ) → length l ≡ n → ((i : ℕ) → i < n → get_or l i 0 ≡ g i) → l ≡ map g (up_from 0 n)
  by-places n l size h =
      ext_get_or 0 l (map g (up_from 0 n)) (size ∙ sym (length-places n)) (λ i b. let c : i < n = omega arith in h i c ∙ sym (at_place n i c))

-- an array of words of 64 bits
module _ (bit : ℕ → ℕ → Bool) (n : ℕ) where
  abbrev word_at : ℕ → ℕ
  word_at i = packed 64 (λ (j : ℕ). bit i j)

  abbrev words : List ℕ
  words = map (λ (i : ℕ). packed 64 (λ (j : ℕ). bit i j)) (up_from 0 n)

  has_words : (i j : ℕ) → i < n → j < 64 → has j (get_or words i 0) ≡ bit i j
  has_words i j l m = ap (has j) (at_place word_at n i l) ∙ has-packed 64 (λ (j : ℕ). bit i j) j m

  words-below : (i : ℕ) → get_or words i 0 < 2 ^ 64
  words-below i =
      by_order n i
      (λ l. rw (get_or-eq_default words 0 {n = i} (rw (length-places word_at n) l)) (pow_pos 64))
      (λ l. rw (at_place word_at n i l) (packed-below 64 (λ (j : ℕ). bit i j)))

  by_bits : (l : List ℕ) → length l ≡ n → ((i : ℕ) → get_or l i 0 < 2 ^ 64) → ((i j : ℕ) → i < n → j < 64 → has j (get_or l i 0) ≡ bit i j)
      → l ≡ words
  by_bits l size below h = by-places word_at n l size (λ i b. packed-only 64 (get_or l i 0) (λ (j : ℕ). bit i j) (below i) (λ j c. h i j b c))

-- ── the counters ──

module _ (values : Values) (clause : ℕ → List ℕ) (clauses : ℕ) where
  abbrev row_bits : ℕ → ℕ → Bool
  row_bits i j = row_bit clause clauses (i / 10) (64 * (i % 10) + j)

  abbrev ask_bits : ℕ → ℕ → Bool
  ask_bits i j = ask_bit values clause clauses (64 * i + j)

  abbrev numbers : ℕ → ℕ
  numbers c = number values clause clauses c

  pub number-here : (c : ℕ) → c < clauses → number values clause clauses c ≡ read_whole values (clause c)
  unfolding number
  number-here c l = rw (lt-ltb c clauses l, number)

  number-inside : (c : ℕ) → c < clauses → number values clause clauses c ≡ once (weighs values) (clause c)
  number-inside c l = number-here c l ∙ whole-is-once values (clause c)

  number_behind : (c : ℕ) → clauses ≤ c → number values clause clauses c ≡ 0
  unfolding number
  number_behind c l = rw (le-ltb c clauses l, number)

  -- a clause asks by its number
  ask-number : (c : ℕ) {n : ℕ} → n ≡ number values clause clauses c → (ltb c clauses && number_asks n) ≡ ask_bit values clause clauses c
  unfolding ask_bit number
  ask-number c e = by-test (ltb c clauses) (λ b. rw (e, b, number)) (λ b. rw b)

  pub ask-inside : clauses ≤ 640 → (c : ℕ) → c < clauses → among (counters_of values clause clauses).asking c ≡ number_asks (read_whole values (clause c))
  unfolding counters_of among ask_bit
  ask-inside few c l =
      let place : 64 * (c / 64) + c % 64 ≡ c = omega arith in
      (rw place at (has_words ask_bits 10 (c / 64) (c % 64) (omega arith) (omega arith))) ∙ rw (lt-ltb c clauses l)

  module _ {rows counts asking : List ℕ} where
    pub kept-counters : PlacesKept (weighs values) clause clauses rows counts asking → counters rows counts asking ≡ counters_of values clause clauses
    unfolding counters_of row_at among row_bit
    kept-counters k = rw (rowed, counted, its-asking)
      where
        rowed : rows ≡ words row_bits 5120
        rowed =
            by_bits row_bits 5120 rows k.sizes.2 k.below.0
            (λ i j b c.
            let word : 10 * (i / 10) + (64 * (i % 10) + j) / 64 ≡ i = omega arith in
            let bit : (64 * (i % 10) + j) % 64 ≡ j = omega arith in
            (rw (word, bit) at (k.held (i / 10) (64 * (i % 10) + j) (omega arith) (omega arith))))

        numbered : (c : ℕ) → c < 640 → get_or counts c 0 ≡ number values clause clauses c
        numbered c l = by_order clauses c (λ b. k.free c b l ∙ sym (number_behind c b)) (λ b. k.count c b ∙ sym (number-inside c b))

        counted : counts ≡ map numbers (up_from 0 640)
        counted = by-places numbers 640 counts k.sizes.0 numbered

        its-asking : asking ≡ words ask_bits 10
        its-asking =
            by_bits ask_bits 10 asking k.sizes.1 k.below.1
            (λ i j b c.
            let word : (64 * i + j) / 64 ≡ i = omega arith in
            let bit : (64 * i + j) % 64 ≡ j = omega arith in
            (rw (word, bit) at (k.asks (64 * i + j) (omega arith))) ∙ ask-number (64 * i + j) (numbered (64 * i + j) (omega arith)))

    pub counters-kept : clauses ≤ 640 → counters rows counts asking ≡ counters_of values clause clauses → PlacesKept (weighs values) clause clauses rows counts asking
    unfolding counters_of row_at among row_bit
    counters-kept few e =
        let rowed : rows ≡ words row_bits 5120 = ap (λ (x : Counters). x.rows) e in
        let counted : counts ≡ map numbers (up_from 0 640) = ap (λ (x : Counters). x.counts) e in
        let its-asking : asking ≡ words ask_bits 10 = ap (λ (x : Counters). x.asking) e in
        let numbered : (c : ℕ) → c < 640 → get_or counts c 0 ≡ number values clause clauses c = λ c l. rw counted (at_place numbers 640 c l) in
        record {
          few = few;
          sizes = (rw counted (length-places numbers 640), rw its-asking (length-places (word_at ask_bits 10) 10), rw rowed (length-places (word_at row_bits 5120) 5120));
          below = (rw rowed (words-below row_bits 5120), rw its-asking (words-below ask_bits 10));
          held = λ x c l m.
              let word : (10 * x + c / 64) / 10 ≡ x = omega arith in
              let bit : 64 * ((10 * x + c / 64) % 10) + c % 64 ≡ c = omega arith in
              rw rowed (rw (word, bit) at (has_words row_bits 5120 (10 * x + c / 64) (c % 64) (omega arith) (omega arith)));
          count = λ c l. numbered c (omega arith) ∙ number-inside c l;
          free = λ c l m. numbered c m ∙ number_behind c l;
          asks = λ c l.
              let bit : 64 * (c / 64) + c % 64 ≡ c = omega arith in
              rw its-asking (rw bit at (has_words ask_bits 10 (c / 64) (c % 64) (omega arith) (omega arith))) ∙ sym (ask-number c (numbered c l));
        }

-- words behind the clauses don't matter
pub counters-same : (values : Values) (clause clause' : ℕ → List ℕ) (clauses : ℕ) → clauses ≤ 640 → ((c : ℕ) → c < clauses → clause c ≡ clause' c)
    → counters_of values clause clauses ≡ counters_of values clause' clauses
unfolding counters_of
counters-same values clause clause' clauses few h =
    kept-counters values clause' clauses (kept_same h (counters-kept values clause clauses few refl))

-- with no clauses the arrays are all 0
pub counters-none : (values : Values) (clause : ℕ → List ℕ)
    → counters (replicate {A = ℕ} 5120 0) (replicate {A = ℕ} 640 0) (replicate {A = ℕ} 10 0) ≡ counters_of values clause 0
counters-none values clause = kept-counters values clause 0 (kept-none (weighs values) clause)
