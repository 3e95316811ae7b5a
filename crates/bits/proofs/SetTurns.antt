-- A set of numbers, word by word from some bit on: no number is left in a word, or its lowest bit is the first. Assumes nothing.
use Rattle.std.specs.Prelude.{ℕ, ◌+◌, ◌-◌, ◌*◌, ◌/◌, ◌%◌, ◌^◌, ◌≤◌, ◌<◌, ◌≡◌, true, List, get_or}
use Rattle.std.proofs.Common.{sym, ◌∙◌, ⊎_elim, eq-zero-or-pos, arith}
use Rattle.std.specs.Int.Count.{count_trailing_zeros}
use Rattle.std.proofs.lemmas.Nat.{shr_le}
use Rattle.std.proofs.lemmas.Bool.{false≢true}
use Rattle.bits.specs.Bits.{has, has-zero, has-high, has-lowest, none-lower, has-over, among}
use Rattle.bits.specs.Sets.{NoneBetween}

by_order : (m n : ℕ) {C : Type 0} → (m ≤ n → C) → (n < m → C) → C
by_order m n a b = ⊎_elim (λ e. a (omega arith)) (λ p. b (omega arith)) (eq-zero-or-pos (m - n))

module _ (words : List ℕ) (from i word : ℕ) (is : word ≡ get_or words (i / 64) 0) (so_far : NoneBetween words from i) where
  shifted : (j : ℕ) → i ≤ j → j / 64 ≡ i / 64 → among words j ≡ has (j - i) (word / 2 ^ (i % 64))
  unfolding among
  shifted j l q =
      let e : i % 64 + (j - i) ≡ j % 64 = omega arith in
      rw (q, ← is, has-over (i % 64) (j - i) word, e)

  pub none-here : word / 2 ^ (i % 64) ≡ 0 → NoneBetween words from (64 * (i / 64 + 1))
  none-here z j a b =
      by_order i j
      (λ l. shifted j l (omega arith) ∙ rw z (has-zero (j - i)))
      (λ l. so_far j a l)

  module _ (small : word < 2 ^ 64) (t : ℕ) (some : 0 < word / 2 ^ (i % 64)) (tz : t ≡ count_trailing_zeros 64 (word / 2 ^ (i % 64))) where
    here : has (i % 64 + t) word ≡ true
    here =
        let smaller = shr_le word (i % 64) in
        let below : word / 2 ^ (i % 64) < 2 ^ 64 = omega arith in
        sym (has-over (i % 64) t word) ∙ rw tz (has-lowest 64 (word / 2 ^ (i % 64)) some below)

    pub in-word : i % 64 + t < 64
    in-word = by_order 64 (i % 64 + t) (λ l. absurd (false≢true (sym (has-high (i % 64 + t) 64 word small l) ∙ here))) (λ l. l)

    pub first-here : (from ≤ i → from ≤ i + t) × (among words (i + t) ≡ true) × NoneBetween words from (i + t)
    unfolding among
    first-here =
        let w = in-word in
        let bit : (i + t) % 64 ≡ i % 64 + t = omega arith in
        let at : (i + t) / 64 ≡ i / 64 = omega arith in (
          λ l. omega arith,
          rw (bit, at, ← is) here,
          λ j a b. by_order i j
              (λ l.
              let s : j - i < count_trailing_zeros 64 (word / 2 ^ (i % 64)) = omega arith in
              shifted j l (omega arith) ∙ none-lower 64 (j - i) (word / 2 ^ (i % 64)) s)
              (λ l. so_far j a l),
        )
