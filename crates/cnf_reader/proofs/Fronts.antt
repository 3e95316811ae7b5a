-- What stands at the front of a text: what std says of a prefix and of a digit, as the definitions have it. Assumes nothing.
use Rattle.std.proofs.Common.{◌≡◌, refl, sym, ◌∙◌, ap, ℕ, ◌+◌, ◌*◌, ◌-◌, inl, inr, true, false, nat_eq, List, [], ◌∷◌, length, take, drop, Option, Some, None, MatchOption, arith, ne_eqb}
use Rattle.std.proofs.lemmas.Bool.{false≢true}
use Rattle.std.specs.Cmp.Lexicographic.{pointwise}
use Rattle.std.specs.Char.{IsAsciiDigit, IsNotAsciiDigit}
use Rattle.definitions.specs.Sheet.{is_digit}
use Rattle.definitions.specs.Questions.{no, yes, ◌>>=◌, ◌>>◌, ask}
use Rattle.definitions.specs.Dimacs.{Front, front, expect, expects, more_digits, decimal_at}
use Rattle.theory.specs.Tests.{by-test, and_left, and_right}
use Rattle.theory.specs.CnfText.{digit_low, digit-high, digit-among}

module _ (q : ℕ) where
  prefix-read : (bs xs : List ℕ) → pointwise nat_eq (take (length bs) xs) bs ≡ true → expects q bs xs ≡ yes (drop (length bs) xs)
  unfolding expects expect ◌>>=◌ ◌>>◌ ask
  prefix-read [] xs h = refl
  prefix-read (b ∷ bs) [] h = absurd (false≢true h)
  prefix-read (b ∷ bs) (x ∷ xs) h =
      let first = and_left (nat_eq x b) (pointwise nat_eq (take (length bs) xs) bs) h in
      let others = and_right (nat_eq x b) (pointwise nat_eq (take (length bs) xs) bs) h in
      rw first (prefix-read bs xs others)

  prefix-none : (bs xs : List ℕ) → pointwise nat_eq (take (length bs) xs) bs ≡ false → expects q bs xs ≡ no q
  unfolding expects expect ◌>>=◌ ◌>>◌ ask
  prefix-none [] xs h = absurd (false≢true (sym h))
  prefix-none (b ∷ bs) [] h = refl
  prefix-none (b ∷ bs) (x ∷ xs) h =
      by-test (nat_eq x b)
      (λ t. rw t (prefix-none bs xs (rw t at h)))
      (λ f. rw f)

  -- what `strip_prefix` hands back
  pub prefix-cases : {R : Type 0} (now : R → List ℕ) (r : Option R) (bs xs : List ℕ)
      → MatchOption r (pointwise nat_eq (take (length bs) xs) bs ≡ false)
      (λ x. (pointwise nat_eq (take (length bs) xs) bs ≡ true) × (now x ≡ drop (length bs) xs) × (length (now x) + length bs ≡ length xs))
      → MatchOption r (expects q bs xs ≡ no q) (λ x. expects q bs xs ≡ yes (now x))
  prefix-cases now None bs xs h = prefix-none bs xs h
  prefix-cases now (Some x) bs xs h = rw h.1 (prefix-read bs xs h.0)

not_digit : (b : ℕ) → IsNotAsciiDigit b → is_digit b ≡ false
not_digit b (inl l) = digit_low b l
not_digit b (inr h) = digit-high b h

module _ (n b : ℕ) (bs : List ℕ) where
  pub digit-more : IsAsciiDigit b → more_digits 1 n (b ∷ bs) ≡ front (n * 10 + (b - 48)) bs
  unfolding more_digits
  digit-more h = cc (digit-among b h.0 h.1)

  pub digit-none : IsNotAsciiDigit b → more_digits 1 n (b ∷ bs) ≡ front n (b ∷ bs)
  unfolding more_digits
  digit-none h = cc (not_digit b h)

pub digit-end : (n : ℕ) (xs : List ℕ) → length xs ≡ 0 → more_digits 1 n xs ≡ front n xs
unfolding more_digits
digit-end n [] h = refl
digit-end n (x ∷ xs) h = absurd (omega arith)

pub ruleset digits = (digit-more, digit-none, digit-end)

-- a digit, and again one: where none stands the first time, none stands the second time
two_digits : (n : ℕ) (bs : List ℕ) → more_digits 2 n bs ≡ more_digits 1 (more_digits 1 n bs).found (more_digits 1 n bs).behind
unfolding more_digits
two_digits n [] = refl
two_digits n (b ∷ bs) =
    let again : Front ℕ → Front ℕ = λ f. more_digits 1 f.found f.behind in
    by-test (is_digit b)
    (λ e.
    let one : more_digits 1 n (b ∷ bs) ≡ front (n * 10 + (b - 48)) bs = rw (e, more_digits) in
    let two : more_digits 2 n (b ∷ bs) ≡ more_digits 1 (n * 10 + (b - 48)) bs = rw (e, more_digits) in
    two ∙ sym (ap again one))
    (λ e.
    let one : more_digits 1 n (b ∷ bs) ≡ front n (b ∷ bs) = rw (e, more_digits) in
    let two : more_digits 2 n (b ∷ bs) ≡ front n (b ∷ bs) = rw (e, more_digits) in
    two ∙ sym (ap again one ∙ one))

pub decimal-end : (q : ℕ) (xs : List ℕ) → length xs ≡ 0 → decimal_at q xs ≡ no q
unfolding decimal_at
decimal-end q [] h = refl
decimal-end q (x ∷ xs) h = absurd (omega arith)

module _ (q b : ℕ) (bs : List ℕ) where
  pub decimal-none : IsNotAsciiDigit b → decimal_at q (b ∷ bs) ≡ no q
  unfolding decimal_at ◌>>◌ ask
  decimal-none h = rw (not_digit b h)

  pub decimal-zero : b ≡ 48 → decimal_at q (b ∷ bs) ≡ yes (front 0 bs)
  unfolding decimal_at ◌>>◌ ask is_digit
  decimal-zero e = rw e

  pub decimal-digits : IsAsciiDigit b → (b ≡ 48 → ⊥) → (n : ℕ) (rest : List ℕ) → front n rest ≡ more_digits 1 (b - 48) bs
      → decimal_at q (b ∷ bs) ≡ yes (more_digits 1 n rest)
  unfolding decimal_at ◌>>◌ ask
  decimal-digits h not0 n rest two = rw (digit-among b h.0 h.1, ne_eqb b 48 not0, two_digits (b - 48) bs, ← two)

pub ruleset decimals = (decimal-end, decimal-none, decimal-zero, decimal-digits)
