-- How many bytes a number takes in a column: a digit for each place at most, and a field of its own width wherever the number fits. Assumes nothing.
use Rattle.std.specs.Prelude.{ℕ, zero, suc, ◌+◌, ◌/◌, ◌%◌, ◌^◌, ◌<◌, ◌≤◌, ◌≡◌, refl, Bool, true, false, [], ◌∷◌, ◌++◌, ltb, length}
use Rattle.std.proofs.lemmas.Bool.{false≢true}
use Rattle.std.proofs.Common.{pow-suc, arith, length-append, lt-ltb, le-ltb, ltb-true, ltb-false}
use Rattle.std.proofs.lemmas.List.{length-replicate}
use Rattle.definitions.specs.Sheet.{Number, plus}
use Rattle.definitions.specs.Listing.{Field, decimals, signed_decimals, right_justified, field_bytes, narrow, wide}
use Rattle.column.specs.Places.{sign}

module _ (places n : ℕ) where
  pub decimals-last : n < 10 → decimals (suc places) n ≡ (48 + n) ∷ []
  unfolding decimals
  decimals-last h = cc (lt-ltb n 10 h)

  pub decimals-more : 10 ≤ n → decimals (suc places) n ≡ decimals places (n / 10) ++ ((48 + n % 10) ∷ [])
  unfolding decimals
  decimals-more h = cc (le-ltb n 10 h)

-- a number has one digit, or more
by_digits : (n : ℕ) {C : Type 0} → (n < 10 → C) → (10 ≤ n → C) → C
by_digits n {C} one more = by (ltb n 10) refl
  where
    by : (b : Bool) → ltb n 10 ≡ b → C
    by true e = one (ltb-true n 10 e)
    by false e = more (ltb-false n 10 e)

-- there are no more digits than places
pub decimals-fit : (places n : ℕ) → length (decimals places n) ≤ places
unfolding decimals
decimals-fit zero n = omega arith
decimals-fit (suc places) n =
    by_digits n
    (λ one. rw (decimals-last places n one) (omega arith))
    (λ more. rw (decimals-more places n more, length-append) (omega (arith, decimals-fit places (n / 10))))

-- a number below 10 ^ (k + 1) has at most k + 1 digits
pub decimals-below : (places k n : ℕ) → n < 10 ^ suc k → length (decimals places n) ≤ suc k
unfolding decimals
decimals-below zero k n h = omega arith
decimals-below (suc places) zero n h = rw (decimals-last places n (omega (arith, pow-suc 10 0))) (omega arith)
decimals-below (suc places) (suc k) n h =
    by_digits n
    (λ one. rw (decimals-last places n one) (omega arith))
    (λ more. rw (decimals-more places n more, length-append) (omega (arith, decimals-below places k (n / 10) (omega (arith, pow-suc 10 (suc k))))))

-- places for the digits alone are enough
pub decimals-exact : (places n : ℕ) → decimals (length (decimals places n)) n ≡ decimals places n
unfolding decimals
decimals-exact zero n = refl
decimals-exact (suc places) n =
    let own = length (decimals places (n / 10)) in
    let one_more : own + 1 ≡ suc own = omega arith in
    by_digits n
    (λ one. rw (decimals-last places n one) (decimals-last 0 n one))
    (λ more. rw (decimals-more places n more, length-append, one_more, decimals-more own n more, decimals-exact places (n / 10)))

-- a sign, and digits
pub signed_parts : (places : ℕ) (n : Number) → signed_decimals places n ≡ sign n.negative ++ decimals places n.size
unfolding signed_decimals sign
signed_parts places n = parts n.negative
  where
    parts : (b : Bool) → elim b [ true ↦ 45 ∷ decimals places n.size | false ↦ decimals places n.size ] ≡ sign b ++ decimals places n.size
    parts true = refl
    parts false = refl

-- a number fits that has a digit less where it has a sign
pub signed_fit : (k : ℕ) (n : Number) → (n.negative ≡ true → n.size < 10 ^ suc k) → length (signed_decimals (suc (suc k)) n) ≤ suc (suc k)
unfolding sign
signed_fit k n h = rw (signed_parts (suc (suc k)) n, length-append) (fit n.negative h)
  where
    fit : (b : Bool) → (b ≡ true → n.size < 10 ^ suc k) → length (sign b) + length (decimals (suc (suc k)) n.size) ≤ suc (suc k)
    fit true below = omega (arith, decimals-below (suc (suc k)) k n.size (below refl))
    fit false below = omega (arith, decimals-fit (suc (suc k)) n.size)

-- a number that fits takes its column
pub field-length : (f : Field) → length (signed_decimals f.width f.number) ≤ f.width → length (field_bytes f) ≡ f.width
unfolding field_bytes right_justified
field-length f h = rw (length-append, length-replicate) (omega arith)

pub narrow-length : (n : Number) → (n.negative ≡ true → n.size < 1000) → length (field_bytes (narrow n)) ≡ 4
unfolding narrow
narrow-length n h = field-length (narrow n) (signed_fit 2 n h)

pub wide-length : (n : ℕ) → length (field_bytes (wide n)) ≡ 12
unfolding wide plus
wide-length n = field-length (wide n) (signed_fit 10 (plus n) (λ e. absurd (false≢true e)))
