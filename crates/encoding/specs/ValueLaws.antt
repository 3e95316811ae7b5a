-- The tests of a value, a literal's sign, and the states of atoms once a literal is set or unset. Assumes nothing.
use Rattle.std.specs.Prelude.{ℕ, ◌+◌, ◌-◌, ◌*◌, ◌/◌, ◌%◌, ◌<◌, ◌≡◌, refl, true, false, eqb, ℤ, pos, negsuc, length}
use Rattle.std.proofs.Common.{sym, ap, ◌∙◌, eq-eqb, ne_eqb, eqb-true, SFits, to_z, of_z, to_z-of_z}
use native.Mathlib.Omega.{arith}
use Rattle.std.proofs.lemmas.List.{length-replicate}
use Rattle.std.proofs.lemmas.Bool.{eqb-false}
use Rattle.std.specs.Int.{w32}
use Rattle.std.proofs.Math.Facts.{sfits_lit}
use Rattle.definitions.specs.LiteralTest.{Value, unset_value, true_value, false_value}
use Rattle.theory.specs.Tests.{by-test}
use Rattle.encoding.specs.ArrayLaws.{get_d-repeated}
use Rattle.bits.specs.Bits.{has-zero}
use Rattle.encoding.specs.Values.{Values, same_value, is_true_value, is_false_value, set_place, true_place, set_bit, true_bit, state_of, value_at, word_sign, other_sign, no_values, assigned, unassigned}
use Rattle.encoding.specs.StateWords.{state-here, state-elsewhere, length-put, taken-either}

-- ── the tests of a value, by its bits: they are what the machine compares ──

same-value : (v u : Value) → v ≡ u → same_value v u ≡ true
unfolding same_value
same-value v u e = rw e (itself u)
  where
    itself : (u : Value) → same_value u u ≡ true
    itself (pos n) = eq-eqb n n refl
    itself (negsuc n) = eq-eqb n n refl

other-value : (v u : Value) → (v ≡ u → ⊥) → same_value v u ≡ false
unfolding same_value
other-value (pos m) (pos n) other = ne_eqb m n (λ e. other (ap pos e))
other-value (pos m) (negsuc n) other = refl
other-value (negsuc m) (pos n) other = refl
other-value (negsuc m) (negsuc n) other = ne_eqb m n (λ e. other (ap negsuc e))

module _ {v : Value} (fits : SFits w32 v) where
  module _ (u : Value) (its : SFits w32 u) where
    bits-equal : of_z w32 v ≡ of_z w32 u → v ≡ u
    bits-equal e = sym (to_z-of_z fits) ∙ ap (to_z w32) e ∙ to_z-of_z its

    bits-same : eqb (of_z w32 v) (of_z w32 u) ≡ same_value v u
    bits-same =
        by-test (eqb (of_z w32 v) (of_z w32 u))
        (λ e. e ∙ sym (same-value v u (bits-equal (eqb-true (of_z w32 v) (of_z w32 u) e))))
        (λ e. e ∙ sym (other-value v u (λ q. eqb-false (of_z w32 v) (of_z w32 u) e (ap (of_z w32) q))))

  pub bits-true : eqb (of_z w32 v) (of_z w32 true_value) ≡ is_true_value v
  unfolding is_true_value
  bits-true = bits-same true_value (sfits_lit tt)

  pub bits-false : eqb (of_z w32 v) (of_z w32 false_value) ≡ is_false_value v
  unfolding is_false_value
  bits-false = bits-same false_value (sfits_lit tt)

-- ── a literal's sign ──

pub even-sign : (w : ℕ) → w % 2 ≡ 0 → word_sign w ≡ pos 1
unfolding word_sign
even-sign w e = cc

pub odd_sign : (w : ℕ) → w % 2 ≡ 1 → word_sign w ≡ negsuc 0
unfolding word_sign
odd_sign w e = cc

-- what holds of 1 and of -1 holds of a sign
pub by_sign : (w : ℕ) (P : ℤ → Type 0) → P (pos 1) → P (negsuc 0) → P (word_sign w)
unfolding word_sign
by_sign w P a b = by-test (eqb (w % 2) 0) (λ e. rw (e, word_sign) a) (λ e. rw (e, word_sign) b)

pub other-even : (w : ℕ) → w % 2 ≡ 0 → w + 1 ≡ other_sign w
unfolding other_sign
other-even w e = rw (eq-eqb (w % 2) 0 e, other_sign)

pub other-odd : (w : ℕ) → (w % 2 ≡ 0 → ⊥) → w - 1 ≡ other_sign w
unfolding other_sign
other-odd w n = rw (ne_eqb (w % 2) 0 n, other_sign)

-- ── setting and unsetting ──

module _ (values : Values) (p : ℕ) (inside : p < 256) (size : length values ≡ 8) where
  pub assigned-even : value_at (assigned values (2 * p)) p ≡ true_value
  unfolding assigned state_of
  assigned-even =
      let f : (2 * p) / 2 ≡ p = omega arith in
      let g : 1 - (2 * p) % 2 ≡ 1 = omega arith in
      rw (f, g) (state-here values p 1 1 (omega arith) (omega arith) inside size)

  pub assigned-odd : value_at (assigned values (2 * p + 1)) p ≡ false_value
  unfolding assigned state_of
  assigned-odd =
      let f : (2 * p + 1) / 2 ≡ p = omega arith in
      let g : 1 - (2 * p + 1) % 2 ≡ 0 = omega arith in
      rw (f, g) (state-here values p 1 0 (omega arith) (omega arith) inside size)

  pub unassigned-here : (w : ℕ) → w / 2 ≡ p → value_at (unassigned values w) p ≡ unset_value
  unfolding unassigned state_of
  unassigned-here w q = rw q (state-here values p 0 0 (omega arith) (omega arith) inside size)

module _ (values : Values) (w : ℕ) where
  pub assigned-elsewhere : (i : ℕ) → (w / 2 ≡ i → ⊥) → value_at (assigned values w) i ≡ value_at values i
  unfolding assigned
  assigned-elsewhere i other = state-elsewhere values (w / 2) 1 (1 - w % 2) (omega arith) (omega arith) i other

  pub unassigned-elsewhere : (i : ℕ) → (w / 2 ≡ i → ⊥) → value_at (unassigned values w) i ≡ value_at values i
  unfolding unassigned
  unassigned-elsewhere i other = state-elsewhere values (w / 2) 0 0 (omega arith) (omega arith) i other

  pub length-assigned : length (assigned values w) ≡ length values
  unfolding assigned
  length-assigned = length-put values (w / 2) 1 (1 - w % 2)

  pub length-unassigned : length (unassigned values w) ≡ length values
  unfolding unassigned
  length-unassigned = length-put values (w / 2) 0 0

-- atoms are unset in any order
pub unassigned-either : (values : Values) (v w : ℕ) → unassigned (unassigned values v) w ≡ unassigned (unassigned values w) v
unfolding unassigned
unassigned-either values v w = taken-either values (v / 2) (w / 2)

pub length_none : length no_values ≡ 8
length_none = length-replicate {A = ℕ} 8 0

pub no_value : (p : ℕ) → value_at no_values p ≡ unset_value
unfolding value_at set_bit true_bit state_of
no_value p = rw (get_d-repeated {A = ℕ} 0 8 (set_place p), get_d-repeated {A = ℕ} 0 8 (true_place p), has-zero (p % 64))
