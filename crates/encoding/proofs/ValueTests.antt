-- Values in the code's terms: a sign and its product with a state, as the machine's bits give them, and what each test of a value comes to.
-- Assumes nothing.
use Prim.Native.Nat.{ℕ, zero, suc, ◌-◌, ◌/◌, ◌%◌, ◌^◌, ◌<◌}
use mathlib.Core.Path.{◌≡◌, refl, sym, ap, ◌∙◌, subst}
use mathlib.Core.Bool.{Bool, true, false, not}
use native.Mathlib.Omega.{arith}
use lib.Dec.{eqb}
use lib.IntN.{ℤ, pos, negsuc, neg_ℤ, ◌-ℤ◌, ◌*ℤ◌}
use mir.Syntax.{w8, w32}
use mir.Val.{SFits, to_z, of_z}
use mir.Facts.{sfits_lit, sfits_widen, to_z-of_z}
use Rattle.bits.specs.Bits.{has, has-shift}
use Rattle.definitions.specs.LiteralTest.{Value, true_value, false_value}
use Rattle.theory.specs.TruthLaws.{one-times, minus-one-times}
use Rattle.encoding.specs.Values.{Values, set_place, true_place, bit_in, set_bit, true_bit, put_state, state_of, is_true_value, is_false_value, value_at, unset_at, word_sign, literal_value, true_word, false_word, assigned, unassigned}
use Rattle.encoding.specs.ValueLaws.{bits-true, bits-false, by_sign}

-- ── a sign ──

-- twice a bit, and 1 less twice a bit, as they are computed
abbrev twice : ℕ → ℤ
twice b = to_z w32 2 *ℤ to_z w32 b

abbrev less_twice : ℕ → ℤ
less_twice b = to_z w32 1 -ℤ to_z w32 (of_z w32 (twice b))

pub twice-fits : (b : ℕ) → b < 2 → SFits w32 (twice b)
twice-fits zero l = sfits_lit tt
twice-fits (suc zero) l = sfits_lit tt
twice-fits (suc (suc b)) l = absurd (omega arith)

pub less-twice-fits : (b : ℕ) → b < 2 → SFits w32 (less_twice b)
less-twice-fits zero l = sfits_lit tt
less-twice-fits (suc zero) l = sfits_lit tt
less-twice-fits (suc (suc b)) l = absurd (omega arith)

pub sign-is : (w b : ℕ) → b < 2 → w % 2 ≡ b → to_z w32 (of_z w32 (less_twice b)) ≡ word_sign w
unfolding word_sign
sign-is w zero l e = cc
sign-is w (suc zero) l e = cc
sign-is w (suc (suc b)) l e = absurd (omega arith)

sign_kept : (w : ℕ) → to_z w32 (of_z w32 (word_sign w)) ≡ word_sign w
sign_kept w = by_sign w (λ s. to_z w32 (of_z w32 s) ≡ s) refl refl

-- ── a state ──

-- by both bits, as it is computed
abbrev less_bit : ℕ → ℕ → ℤ
less_bit s t = to_z w32 (of_z w32 (twice t)) -ℤ to_z w32 s

pub state-computed : (s t : ℕ) → s < 2 → t < 2 → SFits w32 (less_bit s t) × (to_z w32 (of_z w32 (less_bit s t)) ≡ state_of (eqb s 1) (eqb t 1))
unfolding state_of
state-computed zero zero k l = (sfits_lit tt, refl)
state-computed zero (suc zero) k l = (sfits_lit tt, refl)
state-computed (suc zero) zero k l = (sfits_lit tt, refl)
state-computed (suc zero) (suc zero) k l = (sfits_lit tt, refl)
state-computed zero (suc (suc t)) k l = absurd (omega arith)
state-computed (suc zero) (suc (suc t)) k l = absurd (omega arith)
state-computed (suc (suc s)) t k l = absurd (omega arith)

-- it is small, so that its product with a sign fits
state-small : (s t : Bool) → SFits w8 (state_of s t)
unfolding state_of
state-small true true = sfits_lit tt
state-small true false = sfits_lit tt
state-small false true = sfits_lit tt
state-small false false = sfits_lit tt

module _ (values : Values) (at : ℕ) {z : Value} (its : z ≡ value_at values at) where
  pub state-fits : SFits w8 z
  unfolding value_at
  state-fits = rw its (state-small (set_bit values at) (true_bit values at))

-- a bit by a shift
pub bit_is : (m c : ℕ) {b : ℕ} → b ≡ m / 2 ^ c % 2 → eqb b 1 ≡ has c m
bit_is m c its = rw its (sym (has-shift c m))

-- ── a product ──

negated_fits : (z : ℤ) → SFits w8 z → SFits w32 (neg_ℤ z)
negated_fits (pos zero) f = sfits_lit tt
negated_fits (pos (suc n)) f = record { sfits = omega (arith, f.sfits) }
negated_fits (negsuc n) f = record { sfits = omega (arith, f.sfits) }

module _ {z : ℤ} (fits : SFits w8 z) (w : ℕ) {s : ℤ} (its : s ≡ word_sign w) where
  times-fits : SFits w32 (word_sign w *ℤ z)
  times-fits = by_sign w (λ x. SFits w32 (x *ℤ z)) (rw (one-times z) (sfits_widen {w = w8} tt fits)) (rw (minus-one-times z) (negated_fits z fits))

  factors : to_z w32 (of_z w32 s) *ℤ to_z w32 (of_z w32 z) ≡ word_sign w *ℤ z
  factors = rw (its, sign_kept w, to_z-of_z {w = w32} (sfits_widen {w = w8} tt fits))

  pub product-fits : SFits w32 (to_z w32 (of_z w32 s) *ℤ to_z w32 (of_z w32 z))
  product-fits = subst (SFits w32) (sym factors) times-fits

  pub product_is : to_z w32 (of_z w32 (to_z w32 (of_z w32 s) *ℤ to_z w32 (of_z w32 z))) ≡ word_sign w *ℤ z
  product_is = to_z-of_z product-fits ∙ factors

-- ── what the code comes to ──

module _ (values : Values) (w at : ℕ) (its : at ≡ w / 2) where
  pub value-is : {v z : Value} → z ≡ value_at values at → v ≡ word_sign w *ℤ z → v ≡ literal_value values w
  unfolding literal_value
  value-is e f = cc

  pub assigned-is : put_state values at 1 (1 - w % 2) ≡ assigned values w
  unfolding assigned
  assigned-is = cc

  pub unassigned-is : put_state values at 0 0 ≡ unassigned values w
  unfolding unassigned
  unassigned-is = cc

module _ (values : Values) (at s : ℕ) (its : eqb s 1 ≡ bit_in values (set_place at) (at % 64)) where
  pub state-read : (t : ℕ) → eqb t 1 ≡ bit_in values (true_place at) (at % 64) → {v : Value} → v ≡ state_of (eqb s 1) (eqb t 1) → v ≡ value_at values at
  unfolding value_at set_bit true_bit
  state-read t e f = f ∙ rw (its, e)

  pub unset-read : s < 2 → eqb s 0 ≡ unset_at values at
  unfolding unset_at set_bit
  unset-read l = none s l ∙ ap not its
    where
      none : (b : ℕ) → b < 2 → eqb b 0 ≡ not (eqb b 1)
      none zero k = refl
      none (suc zero) k = refl
      none (suc (suc b)) k = absurd (omega arith)

module _ (values : Values) {v : Value} (fits : SFits w32 v) where
  pub true-is : (w : ℕ) → v ≡ literal_value values w → eqb (of_z w32 v) (of_z w32 true_value) ≡ true_word values w
  unfolding true_word
  true-is w its = bits-true fits ∙ ap is_true_value its

  pub false-is : (w : ℕ) → v ≡ literal_value values w → eqb (of_z w32 v) (of_z w32 false_value) ≡ false_word values w
  unfolding false_word
  false-is w its = bits-false fits ∙ ap is_false_value its
