-- The states of atoms as bits of words: what both bits of a position are once they are replaced, that no other position's change, that
-- positions may be unset in any order, and that a state tells its bits. Assumes nothing.
use Rattle.std.specs.Prelude.{ℕ, ◌%◌, ◌<◌, ◌≡◌, Bool, not, ◌&&◌, ◌||◌, eqb, ltb, length, get_or}
use Rattle.std.proofs.Math.Path.{refl, ap}
use Rattle.std.proofs.Common.{sym, ◌∙◌, arith, get_or-set_same, get_or-set_other, ext_get_or}
use Rattle.std.proofs.Math.Bool.{true, false, and-true, and-false, and_assoc, and_comm}
use Rattle.std.proofs.Math.ListN.{length-set}
use Rattle.std.proofs.Math.Seq.{set_out}
use borrow.Author.Tests.{eqb-true, eqb-false, ltb-true, ltb-false}
use Rattle.bits.specs.Bits.{has, replace_bit, replaced-here, replaced-elsewhere, same_bits}
use Rattle.definitions.specs.LiteralTest.{Value}
use Rattle.theory.specs.Tests.{by-test}
use Rattle.encoding.specs.Values.{Values, is_true_value, is_false_value, same_value, set_place, true_place, bit_in, set_bit, true_bit, state_of, value_at, store_bit, put_state}

-- ── a bit of a word ──

module _ (values : Values) (at c b : ℕ) where
  length-stored : length (store_bit values at c b) ≡ length values
  unfolding store_bit
  length-stored = length-set values at (replace_bit c b (get_or values at 0))

  module _ (small : b < 2) where
    stored_here : at < length values → bit_in (store_bit values at c b) at c ≡ eqb b 1
    unfolding store_bit
    stored_here inside = ap (has c) (get_or-set_same values at (replace_bit c b (get_or values at 0)) 0 inside) ∙ replaced-here c b (get_or values at 0) small

    -- another bit stays, in whatever word
    stored-elsewhere : (k d : ℕ) → (k ≡ at → c ≡ d → ⊥) → bit_in (store_bit values at c b) k d ≡ bit_in values k d
    unfolding store_bit
    stored-elsewhere k d other =
        by-test (eqb k at)
        (λ e. let q = eqb-true k at e in
        rw q (by-test (ltb at (length values))
        (λ i. ap (has d) (get_or-set_same values at (replace_bit c b (get_or values at 0)) 0 (ltb-true at (length values) i)) ∙ replaced-elsewhere c b (get_or values at 0) small d (other q))
        (λ i. ap (λ (v : Values). bit_in v at d) (set_out values at (replace_bit c b (get_or values at 0)) (ltb-false at (length values) i)))))
        (λ e. ap (has d) (get_or-set_other values at k (replace_bit c b (get_or values at 0)) 0 (eqb-false k at e)))

-- ── both bits of a position ──

module _ (values : Values) (i s t : ℕ) (small : s < 2) (little : t < 2) where
  abbrev first : Values
  first = store_bit values (set_place i) (i % 64) s

  module _ (inside : i < 256) (size : length values ≡ 8) where
    here-set : set_bit (put_state values i s t) i ≡ eqb s 1
    unfolding set_bit put_state
    here-set =
        stored-elsewhere first (true_place i) (i % 64) t little (set_place i) (i % 64) (λ q d. absurd (omega (arith, q)))
        ∙ stored_here values (set_place i) (i % 64) s small (omega arith)

    here-true : true_bit (put_state values i s t) i ≡ eqb t 1
    unfolding true_bit put_state
    here-true = stored_here first (true_place i) (i % 64) t little (omega (arith, length-stored values (set_place i) (i % 64) s))

    pub state-here : value_at (put_state values i s t) i ≡ state_of (eqb s 1) (eqb t 1)
    unfolding value_at
    state-here = rw (here-set, here-true)

  module _ (j : ℕ) (other : i ≡ j → ⊥) where
    there-set : set_bit (put_state values i s t) j ≡ set_bit values j
    unfolding set_bit put_state
    there-set =
        stored-elsewhere first (true_place i) (i % 64) t little (set_place j) (j % 64) (λ q d. absurd (omega (arith, q)))
        ∙ stored-elsewhere values (set_place i) (i % 64) s small (set_place j) (j % 64) (λ q d. other (omega (arith, q, d)))

    there-true : true_bit (put_state values i s t) j ≡ true_bit values j
    unfolding true_bit put_state
    there-true =
        stored-elsewhere first (true_place i) (i % 64) t little (true_place j) (j % 64) (λ q d. other (omega (arith, q, d)))
        ∙ stored-elsewhere values (set_place i) (i % 64) s small (true_place j) (j % 64) (λ q d. absurd (omega (arith, q)))

    pub state-elsewhere : value_at (put_state values i s t) j ≡ value_at values j
    unfolding value_at
    state-elsewhere = rw (there-set, there-true)

pub length-put : (values : Values) (i s t : ℕ) → length (put_state values i s t) ≡ length values
unfolding put_state
length-put values i s t =
    length-stored (store_bit values (set_place i) (i % 64) s) (true_place i) (i % 64) t ∙ length-stored values (set_place i) (i % 64) s

-- ── words with the same bits ──

pub same-values : (v u : Values) → length v ≡ length u → ((k c : ℕ) → k < length v → bit_in v k c ≡ bit_in u k c) → v ≡ u
same-values v u sizes same = ext_get_or 0 v u sizes (λ k l. same_bits (get_or v k 0) (get_or u k 0) (λ c. same k c l))

-- ── positions are unset in any order ──

-- bit d of word k is not bit c of this word, and is neither bit of a position
abbrev other_than : ℕ → ℕ → ℕ → ℕ → Bool
other_than at c k d = not (eqb k at && eqb c d)

abbrev left : ℕ → ℕ → ℕ → Bool
left i k d = other_than (set_place i) (i % 64) k d && other_than (true_place i) (i % 64) k d

bit-taken : (values : Values) (at c k d : ℕ) → k < length values → bit_in (store_bit values at c 0) k d ≡ (bit_in values k d && other_than at c k d)
bit-taken values at c k d inside =
    by-test (eqb k at)
    (λ e. by-test (eqb c d)
    (λ f. let q = eqb-true k at e in
    let r = eqb-true c d f in
    rw (e, f, and-false (bit_in values k d)) (rw (q, ← r) (stored_here values at c 0 (omega arith) (omega arith))))
    (λ f. rw (e, f, and-true (bit_in values k d)) (stored-elsewhere values at c 0 (omega arith) k d (λ q r. eqb-false c d f r))))
    (λ e. rw (e, and-true (bit_in values k d)) (stored-elsewhere values at c 0 (omega arith) k d (λ q r. eqb-false k at e q)))

state-taken : (values : Values) (i k d : ℕ) → k < length values → bit_in (put_state values i 0 0) k d ≡ (bit_in values k d && left i k d)
unfolding put_state
state-taken values i k d inside =
    bit-taken (store_bit values (set_place i) (i % 64) 0) (true_place i) (i % 64) k d (omega (arith, length-stored values (set_place i) (i % 64) 0))
    ∙ rw (bit-taken values (set_place i) (i % 64) k d inside) (and_assoc (bit_in values k d) (other_than (set_place i) (i % 64) k d) (other_than (true_place i) (i % 64) k d))

states-taken : (values : Values) (i j k d : ℕ) → k < length values → bit_in (put_state (put_state values i 0 0) j 0 0) k d ≡ (bit_in values k d && (left i k d && left j k d))
states-taken values i j k d inside =
    state-taken (put_state values i 0 0) j k d (omega (arith, length-put values i 0 0))
    ∙ rw (state-taken values i k d inside) (and_assoc (bit_in values k d) (left i k d) (left j k d))

pub taken-either : (values : Values) (i j : ℕ) → put_state (put_state values i 0 0) j 0 0 ≡ put_state (put_state values j 0 0) i 0 0
taken-either values i j =
    let size = length-put (put_state values i 0 0) j 0 0 ∙ length-put values i 0 0 in
    same-values (put_state (put_state values i 0 0) j 0 0) (put_state (put_state values j 0 0) i 0 0)
    (size ∙ sym (length-put (put_state values j 0 0) i 0 0 ∙ length-put values j 0 0))
    (λ k d l. let inside : k < length values = omega (arith, size) in
    states-taken values i j k d inside ∙ rw (and_comm (left i k d) (left j k d)) (sym (states-taken values j i k d inside)))

-- ── a state tells both bits ──

unfoldable pub tells_set : Value → Bool
tells_set v = is_true_value v || is_false_value v

unfoldable pub tells_true : Value → Bool
tells_true v = is_true_value v || same_value v (state_of false true)

module _ (values : Values) (i : ℕ) where
  pub set_told : set_bit values i ≡ tells_set (value_at values i)
  unfolding value_at tells_set state_of is_true_value is_false_value same_value
  set_told = told (set_bit values i) (true_bit values i)
    where
      told : (s t : Bool) → s ≡ tells_set (state_of s t)
      told true true = refl
      told true false = refl
      told false true = refl
      told false false = refl

  pub true-told : true_bit values i ≡ tells_true (value_at values i)
  unfolding value_at tells_true state_of is_true_value same_value
  true-told = told (set_bit values i) (true_bit values i)
    where
      told : (s t : Bool) → t ≡ tells_true (state_of s t)
      told true true = refl
      told true false = refl
      told false true = refl
      told false false = refl
