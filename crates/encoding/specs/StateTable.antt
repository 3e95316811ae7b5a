-- The table of states that the words took the place of: both stand for each other. Assumes nothing.
use Prim.Native.Nat.{ℕ, zero, suc, ◌+◌, ◌-◌, ◌*◌, ◌/◌, ◌%◌, ◌^◌, ◌≤◌, ◌<◌}
use Rattle.std.specs.Prelude.{◌≡◌, eqb, ltb, replicate}
use Rattle.std.proofs.Math.Path.{refl, ap, ap₂}
use Rattle.std.proofs.Common.{sym, ◌∙◌}
use mathlib.Core.List.{List, ◌∷◌, ◌++◌, map, map-append}
use native.Mathlib.Omega.{arith}
use Rattle.std.proofs.Math.ListN.{length, get_or}
use borrow.Author.Tests.{eqb-true, eqb-false, ltb-true, ltb-false}
use Rattle.bits.specs.Bits.{has-high}
use Rattle.definitions.specs.Lists.{up_from, Different}
use Rattle.definitions.specs.Words.{Atom}
use Rattle.definitions.specs.Search.{Trail}
use Rattle.definitions.specs.LiteralTest.{Value, unset_value, atom_state}
use Rattle.theory.specs.Tests.{by-test}
use Rattle.theory.specs.PlaceLaws.{get_elem-in, up_from-append, map-places, get_d-places}
use Rattle.theory.specs.TableLaws.{position_at}
use Rattle.encoding.specs.Values.{Values, set_place, true_place, bit_in, set_bit, true_bit, value_at}
use Rattle.encoding.specs.StateWords.{tells_set, tells_true, set_told, true-told, same-values}
use Rattle.encoding.specs.Standing.{Valued}

-- the states in the words, position by position
unfoldable pub states_in : Values → List Value
states_in values = map (value_at values) (up_from 0 256)

-- the table of states: that of each atom of the search's table, and behind them nothing is set
unfoldable pub state_table : List Atom → Trail → List Value
state_table table t = map (atom_state t) table ++ replicate (256 - length table) unset_value

-- ── the words give the table ──

module _ (values : Values) where
  unset-from : (at n : ℕ) → ((i : ℕ) → at ≤ i → value_at values i ≡ unset_value) → map (value_at values) (up_from at n) ≡ replicate n unset_value
  unfolding up_from
  unset-from at zero unset = refl
  unset-from at (suc n) unset = ap₂ (λ (v : Value) (vs : List Value). v ∷ vs) (unset at (omega arith)) (unset-from (suc at) n (λ i l. unset i (omega arith)))

  pub table-stands : (t : Trail) (table : List Atom) → Different table → length table ≤ 256 → Valued table t values → ((i : ℕ) → length table ≤ i → value_at values i ≡ unset_value)
      → states_in values ≡ state_table table t
  unfolding states_in state_table
  table-stands t table different few valued outside =
      let n = length table in
      let whole : 256 ≡ n + (256 - n) = omega arith in
      ap (λ (k : ℕ). map (value_at values) (up_from 0 k)) whole
      ∙ ap (map (value_at values)) (up_from-append 0 n (256 - n))
      ∙ map-append (value_at values) (up_from 0 n) (up_from (0 + n) (256 - n))
      ∙ ap₂ (λ (xs ys : List Value). xs ++ ys)
      (map-places (value_at values) (atom_state t) 0 table (λ i a e. let place = position_at table different i a e in let at : 0 + i ≡ i = omega arith in rw at (rw place at (valued a (get_elem-in table i a e).1))))
      (unset-from (0 + n) (256 - n) (λ i l. outside i (omega arith)))

-- ── the table gives the words ──

-- as an array of the code has them
pub record ValuesFit (values : Values) : Type 0 where
  pub size : length values ≡ 8
  pub narrow : (k : ℕ) → k < 8 → get_or values k 0 < 2 ^ 64

module _ (v u : Values) (fit : ValuesFit v) (fits : ValuesFit u) (same : states_in v ≡ states_in u) where
  same-state : (i : ℕ) → i < 256 → value_at v i ≡ value_at u i
  unfolding states_in
  same-state i l =
      let at : 0 + i ≡ i = omega arith in
      rw at at (sym (get_d-places (value_at v) unset_value 0 256 i l) ∙ ap (λ (t : List Value). get_or t i unset_value) same ∙ get_d-places (value_at u) unset_value 0 256 i l)

  same_set : (i : ℕ) → i < 256 → set_bit v i ≡ set_bit u i
  same_set i l = set_told v i ∙ ap tells_set (same-state i l) ∙ sym (set_told u i)

  same_true : (i : ℕ) → i < 256 → true_bit v i ≡ true_bit u i
  same_true i l = true-told v i ∙ ap tells_true (same-state i l) ∙ sym (true-told u i)

  same_low : (k c : ℕ) → k < 8 → c < 64 → bit_in v k c ≡ bit_in u k c
  unfolding set_bit true_bit
  same_low k c l b =
      let i = 64 * (k / 2) + c in
      let low : i % 64 ≡ c = omega arith in
      by-test (eqb (k % 2) 0)
      (λ e. let even = eqb-true (k % 2) 0 e in
      let at : set_place i ≡ k = omega arith in
      rw (low, at) at (same_set i (omega arith)))
      (λ e. let odd = eqb-false (k % 2) 0 e in
      let at : true_place i ≡ k = omega (arith, odd) in
      rw (low, at) at (same_true i (omega arith)))

  pub table-words : v ≡ u
  table-words =
      same-values v u (fit.size ∙ sym fits.size)
      (λ k c l. let b : k < 8 = omega (arith, fit.size) in
      by-test (ltb c 64)
      (λ e. same_low k c b (ltb-true c 64 e))
      (λ e. let h = ltb-false c 64 e in has-high c 64 (get_or v k 0) (fit.narrow k b) h ∙ sym (has-high c 64 (get_or u k 0) (fits.narrow k b) h)))
