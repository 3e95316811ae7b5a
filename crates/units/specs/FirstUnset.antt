-- The first unset position among those of the goal atoms: by the low zeros of a word, and that it is the place of the first unset goal atom.
-- Assumes nothing.
use Rattle.std.specs.Prelude.{◌≡◌, refl, true, false, not, length, ℕ, zero, suc, ◌+◌, ◌-◌, ◌*◌, ◌/◌, ◌%◌, ◌^◌, ◌≤◌, ◌<◌, List, [], ◌∷◌, ◌++◌}
use Rattle.std.proofs.Common.{sym, ◌∙◌, ap, inl, inr, pow-suc, append_assoc, arith}
use Rattle.std.proofs.Math.Bool.{and-true}
use Rattle.std.proofs.Math.Option.{none, some}
use mathlib.Core.List.Memᴰ
use Rattle.std.specs.Int.Bits.{bit_and, mask_lt}
use Rattle.std.specs.Int.Count.{count_trailing_zeros, trailing_of_zero}
use Rattle.std.proofs.lemmas.Nat.{trailing_le}
use Rattle.bits.specs.Bits.{has, by_bit, zeros-odd, zeros-even, has-and, has-ones, has-complement}
use Rattle.definitions.specs.Lists.{◌∈◌, find, Different}
use Rattle.definitions.specs.Words.{Atom, plain, same_atom, position}
use Rattle.definitions.specs.Search.{Trail, is_unset}
use Rattle.theory.specs.Tests.{by-test, apart, true-and-false, none≢some}
use Rattle.theory.specs.ListLaws.{at_split, in-along, find-in, find-passes}
use Rattle.theory.specs.WordLaws.{same_atom-eq, same_atom-refl}
use Rattle.theory.specs.TableLaws.{position-inside, position-append, position-behind}
use Rattle.encoding.specs.Values.{Values, goals_set, set_bit, unset_at}
use Rattle.encoding.specs.WordTruths.{unset-at}
use Rattle.units.specs.TrailWords.{first_unset, TrailStands}

-- ── by a word ──

-- a word that has a bit for each of n positions that is unset, and no other: its lowest bit is the first of them, and all of its bits are zeros
-- where there is none
abbrev FirstBy : Values → ℕ → ℕ → ℕ → ℕ → Type 0
FirstBy values at n width zeros = (zeros < width → (first_unset values at n ≡ at + zeros) × (zeros < n)) × (zeros ≡ width → first_unset values at n ≡ at + n)

low_bit : (values : Values) (at n width m : ℕ) → n ≤ width → m < 2 ^ n → ((i : ℕ) → i < n → unset_at values (at + i) ≡ has i m) → FirstBy values at n width (count_trailing_zeros width m)
unfolding first_unset has
low_bit values at zero width m l h each =
    let none : m ≡ 0 = omega arith in
    let all = trailing_of_zero width in
    rw none (λ z. absurd (omega (arith, z, all)), λ z. omega arith)
low_bit values at (suc n) zero m l h each = absurd (omega arith)
low_bit values at (suc n) (suc width) m l h each =
    let here : at + 0 ≡ at = omega arith in
    let test = rw here at (each 0 (omega arith)) in
    by_bit m
    (λ e. let passed : first_unset values at (suc n) ≡ first_unset values (suc at) n = let b : unset_at values at ≡ false = test ∙ rw e in rw (b, first_unset) in
    let zeros = zeros-even width m e in
    let power = pow-suc 2 n in
    let rest = low_bit values (suc at) n width (m / 2) (omega arith) (omega arith) (λ i k. let next : suc at + i ≡ at + suc i = omega arith in rw next (each (suc i) (omega arith))) in
    rw zeros (λ z. let r = rest.0 (omega arith) in (omega (arith, passed, r.0), omega (arith, r.1)), λ z. let r = rest.1 (omega arith) in omega (arith, passed, r)))
    (λ e. let found : first_unset values at (suc n) ≡ at = let b : unset_at values at ≡ true = test ∙ rw e in rw (b, first_unset) in
    let zeros = zeros-odd width m e in
    rw zeros (λ z. (omega (arith, found), omega arith), λ z. absurd (omega (arith, z))))

-- the word of the goal atoms that are not set, masked by their number
module _ (values : Values) (goals : ℕ) (few : goals ≤ 64) {set mask zeros : ℕ} (its : set ≡ goals_set values) (narrow : set < 2 ^ 64) (ones : mask ≡ 2 ^ goals - 1)
    (low : zeros ≡ count_trailing_zeros 64 (bit_and (2 ^ 64 - 1 - set) mask)) where
  goal-bit : (i : ℕ) → i < goals → unset_at values (0 + i) ≡ has i (bit_and (2 ^ 64 - 1 - set) mask)
  unfolding unset_at set_bit
  goal-bit i l =
      let at : 0 + i ≡ i = omega arith in
      let place : i % 64 ≡ i = omega arith in
      let first : 2 * (i / 64) ≡ 0 = omega arith in
      rw (at, place, first, ← its)
      (sym (has-and i (2 ^ 64 - 1 - set) mask ∙ rw (ones, has-ones i goals l, has-complement i 64 set (omega arith) narrow) (and-true (not (has i set)))))

  found : FirstBy values 0 goals 64 zeros
  found = rw low (low_bit values 0 goals 64 (bit_and (2 ^ 64 - 1 - set) mask) few (rw ones (mask_lt (2 ^ 64 - 1 - set) goals)) goal-bit)

  pub goal-found : zeros < 64 → zeros ≡ first_unset values 0 goals
  goal-found l = omega (arith, (found.0 l).0)

  pub goal-inside : zeros < 64 → zeros < goals
  goal-inside l = (found.0 l).1

  pub no-goal-found : 64 ≤ zeros → goals ≡ first_unset values 0 goals
  no-goal-found l = omega (arith, found.1 (omega (arith, low, trailing_le 64 (bit_and (2 ^ 64 - 1 - set) mask))))

-- ── by the trail ──

module _ (t : Trail) (values : Values) where
  -- from a place on, just the unset atoms are unset
  abbrev Row : ℕ → List Atom → Type 0
  Row at goals = (before after : List Atom) (a : Atom) → goals ≡ before ++ (a ∷ after) → unset_at values (at + length before) ≡ is_unset t (plain a)

  row-test : (at : ℕ) (b : Atom) (bs : List Atom) → Row at (b ∷ bs) → unset_at values at ≡ is_unset t (plain b)
  row-test at b bs h =
      let e : at ≡ at + 0 = omega arith in
      ap (unset_at values) e ∙ h [] bs b refl

  row-tail : (at : ℕ) (b : Atom) (bs : List Atom) → Row at (b ∷ bs) → Row (suc at) bs
  row-tail at b bs h before after a q =
      let e : suc at + length before ≡ at + suc (length before) = omega arith in
      ap (unset_at values) e ∙ h (b ∷ before) after a (ap (λ (x : List Atom). b ∷ x) q)

  row-some : (at : ℕ) (goals : List Atom) → Row at goals → (a : Atom) → find (λ (x : Atom). is_unset t (plain x)) goals ≡ some a → first_unset values at (length goals) ≡ at + position goals a
  unfolding find first_unset position
  row-some at [] h a q = none≢some q
  row-some at (b ∷ bs) h a q =
      let test = row-test at b bs h in
      by-test (is_unset t (plain b))
      (λ e. let z : b ≡ a = cc in
      let here : position (b ∷ bs) a ≡ 0 = cc (same_atom-refl a) in
      let found : first_unset values at (length (b ∷ bs)) ≡ at = cc in
      omega (arith, found, here))
      (λ e. let rest : find (λ (x : Atom). is_unset t (plain x)) bs ≡ some a = cc in
      let passes = find-passes (λ (x : Atom). is_unset t (plain x)) bs a rest in
      let onward = row-some (suc at) bs (row-tail at b bs h) a rest in
      by-test (same_atom b a)
      (λ f. true-and-false passes (ap (λ (x : Atom). is_unset t (plain x)) (sym (same_atom-eq b a f)) ∙ e))
      (λ f. let there : position (b ∷ bs) a ≡ suc (position bs a) = cc in
      let passed : first_unset values at (length (b ∷ bs)) ≡ first_unset values (suc at) (length bs) = cc in
      omega (arith, passed, there, onward)))

  row-none : (at : ℕ) (goals : List Atom) → Row at goals → find (λ (x : Atom). is_unset t (plain x)) goals ≡ none → first_unset values at (length goals) ≡ at + length goals
  unfolding find first_unset
  row-none at [] h q = omega arith
  row-none at (b ∷ bs) h q =
      let test = row-test at b bs h in
      by-test (is_unset t (plain b))
      (λ e. apart (cc))
      (λ e. let passed : first_unset values at (length (b ∷ bs)) ≡ first_unset values (suc at) (length bs) = cc in
      omega (arith, passed, row-none (suc at) bs (row-tail at b bs h) (cc)))

not-before : {a : Atom} (before after : List Atom) → Different (before ++ (a ∷ after)) → a ∈ before → ⊥
not-before [] after d m = Memᴰ.not-nil m
not-before (b ∷ bs) after d m =
    elim (Memᴰ.cases_cons m) [
      | inl q ↦ d.0 (Memᴰ.cast (sym q) (at_split bs after))
      | inr n ↦ not-before bs after d.1 n
    ]

-- the goal atoms stand first in the table
module _ (goals created : List Atom) (different : Different (goals ++ created)) {t : Trail} {values : Values} {trail marks : List ℕ} (s : TrailStands (goals ++ created) t values trail marks) where
  goal-row : Row t values 0 goals
  goal-row before after a q =
      let m : a ∈ goals = in-along q (at_split before after) in
      let d : Different (before ++ (a ∷ (after ++ created))) = rw append_assoc at (rw q at different) in
      let place : position (goals ++ created) a ≡ length before = position-append goals created a m ∙ ap (λ (l : List Atom). position l a) q ∙ position-behind before after a (not-before before (after ++ created) d) in
      let e : 0 + length before ≡ position (goals ++ created) a = omega arith in
      ap (unset_at values) e ∙ unset-at (goals ++ created) t values s.valued a (Memᴰ.append_left created m)

  pub first-unset-some : (a : Atom) → find (λ (x : Atom). is_unset t (plain x)) goals ≡ some a
      → (first_unset values 0 (length goals) ≡ position (goals ++ created) a) × (position (goals ++ created) a < length goals)
  first-unset-some a h =
      let m = find-in (λ (x : Atom). is_unset t (plain x)) goals a h in
      let e = row-some t values 0 goals goal-row a h in
      let k = position-append goals created a m in
      (omega arith, omega (arith, position-inside goals a m))

  pub first-unset-none : find (λ (x : Atom). is_unset t (plain x)) goals ≡ none → first_unset values 0 (length goals) ≡ length goals
  first-unset-none h = omega (arith, row-none t values 0 goals goal-row h)
