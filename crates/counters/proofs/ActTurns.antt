-- Step A in the code's terms: the loop over the clauses that ask. Assumes nothing.
use Rattle.std.specs.Prelude.{ℕ, suc, ◌+◌, ◌-◌, ◌≤◌, ◌<◌, ◌≡◌, List, get_or}
use Rattle.std.proofs.Common.{arith}
use Rattle.encoding.specs.Values.{Values}
use Rattle.encoding.specs.ArrayLaws.{get_d-rising}
use Rattle.units.specs.Units.{act_at, act_from, ClausesFit}
use Rattle.units.specs.declared.UnitAct.{UnitAct}
use Rattle.units.specs.declared.UnitAct.TheVariants.{Conflict, Force, Nothing}

-- the first of the clauses fit too
module _ {starts literals heads : List ℕ} {given : ℕ} where
  pub fit-first : (n m : ℕ) → m ≤ n → ClausesFit starts literals heads given n → ClausesFit starts literals heads given m
  fit-first n m h f =
      let up : get_or starts m 0 ≤ get_or starts n 0 = get_d-rising starts n f.rising m h in
      record {
        few = omega (arith, f.few);
        limit = omega (arith, f.limit);
        rising = λ c l. f.rising c (omega arith);
        inside = λ c l. f.inside c (omega arith);
        words = λ i l. f.words i (omega arith);
        heads-inside = λ c l k. f.heads-inside c l (omega arith);
      }

-- ── the loop over the clauses ──

module _ (values : Values) (starts literals heads : List ℕ) (given goals : ℕ) where
  module _ (c n : ℕ) {x : UnitAct} (left : act_from values starts literals heads given goals c (n - c) ≡ x) where
    module _ (less : c < n) {a : UnitAct} (does : a ≡ act_at values starts literals heads given goals c) where
      pub act-turn : a ≡ Nothing → act_from values starts literals heads given goals (c + 1) (n - (c + 1)) ≡ x
      unfolding act_from
      act-turn e =
          let f : n - c ≡ suc (n - (c + 1)) = omega arith in
          let g : c + 1 ≡ suc c = omega arith in
          cc

      pub act-hit : a ≡ Conflict → Conflict ≡ x
      unfolding act_from
      act-hit e = let f : n - c ≡ suc (n - (c + 1)) = omega arith in cc

      pub act-hit-force : (w : ℕ) → a ≡ Force w → Force w ≡ x
      unfolding act_from
      act-hit-force w e = let f : n - c ≡ suc (n - (c + 1)) = omega arith in cc

    pub act-end : n ≤ c → Nothing ≡ x
    unfolding act_from
    act-end h = let f : n - c ≡ 0 = omega arith in cc
