-- Step A over the clauses that ask: the next of them, and that the first clause that acts is one of them. Assumes nothing.
use Rattle.std.specs.Prelude.{◌≡◌, true, false, List, leb, get_or, ℕ, zero, suc, ◌+◌, ◌-◌, ◌*◌, ◌/◌, ◌%◌, ◌^◌, ◌≤◌, ◌<◌}
use Rattle.std.proofs.Common.{sym, ◌∙◌, lt-ltb, leb-true, leb-false, arith}
use Rattle.std.specs.Int.Count.{count_trailing_zeros}
use Rattle.bits.specs.Bits.{among}
use Rattle.bits.specs.Sets.{NoneBetween}
use Rattle.bits.proofs.SetTurns.{none-here, in-word, first-here}
use Rattle.encoding.specs.CountLaws.{by_order}
use Rattle.encoding.specs.Values.{Values}
use Rattle.units.specs.Units.{clause_at, may_set, act_at, act_from}
use Rattle.units.specs.declared.UnitAct.{UnitAct}
use Rattle.units.specs.declared.UnitAct.TheVariants.{Nothing}
use Rattle.counters.specs.Weights.{whole-is-once}
use Rattle.counters.specs.ByNumber.{rests}
use Rattle.counters.specs.Counters.{read_whole, number_asks, counters_of, counters}
use Rattle.counters.specs.CounterLaws.{counters-kept}

-- ── the next clause that asks ──

-- no clause from one up to another asks
abbrev pub Unasked : List ℕ → ℕ → ℕ → Type 0
Unasked asking c r = NoneBetween asking c r

module _ (asking : List ℕ) (c i word : ℕ) (is : word ≡ get_or asking (i / 64) 0) (so_far : Unasked asking c i) where
  pub none_here : word / 2 ^ (i % 64) ≡ 0 → Unasked asking c (64 * (i / 64 + 1))
  none_here = none-here asking c i word is so_far

  module _ (small : word < 2 ^ 64) (t : ℕ) (some : 0 < word / 2 ^ (i % 64)) (tz : t ≡ count_trailing_zeros 64 (word / 2 ^ (i % 64))) where
    pub next_here : (i < 640 → i + t < 640) × Unasked asking c (i + t) × (among asking (i + t) ≡ true)
    next_here =
        let first = first-here asking c i word is so_far small t some tz in
        let inside = in-word asking c i word is so_far small t some tz in
        (λ l. omega arith, first.2, first.1)

-- ── the numbers of the clauses ──

module _ (values : Values) (clause : ℕ → List ℕ) (clauses : ℕ) {rows counts asking : List ℕ} (few : clauses ≤ 640)
    (its : counters rows counts asking ≡ counters_of values clause clauses) where
  asks-by : (c : ℕ) → c < clauses → among asking c ≡ leb (get_or counts c 0) 1
  unfolding number_asks
  asks-by c l = rw (lt-ltb c clauses l) at ((counters-kept values clause clauses few its).asks c (omega arith))

  -- a clause's number is what reading it whole gives, and that of one that asks is 0 or 1
  pub its-number : (c : ℕ) → c < clauses → get_or counts c 0 ≡ read_whole values (clause c)
  its-number c l = (counters-kept values clause clauses few its).count c l ∙ sym (whole-is-once values (clause c))

  pub asks-few : (c : ℕ) → c < clauses → among asking c ≡ true → get_or counts c 0 ≤ 1
  asks-few c l h = leb-true (get_or counts c 0) 1 (sym (asks-by c l) ∙ h)

  asks-not : (c : ℕ) → c < clauses → among asking c ≡ false → 2 ≤ read_whole values (clause c)
  asks-not c l h = let many = leb-false (get_or counts c 0) 1 (sym (asks-by c l) ∙ h) in omega (arith, its-number c l)

-- ── clauses that don't ask are passed over ──

module _ (values : Values) (starts literals heads : List ℕ) (given goals : ℕ) where
  abbrev act : ℕ → UnitAct
  act c = act_at values starts literals heads given goals c

  abbrev acts : ℕ → ℕ → UnitAct
  acts c n = act_from values starts literals heads given goals c n

  skips : (c k n : ℕ) → ((i : ℕ) → c ≤ i → i < c + k → act i ≡ Nothing) → acts c (k + n) ≡ acts (c + k) n
  unfolding act_from
  skips c zero n h = let e : c + 0 ≡ c = omega arith in let d : 0 + n ≡ n = omega arith in rw (e, d)
  skips c (suc k) n h =
      let e : c + suc k ≡ suc c + k = omega arith in
      let d : suc k + n ≡ suc (k + n) = omega arith in
      rw (d, e, h c (omega arith) (omega arith), act_from) (skips (suc c) k n (λ i a b. h i (omega arith) (omega arith)))

  module _ (clauses : ℕ) {rows counts asking : List ℕ} (few : clauses ≤ 640)
      (its : counters rows counts asking ≡ counters_of values (λ c. clause_at starts literals c) clauses) where
    silent : (c : ℕ) → c < clauses → among asking c ≡ false → act c ≡ Nothing
    unfolding act_at
    silent c l n =
        rests values (clause_at starts literals c) (may_set values starts literals heads given goals c)
        (asks-not values (λ c. clause_at starts literals c) clauses few its c l n)

    to-next : (c r : ℕ) → c ≤ r → r ≤ clauses → Unasked asking c r → acts c (clauses - c) ≡ acts r (clauses - r)
    to-next c r a b h =
        let e : clauses - c ≡ (r - c) + (clauses - r) = omega arith in
        let d : c + (r - c) ≡ r = omega arith in
        rw (e, skips c (r - c) (clauses - r) (λ i p q. silent i (omega arith) (h i p (omega arith))), d)

    none_left : (c : ℕ) → clauses ≤ c → acts c (clauses - c) ≡ Nothing
    unfolding act_from
    none_left c l = let e : clauses - c ≡ 0 = omega arith in rw e

    -- from the start, or behind a clause that does nothing, to the next that asks
    pub ask-next : (c r : ℕ) {x : UnitAct} → c ≤ r → Unasked asking c r → acts c (clauses - c) ≡ x → acts r (clauses - r) ≡ x
    ask-next c r l h left =
        by_order r clauses
        (λ b. sym (to-next c r l b h) ∙ left)
        (λ b. none_left r (omega arith) ∙ by_order c clauses
        (λ a. sym (none_left clauses (omega arith)) ∙ sym (to-next c clauses a (omega arith) (λ i p q. h i p (omega arith))) ∙ left)
        (λ a. sym (none_left c (omega arith)) ∙ left))
