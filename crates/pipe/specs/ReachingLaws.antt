-- From what the reader leaves to what the search leaves: a refusal is handed on, and arrays that hold a problem can be searched,
-- whatever they held before. Assumes nothing.
use Rattle.std.specs.Prelude.{ℕ, ◌<◌, ◌≡◌, List, map, IsErrAnd}
use Rattle.std.proofs.Math.Path.{refl, ap}
use Rattle.std.proofs.Common.{sym, ◌∙◌, arith, Result, Ok, Err}
use Rattle.std.proofs.Math.ListN.{length, get_or}
use Rattle.std.proofs.Math.Seq.{length-sets}
use Rattle.definitions.specs.Lists.{joined}
use Rattle.definitions.specs.Words.{Problem, goal_atoms}
use Rattle.definitions.specs.Questions.{Reading, refused, accepted, read}
use Rattle.definitions.specs.Search.{search}
use Rattle.definitions.specs.declared.Refusal.{Refusal}
use Rattle.theory.specs.Tests.{apart}
use Rattle.theory.specs.Limits.{accepted-limits}
use Rattle.encoding.specs.Slots.{rule_words}
use Rattle.encoding.specs.Values.{Values, no_values}
use Rattle.encoding.specs.Encoding.{atom_code, clause_words, starts_from, Arrays, empty_index, sizes_of, hold}
use Rattle.encoding.specs.declared.Sizes.{Sizes}
use Rattle.sheet.specs.LineHolds.{SheetRead}
use Rattle.clause_log.specs.StoreLaws.{sets-start-at}
use Rattle.machine.specs.Machine.{machine, EndStands, Lengths, Loaded}
use Rattle.machine.specs.declared.Machine.{Machine}
use Rattle.machine.specs.Loading.{held_machine, accepted-loaded}
use Rattle.machine.specs.Finished.{AtEnd, left_of, at-end}
use Rattle.machine.specs.declared.Ended.{Ended}
use Rattle.pipe.specs.Reaching.{ReachedAs}
use Rattle.machine.specs.declared.Searched.{Searched}

module _ (sheet : List ℕ) (r : Result Sizes Refusal) (before after : Arrays) (left : SheetRead (read sheet) r before after) where
  -- a refusal is handed on
  pub refused-reached : (budget : ℕ) (f : Refusal) → r ≡ Err f → (reached : Result Searched Refusal) → IsErrAnd reached (λ g. g ≡ f) → ReachedAs (read sheet) budget reached
  refused-reached budget f e (Ok x) same = absurd same
  refused-reached budget f e (Err g) same = rw same (from (read sheet) left)
    where
      from : (reading : Reading) → SheetRead reading r before after → ReachedAs reading budget (Err f)
      from (refused q n) h = cc
      from (accepted p) h = apart (let z : Ok (sizes_of p) ≡ Err f = sym h.0 ∙ e in cc)

  module _ (sizes : Sizes) (e : r ≡ Ok sizes) where
    -- the arrays hold the problem of an accepted sheet
    record Held (p : Problem) : Type 0 where
      reads : read sheet ≡ accepted p
      counts : sizes ≡ sizes_of p
      holds : after ≡ hold p before

    by-problem : {C : Type 0} → ((p : Problem) → Held p → C) → C
    by-problem {C} f = from (read sheet) refl left
      where
        from : (reading : Reading) → read sheet ≡ reading → SheetRead reading r before after → C
        from (refused q n) d h = apart (let z : Err (record { number = q; line = n }) ≡ Ok sizes = sym h ∙ e in cc)
        from (accepted p) d h = let same : Ok sizes ≡ Ok (sizes_of p) = sym e ∙ h.0 in f p (record { reads = d; counts = cc; holds = h.1 })

    module _ (empty : before.index ≡ empty_index) (arities : length before.arities ≡ 16) (heads numbers : List ℕ) (values : Values) (trail marks : List ℕ)
        (lengths : Lengths before.rules (machine before.starts before.literals heads numbers before.table before.index values trail marks)) (unset : values ≡ no_values) where
      -- the machine that is searched
      abbrev loaded : Machine
      loaded = machine after.starts after.literals heads numbers after.table after.index values trail marks

      -- stores change no length
      held-lengths : (p : Problem) → Lengths (hold p before).rules (held_machine p before heads numbers trail marks)
      unfolding hold
      held-lengths p =
          record {
            of_rules = length-sets before.rules 0 (joined rule_words p.rules) ∙ lengths.of_rules;
            of_starts = length-sets before.starts 0 (starts_from 0 p.clauses) ∙ lengths.of_starts;
            of_literals = length-sets before.literals 0 (joined (clause_words (goal_atoms p.clauses)) p.clauses) ∙ lengths.of_literals;
            of_heads = lengths.of_heads;
            of_numbers = lengths.of_numbers;
            of_table = length-sets before.table 0 (map atom_code (goal_atoms p.clauses)) ∙ lengths.of_table;
            of_trail = lengths.of_trail;
            of_marks = lengths.of_marks;
          }

      held-loaded : (p : Problem) → Held p → Loaded p sizes after.rules loaded
      held-loaded p held =
          rw (held.counts, unset, held.holds) (accepted-loaded sheet p held.reads before empty heads numbers trail marks (held-lengths p))

      -- the arrays can be searched
      pub accepted-searchable : (p : Problem) × Loaded p sizes after.rules loaded
      accepted-searchable = by-problem (λ p held. (p, held-loaded p held))

      -- and where their search ended, the sheet's did
      pub accepted-reached : (budget : ℕ) (ended : Ended) (m : Machine)
          → ((p : Problem) → Loaded p sizes after.rules loaded
          → EndStands p budget (search p budget) ended m)
          → ReachedAs (read sheet) budget (Ok (left_of ended sizes.clauses after.arities m))
      unfolding sizes_of hold
      accepted-reached budget ended m ends =
          by-problem (λ p held.
          let its = held-loaded p held in
          let limits = accepted-limits sheet p held.reads in
          let its-arities : (i : ℕ) → i < length p.arities → get_or after.arities i 0 ≡ get_or p.arities i 0 =
          λ i below. ap (λ (a : Arrays). get_or a.arities i 0) held.holds ∙ sets-start-at before.arities p.arities (omega (arith, limits.symbols)) i below in
          rw held.reads (
            left_of ended sizes.clauses after.arities m,
            refl,
            at-end p budget ended m sizes.clauses after.arities its.limits its-arities (ap (λ (x : Sizes). x.clauses) held.counts) (ends p its),
          ))

-- ── for the caller ──

module _ (reading : Reading) (budget : ℕ) (r : Result Searched Refusal) (reached : ReachedAs reading budget r) where
  pub reading-refused : (f : Refusal) → r ≡ Err f → reading ≡ refused f.number f.line
  reading-refused f e = from reading reached
    where
      from : (x : Reading) → ReachedAs x budget r → x ≡ refused f.number f.line
      from (refused q n) h = let z : Err (record { number = q; line = n }) ≡ Err f = sym h ∙ e in let same : ◌≡◌ {A = Refusal} (record { number = q; line = n }) f = cc in ap (λ (g : Refusal). refused g.number g.line) same
      from (accepted p) (x, h, end) = apart (let z : Ok x ≡ Err f = sym h ∙ e in cc)

  pub reading-searched : (x : Searched) → r ≡ Ok x → (p : Problem) × (reading ≡ accepted p) × AtEnd p budget x
  reading-searched x e = from reading reached
    where
      from : (y : Reading) → ReachedAs y budget r → (p : Problem) × (y ≡ accepted p) × AtEnd p budget x
      from (refused q n) h = apart (let z : Err (record { number = q; line = n }) ≡ Ok x = sym h ∙ e in cc)
      from (accepted p) (y, h, end) =
          let z : Ok y ≡ Ok x = sym h ∙ e in
          let same : y ≡ x = cc in
          (p, refl, rw (← same) end)
