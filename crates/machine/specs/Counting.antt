-- The counters beside the machine: what each step asks of them, and that they stay those of its clauses and values. Assumes nothing.
use Rattle.std.specs.Prelude.{ℕ, zero, suc, ◌+◌, ◌-◌, ◌*◌, ◌/◌, ◌%◌, ◌≤◌, ◌<◌, ◌≡◌, refl, List, ◌∷◌, ◌++◌, leb, ltb, set, take, drop}
use Rattle.std.proofs.Common.{sym, ◌∙◌, subst, arith, get_or-set_other, Continue, Break}
use Rattle.std.proofs.Math.Path.{ap}
use Rattle.std.proofs.Math.Option.{Option, none, some}
use Rattle.std.proofs.Math.Dec.{eqb}
use Rattle.std.proofs.Math.ListN.{length, get_or}
use Rattle.std.proofs.lemmas.List.Edits.{sets}
use Rattle.definitions.specs.Lists.{◌∈◌, added}
use Rattle.definitions.specs.Words.{plain, Problem}
use Rattle.definitions.specs.Instances.{task_of}
use Rattle.definitions.specs.Search.{Trail, State, next_goal, backtrack}
use Rattle.definitions.specs.declared.Verdict.TheVariants.{Full}
use Rattle.theory.specs.Tests.{by-test, by-option, apart, none≢some, some-injective}
use Rattle.theory.specs.ListLaws.{at_split, in-along}
use Rattle.encoding.specs.Encoding.{literal_word}
use Rattle.encoding.specs.HoldLaws.{its-goals}
use Rattle.encoding.specs.declared.Sizes.{Sizes}
use Rattle.encoding.specs.declared.ClauseStore.{ClauseStore}
use Rattle.units.specs.TrailArrays.{TrailArrays}
use Rattle.encoding.specs.Values.{Values}
use Rattle.encoding.specs.ArrayLaws.{get_d-rising}
use Rattle.units.specs.Units.{clause_at, ClausesFit}
use Rattle.units.specs.LiteralWords.{word-plain, word_even}
use Rattle.units.specs.TrailWords.{latest_decision, cleared, first_unset}
use Rattle.units.specs.declared.UnitAct.TheVariants.{Force}
use Rattle.units.specs.Stacks.{Stacked, pop-all, top}
use Rattle.units.specs.TrailLaws.{entry_word}
use Rattle.units.specs.BacktrackLaws.{Latest, find-latest, backtrack-some-length}
use Rattle.rules.specs.Rules.{code_under, rule_variables}
use Rattle.rules.specs.Fillings.{filling_of}
use Rattle.clause_log.specs.StoreLaws.{clause-kept, take-sets-le}
use Rattle.clause_log.specs.Logging.{Log, head_words, word_under, taken_slot, enters_slot, stored, put_clause, too_many, log_taken, log_under}
use Rattle.counters.specs.Counters.{counters_of}
use Rattle.counters.specs.declared.Counters.{Counters}
use Rattle.counters.specs.CounterLaws.{counters-same}
use Rattle.counters.specs.Setting.{StayKept, CountersFit, counters-fit, IsUnset}
use Rattle.counters.specs.Undoing.{Undoable, undone-open}
use Rattle.counters.specs.TrailCounts.{literal-unset, entries-undoable}
use Rattle.machine.specs.Machine.{Next, ended_with, log_in, Stands, Running, act_of}
use Rattle.machine.specs.declared.Machine.{Machine}
use Rattle.machine.specs.StandsLaws.{trail-consistent, trail-decided, unit-unset, goal-unset, goal-none, goal-some, back_none}
use Rattle.machine.specs.StepNeeds.{units-fit, unit-literal, flip-fits}
use Rattle.machine.specs.MachineSteps.{Stepped, stepped, one_set, one_decided, one_conflict, one_logged, flip_at, conflict_step, unit_step, decide_step, goal_step, instance_step, run_after}
use Rattle.walk.specs.declared.Instance.{Instance}
use Rattle.machine.specs.declared.Run.{Run}
use Rattle.machine.specs.declared.Ended.{Ended}

-- the counters of the machine's clauses and values
abbrev pub counters_in : Machine → Run → Counters
counters_in m run = counters_of m.trail.values (λ c. clause_at m.store.starts m.store.literals c) run.clauses

abbrev pub CountsKept : Machine → Run → Counters → Type 0
CountsKept m run k = k ≡ counters_in m run

-- a function that changes values keeps the counters of whatever clauses they were those of, as far as the words go that so many clauses take
abbrev pub StillKept : ℕ → Values → Counters → Values → Counters → Type 0
StillKept clauses values k values' k' = StayKept ((clauses + 63) / 64) values k values' k'

-- ── what the steps ask of them ──

module _ (budget : ℕ) (rules : List ℕ) (sizes : Sizes) (m : Machine) (run : Run) (running : Running budget rules sizes m run) where
  abbrev p : Problem
  p = running.problem

  abbrev s : State
  s = running.state

  abbrev h : Stands running.problem budget running.state m run
  h = running.stands

  pub counts-fit : {k : Counters} → CountsKept m run k → CountersFit m.trail.values ((run.clauses + 63) / 64) k × (run.clauses ≤ 640)
  counts-fit e = let fit = (units-fit budget rules sizes m run running).1 in (counters-fit fit e, omega (arith, fit.limit))

  -- a unit's atom is unset
  pub unit-open : (w : ℕ) → act_of sizes m run ≡ Force w → IsUnset m.trail.values w
  unit-open w e =
      let (l, q, its) = unit-literal budget rules sizes m run running w e in
      let (inside, unset) = unit-unset p budget s m run h l q in
      rw its (literal-unset h.room h.trail l inside unset)

  -- so is a goal atom that is decided
  pub goal-open : (first_unset m.trail.values 0 sizes.atoms ≡ sizes.atoms → ⊥) → IsUnset m.trail.values (2 * first_unset m.trail.values 0 sizes.atoms)
  goal-open n =
      by-option (next_goal (task_of p) s)
      (λ e. absurd (n (rw (its-goals p running.counts) (goal-none p budget s m run h e))))
      (λ a e. let (first, below) = goal-some p budget s m run h a e in
      let (inside, unset) = goal-unset p budget s m run h a e in
      rw (its-goals p running.counts, first, ← word-plain s.table a) (literal-unset h.room h.trail (plain a) inside unset))

  -- a conflict: what was set from the latest decision on can be undone, and then the decision's atom is unset
  module _ (at : ℕ) (latest : latest_decision m.trail.marks run.set ≡ suc at) where
    undoable : Undoable m.trail.values m.trail.words at run.set
    undoable =
        rw h.set
        (entries-undoable h.room h.trail (trail-consistent p budget s m run h) h.sound.fits.entered h.sound.fits.different at)

    decided-even : (u : Trail) → backtrack s.trail ≡ some u → get_or m.trail.words at 0 % 2 ≡ 0
    decided-even u q = by-latest (find-latest s.trail u q)
      where
        by-latest : Latest s.trail u → get_or m.trail.words at 0 % 2 ≡ 0
        by-latest f =
            let size = sym (backtrack-some-length h.trail q) ∙ ap (latest_decision m.trail.marks) (sym h.set) ∙ latest in
            let place : at ≡ length f.before = omega (arith, size, ap length f.after) in
            let its : f.entry ∈ s.trail = in-along f.split (at_split f.since f.before) in
            let stacked : Stacked (entry_word s.table) (f.since ++ (f.entry ∷ f.before)) m.trail.words = subst (λ (t : Trail). Stacked (entry_word s.table) t m.trail.words) f.split h.trail.words in
            let word : get_or m.trail.words at 0 ≡ literal_word s.table f.entry.literal = ap (λ (i : ℕ). get_or m.trail.words i 0) place ∙ top (entry_word s.table) f.entry f.before m.trail.words (pop-all (entry_word s.table) f.since (f.entry ∷ f.before) m.trail.words stacked) in
            rw word (word_even s.table f.entry.literal (trail-decided p budget s m run h f.entry its f.is))

    pub undo-open : Undoable m.trail.values m.trail.words at run.set
        × IsUnset (cleared m.trail.values (take (run.set - at) (drop at m.trail.words))) (get_or m.trail.words at 0 + 1)
    undo-open =
        by-option (backtrack s.trail)
        (λ q. absurd (omega (arith, latest, back_none p budget s m run h q)))
        (λ u q. (undoable, undone-open undoable (flip-fits budget rules sizes m run running at latest).0 (decided-even u q)))

-- ── a logged clause ──

module _ (given clauses r : ℕ) (heads ws : List ℕ) (store : ClauseStore) (fit : ClausesFit store.starts store.literals store.heads given clauses) where
  stored-keeps : (c : ℕ) → c < clauses
      → clause_at (stored given clauses r heads ws store).starts (stored given clauses r heads ws store).literals c ≡ clause_at store.starts store.literals c
  unfolding stored
  stored-keeps c l =
      let from = get_or store.starts clauses 0 in
      clause-kept store.starts (set store.starts (clauses + 1) (from + length ws)) store.literals (sets store.literals from ws) c from
      (get_or-set_other store.starts (clauses + 1) c (from + length ws) 0 (λ q. omega (arith, q)))
      (get_or-set_other store.starts (clauses + 1) (c + 1) (from + length ws) 0 (λ q. omega (arith, q)))
      (fit.rising c l)
      (get_d-rising store.starts clauses fit.rising (c + 1) (omega arith))
      (take-sets-le from store.literals from ws (omega arith))

entered-store : (rules filling : List ℕ) (base : ℕ) (l : Log) → ((enters_slot rules filling base l).store ≡ l.store) × ((enters_slot rules filling base l).clauses ≡ l.clauses)
unfolding enters_slot
entered-store rules filling base l =
    by-test (eqb (get_or l.table.index (code_under rules filling base) 0) 0) (λ e. (rw (e, enters_slot), rw (e, enters_slot))) (λ e. (rw (e, enters_slot), rw (e, enters_slot)))

-- the clauses before it keep their words
module _ (rules filling : List ℕ) (r given : ℕ) (l k : Log) (fit : ClausesFit l.store.starts l.store.literals l.store.heads given l.clauses) where
  abbrev Keeps : Type 0
  Keeps = (c : ℕ) → c < l.clauses → clause_at k.store.starts k.store.literals c ≡ clause_at l.store.starts l.store.literals c

  taken-keeps : (o : Option ℕ) → log_taken rules filling r given o l ≡ some k → Keeps
  unfolding log_taken put_clause
  taken-keeps none e c b =
      let heads = head_words l.table.index rules filling r in
      let same : stored given l.clauses r heads heads l.store ≡ k.store = ap (λ (x : Log). x.store) (some-injective e) in
      rw (← same) (stored-keeps given l.clauses r heads heads l.store fit c b)
  taken-keeps (some base) e c b =
      by-test (too_many rules filling base l)
      (λ t. none≢some (rw (t, log_taken) at e))
      (λ t.
      let heads = head_words l.table.index rules filling r in
      let x = enters_slot rules filling base l in
      let ws = added eqb heads (word_under x.table.index rules filling base) in
      let both = entered-store rules filling base l in
      let same : stored given x.clauses r heads ws x.store ≡ k.store = ap (λ (y : Log). y.store) (some-injective (rw (t, log_taken) at e)) in
      let its : stored given l.clauses r heads ws l.store ≡ k.store = rw (both.0, both.1) at same in
      rw (← its) (stored-keeps given l.clauses r heads ws l.store fit c b))

  pub log-keeps : (values : Values) → log_under values rules filling r given l ≡ some k → Keeps
  unfolding log_under
  log-keeps values e =
      by-test (ltb (l.clauses - given) 512)
      (λ t. taken-keeps (taken_slot values l.table.index rules filling r) (rw (t, log_under) at e))
      (λ t. none≢some (rw (t, log_under) at e))

-- so the counters are still theirs, and there is one clause more unless there was no room
pub record LoggedKept (m : Machine) (run : Run) (k : Counters) (next : Next) (l : Log) : Type 0 where
  pub kept : k ≡ counters_of m.trail.values (λ c. clause_at l.store.starts l.store.literals c) run.clauses
  pub more : (after : Run) → next ≡ Continue after → after.clauses ≡ run.clauses + 1
  pub full : (last : Ended) → next ≡ Break last → last.run.clauses ≡ run.clauses

pub instance-kept : (rules : List ℕ) (sizes : Sizes) (i : Instance) (m : Machine) (run : Run) {next : Next} {l : Log}
    → stepped next l ≡ instance_step m.trail.values rules sizes i (log_in m run) run
    → ClausesFit m.store.starts m.store.literals m.store.heads sizes.clauses run.clauses
    → {k : Counters} → CountsKept m run k → LoggedKept m run k next l
unfolding instance_step one_logged
instance-kept rules sizes i m run {next} {l} e fit {k} kept =
    by-option (log_under m.trail.values rules filling i.rule sizes.clauses (log_in m run))
    (λ q.
    let same : l ≡ log_in m run = ap (λ (x : Stepped Log). x.arrays) e ∙ rw (q, instance_step) in
    let its : next ≡ Break (ended_with Full run) = ap (λ (x : Stepped Log). x.next) e ∙ rw (q, instance_step) in
    record {
      kept = rw same kept;
      more = λ after z. apart (cc);
      full = λ last z. let y : last ≡ ended_with Full run = cc in ap (λ (x : Ended). x.run.clauses) y;
    })
    (λ g q.
    let same : l ≡ g = ap (λ (x : Stepped Log). x.arrays) e ∙ rw (q, instance_step) in
    let its : next ≡ Continue (one_logged g.atoms run) = ap (λ (x : Stepped Log). x.next) e ∙ rw (q, instance_step) in
    record {
      kept = rw same (kept ∙ counters-same m.trail.values _ _ run.clauses (omega (arith, fit.limit)) (λ c b. sym (log-keeps rules filling i.rule sizes.clauses (log_in m run) g fit m.trail.values q c b)));
      more = λ after z. let y : after ≡ one_logged g.atoms run = cc in ap (λ (x : Run). x.clauses) y;
      full = λ last z. apart (cc);
    })
  where
    filling : List ℕ
    filling = filling_of sizes.constants (rule_variables rules i.rule) i.filling

-- ── steps on the trail change no clause ──

flip-clauses : (n : ℕ) (t : TrailArrays) (run : Run) → (run_after (flip_at n t run).next).clauses ≡ run.clauses
unfolding flip_at one_conflict
flip-clauses zero t run = refl
flip-clauses (suc n) t run = refl

module _ (t : TrailArrays) (run : Run) {next : Next} {t' : TrailArrays} where
  pub conflict-clauses : stepped next t' ≡ conflict_step t run → (run_after next).clauses ≡ run.clauses
  unfolding conflict_step
  conflict-clauses e = ap (λ (x : Stepped TrailArrays). (run_after x.next).clauses) e ∙ flip-clauses (latest_decision t.marks run.set) t run

  pub unit-clauses : (w : ℕ) → stepped next t' ≡ unit_step w t run → (run_after next).clauses ≡ run.clauses
  unfolding unit_step one_set
  unit-clauses w e = ap (λ (x : Stepped TrailArrays). (run_after x.next).clauses) e

  pub goal-clauses : (goals budget : ℕ) → stepped next t' ≡ goal_step goals budget t run → (run_after next).clauses ≡ run.clauses
  unfolding goal_step decide_step one_decided
  goal-clauses goals budget e =
      ap (λ (x : Stepped TrailArrays). (run_after x.next).clauses) e
      ∙ by-test (eqb (first_unset t.values 0 goals) goals)
      (λ q. rw (q, goal_step))
      (λ q. rw (q, goal_step) (by-test (leb budget run.decisions) (λ z. rw (z, decide_step)) (λ z. rw (z, decide_step))))
