-- Every step of the machine stands for a step of the search, kind by kind: what the search finds fixes each test of the machine, and
-- the arrays then change as the state does. Assumes nothing.
use Rattle.std.specs.Prelude.{ℕ, zero, suc, ◌+◌, ◌-◌, ◌*◌, ◌<◌, ◌≡◌, true, false, List, [], ◌∷◌, get_or, drop, Some, None}
use Rattle.std.proofs.Math.Path.{refl, sym, ap, subst}
use Rattle.std.proofs.Common.{◌∙◌, length-set, arith, ltb-true, ltb-false, eq-eqb, ne_eqb, le-leb, Continue, Break}
use Rattle.std.proofs.Math.Option.{Option, none, some}
use Rattle.std.proofs.Math.ListN.{length, take, length-append}
use Rattle.std.proofs.lemmas.Bool.{lt-leb}
use Rattle.definitions.specs.Lists.{◌∈◌, joined}
use Rattle.definitions.specs.Words.{Atom, Literal, plain, Problem, goal_atoms, position}
use Rattle.definitions.specs.Instances.{task_of}
use Rattle.definitions.specs.Search.{Why, decided, flipped, forced, Trail, is_unset, Logged, State, conflict, force, next_act, next_instance, logged_of, enter_taken, next_goal, backtrack, set_unit, log_instance, decide, after_conflict, Outcome, more, done, has_room, step}
use Rattle.definitions.specs.declared.Verdict.{Verdict}
use Rattle.definitions.specs.declared.Verdict.TheVariants.{Unsat, Unknown, Spent, Full}
use Rattle.theory.specs.Tests.{none≢some, some-injective}
use Rattle.theory.specs.TableLaws.{by-known, enter-known, enter-fresh}
use Rattle.theory.specs.Limits.{Searchable}
use Rattle.theory.specs.Steps.{Step, unit, undone, refuted, logs, overflows, decides, overspends, rests, kind}
use Rattle.theory.specs.Counts.{step_counts}
use Rattle.theory.proofs.Invariants.{step-sound}
use Rattle.encoding.specs.Slots.{rule_words}
use Rattle.encoding.specs.ValueLaws.{length-assigned}
use Rattle.encoding.specs.Encoding.{literal_word, sizes_of}
use Rattle.units.specs.ClausesStand.{act_word}
use Rattle.units.specs.TrailWords.{mark_of, latest_decision, cleared, first_unset, TrailStands}
use Rattle.units.specs.LiteralWords.{word-plain}
use Rattle.units.specs.Stacks.{length-cleared}
use Rattle.units.specs.TrailLaws.{room-kept, set-stands, grown-stands}
use Rattle.walk.specs.Walk.{walk_from, Found}
use Rattle.walk.specs.WalkStands.{WalkAs}
use Rattle.clause_log.specs.Logging.{Log}
use Rattle.clause_log.specs.LogHolds.{LogHolds}
use Rattle.clause_log.specs.LogStands.{logged-full, logged-stands}
use Rattle.machine.specs.Machine.{ended_with, log_in, Stands, StandsAtEnd, RulesStand, NextStands}
use Rattle.machine.specs.declared.Machine.{Machine}
use Rattle.machine.specs.MachineSteps.{Stepped, stepped, with_trail, with_log, on_trail, on_log, one_set, one_decided, one_conflict, one_logged, flip_at, conflict_step, unit_step, instance_step, decide_step, goal_step, machine_step}
use Rattle.units.specs.TrailArrays.{set_at, undo_from}
use Rattle.machine.specs.StandsLaws.{true-words, true-known, room_for, act-as, unit-unset, back_none, back_some, walk-as, goal-unset, goal-none, goal-some}
use Rattle.units.specs.BacktrackLaws.{zero-backtrack-none}
use Rattle.rules.specs.RuleStands.{rule-variables}
use Rattle.machine.specs.declared.Run.{Run}
use Rattle.walk.specs.declared.Instance.{Instance}

-- ── what a step of the machine comes to ──

by_number : (n : ℕ) {C : Type 0} → (n ≡ 0 → C) → ((i : ℕ) → n ≡ suc i → C) → C
by_number zero z f = z refl
by_number (suc i) z f = f i refl

module _ (p : Problem) (budget : ℕ) where
  goes_on : {s : State} {x : Stepped Machine} {m : Machine} {run : Run} → x ≡ stepped (Continue run) m → Stands p budget s m run
      → NextStands p budget (more s) x.next x.arrays
  goes_on {s} {run = run} e h =
      (run, ap (λ (y : Stepped Machine). y.next) e, subst (λ (y : Stepped Machine). Stands p budget s y.arrays run) (sym e) h)

  ends : (v : Verdict) {s : State} {x : Stepped Machine} {m : Machine} {run : Run} → x ≡ stepped (Break (ended_with v run)) m → StandsAtEnd p budget v s m run
      → NextStands p budget (done v s) x.next x.arrays
  ends v {s} {run = run} e h =
      (run, ap (λ (y : Stepped Machine). y.next) e, subst (λ (y : Stepped Machine). StandsAtEnd p budget v s y.arrays run) (sym e) h)

module _ (p : Problem) (budget : ℕ) (rules : List ℕ) (rules_stand : RulesStand p rules) (s : State) (m : Machine) (run : Run) (h : Stands p budget s m run) where
  abbrev given : ℕ
  given = length p.clauses

  abbrev goals : ℕ
  goals = length (goal_atoms p.clauses)

  abbrev result : Stepped Machine
  result = machine_step rules (sizes_of p) budget m run

  abbrev walk : Found
  walk = walk_from m.trail.values m.table.index rules p.constants 0 (length p.rules)

  abbrev limits : Searchable p
  limits = rules_stand.limits

  abbrev words : take (22 * length p.rules) rules ≡ joined rule_words p.rules
  words = rules_stand.words

  -- ── the machine's tests ──

  on-conflict : next_act (task_of p) s ≡ some conflict → result ≡ on_trail m (conflict_step m.trail run)
  unfolding machine_step sizes_of act_word
  on-conflict e = cc (act-as p budget s m run h)

  on-unit : (l : Literal) → next_act (task_of p) s ≡ some (force l) → result ≡ on_trail m (unit_step (literal_word s.table l) m.trail run)
  unfolding machine_step sizes_of act_word
  on-unit l e = cc (act-as p budget s m run h)

  on-instance : (i : Instance) → next_act (task_of p) s ≡ none → walk ≡ Some i
      → result ≡ on_log m (instance_step m.trail.values rules (sizes_of p) i (log_in m run) run)
  unfolding machine_step sizes_of act_word
  on-instance i e w = cc (act-as p budget s m run h)

  on-goal : next_act (task_of p) s ≡ none → walk ≡ None
      → result ≡ on_trail m (goal_step goals budget m.trail run)
  unfolding machine_step sizes_of act_word
  on-goal e w = cc (act-as p budget s m run h)

  -- the walk finds nothing where the search does
  walk-nowhere : next_instance (task_of p) s ≡ none → walk ≡ None
  walk-nowhere e = cases walk (walk-as p budget s m run h rules rules_stand)
    where
      cases : (found : Found) → WalkAs p s found → found ≡ None
      cases None w = refl
      cases (Some w) (x, its, below, first) = none≢some (sym e ∙ first)

  goal-rests : next_goal (task_of p) s ≡ none → goal_step goals budget m.trail run ≡ stepped (Break (ended_with Unknown run)) m.trail
  unfolding goal_step
  goal-rests e = cc (eq-eqb (first_unset m.trail.values 0 goals) goals (goal-none p budget s m run h e))

  goal-decides : (a : Atom) → next_goal (task_of p) s ≡ some a → goal_step goals budget m.trail run ≡ decide_step budget (position s.table a) m.trail run
  unfolding goal_step
  goal-decides a e =
      let (first, below) = goal-some p budget s m run h a e in
      cc (ne_eqb (first_unset m.trail.values 0 goals) goals (λ q. omega (arith, q, first, below)))

  -- ── a literal is set ──

  set-trail : (l : Literal) (y : Why) → l.atom ∈ s.table → is_unset s.trail l ≡ true → (w : ℕ) → w ≡ literal_word s.table l
      → let t = set_at run.set w (mark_of y) m.trail in TrailStands s.table (record { literal = l; why = y } ∷ s.trail) t.values t.words t.marks
  unfolding set_at
  set-trail l y i u w q =
      let small : length s.trail < 256 = omega (arith, h.set, room_for p budget s m run h l i u) in
      rw (q, h.set) (set-stands h.room h.trail l y u i small)

  unit-stands : (l : Literal) → next_act (task_of p) s ≡ some (force l)
      → Stands p budget (set_unit s l) (with_trail (set_at run.set (literal_word s.table l) (mark_of forced) m.trail) m) (one_set run)
  unfolding set_unit set_at one_set
  unit-stands l e =
      let (inside, unset) = unit-unset p budget s m run h l e in
      record {
        sound = step-sound (task_of p) budget s h.sound (more (set_unit s l)) (unit l e);
        counted = step_counts (task_of p) budget s h.counted (more (set_unit s l)) (unit l e);
        log = h.log;
        trail = set-trail l forced inside unset (literal_word s.table l) refl;
        room = room-kept h.room (length-assigned m.trail.values _) (length-set m.trail.words _ _) (length-set m.trail.marks _ _);
        set = omega (arith, h.set);
        decisions = h.decisions;
        conflicts = h.conflicts;
      }

  decide-stands : (a : Atom) → (d : Step (task_of p) budget s (more (decide s a))) → next_goal (task_of p) s ≡ some a
      → Stands p budget (decide s a) (with_trail (set_at run.set (2 * position s.table a) (mark_of decided) m.trail) m) (one_decided run)
  unfolding decide set_at one_decided
  decide-stands a d e =
      let (inside, unset) = goal-unset p budget s m run h a e in
      record {
        sound = step-sound (task_of p) budget s h.sound (more (decide s a)) d;
        counted = step_counts (task_of p) budget s h.counted (more (decide s a)) d;
        log = h.log;
        trail = set-trail (plain a) decided inside unset (2 * position s.table a) (sym (word-plain s.table a));
        room = room-kept h.room (length-assigned m.trail.values _) (length-set m.trail.words _ _) (length-set m.trail.marks _ _);
        set = omega (arith, h.set);
        decisions = omega (arith, h.decisions);
        conflicts = h.conflicts;
      }

  -- ── a conflict ──

  undone-as : next_act (task_of p) s ≡ some conflict → (at : ℕ) → latest_decision m.trail.marks run.set ≡ suc at
      → result ≡ stepped (Continue (one_conflict (suc at) run)) (with_trail (set_at at (get_or m.trail.words at 0 + 1) (mark_of flipped) (undo_from at run.set m.trail)) m)
  unfolding on_trail conflict_step flip_at
  undone-as e at q = on-conflict e ∙ cc

  undone-stands : (u : Trail) → next_act (task_of p) s ≡ some conflict → backtrack s.trail ≡ some u → (at : ℕ) → latest_decision m.trail.marks run.set ≡ suc at
      → Stands p budget (after_conflict s u) (with_trail (set_at at (get_or m.trail.words at 0 + 1) (mark_of flipped) (undo_from at run.set m.trail)) m) (one_conflict (suc at) run)
  unfolding after_conflict set_at undo_from one_conflict
  undone-stands u e b at q =
      let d = back_some p budget s m run h u b at q in
      let ws = take (run.set - at) (drop at m.trail.words) in
      let place : suc at - 1 ≡ at = omega arith in
      record {
        sound = step-sound (task_of p) budget s h.sound (more (after_conflict s u)) (undone u e b);
        counted = step_counts (task_of p) budget s h.counted (more (after_conflict s u)) (undone u e b);
        log = h.log;
        trail = rw h.set (rw place at d.stands);
        room = room-kept h.room (length-assigned (cleared m.trail.values ws) _ ∙ length-cleared m.trail.values ws) (length-set m.trail.words _ _)
            (length-set m.trail.marks _ _);
        set = sym d.size;
        decisions = h.decisions;
        conflicts = omega (arith, h.conflicts);
      }

  refuted-as : next_act (task_of p) s ≡ some conflict → backtrack s.trail ≡ none → result ≡ stepped (Break (ended_with Unsat (one_conflict run.set run))) m
  unfolding on_trail conflict_step flip_at
  refuted-as e b =
      let none-stands : conflict_step m.trail run ≡ stepped (Break (ended_with Unsat (one_conflict run.set run))) m.trail = cc (back_none p budget s m run h b) in
      on-conflict e ∙ ap (on_trail m) none-stands

  refuted-stands : next_act (task_of p) s ≡ some conflict → backtrack s.trail ≡ none
      → StandsAtEnd p budget Unsat (after_conflict s s.trail) m (one_conflict run.set run)
  unfolding after_conflict one_conflict
  refuted-stands e b =
      record {
        sound = step-sound (task_of p) budget s h.sound (done Unsat (after_conflict s s.trail)) (refuted e b);
        counted = step_counts (task_of p) budget s h.counted (done Unsat (after_conflict s s.trail)) (refuted e b);
        log = h.log;
        trail = h.trail;
        room = h.room;
        set = h.set;
        decisions = h.decisions;
        conflicts = omega (arith, h.conflicts);
      }

  -- ── an instance ──

  -- the trail is the same over a table that has grown
  grown-trail : (o : Option Literal) → TrailStands (enter_taken s.table o) s.trail m.trail.values m.trail.words m.trail.marks
  unfolding enter_taken
  grown-trail none = h.trail
  grown-trail (some l) =
      by-known l.atom s.table
      (λ i. rw (enter-known s.table l.atom i) h.trail)
      (λ out. rw (enter-fresh s.table l.atom out) (grown-stands h.trail h.sound.fits.entered l.atom out))

  logs-stands : (i : Rattle.definitions.specs.Instances.Instance) (l : Log) → (d : Step (task_of p) budget s (more (log_instance s (logged_of s.trail i))))
      → LogHolds p (log_instance s (logged_of s.trail i)) l
      → Stands p budget (log_instance s (logged_of s.trail i)) (with_log l m) (one_logged l.atoms run)
  unfolding log_instance one_logged
  logs-stands i l d e =
      let g = logged_of s.trail i in
      let sound = step-sound (task_of p) budget s h.sound (more (log_instance s g)) d in
      let count : l.clauses ≡ run.clauses + 1 = omega (arith, e.clauses, h.log.clauses, length-append s.log (g ∷ [])) in
      record {
        sound = sound;
        counted = step_counts (task_of p) budget s h.counted (more (log_instance s g)) d;
        log = subst (λ (n : ℕ). LogHolds p (log_instance s g) (record { atoms = l.atoms; clauses = n; store = l.store; table = l.table })) count e;
        trail = grown-trail g.taken;
        room = record { table-size = sound.fits.table_size; values-size = h.room.values-size; trail-size = h.room.trail-size; marks-size = h.room.marks-size };
        set = h.set;
        decisions = h.decisions;
        conflicts = h.conflicts;
      }

  -- the instance that the search logs is the one that the walk finds, under the filling of its number
  module _ (i : Rattle.definitions.specs.Instances.Instance) (no_act : next_act (task_of p) s ≡ none) (found : next_instance (task_of p) s ≡ some i) where
    abbrev logged : Logged
    logged = logged_of s.trail i

    logs-next : (d : Step (task_of p) budget s (more (log_instance s logged))) → has_room s logged ≡ true
        → NextStands p budget (more (log_instance s logged)) result.next result.arrays
    unfolding instance_step on_log sizes_of
    logs-next d room = cases walk refl (walk-as p budget s m run h rules rules_stand)
      where
        cases : (w : Found) → walk ≡ w → WalkAs p s w → NextStands p budget (more (log_instance s logged)) result.next result.arrays
        cases None q e = none≢some (sym e ∙ found)
        cases (Some w) q (x, its, below, first) =
            let same = some-injective (sym found ∙ first) in
            let (l, put, holds) = logged-stands p limits rules words s m.trail.values (log_in m run) h.log (true-words p budget s m run h) (true-known p budget s m run h) w.rule x its w.filling below first (rw same at room) in
            let comes : instance_step m.trail.values rules (sizes_of p) w (log_in m run) run ≡ stepped (Continue (one_logged l.atoms run)) l =
            cc (put, rule-variables p limits rules words w.rule x its) in
            goes_on p budget (on-instance w no_act q ∙ ap (on_log m) comes) (logs-stands i l d (subst (λ j. LogHolds p (log_instance s (logged_of s.trail j)) l) (sym same) holds))

    overflows-as : has_room s logged ≡ false → result ≡ stepped (Break (ended_with Full run)) m
    unfolding instance_step on_log sizes_of
    overflows-as full = cases walk refl (walk-as p budget s m run h rules rules_stand)
      where
        cases : (w : Found) → walk ≡ w → WalkAs p s w → result ≡ stepped (Break (ended_with Full run)) m
        cases None q e = none≢some (sym e ∙ found)
        cases (Some w) q (x, its, below, first) =
            let same = some-injective (sym found ∙ first) in
            let put = logged-full p limits rules words s m.trail.values (log_in m run) h.log (true-words p budget s m run h) (true-known p budget s m run h) w.rule x its w.filling below first (rw same at full) in
            let comes : instance_step m.trail.values rules (sizes_of p) w (log_in m run) run ≡ stepped (Break (ended_with Full run)) (log_in m run) =
            cc (put, rule-variables p limits rules words w.rule x its) in
            on-instance w no_act q ∙ ap (on_log m) comes

  -- ── every kind of step ──

  step-as : (o : Outcome) → Step (task_of p) budget s o → NextStands p budget o result.next result.arrays
  unfolding on_trail unit_step decide_step
  step-as o (unit l e) = goes_on p budget (on-unit l e) (unit-stands l e)
  step-as o (undone u e b) =
      by_number (latest_decision m.trail.marks run.set)
      (λ z. none≢some (sym (zero-backtrack-none h.trail (rw h.set at z)) ∙ b))
      (λ at q. goes_on p budget (undone-as e at q) (undone-stands u e b at q))
  step-as o (refuted e b) = ends p budget Unsat (refuted-as e b) (refuted-stands e b)
  step-as o (logs i e n r) = logs-next i e n (logs i e n r) r
  step-as o (overflows i e n r) = ends p budget Full (overflows-as i e n r) h
  step-as o (decides a e n g r) =
      let test = lt-leb budget s.decisions (ltb-true s.decisions budget r) in
      goes_on p budget (on-goal e (walk-nowhere n) ∙ ap (on_trail m) (goal-decides a g ∙ cc (test, h.decisions))) (decide-stands a (decides a e n g r) g)
  step-as o (overspends a e n g r) =
      let test = le-leb budget s.decisions (ltb-false s.decisions budget r) in
      ends p budget Spent (on-goal e (walk-nowhere n) ∙ ap (on_trail m) (goal-decides a g ∙ cc (test, h.decisions))) h
  step-as o (rests e n g) = ends p budget Unknown (on-goal e (walk-nowhere n) ∙ ap (on_trail m) (goal-rests g)) h

pub step-stands : (p : Problem) (budget : ℕ) (rules : List ℕ) → RulesStand p rules → (s : State) (m : Machine) (run : Run) → Stands p budget s m run
    → NextStands p budget (step (task_of p) budget s)
    (machine_step rules (sizes_of p) budget m run).next
    (machine_step rules (sizes_of p) budget m run).arrays
step-stands p budget rules rules_stand s m run h = step-as p budget rules rules_stand s m run h (step (task_of p) budget s) (kind (task_of p) budget s)
