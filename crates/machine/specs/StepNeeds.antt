-- What the calls of a step ask for, wherever the machine stands for a state of a search. Assumes nothing.
use Rattle.std.specs.Prelude.{ℕ, zero, suc, ◌+◌, ◌≤◌, ◌<◌, ◌^◌, ◌≡◌, refl, true, List, eqb, length, Some, None}
use Rattle.std.proofs.Common.{sym, ap, ◌∙◌, arith}
use Rattle.std.proofs.Math.Path.{subst}
use Rattle.std.proofs.Math.Option.{Option, none, some}
use Rattle.std.proofs.Math.ListN.{get_or}
use Rattle.std.proofs.lemmas.Bool.{eqb-false, not-true}
use Rattle.definitions.specs.Lists.{◌∈◌}
use Rattle.definitions.specs.Words.{Atom, Literal, plain, Problem}
use Rattle.definitions.specs.Instances.{task_of}
use Rattle.definitions.specs.Search.{State, Act, conflict, force, next_act, next_goal, backtrack}
use Rattle.theory.specs.Limits.{few-literals}
use Rattle.theory.specs.Tests.{by-option, apart, and_left}
use Rattle.theory.specs.ListLaws.{all-each}
use Rattle.theory.specs.Ends.{trail-length}
use Rattle.encoding.specs.Encoding.{literal_word, sizes_of}
use Rattle.encoding.specs.CodeLaws.{index-within}
use Rattle.encoding.specs.HoldLaws.{its-clauses, its-goals}
use Rattle.encoding.specs.declared.Sizes.{Sizes}
use Rattle.encoding.specs.Values.{Values}
use Rattle.units.specs.Units.{ClausesFit}
use Rattle.units.specs.ClausesStand.{act_word}
use Rattle.units.specs.TrailWords.{latest_decision, first_unset}
use Rattle.units.specs.LiteralWords.{word_small}
use Rattle.units.specs.TrailLaws.{words_small}
use Rattle.walk.specs.Walk.{fires_at, first_from, walk_from, found_at}
use Rattle.rules.specs.Firing.{fires_under}
use Rattle.clause_log.specs.Logging.{LogFits}
use Rattle.machine.specs.Machine.{log_in, act_of, walk_of, Stands, Running}
use Rattle.machine.specs.declared.Machine.{Machine}
use Rattle.machine.specs.StandsLaws.{room_for, act-as, unit-unset, back_none, back_some, goal-unset, goal-none, goal-some}
use Rattle.machine.specs.declared.Run.{Run}
use Rattle.units.specs.declared.UnitAct.TheVariants.{Force, Nothing}
use Rattle.walk.specs.declared.Instance.{Instance}
use Rattle.walk.specs.WalkLaws.{found_below, first_from-passes, found-same}
use Rattle.rules.specs.Rules.{code_under, true_under, head_slots, rule_variables, RulesFit, IndexFits}
use Rattle.rules.specs.Fillings.{filling_of, filling_count}
use Rattle.rules.specs.RuleStands.{rules-fit}
use Rattle.rules.specs.RuleLaws.{fewer-fit}

-- a word is forced where a literal is
force-of : (table : List Atom) (o : Option Act) (w : ℕ) → act_word table o ≡ Force w → (l : Literal) × (o ≡ some (force l)) × (w ≡ literal_word table l)
unfolding act_word
force-of table none w e = apart (cc)
force-of table (some conflict) w e = apart (cc)
force-of table (some (force l)) w e = (l, refl, cc)

module _ (values : Values) (index rules : List ℕ) (n : ℕ) where
  -- what the walk finds fires
  walk-fires : (at k : ℕ) (i : Instance) → walk_from values index rules n at k ≡ Some i → fires_at values index rules n i.rule i.filling ≡ true
  unfolding walk_from
  walk-fires at zero i e = apart (let z : None ≡ Some i = e in cc)
  walk-fires at (suc k) i e =
      by-option (first_from (fires_at values index rules n at) 0 (filling_count rules n at))
      (λ q. walk-fires (suc at) k i (cc))
      (λ g q. let same : found_at at g ≡ Some i = cc in let (its, it) = found-same at g i.rule i.filling same in rw (← its, ← it) (first_from-passes (fires_at values index rules n at) 0 (filling_count rules n at) g q))

  -- so its heads are true, and their atoms are in the index
  fires-entered : (r f : ℕ) → fires_at values index rules n r f ≡ true → (b : ℕ) → b ∈ head_slots rules r
      → 1 ≤ get_or index (code_under rules (filling_of n (rule_variables rules r) f) b) 0
  unfolding fires_at fires_under true_under
  fires-entered r f e b m =
      let filling = filling_of n (rule_variables rules r) f in
      let heads = and_left _ _ e in
      let here = all-each (true_under values index rules filling) (head_slots rules r) heads b m in
      let place = get_or index (code_under rules filling b) 0 in
      let other = eqb-false place 0 (not-true (eqb place 0) (and_left _ _ here)) in
      omega (arith, other)

module _ (budget : ℕ) (rules : List ℕ) (sizes : Sizes) (m : Machine) (run : Run) (running : Running budget rules sizes m run) where
  abbrev p : Problem
  p = running.problem

  abbrev s : State
  s = running.state

  abbrev h : Stands running.problem budget running.state m run
  h = running.stands

  -- step A
  pub units-fit : (sizes.atoms ≤ 256) × ClausesFit m.store.starts m.store.literals m.store.heads sizes.clauses run.clauses
  units-fit = (omega (arith, its-goals p running.counts, running.rules_stand.limits.goals), rw (its-clauses p running.counts) h.log.fit)

  -- a unit
  pub unit-literal : (w : ℕ) → act_of sizes m run ≡ Force w → (l : Literal) × (next_act (task_of p) s ≡ some (force l)) × (w ≡ literal_word s.table l)
  unfolding sizes_of
  unit-literal w e = force-of s.table _ w (sym (ap (λ (x : Sizes). act_of x m run) running.counts ∙ act-as p budget s m run h) ∙ e)

  pub unit-fits : (w : ℕ) → act_of sizes m run ≡ Force w → (run.set < 256) × (w < 512)
  unit-fits w e =
      let (l, q, its) = unit-literal w e in
      let (inside, unset) = unit-unset p budget s m run h l q in
      (room_for p budget s m run h l inside unset, rw its (word_small s.table l h.room.table-size inside))

  -- a conflict: the trail, its words, and the counts
  pub trail-fits : run.set ≤ 256
  trail-fits = omega (arith, h.set, trail-length h.sound.fits)

  pub trail-whole : length m.trail.words ≡ 256
  trail-whole = h.room.trail-size

  pub words-fit : (i : ℕ) → i < run.set → get_or m.trail.words i 0 < 512
  words-fit i b = words_small h.room.table-size h.trail h.sound.fits.entered i (omega (arith, h.set))

  pub flip-fits : (at : ℕ) → latest_decision m.trail.marks run.set ≡ suc at → (at < run.set) × (get_or m.trail.words at 0 + 1 < 512)
  flip-fits at e =
      by-option (backtrack s.trail)
      (λ q. absurd (omega (arith, e, back_none p budget s m run h q)))
      (λ u q. let d = back_some p budget s m run h u q at e in (omega (arith, h.set, d.within), d.small))

  pub conflicts-fit : run.conflicts + 1 < 2 ^ 64
  conflicts-fit = omega (arith, h.conflicts, h.counted.balance, h.counted.within, running.small)

  -- step B
  index-small : IndexFits m.table.index 256
  index-small code = rw h.log.index (omega (arith, index-within s.table code, h.room.table-size))

  pub rules-and-index : RulesFit rules sizes.constants sizes.rules × IndexFits m.table.index 256
  unfolding sizes_of
  rules-and-index = (
    subst (λ (x : Sizes). RulesFit rules x.constants x.rules) (sym running.counts) (rules-fit p running.rules_stand.limits rules running.rules_stand.words),
    index-small,
  )

  pub log-fits : (i : Instance) → act_of sizes m run ≡ Nothing → walk_of rules sizes m ≡ Some i
      → RulesFit rules sizes.constants (i.rule + 1) × (i.filling < filling_count rules sizes.constants i.rule) × LogFits rules (filling_of sizes.constants (rule_variables rules i.rule) i.filling) i.rule sizes.clauses (log_in m run)
  log-fits i e g = (
    fewer-fit rules sizes.constants sizes.rules (i.rule + 1) rules-and-index.0 (let b = (found_below m.trail.values m.table.index rules sizes.constants 0 sizes.rules i.rule i.filling g).0 in omega arith),
    (found_below m.trail.values m.table.index rules sizes.constants 0 sizes.rules i.rule i.filling g).1,
    record {
      goals = omega (arith, its-clauses p running.counts, running.rules_stand.limits.clauses);
      behind = omega (arith, its-clauses p running.counts, h.log.clauses);
      few = omega (arith, its-clauses p running.counts, h.log.clauses, h.log.log_fits);
      atoms = omega (arith, h.log.atoms, h.log.table_fits);
      room = λ less. omega (arith, h.log.used, h.log.clauses, its-clauses p running.counts, few-literals p running.rules_stand.limits);
      index = index-small;
      entered = fires-entered m.trail.values m.table.index rules sizes.constants i.rule i.filling (walk-fires m.trail.values m.table.index rules sizes.constants 0 sizes.rules i g);
    },
  )

  -- step C
  pub goals-few : sizes.atoms ≤ 64
  goals-few = omega (arith, its-goals p running.counts, running.rules_stand.limits.goals)

  pub goal-fits : (first_unset m.trail.values 0 sizes.atoms ≡ sizes.atoms → ⊥) → (first_unset m.trail.values 0 sizes.atoms < sizes.atoms) × (run.set < 256)
  goal-fits n =
      by-option (next_goal (task_of p) s)
      (λ e. absurd (n (rw (its-goals p running.counts) (goal-none p budget s m run h e))))
      (λ a e. let (first, below) = goal-some p budget s m run h a e in
      let (inside, unset) = goal-unset p budget s m run h a e in
      (rw (its-goals p running.counts, first) below, room_for p budget s m run h (plain a) inside unset))
