-- What the laws of steps A, B and C say where the machine stands for a state: each test on the arrays is the test on the state.
-- Assumes nothing.
use Rattle.std.specs.Prelude.{ℕ, suc, ◌-◌, ◌<◌, ◌≡◌, refl, ◌⊎◌, true, length, get_or}
use Rattle.std.proofs.Common.{sym, ap, ◌∙◌, inl, inr, arith}
use Rattle.std.proofs.Math.Path.{subst}
use Rattle.std.proofs.Math.Option.{none, some}
use mathlib.Core.List.Memᴰ
use mathlib.Core.List.{List, ◌∷◌, ◌++◌, map}
use Rattle.std.proofs.lemmas.List.{length-map}
use Rattle.definitions.specs.Lists.{◌∈◌, Different}
use Rattle.definitions.specs.Words.{Atom, Literal, plain, Problem, goal_atoms, position}
use Rattle.definitions.specs.Instances.{Task, task_of}
use Rattle.definitions.specs.Search.{forced, Entry, Trail, is_true, is_unset, State, force, next_act, next_goal, backtrack, set_unit, more}
use Rattle.theory.specs.ListLaws.{at_split, in-along, pigeonhole}
use Rattle.theory.specs.SearchLaws.{Consistent, true-at, unset-new, goal-first}
use Rattle.theory.specs.Steps.{unit}
use Rattle.theory.specs.Trail.{Decision, Consequence, Ok, bare, next}
use Rattle.theory.specs.Choices.{choice_world}
use Rattle.theory.proofs.Choices.{inv-act}
use Rattle.theory.specs.Unknown.{consistent}
use Rattle.theory.specs.Ends.{Fits, step_fits}
use Rattle.units.specs.Units.{act_from}
use Rattle.encoding.specs.Standing.{TrueWords}
use Rattle.units.specs.ClausesStand.{act_word}
use Rattle.units.specs.UnitLaws.{act-stands}
use Rattle.units.specs.TrailWords.{latest_decision, first_unset, TrailStands}
use Rattle.walk.specs.Walk.{walk_from}
use Rattle.walk.specs.WalkStands.{WalkAs}
use Rattle.walk.proofs.WalkStands.{walk-stands}
use Rattle.clause_log.specs.LogHolds.{holds-index}
use Rattle.machine.specs.Machine.{log_in, Stands, RulesStand}
use Rattle.machine.specs.declared.Machine.{Machine}
use Rattle.encoding.specs.WordTruths.{true-word}
use Rattle.units.specs.BacktrackLaws.{DecidedTrue, backtrack-none-zero, Backtracked, backtrack-stands}
use Rattle.units.specs.FirstUnset.{first-unset-some, first-unset-none}
use Rattle.machine.specs.declared.Run.{Run}

-- decisions stand at true
decided-true : (k : Task) {t : Trail} → Ok k (choice_world k) t → DecidedTrue t
decided-true k bare e m w = absurd (Memᴰ.not-nil m)
decided-true k (next {e = d} {t = t} u r o) e m w =
    elim (Memᴰ.cases_cons m) [ inl q ↦ latest q r | inr n ↦ decided-true k o e n w ]
  where
    latest : e ≡ d → Decision k t d ⊎ Consequence k (choice_world k) t d → e.literal ≡ plain e.literal.atom
    latest q (inl c) = rw q c.positive
    latest q (inr c) = absurd (c.isnt (sym (ap (λ (x : Entry). x.why) q) ∙ w))

-- where an atom of the table is unset, the trail has room: its atoms are different ones of the table, and this is one more
unset-room : (k : Task) (s : State) → Fits k s → (l : Literal) → l.atom ∈ s.table → is_unset s.trail l ≡ true → length s.trail < 256
unset-room k s f l m u =
    let h = pigeonhole (l.atom ∷ atoms) s.table (new, f.different) inside in
    omega (arith, h, f.table_size, length-map s.trail atom_of)
  where
    atom_of : Entry → Atom
    atom_of e = e.literal.atom

    atoms : List Atom
    atoms = map atom_of s.trail

    new : l.atom ∈ atoms → ⊥
    new n = let (e, i, q) = Memᴰ.of_map atom_of s.trail n in unset-new s.trail l u e i q

    inside : (a : Atom) → a ∈ l.atom ∷ atoms → a ∈ s.table
    inside a n =
        elim (Memᴰ.cases_cons n) [
          | inl q ↦ Memᴰ.cast q m
          | inr i ↦ let (e, j, q) = Memᴰ.of_map atom_of s.trail i in Memᴰ.cast (sym q) (f.entered e j)
        ]

module _ (p : Problem) (budget : ℕ) (s : State) (m : Machine) (run : Run) (h : Stands p budget s m run) where
  pub trail-consistent : Consistent s.trail
  trail-consistent = consistent (task_of p) h.sound.inv.trailed

  pub trail-decided : DecidedTrue s.trail
  trail-decided = decided-true (task_of p) h.sound.inv.trailed

  -- a literal of the table is true just where its word is, and a true literal is one of the table
  pub true-words : TrueWords s.table s.trail m.trail.values
  true-words = true-word s.table s.trail m.trail.values h.trail.valued trail-consistent

  pub true-known : (l : Literal) → is_true s.trail l ≡ true → l.atom ∈ s.table
  true-known l e =
      let a = true-at s.trail l e in
      Memᴰ.cast (ap (λ (x : Literal). x.atom) (sym a.its)) (h.sound.fits.entered a.entry a.inside)

  -- there is room on the trail for an unset literal of the table
  pub room_for : (l : Literal) → l.atom ∈ s.table → is_unset s.trail l ≡ true → run.set < 256
  room_for l i u = rw h.set (unset-room (task_of p) s h.sound.fits l i u)

  -- step A
  pub act-as : act_from m.trail.values m.store.starts m.store.literals m.store.heads (length p.clauses) (length (goal_atoms p.clauses)) 0 run.clauses
      ≡ act_word s.table (next_act (task_of p) s)
  unfolding task_of
  act-as =
      rw h.log.clauses
      (act-stands (task_of p) s h.sound.tabled.created m.trail.values m.store.starts m.store.literals m.store.heads
      h.sound.tabled.split
      h.sound.fits.written
      trail-consistent
      h.trail.valued
      h.log.stand)

  -- the literal of a unit is unset, and its atom is in the table
  pub unit-unset : (l : Literal) → next_act (task_of p) s ≡ some (force l) → (l.atom ∈ s.table) × (is_unset s.trail l ≡ true)
  unfolding set_unit
  unit-unset l e =
      let f = step_fits (task_of p) budget s h.sound.fits (more (set_unit s l)) (unit l e) in
      (f.entered (record { literal = l; why = forced }) (Memᴰ.head refl), (inv-act (task_of p) s h.sound.inv (force l) e).unset)

  -- a conflict
  pub back_none : backtrack s.trail ≡ none → latest_decision m.trail.marks run.set ≡ 0
  back_none e = rw h.set (backtrack-none-zero h.trail e)

  pub back_some : (u : Trail) → backtrack s.trail ≡ some u → (at : ℕ) → latest_decision m.trail.marks run.set ≡ suc at
      → Backtracked s.table s.trail u m.trail.values m.trail.words m.trail.marks (suc at) (get_or m.trail.words at 0)
  back_some u e at q =
      let place : suc at - 1 ≡ at = omega arith in
      backtrack-stands h.room h.trail h.sound.fits.entered h.sound.fits.different trail-decided e (sym q ∙ rw h.set) (rw place)

  -- step B
  pub walk-as : (rules : List ℕ) → RulesStand p rules → WalkAs p s (walk_from m.trail.values m.table.index rules p.constants 0 (length p.rules))
  walk-as rules r =
      walk-stands p r.limits rules r.words s m.trail.values m.table.index
      (holds-index p r.limits s.table s.log (log_in m run) h.log)
      true-words
      true-known

  -- step C
  goal-in : (a : Atom) → a ∈ goal_atoms p.clauses → a ∈ s.table
  unfolding task_of
  goal-in = h.sound.fits.goals

  pub goal-unset : (a : Atom) → next_goal (task_of p) s ≡ some a → ((plain a).atom ∈ s.table) × (is_unset s.trail (plain a) ≡ true)
  unfolding task_of plain
  goal-unset a e =
      let f = goal-first (task_of p) s a e in
      (goal-in a (in-along f.split (at_split f.before f.after)), f.pass)

  goal-trail : TrailStands (goal_atoms p.clauses ++ h.sound.tabled.created) s.trail m.trail.values m.trail.words m.trail.marks
  unfolding task_of
  goal-trail = subst (λ (t : List Atom). TrailStands t s.trail m.trail.values m.trail.words m.trail.marks) h.sound.tabled.split h.trail

  goal-different : Different (goal_atoms p.clauses ++ h.sound.tabled.created)
  unfolding task_of
  goal-different = subst Different h.sound.tabled.split h.sound.tabled.different

  pub goal-none : next_goal (task_of p) s ≡ none → first_unset m.trail.values 0 (length (goal_atoms p.clauses)) ≡ length (goal_atoms p.clauses)
  unfolding task_of next_goal
  goal-none e = first-unset-none (goal_atoms p.clauses) h.sound.tabled.created goal-different goal-trail e

  pub goal-some : (a : Atom) → next_goal (task_of p) s ≡ some a
      → (first_unset m.trail.values 0 (length (goal_atoms p.clauses)) ≡ position s.table a) × (position s.table a < length (goal_atoms p.clauses))
  unfolding task_of next_goal
  goal-some a e =
      rw h.sound.tabled.split (first-unset-some (goal_atoms p.clauses) h.sound.tabled.created goal-different goal-trail a e)
