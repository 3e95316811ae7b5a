-- The search ends: the atoms of the trail stay different and in the table, and a measure falls with every step. Assumes nothing.
use Rattle.std.specs.Prelude.{ℕ, zero, suc, ◌+◌, ◌-◌, ◌*◌, ◌≤◌, ◌<◌, ◌≡◌, refl, true, [], ◌∷◌, map, ltb, length}
use Rattle.std.proofs.Common.{sym, ◌∙◌, ap, subst, inl, inr, arith, length-append, leb-true, ltb-true}
use Rattle.std.proofs.Math.Option.{none, some}
use mathlib.Core.List.Memᴰ
use Rattle.std.proofs.lemmas.List.{length-map}
use Rattle.definitions.specs.Lists.{◌∈◌, Different}
use Rattle.definitions.specs.Words.{Atom, Literal, negate, plain, goal_atoms}
use Rattle.definitions.specs.Instances.{Instance, Task}
use Rattle.definitions.specs.Search.{decided, flipped, forced, Entry, Trail, is_unset, Logged, clause_of, State, start, force, is_goal, next_act, next_instance, logged_of, enter_taken, next_goal, backtrack, set_unit, log_instance, decide, after_conflict, Outcome, more, done, has_room, step, run, enough, search_task}
use Rattle.definitions.specs.declared.Verdict.{Verdict}
use Rattle.theory.specs.Tests.{apart, and_left, and_right}
use Rattle.theory.specs.ListLaws.{in-along, at_split, pigeonhole}
use Rattle.theory.specs.WordLaws.{negate-atom, goal-of}
use Rattle.theory.specs.SearchLaws.{by-why, true-at, unset-new, clause-cases, force-unit, may_logged, act-from, fired, goal-first, enter_taken-old, enter_taken-new}
use Rattle.theory.specs.Steps.{Step, unit, undone, refuted, logs, overflows, decides, overspends, rests, kind, After, run-keeps, Falls, IsDone, run_ends}

-- what holds of every state: all atoms in use are in the table, none is set twice, and neither table nor log is too long
pub record Fits (k : Task) (s : State) : Type 0 where
  pub goals : (a : Atom) → a ∈ goal_atoms k.clauses → a ∈ s.table
  pub entered : (e : Entry) → e ∈ s.trail → e.literal.atom ∈ s.table
  pub written : (g : Logged) → g ∈ s.log → (l : Literal) → l ∈ clause_of g → l.atom ∈ s.table
  pub different : Different (map (λ (e : Entry). e.literal.atom) s.trail)
  pub table_size : length s.table ≤ 256
  pub log_size : length s.log ≤ 512

abbrev atom_of : Entry → Atom
atom_of e = e.literal.atom

-- ── every step keeps it ──

-- the literal of a unit is unset, and its atom is in the table
unit-in : (k : Task) (s : State) (l : Literal) → Fits k s → next_act k s ≡ some (force l) → (l.atom ∈ s.table) × (is_unset s.trail l ≡ true)
unit-in k s l f h =
    elim (act-from k s (force l) h) [
      | inl r ↦ let u = force-unit s.trail (is_goal k) r.0 l r.2 in
          (f.goals l.atom (goal-of k.clauses r.0 l r.1 u.inside), u.unset)
      | inr r ↦ let u = force-unit s.trail (may_logged k s.trail r.0) (clause_of r.0) l r.2 in
          (f.written r.0 r.1 l u.inside, u.unset)
    ]

-- one more entry, of an unset literal whose atom is in the table
entered-more : (k : Task) (s : State) (d : Entry) → Fits k s → atom_of d ∈ s.table → (e : Entry) → e ∈ d ∷ s.trail → atom_of e ∈ s.table
entered-more k s d f m e n = elim (Memᴰ.cases_cons n) [ inl q ↦ Memᴰ.cast (ap atom_of q) m | inr j ↦ f.entered e j ]

atom-new : (t : Trail) (l : Literal) → is_unset t l ≡ true → l.atom ∈ map atom_of t → ⊥
atom-new t l u m = let (e, n, q) = Memᴰ.of_map atom_of t m in unset-new t l u e n q

unit-fits : (k : Task) (s : State) (l : Literal) → Fits k s → next_act k s ≡ some (force l) → Fits k (set_unit s l)
unfolding set_unit
unit-fits k s l f h =
    let (m, u) = unit-in k s l f h in
    record {
      goals = f.goals;
      entered = entered-more k s _ f m;
      written = f.written;
      different = (atom-new s.trail l u, f.different);
      table_size = f.table_size;
      log_size = f.log_size;
    }

decide-fits : (k : Task) (s : State) (a : Atom) → Fits k s → next_goal k s ≡ some a → Fits k (decide s a)
unfolding decide plain
decide-fits k s a f h =
    let g = goal-first k s a h in
    record {
      goals = f.goals;
      entered = entered-more k s _ f (f.goals a (in-along g.split (at_split g.before g.after)));
      written = f.written;
      different = (atom-new s.trail (plain a) g.pass, f.different);
      table_size = f.table_size;
      log_size = f.log_size;
    }

-- after a conflict the trail has some of its atoms, different as before
backtrack-in : (t u : Trail) → backtrack t ≡ some u → (a : Atom) → a ∈ map atom_of u → a ∈ map atom_of t
unfolding backtrack negate
backtrack-in [] u h a m = apart (cc)
backtrack-in (e ∷ t) u h a m =
    by-why e.why
    (λ q. let z : u ≡ record { literal = negate e.literal; why = flipped } ∷ t = cc in rw z at m)
    (λ q. Memᴰ.tail (backtrack-in t u (cc) a m))
    (λ q. Memᴰ.tail (backtrack-in t u (cc) a m))

backtrack-different : (t u : Trail) → backtrack t ≡ some u → Different (map atom_of t) → Different (map atom_of u)
unfolding backtrack negate
backtrack-different [] u h d = apart (cc)
backtrack-different (e ∷ t) u h d =
    by-why e.why
    (λ q. let z : u ≡ record { literal = negate e.literal; why = flipped } ∷ t = cc in rw z d)
    (λ q. backtrack-different t u (cc) d.1)
    (λ q. backtrack-different t u (cc) d.1)

conflict-fits : (k : Task) (s : State) (t : Trail) → Fits k s → backtrack s.trail ≡ some t → Fits k (after_conflict s t)
unfolding after_conflict
conflict-fits k s t f h =
    record {
      goals = f.goals;
      entered = λ e m. let (d, n, q) = Memᴰ.of_map atom_of s.trail (backtrack-in s.trail t h (atom_of e) (Memᴰ.map atom_of m)) in
          Memᴰ.cast (sym q) (f.entered d n);
      written = f.written;
      different = backtrack-different s.trail t h f.different;
      table_size = f.table_size;
      log_size = f.log_size;
    }

refuted-fits : (k : Task) (s : State) → Fits k s → Fits k (after_conflict s s.trail)
unfolding after_conflict
refuted-fits k s f =
    record {
      goals = f.goals;
      entered = f.entered;
      written = f.written;
      different = f.different;
      table_size = f.table_size;
      log_size = f.log_size;
    }

-- a logged clause: the atoms of its heads are set, that of the literal taken enters
logged-in : (k : Task) (s : State) (i : Instance) → Fits k s → next_instance k s ≡ some i
    → (l : Literal) → l ∈ clause_of (logged_of s.trail i) → l.atom ∈ enter_taken s.table (logged_of s.trail i).taken
unfolding logged_of
logged-in k s i f e l m =
    elim (clause-cases (logged_of s.trail i) l m) [
      | inl r ↦ let a = true-at s.trail r.0 ((fired k s i e).heads r.0 r.1) in
          enter_taken-old s.table _ l.atom
          (Memᴰ.cast (ap (λ (x : Literal). x.atom) r.2 ∙ negate-atom r.0 ∙ ap (λ (x : Literal). x.atom) (sym a.its)) (f.entered a.entry a.inside))
      | inr q ↦ enter_taken-new s.table _ l q
    ]

log-fits : (k : Task) (s : State) (i : Instance) → Fits k s → next_instance k s ≡ some i → has_room s (logged_of s.trail i) ≡ true
    → Fits k (log_instance s (logged_of s.trail i))
unfolding log_instance has_room
log-fits k s i f e h =
    record {
      goals = λ a m. enter_taken-old s.table _ a (f.goals a m);
      entered = λ d m. enter_taken-old s.table _ (atom_of d) (f.entered d m);
      written = λ g m l n. elim (Memᴰ.append_cases s.log m) [
        | inl j ↦ enter_taken-old s.table _ l.atom (f.written g j l n)
        | inr j ↦ let q = Memᴰ.eq_of_singleton j in logged-in k s i f e l (rw q at n)
      ];
      different = f.different;
      table_size = leb-true (length (enter_taken s.table new.taken)) 256 (and_right (ltb (length s.log) 512) _ h);
      log_size = omega (arith, length-append s.log (new ∷ []), ltb-true (length s.log) 512 (and_left (ltb (length s.log) 512) _ h));
    }
  where
    new : Logged
    new = logged_of s.trail i

pub step_fits : (k : Task) (budget : ℕ) (s : State) → Fits k s → (o : Outcome) → Step k budget s o → After (Fits k) (λ v s. Fits k s) o
step_fits k budget s f o (unit l e) = unit-fits k s l f e
step_fits k budget s f o (undone t e b) = conflict-fits k s t f b
step_fits k budget s f o (refuted e b) = refuted-fits k s f
step_fits k budget s f o (logs i e m r) = log-fits k s i f m r
step_fits k budget s f o (overflows i e m r) = f
step_fits k budget s f o (decides a e m g r) = decide-fits k s a f g
step_fits k budget s f o (overspends a e m g r) = f
step_fits k budget s f o (rests e m g) = f

-- it holds at the start where the goal atoms are at most 256
pub start_fits : (k : Task) → length (goal_atoms k.clauses) ≤ 256 → Fits k (start k)
unfolding start
start_fits k h =
    record {
      goals = λ a m. m;
      entered = λ e m. absurd (Memᴰ.not-nil m);
      written = λ g m. absurd (Memᴰ.not-nil m);
      different = tt;
      table_size = h;
      log_size = omega arith;
    }

-- so it holds where a search ends
pub search-fits : (k : Task) (budget : ℕ) (v : Verdict) (s : State) → length (goal_atoms k.clauses) ≤ 256 → search_task k budget ≡ done v s → Fits k s
unfolding search_task
search-fits k budget v s h e =
    subst (After (Fits k) (λ v s. Fits k s)) e
    (run-keeps k budget (Fits k) (λ v s. Fits k s) (step_fits k budget) (enough budget) (start k) (start_fits k h))

-- the trail's atoms are different ones of the table, so they are no more
pub trail-length : {k : Task} {s : State} → Fits k s → length s.trail ≤ 256
trail-length {s = s} f =
    let h = pigeonhole (map atom_of s.trail) s.table f.different
    (λ a m. let (e, n, q) = Memᴰ.of_map atom_of s.trail m in Memᴰ.cast (sym q) (f.entered e n)) in
    omega (arith, f.table_size, length-map s.trail atom_of)

-- ── the measure ──

-- the decisions that stand at true
unfoldable pub standing : Trail → ℕ
standing [] = 0
standing (e ∷ t) = elim e.why [ decided ↦ suc (standing t) | flipped ↦ standing t | forced ↦ standing t ]

-- a decision may still be made, and one that stands may still be undone; each allows 256 literals to be set anew
unfoldable pub measure : ℕ → State → ℕ
measure budget s = 256 * ((budget - s.decisions) + standing s.trail) + (512 - length s.log) + (256 - length s.trail)

-- a conflict takes away one decision that stands at true
pub backtrack-standing : (t u : Trail) → backtrack t ≡ some u → standing t ≡ suc (standing u)
unfolding backtrack standing
backtrack-standing [] u h = apart (cc)
backtrack-standing (e ∷ t) u h =
    by-why e.why
    (λ q. cc)
    (λ q. cc (backtrack-standing t u (cc)))
    (λ q. cc (backtrack-standing t u (cc)))

-- and is only not undone where none stands
pub backtrack-none : (t : Trail) → backtrack t ≡ none → standing t ≡ 0
unfolding backtrack standing
backtrack-none [] h = refl
backtrack-none (e ∷ t) h =
    by-why e.why
    (λ q. apart (cc))
    (λ q. cc (backtrack-none t (cc)))
    (λ q. cc (backtrack-none t (cc)))

-- the flipped decision is left
backtrack-length : (t u : Trail) → backtrack t ≡ some u → 1 ≤ length u
unfolding backtrack
backtrack-length [] u h = apart (cc)
backtrack-length (e ∷ t) u h =
    by-why e.why
    (λ q. let z : u ≡ record { literal = negate e.literal; why = flipped } ∷ t = cc in rw z (omega arith))
    (λ q. backtrack-length t u (cc))
    (λ q. backtrack-length t u (cc))

-- a trail that fits has room for the entry that led to it
unit-falls : (budget : ℕ) (s : State) (l : Literal) → length (set_unit s l).trail ≤ 256 → measure budget (set_unit s l) < measure budget s
unfolding set_unit measure standing
unit-falls budget s l r = omega arith

decide-falls : (budget : ℕ) (s : State) (a : Atom) → ltb s.decisions budget ≡ true → length (decide s a).trail ≤ 256
    → measure budget (decide s a) < measure budget s
unfolding decide measure standing
decide-falls budget s a h r = omega (arith, ltb-true s.decisions budget h)

conflict-falls : (budget : ℕ) (s : State) (t : Trail) → backtrack s.trail ≡ some t → measure budget (after_conflict s t) < measure budget s
unfolding after_conflict measure
conflict-falls budget s t h = omega (arith, backtrack-standing s.trail t h, backtrack-length s.trail t h)

log-falls : (budget : ℕ) (s : State) (g : Logged) → has_room s g ≡ true → measure budget (log_instance s g) < measure budget s
unfolding log_instance measure has_room
log-falls budget s g h =
    omega (arith, length-append s.log (g ∷ []), ltb-true (length s.log) 512 (and_left (ltb (length s.log) 512) _ h))

pub step_falls : (k : Task) (budget : ℕ) (s : State) → Fits k s → (o : Outcome) → Step k budget s o → Falls (Fits k) (measure budget) s o
step_falls k budget s f o (unit l e) = let g = unit-fits k s l f e in (g, unit-falls budget s l (trail-length g))
step_falls k budget s f o (undone t e b) = (conflict-fits k s t f b, conflict-falls budget s t b)
step_falls k budget s f o (refuted e b) = tt
step_falls k budget s f o (logs i e m r) = (log-fits k s i f m r, log-falls budget s (logged_of s.trail i) r)
step_falls k budget s f o (overflows i e m r) = tt
step_falls k budget s f o (decides a e m g r) = let h = decide-fits k s a f g in (h, decide-falls budget s a r (trail-length h))
step_falls k budget s f o (overspends a e m g r) = tt
step_falls k budget s f o (rests e m g) = tt

-- ── the end ──

pub start-measure : (k : Task) (budget : ℕ) → measure budget (start k) < enough budget
unfolding start measure enough standing
start-measure k budget = omega arith

-- with at most 256 goal atoms the search ends, whatever the budget
pub search-ends : (k : Task) (budget : ℕ) → length (goal_atoms k.clauses) ≤ 256 → IsDone (search_task k budget)
unfolding search_task
search-ends k budget h =
    run_ends k budget (Fits k) (measure budget) (step_falls k budget) (enough budget) (start k) (start_fits k h) (start-measure k budget)

-- any two numbers of steps above the measure lead to the same outcome
pub run-enough : (k : Task) (budget n m : ℕ) (s : State) → Fits k s → measure budget s < n → measure budget s < m → run k budget n s ≡ run k budget m s
unfolding run
run-enough k budget zero m s f h j = absurd (omega arith)
run-enough k budget (suc n) zero s f h j = absurd (omega arith)
run-enough k budget (suc n) (suc m) s f h j =
    on (step k budget s) (step_falls k budget s f (step k budget s) (kind k budget s)) (λ s' f' h' j'. run-enough k budget n m s' f' h' j')
  where
    after : ℕ → Outcome → Outcome
    after x o = elim o [ more s' ↦ run k budget x s' | done v s' ↦ done v s' ]

    on : (o : Outcome) → Falls (Fits k) (measure budget) s o
        → ((s' : State) → Fits k s' → measure budget s' < n → measure budget s' < m → run k budget n s' ≡ run k budget m s')
        → after n o ≡ after m o
    on (more s') d rec = rec s' d.0 (omega (arith, d.1)) (omega (arith, d.1))
    on (done v s') d rec = refl
