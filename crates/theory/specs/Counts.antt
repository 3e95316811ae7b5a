-- The counts of a search, the log without repeats, the limits, and when SPENT and FULL come; each by an invariant. Assumes nothing.
use Rattle.std.specs.Prelude.{ℕ, suc, ◌+◌, ◌≤◌, ◌≡◌, refl, ◌⊎◌, true, false, List, [], ◌∷◌, leb, ltb, length}
use Rattle.std.proofs.Common.{sym, ◌∙◌, ap, subst, inl, inr, arith, length-append, leb-false, ltb-true, ltb-false}
use Rattle.std.proofs.Math.Option.{Option, none, some}
use Rattle.definitions.specs.Lists.{◌∈◌, any, all, added, Different}
use Rattle.definitions.specs.Words.{Atom, Literal, same_atom, goal_atoms}
use Rattle.definitions.specs.Instances.{Instance, Task}
use Rattle.definitions.specs.Search.{Trail, is_true, is_false, Logged, clause_of, State, start, not_false, act_on, is_goal, next_act, next_instance, logged_of, enter, enter_taken, set_unit, log_instance, decide, after_conflict, Outcome, done, has_room, run, enough, search_task}
use Rattle.definitions.specs.Verdicts.{SpentWhen, NoRoom, clause513, atom257, FullWhen}
use Rattle.definitions.specs.declared.Verdict.{Verdict}
use Rattle.definitions.specs.declared.Verdict.TheVariants.{Unsat, Unknown, Spent, Full}
use Rattle.theory.specs.Tests.{by-test, by-option, none≢some, some-injective, and_intro, or_right, true-and-false}
use Rattle.theory.specs.ListLaws.{all_of, different-more}
use Rattle.theory.specs.SearchLaws.{negated-false, unset-of, clause-taken, clause-cases, false-conflict, unit-force, may_logged, logged-quiet, Fired, fired}
use Rattle.theory.specs.Steps.{Step, unit, undone, refuted, logs, overflows, decides, overspends, rests, After, run-keeps}
use Rattle.theory.specs.Ends.{Fits, step_fits, start_fits, search-fits, standing, backtrack-standing, backtrack-none}

-- ── decisions and conflicts ──

-- each conflict undid one decision, the others stand at true
pub record Counted (budget : ℕ) (s : State) : Type 0 where
  pub balance : s.decisions ≡ s.conflicts + standing s.trail
  pub within : s.decisions ≤ budget

-- the last conflict of UNSAT undid none
abbrev pub CountsTell : ℕ → Verdict → State → Type 0
CountsTell budget Unsat s = (s.conflicts ≡ suc s.decisions) × (s.decisions ≤ budget)
CountsTell budget Unknown s = Counted budget s
CountsTell budget Spent s = Counted budget s
CountsTell budget Full s = Counted budget s

pub step_counts : (k : Task) (budget : ℕ) (s : State) → Counted budget s → (o : Outcome) → Step k budget s o → After (Counted budget) (CountsTell budget) o
unfolding set_unit log_instance decide after_conflict standing
step_counts k budget s c o (unit l e) = record { balance = c.balance; within = c.within }
step_counts k budget s c o (undone t e b) = record { balance = omega (arith, c.balance, backtrack-standing s.trail t b); within = c.within }
step_counts k budget s c o (refuted e b) = (omega (arith, c.balance, backtrack-none s.trail b), c.within)
step_counts k budget s c o (logs i e m r) = record { balance = c.balance; within = c.within }
step_counts k budget s c o (overflows i e m r) = c
step_counts k budget s c o (decides a e m g r) = record { balance = omega (arith, c.balance); within = ltb-true s.decisions budget r }
step_counts k budget s c o (overspends a e m g r) = c
step_counts k budget s c o (rests e m g) = c

start-counted : (k : Task) (budget : ℕ) → Counted budget (start k)
unfolding start standing
start-counted k budget = record { balance = refl; within = omega arith }

-- every run from the start
pub run-counts : (k : Task) (budget n : ℕ) → After (Counted budget) (CountsTell budget) (run k budget n (start k))
run-counts k budget n = run-keeps k budget (Counted budget) (CountsTell budget) (step_counts k budget) n (start k) (start-counted k budget)

pub search-counts : (k : Task) (budget : ℕ) (v : Verdict) (s : State) → search_task k budget ≡ done v s → CountsTell budget v s
unfolding search_task
search-counts k budget v s e = subst (After (Counted budget) (CountsTell budget)) e (run-counts k budget (enough budget))

pub decisions-within-budget : (k : Task) (budget : ℕ) (v : Verdict) (s : State) → search_task k budget ≡ done v s → s.decisions ≤ budget
decisions-within-budget k budget v s e = by v (search-counts k budget v s e)
  where
    by : (v : Verdict) → CountsTell budget v s → s.decisions ≤ budget
    by Unsat c = c.1
    by Unknown c = c.within
    by Spent c = c.within
    by Full c = c.within

pub conflicts-at-most-decisions-plus-1 : (k : Task) (budget : ℕ) (v : Verdict) (s : State) → search_task k budget ≡ done v s → s.conflicts ≤ suc s.decisions
conflicts-at-most-decisions-plus-1 k budget v s e = by v (search-counts k budget v s e)
  where
    by : (v : Verdict) → CountsTell budget v s → s.conflicts ≤ suc s.decisions
    by Unsat c = omega (arith, c.0)
    by Unknown c = omega (arith, c.balance)
    by Spent c = omega (arith, c.balance)
    by Full c = omega (arith, c.balance)

-- ── SPENT ──

abbrev SpentTells : Task → ℕ → Verdict → State → Type 0
SpentTells k budget Unsat s = Unit {0}
SpentTells k budget Unknown s = Unit {0}
SpentTells k budget Spent s = SpentWhen k budget s
SpentTells k budget Full s = Unit {0}

step-spent : (k : Task) (budget : ℕ) (s : State) → Counted budget s → (o : Outcome) → Step k budget s o → After (Counted budget) (SpentTells k budget) o
step-spent k budget s c o (unit l e) = step_counts k budget s c o (unit l e)
step-spent k budget s c o (undone t e b) = step_counts k budget s c o (undone t e b)
step-spent k budget s c o (refuted e b) = tt
step-spent k budget s c o (logs i e m r) = step_counts k budget s c o (logs i e m r)
step-spent k budget s c o (overflows i e m r) = tt
step-spent k budget s c o (decides a e m g r) = step_counts k budget s c o (decides a e m g r)
step-spent k budget s c o (overspends a e m g r) =
    record { no_act = e; no_instance = m; goal = a; unset = g; used_up = omega (arith, c.within, ltb-false s.decisions budget r) }
step-spent k budget s c o (rests e m g) = tt

pub spent-only-when : (k : Task) (budget : ℕ) (s : State) → search_task k budget ≡ done Spent s → SpentWhen k budget s
unfolding search_task
spent-only-when k budget s e =
    subst (After (Counted budget) (SpentTells k budget)) e
    (run-keeps k budget (Counted budget) (SpentTells k budget) (step-spent k budget) (enough budget) (start k) (start-counted k budget))

-- ── FULL ──

-- at most one atom enters
enter-length : (table : List Atom) (a : Atom) → length (enter table a) ≤ suc (length table)
unfolding enter added
enter-length table a =
    by-test (any (same_atom a) table) (λ e. rw (e, added) (omega arith)) (λ e. rw (e, added) (omega (arith, length-append table (a ∷ []))))

enter_taken-length : (table : List Atom) (o : Option Literal) → length (enter_taken table o) ≤ suc (length table)
unfolding enter_taken
enter_taken-length table none = omega arith
enter_taken-length table (some l) = enter-length table l.atom

no_room : (s : State) (g : Logged) → length s.table ≤ 256 → length s.log ≤ 512 → has_room s g ≡ false → NoRoom s g
unfolding has_room
no_room s g p q h =
    by-test (ltb (length s.log) 512)
    (λ a. by-test (leb (length (enter_taken s.table g.taken)) 256)
    (λ b. true-and-false (and_intro _ _ a b) h)
    (λ b. let over = leb-false (length (enter_taken s.table g.taken)) 256 b in
    atom257 (omega (arith, over, enter_taken-length s.table g.taken))))
    (λ a. let over = ltb-false (length s.log) 512 a in clause513 (omega arith))

abbrev FullTells : Task → Verdict → State → Type 0
FullTells k Unsat s = Unit {0}
FullTells k Unknown s = Unit {0}
FullTells k Spent s = Unit {0}
FullTells k Full s = FullWhen k s

step-full : (k : Task) (budget : ℕ) (s : State) → Fits k s → (o : Outcome) → Step k budget s o → After (Fits k) (FullTells k) o
step-full k budget s f o (unit l e) = step_fits k budget s f o (unit l e)
step-full k budget s f o (undone t e b) = step_fits k budget s f o (undone t e b)
step-full k budget s f o (refuted e b) = tt
step-full k budget s f o (logs i e m r) = step_fits k budget s f o (logs i e m r)
step-full k budget s f o (overflows i e m r) =
    record { no_act = e; instance = i; next = m; no_room = no_room s (logged_of s.trail i) f.table_size f.log_size r }
step-full k budget s f o (decides a e m g r) = step_fits k budget s f o (decides a e m g r)
step-full k budget s f o (overspends a e m g r) = tt
step-full k budget s f o (rests e m g) = tt

pub full-only-when : (k : Task) (budget : ℕ) (s : State) → length (goal_atoms k.clauses) ≤ 256 → search_task k budget ≡ done Full s → FullWhen k s
unfolding search_task
full-only-when k budget s h e =
    subst (After (Fits k) (FullTells k)) e
    (run-keeps k budget (Fits k) (FullTells k) (step-full k budget) (enough budget) (start k) (start_fits k h))

-- ── the limits ──

-- at most 256 atoms in the table and 512 clauses in the log
pub limits-kept : (k : Task) (budget : ℕ) (v : Verdict) (s : State) → length (goal_atoms k.clauses) ≤ 256 → search_task k budget ≡ done v s
    → (length s.table ≤ 256) × (length s.log ≤ 512)
limits-kept k budget v s h e = let f = search-fits k budget v s h e in (f.table_size, f.log_size)

-- ── the log without repeats ──

-- B comes after A: were the clause in the log, with its heads true it would have been a conflict or a unit
fired-unlogged : (k : Task) (s : State) (i : Instance) → next_act k s ≡ none → next_instance k s ≡ some i → logged_of s.trail i ∈ s.log → ⊥
unfolding logged_of
fired-unlogged k s i e n m =
    by-option g.taken
    (λ q. all-false (λ l r. none≢some (sym q ∙ r)))
    (λ b q. by-test (is_false t b) (λ h. all-false (λ l r. ap (is_false t) (some-injective (sym r ∙ q)) ∙ h)) (λ h. alone b q h))
  where
    t : Trail
    t = s.trail

    g : Logged
    g = logged_of t i

    f : Fired k t i
    f = fired k s i n

    quiet : act_on t (may_logged k t g) (not_false t (clause_of g)) ≡ none
    quiet = logged-quiet k s e g m

    false-or-taken : (l : Literal) → l ∈ clause_of g → (is_false t l ≡ true) ⊎ (g.taken ≡ some l)
    false-or-taken l j =
        elim (clause-cases g l j) [
          | inl r ↦ inl (ap (is_false t) r.2 ∙ negated-false t r.0 ∙ f.heads r.0 r.1)
          | inr q ↦ inr q
        ]

    all-false : ((l : Literal) → g.taken ≡ some l → is_false t l ≡ true) → ⊥
    all-false h =
        none≢some (sym quiet ∙ false-conflict t (may_logged k t g) (clause_of g) (λ l j. elim (false-or-taken l j) [ inl p ↦ p | inr q ↦ h l q ]))

    alone : (b : Literal) → g.taken ≡ some b → is_false t b ≡ false → ⊥
    alone b q h = none≢some (sym quiet ∙ unit-force t (may_logged k t g) (clause_of g) b (record {
      inside = clause-taken g b q;
      unset = unset-of t b (f.taken b q).1 h;
      allowed = or_right (is_goal k b) (all (is_true t) i.heads) (all_of (is_true t) i.heads f.heads);
      alone = λ l j. elim (false-or-taken l j) [ inl p ↦ inl p | inr r ↦ inr (some-injective (sym r ∙ q)) ];
    }))

abbrev LoggedOnce : State → Type 0
LoggedOnce s = Different s.log

step-once : (k : Task) (budget : ℕ) (s : State) → LoggedOnce s → (o : Outcome) → Step k budget s o → After LoggedOnce (λ v s. LoggedOnce s) o
unfolding set_unit log_instance decide after_conflict
step-once k budget s d o (unit l e) = d
step-once k budget s d o (undone t e b) = d
step-once k budget s d o (refuted e b) = d
step-once k budget s d o (logs i e m r) = different-more s.log (logged_of s.trail i) d (fired-unlogged k s i e m)
step-once k budget s d o (overflows i e m r) = d
step-once k budget s d o (decides a e m g r) = d
step-once k budget s d o (overspends a e m g r) = d
step-once k budget s d o (rests e m g) = d

-- a clause of the log is its instance and the literal taken, so none is logged twice with one body literal or twice with a false body
pub no-instance-logged-twice : (k : Task) (budget : ℕ) (v : Verdict) (s : State) → search_task k budget ≡ done v s → Different s.log
unfolding search_task start
no-instance-logged-twice k budget v s e =
    subst (After LoggedOnce (λ v s. LoggedOnce s)) e
    (run-keeps k budget LoggedOnce (λ v s. LoggedOnce s) (step-once k budget) (enough budget) (start k) tt)
