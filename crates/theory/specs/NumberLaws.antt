-- A clause with a true literal, or with two that are not false, asks for nothing, so step A may pass it over unread. Assumes nothing.
use Rattle.std.specs.Prelude.{◌≤◌, ◌≡◌, Bool, false, [], ◌∷◌, length}
use Rattle.std.proofs.Math.Path.{refl}
use Rattle.std.proofs.Common.{subst, arith}
use Rattle.std.proofs.Math.Bool.{true}
use Rattle.std.proofs.Math.Option.{none}
use mathlib.Core.List.Memᴰ
use Rattle.std.proofs.Math.Dec.{leb}
use Rattle.definitions.specs.Lists.{◌∈◌, any, filter, first_some}
use Rattle.definitions.specs.Words.{Literal, Clause, Problem}
use Rattle.definitions.specs.Instances.{Task, task_of}
use Rattle.definitions.specs.Search.{Trail, is_true, is_false, is_unset, Logged, clause_of, State, clauses_of, not_false, act_on, goal_act, logged_act, next_act}
use Rattle.definitions.specs.ClauseNumbers.{clause_numbers, may_act, next_act_among}
use Rattle.theory.specs.Tests.{by-test, by-option, apart}
use Rattle.theory.specs.ListLaws.{any_some, first_some-filter, Each, each_append}
use Rattle.theory.specs.WordLaws.{goal-of}
use Rattle.theory.specs.SearchLaws.{Consistent, not_false-of}
use Rattle.theory.specs.Unknown.{consistent}
use Rattle.theory.specs.Limits.{Searchable}
use Rattle.theory.specs.Invariants.{Sound}
use Rattle.theory.specs.ListingLaws.{clause-length}
use Rattle.theory.specs.Sizes.{instance-heads}

-- ── step A needs no others ──

module _ (t : Trail) (consistent : Consistent t) where
  -- a true literal is not false
  true-left : (c : Clause) → any (is_true t) c ≡ true → (l : Literal) × (is_true t l ≡ true) × (l ∈ not_false t c)
  unfolding is_false
  true-left c h =
      let (l, m, q) = any_some (is_true t) c h in
      (l, q, not_false-of t c l m (by-test (is_false t l) (λ f. absurd (consistent l q f)) (λ f. f)))

  quiet : (may : Literal → Bool) (c : Clause) → may_act (clause_numbers t c) ≡ false → act_on t may (not_false t c) ≡ none
  unfolding may_act clause_numbers act_on is_unset
  quiet may c h = cases (not_false t c) refl
    where
      some-true : leb (length (not_false t c)) 1 ≡ true → any (is_true t) c ≡ true
      some-true few = by-test (any (is_true t) c) (λ e. e) (λ e. apart (cc))

      cases : (ls : Clause) → not_false t c ≡ ls → act_on t may ls ≡ none
      cases [] e = let (l, q, m) = true-left c (some-true (rw e)) in absurd (Memᴰ.not-nil (rw e at m))
      cases (x ∷ []) e =
          let (l, q, m) = true-left c (some-true (rw e)) in
          let same : l ≡ x = Memᴰ.eq_of_singleton (rw e at m) in
          let its : is_true t x ≡ true = rw same at q in
          cc
      cases (x ∷ y ∷ ls) e = refl

pub asking-enough : (k : Task) (s : State) → Consistent s.trail → next_act_among (λ (c : Clause). may_act (clause_numbers s.trail c)) k s ≡ next_act k s
unfolding next_act_among next_act goal_act logged_act
asking-enough k s consistent =
    let asks : Clause → Bool = λ c. may_act (clause_numbers s.trail c) in
    let goals : first_some (goal_act k s.trail) (filter asks k.clauses) ≡ first_some (goal_act k s.trail) k.clauses
    = first_some-filter (goal_act k s.trail) asks k.clauses (λ c m h. quiet s.trail consistent _ c h) in
    let logged : first_some (logged_act k s.trail) (filter (λ (g : Logged). asks (clause_of g)) s.log) ≡ first_some (logged_act k s.trail) s.log
    = first_some-filter (logged_act k s.trail) (λ (g : Logged). asks (clause_of g)) s.log (λ g m h. quiet s.trail consistent _ (clause_of g) h) in
    by-option (first_some (goal_act k s.trail) k.clauses) (λ e. cc) (λ a e. cc)

-- ── the clauses of a state are short, and their atoms are in the table ──

pub clauses-short : (p : Problem) → Searchable p → (s : State) → Sound (task_of p) s
    → Each (λ c. (length c ≤ 8) × ((l : Literal) → l ∈ c → l.atom ∈ s.table)) (clauses_of p.clauses s)
unfolding task_of
clauses-short p limits s sound =
    each_append _ p.clauses
    (λ c m. ((limits.each_clause c m).literals, λ l n. sound.fits.goals l.atom (goal-of p.clauses c l m n)))
    (λ c m. let (g, n, q) = Memᴰ.of_map clause_of s.log m in
    subst (λ c. (length c ≤ 8) × ((l : Literal) → l ∈ c → l.atom ∈ s.table)) q
    (omega (arith, clause-length g, instance-heads p limits g.instance (sound.inv.log_ok g n).its), sound.fits.written g n))
