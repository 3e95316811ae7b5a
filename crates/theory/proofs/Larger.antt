-- Demand 3 on problems: more clauses, rules and constants only add clauses and instances, so what makes every choice fail in
-- the smaller problem makes every choice fail in the larger, and no assignment satisfies the larger. Assumes nothing.
use Rattle.std.specs.Prelude.{ℕ, suc, ◌≡◌, refl, []}
use Rattle.std.proofs.Common.{sym, subst, ◌∙◌, inl, inr}
use mathlib.Core.List.Memᴰ
use Rattle.definitions.specs.Lists.{◌∈◌}
use Rattle.definitions.specs.Words.{Atom, Literal, Problem, goal_atoms}
use Rattle.definitions.specs.Instances.{ground, variables, Instance, fill, Task, task_of, FillingOf}
use Rattle.definitions.specs.Meaning.{Assignment, Choice, Makes, Closure, chosen, derived, both_signs, false_body, Fails, SatisfiesFilling, Satisfies}
use Rattle.definitions.specs.Search.{State, done, search_task, search}
use Rattle.definitions.specs.Verdicts.{setting}
use Rattle.definitions.specs.declared.Verdict.TheVariants.{Unsat, Unknown}
use Rattle.theory.specs.ListLaws.{map-nil}
use Rattle.theory.specs.WordLaws.{makes-not-both, goal-of, goal-from}
use Rattle.theory.specs.PlaceLaws.{get_elem-at}
use Rattle.theory.specs.InstanceLaws.{substitutions-more, every-filling, only-fillings, filled-rule, filled-heads, filled-body}
use Rattle.theory.specs.TwoWayLaws.{filling-implies, FromLines, lines-rules}
use Rattle.theory.proofs.Choices.{unsat-means}
use Rattle.theory.specs.Larger.{Among, Respects, Includes}
use Rattle.theory.proofs.Unknown.{unknown-means}

-- ── tasks ──

module _ (k m : Task) (among : Among k m) (σ : Choice) where
  goal-among : (a : Atom) → a ∈ goal_atoms k.clauses → a ∈ goal_atoms m.clauses
  goal-among a i =
      let f = goal-from k.clauses a i in
      subst (λ (x : Atom). x ∈ goal_atoms m.clauses) f.atom (goal-of m.clauses f.clause f.literal (among.clauses f.clause f.its) f.inside)

  closure-among : {l : Literal} → Closure k σ l → Closure m σ l
  closure-among {l} (chosen i y) = chosen (goal-among l.atom i) y
  closure-among {l} (derived i n hs b) =
      let f = among.instances i n in
      derived f.instance f.inside (λ h j. closure-among (hs h (subst (λ ls. h ∈ ls) f.heads j))) (subst (λ ls. l ∈ ls) (sym f.body) b)

  -- a choice that fails on some of the clauses and instances fails on all of them
  pub fails-among : Fails k σ → Fails m σ
  fails-among (inl f) = inl (record { clause = f.clause; inside = among.clauses f.clause f.inside; all_false = f.all_false })
  fails-among (inr (both_signs l p q)) = inr (both_signs l (closure-among p) (closure-among q))
  fails-among (inr (false_body i n hs e)) =
      let f = among.instances i n in
      inr (false_body f.instance f.inside (λ h j. closure-among (hs h (subst (λ ls. h ∈ ls) f.heads j))) (f.body ∙ e))

-- ── assignments that satisfy ──

module _ (k : Task) (v : Assignment) (r : Respects v k) where
  closure-made : {l : Literal} → Closure k v l → Makes v l
  closure-made (chosen i y) = y
  closure-made {l} (derived i n hs b) = (r.instances i n (λ h j. closure-made (hs h j))).1 l b

  -- taken as a choice it does not fail
  pub respects-holds : Fails k v → ⊥
  respects-holds (inl f) = let c = r.clauses f.clause f.inside in makes-not-both v c.literal c.holds (f.all_false c.literal c.inside)
  respects-holds (inr (both_signs l p q)) = makes-not-both v l (closure-made p) (closure-made q)
  respects-holds (inr (false_body i n hs e)) = (r.instances i n (λ h j. closure-made (hs h j))).0 e

-- UNSAT on some of the clauses and instances: the whole is never answered UNKNOWN
pub among-never-unknown : (k m : Task) → Among k m → (b c : ℕ) (s u : State) → search_task k b ≡ done Unsat s → search_task m c ≡ done Unknown u → ⊥
among-never-unknown k m among b c s u e f =
    (unknown-means m c u f).neither (fails-among k m among (setting u.trail) (unsat-means k b s e (setting u.trail)))

-- and no assignment respects the whole
pub among-unsatisfiable : (k m : Task) → Among k m → (b : ℕ) (s : State) → search_task k b ≡ done Unsat s → (v : Assignment) → Respects v m → ⊥
among-unsatisfiable k m among b s e v r = respects-holds m v r (fails-among k m among v (unsat-means k b s e v))

-- ── problems ──

pub includes-among : (p q : Problem) → Includes p q → Among (task_of p) (task_of q)
unfolding task_of fill
includes-among p q w =
    record {
      clauses = w.clauses;
      instances = λ i m. let f = only-fillings p i m in
          let (place, e) = get_elem-at (w.rules f.rule (filled-rule f).1) in
          let same = fill (suc place) f.rule f.filling in
          record {
            instance = same;
            inside = every-filling q same (record {
              place = place;
              rule = f.rule;
              its = e;
              filling = f.filling;
              inside = substitutions-more p.constants q.constants w.constants (variables f.rule) f.filling f.inside;
              made = refl;
            });
            heads = sym (filled-heads f);
            body = sym (filled-body f);
          };
    }

-- an assignment that satisfies every filling, two-way rules as equivalences, respects every instance
pub satisfies-respects : (v : Assignment) (p : Problem) → FromLines p → Satisfies v p → Respects v (task_of p)
unfolding task_of
satisfies-respects v p from_lines w = record { clauses = w.clauses; instances = λ i m hs. respected i (only-fillings p i m) hs }
  where
    filled : (i : Instance) (f : FillingOf p i) → SatisfiesFilling v f.rule f.filling → ((h : Literal) → h ∈ i.heads → Makes v h)
        → (i.body ≡ [] → ⊥) × ((l : Literal) → l ∈ i.body → Makes v l)
    filled i f s hs =
        let (ne, bs) = filling-implies v f.filling f.rule s
        (λ x m. hs (ground f.filling x) (subst (λ ls. ground f.filling x ∈ ls) (sym (filled-heads f)) (Memᴰ.map (ground f.filling) m))) in (
          λ e. ne (map-nil (ground f.filling) f.rule.body (sym (filled-body f) ∙ e)),
          λ l m. let (x, n, q) = Memᴰ.of_map (ground f.filling) f.rule.body (subst (λ ls. l ∈ ls) (filled-body f) m) in subst (Makes v) q (bs x n),
        )

    respected : (i : Instance) (f : FillingOf p i) → ((h : Literal) → h ∈ i.heads → Makes v h)
        → (i.body ≡ [] → ⊥) × ((l : Literal) → l ∈ i.body → Makes v l)
    respected i f hs = filled i f (lines-rules v p from_lines w.lines f.rule (filled-rule f).1 f.filling f.inside) hs

-- UNSAT of a problem: one that includes it is never answered UNKNOWN, at any budget, and no assignment satisfies it
pub larger-never-unknown : (p q : Problem) → Includes p q → (b c : ℕ) (s u : State) → search p b ≡ done Unsat s → search q c ≡ done Unknown u → ⊥
unfolding search
larger-never-unknown p q w = among-never-unknown (task_of p) (task_of q) (includes-among p q w)

pub larger-unsatisfiable : (p q : Problem) → Includes p q → FromLines q → (b : ℕ) (s : State) → search p b ≡ done Unsat s → (v : Assignment) → Satisfies v q → ⊥
unfolding search
larger-unsatisfiable p q w k b s e v m = among-unsatisfiable (task_of p) (task_of q) (includes-among p q w) b s e v (satisfies-respects v q k m)
