-- The counters of the machine say of each clause of the state what is found by reading it whole, after however many steps. Assumes nothing.
use Rattle.std.specs.Prelude.{ℕ, suc, ◌+◌, ◌-◌, ◌*◌, ◌%◌, ◌≤◌, ◌<◌, ◌≡◌, refl, Bool, take}
use Rattle.std.proofs.Math.Path.{sym, ap, ap₂}
use Rattle.std.proofs.Common.{◌∙◌, subst, zero-add, length-append, take_at, arith, leb-true, leb-false, le-leb}
use Rattle.std.proofs.Math.Bool.{not, and-true, and-false}
use mathlib.Core.List.Memᴰ
use mathlib.Core.List.{List, [], ◌∷◌, ◌++◌, map, map-append, map-map}
use Rattle.std.proofs.Math.Dec.{leb}
use Rattle.std.proofs.Math.ListN.{length, length-map}
use Rattle.std.proofs.lemmas.Bool.{lt-leb}
use Rattle.bits.specs.Bits.{among}
use Rattle.definitions.specs.Lists.{◌∈◌, any, filter, distinct, up_from}
use Rattle.definitions.specs.Words.{Atom, Literal, same_literal, Clause, Problem}
use Rattle.definitions.specs.Instances.{task_of}
use Rattle.definitions.specs.Search.{Trail, is_true, is_false, Logged, clause_of, State, clauses_of, not_false, start, Outcome, more, done, came_to, run}
use Rattle.theory.specs.Tests.{by-test}
use Rattle.theory.specs.ListLaws.{filter-length}
use Rattle.theory.specs.DistinctLaws.{distinct-length, any-distinct}
use Rattle.theory.specs.PlaceLaws.{get_elem-in, up_from-append, map-places}
use Rattle.theory.specs.WordLaws.{same_literal-eq}
use Rattle.theory.specs.SearchLaws.{Consistent}
use Rattle.theory.specs.Unknown.{consistent}
use Rattle.theory.specs.Limits.{Searchable}
use Rattle.definitions.specs.ClauseNumbers.{clause_numbers, may_act}
use Rattle.theory.specs.NumberLaws.{clauses-short}
use Rattle.encoding.specs.CountLaws.{length-up_from}
use Rattle.encoding.specs.Encoding.{literal_word, clause_words}
use Rattle.encoding.specs.Standing.{Valued}
use Rattle.encoding.specs.WordTruths.{true-word}
use Rattle.encoding.specs.Values.{Values, true_word}
use Rattle.encoding.specs.declared.Sizes.{Sizes}
use Rattle.units.specs.Units.{clause_at}
use Rattle.units.specs.FalseWords.{words_left, not-false-words}
use Rattle.counters.specs.Counters.{count_not_false, count_true, read_whole, told, number_asks, number, counters_of}
use Rattle.counters.specs.declared.Counters.{Counters}
use Rattle.counters.specs.CounterLaws.{number-here, ask-inside}
use Rattle.machine.specs.Machine.{Next, StandsWith, NextStands, Loaded}
use Rattle.machine.specs.declared.Machine.{Machine}
use Rattle.machine.specs.MachineSteps.{machine_run, run_after}
use Rattle.machine.specs.Counting.{counters_in, CountsKept}
use Rattle.machine.specs.Loading.{start_run}
use Rattle.machine.specs.RunStands.{state_after, loaded-run}
use Rattle.machine.specs.declared.Run.{Run}

-- ── a clause's words say what its literals say ──

-- some element passes just where one is left
some_left : {A : Type 0} (p : A → Bool) (xs : List A) → leb 1 (length (filter p xs)) ≡ any p xs
unfolding filter any
some_left p [] = refl
some_left p (x ∷ xs) = by-test (p x) (λ e. rw (e, filter) (le-leb 1 (suc (length (filter p xs))) (omega arith))) (λ e. rw (e, filter) (some_left p xs))

module _ (table : List Atom) (t : Trail) (values : Values) (consistent : Consistent t) (valued : Valued table t values) (c : Clause) (inside : (l : Literal) → l ∈ c → l.atom ∈ table) where
  not-false-count : count_not_false values (clause_words table c) ≡ length (not_false t c)
  unfolding count_not_false clause_words
  not-false-count = ap length (not-false-words table t values consistent valued c inside) ∙ length-map (not_false t c) (literal_word table)

  any-true : leb 1 (count_true values (clause_words table c)) ≡ any (is_true t) c
  unfolding count_true clause_words
  any-true =
      ap (λ (ws : List ℕ). leb 1 (length ws)) (words_left table c inside (true_word values) (is_true t) (true-word table t values valued consistent))
      ∙ ap (leb 1) (length-map (filter (is_true t) (distinct same_literal c)) (literal_word table))
      ∙ some_left (is_true t) (distinct same_literal c)
      ∙ any-distinct same_literal same_literal-eq (is_true t) c

  few-left : length (not_false t c) ≤ length c
  unfolding not_false
  few-left =
      let left = filter (λ (l : Literal). not (is_false t l)) c in
      omega (arith, distinct-length same_literal left, filter-length (λ (l : Literal). not (is_false t l)) c)

  words-told : length c < 256 → told (read_whole values (clause_words table c)) ≡ clause_numbers t c
  unfolding told read_whole clause_numbers
  words-told short =
      let n = count_not_false values (clause_words table c) in
      let k = count_true values (clause_words table c) in
      let small : n < 256 = omega (arith, not-false-count, few-left) in
      let low : (n + 256 * k) % 256 ≡ n = omega arith in
      let high : leb 256 (n + 256 * k) ≡ leb 1 k = by-test (leb 1 k)
      (λ e. let b = leb-true 1 k e in le-leb 256 (n + 256 * k) (omega arith) ∙ sym e)
      (λ e. let b = leb-false 1 k e in lt-leb 256 (n + 256 * k) (omega arith) ∙ sym e) in
      ap₂ (λ (a : ℕ) (b : Bool). record { non_false = a; any_true = b }) (low ∙ not-false-count) (high ∙ any-true)

-- ── clause by clause ──

first_of : {A : Type 0} (g : ℕ → A) (n k : ℕ) → n ≤ k → take n (map g (up_from 0 k)) ≡ map g (up_from 0 n)
first_of g n k l =
    let whole : k ≡ n + (k - n) = omega arith in
    ap (λ (i : ℕ). take n (map g (up_from 0 i))) whole
    ∙ ap (λ (xs : List ℕ). take n (map g xs)) (up_from-append 0 n (k - n))
    ∙ ap (take n) (map-append g (up_from 0 n) (up_from (0 + n) (k - n)))
    ∙ take_at (map g (up_from 0 n)) (map g (up_from (0 + n) (k - n))) n (length-map (up_from 0 n) g ∙ length-up_from 0 n)

-- what the counters of a state say: the kept numbers are those found by reading each clause whole, and each clause asks by them
pub record NumbersStand (p : Problem) (s : State) (k : Counters) : Type 0 where
  pub numbers : map told (take (length (clauses_of p.clauses s)) k.counts) ≡ map (clause_numbers s.trail) (clauses_of p.clauses s)
  pub asking : map (among k.asking) (up_from 0 (length (clauses_of p.clauses s))) ≡ map (λ (c : Clause). may_act (clause_numbers s.trail c)) (clauses_of p.clauses s)

-- a number asks by what it says
asks-told : (n : ℕ) → number_asks n ≡ may_act (told n)
unfolding number_asks may_act told
asks-told n =
    by-test (leb 256 n)
    (λ e. let l = leb-true 256 n e in rw e (lt-leb n 1 (omega arith) ∙ sym (and-false (leb (n % 256) 1))))
    (λ e. let l = leb-false 256 n e in let low : n % 256 ≡ n = omega arith in rw (e, low) (sym (and-true (leb n 1))))

module _ {Counts : Type 0} (p : Problem) (limits : Searchable p) (s : State) (m : Machine) (r : Run) (h : StandsWith Counts p s m r) where
  abbrev words : ℕ → List ℕ
  words c = clause_at m.store.starts m.store.literals c

  abbrev all : List Clause
  all = clauses_of p.clauses s

  trail-consistent : Consistent s.trail
  trail-consistent = consistent (task_of p) h.sound.inv.trailed

  few : r.clauses ≤ 640
  few = omega (arith, h.log.fit.limit)

  its-count : length (clauses_of p.clauses s) ≡ r.clauses
  its-count = omega (arith, h.log.clauses, length-append p.clauses (map clause_of s.log), length-map s.log clause_of)

  -- what is said of a place is said of the clause there
  each-clause : {B : Type 0} (g : ℕ → B) (f : Clause → B) → ((i : ℕ) (c : Clause) → i < r.clauses → c ∈ all → words i ≡ clause_words s.table c → g i ≡ f c)
      → map g (up_from 0 r.clauses) ≡ map f all
  each-clause {B} g f its =
      let n = length p.clauses in
      ap (λ (k : ℕ). map g (up_from 0 k)) h.log.clauses
      ∙ ap (map g) (up_from-append 0 n (length s.log))
      ∙ map-append g (up_from 0 n) (up_from (0 + n) (length s.log))
      ∙ ap₂ (λ (xs ys : List B). xs ++ ys)
      (map-places g f 0 p.clauses (λ i c e. let (below, in-goals) = get_elem-in p.clauses i c e in
      ap g (zero-add i) ∙ its i c (omega (arith, h.log.clauses)) (Memᴰ.append_left (map clause_of s.log) in-goals) (h.log.stand.goal i c e)))
      (map-places g (λ (x : Logged). f (clause_of x)) (0 + n) s.log (λ i x e. let (below, in-log) = get_elem-in s.log i x e in
      let at : 0 + n + i ≡ n + i = omega arith in
      ap g at ∙ its (n + i) (clause_of x) (omega (arith, h.log.clauses)) (Memᴰ.append_right p.clauses (Memᴰ.map clause_of in-log)) (h.log.stand.logged i x e))
      ∙ sym (map-map f clause_of s.log))
      ∙ sym (map-append f p.clauses (map clause_of s.log))

  clause-told : (i : ℕ) (c : Clause) → c ∈ all → words i ≡ clause_words s.table c → told (read_whole m.trail.values (words i)) ≡ clause_numbers s.trail c
  clause-told i c its same =
      let (short, inside) = clauses-short p limits s h.sound c its in
      ap (λ (ws : List ℕ). told (read_whole m.trail.values ws)) same
      ∙ words-told s.table s.trail m.trail.values trail-consistent h.trail.valued c inside (omega arith)

  numbers-told : map told (take (length all) (counters_in m r).counts) ≡ map (clause_numbers s.trail) all
  unfolding counters_of
  numbers-told =
      let kept : ℕ → ℕ = number m.trail.values words r.clauses in
      ap (λ (n : ℕ). map told (take n (counters_in m r).counts)) its-count
      ∙ ap (map told) (first_of kept r.clauses 640 few)
      ∙ map-map told kept (up_from 0 r.clauses)
      ∙ each-clause (λ (i : ℕ). told (kept i)) (clause_numbers s.trail) (λ i c below its same. ap told (number-here m.trail.values words r.clauses i below) ∙ clause-told i c its same)

  asking-told : map (among (counters_in m r).asking) (up_from 0 (length all)) ≡ map (λ (c : Clause). may_act (clause_numbers s.trail c)) all
  asking-told =
      ap (λ (n : ℕ). map (among (counters_in m r).asking) (up_from 0 n)) its-count
      ∙ each-clause (among (counters_in m r).asking) (λ (c : Clause). may_act (clause_numbers s.trail c))
      (λ i c below its same. ask-inside m.trail.values words r.clauses few i below ∙ asks-told (read_whole m.trail.values (words i)) ∙ ap may_act (clause-told i c its same))

  pub numbers-stand : NumbersStand p s (counters_in m r)
  numbers-stand = record { numbers = numbers-told; asking = asking-told }

-- ── after however many steps, the last too ──

-- the machine and its counts after so many steps from the start, and the counters that are kept for them
module _ (rules : List ℕ) (sizes : Sizes) (budget n : ℕ) (m : Machine) where
  abbrev pub KeptAfter : Counters → Type 0
  KeptAfter k = CountsKept (machine_run rules sizes budget n m (start_run sizes)).arrays (run_after (machine_run rules sizes budget n m (start_run sizes)).next) k

  abbrev pub counters_after : Counters
  counters_after = counters_in (machine_run rules sizes budget n m (start_run sizes)).arrays (run_after (machine_run rules sizes budget n m (start_run sizes)).next)

next-numbers : (p : Problem) → Searchable p → (budget : ℕ) (o : Outcome) (next : Next) (m : Machine) → NextStands p budget o next m
    → NumbersStand p (came_to o) (counters_in m (run_after next))
unfolding came_to
next-numbers p limits budget (more s) next m (r, e, h) = rw e (numbers-stand p limits s m r h)
next-numbers p limits budget (done v s) next m (r, e, h) = rw e (numbers-stand p limits s m r h)

pub run-numbers : (p : Problem) (sizes : Sizes) (rules : List ℕ) (m : Machine) → Loaded p sizes rules m → (budget n : ℕ) (k : Counters) → KeptAfter rules sizes budget n m k
    → NumbersStand p (state_after p budget n) k
run-numbers p sizes rules m loaded budget n k kept =
    subst (NumbersStand p (state_after p budget n)) (sym kept) (next-numbers p loaded.limits budget (run (task_of p) budget n (start (task_of p))) _ _ (loaded-run p sizes rules m loaded budget n))
