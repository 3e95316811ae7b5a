-- Step A over the arrays is step A of the definitions, clause by clause. Assumes nothing.
use Rattle.std.specs.Prelude.{◌≡◌, Bool, true, false, eqb, leb, ltb, take, drop, ℕ, suc, ◌+◌, ◌-◌, ◌*◌, ◌≤◌, ◌<◌, List, [], ◌∷◌, ◌++◌, map}
use Rattle.std.proofs.Math.Path.{refl, sym, ap}
use Rattle.std.proofs.Common.{◌∙◌, subst, length-take, take-take, take_all, take-add, arith, eqb-true, leb-true, leb-false, lt-ltb, le-ltb}
use Rattle.std.proofs.Math.Option.{Option, none, some}
use mathlib.Core.List.Memᴰ
use Rattle.std.proofs.Math.ListN.{length, get_or, get_elem?}
use Rattle.definitions.specs.Lists.{◌∈◌, all, first_some}
use Rattle.definitions.specs.Words.{Atom, Literal, negate, same_atom, Clause, goal_atoms, position}
use Rattle.definitions.specs.Instances.{Task}
use Rattle.definitions.specs.Search.{Trail, is_true, is_unset, Logged, clause_of, State, Act, conflict, force, not_false, act_on, is_goal, goal_act, logged_act, next_act}
use Rattle.theory.specs.Tests.{by-test, by-option, true-and-false}
use Rattle.theory.specs.ListLaws.{in-along}
use Rattle.theory.specs.DistinctLaws.{all-distinct}
use Rattle.theory.specs.WordLaws.{same_atom-eq, negate-atom, goal-of}
use Rattle.theory.specs.SearchLaws.{Consistent, unset-of, not_false-in, clause-head, is_goal-in, in-is_goal, may_logged}
use Rattle.theory.specs.TableLaws.{position-inside, position-append}
use Rattle.encoding.specs.Encoding.{literal_word, clause_words}
use Rattle.theory.specs.PlaceLaws.{get_elem-in}
use Rattle.encoding.specs.Values.{Values, false_word}
use Rattle.units.specs.Units.{clause_at, may_set, not_false_words, act_on_words, act_at, act_from}
use Rattle.encoding.specs.Standing.{Valued}
use Rattle.encoding.specs.WordTruths.{true-word}
use Rattle.units.specs.LiteralWords.{word-near}
use Rattle.units.specs.FalseWords.{heads-false, not-all, not-false-words}
use Rattle.units.specs.ClausesStand.{ClausesStand, act_word}
use Rattle.units.specs.declared.UnitAct.TheVariants.{Nothing}

-- ── goal atoms and their words ──

-- the atoms of the first part stand below its length, and all others behind
position-below : (goals created : List Atom) (a : Atom) → a ∈ goals → position (goals ++ created) a < length goals
position-below goals created a m = rw (position-append goals created a m) (position-inside goals a m)

position_past : (goals created : List Atom) (a : Atom) → (a ∈ goals → ⊥) → length goals ≤ position (goals ++ created) a
unfolding position
position_past [] created a n = omega arith
position_past (x ∷ xs) created a n =
    let h = position_past xs created a (λ m. n (Memᴰ.tail m)) in
    by-test (same_atom x a) (λ q. absurd (n (Memᴰ.head (sym (same_atom-eq x a q))))) (λ q. rw (q, position) (omega arith))

-- a goal literal's word is below twice the number of goal atoms, and no other's is
pub goal-word : (k : Task) (table created : List Atom) (l : Literal) → table ≡ goal_atoms k.clauses ++ created
    → ltb (literal_word table l) (2 * length (goal_atoms k.clauses)) ≡ is_goal k l
goal-word k table created l e =
    by-test (is_goal k l)
    (λ g. let h : position table l.atom < length goals = rw e (position-below goals created l.atom (is_goal-in k l g)) in
    lt-ltb (literal_word table l) (2 * length goals) (omega (arith, word-near table l)) ∙ sym g)
    (λ g. let h : length goals ≤ position table l.atom = rw e (position_past goals created l.atom (λ m. true-and-false (in-is_goal k l m) g)) in
    le-ltb (literal_word table l) (2 * length goals) (omega (arith, word-near table l)) ∙ sym g)
  where
    goals : List Atom
    goals = goal_atoms k.clauses

-- ── step A ──

module _ (table : List Atom) (t : Trail) (values : Values) (consistent : Consistent t) (valued : Valued table t values) where
  -- a clause whose words stand at n does there what it asks for, where what may be set is the same
  act-of : (starts literals heads : List ℕ) (given goals n : ℕ) (may : Literal → Bool) (c : Clause) → ((l : Literal) → l ∈ c → l.atom ∈ table)
      → clause_at starts literals n ≡ clause_words table c
      → ((l : Literal) → l ∈ c → is_unset t l ≡ true → may_set values starts literals heads given goals n (literal_word table l) ≡ may l)
      → act_at values starts literals heads given goals n ≡ act_word table (act_on t may (not_false t c))
  unfolding act_at act_on_words act_on act_word is_unset clause_words
  act-of starts literals heads given goals n may c m e sets = cases (not_false t c) refl
    where
      left : not_false_words values (clause_at starts literals n) ≡ clause_words table (not_false t c)
      left = ap (not_false_words values) e ∙ not-false-words table t values consistent valued c m

      cases : (ls : Clause) → not_false t c ≡ ls → act_at values starts literals heads given goals n ≡ act_word table (act_on t may (not_false t c))
      cases [] q = cc left
      cases (l ∷ []) q =
          let (k, f) = not_false-in t c l (in-along q (Memᴰ.head refl)) in
          let true-here = true-word table t values valued consistent l (m l k) in
          by-test (is_true t l)
          (λ p. cc (left, true-here))
          (λ p. let allowed = sets l k (unset-of t l p f) in by-test (may l) (λ b. cc (left, true-here, allowed)) (λ b. cc (left, true-here, allowed)))
      cases (l ∷ o ∷ ls) q = cc left

-- the first act of the clauses from c on, and of those behind them
module _ {A : Type 0} (values : Values) (starts literals heads : List ℕ) (given goals : ℕ) (table : List Atom) (f : A → Option Act) where
  abbrev first_of : Option Act → Rattle.units.specs.declared.UnitAct.UnitAct → Rattle.units.specs.declared.UnitAct.UnitAct
  first_of none b = b
  first_of (some a) b = act_word table (some a)

  acts-from : (xs : List A) (c n : ℕ) → ((i : ℕ) (x : A) → get_elem? xs i ≡ some x → act_at values starts literals heads given goals (c + i) ≡ act_word table (f x))
      → act_from values starts literals heads given goals c (length xs + n) ≡ first_of (first_some f xs) (act_from values starts literals heads given goals (c + length xs) n)
  unfolding act_from first_some act_word
  acts-from [] c n h =
      let e : 0 + n ≡ n = omega arith in
      let d : c + 0 ≡ c = omega arith in
      rw (e, d)
  acts-from (x ∷ xs) c n h =
      let e : suc (length xs) + n ≡ suc (length xs + n) = omega arith in
      let d : c + suc (length xs) ≡ suc c + length xs = omega arith in
      let z : c + 0 ≡ c = omega arith in
      let here : act_at values starts literals heads given goals c ≡ act_word table (f x) = rw z at (h 0 x refl) in
      let behind = acts-from xs (suc c) n (λ i y q. let w : suc c + i ≡ c + suc i = omega arith in rw w (h (suc i) y q)) in
      rw (e, d) (by-option (f x) (λ q. cc (here, behind)) (λ a q. found here a q))
    where
      found : act_at values starts literals heads given goals c ≡ act_word table (f x) → (a : Act) → f x ≡ some a
          → act_from values starts literals heads given goals c (suc (length xs + n)) ≡ first_of (first_some f (x ∷ xs)) (act_from values starts literals heads given goals (suc c + length xs) n)
      found here conflict q = cc
      found here (force l) q = cc

-- a part has no words but its own
take_part : (ws : List ℕ) (h n : ℕ) → n ≤ h → take h (take n ws) ≡ take n ws
take_part ws h n l = take_all h (take n ws) (omega (arith, length-take n ws))

-- and they are among those of a longer part
take_more : (ws : List ℕ) (h n w : ℕ) → n ≤ h → w ∈ take n ws → w ∈ take h ws
take_more ws h n w l m =
    let e : n + (h - n) ≡ h = omega arith in
    subst (λ (xs : List ℕ). w ∈ xs) (sym (take-add n (h - n) ws) ∙ ap (λ (i : ℕ). take i ws) e) (Memᴰ.append_left (take (h - n) (drop n ws)) m)

-- the table is the goal atoms and then others, it has the atoms of the log, and the arrays stand for the state
module _ (k : Task) (s : State) (created : List Atom) (values : Values) (starts literals heads : List ℕ)
    (split : s.table ≡ goal_atoms k.clauses ++ created)
    (entered : (g : Logged) → g ∈ s.log → (l : Literal) → l ∈ clause_of g → l.atom ∈ s.table)
    (consistent : Consistent s.trail)
    (valued : Valued s.table s.trail values)
    (stand : ClausesStand s.table k.clauses s.log starts literals heads) where
  abbrev given : ℕ
  given = length k.clauses

  abbrev goals : ℕ
  goals = length (goal_atoms k.clauses)

  goal-sets : (n : ℕ) → n < given → (l : Literal) → may_set values starts literals heads given goals n (literal_word s.table l) ≡ is_goal k l
  unfolding may_set
  goal-sets n h l =
      by-test (is_goal k l)
      (λ b. cc (goal-word k s.table created l split))
      (λ b. cc (goal-word k s.table created l split, lt-ltb n given h))

  goal-stands : (n : ℕ) (c : Clause) → get_elem? k.clauses n ≡ some c
      → act_at values starts literals heads given goals n ≡ act_word s.table (goal_act k s.trail c)
  unfolding goal_act
  goal-stands n c e =
      act-of s.table s.trail values consistent valued starts literals heads given goals n (is_goal k) c
      (λ l m. rw split (Memᴰ.append_left created (goal-of k.clauses c l (get_elem-in k.clauses n c e).1 m)))
      (stand.goal n c e)
      (λ l m u. goal-sets n (get_elem-in k.clauses n c e).0 l)

  module _ (n : ℕ) (g : Logged) (e : get_elem? s.log n ≡ some g) where
    its-atoms : (l : Literal) → l ∈ clause_of g → l.atom ∈ s.table
    its-atoms = entered g (get_elem-in s.log n g e).1

    -- the first words of the clause are all false just where the heads are all true
    heads-stand : all (false_word values) (take (get_or heads n 0) (clause_at starts literals (given + n))) ≡ all (is_true s.trail) g.instance.heads
    heads-stand =
        ap (all (false_word values)) (stand.negated n g e)
        ∙ all-distinct eqb eqb-true (false_word values) (clause_words s.table (map negate g.instance.heads))
        ∙ heads-false s.table s.trail values consistent valued g.instance.heads (λ h m. Memᴰ.cast (sym (negate-atom h)) (its-atoms (negate h) (clause-head g h m)))

    -- words that are taken from behind the clause change nothing: its own are then not all false
    heads-taken : (l : Literal) → l ∈ clause_of g → is_unset s.trail l ≡ true
        → all (false_word values) (take (get_or heads n 0) (drop (get_or starts (given + n) 0) literals))
        ≡ all (false_word values) (take (get_or heads n 0) (clause_at starts literals (given + n)))
    unfolding clause_at clause_words
    heads-taken l m u =
        by-test (leb h size)
        (λ b. ap (all (false_word values)) (sym (take-take h size words (leb-true h size b))))
        (λ b. let less : size ≤ h = omega (arith, leb-false h size b) in
        no (take h words) (take_more words h size _ less inside) ∙ sym (no (take h (take size words)) (rw (take_part words h size less) inside)))
      where
        h : ℕ
        h = get_or heads n 0

        size : ℕ
        size = get_or starts (given + n + 1) 0 - get_or starts (given + n) 0

        words : List ℕ
        words = drop (get_or starts (given + n) 0) literals

        inside : literal_word s.table l ∈ take size words
        inside = rw (stand.logged n g e) (Memᴰ.map (literal_word s.table) m)

        no : (ws : List ℕ) → literal_word s.table l ∈ ws → all (false_word values) ws ≡ false
        no = not-all s.table s.trail values consistent valued l (its-atoms l m) u

    logged-sets : (l : Literal) → l ∈ clause_of g → is_unset s.trail l ≡ true
        → may_set values starts literals heads given goals (given + n) (literal_word s.table l) ≡ may_logged k s.trail g l
    unfolding may_set
    logged-sets l m u =
        let q : given + n - given ≡ n = omega arith in
        cc (goal-word k s.table created l split, le-ltb (given + n) given (omega arith), heads-taken l m u, heads-stand)

    logged-stands : act_at values starts literals heads given goals (given + n) ≡ act_word s.table (logged_act k s.trail g)
    unfolding logged_act
    logged-stands =
        act-of s.table s.trail values consistent valued starts literals heads given goals (given + n) (may_logged k s.trail g) (clause_of g)
        its-atoms
        (stand.logged n g e)
        logged-sets

  pub act-stands : act_from values starts literals heads (length k.clauses) (length (goal_atoms k.clauses)) 0 (length k.clauses + length s.log)
      ≡ act_word s.table (next_act k s)
  unfolding next_act act_from act_word
  act-stands =
      let zero-given : 0 + given ≡ given = omega arith in
      let no_more : length s.log + 0 ≡ length s.log = omega arith in
      let first = acts-from values starts literals heads given goals s.table (goal_act k s.trail) k.clauses 0 (length s.log) (λ i c e. let z : 0 + i ≡ i = omega arith in rw z (goal-stands i c e)) in
      let second = acts-from values starts literals heads given goals s.table (logged_act k s.trail) s.log given 0 logged-stands in
      by-option (first_some (goal_act k s.trail) k.clauses)
      (λ e. cc (first, second, last_of (first_some (logged_act k s.trail) s.log)))
      (λ a e. cc (first))
    where
      last_of : (o : Option Act) → first_of values starts literals heads given goals s.table (logged_act k s.trail) o Nothing ≡ act_word s.table o
      last_of none = refl
      last_of (some a) = refl
