-- The table: new atoms enter at its end, none stands twice, the goal atoms enter clause by clause, and each atom has a position of its
-- own, which no atom that enters behind changes. Assumes nothing.
use Rattle.std.specs.Prelude.{ℕ, zero, suc, ◌<◌, ◌≡◌, true, false, List, [], ◌∷◌, ◌++◌, map, length}
use Rattle.std.proofs.Common.{sym, ◌∙◌, ap, inl, inr, append-nil, append_assoc, arith}
use Rattle.std.proofs.Math.Option.{some}
use mathlib.Core.List.Memᴰ
use Rattle.std.proofs.lemmas.List.{map-append}
use Rattle.std.proofs.Math.ListN.{get_elem?}
use Rattle.definitions.specs.Lists.{◌∈◌, distinct, joined, Different}
use Rattle.definitions.specs.Words.{Atom, Literal, same_atom, Clause, goal_atoms, position}
use Rattle.definitions.specs.Search.{enter}
use Rattle.theory.specs.Tests.{by-test, true-and-false, none≢some, some-injective}
use Rattle.theory.specs.DistinctLaws.{distinct-different, by-member, added-known, added_new, distinct-added}
use Rattle.theory.specs.ListLaws.{joined-append, different-more, each_nil, each-cons, each_append}
use Rattle.theory.specs.PlaceLaws.{get_elem-in}
use Rattle.theory.specs.WordLaws.{same_atom-eq, same_atom-refl}

-- atoms that enter one after another
unfoldable pub enter_all : List Atom → List Atom → List Atom
enter_all table [] = table
enter_all table (a ∷ more) = enter_all (enter table a) more

pub by-known : (a : Atom) (table : List Atom) {C : Type 0} → (a ∈ table → C) → ((a ∈ table → ⊥) → C) → C
by-known = by-member same_atom same_atom-eq same_atom-refl

pub enter-known : (table : List Atom) (a : Atom) → a ∈ table → enter table a ≡ table
unfolding enter
enter-known = added-known same_atom same_atom-eq same_atom-refl

pub enter-fresh : (table : List Atom) (a : Atom) → (a ∈ table → ⊥) → enter table a ≡ table ++ (a ∷ [])
unfolding enter
enter-fresh = added_new same_atom same_atom-eq same_atom-refl

pub enter-different : (table : List Atom) (a : Atom) → Different table → Different (enter table a)
enter-different table a d =
    by-known a table (λ m. rw (enter-known table a m) d) (λ out. rw (enter-fresh table a out) (different-more table a d out))

pub enter-each : (P : Atom → Type 0) (gs : List Atom) (a : Atom) → ((g : Atom) → g ∈ gs → P g) → P a → (g : Atom) → g ∈ enter gs a → P g
enter-each P gs a each h =
    by-known a gs
    (λ m. rw (enter-known gs a m) each)
    (λ out. rw (enter-fresh gs a out) (each_append P gs each (each-cons P h (each_nil P))))

distinct-enter-all : (xs ys : List Atom) → distinct same_atom (xs ++ ys) ≡ enter_all (distinct same_atom xs) ys
unfolding enter_all enter
distinct-enter-all xs [] = rw (append-nil xs)
distinct-enter-all xs (y ∷ ys) =
    ap (distinct same_atom) (sym (append_assoc xs (y ∷ []) ys))
    ∙ distinct-enter-all (xs ++ (y ∷ [])) ys
    ∙ ap (λ t. enter_all t ys) (distinct-added same_atom same_atom-eq same_atom-refl xs y)

pub joined-more : {A B : Type 0} (f : A → List B) (xs : List A) (x : A) → joined f (xs ++ (x ∷ [])) ≡ joined f xs ++ f x
unfolding joined
joined-more f xs x = joined-append f xs (x ∷ []) ∙ ap (λ l. joined f xs ++ l) (append-nil (f x))

-- the atoms of a clause, literal by literal
unfoldable pub atoms_of : Clause → List Atom
atoms_of c = map (λ (l : Literal). l.atom) c

-- the atoms of a new clause enter one after another
pub goal-atoms-more : (cs : List Clause) (c : Clause) → goal_atoms (cs ++ (c ∷ [])) ≡ enter_all (goal_atoms cs) (atoms_of c)
unfolding goal_atoms atoms_of
goal-atoms-more cs c =
    let all = joined (λ (x : Clause). x) cs in
    ap (λ ls. distinct same_atom (map (λ (l : Literal). l.atom) ls)) (joined-more (λ (x : Clause). x) cs c)
    ∙ ap (distinct same_atom) (map-append (λ (l : Literal). l.atom) all c)
    ∙ distinct-enter-all (map (λ (l : Literal). l.atom) all) (map (λ (l : Literal). l.atom) c)

pub goal-atoms-different : (cs : List Clause) → Different (goal_atoms cs)
unfolding goal_atoms
goal-atoms-different cs = distinct-different same_atom same_atom-refl (map (λ (l : Literal). l.atom) (joined (λ (c : Clause). c) cs))

-- the table grows at its end
pub enter_behind : (table : List Atom) (a : Atom) → (more : List Atom) × (enter table a ≡ table ++ more)
enter_behind table a =
    by-known a table (λ m. ([], enter-known table a m ∙ sym (append-nil table))) (λ out. (a ∷ [], enter-fresh table a out))

pub enter-all-behind : (table as' : List Atom) → (more : List Atom) × (enter_all table as' ≡ table ++ more)
unfolding enter_all
enter-all-behind table [] = ([], sym (append-nil table))
enter-all-behind table (a ∷ as') =
    let (first, e) = enter_behind table a in
    let (rest, f) = enter-all-behind (enter table a) as' in
    (first ++ rest, f ∙ ap (λ t. t ++ rest) e ∙ append_assoc table first rest)

-- ── where atoms stand in it ──

pub apart-atoms : {a b : Atom} → same_atom b a ≡ false → b ≡ a → ⊥
apart-atoms {a} {b} h q = true-and-false (rw q (same_atom-refl a)) h

-- an atom that is not the first stands behind it
later : {a b : Atom} {bs : List Atom} → same_atom b a ≡ false → a ∈ b ∷ bs → a ∈ bs
later h m = elim (Memᴰ.cases_cons m) [ inl q ↦ absurd (apart-atoms h (sym q)) | inr n ↦ n ]

pub position-inside : (table : List Atom) (a : Atom) → a ∈ table → position table a < length table
unfolding position
position-inside [] a m = absurd (Memᴰ.not-nil m)
position-inside (b ∷ bs) a m =
    by-test (same_atom b a)
    (λ e. rw (e, position) (omega arith))
    (λ e. let h = position-inside bs a (later e m) in rw (e, position) (omega arith))

-- two atoms of the table at one position are one
pub position-injective : (table : List Atom) (a b : Atom) → a ∈ table → b ∈ table → position table a ≡ position table b → a ≡ b
unfolding position
position-injective [] a b m n q = absurd (Memᴰ.not-nil m)
position-injective (c ∷ cs) a b m n q =
    by-test (same_atom c a)
    (λ e. by-test (same_atom c b)
    (λ f. sym (same_atom-eq c a e) ∙ same_atom-eq c b f)
    (λ f. let z : 0 ≡ suc (position cs b) = rw (e, f, position) at q in let y : ⊥ = omega arith in absurd y))
    (λ e. by-test (same_atom c b)
    (λ f. let z : suc (position cs a) ≡ 0 = rw (e, f, position) at q in let y : ⊥ = omega arith in absurd y)
    (λ f. let z : suc (position cs a) ≡ suc (position cs b) = rw (e, f, position) at q in position-injective cs a b (later e m) (later f n) (omega arith)))

-- an atom of a table of different atoms stands at its position and nowhere else
pub position_at : (table : List Atom) → Different table → (i : ℕ) (a : Atom) → get_elem? table i ≡ some a → position table a ≡ i
unfolding position
position_at [] d i a e = none≢some e
position_at (b ∷ bs) d zero a e = let q : b ≡ a = some-injective e in let same : same_atom b a ≡ true = rw q (same_atom-refl a) in cc
position_at (b ∷ bs) d (suc i) a e =
    by-test (same_atom b a)
    (λ q. absurd (d.0 (Memᴰ.cast (same_atom-eq b a q) (get_elem-in bs i a e).1)))
    (λ q. cc (position_at bs d.1 i a e))

pub at_position : (table : List Atom) (a : Atom) → a ∈ table → get_elem? table (position table a) ≡ some a
unfolding position
at_position [] a m = absurd (Memᴰ.not-nil m)
at_position (b ∷ bs) a m =
    by-test (same_atom b a)
    (λ e. rw (e, position) (ap some (same_atom-eq b a e)))
    (λ e. rw (e, position) (at_position bs a (later e m)))

-- a table that grows keeps the positions
pub position-append : (table more : List Atom) (a : Atom) → a ∈ table → position (table ++ more) a ≡ position table a
unfolding position
position-append [] more a m = absurd (Memᴰ.not-nil m)
position-append (b ∷ bs) more a m = by-test (same_atom b a) (λ e. cc) (λ e. cc (position-append bs more a (later e m)))

-- an atom stands behind those before it
pub position-behind : (before after : List Atom) (a : Atom) → (a ∈ before → ⊥) → position (before ++ (a ∷ after)) a ≡ length before
unfolding position
position-behind [] after a n = cc (same_atom-refl a)
position-behind (b ∷ bs) after a n =
    by-test (same_atom b a)
    (λ e. absurd (n (Memᴰ.head (sym (same_atom-eq b a e)))))
    (λ e. cc (position-behind bs after a (λ m. n (Memᴰ.tail m))))
