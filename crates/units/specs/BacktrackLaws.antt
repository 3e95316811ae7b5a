-- Backtracking over the arrays: the marks tell the latest decision, and what was set from it on is undone. Assumes nothing.
use Rattle.std.specs.Prelude.{ℕ, ◌+◌, ◌-◌, ◌≤◌, ◌<◌, ◌≡◌, refl, true, false, List, [], ◌∷◌, ◌++◌, eqb, length, get_or, set, take, drop}
use Rattle.std.proofs.Common.{sym, ◌∙◌, ap, arith, length-append}
use Rattle.std.proofs.Math.Option.{none, some}
use mathlib.Core.List.Memᴰ
use Rattle.std.proofs.Math.Seq.{append_snoc}
use Rattle.definitions.specs.Lists.{◌∈◌}
use Rattle.definitions.specs.Words.{Atom, negate, plain}
use Rattle.definitions.specs.Search.{decided, flipped, Entry, Trail, backtrack}
use Rattle.theory.specs.Tests.{by-option, apart, none≢some}
use Rattle.theory.specs.ListLaws.{at_split, in-along}
use Rattle.theory.specs.WordLaws.{negate-atom}
use Rattle.theory.specs.SearchLaws.{by-why}
use Rattle.encoding.specs.Encoding.{literal_word}
use Rattle.encoding.specs.Values.{Values, assigned}
use Rattle.units.specs.TrailWords.{mark_of, latest_decision, cleared, TrailStands}
use Rattle.units.specs.LiteralWords.{word_small, word_even, word_next}
use Rattle.units.specs.Stacks.{Stacked, fits, pop, pop-all, top, length-cleared}
use Rattle.units.specs.TrailLaws.{new-unset, entry_word, entry_mark, Room, room-kept, set-stands, EntriesEntered, SetOnce, undo-stands}

-- the latest decision, what was set since, and what was set before
pub record Latest (t u : Trail) : Type 0 where
  pub since : Trail
  pub entry : Entry
  pub before : Trail
  pub split : t ≡ since ++ (entry ∷ before)
  pub is : entry.why ≡ decided
  pub after : u ≡ record { literal = negate entry.literal; why = flipped } ∷ before

pub find-latest : (t u : Trail) → backtrack t ≡ some u → Latest t u
unfolding backtrack
find-latest [] u h = none≢some h
find-latest (e ∷ t) u h =
    by-why e.why
    (λ q. record { since = []; entry = e; before = t; split = refl; is = q; after = cc })
    (λ q. one_more (find-latest t u (cc)))
    (λ q. one_more (find-latest t u (cc)))
  where
    one_more : Latest t u → Latest (e ∷ t) u
    one_more r = record { since = e ∷ r.since; entry = r.entry; before = r.before; split = ap (λ (x : Trail). e ∷ x) r.split; is = r.is; after = r.after }

-- the marks from the top down, entry by entry
decision-places : (marks : List ℕ) (t : Trail) → Stacked entry_mark t marks
    → (backtrack t ≡ none → latest_decision marks (length t) ≡ 0) × ((u : Trail) → backtrack t ≡ some u → latest_decision marks (length t) ≡ length u)
unfolding latest_decision backtrack
decision-places marks [] s = (λ h. refl, λ u h. none≢some h)
decision-places marks (e ∷ t) s =
    let mark = top entry_mark e t marks s in
    let below = decision-places marks t (pop entry_mark e t marks s) in
    by-why e.why
    (λ q. let hit : eqb (get_or marks (length t) 0) (mark_of decided) ≡ true = cc in (λ h. apart (cc), λ u h. let z : u ≡ record { literal = negate e.literal; why = flipped } ∷ t = cc in rw z (cc)))
    (λ q. let miss : eqb (get_or marks (length t) 0) (mark_of decided) ≡ false = cc in (λ h. cc (below.0 (cc)), λ u h. cc (below.1 u (cc))))
    (λ q. let miss : eqb (get_or marks (length t) 0) (mark_of decided) ≡ false = cc in (λ h. cc (below.0 (cc)), λ u h. cc (below.1 u (cc))))

different-below : (above t : Trail) → SetOnce (above ++ t) → SetOnce t
different-below [] t d = d
different-below (e ∷ above) t d = different-below above t d.1

-- a decision, which stands at true, is undone with all that was set since, and its atom is set false
flip-stands : {table : List Atom} (since : Trail) (e : Entry) (before : Trail) {values : Values} {trail marks : List ℕ} → Room table values trail marks
    → TrailStands table (since ++ (e ∷ before)) values trail marks → EntriesEntered table (since ++ (e ∷ before)) → SetOnce (since ++ (e ∷ before))
    → e.literal ≡ plain e.literal.atom
    → TrailStands table (record { literal = negate e.literal; why = flipped } ∷ before)
    (assigned (cleared values (take (length (since ++ (e ∷ before)) - length before) (drop (length before) trail))) (literal_word table e.literal + 1))
    (set trail (length before) (literal_word table e.literal + 1))
    (set marks (length before) (mark_of flipped))
flip-stands {table} since e before {values} {trail} {marks} r s g d p =
    let q = append_snoc since e before in
    let ws = take (length (since ++ (e ∷ before)) - length before) (drop (length before) trail) in
    let undone = rw q at (undo-stands (since ++ (e ∷ [])) before r (rw q s) (rw q g) (rw q d)) in
    let sizes : Room table (cleared values ws) trail marks = room-kept r (length-cleared values ws) refl refl in
    let new = (different-below since (e ∷ before) d).0 in
    let few : length before < 256 = omega (arith, fits (entry_word table) (since ++ (e ∷ before)) trail s.words, r.trail-size, length-append since (e ∷ before)) in
    let w : literal_word table (negate e.literal) ≡ literal_word table e.literal + 1 = word_next table e.literal p in
    rw w at (set-stands sizes undone (negate e.literal) flipped (new-unset before (negate e.literal) (rw negate-atom new)) (rw negate-atom (g e (Memᴰ.append_right since (Memᴰ.head refl)))) few)

-- decisions stand at true
abbrev pub DecidedTrue : Trail → Type 0
DecidedTrue t = (e : Entry) → e ∈ t → e.why ≡ decided → e.literal ≡ plain e.literal.atom

-- the scan over the marks finds no decision just where there is none to undo, and else tells how long the trail is afterwards
module _ {table : List Atom} {t : Trail} {values : Values} {trail marks : List ℕ} (s : TrailStands table t values trail marks) where
  pub backtrack-none-zero : backtrack t ≡ none → latest_decision marks (length t) ≡ 0
  backtrack-none-zero h = (decision-places marks t s.whys).0 h

  pub backtrack-some-length : {u : Trail} → backtrack t ≡ some u → latest_decision marks (length t) ≡ length u
  backtrack-some-length {u} h = (decision-places marks t s.whys).1 u h

  pub zero-backtrack-none : latest_decision marks (length t) ≡ 0 → backtrack t ≡ none
  zero-backtrack-none z =
      by-option (backtrack t)
      (λ h. h)
      (λ u h. let y : ⊥ = omega (arith, backtrack-some-length h, ap length (find-latest t u h).after) in absurd y)

-- the decision before place n, whose word is w, is the one that backtracking sets to false; its negation's word is the next
pub record Backtracked (table : List Atom) (t u : Trail) (values : Values) (trail marks : List ℕ) (n w : ℕ) : Type 0 where
  pub positive : 0 < n
  pub size : length u ≡ n
  pub within : n ≤ length t
  pub small : w + 1 < 512
  pub stands : TrailStands table u (assigned (cleared values (take (length t - (n - 1)) (drop (n - 1) trail))) (w + 1)) (set trail (n - 1) (w + 1)) (set marks (n - 1) (mark_of flipped))

pub backtrack-stands : {table : List Atom} {t u : Trail} {values : Values} {trail marks : List ℕ} {n w : ℕ} → Room table values trail marks → TrailStands table t values trail marks
    → EntriesEntered table t → SetOnce t → DecidedTrue t → backtrack t ≡ some u → n ≡ latest_decision marks (length t) → w ≡ get_or trail (n - 1) 0
    → Backtracked table t u values trail marks n w
backtrack-stands {table} {t} {u} {values} {trail} {marks} {n} {w} r s g d p h en ew = back (find-latest t u h) (en ∙ backtrack-some-length s h)
  where
    back : Latest t u → n ≡ length u → Backtracked table t u values trail marks n w
    back f size =
        let place : n - 1 ≡ length f.before = omega (arith, ap length f.after) in
        let m : f.entry ∈ t = in-along f.split (at_split f.since f.before) in
        let q = p f.entry m f.is in
        let s' = rw f.split at s in
        let word : w ≡ literal_word table f.entry.literal = ew ∙ ap (λ (i : ℕ). get_or trail i 0) place ∙ top (entry_word table) f.entry f.before trail (pop-all (entry_word table) f.since (f.entry ∷ f.before) trail s'.words) in
        record {
          positive = omega (arith, ap length f.after);
          size = sym size;
          within = omega (arith, ap length f.after, ap length f.split, length-append f.since (f.entry ∷ f.before));
          small = omega (arith, word_even table f.entry.literal q, word_small table f.entry.literal r.table-size (g f.entry m));
          stands = rw (place, word, f.after, f.split) (flip-stands f.since f.entry f.before r s' (rw f.split at g) (rw f.split at d) q);
        }
