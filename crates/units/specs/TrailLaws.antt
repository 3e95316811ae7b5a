-- The arrays stand for the trail through every step of the search: each step sets or clears a few places, and what stands there is what the new trail says. Assumes nothing.
use Rattle.std.specs.Prelude.{ℕ, ◌-◌, ◌/◌, ◌≤◌, ◌<◌, ◌≡◌, refl, true, List, [], ◌∷◌, ◌++◌, map, length, get_or, set, take, drop}
use Rattle.std.proofs.Math.Path.{sym, ap}
use Rattle.std.proofs.Common.{◌∙◌, subst, inl, inr, arith, length-append}
use Rattle.std.proofs.Math.Bool.{false}
use mathlib.Core.List.Memᴰ
use Rattle.definitions.specs.Lists.{◌∈◌, any, Different}
use Rattle.definitions.specs.Words.{Atom, Literal, negate, plain, same_atom, same_literal, position}
use Rattle.definitions.specs.Search.{Why, Entry, Trail, is_true, is_false, is_unset}
use Rattle.definitions.specs.LiteralTest.{Value, unset_value, truth, atom_state}
use Rattle.theory.specs.Tests.{by-test}
use Rattle.theory.specs.WordLaws.{same_atom-eq, same_literal-eq, negate-negate, negate-atom, negate-differs, plain-atom, as_plain, as-negated}
use Rattle.theory.specs.SearchLaws.{true-at, at_true, unset-not-false, unset-of}
use Rattle.theory.specs.TableLaws.{apart-atoms, position-inside, position-injective, position-append, position-behind}
use Rattle.theory.specs.TruthLaws.{truth-true, truth-false, truth-unset}
use Rattle.encoding.specs.PositionLaws.{literal-word-append}
use Rattle.encoding.specs.Encoding.{literal_word}
use Rattle.encoding.specs.Values.{Values, value_at, no_values, assigned, unassigned}
use Rattle.encoding.specs.ValueLaws.{assigned-even, assigned-odd, assigned-elsewhere, unassigned-here, unassigned-elsewhere, length-unassigned, no_value}
use Rattle.encoding.specs.Standing.{Valued}
use Rattle.units.specs.TrailWords.{mark_of, cleared, TrailStands}
use Rattle.units.specs.LiteralWords.{word-plain, word-negated, word-half, word_small}
use Rattle.units.specs.Stacks.{push, fits, pop, top, each-place, same-words, cleared-latest}

-- ── what a trail says of an atom ──

abbrev atom_of : Entry → Atom
atom_of e = e.literal.atom

not_there : (t : Trail) (l : Literal) → (l.atom ∈ map atom_of t → ⊥) → is_true t l ≡ false
not_there t l n =
    by-test (is_true t l)
    (λ h. let p = true-at t l h in absurd (n (Memᴰ.cast (sym (ap (λ (x : Literal). x.atom) p.its)) (Memᴰ.map atom_of p.inside))))
    (λ h. h)

-- an atom of no entry is unset
pub new-unset : (t : Trail) (l : Literal) → (l.atom ∈ map (λ (e : Entry). e.literal.atom) t → ⊥) → is_unset t l ≡ true
unfolding is_false
new-unset t l n = unset-of t l (not_there t l n) (not_there t (negate l) (rw negate-atom n))

true-other : (e : Entry) (t : Trail) (l : Literal) → (e.literal ≡ l → ⊥) → is_true (e ∷ t) l ≡ is_true t l
unfolding is_true any
true-other e t l n = by-test (same_literal l e.literal) (λ h. absurd (n (sym (same_literal-eq l e.literal h)))) (λ h. cc)

-- an entry says nothing of other atoms
state-other : (e : Entry) (t : Trail) (a : Atom) → (e.literal.atom ≡ a → ⊥) → atom_state (e ∷ t) a ≡ atom_state t a
unfolding truth is_false
state-other e t a n =
    cc (true-other e t (plain a) (λ q. n (ap (λ (x : Literal). x.atom) q ∙ plain-atom a)), true-other e t (negate (plain a)) (λ q. n (ap (λ (x : Literal). x.atom) q ∙ negate-atom (plain a) ∙ plain-atom a)))

-- and its own atom has the value that setting its literal gives
module _ (table : List Atom) (values : Values) (e : Entry) (t : Trail) (inside : position table e.literal.atom < 256) (size : length values ≡ 8) where
  abbrev its : Atom
  its = e.literal.atom

  abbrev stored : ℕ → Value
  stored w = value_at (assigned values w) (position table its)

  stored-plain : e.literal ≡ plain its → stored (literal_word table e.literal) ≡ atom_state (e ∷ t) its
  stored-plain q =
      let holds = at_true (e ∷ t) (plain its) (record { entry = e; inside = Memᴰ.head refl; its = q }) in
      ap stored (ap (literal_word table) q ∙ word-plain table its) ∙ assigned-even values (position table its) inside size ∙ sym (truth-true (e ∷ t) (plain its) holds)

  stored-negated : e.literal ≡ negate (plain its) → is_unset t e.literal ≡ true → stored (literal_word table e.literal) ≡ atom_state (e ∷ t) its
  unfolding is_false
  stored-negated q u =
      let holds = at_true (e ∷ t) (negate (plain its)) (record { entry = e; inside = Memᴰ.head refl; its = q }) in
      let other = true-other e t (plain its) (λ r. negate-differs (plain its) (sym q ∙ r)) in
      let before : is_true t (plain its) ≡ false = ap (is_true t) (sym (negate-negate (plain its)) ∙ ap negate (sym q)) ∙ unset-not-false t e.literal u in
      ap stored (ap (literal_word table) q ∙ word-negated table its) ∙ assigned-odd values (position table its) inside size ∙ sym (truth-false (e ∷ t) (plain its) (other ∙ before) holds)

  assigned-state : is_unset t e.literal ≡ true → stored (literal_word table e.literal) ≡ atom_state (e ∷ t) its
  assigned-state u =
      by-test e.literal.positive (λ h. stored-plain (as_plain e.literal h)) (λ h. stored-negated (as-negated e.literal h) u)

-- ── setting and undoing ──

abbrev pub entry_word : List Atom → Entry → ℕ
entry_word table e = literal_word table e.literal

abbrev pub entry_mark : Entry → ℕ
entry_mark e = mark_of e.why

-- the arrays have their sizes
pub record Room (table : List Atom) (values : Values) (trail marks : List ℕ) : Type 0 where
  pub table-size : length table ≤ 256
  pub values-size : length values ≡ 8
  pub trail-size : length trail ≡ 256
  pub marks-size : length marks ≡ 256

-- arrays of the same lengths have them too
pub room-kept : {table : List Atom} {values : Values} {trail marks : List ℕ} {values' : Values} {trail' marks' : List ℕ} → Room table values trail marks
    → length values' ≡ length values → length trail' ≡ length trail → length marks' ≡ length marks → Room table values' trail' marks'
room-kept r v t m = record { table-size = r.table-size; values-size = v ∙ r.values-size; trail-size = t ∙ r.trail-size; marks-size = m ∙ r.marks-size }

-- the values change at a literal's atom alone; a trail that differs at this atom alone has them then
module _ (table : List Atom) (values values' : Values) (l : Literal) (inside : l.atom ∈ table)
    (others : (i : ℕ) → (literal_word table l / 2 ≡ i → ⊥) → value_at values' i ≡ value_at values i) where
  changed-outside : ((i : ℕ) → length table ≤ i → value_at values i ≡ unset_value) → (i : ℕ) → length table ≤ i → value_at values' i ≡ unset_value
  changed-outside o i h = others i (λ q. omega (arith, q, h, word-half table l, position-inside table l.atom inside)) ∙ o i h

  changed-valued : (before after : Trail) → Valued table before values
      → value_at values' (position table l.atom) ≡ atom_state after l.atom → ((a : Atom) → (l.atom ≡ a → ⊥) → atom_state after a ≡ atom_state before a)
      → Valued table after values'
  changed-valued before after valued here elsewhere a m =
      by-test (same_atom l.atom a)
      (λ e. subst (λ (b : Atom). value_at values' (position table b) ≡ atom_state after b) (same_atom-eq l.atom a e) here)
      (λ e. let n = apart-atoms e in
      others (position table a) (λ q. n (position-injective table l.atom a inside m (sym (word-half table l) ∙ q)))
      ∙ valued a m
      ∙ sym (elsewhere a n))

-- an unset literal of the table is set
pub set-stands : {table : List Atom} {t : Trail} {values : Values} {trail marks : List ℕ} → Room table values trail marks → TrailStands table t values trail marks
    → (l : Literal) (y : Why) → is_unset t l ≡ true → l.atom ∈ table → length t < 256
    → TrailStands table (record { literal = l; why = y } ∷ t) (assigned values (literal_word table l)) (set trail (length t) (literal_word table l)) (set marks (length t) (mark_of y))
set-stands {table} {t} {values} {trail} {marks} r s l y u m h =
    record {
      words = push (entry_word table) e t trail (omega (arith, r.trail-size)) s.words;
      whys = push entry_mark e t marks (omega (arith, r.marks-size)) s.whys;
      valued = changed-valued table values (assigned values w) l m (assigned-elsewhere values w) t (e ∷ t) s.valued
          (assigned-state table values e t (omega (arith, r.table-size, position-inside table l.atom m)) r.values-size u)
          (state-other e t);
      outside = changed-outside table values (assigned values w) l m (assigned-elsewhere values w) s.outside;
    }
  where
    e : Entry
    e = record { literal = l; why = y }

    w : ℕ
    w = literal_word table l

-- every entry's atom stands in the table
abbrev pub EntriesEntered : List Atom → Trail → Type 0
EntriesEntered table t = (e : Entry) → e ∈ t → e.literal.atom ∈ table

-- no atom is set twice
abbrev pub SetOnce : Trail → Type 0
SetOnce t = Different (map (λ (e : Entry). e.literal.atom) t)

-- every word in use is below 512
pub words_small : {table : List Atom} {t : Trail} {values : Values} {trail marks : List ℕ} → length table ≤ 256 → TrailStands table t values trail marks → EntriesEntered table t
    → (i : ℕ) → i < length t → get_or trail i 0 < 512
words_small {table} {t} {trail = trail} h s g =
    each-place (entry_word table) (λ (w : ℕ). w < 512) t trail s.words (λ e m. word_small table e.literal h (g e m))

-- the latest entry is undone
unset-latest : {table : List Atom} {e : Entry} {t : Trail} {values : Values} {trail marks : List ℕ} → length table ≤ 256 → length values ≡ 8 → TrailStands table (e ∷ t) values trail marks
    → e.literal.atom ∈ table → (e.literal.atom ∈ map atom_of t → ⊥)
    → TrailStands table t (unassigned values (literal_word table e.literal)) trail marks
unset-latest {table} {e} {t} {values} {trail} {marks} h size s m n =
    record {
      words = pop (entry_word table) e t trail s.words;
      whys = pop entry_mark e t marks s.whys;
      valued = changed-valued table values (unassigned values w) e.literal m (unassigned-elsewhere values w) (e ∷ t) t s.valued
          (unassigned-here values (position table a) (omega (arith, position-inside table a m)) size w (word-half table e.literal) ∙ sym (truth-unset t (plain a) (new-unset t (plain a) (rw plain-atom n))))
          (λ b k. sym (state-other e t b k));
      outside = changed-outside table values (unassigned values w) e.literal m (unassigned-elsewhere values w) s.outside;
    }
  where
    a : Atom
    a = e.literal.atom

    w : ℕ
    w = literal_word table e.literal

-- what stands above a trail is undone
pub undo-stands : {table : List Atom} (above t : Trail) {values : Values} {trail marks : List ℕ} → Room table values trail marks → TrailStands table (above ++ t) values trail marks
    → EntriesEntered table (above ++ t) → SetOnce (above ++ t)
    → TrailStands table t (cleared values (take (length (above ++ t) - length t) (drop (length t) trail))) trail marks
unfolding cleared
undo-stands [] t r s g d = let z : length t - length t ≡ 0 = omega arith in rw (z, cleared) s
undo-stands {table} (e ∷ above) t {values} {trail} {marks} r s g d =
    let rest = above ++ t in
    let next = unset-latest r.table-size r.values-size s (g e (Memᴰ.head refl)) d.0 in
    let sizes : Room table (unassigned values (literal_word table e.literal)) trail marks = room-kept r (length-unassigned values (literal_word table e.literal)) refl refl in
    let long : length t ≤ length rest = omega (arith, length-append above t) in
    rw (cleared-latest values trail (length t) (length rest) long (fits (entry_word table) (e ∷ rest) trail s.words) (top (entry_word table) e rest trail s.words)) (undo-stands above t sizes next (λ c k. g c (Memᴰ.tail k)) d.1)

-- ── the table grows ──

-- a new atom has no value yet
pub grown-stands : {table : List Atom} {t : Trail} {values : Values} {trail marks : List ℕ} → TrailStands table t values trail marks → EntriesEntered table t
    → (a : Atom) → (a ∈ table → ⊥) → TrailStands (table ++ (a ∷ [])) t values trail marks
grown-stands {table} {t} {values} s g a n =
    record {
      words = s.words ∙ same-words (entry_word table) (entry_word (table ++ (a ∷ []))) t (λ e m. sym (literal-word-append table (a ∷ []) e.literal (g e m)));
      whys = s.whys;
      valued = λ b m. elim (Memᴰ.append_cases table m) [
        | inl k ↦ ap (value_at values) (position-append table (a ∷ []) b k) ∙ s.valued b k
        | inr k ↦ new-value b (Memᴰ.eq_of_singleton k)
      ];
      outside = λ i h. s.outside i (omega (arith, length-append table (a ∷ [])));
    }
  where
    unset : is_unset t (plain a) ≡ true
    unset = new-unset t (plain a) (λ m. let (e, k, q) = Memᴰ.of_map atom_of t m in n (Memᴰ.cast (sym (q ∙ plain-atom a)) (g e k)))

    new-value : (b : Atom) → b ≡ a → value_at values (position (table ++ (a ∷ [])) b) ≡ atom_state t b
    new-value b q = rw (q, position-behind table [] a n) (s.outside (length table) (omega arith) ∙ sym (truth-unset t (plain a) unset))

-- ── the start ──

pub start-stands : (table : List Atom) (trail marks : List ℕ) → TrailStands table [] no_values trail marks
start-stands table trail marks =
    record {
      words = refl;
      whys = refl;
      valued = λ a m. no_value (position table a) ∙ sym (truth-unset [] (plain a) (new-unset [] (plain a) (λ k. Memᴰ.not-nil k)));
      outside = λ i h. no_value i;
    }
