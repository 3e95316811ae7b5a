-- Where the arrays stand for a trail: an unset literal's atom is unset, and the entries of the trail can be undone. Assumes nothing.
use Rattle.std.specs.Prelude.{ℕ, ◌/◌, ◌<◌, ◌≡◌, refl, true, false, List, [], ◌∷◌, eqb, length, get_or}
use Rattle.std.proofs.Common.{sym, ap, ◌∙◌, arith, eqb-true}
use mathlib.Core.List.Memᴰ
use Rattle.std.proofs.lemmas.Bool.{eqb-false}
use Rattle.definitions.specs.Lists.{◌∈◌}
use Rattle.definitions.specs.Words.{Atom, Literal, plain, negate, position}
use Rattle.definitions.specs.Search.{Entry, Trail, is_true, is_false, is_unset}
use Rattle.definitions.specs.LiteralTest.{unset_value, truth, atom_state, literal_sign}
use Rattle.theory.specs.Tests.{by-test}
use Rattle.theory.specs.WordLaws.{as_plain, as-negated, negate-negate}
use Rattle.theory.specs.SearchLaws.{Consistent, at_true, unset-of, unset-not-true, unset-not-false}
use Rattle.theory.specs.TruthLaws.{truth-true, truth-false, truth-unset}
use Rattle.theory.specs.TableLaws.{position-inside, position-injective}
use Rattle.encoding.specs.Encoding.{literal_word}
use Rattle.encoding.specs.Values.{Values, value_at}
use Rattle.encoding.specs.WordTruths.{literal-sign}
use Rattle.units.specs.LiteralWords.{word-half}
use Rattle.units.specs.Stacks.{Stacked, fits, pop, top, each-place}
use Rattle.units.specs.TrailWords.{TrailStands}
use Rattle.units.specs.TrailLaws.{entry_word, Room, EntriesEntered, SetOnce, words_small}
use Rattle.counters.specs.Setting.{IsUnset, IsSet}
use Rattle.counters.specs.Undoing.{Undoable}

-- ── what the trail says of an atom ──

unset-state : (t : Trail) (l : Literal) → is_unset t l ≡ true → atom_state t l.atom ≡ unset_value
unfolding is_false
unset-state t l u =
    by-test l.positive
    (λ p. ap (truth t) (sym (as_plain l p)) ∙ truth-unset t l u)
    (λ p. let q = as-negated l p in
    let f : is_true t (plain l.atom) ≡ false = ap (is_true t) (sym (negate-negate (plain l.atom)) ∙ ap negate (sym q)) ∙ unset-not-false t l u in
    let g : is_true t (negate (plain l.atom)) ≡ false = ap (is_true t) (sym q) ∙ unset-not-true t l u in
    truth-unset t (plain l.atom) (unset-of t (plain l.atom) f g))

true-state : (t : Trail) → Consistent t → (l : Literal) → is_true t l ≡ true → atom_state t l.atom ≡ literal_sign l
unfolding is_false literal_sign
true-state t consistent l h =
    by-test l.positive
    (λ p. ap (truth t) (sym (as_plain l p)) ∙ truth-true t l h ∙ rw p)
    (λ p. let q = as-negated l p in
    let g : is_true t (negate (plain l.atom)) ≡ true = ap (is_true t) (sym q) ∙ h in
    by-test (is_true t (plain l.atom))
    (λ f. absurd (consistent (plain l.atom) f g))
    (λ f. truth-false t (plain l.atom) f g ∙ rw p))

-- ── and the arrays ──

module _ {table : List Atom} {t : Trail} {values : Values} {trail marks : List ℕ} (room : Room table values trail marks)
    (s : TrailStands table t values trail marks) where
  word-inside : (l : Literal) → l.atom ∈ table → literal_word table l / 2 < 256
  word-inside l m = omega (arith, word-half table l, position-inside table l.atom m, room.table-size)

  pub literal-unset : (l : Literal) → l.atom ∈ table → is_unset t l ≡ true → IsUnset values (literal_word table l)
  literal-unset l m u =
      record { inside = word-inside l m; size = room.values-size; state = ap (value_at values) (word-half table l) ∙ s.valued l.atom m ∙ unset-state t l u }

  module _ (consistent : Consistent t) (entered : EntriesEntered table t) where
    entry_set : (e : Entry) → e ∈ t → IsSet values (entry_word table e)
    entry_set e m =
        let l = e.literal in
        record {
          inside = word-inside l (entered e m);
          size = room.values-size;
          state = ap (value_at values) (word-half table l) ∙ s.valued l.atom (entered e m) ∙ true-state t consistent l (at_true t l (record { entry = e; inside = m; its = refl })) ∙ sym (literal-sign table l);
        }

    pub entries-undoable : SetOnce t → (from : ℕ) → Undoable values trail from (length t)
    entries-undoable once from = record {
      size = fits (entry_word table) t trail s.words;
      small = λ i a b. words_small room.table-size s entered i b;
      valued = λ i a b. each-place (entry_word table) (IsSet values) t trail s.words entry_set i b;
      apart = λ i j a b c. places-apart t s.words once entered i j b c;
    }
      where
        -- the atoms of two places differ
        places-apart : (u : Trail) → Stacked (entry_word table) u trail → SetOnce u → EntriesEntered table u → (i j : ℕ) → i < j → j < length u → get_or trail j 0 / 2 ≡ get_or trail i 0 / 2 → ⊥
        places-apart [] k d g i j a b q = omega arith
        places-apart (e ∷ u) k d g i j a b q =
            by-test (eqb j (length u))
            (λ z. let its = eqb-true j (length u) z in
            let here : get_or trail j 0 ≡ entry_word table e = ap (λ (n : ℕ). get_or trail n 0) its ∙ top (entry_word table) e u trail k in
            each-place (entry_word table) (λ (w : ℕ). w / 2 ≡ position table e.literal.atom → ⊥) u trail (pop (entry_word table) e u trail k)
            (λ f m r. d.0 (Memᴰ.cast (sym (position-injective table f.literal.atom e.literal.atom (g f (Memᴰ.tail m)) (g e (Memᴰ.head refl)) (sym (word-half table f.literal) ∙ r))) (Memᴰ.map (λ (x : Entry). x.literal.atom) m)))
            i (omega arith)
            (sym q ∙ ap (λ (w : ℕ). w / 2) here ∙ word-half table e.literal))
            (λ z. let n = eqb-false j (length u) z in
            places-apart u (pop (entry_word table) e u trail k) d.1 (λ f m. g f (Memᴰ.tail m)) i j a (omega (arith, n)) q)
