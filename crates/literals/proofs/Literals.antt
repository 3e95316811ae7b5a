-- The literals of a line into slots: one of them, and those filled so far with the walk over the ones that are left. Assumes nothing.
use Prim.Native.Nat.{ℕ, suc, ◌+◌, ◌-◌, ◌*◌, ◌/◌, ◌%◌, ◌≤◌, ◌<◌}
use mathlib.Core.Path.{◌≡◌, refl, sym, ap, ◌∙◌}
use mathlib.Core.Bool.{Bool, false, not, ◌&&◌}
use mathlib.Core.List.{List, [], ◌∷◌, ◌++◌, map, append-nil}
use native.Mathlib.Omega.{arith}
use lib.Dec.{eqb, leb}
use lib.ListN.{length, length-append, get_or, drop, set}
use lib.Seq.{sets}
use borrow.Author.Tests.{le-leb, lt-leb, eqb-true, eqb-false}
use Rattle.definitions.specs.Lists.{joined}
use Rattle.definitions.specs.Words.{Term, Pattern}
use Rattle.definitions.specs.Sheet.{Number}
use Rattle.definitions.specs.Questions.{Asked, no, yes, ◌>>=◌, ◌>>◌, ask, Parsed, arguments, literal, literals, pattern_of}
use Rattle.theory.specs.Tests.{by-test}
use Rattle.theory.specs.AskedLaws.{by-asked}
use Rattle.column.specs.Sets.{sets-append}
use Rattle.encoding.specs.Signs.{word_of, number_of}
use Rattle.std.specs.Prelude.{Result, Ok, Err, IsErrAnd}
use Rattle.std.proofs.Common.{Bor}
use Rattle.definitions.specs.declared.Question.{Question}
use Rattle.definitions.specs.declared.Question.TheVariants.{Literals}
use Rattle.literals.specs.SlotReads.{argument, TermsRead, SlotRead, SlotsRead}
use Rattle.encoding.specs.Slots.{pattern_words, slot_words}
use Rattle.literals.specs.SlotReadLaws.{prefixed, prefixed-nil, prefixed-twice}
use Rattle.encoding.specs.SlotLaws.{slot_words-length, slot_words-append, slot_words-one}
use Rattle.literals.proofs.Terms.{front-word, no-word}

-- ── one literal ──

-- the word of a number is the word that it was read from
word-again : (w : ℕ) → word_of (not (not (eqb (w % 2) 1))) (w / 2) ≡ w
unfolding word_of
word-again w =
    by-test (eqb (w % 2) 1)
    (λ e. rw e (omega (arith, eqb-true (w % 2) 1 e)))
    (λ e. let even : w % 2 ≡ 0 = by_zero (w % 2) (eqb-false (w % 2) 1 e) (omega arith) in rw e (omega (arith, even)))
  where
    by_zero : (r : ℕ) → (r ≡ 1 → ⊥) → r < 2 → r ≡ 0
    by_zero r n h = omega arith

module _ (a : Number → Asked Term) (arities : List ℕ) (n : Number) (ns : List Number) where
  undeclared : (leb 1 n.size && leb n.size (length arities)) ≡ false → literal a pattern_of arities (n ∷ ns) ≡ no 10
  unfolding literal ask ◌>>◌
  undeclared e = rw e

  declared : 1 ≤ n.size → n.size ≤ length arities
      → literal a pattern_of arities (n ∷ ns)
      ≡ (arguments a (get_or arities (n.size - 1) 0) ns >>= λ w. yes (record { found = pattern_of (not n.negative) n.size w.found; left = w.left }))
  unfolding literal ask ◌>>◌
  declared l h = rw (le-leb 1 n.size l, le-leb n.size (length arities) h)

module _ (rule : Bool) (constants : ℕ) (arities words : List ℕ) (base : ℕ) (before now : List ℕ) where
  abbrev whole : Asked (Parsed Pattern)
  whole = literal (argument rule constants) pattern_of arities (map number_of words)

  abbrev Read : Result (Bor (List ℕ)) Question → Type 0
  Read r = SlotRead whole r base before now

  refused : (q : ℕ) → whole ≡ no q → (r : Result (Bor (List ℕ)) Question) → r ≡ Err Literals → Read r
  refused q e r f = rw e f

  pub slot-short : length words < 1 → Read (Err Literals)
  unfolding literal
  slot-short h = refused 10 (rw (no-word words h)) _ refl

  module _ (h : 1 ≤ length words) (v : ℕ) (is : v ≡ get_or words 0 0) where
    abbrev behind : List Number
    behind = map number_of (drop 1 words)

    untold : (leb 1 (v / 2) && leb (v / 2) (length arities)) ≡ false → Read (Err Literals)
    unfolding number_of
    untold e = refused 10 (rw (front-word words h) (undeclared (argument rule constants) arities (number_of (get_or words 0 0)) behind (rw is at e))) _ refl

    pub slot-no-symbol : v / 2 ≡ 0 → Read (Err Literals)
    slot-no-symbol z = untold (rw (lt-leb 1 (v / 2) (omega arith)))

    pub slot-undeclared : (v / 2 ≡ 0 → ⊥) → length arities < v / 2 → Read (Err Literals)
    slot-undeclared z k = untold (rw (le-leb 1 (v / 2) (omega arith), lt-leb (v / 2) (length arities) k))

    -- the arguments are read into the rest of the slot
    module _ (z : v / 2 ≡ 0 → ⊥) (k : v / 2 ≤ length arities) (arity : ℕ) (same : arity ≡ get_or arities (v / 2 - 1) 0) where
      abbrev args : Asked (Parsed (List Term))
      args = arguments (argument rule constants) arity behind

      told : whole ≡ (args >>= λ w. yes (record { found = pattern_of (not (eqb (get_or words 0 0 % 2) 1)) (get_or words 0 0 / 2) w.found; left = w.left }))
      unfolding number_of
      told =
          let some : 1 ≤ v / 2 = omega arith in
          rw (same, is, front-word words h)
          (declared (argument rule constants) arities (number_of (get_or words 0 0)) behind (rw is at some) (rw is at k))

      pub slot-read : (r : Result (Bor (List ℕ)) Question) → TermsRead args r (base + 1) (set before base (get_or words 0 0)) now → Read r
      unfolding ◌>>=◌ pattern_of pattern_words
      slot-read r read =
          by-asked args
          (λ q e. refused q (told ∙ rw e) r (rw e at read))
          (λ w e.
          let filled : whole ≡ yes (record { found = pattern_of (not (eqb (get_or words 0 0 % 2) 1)) (get_or words 0 0 / 2) w.found; left = w.left }) = told ∙ rw e in
          let next : base + 1 ≡ suc base = omega arith in
          let put : now ≡ sets before base (pattern_words (pattern_of (not (eqb (get_or words 0 0 % 2) 1)) (get_or words 0 0 / 2) w.found)) = rw (word-again (get_or words 0 0)) (rw (e, next) at read).1 in
          rw filled ((rw e at read).0, put))

-- ── all of them ──

-- so many literals stand in the first slots, and the walk over the rest gives what is missing of the whole
pub record SlotsSoFar (whole rest : Asked (Parsed (List Pattern))) (i : ℕ) (before now : List ℕ) : Type 0 where
  pub patterns : List Pattern
  pub count : length patterns ≡ i
  pub split : whole ≡ prefixed patterns rest
  pub words : now ≡ sets before 0 (slot_words patterns)

-- the walk over so many literals from here on
unfoldable pub literals_from : Bool → ℕ → List ℕ → ℕ → List ℕ → Asked (Parsed (List Pattern))
literals_from rule constants arities k words = literals (argument rule constants) pattern_of arities k (map number_of words)

module _ (rule : Bool) (constants : ℕ) (arities : List ℕ) (k : ℕ) (left : List ℕ) where
  abbrev next-literal : Asked (Parsed Pattern)
  next-literal = literal (argument rule constants) pattern_of arities (map number_of left)

  from-no : (q : ℕ) → next-literal ≡ no q → literals_from rule constants arities (suc k) left ≡ no q
  unfolding literals_from literals ◌>>=◌
  from-no q e = rw e

  from-yes : (w : Parsed Pattern) → next-literal ≡ yes w → (rest : List ℕ) → map number_of rest ≡ w.left
      → literals_from rule constants arities (suc k) left ≡ prefixed (w.found ∷ []) (literals_from rule constants arities k rest)
  unfolding literals_from literals ◌>>=◌ prefixed
  from-yes w e rest same =
      rw (e, ← same)
      (by-asked (literals (argument rule constants) pattern_of arities k (map number_of rest))
      (λ q f. cc)
      (λ v f. cc))

module _ (rule : Bool) (constants : ℕ) (arities line : List ℕ) (count : ℕ) (before : List ℕ) where
  abbrev all : Asked (Parsed (List Pattern))
  all = literals_from rule constants arities count line

  abbrev AllRead : Result (Bor (List ℕ)) Question → List ℕ → Type 0
  AllRead r now = SlotsRead all r before now

  pub fill_start : SlotsSoFar all (literals_from rule constants arities (count - 0) line) 0 before before
  unfolding slot_words joined
  fill_start =
      let none : count - 0 ≡ count = omega arith in
      record { patterns = []; count = refl; split = rw none (sym (prefixed-nil all)); words = refl }

  module _ (i : ℕ) (left now : List ℕ) (so : SlotsSoFar all (literals_from rule constants arities (count - i) left) i before now) where
    pub fill_end : count ≤ i → (words : Bor (List ℕ)) → words.now ≡ left → AllRead (Ok words) now
    unfolding literals_from literals prefixed
    fill_end l words same =
        let none : count - i ≡ 0 = omega arith in
        let w : all ≡ yes (record { found = so.patterns; left = map number_of left }) = so.split ∙ rw (none, append-nil so.patterns) in
        rw w (ap (map number_of) same, so.words)

    module _ (l : i < count) (after : List ℕ) where
      abbrev here : Asked (Parsed Pattern)
      here = literal (argument rule constants) pattern_of arities (map number_of left)

      more : count - i ≡ suc (count - (i + 1))
      more = omega arith

      pub fill-refused : (q : Question) → SlotRead here (Err q) (4 * i) now after → (r : Result (Bor (List ℕ)) Question) → IsErrAnd r (λ d. d ≡ q) → AllRead r after
      unfolding prefixed
      fill-refused q read (Ok words) same = absurd same
      fill-refused q read (Err d) same =
          by-asked here
          (λ p e.
          let f : ◌≡◌ {A = Result (Bor (List ℕ)) Question} (Err q) (Err Literals) = rw e at read in
          let w : all ≡ no p = so.split ∙ rw (more, from-no rule constants arities (count - (i + 1)) left p e) in
          let g : d ≡ Literals = cc in
          rw (w, g) refl)
          (λ w e. absurd (rw e at read).0)

      pub fill-turn : (words : Bor (List ℕ)) → SlotRead here (Ok words) (4 * i) now after
          → SlotsSoFar all (literals_from rule constants arities (count - (i + 1)) words.now) (i + 1) before after
      fill-turn words read =
          by-asked here
          (λ q e. let f : ◌≡◌ {A = Result (Bor (List ℕ)) Question} (Ok words) (Err Literals) = rw e at read in cc)
          (λ w e. put w e (rw e at read).0 (rw e at read).1)
        where
          put : (w : Parsed Pattern) → here ≡ yes w → map number_of words.now ≡ w.left → after ≡ sets now (4 * i) (pattern_words w.found)
              → SlotsSoFar all (literals_from rule constants arities (count - (i + 1)) words.now) (i + 1) before after
          put w e same stored =
              let rest = literals_from rule constants arities (count - (i + 1)) words.now in
              let split : all ≡ prefixed so.patterns (prefixed (w.found ∷ []) rest) = so.split ∙ rw more (ap (prefixed so.patterns) (from-yes rule constants arities (count - (i + 1)) left w e words.now same)) in
              let place : 4 * i ≡ 0 + length (slot_words so.patterns) = omega (arith, slot_words-length so.patterns, so.count) in
              record {
                patterns = so.patterns ++ (w.found ∷ []);
                count = omega (arith, length-append so.patterns (w.found ∷ []), so.count);
                split = split ∙ prefixed-twice so.patterns (w.found ∷ []) rest;
                words = stored ∙ rw (so.words, place, sets-append, slot_words-append so.patterns (w.found ∷ []), slot_words-one);
              }
