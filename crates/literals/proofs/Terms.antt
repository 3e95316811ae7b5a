-- The terms of a slot, filled in from the left: those found so far, and the walk over the arguments that are left. Assumes nothing.
use Prim.Native.Nat.{ℕ, zero, suc, ◌+◌, ◌-◌, ◌≤◌, ◌<◌}
use mathlib.Core.Path.{◌≡◌, refl, sym, ap, ◌∙◌}
use mathlib.Core.Bool.{Bool}
use mathlib.Core.List.{List, [], ◌∷◌, ◌++◌, map, append-nil}
use native.Mathlib.Omega.{arith}
use lib.ListN.{length, length-append, get_or, take, drop, length-drop, set}
use lib.Seq.{take_all, set-set, sets}
use Rattle.definitions.specs.Words.{Term}
use Rattle.definitions.specs.Questions.{Asked, no, yes, ◌>>=◌, Parsed, arguments}
use Rattle.theory.specs.AskedLaws.{by-asked}
use Rattle.column.specs.Sets.{sets-before}
use Rattle.encoding.specs.Signs.{number_of}
use Rattle.std.specs.Prelude.{Result, Ok, Err, IsErrAnd}
use Rattle.std.proofs.Common.{Bor}
use Rattle.definitions.specs.declared.Question.{Question}
use Rattle.definitions.specs.declared.Question.TheVariants.{Literals}
use Rattle.literals.specs.SlotReads.{argument, argument_word, TermsRead}
use Rattle.encoding.specs.Slots.{term_word, term_words}
use Rattle.literals.specs.SlotReadLaws.{prefixed, prefixed-nil, prefixed-twice}
use Rattle.encoding.specs.SlotLaws.{term_words-length}

-- the word at the front, and those behind it
pub front-word : (words : List ℕ) → 1 ≤ length words → map number_of words ≡ number_of (get_or words 0 0) ∷ map number_of (drop 1 words)
front-word [] h = absurd (omega arith)
front-word (w ∷ words) h = refl

-- the words behind the first, as the code has them
pub rest-words : (words : List ℕ) → take (length words - 1) (drop 1 words) ≡ drop 1 words
rest-words words = take_all (length words - 1) (drop 1 words) (omega (arith, length-drop 1 words))

pub no-word : (words : List ℕ) → length words < 1 → words ≡ []
no-word [] h = refl
no-word (w ∷ words) h = absurd (omega arith)

-- a store into a run is a run
set-within : (l : List ℕ) (i k : ℕ) (x : ℕ) (ws : List ℕ) → k < length ws → set (sets l i ws) (i + k) x ≡ sets l i (set ws k x)
set-within l i k x [] h = absurd (omega arith)
set-within l i zero x (w ∷ ws) h =
    let e : i + 0 ≡ i = omega arith in
    let next : i + 1 ≡ suc i = omega arith in
    rw e ((rw next at (sets-before (set l i w) i (x ∷ []) ws)) ∙ ap (λ m. sets m (suc i) ws) (set-set l i w x))
set-within l i (suc k) x (w ∷ ws) h =
    let e : i + suc k ≡ suc i + k = omega arith in
    rw e (set-within (set l i w) (suc i) k x ws (omega arith))

-- the next term takes the place of the first 0
one_word_more : (ts : List Term) (t : Term) → length ts < 3 → set (term_words ts) (length ts) (term_word t) ≡ term_words (ts ++ (t ∷ []))
unfolding term_words
one_word_more [] t h = refl
one_word_more (a ∷ []) t h = refl
one_word_more (a ∷ b ∷ []) t h = refl
one_word_more (a ∷ b ∷ c ∷ ts) t h = absurd (omega arith)

-- an empty slot, store by store
pub three-zeros : (l : List ℕ) (base : ℕ) → set (set (set l base 0) (base + 1) 0) (base + 2) 0 ≡ sets l base (term_words [])
unfolding term_words
three-zeros l base =
    let e1 : base + 1 ≡ suc base = omega arith in
    let e2 : base + 2 ≡ suc (suc base) = omega arith in
    rw (e1, e2)

-- ── the walk ──

-- so many terms are found and stand in the slot, and the walk over the rest gives what is missing of the whole
pub record TermsSoFar (whole rest : Asked (Parsed (List Term))) (j base : ℕ) (before now : List ℕ) : Type 0 where
  pub terms : List Term
  pub count : length terms ≡ j
  pub split : whole ≡ prefixed terms rest
  pub words : now ≡ sets before base (term_words terms)

-- the walk over so many arguments from here on
unfoldable pub terms_from : Bool → ℕ → ℕ → List ℕ → Asked (Parsed (List Term))
terms_from rule constants k words = arguments (argument rule constants) k (map number_of words)

module _ (rule : Bool) (constants k : ℕ) (left : List ℕ) where
  from_end : length left < 1 → terms_from rule constants (suc k) left ≡ no 10
  unfolding terms_from arguments
  from_end h = rw (no-word left h)

  module _ (h : 1 ≤ length left) where
    abbrev here : Asked Term
    here = argument rule constants (number_of (get_or left 0 0))

    from-no : (q : ℕ) → here ≡ no q → terms_from rule constants (suc k) left ≡ no q
    unfolding terms_from arguments ◌>>=◌
    from-no q e = rw (front-word left h, e)

    from-yes : (x : Term) → here ≡ yes x → terms_from rule constants (suc k) left ≡ prefixed (x ∷ []) (terms_from rule constants k (drop 1 left))
    unfolding terms_from arguments ◌>>=◌ prefixed
    from-yes x e =
        rw (front-word left h, e)
        (by-asked (arguments (argument rule constants) k (map number_of (drop 1 left)))
        (λ q f. cc)
        (λ w f. cc))

module _ (rule : Bool) (constants : ℕ) (line : List ℕ) (arity base : ℕ) (before : List ℕ) where
  abbrev whole : Asked (Parsed (List Term))
  whole = terms_from rule constants arity line

  abbrev Read : Result (Bor (List ℕ)) Question → List ℕ → Type 0
  Read r now = TermsRead whole r base before now

  pub terms-start : (now : List ℕ) → now ≡ sets before base (term_words []) → TermsSoFar whole (terms_from rule constants (arity - 0) line) 0 base before now
  terms-start now e =
      let all : arity - 0 ≡ arity = omega arith in
      record { terms = []; count = refl; split = rw all (sym (prefixed-nil whole)); words = e }

  module _ (j : ℕ) (left now : List ℕ) (so : TermsSoFar whole (terms_from rule constants (arity - j) left) j base before now) where
    refused : (q : ℕ) → terms_from rule constants (arity - j) left ≡ no q → (r : Result (Bor (List ℕ)) Question) → r ≡ Err Literals → Read r now
    unfolding prefixed
    refused q e r f = let w : whole ≡ no q = so.split ∙ rw e in rw w f

    module _ (l : j < arity) where
      more : arity - j ≡ suc (arity - (j + 1))
      more = omega arith

      pub terms-short : length left < 1 → Read (Err Literals) now
      terms-short h = refused 10 (rw more (from_end rule constants (arity - (j + 1)) left h)) _ refl

      module _ (h : 1 ≤ length left) where
        abbrev argument-here : Asked Term
        argument-here = argument rule constants (number_of (get_or left 0 0))

        pub terms-refused : {q : Question} → Err q ≡ argument_word argument-here → (r : Result (Bor (List ℕ)) Question) → IsErrAnd r (λ d. d ≡ q) → Read r now
        unfolding argument_word
        terms-refused {q} is (Ok words) same = absurd same
        terms-refused {q} is (Err d) same =
            by-asked argument-here
            (λ p e. let f : q ≡ Literals = cc in refused p (rw more (from-no rule constants (arity - (j + 1)) left h p e)) (Err d) (cc))
            (λ t e. cc)

        pub terms-turn : {t : ℕ} → Ok t ≡ argument_word argument-here → arity ≤ 3
            → TermsSoFar whole (terms_from rule constants (arity - (j + 1)) (drop 1 left)) (j + 1) base before (set now (base + j) t)
        unfolding argument_word
        terms-turn {t} is few =
            by-asked argument-here
            (λ q e. cc)
            (λ x e.
            let w : t ≡ term_word x = cc in
            let rest = terms_from rule constants (arity - (j + 1)) (drop 1 left) in
            let split : whole ≡ prefixed so.terms (prefixed (x ∷ []) rest) = so.split ∙ rw more (ap (prefixed so.terms) (from-yes rule constants (arity - (j + 1)) left h x e)) in
            let count = so.count in
            let within : j < length (term_words so.terms) = omega (arith, term_words-length so.terms, count) in
            let word : set (term_words so.terms) j t ≡ term_words (so.terms ++ (x ∷ [])) = rw (w, ← count) (one_word_more so.terms x (omega (arith, count))) in
            record {
              terms = so.terms ++ (x ∷ []);
              count = omega (arith, length-append so.terms (x ∷ []), count);
              split = split ∙ prefixed-twice so.terms (x ∷ []) rest;
              words = rw (so.words, set-within before base j t (term_words so.terms) within, word);
            })

    pub terms-end : arity ≤ j → (words : Bor (List ℕ)) → words.now ≡ left → Read (Ok words) now
    unfolding terms_from arguments prefixed
    terms-end l words same =
        let none : arity - j ≡ 0 = omega arith in
        let w : whole ≡ yes (record { found = so.terms; left = map number_of left }) = so.split ∙ rw (none, append-nil so.terms) in
        rw w (ap (map number_of) same, so.words)
