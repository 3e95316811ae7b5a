-- The slots of a clause: its literals as patterns whose terms are constants, and what their words say. Assumes nothing.
use Rattle.std.specs.Prelude.{ℕ, zero, suc, ◌+◌, ◌-◌, ◌*◌, ◌%◌, ◌≤◌, ◌≡◌, refl, not, List, [], ◌∷◌, ◌++◌, map, length, get_or}
use Rattle.std.proofs.Math.Path.{sym, ap}
use Rattle.std.proofs.Common.{◌∙◌, append_assoc, arith, get_or-append-add}
use Rattle.std.proofs.Math.ListN.{length-append}
use Rattle.std.proofs.Math.Seq.{get_or-append_seam}
use Rattle.definitions.specs.Lists.{joined}
use Rattle.definitions.specs.Words.{Literal, Clause, constant}
use Rattle.encoding.specs.Signs.{word_of, word_of-half, word-bit}
use Rattle.encoding.specs.Slots.{as_pattern, term_word, term_words, pattern_words, slot_words}
use Rattle.encoding.specs.SlotLaws.{pattern-length}
use Rattle.literals.specs.Entering.{slot_code}
use Rattle.encoding.specs.Encoding.{place, atom_code}
use Rattle.encoding.specs.CodeLaws.{CodeLimits, AtomLimits, arity-at-most}

-- ── the slot of a clause's literal ──

-- the word of the argument at a place, 0 where there is none
unfoldable constant_word : List ℕ → ℕ → ℕ
constant_word args i = get_or (map (λ c. 6 + c) args) i 0

constant-words :
    (args : List ℕ) → length args ≤ 3
    → term_words (map constant args) ≡ constant_word args 0 ∷ constant_word args 1 ∷ constant_word args 2 ∷ []
unfolding term_words term_word constant_word
constant-words [] h = refl
constant-words (x ∷ []) h = refl
constant-words (x ∷ y ∷ []) h = refl
constant-words (x ∷ y ∷ z ∷ []) h = refl
constant-words (x ∷ y ∷ z ∷ w ∷ args) h = absurd (omega arith)

constant-place : (args : List ℕ) (i : ℕ) → constant_word args i - 7 ≡ place args i
unfolding constant_word place
constant-place [] i = refl
constant-place (x ∷ args) zero = omega arith
constant-place (x ∷ args) (suc i) = constant-place args i

-- the words of a literal stand from a place on
pub record SlotAt (slots : List ℕ) (base : ℕ) (l : Literal) : Type 0 where
  pub front : List ℕ
  pub rest : List ℕ
  pub here : length front ≡ base
  pub split : slots ≡ front ++ (pattern_words (as_pattern l) ++ rest)

module _
    (constants : ℕ) (arities : List ℕ) (limits : CodeLimits constants arities)
    (l : Literal) (keeps : AtomLimits constants arities l.atom)
    (slots : List ℕ) (base : ℕ) (slot : SlotAt slots base l) where
  slot-words :
      pattern_words (as_pattern l)
      ≡ word_of (not l.positive) l.atom.symbol ∷ constant_word l.atom.args 0 ∷ constant_word l.atom.args 1 ∷ constant_word l.atom.args 2 ∷ []
  unfolding pattern_words as_pattern
  slot-words =
      rw (constant-words l.atom.args (omega (arith, keeps.args, arity-at-most constants arities limits (l.atom.symbol - 1))))

  slot-symbol : get_or slots base 0 ≡ word_of (not l.positive) l.atom.symbol
  slot-symbol = rw (slot.split, slot-words, ← slot.here) (get_or-append_seam slot.front _ _ 0)

  slot-first : get_or slots (base + 1) 0 ≡ constant_word l.atom.args 0
  slot-first = rw (slot.split, slot-words, ← slot.here) (get_or-append-add slot.front _ 1 0)

  slot-second : get_or slots (base + 2) 0 ≡ constant_word l.atom.args 1
  slot-second = rw (slot.split, slot-words, ← slot.here) (get_or-append-add slot.front _ 2 0)

  slot-third : get_or slots (base + 3) 0 ≡ constant_word l.atom.args 2
  slot-third = rw (slot.split, slot-words, ← slot.here) (get_or-append-add slot.front _ 3 0)

  pub slot-code : slot_code slots base ≡ atom_code l.atom
  unfolding slot_code atom_code
  slot-code =
      let args = l.atom.args in
      rw (slot-symbol, slot-first, slot-second, slot-third, word_of-half (not l.positive) l.atom.symbol, constant-place args 0, constant-place args 1, constant-place args 2)

  -- 1 where the literal is negated
  pub slot-sign : get_or slots base 0 % 2 ≡ word_of (not l.positive) 0
  slot-sign = rw slot-symbol (word-bit (not l.positive) l.atom.symbol)

-- ── the slots of a clause ──

-- from the slot of this number on, the slots are a clause's
pub record SlotsFrom (slots : List ℕ) (i : ℕ) (c : Clause) : Type 0 where
  pub front : List ℕ
  pub rest : List ℕ
  pub here : length front ≡ 4 * i
  pub split : slots ≡ front ++ (slot_words (map as_pattern c) ++ rest)

module _ (slots : List ℕ) (i : ℕ) (l : Literal) (c : Clause) (s : SlotsFrom slots i (l ∷ c)) where
  pub first_slot : SlotAt slots (4 * i) l
  unfolding slot_words joined
  first_slot =
      let later = slot_words (map as_pattern c) in
      record {
        front = s.front;
        rest = later ++ s.rest;
        here = s.here;
        split = s.split ∙ ap (λ t. s.front ++ t) (append_assoc (pattern_words (as_pattern l)) later s.rest);
      }

  pub later-slots : SlotsFrom slots (i + 1) c
  unfolding first_slot
  later-slots =
      let words = pattern_words (as_pattern l) in
      record {
        front = s.front ++ words;
        rest = s.rest;
        here = omega (arith, s.here, length-append s.front words, pattern-length (as_pattern l));
        split = first_slot.split ∙ sym (append_assoc s.front words (slot_words (map as_pattern c) ++ s.rest));
      }
