-- What the reader of slots leaves: a refusal by question 10, or a walk whose literals stand as words at the front of the slots.
use Prim.Native.Nat.{ℕ, ◌+◌, ◌*◌, ◌≤◌}
use mathlib.Core.Path.{◌≡◌, ◌∙◌, ap, sym}
use mathlib.Core.Bool.{Bool, true, false}
use mathlib.Core.List.{List, ◌++◌, append_assoc}
use native.Mathlib.Omega.{arith}
use lib.ListN.{length, take, drop, length-append, length-map}
use lib.Seq.{sets, take_at, drop_at}
use Rattle.definitions.specs.Lists.{is_empty}
use Rattle.definitions.specs.Words.{Pattern}
use Rattle.definitions.specs.Sheet.{Number}
use Rattle.definitions.specs.Questions.{Asked, no, yes, Parsed, literals, pattern_of}
use Rattle.theory.specs.AskedLaws.{by-asked}
use Rattle.theory.specs.ListLaws.{none-empty, some-full}
use Rattle.column.specs.Sets.{sets-front, sets-taken}
use Rattle.std.specs.Prelude.{Result, Ok, Err, map}
use Rattle.std.proofs.Common.{Bor}
use Rattle.definitions.specs.Numbered.{question_number}
use Rattle.definitions.specs.declared.Question.{Question}
use Rattle.definitions.specs.declared.Question.TheVariants.{Literals}
use Rattle.encoding.specs.Signs.{number_of}
use Rattle.literals.specs.SlotReads.{argument, SlotsRead}
use Rattle.encoding.specs.Slots.{slot_words}
use Rattle.literals.specs.SlotReadLaws.{literals-refusal}
use Rattle.encoding.specs.SlotLaws.{slot_words-length, slot_words-append}

-- ── a walk that is refused or not ──

-- the walk, the words that are left behind it, and its words in the slots
pub record SlotsWalked (m : Asked (Parsed (List Pattern))) (left before after : List ℕ) : Type 0 where
  pub walk : Parsed (List Pattern)
  pub read : m ≡ yes walk
  pub columns : map number_of left ≡ walk.left
  pub words : after ≡ sets before 0 (slot_words walk.found)

module _ (rule : Bool) (constants : ℕ) (arities : List ℕ) (count : ℕ) (ns : List Number) (before after : List ℕ) where
  pub slots-refused : (e : Question) → SlotsRead (literals (argument rule constants) pattern_of arities count ns) (Err e) before after
      → literals (argument rule constants) pattern_of arities count ns ≡ no (question_number e)
  slots-refused e r =
      by-asked (literals (argument rule constants) pattern_of arities count ns)
      (λ q f.
      let g : ◌≡◌ {A = Result (Bor (List ℕ)) Question} (Err e) (Err Literals) = rw f at r in
      let h : e ≡ Literals = cc in
      f ∙ ap no (literals-refusal rule constants pattern_of arities count ns q f ∙ ap question_number (sym h)))
      (λ w f. absurd (rw f at r).0)

  pub slots-walked : (words : Bor (List ℕ)) → SlotsRead (literals (argument rule constants) pattern_of arities count ns) (Ok words) before after
      → SlotsWalked (literals (argument rule constants) pattern_of arities count ns) words.now before after
  slots-walked words r =
      by-asked (literals (argument rule constants) pattern_of arities count ns)
      (λ q f. let g : ◌≡◌ {A = Result (Bor (List ℕ)) Question} (Ok words) (Err Literals) = rw f at r in cc)
      (λ w f. let s = rw f at r in record { walk = w; read = f; columns = s.0; words = s.1 })

-- question 11, by the words that are left
pub left_over : (words : List ℕ) (left : List Number) → map number_of words ≡ left → (length words ≡ 0 → ⊥) → is_empty left ≡ false
left_over words left e h = some-full left (λ z. h (omega (arith, z, length-map words number_of, ap length e)))

pub none_left : (words : List ℕ) (left : List Number) → map number_of words ≡ left → length words ≡ 0 → is_empty left ≡ true
none_left words left e h = none-empty left (omega (arith, h, length-map words number_of, ap length e))

-- ── the front of the slots ──

module _ (before : List ℕ) {after : List ℕ} (found : List Pattern) (words : after ≡ sets before 0 (slot_words found)) where
  pub words-front : (count : ℕ) → length found ≡ count → 4 * count ≤ length before → take (4 * count) after ≡ slot_words found
  words-front count l fits =
      let e = slot_words-length found in
      rw (words, ← l, ← e) (sets-taken before (slot_words found) (omega arith))

-- the literals in two parts
module _ (before : List ℕ) {after : List ℕ} (xs ys : List Pattern) (words : after ≡ sets before 0 (slot_words (xs ++ ys)))
    {h b : ℕ} (first : length xs ≡ h) (second : length ys ≡ b) (fits : 4 * (h + b) ≤ length before) where
  words-both : after ≡ slot_words xs ++ (slot_words ys ++ drop (length (slot_words (xs ++ ys))) before)
  words-both =
      words
      ∙ sets-front before (slot_words (xs ++ ys)) (omega (arith, slot_words-length (xs ++ ys), length-append xs ys))
      ∙ rw (slot_words-append xs ys, append_assoc)

  pub first-words : take (4 * h) after ≡ slot_words xs
  first-words = rw words-both (take_at (slot_words xs) _ (4 * h) (rw (← first) (slot_words-length xs)))

  pub second-words : take (4 * b) (drop (4 * h) after) ≡ slot_words ys
  second-words =
      rw (words-both, drop_at (slot_words xs) (slot_words ys ++ drop (length (slot_words (xs ++ ys))) before) (4 * h) (rw (← first) (slot_words-length xs)))
      (take_at (slot_words ys) _ (4 * b) (rw (← second) (slot_words-length ys)))

  pub both_words : take (4 * (h + b)) after ≡ slot_words (xs ++ ys)
  both_words = words-front before (xs ++ ys) words (h + b) (omega (arith, length-append xs ys)) fits
