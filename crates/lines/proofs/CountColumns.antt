-- The columns of a line from one on: whether some are left, what refuses a line, and the words that hold them. Assumes nothing.
use Rattle.std.specs.Prelude.{ℕ, zero, suc, ◌-◌, ◌≤◌, ◌<◌, ◌≡◌, true, false, List, [], ◌∷◌, Result, Ok, Err, IsErrAnd, map, length, take, drop}
use Rattle.std.proofs.Common.{arith, ap, ◌∙◌, refl}
use Rattle.std.proofs.Math.ListN.{length-drop, length-map}
use Rattle.std.proofs.Math.Seq.{take_all}
use Rattle.definitions.specs.Lists.{is_empty}
use Rattle.definitions.specs.Sheet.{Number}
use Rattle.definitions.specs.Questions.{no, ◌>>◌, ask, within, count}
use Rattle.definitions.specs.Numbered.{question_number}
use Rattle.definitions.specs.declared.Question.{Question}
use Rattle.theory.specs.Tests.{by-test}
use Rattle.theory.specs.ListLaws.{none-empty, some-full}
use Rattle.encoding.specs.Signs.{number_of}
use Rattle.lines.specs.LineReads.{Refuses}

module _ (line : List ℕ) (i : ℕ) where
  pub no-column : length line ≤ i → is_empty (drop i (map number_of line)) ≡ true
  no-column h = none-empty (drop i (map number_of line)) (omega (arith, length-drop i (map number_of line), length-map line number_of))

  pub some-column : i < length line → is_empty (drop i (map number_of line)) ≡ false
  some-column h = some-full (drop i (map number_of line)) (λ z. omega (arith, length-drop i (map number_of line), length-map line number_of))

drop-numbers : (i : ℕ) (line : List ℕ) → map number_of (drop i line) ≡ drop i (map number_of line)
drop-numbers zero line = refl
drop-numbers (suc i) [] = refl
drop-numbers (suc i) (w ∷ line) = drop-numbers i line

-- the words from a column on hold the numbers from there on
pub words-from : (i : ℕ) (line : List ℕ) → map number_of (take (length line - i) (drop i line)) ≡ drop i (map number_of line)
words-from i line = ap (map number_of) (take_all (length line - i) (drop i line) (omega (arith, length-drop i line))) ∙ drop-numbers i line

-- a question that is handed on is the one that was answered no
pub handed : {A : Type 0} (r : Result A Question) (e : Question) → IsErrAnd r (λ d. d ≡ e) → {q : ℕ} → question_number e ≡ q → Refuses r q
handed (Ok x) e same n = absurd same
handed (Err d) e same n = ap question_number same ∙ n

-- a count is refused by the question that it belongs to
pub count-refused : {p q : ℕ} (low high : ℕ) (ns : List Number) → count p low high ns ≡ no q → q ≡ p
unfolding count ask ◌>>◌
count-refused low high [] e = cc
count-refused low high (n ∷ ns) e = by-test (within low high n) (λ t. cc) (λ t. cc)
