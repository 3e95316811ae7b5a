-- Literals and the clause line that they make: what a turn stores stands in front of what the turns behind it store. Assumes nothing.
use Rattle.std.proofs.Common.{◌≡◌, refl, sym, ◌∙◌, ℕ, zero, suc, ◌+◌, Bool, true, false, ◌&&◌, nat_eq, leb, List, [], ◌∷◌, length, set, arith, ne_eqb, eqb-true}
use Rattle.std.proofs.lemmas.Bool.{eqb-false}
use Rattle.std.specs.List as list
use Rattle.definitions.specs.Questions.{no, yes, ◌>>=◌, ◌>>◌, ask}
use Rattle.definitions.specs.Dimacs.{front, expect, expects, decimal_at, minus_at, literal_at, close_at, starts_with, clause_line_at}
use Rattle.theory.specs.Tests.{by-test}
use Rattle.theory.specs.AskedLaws.{by-asked}
use Rattle.encoding.specs.Signs.{word_of}
use Rattle.cnf_reader.specs.Parts.{number_at}
use Rattle.cnf_reader.specs.CnfArrays.{number_word}
use Rattle.cnf_reader.specs.Lines.{LiteralRead, LineHeld}

-- ── one literal ──

pub sign-minus : (bs : List ℕ) → minus_at (45 ∷ bs) ≡ front true bs
unfolding minus_at
sign-minus bs = refl

pub sign-none : (b : ℕ) (bs : List ℕ) → (b ≡ 45 → ⊥) → minus_at (b ∷ bs) ≡ front false (b ∷ bs)
unfolding minus_at
sign-none b bs n = cc (ne_eqb b 45 n)

pub sign-end : (bs : List ℕ) → length bs ≡ 0 → minus_at bs ≡ front false bs
unfolding minus_at
sign-end [] h = refl
sign-end (b ∷ bs) h = absurd (omega arith)

pub ruleset signs = (sign-minus, sign-none, sign-end)

module _ (atoms : ℕ) (negative : Bool) (bs unsigned : List ℕ) (sign : front negative unsigned ≡ minus_at bs) where
  -- a literal is a number of the range behind its sign
  literal-number : literal_at atoms bs ≡ (number_at 22 1 atoms 32 unsigned >>= λ n. yes (front (record { negative = negative; size = n.found }) n.behind))
  unfolding literal_at number_at ◌>>=◌ ◌>>◌
  literal-number =
      rw (← sign)
      (by-asked (decimal_at 22 unsigned)
      (λ q e. rw e)
      (λ n e. rw e
      (by-asked (ask 22 (leb 1 n.found && leb n.found atoms))
      (λ q f. rw f)
      (λ u f. rw f
      (by-asked (expect 22 32 n.behind)
      (λ q g. rw g)
      (λ behind g. rw g))))))

  pub literal-none : number_at 22 1 atoms 32 unsigned ≡ no 22 → literal_at atoms bs ≡ no 22
  unfolding ◌>>=◌
  literal-none e = literal-number ∙ rw e

  pub literal-read : (size word : ℕ) (behind : List ℕ) → number_at 22 1 atoms 32 unsigned ≡ yes (front size behind) → word ≡ word_of negative size
      → LiteralRead (literal_at atoms bs) word behind
  unfolding ◌>>=◌ number_word
  literal-read size word behind e w = record { number = record { negative = negative; size = size }; reads = literal-number ∙ rw e; is = w }

-- ── the turns ──

-- whether a 0 stands at the front, as std and as the definitions have it
pub starts-zero : (bs : List ℕ) → list.starts_with nat_eq bs (48 ∷ []) ≡ starts_with 48 bs
unfolding starts_with
starts-zero [] = refl
starts-zero (b ∷ bs) =
    by-test (nat_eq b 48)
    (λ t. rw (eqb-true b 48 t))
    (λ f. rw (f, ne_eqb 48 b (λ e. eqb-false b 48 f (sym e))))

-- what the rest of a line comes to, so does the whole line, with the words that stand
pub record LineGoesOn (atoms : ℕ) (text : List ℕ) (used : ℕ) (before : List ℕ) (left : ℕ) (rest : List ℕ) (at : ℕ) (words : List ℕ) : Type 0 where
  pub none : clause_line_at atoms left rest ≡ no 22 → clause_line_at atoms 8 text ≡ no 22
  pub held : (end : ℕ) (behind after : List ℕ) → LineHeld (clause_line_at atoms left rest) at words end behind after
      → LineHeld (clause_line_at atoms 8 text) used before end behind after

module _ {atoms used left at : ℕ} {text before rest words : List ℕ} (on : LineGoesOn atoms text used before left rest at words) where
  -- where no literal may follow, or a 0 does
  module _ (closes : clause_line_at atoms left rest ≡ close_at rest) where
    pub line-close : (behind : List ℕ) → expects 22 (48 ∷ 10 ∷ []) rest ≡ yes behind → LineHeld (clause_line_at atoms 8 text) used before at behind words
    unfolding close_at ◌>>=◌
    line-close behind e =
        let none : at ≡ at + 0 = omega arith in
        on.held at behind words (record { numbers = []; reads = closes ∙ rw e; place = none; stored = refl })

    pub line-unclosed : expects 22 (48 ∷ 10 ∷ []) rest ≡ no 22 → clause_line_at atoms 8 text ≡ no 22
    unfolding close_at ◌>>=◌
    line-unclosed e = on.none (closes ∙ rw e)

  module _ (place : ℕ) (more : left ≡ suc place) (s : starts_with 48 rest ≡ false) where
    on-literal : clause_line_at atoms left rest
        ≡ (literal_at atoms rest >>= λ n. clause_line_at atoms place n.behind >>= λ ns. yes (front (n.found ∷ ns.found) ns.behind))
    unfolding clause_line_at
    on-literal = rw more (cc)

    pub line-none : literal_at atoms rest ≡ no 22 → clause_line_at atoms 8 text ≡ no 22
    unfolding ◌>>=◌
    line-none e = on.none (on-literal ∙ rw e)

    pub line-turn : (word : ℕ) (behind : List ℕ) → LiteralRead (literal_at atoms rest) word behind
        → LineGoesOn atoms text used before place behind (at + 1) (set words at word)
    unfolding ◌>>=◌
    line-turn word behind r =
        record {
          none = λ h. on.none (on-literal ∙ rw (r.reads, h));
          held = λ end after after' h.
              let next : at + 1 ≡ suc at = omega arith in
              on.held end after after' (record {
                numbers = r.number ∷ h.numbers;
                reads = on-literal ∙ rw (r.reads, h.reads);
                place = omega (arith, h.place);
                stored = rw (next, r.is) at h.stored;
              });
        }

pub full : (atoms left : ℕ) (bs : List ℕ) → left ≡ 0 → clause_line_at atoms left bs ≡ close_at bs
unfolding clause_line_at
full atoms left bs e = rw e

pub zero-next : (atoms left : ℕ) (bs : List ℕ) → starts_with 48 bs ≡ true → clause_line_at atoms left bs ≡ close_at bs
unfolding clause_line_at
zero-next atoms zero bs s = refl
zero-next atoms (suc k) bs s = rw (s, clause_line_at)
