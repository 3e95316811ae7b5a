-- A decimal between limits with the byte that ends it, and the header that has two of them. Assumes nothing.
use Rattle.std.proofs.Common.{◌≡◌, ◌∙◌, ℕ, ◌≤◌, ◌<◌, ◌⊎◌, inl, inr, Bool, true, false, ◌&&◌, leb, List, [], ◌∷◌, le-leb, arith}
use Rattle.std.proofs.lemmas.Bool.{lt-leb}
use Rattle.definitions.specs.Bounds.{most_atoms, most_exported}
use Rattle.definitions.specs.Text.{bytes}
use Rattle.definitions.specs.Questions.{Asked, no, yes, ◌>>=◌, ◌>>◌, ask}
use Rattle.definitions.specs.Dimacs.{Front, front, expect, expects, decimal_at, Header, header_at}
use Rattle.theory.specs.Tests.{and_intro}
use Rattle.theory.specs.AskedLaws.{by-asked}
use Rattle.cnf_reader.specs.Parts.{number_at}

-- one byte, and bytes that are one
one-byte : (q b : ℕ) (bs : List ℕ) → expects q (b ∷ []) bs ≡ expect q b bs
unfolding expects ◌>>=◌
one-byte q b bs = by-asked (expect q b bs) (λ p e. rw e) (λ rest e. rw e)

module _ (q least most end : ℕ) (bs : List ℕ) where
  pub number-none : decimal_at q bs ≡ no q → number_at q least most end bs ≡ no q
  unfolding number_at ◌>>=◌
  number-none e = rw e

  module _ (size : ℕ) (rest : List ℕ) (read : decimal_at q bs ≡ yes (front size rest)) where
    asked : (t : Bool) → (leb least size && leb size most) ≡ t
        → number_at q least most end bs ≡ (ask q t >> (expect q end rest >>= λ behind. yes (front size behind)))
    unfolding number_at ◌>>=◌
    asked t e = rw (read, e)

    pub number-out : (size < least) ⊎ ((least ≤ size) × (most < size)) → number_at q least most end bs ≡ no q
    unfolding ask ◌>>◌
    number-out (inl h) = asked false (rw (lt-leb least size h))
    number-out (inr h) = asked false (rw (le-leb least size h.0, lt-leb size most h.1))

    module _ (low : least ≤ size) (high : size ≤ most) where
      between : (leb least size && leb size most) ≡ true
      between = and_intro (leb least size) (leb size most) (le-leb least size low) (le-leb size most high)

      pub number-ended : (behind : List ℕ) → expects q (end ∷ []) rest ≡ yes behind → number_at q least most end bs ≡ yes (front size behind)
      unfolding ask ◌>>◌ ◌>>=◌
      number-ended behind e = asked true between ∙ rw (← one-byte q end rest, e)

      pub number-unended : expects q (end ∷ []) rest ≡ no q → number_at q least most end bs ≡ no q
      unfolding ask ◌>>◌ ◌>>=◌
      number-unended e = asked true between ∙ rw (← one-byte q end rest, e)

-- ── the header ──

-- with no limit below, and whatever is asked behind it
number-then : {B : Type 0} (q most end : ℕ) (bs : List ℕ) (then : ℕ → List ℕ → Asked B)
    → (decimal_at q bs >>= λ n. ask q (leb n.found most) >> (expect q end n.behind >>= λ behind. then n.found behind))
    ≡ (number_at q 0 most end bs >>= λ n. then n.found n.behind)
unfolding number_at ◌>>=◌ ◌>>◌
number-then q most end bs then =
    by-asked (decimal_at q bs)
    (λ p e. rw e)
    (λ n e. rw (e, le-leb 0 n.found (omega arith))
    (by-asked (ask q (leb n.found most))
    (λ p f. rw f)
    (λ u f. rw f
    (by-asked (expect q end n.behind)
    (λ p g. rw g)
    (λ behind g. rw g)))))

-- the clauses and the end of the line, where so many atoms are named
abbrev clauses_part : ℕ → List ℕ → Asked (Front Header)
clauses_part atoms bs = do
  clauses ← decimal_at 21 bs
  ask 21 (leb clauses.found most_exported)
  behind_line ← expect 21 10 clauses.behind
  yes (front (record { atoms = atoms; clauses = clauses.found }) behind_line)

-- the header is `p cnf `, and two numbers
pub header-parts : (text : List ℕ) → header_at text ≡ (expects 21 (112 ∷ 32 ∷ 99 ∷ 110 ∷ 102 ∷ 32 ∷ []) text
    >>= λ first. number_at 21 0 256 32 first
    >>= λ atoms. number_at 21 0 576 10 atoms.behind
    >>= λ clauses. yes (front (record { atoms = atoms.found; clauses = clauses.found }) clauses.behind))
unfolding header_at ◌>>=◌ bytes
header-parts text =
    by-asked (expects 21 (112 ∷ 32 ∷ 99 ∷ 110 ∷ 102 ∷ 32 ∷ []) text)
    (λ q e. rw e)
    (λ first e. rw e (number-then 21 most_atoms 32 first clauses_part
    ∙ by-asked (number_at 21 0 most_atoms 32 first)
    (λ q f. rw f)
    (λ atoms f. rw f (number-then 21 most_exported 10 atoms.behind (λ clauses behind. yes (front (record { atoms = atoms.found; clauses = clauses }) behind))))))
