-- What a refusal of DIMACS CNF text means: with 21 it begins with no header within the limits, with 22 it begins with one.
-- Assumes nothing.
use Rattle.std.specs.Prelude.{ℕ, zero, suc, ◌≤◌, ◌≡◌, refl, ◌⊎◌, Bool, ◌&&◌, List, [], ◌∷◌, ◌++◌, eqb, leb}
use Rattle.std.proofs.Common.{sym, ap, ◌∙◌, inl, inr, arith}
use Rattle.definitions.specs.Lists.{is_empty}
use Rattle.definitions.specs.Bounds.{most_atoms, most_exported, most_literals}
use Rattle.definitions.specs.Sheet.{is_digit}
use Rattle.definitions.specs.Questions.{Asked, no, yes, ◌>>=◌, ◌>>◌, ask}
use Rattle.definitions.specs.Text.{bytes}
use Rattle.definitions.specs.Dimacs.{header_line, Front, expect, expects, decimal_at, Header, header_at, minus_at, literal_at, close_at, starts_with, clause_line_at, clauses_at, read_cnf}
use Rattle.theory.specs.Tests.{by-test}
use Rattle.theory.specs.AskedLaws.{by-asked, Refuses, refuses-no, refuses-yes, refuses-ask, refuses-bind}
use Rattle.theory.specs.CnfReads.{header_read, header-exact}

-- ── a chain of questions with one number ──

abbrev Only : {A : Type 0} → ℕ → Asked A → Type 0
Only q m = Refuses (λ r. r ≡ q) m

module _ {A : Type 0} (q : ℕ) where
  only_no : Only {A = A} q (no q)
  only_no = refuses-no (λ r. r ≡ q) q refl

  only_yes : (a : A) → Only q (yes a)
  only_yes = refuses-yes (λ r. r ≡ q)

  only-ask : (t : Bool) (m : Asked A) → Only q m → Only q (ask q t >> m)
  only-ask t m = refuses-ask (λ r. r ≡ q) q t m refl

  only-bind : {B : Type 0} (m : Asked B) (f : B → Asked A) → Only q m → ((b : B) → Only q (f b)) → Only q (m >>= f)
  only-bind = refuses-bind (λ r. r ≡ q)

-- ── the parts of a text ──

expect-only : (q b : ℕ) (bs : List ℕ) → Only q (expect q b bs)
unfolding expect
expect-only q b [] = only_no q
expect-only q b (x ∷ xs) = only-ask q (eqb x b) (yes xs) (only_yes q xs)

expects-only : (q : ℕ) (these bs : List ℕ) → Only q (expects q these bs)
unfolding expects
expects-only q [] bs = only_yes q bs
expects-only q (b ∷ more) bs = only-bind q (expect q b bs) (expects q more) (expect-only q b bs) (expects-only q more)

decimal-only : (q : ℕ) (bs : List ℕ) → Only q (decimal_at q bs)
unfolding decimal_at
decimal-only q [] = only_no q
decimal-only q (b ∷ bs) = only-ask q (is_digit b) _ (only_yes q _)

header-only : (text : List ℕ) → Only 21 (header_at text)
unfolding header_at
header-only text =
    only-bind 21 (expects 21 (bytes "p cnf ") text) _ (expects-only 21 (bytes "p cnf ") text) (λ first.
    only-bind 21 (decimal_at 21 first) _ (decimal-only 21 first) (λ atoms.
    only-ask 21 (leb atoms.found most_atoms) _ (
    only-bind 21 (expect 21 32 atoms.behind) _ (expect-only 21 32 atoms.behind) (λ second.
    only-bind 21 (decimal_at 21 second) _ (decimal-only 21 second) (λ clauses.
    only-ask 21 (leb clauses.found most_exported) _ (
    only-bind 21 (expect 21 10 clauses.behind) _ (expect-only 21 10 clauses.behind) (λ rest.
    only_yes 21 _)))))))

literal-only : (atoms : ℕ) (bs : List ℕ) → Only 22 (literal_at atoms bs)
unfolding literal_at
literal-only atoms bs =
    only-bind 22 (decimal_at 22 (minus_at bs).behind) _ (decimal-only 22 (minus_at bs).behind) (λ n.
    only-ask 22 (leb 1 n.found && leb n.found atoms) _ (
    only-bind 22 (expect 22 32 n.behind) _ (expect-only 22 32 n.behind) (λ rest.
    only_yes 22 _)))

close-only : (bs : List ℕ) → Only 22 (close_at bs)
unfolding close_at
close-only bs = only-bind 22 (expects 22 (48 ∷ 10 ∷ []) bs) _ (expects-only 22 (48 ∷ 10 ∷ []) bs) (λ rest. only_yes 22 _)

clause-only : (atoms k : ℕ) (bs : List ℕ) → Only 22 (clause_line_at atoms k bs)
unfolding clause_line_at
clause-only atoms zero bs = close-only bs
clause-only atoms (suc k) bs =
    by-test (starts_with 48 bs)
    (λ e. rw (e, clause_line_at) (close-only bs))
    (λ e. rw (e, clause_line_at) (
    only-bind 22 (literal_at atoms bs) _ (literal-only atoms bs) (λ n.
    only-bind 22 (clause_line_at atoms k n.behind) _ (clause-only atoms k n.behind) (λ ns.
    only_yes 22 _))))

clauses-only : (atoms k : ℕ) (bs : List ℕ) → Only 22 (clauses_at atoms k bs)
unfolding clauses_at
clauses-only atoms zero bs = only-ask 22 (is_empty bs) _ (only_yes 22 [])
clauses-only atoms (suc k) bs =
    only-bind 22 (clause_line_at atoms most_literals bs) _ (clause-only atoms most_literals bs) (λ c.
    only-bind 22 (clauses_at atoms k c.behind) _ (clauses-only atoms k c.behind) (λ cs.
    only_yes 22 _))

-- ── the text ──

-- behind a header only 22 is asked
behind-header : (text : List ℕ) (h : Front Header) → header_at text ≡ yes h → Only 22 (read_cnf text)
unfolding read_cnf ◌>>=◌
behind-header text h e =
    let atoms = h.found.atoms in
    let clauses = h.found.clauses in
    rw (e, read_cnf) (only-bind 22 (clauses_at atoms clauses h.behind) _ (clauses-only atoms clauses h.behind) (λ cs. only_yes 22 _))

pub cnf-refusals : (text : List ℕ) (q : ℕ) → read_cnf text ≡ no q → (q ≡ 21) ⊎ (q ≡ 22)
unfolding read_cnf ◌>>=◌
cnf-refusals text q e =
    by-asked (header_at text)
    (λ r d. let same : r ≡ q = cc in inl (sym same ∙ header-only text r d))
    (λ h d. inr (behind-header text h d q e))

-- 21: no header within the limits stands at the front
pub bad-header : (text : List ℕ) → read_cnf text ≡ no 21 → (atoms clauses : ℕ) → atoms ≤ most_atoms → clauses ≤ most_exported
    → (rest : List ℕ) → text ≡ header_line atoms clauses ++ rest → ⊥
bad-header text e atoms clauses few some rest is =
    let wrong : ◌≡◌ {A = ℕ} 21 22 = behind-header text _ (ap header_at is ∙ header_read atoms clauses rest few some) 21 e in
    omega arith

-- 22: one does, so what follows it isn't as it says
pub good-header : (text : List ℕ) → read_cnf text ≡ no 22
    → (atoms : ℕ) × (clauses : ℕ) × (rest : List ℕ) × (atoms ≤ most_atoms) × (clauses ≤ most_exported)
    × (text ≡ header_line atoms clauses ++ rest)
unfolding read_cnf ◌>>=◌
good-header text e =
    by-asked (header_at text)
    (λ r d. let same : r ≡ 22 = cc in let wrong : ⊥ = omega (arith, header-only text r d) in absurd wrong)
    (λ h d. let (is, few, some) = header-exact text h d in (h.found.atoms, h.found.clauses, h.behind, few, some, is))
