-- What the number of a word says of the kind of its line, and a word of a count. Assumes nothing.
use Rattle.std.specs.Prelude.{ℕ, zero, suc, ◌+◌, ◌/◌, ◌%◌, ◌<◌, ◌≤◌, ◌≡◌, refl, true, false, List, [], ◌∷◌, Some, None, map, eqb, length, get_or, drop}
use Rattle.std.proofs.Common.{arith, ◌∙◌, eq-eqb, ne_eqb, eqb-true, add-one}
use Rattle.std.proofs.lemmas.Bool.{eqb-false, lt-leb}
use Rattle.std.proofs.Math.ListN.{drop_of_length-le, length-map, get_or-map}
use Rattle.std.proofs.Math.Seq.{drop-cons}
use Rattle.definitions.specs.Sheet.{plus}
use Rattle.definitions.specs.Questions.{no, yes, ◌>>◌, ask, within, count, rank}
use Rattle.theory.specs.Tests.{by-test}
use Rattle.theory.specs.Limits.{within-between}
use Rattle.encoding.specs.Signs.{number_of}
use Rattle.rows.specs.declared.Kind.{Kind}
use Rattle.rows.specs.declared.Kind.TheVariants.{Constants, Symbol, Rule, Clause, TwoWay}
use Rattle.rows.specs.Kinds.{number_of_kind, kind_numbered}
use Rattle.rows.specs.Rows.{kind_here, row_kind}

pub positive-number : (w : ℕ) → (w % 2 ≡ 1 → ⊥) → number_of w ≡ plus (w / 2)
unfolding number_of plus
positive-number w h = cc (ne_eqb (w % 2) 1 h)

pub negative-kind : (before w : ℕ) → w % 2 ≡ 1 → 0 ≡ kind_here before (number_of w)
unfolding kind_here within number_of
negative-kind zero w h = cc (eq-eqb (w % 2) 1 h)
negative-kind (suc before) w h = cc (eq-eqb (w % 2) 1 h)

module _ (n : ℕ) (k : Kind) where
  hit : (j : Kind) → n ≡ number_of_kind j → Some j ≡ Some k → n ≡ number_of_kind k
  hit j e f = let g : j ≡ k = cc in rw (← g) e

  pub known-kind : kind_numbered n ≡ Some k → n ≡ number_of_kind k
  unfolding kind_numbered
  known-kind e =
      by-test (eqb n 1) (λ t. hit Constants (eqb-true n 1 t) cc) λ one.
      by-test (eqb n 2) (λ t. hit Symbol (eqb-true n 2 t) cc) λ two.
      by-test (eqb n 3) (λ t. hit Rule (eqb-true n 3 t) cc) λ three.
      by-test (eqb n 4) (λ t. hit Clause (eqb-true n 4 t) cc) λ four.
      by-test (eqb n 8) (λ t. hit TwoWay (eqb-true n 8 t) cc) (λ eight. cc)

not_here : (before n : ℕ) → (n ≡ 1 → ⊥) → (n ≡ 2 → ⊥) → (n ≡ 3 → ⊥) → (n ≡ 4 → ⊥) → (n ≡ 8 → ⊥) → 0 ≡ kind_here before (plus n)
unfolding kind_here plus rank
not_here zero n one two three four eight =
    by-test (within 1 1 (plus n)) (λ t. absurd (let b = within-between 1 1 (plus n) t in omega arith)) (λ t. cc)
not_here (suc before) n one two three four eight =
    by-test (within 2 8 (plus n))
    (λ t. let b = within-between 2 8 (plus n) t in let five : 4 < n = omega arith in cc (ne_eqb n 8 eight, lt-leb n 4 five))
    (λ t. cc)

pub unknown-kind : (before n : ℕ) → kind_numbered n ≡ None → 0 ≡ kind_here before (plus n)
unfolding kind_numbered
unknown-kind before n e =
    by-test (eqb n 1) (λ t. cc) λ one.
    by-test (eqb n 2) (λ t. cc) λ two.
    by-test (eqb n 3) (λ t. cc) λ three.
    by-test (eqb n 4) (λ t. cc) λ four.
    by-test (eqb n 8) (λ t. cc) λ eight.
    not_here before n (eqb-false n 1 one) (eqb-false n 2 two) (eqb-false n 3 three) (eqb-false n 4 four) (eqb-false n 8 eight)

-- ── by all the numbers of a row ──

pub no_kind : (before : ℕ) (line : List ℕ) → length line < 1 → 0 ≡ row_kind before (map number_of line)
unfolding row_kind
no_kind before [] h = refl
no_kind before (w ∷ line) h = absurd (omega arith)

pub first-kind : (before : ℕ) (line : List ℕ) → 1 ≤ length line → kind_here before (number_of (get_or line 0 0)) ≡ row_kind before (map number_of line)
unfolding row_kind
first-kind before [] h = absurd (omega arith)
first-kind before (w ∷ line) h = refl

-- ── a count ──

module _ (line : List ℕ) (at : ℕ) (q low high : ℕ) where
  pub count-none : length line ≤ at → count q low high (drop at (map number_of line)) ≡ no q
  unfolding count
  count-none h = let e : drop at (map number_of line) ≡ [] = drop_of_length-le (map number_of line) (omega (arith, length-map line number_of)) in rw e

  module _ (h : at < length line) where
    here : drop at (map number_of line) ≡ number_of (get_or line at 0) ∷ drop (at + 1) (map number_of line)
    here = rw add-one (drop-cons (map number_of line) at (number_of 0) (omega (arith, length-map line number_of)) ∙ cc (get_or-map number_of line at 0))

    pub count-out : within low high (number_of (get_or line at 0)) ≡ false → count q low high (drop at (map number_of line)) ≡ no q
    unfolding count ask ◌>>◌
    count-out t = rw (here, t)

    pub count-in : within low high (number_of (get_or line at 0)) ≡ true
        → count q low high (drop at (map number_of line)) ≡ yes (record { found = get_or line at 0 / 2; left = drop (at + 1) (map number_of line) })
    unfolding count ask ◌>>◌ number_of
    count-in t = rw (here, t)
