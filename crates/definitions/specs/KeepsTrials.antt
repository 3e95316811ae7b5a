-- Document 01, "Words": five sheets that don't keep another one's clauses, rules, two-way rules, symbols or constants, and one that keeps
-- them all, by computing the lines of each kind. Assumes nothing.
use Rattle.std.specs.Prelude.{ℕ, ◌≤◌, ◌≡◌, refl, List, [], ◌∷◌, ◌++◌, get_or}
use Rattle.std.proofs.Common.{ap, inl, inr, arith}
use mathlib.Core.List.Memᴰ
use Rattle.definitions.specs.Lists.{lists_all}
use Rattle.definitions.specs.Sheet.{plus, sheet_all}
use Rattle.definitions.specs.Questions.{questions_all}
use Rattle.definitions.specs.Sheets.{Row, Keeps, sheets_all}
use Rattle.definitions.specs.Text.{text, text_all}

-- q(X) gives p, twice, and between them q(X) <=> p; p; not q(1). Symbol 3 stands in no rule and no clause
unfoldable pub first : List ℕ
first =
    text ("   1   2" ∷ "   2   0" ∷ "   2   1" ∷ "   2   0" ∷ [])
    ++ text ("   3   1   1   2   1   1" ∷ "   8   0   1   1   2   1   1" ∷ "   3   1   1   2   1   1" ∷ [])
    ++ text ("   4   1   1" ∷ "   4   1  -2   1" ∷ [])

-- the size of a line's number, columns counted from 0; lines that differ there are different
size_at : ℕ → Row → ℕ
size_at n r = (get_or r n (plus 0)).size

-- the clause not q(1) has become not q(2)
unfoldable pub lacking : List ℕ
lacking =
    text ("   1   2" ∷ "   2   0" ∷ "   2   1" ∷ "   2   0" ∷ [])
    ++ text ("   3   1   1   2   1   1" ∷ "   8   0   1   1   2   1   1" ∷ "   3   1   1   2   1   1" ∷ [])
    ++ text ("   4   1   1" ∷ "   4   1  -2   2" ∷ [])

pub forgotten : Keeps first lacking → ⊥
unfolding first lacking size_at text_all lists_all sheet_all questions_all sheets_all
forgotten k =
    elim (Memᴰ.cases_cons (k.clauses _ (Memᴰ.tail (Memᴰ.head refl)))) [
      | inl e ↦ let z : ◌≡◌ {A = ℕ} 2 1 = ap (size_at 2) e in omega arith
      | inr m ↦ elim (Memᴰ.cases_cons m) [
        | inl e ↦ let z : ◌≡◌ {A = ℕ} 1 2 = ap (size_at 3) e in omega arith
        | inr n ↦ Memᴰ.not-nil n
      ]
    ]

-- the rule has another variable
unfoldable pub other_rule : List ℕ
other_rule =
    text ("   1   2" ∷ "   2   0" ∷ "   2   1" ∷ "   2   0" ∷ [])
    ++ text ("   3   1   1   2   2   1" ∷ "   8   0   1   1   2   1   1" ∷ [])
    ++ text ("   4   1   1" ∷ "   4   1  -2   1" ∷ [])

pub forgotten-rule : Keeps first other_rule → ⊥
unfolding first other_rule size_at text_all lists_all sheet_all questions_all sheets_all
forgotten-rule k =
    elim (Memᴰ.cases_cons (k.rules _ (Memᴰ.head refl))) [
      | inl e ↦ let z : ◌≡◌ {A = ℕ} 1 2 = ap (size_at 4) e in omega arith
      | inr m ↦ Memᴰ.not-nil m
    ]

-- q(X) <=> p has become a rule forwards alone, which the first sheet has too
unfoldable pub forward_alone : List ℕ
forward_alone =
    text ("   1   2" ∷ "   2   0" ∷ "   2   1" ∷ "   2   0" ∷ [])
    ++ text ("   3   1   1   2   1   1" ∷ "   3   1   1   2   1   1" ∷ [])
    ++ text ("   4   1   1" ∷ "   4   1  -2   1" ∷ [])

pub forgotten-two-way : Keeps first forward_alone → ⊥
unfolding first forward_alone text_all lists_all sheet_all questions_all sheets_all
forgotten-two-way k = Memᴰ.not-nil (k.two_ways _ (Memᴰ.head refl))

-- symbol 3 has an argument
unfoldable pub other_arity : List ℕ
other_arity =
    text ("   1   2" ∷ "   2   0" ∷ "   2   1" ∷ "   2   1" ∷ [])
    ++ text ("   3   1   1   2   1   1" ∷ "   8   0   1   1   2   1   1" ∷ "   3   1   1   2   1   1" ∷ [])
    ++ text ("   4   1   1" ∷ "   4   1  -2   1" ∷ [])

pub forgotten-arity : Keeps first other_arity → ⊥
unfolding first other_arity size_at text_all lists_all sheet_all questions_all sheets_all
forgotten-arity k = let z : ◌≡◌ {A = ℕ} 1 0 = ap (λ (l : List Row). size_at 1 (get_or l 2 [])) k.symbols.1 in omega arith

-- one constant less
unfoldable pub fewer_constants : List ℕ
fewer_constants =
    text ("   1   1" ∷ "   2   0" ∷ "   2   1" ∷ "   2   0" ∷ [])
    ++ text ("   3   1   1   2   1   1" ∷ "   8   0   1   1   2   1   1" ∷ "   3   1   1   2   1   1" ∷ [])
    ++ text ("   4   1   1" ∷ "   4   1  -2   1" ∷ [])

pub forgotten-constant : Keeps first fewer_constants → ⊥
unfolding first fewer_constants text_all lists_all sheet_all questions_all sheets_all
forgotten-constant k = let z : 2 ≤ 1 = k.constants in omega arith

-- one constant and one symbol more; the rule once, behind another; the two-way rule behind another; the clauses in another order, with a
-- third between them; and blank columns on lines that are kept
unfoldable pub second : List ℕ
second =
    text ("   1       3" ∷ "   2   0" ∷ "   2   1    " ∷ "       2   0" ∷ "   2   2" ∷ [])
    ++ text ("   3   1   0   4   1   1" ∷ "   3   1   1       2   1   1" ∷ "   8   0   1   0   1" ∷ "   8       0   1   1   2   1   1" ∷ [])
    ++ text ("   4   1      -2   1" ∷ "   4   1  -2   2" ∷ "       4   1   1    " ∷ [])

pub kept : Keeps first second
unfolding first second text_all lists_all sheet_all questions_all sheets_all
kept =
    record {
      constants = omega arith;
      symbols = (_, refl);
      rules = λ r m. elim (Memᴰ.cases_cons m) [
        | inl e ↦ Memᴰ.tail (Memᴰ.head e)
        | inr n ↦ elim (Memᴰ.cases_cons n) [ inl e ↦ Memᴰ.tail (Memᴰ.head e) | inr o ↦ absurd (Memᴰ.not-nil o) ]
      ];
      two_ways = λ r m. elim (Memᴰ.cases_cons m) [ inl e ↦ Memᴰ.tail (Memᴰ.head e) | inr o ↦ absurd (Memᴰ.not-nil o) ];
      clauses = λ r m. elim (Memᴰ.cases_cons m) [
        | inl e ↦ Memᴰ.tail (Memᴰ.tail (Memᴰ.head e))
        | inr n ↦ elim (Memᴰ.cases_cons n) [ inl e ↦ Memᴰ.head e | inr o ↦ absurd (Memᴰ.not-nil o) ]
      ];
    }
