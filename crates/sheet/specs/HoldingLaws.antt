-- The arrays hold a problem, and with one line more they hold the larger problem: a symbol, a line's rules, or a clause. Assumes nothing.
use Rattle.std.specs.Prelude.{ℕ, ◌+◌, ◌*◌, ◌≡◌, List, [], ◌∷◌, ◌++◌, set}
use Rattle.std.proofs.Math.Path.{refl}
use Rattle.std.proofs.Common.{sym, append-nil, arith, length-append}
use Rattle.std.proofs.Math.ListN.{length}
use Rattle.std.proofs.lemmas.List.Edits.{sets}
use Rattle.definitions.specs.Lists.{joined}
use Rattle.definitions.specs.Words.{Clause, RuleLine, Problem}
use Rattle.definitions.specs.Questions.{with_symbol, with_line, with_clause, rules_of}
use Rattle.theory.specs.ListLaws.{joined-append}
use Rattle.column.specs.Sets.{sets_more}
use Rattle.encoding.specs.Slots.{rule_words}
use Rattle.encoding.specs.Encoding.{starts_from, Arrays, arrays, hold}
use Rattle.encoding.specs.HoldLaws.{starts-length, rules-length}
use Rattle.literals.specs.Entering.{Entered}
use Rattle.literals.specs.HeldClauseLaws.{entered_of}

-- ── what each line stores ──

starts-behind :
    (at : ℕ) (cs : List Clause) (c : Clause)
    → starts_from at (cs ++ (c ∷ [])) ≡ starts_from at cs ++ ((at + length (joined (λ (x : Clause). x) (cs ++ (c ∷ [])))) ∷ [])
unfolding starts_from joined
starts-behind at [] c = rw (append-nil c)
starts-behind at (d ∷ cs) c =
    let all = joined (λ (x : Clause). x) (cs ++ (c ∷ [])) in
    let e : at + length d + length all ≡ at + length (d ++ all) = omega (arith, length-append d all) in
    rw (starts-behind (at + length d) cs c, e)

-- the last literal of all ends the new clause
pub starts_more :
    (cs : List Clause) (c : Clause)
    → starts_from 0 (cs ++ (c ∷ [])) ≡ starts_from 0 cs ++ (length (joined (λ (x : Clause). x) (cs ++ (c ∷ []))) ∷ [])
starts_more cs c =
    let all = length (joined (λ (x : Clause). x) (cs ++ (c ∷ []))) in
    let e : 0 + all ≡ all = omega arith in
    rw e at (starts-behind 0 cs c)

-- what the code stores for one line more, in the arrays that it changes
module _ (p : Problem) (before : Arrays) where
  pub symbol-held : (n : ℕ) → set (hold p before).arities (length p.arities) n ≡ (hold (with_symbol p n) before).arities
  unfolding hold with_symbol
  symbol-held n = sets_more before.arities p.arities (n ∷ []) (length p.arities) refl

  pub rules-held : (l : RuleLine) → sets (hold p before).rules (22 * length p.rules) (joined rule_words (rules_of l)) ≡ (hold (with_line p l) before).rules
  unfolding hold with_line
  rules-held l =
      rw (joined-append rule_words p.rules (rules_of l))
      (sets_more before.rules (joined rule_words p.rules) (joined rule_words (rules_of l)) (22 * length p.rules) (sym (rules-length p.rules)))

  pub starts-held :
      (c : Clause)
      → set (hold p before).starts (length p.clauses + 1) (length (joined (λ (x : Clause). x) (with_clause p c).clauses)) ≡ (hold (with_clause p c) before).starts
  unfolding hold with_clause
  starts-held c =
      rw (starts_more p.clauses c)
      (sets_more before.starts (starts_from 0 p.clauses) (_ ∷ []) (length p.clauses + 1) (sym (starts-length 0 p.clauses)))

-- ── the arrays as a whole ──

arrays-ext :
    {a a' r r' s s' l l' t t' i i' : List ℕ} → a ≡ a' → r ≡ r' → s ≡ s' → l ≡ l' → t ≡ t' → i ≡ i'
    → arrays a r s l t i ≡ arrays a' r' s' l' t' i'
arrays-ext e f g h j k = cc

module _ (p : Problem) (before : Arrays) where
  pub hold-symbol :
      (n : ℕ)
      → arrays (set (hold p before).arities (length p.arities) n) (hold p before).rules (hold p before).starts (hold p before).literals (hold p before).table (hold p before).index
      ≡ hold (with_symbol p n) before
  unfolding hold with_symbol
  hold-symbol n = arrays-ext (symbol-held p before n) refl refl refl refl refl

  pub hold-line :
      (l : RuleLine)
      → arrays (hold p before).arities (sets (hold p before).rules (22 * length p.rules) (joined rule_words (rules_of l))) (hold p before).starts (hold p before).literals (hold p before).table (hold p before).index
      ≡ hold (with_line p l) before
  unfolding hold with_line
  hold-line l = arrays-ext refl (rules-held p before l) refl refl refl refl

  -- with what the three arrays that a clause enters have come to
  pub hold-clause :
      (c : Clause) (e : Entered)
      → e ≡ entered_of (with_clause p c) before
      → arrays (hold p before).arities (hold p before).rules (set (hold p before).starts (length p.clauses + 1) e.count) e.literals e.table e.index
      ≡ hold (with_clause p c) before
  unfolding hold with_clause
  hold-clause c e q = rw q (arrays-ext refl refl (starts-held p before c) refl refl refl)
