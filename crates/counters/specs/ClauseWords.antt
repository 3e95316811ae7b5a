-- The words of a clause, as the slice of them that the code takes. Assumes nothing.
use Rattle.std.specs.Prelude.{ℕ, ◌+◌, ◌-◌, ◌≤◌, ◌<◌, ◌≡◌, List, length, get_or, drop, slice_range}
use Rattle.std.proofs.Common.{◌∙◌, arith, length-take, get_or-take, get_or-drop}
use Rattle.encoding.specs.ArrayLaws.{get_d-rising}
use Rattle.encoding.specs.Lengths.{literal_array}
use Rattle.units.specs.Units.{clause_at, ClausesFit}

-- where it stands, and that its words are those between
pub record ClauseWords (starts literals : List ℕ) (c : ℕ) (words : List ℕ) : Type 0 where
  pub is : words ≡ clause_at starts literals c
  pub few : length words ≤ literal_array
  pub small : (i : ℕ) → i < length words → get_or words i 0 < 512

module _ {starts literals heads : List ℕ} {given clauses : ℕ} (fit : ClausesFit starts literals heads given clauses) (c : ℕ) (l : c < clauses) where
  pub clause-stands : (c + 1 < 578) × (get_or starts c 0 ≤ get_or starts (c + 1) 0) × (get_or starts (c + 1) 0 ≤ literal_array)
  clause-stands = (omega (arith, fit.limit), fit.rising c l, fit.inside (c + 1) (omega arith))

  pub clause-words : {words : List ℕ} → words ≡ slice_range literals (get_or starts c 0) (get_or starts (c + 1) 0) → ClauseWords starts literals c words
  unfolding clause_at
  clause-words {words} is =
      let from = get_or starts c 0 in
      let end = get_or starts (c + 1) 0 in
      let long : length words ≤ end - from = rw is (omega (arith, length-take (end - from) (drop from literals))) in
      let within = get_d-rising starts clauses fit.rising (c + 1) (omega arith) in
      record {
        is = is;
        few = omega (arith, long, fit.inside (c + 1) (omega arith));
        small = λ i b.
            let inside : i < end - from = omega arith in
            let word = get_or-take (end - from) (drop from literals) i 0 inside ∙ get_or-drop from literals i 0 in
            rw (is, word) (fit.words (from + i) (omega arith));
      }
