-- The arrays of `read_cnf` give the clauses back. Assumes nothing.
use Prim.Native.Nat.{ℕ, suc, ◌+◌, ◌*◌, ◌≤◌}
use Rattle.std.specs.Prelude.{◌≡◌, get_or, drop, replicate, IfOk}
use Rattle.std.proofs.Math.Path.{refl}
use Rattle.std.proofs.Common.{ap, ◌∙◌, arith, inl, inr}
use mathlib.Core.List.Memᴰ
use mathlib.Core.List.{List, [], ◌∷◌, ◌++◌, map, append_assoc}
use Rattle.std.proofs.Math.ListN.{length, length-append, length-map}
use Rattle.std.proofs.lemmas.List.{length-replicate}
use Rattle.std.proofs.Math.Seq.{length-sets, get_or-append_seam, get_or-append-add, drop-append_seam, take-append_seam, take-append-add}
use Rattle.definitions.specs.Lists.{◌∈◌, joined, up_from}
use Rattle.definitions.specs.Sheet.{Number}
use Rattle.definitions.specs.Questions.{Asked, no, yes}
use Rattle.definitions.specs.Dimacs as dimacs
use Rattle.definitions.specs.Dimacs.{read_cnf, CnfLimits}
use Rattle.definitions.specs.Numbered.{question_number}
use Rattle.theory.specs.CnfRefusals.{cnf-refusals}
use Rattle.column.specs.Sets.{sets-front}
use Rattle.encoding.specs.Signs.{number_of, number_word_lem}
use Rattle.encoding.specs.Encoding.{starts_from}
use Rattle.encoding.specs.HoldLaws.{starts-length}
use Rattle.cnf_reader.specs.CnfArrays.{number_word, text_question, cnf_read, held_clause, held_clauses}

-- the words of numbers are read as the numbers
words-read : (ns : List Number) → map number_of (map number_word ns) ≡ ns
unfolding number_word
words-read [] = refl
words-read (n ∷ ns) = rw (number_word_lem n.negative n.size, words-read ns)

-- the first clause starts where the words of those before it end
first-start : (at : ℕ) (cs : List (List Number)) (rest : List ℕ) → get_or (starts_from at cs ++ rest) 0 0 ≡ at
unfolding starts_from
first-start at [] rest = refl
first-start at (c ∷ cs) rest = refl

-- at most 8 words a clause
few_words : (cs : List (List Number)) → ((ns : List Number) → ns ∈ cs → length ns ≤ 8) → length (joined (map number_word) cs) ≤ 8 * length cs
unfolding joined
few_words [] h = omega arith
few_words (c ∷ cs) h =
    omega (arith, h c (Memᴰ.head refl), few_words cs (λ ns m. h ns (Memᴰ.tail m)), length-map c number_word, length-append (map number_word c) (joined (map number_word) cs))

-- the arrays from a place on, with whatever stands before it and behind all clauses
module _ (starts literals : List ℕ) where
  abbrev starts_on : List ℕ → List ℕ → List (List Number) → List ℕ
  starts_on places words cs = places ++ (starts_from (length words) cs ++ starts)

  abbrev words_on : List ℕ → List (List Number) → List ℕ
  words_on words cs = words ++ (joined (map number_word) cs ++ literals)

  module _ (places words : List ℕ) (c : List Number) (cs : List (List Number)) where
    -- with the first clause among what stands before
    starts-on : starts_on (places ++ (length words ∷ [])) (words ++ map number_word c) cs ≡ starts_on places words (c ∷ cs)
    unfolding starts_from
    starts-on =
        let size : length (words ++ map number_word c) ≡ length words + length c = omega (arith, length-append words (map number_word c), length-map c number_word) in
        rw (size, append_assoc)

    words-on : words_on (words ++ map number_word c) cs ≡ words_on words (c ∷ cs)
    unfolding joined
    words-on = simp append_assoc

    first-held : held_clause (starts_on places words (c ∷ cs)) (words_on words (c ∷ cs)) (length places) ≡ c
    unfolding held_clause starts_from joined
    first-held =
        let behind = starts_from (length words + length c) cs ++ starts in
        let rest = joined (map number_word) cs ++ literals in
        let size : length words + length c ≡ length words + length (map number_word c) = omega (arith, length-map c number_word) in
        rw (
          get_or-append_seam places (length words) behind 0,
          get_or-append-add places (length words ∷ behind) 1 0,
          first-start (length words + length c) cs starts,
          size,
          append_assoc (map number_word c) (joined (map number_word) cs) literals,
          take-append-add words (map number_word c ++ rest) (length (map number_word c)),
          take-append_seam (map number_word c) rest,
          drop-append_seam words (map number_word c),
        )
        (words-read c)

  held-from : (places words : List ℕ) (cs : List (List Number))
      → map (held_clause (starts_on places words cs) (words_on words cs)) (up_from (length places) (length cs)) ≡ cs
  unfolding up_from
  held-from places words [] = refl
  held-from places words (c ∷ cs) =
      let next : length (places ++ (length words ∷ [])) ≡ suc (length places) = omega (arith, length-append places (length words ∷ [])) in
      rw (first-held places words c cs)
      (ap (λ (held : List (List Number)). c ∷ held)
      (rw (next, starts-on places words c cs, words-on places words c cs) at (held-from (places ++ (length words ∷ [])) (words ++ map number_word c) cs)))

-- the arrays have their lengths, whatever was read
pub array-lengths : (a : Asked dimacs.Cnf) → IfOk (cnf_read a) (λ c. (length c.starts ≡ 577) × (length c.literals ≡ 4608))
unfolding cnf_read
array-lengths (no q) = tt
array-lengths (yes c) = (
  length-sets (replicate 577 0) 0 (starts_from 0 c.clauses) ∙ length-replicate {A = ℕ} 577 0,
  length-sets (replicate 4608 0) 0 (joined (map number_word) c.clauses) ∙ length-replicate {A = ℕ} 4608 0,
)

-- a refusal has the number that the definition gives
pub refusal-number : (text : List ℕ) (q : ℕ) → read_cnf text ≡ no q → question_number (text_question q) ≡ q
refusal-number text q e = elim (cnf-refusals text q e) [ inl a ↦ rw a | inr b ↦ rw b ]

-- the arrays give the clauses back
pub cnf-held : (c : dimacs.Cnf) → CnfLimits c → held_clauses (cnf_read (yes c)) ≡ c.clauses
unfolding held_clauses cnf_read
cnf-held c limits =
    let few = few_words c.clauses limits.literals in
    let room : length (starts_from 0 c.clauses) ≤ 577 = omega (arith, limits.clauses, starts-length 0 c.clauses) in
    let enough : length (joined (map number_word) c.clauses) ≤ 4608 = omega (arith, limits.clauses) in
    rw (sets-front (replicate 577 0) (starts_from 0 c.clauses) room, sets-front (replicate 4608 0) (joined (map number_word) c.clauses) enough)
    (held-from (drop (length (starts_from 0 c.clauses)) (replicate 577 0)) (drop (length (joined (map number_word) c.clauses)) (replicate 4608 0)) [] [] c.clauses)
