-- Words of clauses by the positions of their atoms: codes stand at positions, and atoms that enter behind change no word. Assumes nothing.
use Rattle.std.specs.Prelude.{ℕ, ◌≡◌, refl, not, List, [], ◌∷◌, ◌++◌, map, length, get_or, take}
use Rattle.std.proofs.Common.{ap}
use mathlib.Core.List.Memᴰ
use Rattle.definitions.specs.Lists.{◌∈◌, joined}
use Rattle.definitions.specs.Words.{Atom, Literal, Clause, position}
use Rattle.theory.specs.TableLaws.{at_position, position-append}
use Rattle.encoding.specs.Signs.{word_of}
use Rattle.encoding.specs.ArrayLaws.{front_at}
use Rattle.encoding.specs.Encoding.{atom_code, literal_word, clause_words}

-- the codes of a table stand at the front of an array, each at its atom's position
pub code_at : (table : List Atom) (codes : List ℕ) → take (length table) codes ≡ map atom_code table
    → (a : Atom) → a ∈ table → get_or codes (position table a) 0 ≡ atom_code a
code_at table codes h a m = front_at atom_code table codes h (position table a) a 0 (at_position table a m)

pub literal-word-append : (gs more : List Atom) (l : Literal) → l.atom ∈ gs → literal_word (gs ++ more) l ≡ literal_word gs l
unfolding literal_word
literal-word-append gs more l m = ap (word_of (not l.positive)) (position-append gs more l.atom m)

pub clause-words-append :
    (gs more : List Atom) (c : Clause) → ((l : Literal) → l ∈ c → l.atom ∈ gs) → clause_words (gs ++ more) c ≡ clause_words gs c
unfolding clause_words
clause-words-append gs more [] h = refl
clause-words-append gs more (l ∷ c) h =
    cc (literal-word-append gs more l (h l (Memᴰ.head refl)), clause-words-append gs more c (λ k m. h k (Memᴰ.tail m)))

pub all-words-append :
    (gs more : List Atom) (cs : List Clause) → ((c : Clause) → c ∈ cs → (l : Literal) → l ∈ c → l.atom ∈ gs)
    → joined (clause_words (gs ++ more)) cs ≡ joined (clause_words gs) cs
unfolding joined
all-words-append gs more [] h = refl
all-words-append gs more (c ∷ cs) h =
    cc (clause-words-append gs more c (h c (Memᴰ.head refl)), all-words-append gs more cs (λ d m. h d (Memᴰ.tail m)))
