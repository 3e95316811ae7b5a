-- What `read_cnf` hands back, by what the definitions make of a text. Assumes nothing.
use Rattle.std.specs.Prelude.{ℕ, ◌+◌, List, [], ◌∷◌, map, length, get_or, eqb, true, false, replicate, Result, Ok, Err}
use Rattle.std.proofs.lemmas.List.Edits.{sets}
use Rattle.std.proofs.Math.Seq.{slice}
use Rattle.definitions.specs.Lists.{joined, up_from}
use Rattle.definitions.specs.Sheet.{Number}
use Rattle.definitions.specs.Questions.{Asked, no, yes}
use Rattle.definitions.specs.Dimacs as dimacs
use Rattle.definitions.specs.Numbered.{question_number}
use Rattle.definitions.specs.declared.Question.{Question}
use Rattle.definitions.specs.declared.Question.TheVariants.{Header, ClauseLines}
use Rattle.encoding.specs.Signs.{word_of, number_of}
use Rattle.encoding.specs.Encoding.{starts_from}
use Rattle.cnf_reader.specs.declared.Cnf.{Cnf}

-- a literal as a word
unfoldable pub number_word : Number → ℕ
number_word n = word_of n.negative n.size

-- clauses as arrays: zeros where nothing stands
abbrev pub held_cnf : dimacs.Cnf → Cnf
held_cnf c =
    record {
      atoms = c.atoms;
      clauses = length c.clauses;
      starts = sets (replicate 577 0) 0 (starts_from 0 c.clauses);
      literals = sets (replicate 4608 0) 0 (joined (map number_word) c.clauses);
    }

-- the question of a number: 21, or else 22
abbrev pub text_question : ℕ → Question
text_question q = elim (eqb q 21) [ true ↦ Header | false ↦ ClauseLines ]

unfoldable pub cnf_read : Asked dimacs.Cnf → Result Cnf Question
cnf_read (no q) = Err (text_question q)
cnf_read (yes c) = Ok (held_cnf c)

-- this paper's number and values of each case: 21 or 22; or 0, the atoms and the clauses
unfoldable pub cnf_values : Result Cnf Question → List ℕ
cnf_values (Err q) = question_number q ∷ []
cnf_values (Ok c) = 0 ∷ c.atoms ∷ c.clauses ∷ []

-- ── the clauses that the arrays hold ──

-- a clause: the words from where it starts up to where the next one starts
unfoldable pub held_clause : List ℕ → List ℕ → ℕ → List Number
held_clause starts literals i = map number_of (slice (get_or starts i 0) (get_or starts (i + 1) 0) literals)

-- none for a refusal
unfoldable pub held_clauses : Result Cnf Question → List (List Number)
held_clauses (Err q) = []
held_clauses (Ok c) = map (held_clause c.starts c.literals) (up_from 0 c.clauses)
