-- What the functions over the front of a text hand back, as the definitions have it. Assumes nothing.
use Rattle.std.specs.Prelude.{ℕ, ◌&&◌, List, leb}
use Rattle.definitions.specs.Questions.{Asked, yes, ◌>>=◌, ◌>>◌, ask}
use Rattle.definitions.specs.Dimacs as dimacs
use Rattle.definitions.specs.Dimacs.{Front, front, expect, decimal_at}
use Rattle.cnf_reader.specs.declared.parts.Header.{Header}

-- a decimal between these limits, and the byte that ends it
unfoldable pub number_at : ℕ → ℕ → ℕ → ℕ → List ℕ → Asked (Front ℕ)
number_at q least most end bs = do
  n ← decimal_at q bs
  ask q (leb least n.found && leb n.found most)
  behind ← expect q end n.behind
  yes (front n.found behind)

-- the header, as the definitions have it
abbrev pub header_of : Header → dimacs.Header
header_of h = record { atoms = h.atoms; clauses = h.clauses }
