-- What is kept of clauses, so that step A reads only those that ask for something: for each clause how many of its different literals are not
-- false and how many are true, which clauses hold a literal, and which clauses ask. Assumes nothing.
use Rattle.std.specs.Prelude.{ℕ, ◌+◌, ◌*◌, ◌/◌, ◌%◌, Bool, true, false, ◌&&◌, List, map, eqb, leb, ltb, length, get_or}
use Rattle.bits.specs.Bits.{has, packed}
use Rattle.definitions.specs.Lists.{any, filter, distinct, up_from}
use Rattle.definitions.specs.ClauseNumbers.{Numbers}
use Rattle.encoding.specs.Values.{Values, true_word}
use Rattle.units.specs.Units.{not_false_words}
use Rattle.counters.specs.declared.Counters.{Counters}

-- ── a clause, read whole ──

-- how many different words are not false, and how many are true
unfoldable pub count_not_false : Values → List ℕ → ℕ
count_not_false values ws = length (not_false_words values ws)

unfoldable pub count_true : Values → List ℕ → ℕ
count_true values ws = length (filter (true_word values) (distinct eqb ws))

-- both in one number
unfoldable pub read_whole : Values → List ℕ → ℕ
read_whole values ws = count_not_false values ws + 256 * count_true values ws

-- what it says: the low byte how many are not false, the rest whether any is true
unfoldable pub told : ℕ → Numbers
told n = record { non_false = n % 256; any_true = leb 256 n }

-- none is true and at most one is not false: the clause asks for something, or for what it may not set
unfoldable pub number_asks : ℕ → Bool
number_asks n = leb n 1

-- ── the arrays ──

-- whether clause c holds word w, and whether it asks
unfoldable pub row_at : List ℕ → ℕ → ℕ → Bool
row_at rows w c = has (c % 64) (get_or rows (10 * w + c / 64) 0)

-- what they are for so many clauses: no other clause holds anything, counts or asks
unfoldable pub row_bit : (ℕ → List ℕ) → ℕ → ℕ → ℕ → Bool
row_bit clause clauses w c = ltb c clauses && any (eqb w) (clause c)

module _ (values : Values) (clause : ℕ → List ℕ) (clauses : ℕ) where
  unfoldable pub number : ℕ → ℕ
  number c = elim (ltb c clauses) [ true ↦ read_whole values (clause c) | false ↦ 0 ]

  unfoldable pub ask_bit : ℕ → Bool
  ask_bit c = ltb c clauses && number_asks (read_whole values (clause c))

  unfoldable pub counters_of : Counters
  counters_of = record {
    rows = map (λ (i : ℕ). packed 64 (λ (j : ℕ). row_bit clause clauses (i / 10) (64 * (i % 10) + j))) (up_from 0 5120);
    counts = map number (up_from 0 640);
    asking = map (λ (k : ℕ). packed 64 (λ (j : ℕ). ask_bit (64 * k + j))) (up_from 0 10);
  }

abbrev pub counters : List ℕ → List ℕ → List ℕ → Counters
counters rows counts asking = record { rows = rows; counts = counts; asking = asking }
