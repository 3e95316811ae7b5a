-- The lines that are made of what is left of a search. Assumes nothing.
use Rattle.std.specs.Prelude.{ℕ, ◌-◌, ◌≤◌, List}
use Rattle.definitions.specs.Lists.{joined}
use Rattle.machine.specs.declared.Searched.{Searched}
use Rattle.listing.specs.Lines.{column_bytes, word_numbers, logged_bytes, log_bytes, setting_bytes, settings_bytes, count_bytes, listing_bytes, ClausesListable}

-- the columns of literals by their words
abbrev pub words_columns : Searched → List ℕ → List ℕ
words_columns x ws = column_bytes (joined (word_numbers x.arities x.codes) ws)

abbrev pub logged_of : Searched → ℕ → List ℕ
logged_of x = logged_bytes x.given x.arities x.store.starts x.store.literals x.store.numbers x.codes

abbrev pub log_of : Searched → List ℕ
log_of x = log_bytes x.given x.ended.run.clauses x.arities x.store.starts x.store.literals x.store.numbers x.codes

abbrev pub setting_of : Searched → ℕ → List ℕ
setting_of x = setting_bytes x.arities x.codes x.values

abbrev pub settings_of : Searched → List ℕ
settings_of x = settings_bytes x.ended.verdict x.ended.run.atoms x.arities x.codes x.values

abbrev pub counts_of : Searched → List ℕ
counts_of x = count_bytes x.ended.verdict x.ended.run.atoms (x.ended.run.clauses - x.given) x.ended.run.decisions x.ended.run.conflicts

abbrev pub listing_of : Searched → List ℕ
listing_of x = listing_bytes x.ended.verdict x.ended.run x.given x.arities x.store.starts x.store.literals x.store.numbers x.codes x.values

-- what the lines need of it
pub record Listable (x : Searched) : Type 0 where
  pub atoms : x.ended.run.atoms ≤ 256
  pub clauses : ClausesListable x.given x.ended.run.clauses x.store.starts x.store.literals
