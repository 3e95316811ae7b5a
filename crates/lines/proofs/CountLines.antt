-- Lines of kind 1 and 2: what their count says of the questions, return by return. Assumes nothing.
use Rattle.std.specs.Prelude.{ℕ, ◌≤◌, ◌<◌, ◌≡◌, List, Result, Ok, map, length, set, drop}
use Rattle.std.proofs.Common.{refl, lt-ltb}
use Rattle.definitions.specs.Questions.{Asked, no, yes, ◌>>=◌, ◌>>◌, ask, count, constants_asked, arity_asked}
use Rattle.definitions.specs.declared.Question.{Question}
use Rattle.encoding.specs.Signs.{number_of}
use Rattle.encoding.specs.declared.Sizes.{Sizes}
use Rattle.lines.specs.LineReads.{Refuses, more_constants, more_symbols, ConstantsRead, SymbolRead}
use Rattle.lines.proofs.CountColumns.{no-column, some-column}

-- ── kind 1 ──

pub constants-refused : {m : Asked ℕ} {q : ℕ} (r : Result Sizes Question) (s : Sizes) → m ≡ no q → Refuses r q → ConstantsRead m r s
constants-refused r s e h = rw e h

module _ (line : List ℕ) where
  pub constants-uncounted : {q : ℕ} → count 8 1 32 (drop 1 (map number_of line)) ≡ no q → constants_asked (drop 1 (map number_of line)) ≡ no q
  unfolding constants_asked ◌>>=◌
  constants-uncounted e = rw e

  module _ {n : ℕ} (read : count 8 1 32 (drop 1 (map number_of line)) ≡ yes (record { found = n; left = drop 2 (map number_of line) })) where
    pub constants-over : 2 < length line → constants_asked (drop 1 (map number_of line)) ≡ no 11
    unfolding constants_asked ask ◌>>=◌ ◌>>◌
    constants-over h = rw (read, some-column line 2 h)

    constants-found : length line ≤ 2 → constants_asked (drop 1 (map number_of line)) ≡ yes n
    unfolding constants_asked ask ◌>>=◌ ◌>>◌
    constants-found h = rw (read, no-column line 2 h)

    pub constants-read : length line ≤ 2 → (s : Sizes) → ConstantsRead (constants_asked (drop 1 (map number_of line))) (Ok (more_constants n s)) s
    constants-read h s = rw (constants-found h) refl

-- ── kind 2 ──

pub symbol-refused : {m : Asked ℕ} {q : ℕ} (r : Result Sizes Question) (s : Sizes) (a b : List ℕ) → m ≡ no q → Refuses r q → SymbolRead m r s a b
symbol-refused r s a b e h = rw e h

module _ (line : List ℕ) (symbols : ℕ) where
  pub arity-uncounted : {q : ℕ} → count 8 0 3 (drop 1 (map number_of line)) ≡ no q → arity_asked symbols (drop 1 (map number_of line)) ≡ no q
  unfolding arity_asked ◌>>=◌
  arity-uncounted e = rw e

  module _ {n : ℕ} (read : count 8 0 3 (drop 1 (map number_of line)) ≡ yes (record { found = n; left = drop 2 (map number_of line) })) where
    pub symbols-full : symbols ≡ 16 → arity_asked symbols (drop 1 (map number_of line)) ≡ no 9
    unfolding arity_asked ask ◌>>=◌ ◌>>◌
    symbols-full h = rw (read, h)

    module _ (room : symbols < 16) where
      pub arity-over : 2 < length line → arity_asked symbols (drop 1 (map number_of line)) ≡ no 11
      unfolding arity_asked ask ◌>>=◌ ◌>>◌
      arity-over h = rw (read, lt-ltb symbols 16 room, some-column line 2 h)

      arity-found : length line ≤ 2 → arity_asked symbols (drop 1 (map number_of line)) ≡ yes n
      unfolding arity_asked ask ◌>>=◌ ◌>>◌
      arity-found h = rw (read, lt-ltb symbols 16 room, no-column line 2 h)

      pub arity-read : length line ≤ 2 → (s : Sizes) (arities : List ℕ) → s.symbols ≡ symbols
          → SymbolRead (arity_asked symbols (drop 1 (map number_of line))) (Ok (more_symbols s)) s arities (set arities s.symbols n)
      arity-read h s arities same = rw (arity-found h) (refl, refl)
