-- Sets of numbers, 64 to a word: the first number from one on and below another. Assumes nothing.
use Rattle.std.specs.Prelude.{ℕ, ◌≤◌, ◌<◌, ◌≡◌, true, false, List, Option, Some, None}
use Rattle.bits.specs.Bits.{among}

-- no number from one on and below another is in the set
abbrev pub NoneBetween : List ℕ → ℕ → ℕ → Type 0
NoneBetween words from end = (i : ℕ) → from ≤ i → i < end → among words i ≡ false

abbrev pub IsFirst : List ℕ → ℕ → ℕ → Option ℕ → Type 0
IsFirst words from end (Some c) = (from ≤ c) × (c < end) × (among words c ≡ true) × NoneBetween words from c
IsFirst words from end None = NoneBetween words from end
