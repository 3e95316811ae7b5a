-- Writing a column from the right: its last places first, and then those that are left before them. Assumes nothing.
use Rattle.std.specs.Prelude.{ℕ, ◌+◌, ◌≡◌, Bool, true, false, List, [], ◌∷◌, length}
use Rattle.std.proofs.lemmas.List.Edits.{sets}

-- the sign of a negative number, byte 45; another number has none
unfoldable pub sign : Bool → List ℕ
sign true = 45 ∷ []
sign false = []

-- the bytes were put into the last of so many places, and so many are left before them
pub record PutLast (field : List ℕ) (places : ℕ) (bytes : List ℕ) (left : ℕ) (after : List ℕ) : Type 0 where
  pub count : left + length bytes ≡ places
  pub stored : after ≡ sets field left bytes
