-- Text as bytes. Assumes nothing.
use Rattle.std.specs.Prelude.{ℕ, List, [], ◌∷◌, ◌++◌}
use Prim.Native.Char.{code}
use Prim.Native.String.{String, [] as empty, ◌∷◌ as ◌then◌}
use Rattle.definitions.specs.Lists.{joined}

-- the bytes of a text in ASCII
unfoldable pub bytes : String → List ℕ
bytes empty = []
bytes (c then s) = code c ∷ bytes s

-- lines, each ended by LF
unfoldable pub text : List String → List ℕ
text ls = joined (λ (l : String). bytes l ++ (10 ∷ [])) ls

-- names every definition of this module, for a theorem that computes with all of them
unfoldable pub text_all : Unit {0}
unfolding bytes text
text_all = tt
