-- One column of 4 bytes. Assumes nothing.
use Rattle.std.proofs.Common.{◌≡◌, sym, ap, ◌∙◌, ℕ, ◌+◌, ◌<◌, true, List, [], ◌∷◌, length, append-nil, arith}
use Rattle.std.proofs.lemmas.List.Edits.{sets}
use Rattle.definitions.specs.Lists.{joined}
use Rattle.definitions.specs.Sheet.{Number}
use Rattle.definitions.specs.Listing.{field_bytes, narrow}
use Rattle.column.specs.Widths.{narrow-length}
use Rattle.listing.specs.Puts.{Put}
use Rattle.listing.specs.Lines.{column_bytes}

module _ (n : Number) where
  column-field : column_bytes (n ∷ []) ≡ field_bytes (narrow n)
  unfolding column_bytes joined
  column-field = append-nil (field_bytes (narrow n))

  module _ (fits : n.negative ≡ true → n.size < 1000) where
    pub column-length : length (column_bytes (n ∷ [])) ≡ 4
    column-length = ap length column-field ∙ narrow-length n fits

    pub column-put : {room : List ℕ} {at : ℕ} {after : List ℕ} → after ≡ sets room at (field_bytes (narrow n)) → Put room at (column_bytes (n ∷ [])) (at + 4) after
    column-put {room} {at} e = record { place = omega (arith, column-length); stored = e ∙ ap (sets room at) (sym column-field) }
