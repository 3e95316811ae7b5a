-- What the command prints, of an input whose bytes are known to an output that tells what it holds. Assumes nothing.
use Rattle.std.specs.Prelude.{ℕ, List, Option, IfSome, ⊤}
use Rattle.std.specs.Io.KnownBytes.{Appends, Keeps}
use Rattle.definitions.specs.Call.{printed}
use Rattle.definitions.specs.Export.{printed_cnf}
use Rattle.definitions.specs.declared.Order.{Order}
use Rattle.definitions.specs.declared.Order.TheVariants.{Listing, Cnf}
use Rattle.thunyaworm.specs.declared.Failure.{Failure}
use Rattle.thunyaworm.specs.declared.Failure.TheVariants.{Unread, Unwritten}

-- the output holds what was made of all the bytes of the input, behind what it held before
abbrev pub Outputs : (List ℕ → List ℕ) → Option (List ℕ) → Option (List ℕ) → Option (List ℕ) → Type 0
Outputs made input before after = IfSome input (λ sheet. Appends before after (made sheet))

-- where the sheet could not be read, the output holds what it held before
abbrev pub KeepsUnread : Option (List ℕ) → Option (List ℕ) → Failure → Type 0
KeepsUnread before after (Unread why) = Keeps before after
KeepsUnread before after (Unwritten why) = ⊤

-- what is printed of a sheet, by what the words order
abbrev pub printed_as : Order → List ℕ → List ℕ
printed_as (Listing budget) sheet = printed sheet budget
printed_as (Cnf budget) sheet = printed_cnf sheet budget
