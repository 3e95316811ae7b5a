-- The command's words by example. Assumes nothing.
use Prim.Native.String.{String}
use Rattle.std.specs.Prelude.{◌≡◌, refl, List, [], ◌∷◌, Option, Some, None, map}
use Rattle.definitions.specs.Lists.{lists_all}
use Rattle.definitions.specs.Words.{words_all}
use Rattle.definitions.specs.Sheet.{sheet_all}
use Rattle.definitions.specs.Text.{bytes, text_all}
use Rattle.definitions.specs.Command.{order, command_all}
use Rattle.definitions.specs.declared.Order.{Order}
use Rattle.definitions.specs.declared.Order.TheVariants.{Listing, Cnf}

-- the words behind the command's name, and what is done
pub record CommandTrial : Type 0 where
  pub words : List String
  pub does : Option Order

unfoldable pub command_trials : List CommandTrial
command_trials =
    record { words = []; does = Some (Listing 1000000) } ∷
    record { words = "cnf" ∷ []; does = Some (Cnf 1000000) } ∷
    record { words = "budget" ∷ "0" ∷ []; does = Some (Listing 0) } ∷
    record { words = "budget" ∷ "10" ∷ "cnf" ∷ []; does = Some (Cnf 10) } ∷
    -- the largest number of 32 bits, and the next one
    record { words = "budget" ∷ "4294967295" ∷ []; does = Some (Listing 4294967295) } ∷
    record { words = "budget" ∷ "4294967296" ∷ []; does = None } ∷
    record { words = "budget" ∷ "42949672950" ∷ []; does = None } ∷
    record { words = "budget" ∷ "18446744073709551617" ∷ []; does = None } ∷
    -- no number
    record { words = "budget" ∷ []; does = None } ∷
    record { words = "budget" ∷ "" ∷ []; does = None } ∷
    record { words = "budget" ∷ "cnf" ∷ []; does = None } ∷
    record { words = "budget" ∷ "007" ∷ []; does = None } ∷
    record { words = "budget" ∷ "00" ∷ []; does = None } ∷
    record { words = "budget" ∷ "+7" ∷ []; does = None } ∷
    record { words = "budget" ∷ "-7" ∷ []; does = None } ∷
    record { words = "budget" ∷ " 7" ∷ []; does = None } ∷
    record { words = "budget" ∷ "7a" ∷ []; does = None } ∷
    -- no word
    record { words = "" ∷ []; does = None } ∷
    record { words = "cnfx" ∷ []; does = None } ∷
    record { words = "cn" ∷ []; does = None } ∷
    record { words = "CNF" ∷ []; does = None } ∷
    record { words = "7" ∷ []; does = None } ∷
    -- one too many
    record { words = "cnf" ∷ "cnf" ∷ []; does = None } ∷
    record { words = "cnf" ∷ "" ∷ []; does = None } ∷
    record { words = "cnf" ∷ "budget" ∷ "7" ∷ []; does = None } ∷
    record { words = "budget" ∷ "7" ∷ "budget" ∷ "7" ∷ []; does = None } ∷
    record { words = "budget" ∷ "7" ∷ "cnf" ∷ "" ∷ []; does = None } ∷
    []

-- each is done
pub does : map (λ (t : CommandTrial). order (map bytes t.words)) command_trials ≡ map (λ (t : CommandTrial). t.does) command_trials
unfolding command_trials text_all lists_all words_all sheet_all command_all
does = refl
