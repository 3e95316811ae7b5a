-- The trail as the search keeps it, and what setting and undoing make of it. Assumes nothing.
use Rattle.std.specs.Prelude.{ℕ, ◌-◌, List, set, take, drop}
use Rattle.encoding.specs.Values.{Values, assigned}
use Rattle.units.specs.TrailWords.{cleared}
use Rattle.units.specs.declared.trail.Mark.{Mark}
use Rattle.units.specs.declared.trail.Mark.TheVariants.{Forced, Decided, Flipped}
use Rattle.units.specs.declared.trail.Trail.{Trail}

-- the definitions' trail is a list of entries; this one is arrays
abbrev pub TrailArrays : Type 0
TrailArrays = Trail

abbrev pub trail_arrays : Values → List ℕ → List ℕ → TrailArrays
trail_arrays values words marks = record { values = values; words = words; marks = marks }

-- the number by which the trail notes why a literal is set
abbrev pub mark_number : Mark → ℕ
mark_number Forced = 0
mark_number Decided = 1
mark_number Flipped = 2

-- a literal is set at a place of the trail
unfoldable pub set_at : ℕ → ℕ → ℕ → TrailArrays → TrailArrays
set_at at w why t = trail_arrays (assigned t.values w) (set t.words at w) (set t.marks at why)

-- what was set from a place on is unset
unfoldable pub undo_from : ℕ → ℕ → TrailArrays → TrailArrays
undo_from at n t = trail_arrays (cleared t.values (take (n - at) (drop at t.words))) t.words t.marks
