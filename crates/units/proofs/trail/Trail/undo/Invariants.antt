-- The loop of `Trail::undo`: to undo what is left comes to what undoing all comes to. Assumes nothing.
use Rattle.std.proofs.Common.{◌≡◌}
use Rattle.units.specs.TrailArrays.{undo_from}
use Rattle.units.proofs.trail.Trail.undo.Given as goal

abbrev pub invariant-loop-at : goal.invariant-loop-at
invariant-loop-at l = record { left : undo_from l.at l.n l.self ≡ undo_from l.from l.n l.initial.self; words : l.self.words ≡ l.initial.self.words }
