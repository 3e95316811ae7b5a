-- What reading and searching a sheet comes to. Assumes nothing.
use Rattle.std.specs.Prelude.{ℕ, ◌≡◌}
use Rattle.std.proofs.Common.{Result, Ok, Err}
use Rattle.definitions.specs.Questions.{Reading, refused, accepted}
use Rattle.definitions.specs.declared.Refusal.{Refusal}
use Rattle.machine.specs.Finished.{AtEnd}
use Rattle.machine.specs.declared.Searched.{Searched}

-- the refusal, or what is left of the search of the problem
abbrev pub ReachedAs : Reading → ℕ → Result Searched Refusal → Type 0
ReachedAs (refused q n) budget r = r ≡ Err (record { number = q; line = n })
ReachedAs (accepted p) budget r = (x : Searched) × (r ≡ Ok x) × AtEnd p budget x
