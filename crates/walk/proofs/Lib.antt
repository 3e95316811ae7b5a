pub mod CandidateTurns
pub mod WalkTurns
pub mod MaskedWalkLaws
pub mod WalkStands
