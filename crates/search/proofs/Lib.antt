pub mod SearchTurns
pub mod StepLaws
