pub mod StepLaws
pub mod CountTurns
