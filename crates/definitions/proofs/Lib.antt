pub mod Supposed
pub mod RefusedLineTrials
pub mod ModelTrials
