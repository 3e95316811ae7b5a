pub mod VariableTurns
pub mod FillingTurns
