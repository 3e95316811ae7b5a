pub mod ActTurns
pub mod ClauseTurns
pub mod KeptTurns
