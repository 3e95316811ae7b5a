pub mod TrailTurns
