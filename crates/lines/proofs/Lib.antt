pub mod ClauseLines
pub mod CountColumns
pub mod CountLines
pub mod RuleLines
pub mod SlotWalks
pub mod TwoWayLines
pub mod Reverses
