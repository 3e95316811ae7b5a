pub mod Arguments
pub mod Terms
pub mod Literals
pub mod Entries
pub mod RulePlaces
