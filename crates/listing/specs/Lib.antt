pub mod Puts
pub mod Lines
pub mod JoinedLaws
pub mod CodeParts
pub mod ListingStands
pub mod Writes
pub mod Left
