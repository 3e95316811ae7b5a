pub mod SlotReads
pub mod SlotReadLaws
pub mod Entering
pub mod EnteringLaws
pub mod ClauseSlotLaws
pub mod HeldClauseLaws
pub mod ReadClauseLaws
pub mod Placed
