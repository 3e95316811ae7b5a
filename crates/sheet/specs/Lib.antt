pub mod HoldingLaws
pub mod LineHolds
pub mod SheetLaws
