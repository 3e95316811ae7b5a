pub mod LineKinds
pub mod Sheets
