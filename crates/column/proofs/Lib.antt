pub mod Scans
pub mod Columns
