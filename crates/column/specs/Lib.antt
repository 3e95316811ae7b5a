pub mod Column
pub mod Scan
pub mod Sets
pub mod Places
pub mod Widths
