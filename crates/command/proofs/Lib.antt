pub mod Filled
pub mod Numerals
pub mod Orders
