pub mod Lent
pub mod LentLaws
pub mod PrintLaws
pub mod Promises
