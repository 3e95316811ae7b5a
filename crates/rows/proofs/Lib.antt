pub mod RowLoops
pub mod RowQuestions
pub mod RowTests
