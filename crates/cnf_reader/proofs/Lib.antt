pub mod Fronts
pub mod Numbers
pub mod ClauseLines
pub mod Clauses
pub mod Answers
