pub mod Solving
pub mod SolvingLaws
