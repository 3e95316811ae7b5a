pub mod Reaching
pub mod ReachingLaws
