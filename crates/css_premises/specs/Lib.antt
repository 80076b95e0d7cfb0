pub mod Drifting
pub mod Hops
pub mod Runs
pub mod Answers
