pub mod Drifting
pub mod OnLiterals
pub mod Hops
pub mod Runs
pub mod Answers
