pub mod Telling
pub mod Lines
pub mod Landing
pub mod Following
pub mod Visits
pub mod Runs
pub mod Writes
