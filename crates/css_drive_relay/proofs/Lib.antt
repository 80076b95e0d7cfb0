pub mod Follows
mod Peers
pub mod Steps
mod AsCompanion
pub mod ToldSessions
pub mod SecondHop
mod Landing
mod Staying
