pub mod Worlds
pub mod Limits
pub mod Histories
