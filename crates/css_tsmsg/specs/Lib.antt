pub mod Controls
pub mod Faults
pub mod Names
pub mod Presentations
pub mod Setups
pub mod Times
pub mod FaultWords
