pub mod Drifts
pub mod Numbers
pub mod Steps
pub mod Standing
pub mod FaultWords
