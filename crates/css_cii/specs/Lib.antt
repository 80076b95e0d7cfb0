pub mod Messages
pub mod Names
pub mod States
pub mod Texts
pub mod Timelines
pub mod FaultWords
