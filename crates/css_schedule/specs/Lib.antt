pub mod Words
pub mod Owners
pub mod Lines
pub mod Headers
pub mod Ranges
pub mod FaultWords
