pub mod Words
pub mod Fronts
pub mod Lines
pub mod Ranges
pub mod Writable
