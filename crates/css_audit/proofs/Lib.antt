pub mod Inputs
pub mod Fresh
pub mod Telling
pub mod Reading
pub mod Refusals
pub mod Promise
