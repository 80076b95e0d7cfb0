pub mod HostTexts
pub mod Exponents
pub mod Readings
pub mod Responses
pub mod ReadBack
mod Agreeing
mod Begins
pub mod TwoHops
