pub mod RoundTrips
pub mod Values
pub mod Windows
pub mod Never
pub mod ReadBack
pub mod ControlTexts
