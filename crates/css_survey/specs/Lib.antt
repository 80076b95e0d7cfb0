pub mod Generated
pub mod Surveyed
pub mod Surveys
