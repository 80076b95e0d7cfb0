pub mod Writable
pub mod Spelling
pub mod ReadBack
pub mod Steps
pub mod Cuts
