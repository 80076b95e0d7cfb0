pub mod Passes
pub mod SheetsRead
pub mod Listening
pub mod Marks
pub mod Counts
