pub mod Ended
pub mod Live
pub mod Commands
