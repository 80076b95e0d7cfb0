pub mod Replayed
pub mod Stands
pub mod Ended
pub mod Headline
