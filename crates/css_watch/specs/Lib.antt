pub mod Configs
pub mod Progress
pub mod Telling
pub mod Watching
pub mod Visits
pub mod Following
