pub mod Ended
pub mod Devices
