pub mod Clocks
pub mod Senders
