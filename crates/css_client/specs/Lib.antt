pub mod Clients
pub mod Landings
pub mod Standing
