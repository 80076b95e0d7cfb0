pub mod Tickets
pub mod Exchanges
pub mod FaultWords
