pub mod Precisions
pub mod Middles
pub mod Answers
pub mod Relays
pub mod Lending
pub mod Agreeing
pub mod TwoHops
pub mod FaultWords
