pub mod Flights
pub mod Lanes
pub mod Standing
pub mod Asked
pub mod Lending
