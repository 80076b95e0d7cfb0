pub mod Listing
pub mod RoundTrips
pub mod Runs
pub mod Same
pub mod Sessions
pub mod Utf8
pub mod Laws
pub mod Never
