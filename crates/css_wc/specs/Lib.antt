pub mod Datagrams
pub mod Precision
