pub mod Converted
pub mod Enclosing
pub mod Forests
pub mod Paths
pub mod Stepwise
