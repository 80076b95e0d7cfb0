pub mod Numbers
pub mod Raised
pub mod Writing
pub mod Generations
