pub mod NewestLast
pub mod Declared
pub mod Standing
pub mod Counting
pub mod Leasts
pub mod Nearness
pub mod Greatest
