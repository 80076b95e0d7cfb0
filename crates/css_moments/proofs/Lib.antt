pub mod Excesses
pub mod Worst
pub mod Verdicts
pub mod Keeping
pub mod Pairs
