pub mod WallSpans
pub mod Frontiers
pub mod Verdicts
pub mod FaultWords
