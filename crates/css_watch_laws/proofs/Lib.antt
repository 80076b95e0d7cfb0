pub mod Accepted
pub mod Carried
pub mod Contradictions
pub mod Ticks
