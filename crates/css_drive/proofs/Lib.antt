pub mod CompanionSteps
pub mod CompanionEnds
pub mod CompanionLaws
pub mod TvSteps
pub mod TvTold
