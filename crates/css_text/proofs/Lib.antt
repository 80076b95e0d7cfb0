pub mod CompactTexts
pub mod Readings
pub mod WholeSteps
mod WorkedTexts
pub mod Laws
