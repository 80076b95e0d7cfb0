pub mod CompactTexts
pub mod Fields
pub mod Numerals
pub mod Readings
pub mod WholeTexts
pub mod FaultWords
pub mod Ordered
