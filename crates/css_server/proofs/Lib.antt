pub mod Rising
pub mod Originates
