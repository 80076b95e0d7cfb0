pub mod Codec
pub mod Written
pub mod WrittenBack
