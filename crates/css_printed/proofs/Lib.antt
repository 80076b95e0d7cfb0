pub mod Spaced
pub mod NumbersBack
pub mod VerbsBack
pub mod ReadBack
pub mod HeadersBack
