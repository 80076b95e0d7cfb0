pub mod Conversions
pub mod Trees
pub mod FaultWords
pub use Rattle.css_clock.specs.Ticks
