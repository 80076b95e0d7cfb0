pub mod Failing
pub mod Scripts
pub mod Spawning
pub use Rattle.css_outside.specs.Devices
pub use Rattle.css_outside.specs.Faults
pub use Rattle.css_outside.specs.Outsides
pub use Rattle.css_outside.specs.Spawners
pub use Rattle.css_model.specs.History
