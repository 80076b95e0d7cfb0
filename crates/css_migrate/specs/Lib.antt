pub mod Migrated
pub mod Standing
