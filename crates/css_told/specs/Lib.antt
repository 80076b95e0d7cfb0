pub mod Noted
pub mod Stored
pub mod StoredChildren
