pub mod Rings
pub mod Exchanges
pub mod Forgetting
pub mod Aside
pub mod Asking
pub mod Answering
pub mod Judging
pub mod Telling
