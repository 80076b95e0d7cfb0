pub mod Goes
pub mod Near
pub mod Shapes
