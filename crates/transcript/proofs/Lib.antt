pub mod Serving
pub mod Cuts
pub mod Lines
