pub mod Lines
pub mod Back
pub mod Places
pub mod Heads
