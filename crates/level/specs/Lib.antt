pub mod Levels
pub mod Sides
pub mod Words
pub mod Terms
pub mod Laws
