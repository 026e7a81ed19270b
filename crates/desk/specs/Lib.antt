pub mod Memory
pub mod Opening
pub mod Calling
pub mod Steps
pub mod Promises
