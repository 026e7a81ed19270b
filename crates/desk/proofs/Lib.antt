pub mod Words
pub mod Keeping
pub mod Dividing
pub mod Answering
pub mod Checking
pub mod Promised
pub mod Described
