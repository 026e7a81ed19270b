pub mod Row
pub mod Rows
pub mod Laws
pub mod Entries
