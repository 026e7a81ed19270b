pub mod Sums
pub mod Ways
pub mod Written
pub mod Rows
pub mod Came
pub mod Ledgers
