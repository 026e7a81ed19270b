pub mod Shares
pub mod Pairs
pub mod Laws
