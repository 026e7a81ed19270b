pub mod Marking
pub mod Amounts
pub mod Left
pub mod Splitting
pub mod Giving
pub mod Serving
pub mod Pay
pub mod Remainders
