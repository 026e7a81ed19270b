pub mod Parts
pub mod InOrder
pub mod AsLists
pub mod Keeping
pub mod Entering
pub mod Came
