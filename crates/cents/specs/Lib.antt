pub mod Marks
pub mod Rounding
pub mod Parted
pub mod Whole
pub mod Laws
pub mod Splits
