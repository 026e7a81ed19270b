pub mod Words
pub mod EachTwo
pub mod Divided
pub mod Carried
