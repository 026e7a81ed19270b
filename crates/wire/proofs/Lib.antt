pub mod Bytes
pub mod CallRows
pub mod Misfits
pub mod Narrow
pub mod AnswerRows
