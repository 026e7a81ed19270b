pub mod Texts
pub mod Audits
pub mod Laws
