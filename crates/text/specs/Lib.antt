pub mod Printed
pub mod Read
pub mod Laws
