pub mod Sessions
pub mod Cutting
pub mod Transcripts
pub mod Laws
