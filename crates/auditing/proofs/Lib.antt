pub mod Feeds
pub mod Findings
