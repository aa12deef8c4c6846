pub mod Sectors
pub mod Areas
pub mod Protection
