pub mod Bench
pub mod Examples
pub mod Rows
pub mod Backup
pub mod Cuts
