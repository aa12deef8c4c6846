pub mod Runs
pub mod Judged
