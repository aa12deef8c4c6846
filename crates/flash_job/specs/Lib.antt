pub mod Refusals
pub mod Run
