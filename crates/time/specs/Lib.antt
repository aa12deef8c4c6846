pub mod Units
pub mod Timings
