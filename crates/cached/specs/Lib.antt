pub mod Lines
pub mod Device
pub mod Claims
pub mod Rows
