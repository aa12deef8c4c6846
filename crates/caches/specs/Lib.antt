pub mod Sides
pub mod Held
pub mod Claims
