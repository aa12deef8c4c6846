pub mod Slots
pub mod Steps
pub mod Replacement
pub mod Laws
