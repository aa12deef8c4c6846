pub mod Done
pub mod Laws
pub mod Sound
pub mod Transparent
pub mod Rows
