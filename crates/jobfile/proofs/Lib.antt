pub mod Chunks
pub mod Turns
pub mod Stored
pub mod Numbers
