pub mod Writer
pub mod Example
