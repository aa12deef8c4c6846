pub mod Kinds
pub mod Record
pub mod Job
pub mod Rehearsal
pub mod Example
pub mod Rules
pub mod Claims
pub mod Secrecy
