pub mod Secrecy
pub mod Views
pub mod Claim
pub mod Erased
