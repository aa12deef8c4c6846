pub mod Invariant
pub mod Secret
pub mod Lists
pub mod Views
pub mod Claim
pub mod Stronger
pub mod Erased
