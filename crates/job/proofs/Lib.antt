pub mod Laws
pub mod Claimed
pub mod Ruled
pub mod HiddenCalls
pub mod Secret
pub mod Rows
pub mod Records
pub mod Uncached
