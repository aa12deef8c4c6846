pub mod Worked
pub mod Stores
pub mod Drafts
pub mod Reading
pub mod Lists
pub mod Closing
pub mod Laws
