pub mod Fields
pub mod Filled
pub mod Kept
pub mod Linked
pub mod Lists
pub mod Lone
pub mod Rings
