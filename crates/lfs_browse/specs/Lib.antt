pub mod Asking
pub mod Content
pub mod Listing
pub mod Looks
pub mod Spelled
pub mod Steps
pub mod Trees
pub mod Walking
