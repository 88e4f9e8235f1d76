pub mod Laws
pub mod Changes
pub mod Front
pub mod Adding
pub mod Ending
pub mod Testing
pub mod Removing
mod Renumbering
