pub mod Bits
pub mod Grants
pub mod Locks
pub mod Owners
pub mod Securelevel
pub mod SetId
pub mod Sticky
