pub mod Addresses
pub mod Attributes
pub mod Bytes
pub mod Facts
pub mod Reading
pub mod Record
pub mod Slots
