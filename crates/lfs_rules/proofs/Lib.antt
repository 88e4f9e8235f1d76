pub mod BitTests
pub mod SetIdBits
