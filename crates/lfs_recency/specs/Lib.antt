pub mod FrameLends
pub mod FrameLists
pub mod Lending
pub mod Links
pub mod Places
