pub mod Blocks
pub mod Building
pub mod Contents
pub mod Placing
pub mod Ends
pub mod Rebuilt
pub mod Recovering
