pub mod Files
pub mod Filling
pub mod Keys
pub mod Opening
pub mod Store
pub mod View
pub mod Waiting
pub mod Clean
