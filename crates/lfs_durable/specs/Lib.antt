pub mod Alike
pub mod Contents
pub mod Crashes
pub mod Kept
pub mod Names
pub mod Runs
pub mod Spared
