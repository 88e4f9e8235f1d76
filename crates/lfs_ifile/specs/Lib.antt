pub mod Segment
pub mod Inode
pub mod Tables
pub mod Layout
