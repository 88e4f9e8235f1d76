pub mod Attrs
pub mod Errnos
pub mod Listings
pub mod Numbers
pub mod Replies
