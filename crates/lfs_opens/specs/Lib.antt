pub mod Listing
pub mod Loans
pub mod Opens
pub mod Rewritten
