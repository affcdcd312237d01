pub mod Addresses
pub mod Digits
pub mod Input
pub mod Output
pub mod Status
