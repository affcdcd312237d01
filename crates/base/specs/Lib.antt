pub mod Octets
pub mod Lists
pub mod Addresses
