pub mod Places
pub mod Treatments
pub mod Memory
pub mod Staying
