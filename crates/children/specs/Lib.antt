pub mod Terms
pub mod Pairs
pub mod Making
pub mod Asking
pub mod Responding
pub mod Accepting
pub mod Faults
