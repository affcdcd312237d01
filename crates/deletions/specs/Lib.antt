pub mod Asking
pub mod Naming
pub mod Deciding
pub mod Answering
pub mod Removing
