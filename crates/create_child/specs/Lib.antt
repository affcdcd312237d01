pub mod Asking
pub mod Readying
pub mod Answering
pub mod Counting
pub mod Concluding
