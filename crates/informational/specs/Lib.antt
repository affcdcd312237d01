pub mod Orders
pub mod Ordering
pub mod Asking
pub mod Answering
pub mod Counting
