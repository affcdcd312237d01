pub mod Headers
pub mod Sealed
pub mod Counting
pub mod Notices
pub mod Deletions
pub mod Children
pub mod Chains
