pub mod Waiting
pub mod Beginning
pub mod Copies
pub mod Removing
pub mod WorldCopies
