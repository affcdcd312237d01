pub mod Deciding
pub mod Concluding
pub mod Answering
pub mod Ending
pub mod Beginning
pub mod Reading
