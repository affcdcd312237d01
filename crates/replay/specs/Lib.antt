pub mod Recovery
pub mod Window
pub mod Blocks
pub mod Faults
