pub mod Opened
pub mod Exchanged
pub mod Opening
pub mod Beside
pub mod Worked
pub mod UnderLoad
