pub mod Lane
pub mod Blocks
pub mod Padding
pub mod Message
pub mod Absorbing
pub mod Key
pub mod Task
pub mod Stream
