pub mod Delivering
pub mod InOrder
pub mod Streams
pub mod Through
pub mod WorkedStreams
