pub mod Number
pub mod Group
pub mod Form
pub mod Square
pub mod Laws
