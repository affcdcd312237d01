pub mod Due
pub mod Held
pub mod Passing
pub mod Ticking
pub mod Holding
pub mod Next
