pub mod Passages
pub mod Numbers
pub mod Arrivals
pub mod Promises
pub mod Worked
