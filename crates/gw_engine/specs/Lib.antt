pub mod Checking
pub mod Ends
pub mod Printing
pub mod Showing
