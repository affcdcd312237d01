pub mod Cookies
pub mod Messages
pub mod Fitting
pub mod Parts
pub mod Judging
pub mod Agreement
pub mod Reading
