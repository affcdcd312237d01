pub mod Configs
pub mod Insides
pub mod Views
