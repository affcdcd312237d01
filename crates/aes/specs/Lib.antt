pub mod Field
pub mod Substitution
pub mod State
pub mod KeyExpansion
pub mod Cipher
pub mod Laws
