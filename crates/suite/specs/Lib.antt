pub mod Nonces
pub mod Keys
pub mod SignedOctets
pub mod Transforms
pub mod Choice
pub mod Offers
pub mod Sealing
pub mod Callers
