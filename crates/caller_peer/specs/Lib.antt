pub mod Chaining
pub mod Bodies
pub mod BodyParts
pub mod Groups
pub mod SharedKeys
pub mod BodyLaws
pub mod OtherLaws
