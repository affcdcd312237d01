pub mod Hmac
pub mod KeyMaterial
pub mod Cookie
