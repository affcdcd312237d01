pub mod HmacLemmas
mod KeyMaterialLemmas
mod Rfc4231
mod MaterialLemmas
