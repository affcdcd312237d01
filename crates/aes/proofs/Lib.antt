mod FieldLemmas
mod TableLemmas
mod CipherLemmas
mod KeyLemmas
mod StateLemmas
pub mod InverseLemmas
