mod NumberLemmas
mod ReductionLemmas
mod PassLemmas
mod SquareLemmas
mod DivisionLemmas
mod FormLemmas
pub mod OctetLemmas
pub mod PowerLemmas
pub mod ElementLemmas
