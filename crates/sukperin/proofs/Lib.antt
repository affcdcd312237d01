pub mod AsBox
pub mod AssociationLemmas
pub mod HeldLemmas
pub mod ListLemmas
pub mod OutwardLemmas
pub mod SealLemmas
pub mod TermLemmas
pub mod ViewLemmas
