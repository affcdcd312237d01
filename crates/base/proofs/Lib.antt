pub mod OctetLemmas
mod PrefixLemmas
