mod LaneLemmas
mod BlockLemmas
mod MessageLemmas
mod AbsorbingLemmas
mod TaggingLemmas
mod BatchLemmas
mod StreamLemmas
