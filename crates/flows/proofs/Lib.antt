mod MemoryLemmas
mod StayingLemmas
