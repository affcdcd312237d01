mod TableLemmas
mod CountingLemmas
mod ConcludingLemmas
mod AskingLemmas
