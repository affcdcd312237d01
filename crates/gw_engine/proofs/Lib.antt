mod EndingLemmas
mod SayingLemmas
mod ScriptLemmas
mod ShowingLemmas
