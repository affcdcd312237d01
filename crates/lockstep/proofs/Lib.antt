mod NumberLemmas
mod LogLemmas
mod MoveLemmas
mod RunLemmas
mod PromiseLemmas
mod WorkedLemmas
mod KeyLemmas
mod PartyLemmas
