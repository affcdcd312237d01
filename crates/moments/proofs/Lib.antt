mod DeterminedTicks
mod DueLemmas
mod HeldLemmas
mod PassingLemmas
mod HoldLemmas
mod TimelyLemmas
mod NextLemmas
mod ComingLemmas
