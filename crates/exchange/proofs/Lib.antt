mod SealedLemmas
mod CountingLemmas
mod FittingLemmas
mod DeterminedSealing
