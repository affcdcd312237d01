mod ListLemmas
mod TermLemmas
mod ChildLemmas
mod SameLemmas
mod FitLemmas
mod FewLemmas
mod DeterminedChildren
