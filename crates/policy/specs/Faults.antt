-- The numbers of this crate's refusals.
use Rattle.std.specs.Prelude.{ℕ}
use Rattle.policy.specs.declared.fault.PolicyFault.{PolicyFault}
use Rattle.policy.specs.declared.fault.PolicyFault.TheVariants.{BadEntry}
use Rattle.policy.specs.declared.fault.InnerFault.{InnerFault}
use Rattle.policy.specs.declared.fault.InnerFault.TheVariants.{BadInner, Fragment, ExtensionHeader}
use Rattle.policy.specs.declared.fault.NarrowFault.{NarrowFault}
use Rattle.policy.specs.declared.fault.NarrowFault.TheVariants.{Unacceptable, Memory}

abbrev pub code_of_policy_fault : PolicyFault → ℕ
code_of_policy_fault (BadEntry place) = 6

abbrev pub place_of_policy_fault : PolicyFault → ℕ
place_of_policy_fault (BadEntry place) = place

abbrev pub code_of_inner_fault : InnerFault → ℕ
code_of_inner_fault BadInner = 21
code_of_inner_fault Fragment = 22
code_of_inner_fault ExtensionHeader = 39

abbrev pub code_of_narrow_fault : NarrowFault → ℕ
code_of_narrow_fault Unacceptable = 23
code_of_narrow_fault Memory = 24
