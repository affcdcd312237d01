-- What a step sends, what its trace names, and that keys stay.
use Rattle.std.specs.Prelude.{◌≡◌, ◌≤◌, length, true, ℕ, All, Contains, None, Some}
use Rattle.base.specs.Octets.{Octets}
use Rattle.suite.specs.declared.key_record.KeyRecord.{KeyRecord}
use Rattle.sadb.specs.Database.{IsSoundTable}
use Rattle.association.specs.Phases.{keys_in}
use Rattle.association.specs.declared.phase.Association.{Association}
use Rattle.moments.specs.Due.{outstanding_count}
use Rattle.moments.specs.declared.resent.Resent.{Resent}
use Rattle.moments.specs.declared.ticking.Ticked.{Ticked}
use Rattle.effects.specs.Keeping.{IsShort}
use Rattle.ike.specs.LawCases.{EachStep, IsStep}
use Rattle.ike.specs.Machines.{association_of, keys_of_serial}
use Rattle.ike.specs.Outputs.{octets_in}
use Rattle.ike.specs.Soundness.{IsSoundMachine}
use Rattle.ike.specs.Steps.{is_tick}
use Rattle.ike.specs.Tracing.{HoldsKeys, IsInClear, IsTraced}
use Rattle.ike.specs.declared.output.IkeOutput.TheVariants as output

-- ---- what_is_sent_is_short
abbrev pub WhatIsSentIsShort : Type 0
WhatIsSentIsShort = EachStep (λ it. (octets : Octets)
    → IsSoundMachine it.old it.table
    → IsStep it
    → octets_in it.stepped.output ≡ Some octets
    → IsShort octets)

abbrev pub WhatGoesOutAgainIsShort : Type 0
WhatGoesOutAgainIsShort = EachStep (λ it. (ticked : Ticked)
    → IsSoundMachine it.old it.table
    → IsStep it
    → it.stepped.output ≡ output.Ticked ticked
    → All (λ (request : Resent). IsShort request.octets) ticked.requests)

-- ---- few_go_out_again
abbrev pub FewGoOutAgain : Type 0
FewGoOutAgain = EachStep (λ it. (ticked : Ticked)
    → IsStep it
    → it.stepped.output ≡ output.Ticked ticked
    → (is_tick it.input ≡ true) × (length ticked.requests ≤ outstanding_count it.old.held.associations))

-- ---- traces_name_what_is_held
abbrev pub TracesNameWhatIsHeld : Type 0
TracesNameWhatIsHeld = EachStep (λ it.
    IsSoundTable it.table
    → IsSoundMachine it.old it.table
    → IsStep it
    → IsTraced it.old.held it.table it.stepped it.new.held it.new_table)

abbrev pub KeysStay : Type 0
KeysStay = EachStep (λ it. (serial : ℕ) (keys : KeyRecord) (a : Association)
    → IsSoundTable it.table
    → IsSoundMachine it.old it.table
    → IsStep it
    → keys_of_serial serial it.old.held.associations ≡ Some keys
    → association_of serial it.new.held.associations ≡ Some a
    → keys_in a.phase ≡ Some keys)

abbrev pub WhatGoesOutAgainHasKeys : Type 0
WhatGoesOutAgainHasKeys = EachStep (λ it. (ticked : Ticked) (request : Resent)
    → IsSoundTable it.table
    → IsSoundMachine it.old it.table
    → IsStep it
    → it.stepped.output ≡ output.Ticked ticked
    → Contains ticked.requests request
    → request.encrypted ≡ true
    → HoldsKeys it.new.held request.ike)

abbrev pub WhatIsNotNamedIsInClear : Type 0
WhatIsNotNamedIsInClear = EachStep (λ it. (octets : Octets)
    → IsSoundMachine it.old it.table
    → IsStep it
    → it.stepped.trace.sent ≡ None
    → octets_in it.stepped.output ≡ Some octets
    → IsInClear it.old.held it.stepped.trace.keyed it.new.held it.stepped.output)
