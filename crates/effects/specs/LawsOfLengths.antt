-- Lengths of what is kept, sent and sealed, and of keys.
use Rattle.std.specs.Prelude.{◌≡◌, length, Some}
use Rattle.base.specs.Octets.{AreOctets, Octets}
use Rattle.suite.specs.declared.keys.Keys.{Keys}
use Rattle.effects.specs.Keeping.{octets_of_effect, IsShort, KeepsShort}
use Rattle.effects.specs.LawCases.{begun_by, EachAdmission, EachBeginning, EachMessage, IsAdmission, IsBegun, IsTaken}
use Rattle.effects.specs.Lengths.{HoldsWholeKeys, TellsLengths}

-- ---- what_is_kept_is_short
abbrev pub WhatIsKeptStaysShort : Type 0
WhatIsKeptStaysShort = EachMessage (λ it.
    KeepsShort it.old
    → IsTaken it
    → KeepsShort it.new)

abbrev pub WhatIsSentIsShort : Type 0
WhatIsSentIsShort = EachMessage (λ it. (said : Octets)
    → KeepsShort it.old
    → IsTaken it
    → octets_of_effect it.effect ≡ Some said
    → IsShort said)

abbrev pub BeginningsAreShort : Type 0
BeginningsAreShort = EachBeginning (λ it.
    IsBegun it
    → KeepsShort (begun_by it) × IsShort it.beginning.octets)

abbrev pub AdmissionsAreShort : Type 0
AdmissionsAreShort = EachAdmission (λ it.
    IsAdmission it
    → KeepsShort it.admitted.association × IsShort it.admitted.octets)

-- ---- lengths_are_told
abbrev pub LengthsAreTold : (Keys → Octets → Octets → Octets → Octets) → Type 0
LengthsAreTold body_of = (fresh : Octets)
    → AreOctets fresh
    → length fresh ≡ 16
    → TellsLengths body_of fresh

-- ---- keys_stay_whole
abbrev pub AdmittedKeysAreWhole : Type 0
AdmittedKeysAreWhole = EachAdmission (λ it.
    IsAdmission it
    → HoldsWholeKeys it.admitted.association.phase)

abbrev pub KeysStayWhole : Type 0
KeysStayWhole = EachMessage (λ it.
    HoldsWholeKeys it.old.phase
    → IsTaken it
    → HoldsWholeKeys it.new.phase)
