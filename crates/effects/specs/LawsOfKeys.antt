-- The keys of an IKE SA, and what is sent under them.
use Rattle.std.specs.Prelude.{◌≡◌, ◌⊎◌, false, length, true, None, Some}
use Rattle.base.specs.Octets.{AreOctets, Octets}
use Rattle.wire.specs.Messages.{Spells}
use Rattle.suite.specs.declared.key_record.KeyRecord.{KeyRecord}
use Rattle.suite.specs.declared.keys.Keys.{Keys}
use Rattle.exchange.specs.Headers.{other_role}
use Rattle.association.specs.Finding.{is_meant}
use Rattle.association.specs.Phases.{keys_in}
use Rattle.association.specs.Receiving.{Opening}
use Rattle.association.specs.declared.phase.Association.{Association}
use Rattle.setup.specs.Configs.{Setup}
use Rattle.effects.specs.Children.{IsAsking}
use Rattle.effects.specs.Keeping.{KeyedBy}
use Rattle.effects.specs.LawCases.{EachMessage, EachMessageWith, IsTaken}
use Rattle.effects.specs.Lengths.{HoldsWholeKeys}
use Rattle.effects.specs.Openings.{OpensAsMessage, OpensWhatItSeals}
use Rattle.effects.specs.Sending.{SendsRequest}
use Rattle.effects.specs.declared.taking.Effect.TheVariants.{Again, AsksAuth, Counted, Replied}

-- ---- keys_stay
abbrev pub KeysStay : Type 0
KeysStay = EachMessage (λ it. (keys : KeyRecord)
    → keys_in it.old.phase ≡ Some keys
    → IsTaken it
    → keys_in it.new.phase ≡ Some keys)

abbrev pub EffectsHaveTheirKeys : Type 0
EffectsHaveTheirKeys = EachMessage (λ it.
    IsTaken it
    → KeyedBy it.effect it.new.phase)

abbrev pub KeysComeAsOneAsks : Type 0
KeysComeAsOneAsks = EachMessage (λ it. (keys : KeyRecord)
    → keys_in it.new.phase ≡ Some keys
    → IsTaken it
    → (keys_in it.old.phase ≡ Some keys) ⊎ IsAsking it.effect)

abbrev pub WhoAsksHadNoKeys : Type 0
WhoAsksHadNoKeys = EachMessageWith AsksAuth (λ next it.
    IsTaken it
    → keys_in it.old.phase ≡ None)

abbrev pub WhoBeginsAgainHasNoKeys : Type 0
WhoBeginsAgainHasNoKeys = EachMessageWith Again (λ next it.
    IsTaken it
    → keys_in it.new.phase ≡ None)

-- ---- messages_open
abbrev pub RepliesOpen : Type 0
RepliesOpen = EachMessageWith Replied (λ answered it.
    OpensWhatItSeals it.meaning.body_of it.meaning.plain_of it.setup.fresh.seal
    → HoldsWholeKeys it.old.phase
    → IsTaken it
    → OpensAsMessage it.meaning.plain_of it.old it.old.role true it.message.header.id answered.octets)

abbrev pub RequestsOfIdentityOpen : Type 0
RequestsOfIdentityOpen = EachMessageWith AsksAuth (λ next it.
    OpensWhatItSeals it.meaning.body_of it.meaning.plain_of it.setup.fresh.seal
    → HoldsWholeKeys it.new.phase
    → IsTaken it
    → OpensAsMessage it.meaning.plain_of it.new it.new.role false 1 next)

abbrev pub RequestsOpen : Type 0
RequestsOpen = (body_of : Keys → Octets → Octets → Octets → Octets) (plain_of : Opening) (setup : Setup)
    (old : Association) (octets : Octets) (new : Association)
    → OpensWhatItSeals body_of plain_of setup.fresh.seal
    → HoldsWholeKeys old.phase
    → SendsRequest body_of setup old octets new
    → OpensAsMessage plain_of new new.role false old.outgoing.next octets

abbrev pub WhatIsRepliedToOpens : Type 0
WhatIsRepliedToOpens = EachMessageWith Replied (λ answered it.
    Spells it.message it.octets
    → is_meant it.message.header it.old ≡ true
    → IsTaken it
    → OpensAsMessage it.meaning.plain_of it.old (other_role it.old.role) false it.message.header.id it.octets)

abbrev pub WhatIsCountedOpens : Type 0
WhatIsCountedOpens = EachMessageWith Counted (λ ended it.
    Spells it.message it.octets
    → is_meant it.message.header it.old ≡ true
    → IsTaken it
    → OpensAsMessage it.meaning.plain_of it.old (other_role it.old.role) true it.message.header.id it.octets)

-- ---- what_is_sealed_opens
abbrev pub WhatIsSealedOpens : (Keys → Octets → Octets → Octets → Octets) → Opening → Type 0
WhatIsSealedOpens body_of plain_of = (fresh : Octets)
    → AreOctets fresh
    → length fresh ≡ 16
    → OpensWhatItSeals body_of plain_of fresh
