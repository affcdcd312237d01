-- That results are determined, and how long the requests are that are kept.
use Rattle.std.specs.Prelude.{◌≡◌, ℕ, Option}
use Rattle.base.specs.Octets.{Octets}
use Rattle.base.specs.declared.selector.Selector.{Selector}
use Rattle.wire.specs.declared.message.Message.{Message}
use Rattle.suite.specs.declared.fresh.Fresh.{Fresh}
use Rattle.suite.specs.declared.keys.Keys.{Keys}
use Rattle.suite.specs.declared.sealer.Cipher.{Cipher}
use Rattle.sadb.specs.Contents.{table_content}
use Rattle.sadb.specs.Database.{Database}
use Rattle.sa_init.specs.Judging.{OfferView}
use Rattle.association.specs.AskedChildren.{AskedChildView}
use Rattle.association.specs.Contents.{association_content}
use Rattle.association.specs.declared.phase.Association.{Association}
use Rattle.association.specs.Admitting.{Admits}
use Rattle.initial.specs.Beginning.{begun, Begins}
use Rattle.setup.specs.Configs.{Setup}
use Rattle.association.specs.declared.admitting.Admitted.{Admitted}
use Rattle.initial.specs.declared.beginning.Beginning.{Beginning}
use Rattle.informational.specs.Asking.{Asks}
use Rattle.informational.specs.declared.ordering.Order.{Order}
use Rattle.create_child.specs.Asking.{AsksForFurther}
use Rattle.effects.specs.Keeping.{IsShort, KeepsShort}
use Rattle.effects.specs.LawCases.{EachRequest, IsSent}
use Rattle.effects.specs.Lengths.{HoldsWholeKeys, TellsLengths}
use Rattle.effects.specs.Taking.{Meaning, TakesMessage}
use Rattle.effects.specs.declared.taking.Effect.{Effect}

-- ---- beginnings_are_determined
abbrev pub BeginningsAreDetermined : Type 0
BeginningsAreDetermined = (cipher : Cipher) (group : ℕ) (public_value : Octets → Octets) (fresh : Fresh)
    (moment serial : ℕ) (child : AskedChildView) (a b : Beginning)
    → Begins cipher group public_value fresh moment a
    → Begins cipher group public_value fresh moment b
    → (a.octets ≡ b.octets)
    × (association_content (begun serial a child) ≡ association_content (begun serial b child))

abbrev pub AdmissionsAreDetermined : Type 0
AdmissionsAreDetermined = (cipher : Cipher) (group : ℕ) (public_value : Octets → Octets)
    (shared_secret : Octets → Octets → Option Octets) (fresh : Fresh) (moment serial : ℕ) (offer : OfferView)
    (spi_i : ℕ) (request : Octets) (a b : Admitted)
    → Admits cipher group public_value shared_secret fresh moment serial offer spi_i request a
    → Admits cipher group public_value shared_secret fresh moment serial offer spi_i request b
    → a ≡ b

-- ---- effects_are_determined
abbrev pub EffectsAreDetermined : Type 0
EffectsAreDetermined = (meaning : Meaning) (setup : Setup) (old other a b : Association)
    (table another a_table b_table : Database) (octets : Octets) (m : Message) (one two : Effect)
    → TellsLengths meaning.body_of setup.fresh.seal
    → HoldsWholeKeys old.phase
    → association_content old ≡ association_content other
    → table_content table ≡ table_content another
    → TakesMessage meaning setup old table octets m one a a_table
    → TakesMessage meaning setup other another octets m two b b_table
    → (one ≡ two) × (association_content a ≡ association_content b)
    × (table_content a_table ≡ table_content b_table)

-- ---- orders_are_short_and_determined
abbrev pub RequestsAreShort : Type 0
RequestsAreShort = EachRequest (λ it.
    KeepsShort it.old
    → IsSent it
    → KeepsShort it.new × IsShort it.octets)

abbrev pub OrdersAreDetermined : Type 0
OrdersAreDetermined = (body_of : Keys → Octets → Octets → Octets → Octets) (setup : Setup) (order : Order)
    (old other a b : Association) (one two : Octets)
    → TellsLengths body_of setup.fresh.seal
    → HoldsWholeKeys old.phase
    → association_content old ≡ association_content other
    → Asks body_of setup order old one a
    → Asks body_of setup order other two b
    → (one ≡ two) × (association_content a ≡ association_content b)

abbrev pub FurtherOrdersAreDetermined : Type 0
FurtherOrdersAreDetermined = (body_of : Keys → Octets → Octets → Octets → Octets) (setup : Setup)
    (local remote : Selector) (old other a b : Association) (table another a_table b_table : Database)
    (one two : Octets)
    → TellsLengths body_of setup.fresh.seal
    → HoldsWholeKeys old.phase
    → association_content old ≡ association_content other
    → table_content table ≡ table_content another
    → AsksForFurther body_of setup local remote old table one a a_table
    → AsksForFurther body_of setup local remote other another two b b_table
    → (one ≡ two) × (association_content a ≡ association_content b)
    × (table_content a_table ≡ table_content b_table)
