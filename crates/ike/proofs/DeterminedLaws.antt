-- What the laws of lower crates say is determined.
use Rattle.std.proofs.Common.{◌≡◌, ℕ, List, Option, map}
use Rattle.base.specs.declared.selector.Selector.{Selector}
use Rattle.create_child.specs.Asking.{AsksForFurther}
use Rattle.base.specs.Octets.{AreOctets, Octets}
use Rattle.wire.specs.Messages.{Spells, SpellsPlainly}
use Rattle.wire.specs.Refusals.{IsFaultOf}
use Rattle.wire.specs.declared.fault.WireFault.{WireFault}
use Rattle.wire.specs.declared.message.Message.{Message}
use Rattle.wire.specs.declared.payload.Payload.{Payload}
use Rattle.suite.specs.declared.fresh.Fresh.{Fresh}
use Rattle.suite.specs.declared.sealer.Cipher.{Cipher}
use Rattle.sadb.specs.Contents.{table_content}
use Rattle.sadb.specs.Database.{Database, IsAsBefore, Reserves}
use Rattle.sa_init.specs.Cookies.{CookieSecrets}
use Rattle.sa_init.specs.Judging.{IsJudgement, JudgementView, OfferView}
use Rattle.sa_init.specs.declared.judging.Sender.{Sender}
use Rattle.association.specs.Contents.{association_content}
use Rattle.association.specs.AskedChildren.{AskedChildView}
use Rattle.association.specs.declared.phase.Association.{Association}
use Rattle.association.specs.Admitting.{Admits}
use Rattle.initial.specs.Beginning.{begun, Begins}
use Rattle.setup.specs.Configs.{Setup}
use Rattle.effects.specs.Lengths.{HoldsWholeKeys, TellsLengths}
use Rattle.informational.specs.Asking.{Asks}
use Rattle.moments.specs.Ticking.{Ticks}
use Rattle.moments.specs.declared.ticking.Ticked.{Ticked}
use Rattle.suite.specs.declared.keys.Keys.{Keys}
use Rattle.effects.specs.Taking.{Meaning, TakesMessage}
use Rattle.association.specs.declared.admitting.Admitted.{Admitted}
use Rattle.initial.specs.declared.beginning.Beginning.{Beginning}
use Rattle.informational.specs.declared.ordering.Order.{Order}
use Rattle.effects.specs.declared.taking.Effect.{Effect}

-- of datagrams and messages
pub record MessageLaws : Type 0 where
  pub message : (m n : Message) (b : Octets) → Spells m b → Spells n b → m ≡ n
  pub fault : (b : Octets) (f g : WireFault) → AreOctets b → IsFaultOf b f → IsFaultOf b g → f ≡ g
  pub faultless : (m : Message) (b : Octets) (f : WireFault) → Spells m b → ¬ IsFaultOf b f
  pub spelling : (m : Message) (a b : Octets) → SpellsPlainly m a → SpellsPlainly m b → a ≡ b

-- of requests of IKE_SA_INIT
abbrev pub OneJudgement : Type 0
OneJudgement =
    (cipher : Cipher) (group : ℕ) (secrets : CookieSecrets) (sender : Sender) (half_open held : ℕ) (payloads : List Payload) (one other : JudgementView)
    → IsJudgement cipher group secrets sender half_open held payloads one → IsJudgement cipher group secrets sender half_open held payloads other → one ≡ other

-- of IKE SAs as they begin, and of what messages do to them
pub record AssociationLaws : Type 0 where
  pub begun : (cipher : Cipher) (group : ℕ) (public_value : Octets → Octets) (fresh : Fresh) (moment serial : ℕ) (child : AskedChildView) (a b : Beginning)
      → Begins cipher group public_value fresh moment a → Begins cipher group public_value fresh moment b
      → (a.octets ≡ b.octets) × (association_content (begun serial a child) ≡ association_content (begun serial b child))
  pub admitted : (cipher : Cipher) (group : ℕ) (public_value : Octets → Octets) (shared_secret : Octets → Octets → Option Octets) (fresh : Fresh) (moment serial : ℕ) (offer : OfferView) (spi_i : ℕ) (request : Octets) (a b : Admitted)
      → Admits cipher group public_value shared_secret fresh moment serial offer spi_i request a → Admits cipher group public_value shared_secret fresh moment serial offer spi_i request b → a ≡ b
  pub effect : (meaning : Meaning) (setup : Setup) (old other a b : Association) (table another a_table b_table : Database) (octets : Octets) (m : Message) (one two : Effect)
      → TellsLengths meaning.body_of setup.fresh.seal → HoldsWholeKeys old.phase → association_content old ≡ association_content other → table_content table ≡ table_content another
      → TakesMessage meaning setup old table octets m one a a_table → TakesMessage meaning setup other another octets m two b b_table
      → (one ≡ two) × (association_content a ≡ association_content b) × (table_content a_table ≡ table_content b_table)

-- of tables
pub record TableLaws : Type 0 where
  pub prepared : (old new : Database) → IsAsBefore old new → table_content new ≡ table_content old
  pub reserved : (old other a b : Database) (spi mark : ℕ) → table_content old ≡ table_content other → Reserves old spi a → Reserves other mark b → (spi ≡ mark) × (table_content a ≡ table_content b)

-- of commands that ask the peer something, and of ticks
pub record OrderLaws : Type 0 where
  pub probe : (body_of : Keys → Octets → Octets → Octets → Octets) (setup : Setup) (order : Order) (old other a b : Association) (one two : Octets)
      → TellsLengths body_of setup.fresh.seal → HoldsWholeKeys old.phase → association_content old ≡ association_content other
      → Asks body_of setup order old one a → Asks body_of setup order other two b → (one ≡ two) × (association_content a ≡ association_content b)
  pub further : (body_of : Keys → Octets → Octets → Octets → Octets) (setup : Setup) (local remote : Selector) (old other a b : Association) (table another a_table b_table : Database) (one two : Octets)
      → TellsLengths body_of setup.fresh.seal → HoldsWholeKeys old.phase → association_content old ≡ association_content other → table_content table ≡ table_content another
      → AsksForFurther body_of setup local remote old table one a a_table → AsksForFurther body_of setup local remote other another two b b_table
      → (one ≡ two) × (association_content a ≡ association_content b) × (table_content a_table ≡ table_content b_table)
  pub ticks : (now : ℕ) (old other a b : List Association) (table another a_table b_table : Database) (one two : Ticked)
      → map association_content old ≡ map association_content other → table_content table ≡ table_content another
      → Ticks now old table one a a_table → Ticks now other another two b b_table
      → (one ≡ two) × (map association_content a ≡ map association_content b) × (table_content a_table ≡ table_content b_table)

pub record Laws : Type 0 where
  pub orders : OrderLaws
  pub messages : MessageLaws
  pub judgement : OneJudgement
  pub associations : AssociationLaws
  pub tables : TableLaws
