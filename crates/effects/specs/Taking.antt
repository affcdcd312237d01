-- What a message does to its IKE SA (RFC 7296 sections 1.2, 1.3.1, 1.4, 2.1 to 2.4).
use Rattle.std.specs.Prelude.{◌≡◌, ◌==◌, ◌⊎◌, ℕ, Bool, true, false, Option, Some, None}
use Rattle.base.specs.Octets.{Octets}
use Rattle.std.specs.FinMap as map
use Rattle.wire.specs.Numbers.{CREATE_CHILD_SA, IKE_AUTH, INFORMATIONAL}
use Rattle.wire.specs.declared.message.Message.{Message}
use Rattle.suite.specs.declared.keys.Keys.{Keys}
use Rattle.suite.specs.declared.agreement.Agreement as Agreement
use Rattle.suite.specs.declared.proof.Proof as Proof
use Rattle.suite.specs.declared.sealer.Sealer as Sealer
use Rattle.suite.specs.declared.sealer.Cipher.{Cipher}
use Rattle.exchange.specs.declared.sealed.Plain.{Plain}
use Rattle.sadb.specs.Database.{Database, IsTableRefusal}
use Rattle.sadb.specs.declared.fault.TableFault.TheVariants as table
use Rattle.children.specs.declared.fault.MemoryFault.{MemoryFault}
use Rattle.children.specs.declared.fault.MemoryFault.TheVariants as child
use Rattle.association.specs.Finding.{is_waiting}
use Rattle.association.specs.Purposes.{asks_for_child}
use Rattle.association.specs.Receiving.{Answers, AnswersInitial, IsAnswering, IsEffective, IsReceived, Opening, Reception, Refused, Repeat, TakesEffect}
use Rattle.association.specs.declared.fault.MessageFault.TheVariants.{WrongPhase}
use Rattle.association.specs.declared.outcome.Answered.{Answered}
use Rattle.association.specs.declared.outcome.Ended.{Ended}
use Rattle.association.specs.declared.phase.Association.{Association}
use Rattle.association.specs.declared.phase.Phase.{Phase}
use Rattle.association.specs.declared.phase.Phase.TheVariants as phase
use Rattle.association.specs.declared.phase.Request.{Request}
use Rattle.auth.specs.Proofs.{Accepts}
use Rattle.initial.specs.Answering.{AnswersAuth, IsHalfOpen, Prover}
use Rattle.setup.specs.Configs.{Setup}
use Rattle.initial.specs.Ending.{EndsAuth, IsAuthSent}
use Rattle.initial.specs.Reading.{Asker, IsInitSent, IsUnfitAtOnce, ReadsResponse}
use Rattle.informational.specs.Answering.{AnswersInformational}
use Rattle.informational.specs.Counting.{CountsInformational}
use Rattle.association.specs.Phases.{IsEstablished}
use Rattle.create_child.specs.Answering.{AnswersFurther}
use Rattle.create_child.specs.Counting.{CountsFurther}
use Rattle.initial.specs.declared.reading.Continued.{Continued}
use Rattle.initial.specs.declared.reading.Continued.TheVariants as continued
use Rattle.effects.specs.declared.taking.Effect.{Effect}
use Rattle.effects.specs.declared.taking.Effect.TheVariants as effect

-- what a crypto provider means by its traits: functions from octets to octets
pub record Meaning : Type 0 where
  pub cipher : Cipher
  pub body_of : Keys → Octets → Octets → Octets → Octets
  pub plain_of : Opening
  pub group : ℕ
  pub public_value : Octets → Octets
  pub shared_secret : Octets → Octets → Option Octets
  pub own_method : ℕ
  pub proof_of : Octets → Octets
  pub accepts : Accepts

-- what a provider of this type and value means by them
abbrev pub meaning_of : {C : Type 0} → Sealer.Ghosts C → Agreement.Ghosts C → Proof.Ghosts C → C → Meaning
meaning_of sealer agreement proof caller = record {
  cipher = sealer.cipher;
  body_of = sealer.body_of;
  plain_of = sealer.plain_of;
  group = agreement.group_number;
  public_value = agreement.public_value;
  shared_secret = agreement.shared_secret;
  own_method = proof.own_method caller;
  proof_of = proof.proof_of caller;
  accepts = proof.accepts caller;
}

abbrev pub prover_of : Meaning → Prover
prover_of m = record { body_of = m.body_of; own_method = m.own_method; proof_of = m.proof_of; accepts = m.accepts }

abbrev pub asker_of : Meaning → Asker
asker_of m = record {
  cipher = m.cipher;
  body_of = m.body_of;
  group = m.group;
  public_value = m.public_value;
  shared_secret = m.shared_secret;
  own_method = m.own_method;
  proof_of = m.proof_of;
}

-- IKE SA and table are as they were
pub record IsPassedOver (old : Association) (table : Database) (new : Association) (new_table : Database) : Type 0 where
  pub association : new ≡ old
  pub pairs : new_table ≡ table

-- this end waits for the request of IKE_AUTH, or for the response to it
abbrev pub AwaitsAuth : Bool → Phase → Type 0
AwaitsAuth false p = IsHalfOpen p
AwaitsAuth true p = IsAuthSent p

-- IKE_AUTH where it is waited for: it makes a first Child SA
pub record IsForFirst (p : Phase) (response : Bool) (exchange : ℕ) : Type 0 where
  pub awaited : AwaitsAuth response p
  pub exchange_is : exchange ≡ IKE_AUTH

-- CREATE_CHILD_SA at an established IKE SA: it makes an additional Child SA
pub record IsForFurther (p : Phase) (exchange : ℕ) : Type 0 where
  pub established : IsEstablished p
  pub exchange_is : exchange ≡ CREATE_CHILD_SA

abbrev pub IsForChild : Phase → Bool → ℕ → Type 0
IsForChild p response exchange = IsForFirst p response exchange ⊎ IsForFurther p exchange

-- What making a Child SA takes memory for: a replay window and selectors, and at the end that answers a place
-- in the table, where that has no spare one and could take more SA pairs. The end that asked reserved its
-- place as it asked.
abbrev pub CanTakeOf : Bool → Database → MemoryFault → Type 0
CanTakeOf response d child.Message = ⊥
CanTakeOf response d child.Window = Unit {0}
CanTakeOf response d child.Narrowing = Unit {0}
CanTakeOf response d child.Table = (response ≡ false) × IsTableRefusal d table.Memory

-- a request that is processed, or a response that is matched
abbrev pub HasItsEffect : Bool → Opening → Association → Octets → Message → Plain → Type 0
HasItsEffect false plain_of a octets m plain = IsEffective plain_of a octets m plain
HasItsEffect true plain_of a octets m plain = IsAnswering plain_of a octets m plain

-- a Child SA may be made of the message: it is processed or matched, and its exchange can make a child
pub record CanMakeChild (plain_of : Opening) (a : Association) (octets : Octets) (m : Message) : Type 0 where
  pub plain : Plain
  pub counts : HasItsEffect m.header.flags.response plain_of a octets m plain
  pub kind : IsForChild a.phase m.header.flags.response m.header.exchange

-- what there may be no memory for: the message, and what a Child SA takes where one may be made of it
abbrev pub CanWant : Opening → Association → Database → Octets → Message → MemoryFault → Type 0
CanWant plain_of a d octets m f = (f ≡ child.Message) ⊎ (CanMakeChild plain_of a octets m × CanTakeOf m.header.flags.response d f)

-- the same, by the phase and the exchange alone; only private contracts cite this
abbrev pub CanWantIn : Phase → Bool → ℕ → Database → MemoryFault → Type 0
CanWantIn p response exchange d f = (f ≡ child.Message) ⊎ (IsForChild p response exchange × CanTakeOf response d f)

-- this end waits for the response to IKE_SA_INIT, and the message is none that fits, by what it says
pub record IsUnfitInitial (cipher : Cipher) (group : ℕ) (a : Association) (m : Message) : Type 0 where
  pub waiting : is_waiting a.phase ≡ true
  pub unfit : IsUnfitAtOnce cipher group a m

-- What a request of these payloads does at an established IKE SA: that of INFORMATIONAL, or else of
-- CREATE_CHILD_SA, since no other belongs there.
abbrev pub DoesAtEstablished : Bool → Meaning → Setup → Association → Database → ℕ → Plain → Effect → Association → Database → Type 0
DoesAtEstablished true meaning setup old table number plain (effect.Replied answered) new new_table =
    AnswersInformational meaning.body_of setup old table number plain answered new new_table
DoesAtEstablished true meaning setup old table number plain e new new_table = ⊥
DoesAtEstablished false meaning setup old table number plain (effect.Replied answered) new new_table =
    AnswersFurther meaning.body_of setup old table number plain answered new new_table
DoesAtEstablished false meaning setup old table number plain e new new_table = ⊥

-- what a request of this exchange and these payloads does: IKE_AUTH to a half-open IKE SA, and others to an
-- established one
abbrev pub DoesRequest : Meaning → Setup → Phase → ℕ → Association → Database → ℕ → Plain → Effect → Association → Database → Type 0
DoesRequest meaning setup (phase.HalfOpen opened) exchange old table number plain (effect.Replied answered) new new_table =
    AnswersAuth (prover_of meaning) setup old table number plain answered new new_table
DoesRequest meaning setup (phase.HalfOpen opened) exchange old table number plain e new new_table = ⊥
DoesRequest meaning setup (phase.Established keys) exchange old table number plain e new new_table =
    DoesAtEstablished (exchange == INFORMATIONAL) meaning setup old table number plain e new new_table
DoesRequest meaning setup p exchange old table number plain (effect.Refused fault) new new_table = (fault ≡ WrongPhase) × IsPassedOver old table new new_table
DoesRequest meaning setup p exchange old table number plain e new new_table = ⊥

-- whether the outstanding request with this Message ID asked for an additional Child SA
abbrev pub has_asked : Option Request → Bool
has_asked None = false
has_asked (Some request) = asks_for_child request.purpose

abbrev pub asked_further : Association → ℕ → Bool
asked_further a number = has_asked (map.get a.outgoing.outstanding number)

-- what a response of these payloads does at an established IKE SA, by whether its request asked for an
-- additional Child SA
abbrev pub DoesAnswer : Bool → Setup → Association → Database → ℕ → Plain → Effect → Association → Database → Type 0
DoesAnswer true setup old table number plain (effect.Counted ended) new new_table = CountsFurther setup old table number plain ended new new_table
DoesAnswer true setup old table number plain e new new_table = ⊥
DoesAnswer false setup old table number plain (effect.Counted ended) new new_table = CountsInformational setup old table number plain ended new new_table
DoesAnswer false setup old table number plain e new new_table = ⊥

-- what a response of these payloads does: that to IKE_AUTH, and others at an established IKE SA
abbrev pub DoesResponse : Meaning → Setup → Phase → Association → Database → ℕ → Plain → Effect → Association → Database → Type 0
DoesResponse meaning setup (phase.AuthSent sent) old table number plain (effect.Counted ended) new new_table =
    EndsAuth meaning.accepts setup old table number plain ended new new_table
DoesResponse meaning setup (phase.AuthSent sent) old table number plain e new new_table = ⊥
DoesResponse meaning setup (phase.Established keys) old table number plain e new new_table =
    DoesAnswer (asked_further old number) setup old table number plain e new new_table
DoesResponse meaning setup p old table number plain (effect.Refused fault) new new_table = (fault ≡ WrongPhase) × IsPassedOver old table new new_table
DoesResponse meaning setup p old table number plain e new new_table = ⊥

-- What comes of a request by its answer, and of a response by how it is matched. There is neither in a
-- phase to which the exchange doesn't belong, and no match where no request is outstanding. Only private
-- contracts cite these.
abbrev pub replied_by : Option Answered → Effect
replied_by None = effect.Refused WrongPhase
replied_by (Some answered) = effect.Replied answered

abbrev pub counted_by : Option Ended → Effect
counted_by None = effect.Refused WrongPhase
counted_by (Some ended) = effect.Counted ended

-- what the response to IKE_SA_INIT does, by how the exchange continues
abbrev pub Says : Effect → Continued → Type 0
Says (effect.Again octets) (continued.Again next) = octets ≡ next
Says (effect.AsksAuth octets) (continued.AsksAuth next) = octets ≡ next
Says (effect.Refused fault) continued.Unfit = fault ≡ WrongPhase
Says e c = ⊥

-- what the response to IKE_SA_INIT does
pub record DoesInitial (meaning : Meaning) (setup : Setup) (old : Association) (octets : Octets) (m : Message) (e : Effect) (new : Association) : Type 0 where
  pub continued : Continued
  pub read : ReadsResponse (asker_of meaning) setup old m.header.id octets m continued new
  pub said : Says e continued

abbrev pub Does : Meaning → Setup → Association → Database → Octets → Message → Reception → Effect → Association → Database → Type 0
Does meaning setup old table octets m (Refused fault) (effect.Refused said) new new_table = (said ≡ fault) × IsPassedOver old table new new_table
Does meaning setup old table octets m (Repeat reply) (effect.Repeated said) new new_table = (said ≡ reply) × IsPassedOver old table new new_table
Does meaning setup old table octets m (TakesEffect plain) e new new_table = DoesRequest meaning setup old.phase m.header.exchange old table m.header.id plain e new new_table
Does meaning setup old table octets m (Answers plain) e new new_table = DoesResponse meaning setup old.phase old table m.header.id plain e new new_table
Does meaning setup old table octets m AnswersInitial e new new_table = DoesInitial meaning setup old octets m e new × (new_table ≡ table)
Does meaning setup old table octets m reception e new new_table = ⊥

-- The message is received as what it is, and does what that does.
pub record TakesMessage (meaning : Meaning) (setup : Setup) (old : Association) (table : Database) (octets : Octets) (m : Message) (e : Effect) (new : Association) (new_table : Database) : Type 0 where
  pub reception : Reception
  pub received : IsReceived meaning.plain_of old octets m reception
  pub done : Does meaning setup old table octets m reception e new new_table

-- A message leaves an IKE SA its serial, its role and its SPIs, but that an initiator learns the
-- responder's from the response to IKE_SA_INIT. None goes back to a phase in which an IKE SA begins. One
-- that waits for the response to IKE_AUTH waited for that one or for the response to IKE_SA_INIT before.
pub record KeepsIdentity (old new : Association) : Type 0 where
  pub serial : new.serial ≡ old.serial
  pub role : new.role ≡ old.role
  pub spi_i : new.spi_i ≡ old.spi_i
  pub spi_r : (new.spi_r ≡ old.spi_r) ⊎ IsInitSent old.phase
  pub waiting : IsInitSent new.phase → IsInitSent old.phase
  pub asking : IsAuthSent new.phase → IsInitSent old.phase ⊎ IsAuthSent old.phase
  pub half_open : IsHalfOpen new.phase → IsHalfOpen old.phase
