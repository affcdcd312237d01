-- What a datagram does (RFC 7296 sections 1.2, 2.1, 2.6 and 3.1).
use Rattle.std.specs.Prelude.{◌≡◌, ◌==◌, ◌&&◌, ◌<◌, ◌+◌, ◌++◌, ◌∷◌, ◌⊎◌, ℕ, Bool, true, false, not, Option, Some, None, List, [], Result, Ok, Err, length, nat_eq, slice_get, slice_set}
use Rattle.std.specs.Cmp.Lexicographic.{pointwise}
use Rattle.std.specs.List.{position}
use Rattle.base.specs.Octets.{Octets}
use Rattle.wire.specs.Messages.{Spells, SpellsPlainly}
use Rattle.wire.specs.Refusals.{IsFaultOf}
use Rattle.wire.specs.Numbers.{IKE_SA_INIT}
use Rattle.wire.specs.declared.fault.WireFault.{WireFault}
use Rattle.wire.specs.declared.message.Header.{Header}
use Rattle.wire.specs.declared.message.Message.{Message}
use Rattle.exchange.specs.declared.notices.Notice.{Notice}
use Rattle.sadb.specs.Database.{Database}
use Rattle.sa_init.specs.Cookies.{CookieSecrets}
use Rattle.sa_init.specs.Judging.{Accepted, Answered, Full, Incomplete, IsJudgement, JudgementView, OfferView}
use Rattle.sa_init.specs.Messages.{notice_message}
use Rattle.sa_init.specs.declared.judging.Sender.{Sender}
use Rattle.children.specs.declared.fault.MemoryFault.{MemoryFault}
use Rattle.children.specs.declared.fault.MemoryFault.TheVariants as child
use Rattle.association.specs.Finding.{place_meant}
use Rattle.association.specs.Receiving.{Opening}
use Rattle.association.specs.declared.fault.MessageFault.{MessageFault}
use Rattle.association.specs.declared.fault.MessageFault.TheVariants.{WrongPhase}
use Rattle.association.specs.declared.phase.Association.{Association}
use Rattle.association.specs.declared.phase.Phase.{Phase}
use Rattle.association.specs.declared.phase.Phase.TheVariants.{HalfOpen}
use Rattle.association.specs.Admitting.{Admits}
use Rattle.setup.specs.Configs.{Setup}
use Rattle.effects.specs.Keeping.{kept_reply}
use Rattle.effects.specs.Taking.{CanMakeChild, CanTakeOf, Meaning, TakesMessage}
use Rattle.association.specs.declared.admitting.Admitted.{Admitted}
use Rattle.effects.specs.declared.taking.Effect.{Effect}
use Rattle.ike.specs.Machines.{half_open_count, is_bad_spi, Held, SERIAL_END}
use Rattle.ike.specs.Outputs.{half_open_step, passed_over, plain_step, stepped_of}
use Rattle.ike.specs.declared.fault.IkeFault.{IkeFault}
use Rattle.ike.specs.declared.fault.IkeFault.TheVariants as fault
use Rattle.ike.specs.declared.output.IkeOutput.TheVariants.{Reply, Repeat}
use Rattle.ike.specs.declared.output.Stepped.{Stepped}

-- what came is dropped, for this reason
pub record PassesOver (reason : IkeFault) (old : Held) (stepped : Stepped) (new : Held) : Type 0 where
  pub said : stepped ≡ passed_over reason
  pub unchanged : new ≡ old

-- A request of IKE_SA_INIT is known by the responder's SPI of zero, the flag R and the exchange alone.
abbrev pub is_initial_request : Header → Bool
is_initial_request h = h.spi_r == 0 && not h.flags.response && h.exchange == IKE_SA_INIT

-- it comes from the original initiator, has the number 0, and names an SPI (sections 2.2 and 3.1)
abbrev pub is_sound_initial : Header → Bool
is_sound_initial h = h.flags.initiator && h.id == 0 && not (h.spi_i == 0)

abbrev pub same_octets : Octets → Octets → Bool
same_octets = pointwise nat_eq

abbrev pub is_answered_phase : Octets → Phase → Bool
is_answered_phase octets (HalfOpen opened) = same_octets opened.request octets
is_answered_phase octets _ = false

-- the octets are those of the request that made this half-open IKE SA
abbrev pub is_answered : Octets → Association → Bool
is_answered octets a = is_answered_phase octets a.phase

-- the cached response of the IKE SA at this place is sent again
pub record Repeats (place : ℕ) (associations : List Association) (stepped : Stepped) : Type 0 where
  pub association : Association
  pub there : slice_get associations place ≡ Some association
  pub reply : Octets
  pub kept : kept_reply association.phase ≡ Some reply
  pub said : stepped ≡ plain_step (Repeat reply)

-- a notification answers the request
pub record SaysNotice (spi_i : ℕ) (notice : Notice) (stepped : Stepped) : Type 0 where
  pub octets : Octets
  pub spelled : SpellsPlainly (notice_message spi_i notice) octets
  pub said : stepped ≡ plain_step (Reply octets None)

-- a serial is left, and the fresh SPI can be this end's
pub record CanMake (old : Held) (spi : ℕ) : Type 0 where
  pub serial : old.next < SERIAL_END
  pub usable : is_bad_spi spi old.associations ≡ false

-- with one more IKE SA, under the next serial
abbrev pub with_next : Held → Association → Held
with_next held association = record { next = held.next + 1; associations = held.associations ++ association ∷ [] }

-- an IKE SA is half open from then on
pub record AdmitsNext (meaning : Meaning) (setup : Setup) (offer : OfferView) (spi_i : ℕ) (octets : Octets) (old : Held) (stepped : Stepped) (new : Held) : Type 0 where
  pub admitted : Admitted
  pub admits : Admits meaning.cipher meaning.group meaning.public_value meaning.shared_secret setup.fresh setup.moment old.next offer spi_i octets admitted
  pub said : stepped ≡ half_open_step old.next admitted.octets
  pub content : new ≡ with_next old admitted.association

-- an accepted offer makes an IKE SA, unless the agreement refuses the public value (section 2.14)
pub record TakesOffer (meaning : Meaning) (setup : Setup) (offer : OfferView) (spi_i : ℕ) (octets : Octets) (old : Held) (stepped : Stepped) (new : Held) : Type 0 where
  pub can : CanMake old setup.fresh.spi
  pub done :
      ((meaning.shared_secret setup.fresh.secret offer.public ≡ None) × PassesOver (fault.Message WrongPhase) old stepped new)
      ⊎ AdmitsNext meaning setup offer spi_i octets old stepped new

abbrev pub sender_of : Octets → Header → Sender
sender_of from h = record { address = from; spi_i = h.spi_i }

abbrev pub IsJudged : Meaning → CookieSecrets → Held → Octets → Message → JudgementView → Type 0
IsJudged meaning cookies held from m judgement =
    IsJudgement meaning.cipher meaning.group cookies (sender_of from m.header) (half_open_count held.associations) (length held.associations) m.payloads judgement

abbrev pub DoesJudgement : Meaning → Setup → ℕ → Octets → JudgementView → Held → Stepped → Held → Type 0
DoesJudgement meaning setup spi_i octets (Answered notice) old stepped new = SaysNotice spi_i notice stepped × (new ≡ old)
DoesJudgement meaning setup spi_i octets Incomplete old stepped new = PassesOver (fault.Message WrongPhase) old stepped new
DoesJudgement meaning setup spi_i octets Full old stepped new = PassesOver fault.HalfOpenFull old stepped new
DoesJudgement meaning setup spi_i octets (Accepted offer) old stepped new = TakesOffer meaning setup offer spi_i octets old stepped new

-- a request that made no IKE SA which is still half open
pub record TakesNew (meaning : Meaning) (setup : Setup) (cookies : CookieSecrets) (from octets : Octets) (m : Message) (old : Held) (stepped : Stepped) (new : Held) : Type 0 where
  pub judgement : JudgementView
  pub judged : IsJudged meaning cookies old from m judgement
  pub done : DoesJudgement meaning setup m.header.spi_i octets judgement old stepped new

-- by the place of the half-open IKE SA that it made, if it did
abbrev pub TakesRequestAt : Option ℕ → Meaning → Setup → CookieSecrets → Octets → Octets → Message → Held → Stepped → Held → Type 0
TakesRequestAt (Some place) meaning setup cookies from octets m old stepped new = Repeats place old.associations stepped × (new ≡ old)
TakesRequestAt None meaning setup cookies from octets m old stepped new = TakesNew meaning setup cookies from octets m old stepped new

-- the octets are a request of IKE_SA_INIT with a right header
pub record IsInitialRequest (octets : Octets) : Type 0 where
  pub message : Message
  pub spelled : Spells message octets
  pub initial : is_initial_request message.header ≡ true
  pub sound : is_sound_initial message.header ≡ true

-- by whether its header is right
abbrev pub TakesSound : Bool → Meaning → Setup → CookieSecrets → Octets → Octets → Message → Held → Stepped → Held → Type 0
TakesSound true meaning setup cookies from octets m old stepped new =
    TakesRequestAt (position (is_answered octets) old.associations) meaning setup cookies from octets m old stepped new
TakesSound false meaning setup cookies from octets m old stepped new = PassesOver (fault.Message WrongPhase) old stepped new

-- the IKE SA at this place takes the message, and no other changes
pub record TakesAt (place : ℕ) (meaning : Meaning) (setup : Setup) (octets : Octets) (m : Message) (old : Held) (table : Database) (stepped : Stepped) (new : Held) (new_table : Database) : Type 0 where
  pub association : Association
  pub there : slice_get old.associations place ≡ Some association
  pub effect : Effect
  pub changed : Association
  pub takes : TakesMessage meaning setup association table octets m effect changed new_table
  pub said : stepped ≡ stepped_of association.serial m.header.id effect
  pub content : new ≡ record old { associations = slice_set old.associations place changed }

-- by the IKE SA that is found for it
abbrev pub TakesFound : Result ℕ MessageFault → Meaning → Setup → Octets → Message → Held → Database → Stepped → Held → Database → Type 0
TakesFound (Ok place) meaning setup octets m old table stepped new new_table = TakesAt place meaning setup octets m old table stepped new new_table
TakesFound (Err f) meaning setup octets m old table stepped new new_table = PassesOver (fault.Message f) old stepped new × (new_table ≡ table)

-- by whether it is a request of IKE_SA_INIT
abbrev pub TakesRead : Bool → Meaning → Setup → CookieSecrets → Octets → Octets → Message → Held → Database → Stepped → Held → Database → Type 0
TakesRead true meaning setup cookies from octets m old table stepped new new_table =
    TakesSound (is_sound_initial m.header) meaning setup cookies from octets m old stepped new × (new_table ≡ table)
TakesRead false meaning setup cookies from octets m old table stepped new new_table =
    TakesFound (place_meant m.header old.associations) meaning setup octets m old table stepped new new_table

-- the datagram is a message
pub record ReadsDatagram (meaning : Meaning) (setup : Setup) (cookies : CookieSecrets) (from octets : Octets) (old : Held) (table : Database) (stepped : Stepped) (new : Held) (new_table : Database) : Type 0 where
  pub message : Message
  pub spelled : Spells message octets
  pub done : TakesRead (is_initial_request message.header) meaning setup cookies from octets message old table stepped new new_table

-- or it is none
pub record FailsToRead (octets : Octets) (old : Held) (table : Database) (stepped : Stepped) (new : Held) (new_table : Database) : Type 0 where
  pub reason : WireFault
  pub is : IsFaultOf octets reason
  pub passed : PassesOver (fault.Unread reason) old stepped new
  pub unchanged : new_table ≡ table

abbrev pub TakesDatagram : Meaning → Setup → CookieSecrets → Octets → Octets → Held → Database → Stepped → Held → Database → Type 0
TakesDatagram meaning setup cookies from octets old table stepped new new_table =
    FailsToRead octets old table stepped new new_table ⊎ ReadsDatagram meaning setup cookies from octets old table stepped new new_table

-- An offer is accepted, but no IKE SA can be made of it: no serial is left, or the fresh SPI can't be this
-- end's.
abbrev pub CannotMake : Held → ℕ → IkeFault → Type 0
CannotMake old spi fault.NumbersSpent = old.next ≡ SERIAL_END
CannotMake old spi fault.BadFresh = (old.next < SERIAL_END) × (is_bad_spi spi old.associations ≡ true)
CannotMake old spi (fault.Memory f) = f ≡ child.Message
CannotMake old spi f = ⊥

pub record RefusesOffer (meaning : Meaning) (setup : Setup) (cookies : CookieSecrets) (from : Octets) (m : Message) (old : Held) (reason : IkeFault) : Type 0 where
  pub offer : OfferView
  pub judged : IsJudged meaning cookies old from m (Accepted offer)
  pub why : CannotMake old setup.fresh.spi reason

-- After it is decoded, a request that lacks a part, or for which there is no room, takes no more memory.
abbrev pub CanWantAfter : JudgementView → Type 0
CanWantAfter (Answered notice) = Unit {0}
CanWantAfter Incomplete = ⊥
CanWantAfter Full = ⊥
CanWantAfter (Accepted offer) = Unit {0}

-- there may be no memory for what a request is judged to be
pub record WantsNew (meaning : Meaning) (cookies : CookieSecrets) (from : Octets) (m : Message) (old : Held) : Type 0 where
  pub judgement : JudgementView
  pub judged : IsJudged meaning cookies old from m judgement
  pub wants : CanWantAfter judgement

-- on allocation failure, unless no memory is taken, or as an offer
abbrev pub RefusesNew : Meaning → Setup → CookieSecrets → Octets → Message → Held → IkeFault → Type 0
RefusesNew meaning setup cookies from m old (fault.Memory f) = (f ≡ child.Message) × WantsNew meaning cookies from m old
RefusesNew meaning setup cookies from m old reason = RefusesOffer meaning setup cookies from m old reason

-- the datagram is a request that made no IKE SA which is still half open, with an offer
pub record RefusesInitial (meaning : Meaning) (setup : Setup) (cookies : CookieSecrets) (from octets : Octets) (old : Held) (reason : IkeFault) : Type 0 where
  pub message : Message
  pub spelled : Spells message octets
  pub initial : is_initial_request message.header ≡ true
  pub sound : is_sound_initial message.header ≡ true
  pub first : position (is_answered octets) old.associations ≡ None
  pub refused : RefusesOffer meaning setup cookies from message old reason

-- Memory may be wanted for a message alone: of octets that spell none their own fault is told.
abbrev pub CanWantMemory : Octets → Type 0
CanWantMemory octets = (m : Message) × Spells m octets

-- a Child SA may be made of the message at the IKE SA at this place, and this is what making it may have no
-- memory for
pub record MakesChildAt (plain_of : Opening) (place : ℕ) (octets : Octets) (m : Message) (old : Held) (table : Database) (f : MemoryFault) : Type 0 where
  pub association : Association
  pub there : slice_get old.associations place ≡ Some association
  pub makes : CanMakeChild plain_of association octets m
  pub takes : CanTakeOf m.header.flags.response table f

-- what there may be no memory for, by the IKE SA that is found for the message
abbrev pub WantsFound : Opening → Result ℕ MessageFault → Octets → Message → Held → Database → MemoryFault → Type 0
WantsFound plain_of (Ok place) octets m old table f = (f ≡ child.Message) ⊎ MakesChildAt plain_of place octets m old table f
WantsFound plain_of (Err fault) octets m old table f = ⊥

-- the octets are a message of which an IKE SA may make a Child SA, and this is what that may have no memory
-- for
pub record WantsForChild (plain_of : Opening) (octets : Octets) (old : Held) (table : Database) (f : MemoryFault) : Type 0 where
  pub message : Message
  pub spelled : Spells message octets
  pub not_initial : is_initial_request message.header ≡ false
  pub place : ℕ
  pub finds : place_meant message.header old.associations ≡ Ok place
  pub makes : MakesChildAt plain_of place octets message old table f

-- why a datagram is refused: no memory for the message or for a Child SA, or an offer of which no IKE SA can
-- be made
abbrev pub RefusesDatagram : Meaning → Setup → CookieSecrets → Octets → Octets → Held → Database → IkeFault → Type 0
RefusesDatagram meaning setup cookies from octets old table (fault.Memory f) = CanWantMemory octets × ((f ≡ child.Message) ⊎ WantsForChild meaning.plain_of octets old table f)
RefusesDatagram meaning setup cookies from octets old table reason = RefusesInitial meaning setup cookies from octets old reason
