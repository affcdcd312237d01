-- What becomes of an IKE SA with keys, as moves: events of its Message IDs, without payloads.
use Rattle.std.specs.FinMap as map
use Rattle.std.specs.Prelude.{◌==◌, ◌∷◌, ◌≡◌, ◌≤◌, [], false, length, true, ℕ, None, Option, Some}
use Rattle.wire.specs.Numbers.{IKE_SA_INIT}
use Rattle.suite.specs.declared.key_record.KeyRecord.{KeyRecord}
use Rattle.association.specs.Phases.{keys_in}
use Rattle.association.specs.Purposes.{exchange_of}
use Rattle.association.specs.declared.phase.Association.{Association}
use Rattle.association.specs.declared.phase.Request.{Request}
use Rattle.setup.specs.Configs.{IsConfig}
use Rattle.moments.specs.Due.{is_over, SendsAgain}
use Rattle.moments.specs.Held.{IsClosedAt}
use Rattle.effects.specs.LawCases.{begun_by, EachAdmission, EachBeginning, EachMessage, EachMessageWith, EachRequest, IsAdmission, IsBegun, IsSent, IsTaken}
use Rattle.effects.specs.Moves.{ledger, moves_of, Close, Issue, KeepsReply, Lead, Make, Remove, WaitsWith}
use Rattle.effects.specs.Requests.{IsSoundlyHeld}
use Rattle.effects.specs.declared.taking.Effect.{Effect}
use Rattle.effects.specs.declared.taking.Effect.TheVariants.{AsksAuth, Repeated}

-- ---- messages_make_moves
abbrev pub MessagesMakeMoves : Type 0
MessagesMakeMoves = EachMessage (λ it.
    IsSoundlyHeld it.old
    → IsConfig it.setup.config
    → IsTaken it
    → Lead (moves_of it.message.header.id (keys_in it.new.phase) it.effect) (ledger it.old) (ledger it.new))

abbrev pub RequestsAreIssued : Type 0
RequestsAreIssued = EachRequest (λ it.
    IsSent it
    → Lead (Issue it.old.outgoing.next it.octets ∷ []) (ledger it.old) (ledger it.new))

abbrev pub AdmissionsMakeKeys : Type 0
AdmissionsMakeKeys = EachAdmission (λ it.
    IsAdmission it
    → (keys : KeyRecord) × Lead (Make keys ∷ []) None (ledger it.admitted.association))

abbrev pub BeginningsHaveNoKeys : Type 0
BeginningsHaveNoKeys = EachBeginning (λ it.
    IsBegun it
    → ledger (begun_by it) ≡ None)

abbrev pub KeysComeByTheInitialResponse : Type 0
KeysComeByTheInitialResponse = EachMessageWith AsksAuth (λ next it.
    IsSoundlyHeld it.old
    → IsTaken it
    → (it.message.header.exchange ≡ IKE_SA_INIT) × (it.message.header.flags.response ≡ true))

abbrev pub SendingAgainIsNoMove : Type 0
SendingAgainIsNoMove = (now : ℕ) (old new : Association)
    → SendsAgain now old new
    → Lead [] (ledger old) (ledger new)

abbrev pub ClosingIsOneMove : Type 0
ClosingIsOneMove = (now : ℕ) (old new : Association) (keys : KeyRecord)
    → IsSoundlyHeld old
    → keys_in old.phase ≡ Some keys
    → IsClosedAt now old new
    → Lead (Close ∷ []) (ledger old) (ledger new)

abbrev pub RemovalIsOneMove : Type 0
RemovalIsOneMove = (now : ℕ) (old : Association) (keys : KeyRecord)
    → IsSoundlyHeld old
    → keys_in old.phase ≡ Some keys
    → is_over now old.phase ≡ true
    → Lead (Remove ∷ []) (ledger old) None

abbrev pub EffectsAreTwoMovesAtMost : Type 0
EffectsAreTwoMovesAtMost = (number : ℕ) (keys : Option KeyRecord) (effect : Effect)
    → length (moves_of number keys effect) ≤ 2

-- ---- what_goes_out_again_is_kept
abbrev pub RepeatedRepliesAreKept : Type 0
RepeatedRepliesAreKept = EachMessageWith Repeated (λ reply it.
    IsTaken it
    → KeepsReply (ledger it.old) it.message.header.id reply)

abbrev pub WaitingRequestsAreKept : Type 0
WaitingRequestsAreKept = (a : Association) (number : ℕ) (request : Request)
    → IsSoundlyHeld a
    → map.get a.outgoing.outstanding number ≡ Some request
    → (exchange_of request.purpose == IKE_SA_INIT) ≡ false
    → WaitsWith (ledger a) number request.octets
