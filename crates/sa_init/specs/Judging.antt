-- What a responder makes of a request (RFC 7296 sections 1.2, 2.5, 2.6 and 2.7).
use Rattle.std.specs.Prelude.{◌≡◌, ◌≢◌, ◌<◌, ◌≤◌, ◌⊎◌, ℕ, Some, None, List, All}
use Rattle.base.specs.Octets.{Octets}
use Rattle.wire.specs.declared.payload.Payload.{Payload}
use Rattle.suite.specs.Choice.{IsAcceptableProposal, IsChosenProposal}
use Rattle.suite.specs.declared.choice.Chosen.{Chosen}
use Rattle.suite.specs.declared.sealer.Cipher.{Cipher}
use Rattle.exchange.specs.Counting.{unknown_critical}
use Rattle.exchange.specs.Notices.{leading_cookie}
use Rattle.exchange.specs.declared.notices.Notice.{Notice}
use Rattle.exchange.specs.declared.notices.Notice.TheVariants.{UnsupportedCriticalPayload, NoProposalChosen, Cookie}
use Rattle.sa_init.specs.Cookies.{new_cookie, CookieSecrets, IsRightCookie}
use Rattle.sa_init.specs.Messages.{ike_wanted}
use Rattle.sa_init.specs.Parts.{HasParts, PartsView}
use Rattle.sa_init.specs.declared.judging.Judgement.{Judgement}
use Rattle.sa_init.specs.declared.judging.Judgement.TheVariants as judged
use Rattle.sa_init.specs.declared.judging.Offer.{Offer}
use Rattle.sa_init.specs.declared.judging.Sender.{Sender}

-- half-open IKE SAs from which on a cookie is asked for
abbrev pub COOKIE_THRESHOLD : ℕ
COOKIE_THRESHOLD = 8

-- half-open IKE SAs from which on no other is begun
abbrev pub HALF_OPEN_LIMIT : ℕ
HALF_OPEN_LIMIT = 32

-- IKE SAs, half open or not, from which on no other is begun
abbrev pub ASSOCIATION_LIMIT : ℕ
ASSOCIATION_LIMIT = 128

-- what a request offers, where it is accepted
pub record OfferView : Type 0 where
  pub chosen : Chosen
  pub public : Octets
  pub nonce : Octets

abbrev pub offer_view : Offer → OfferView
offer_view o = record { chosen = o.chosen; public = o.public.now; nonce = o.nonce.now }

-- a judgement as plain data
pub data JudgementView : Type 0 where
  Answered : Notice → JudgementView
  Incomplete : JudgementView
  Full : JudgementView
  Accepted : OfferView → JudgementView

abbrev pub judgement_view : Judgement → JudgementView
judgement_view (judged.Answered notice) = Answered notice
judgement_view judged.Incomplete = Incomplete
judgement_view judged.Full = Full
judgement_view (judged.Accepted offer) = Accepted (offer_view offer)

-- the first payload is a right cookie for the request's nonce and its sender
pub record BringsRightCookie (secrets : CookieSecrets) (sender : Sender) (payloads : List Payload) (nonce : Octets) : Type 0 where
  pub octets : Octets
  pub leads : leading_cookie payloads ≡ Some octets
  pub right : IsRightCookie secrets nonce sender.address sender.spi_i octets

-- every payload that is critical is known, but the parts of a request are not there once each
pub record IsIncomplete (payloads : List Payload) : Type 0 where
  pub known : unknown_critical payloads ≡ None
  pub missing : (parts : PartsView) → ¬ HasParts payloads parts

-- a whole request
pub record IsWhole (payloads : List Payload) (parts : PartsView) : Type 0 where
  pub known : unknown_critical payloads ≡ None
  pub complete : HasParts payloads parts

-- so many are half open that a cookie is asked for (section 2.6), and the request doesn't bring a right one
pub record WantsCookie (secrets : CookieSecrets) (sender : Sender) (half_open : ℕ) (payloads : List Payload) (octets : Octets) : Type 0 where
  pub parts : PartsView
  pub whole : IsWhole payloads parts
  pub many : COOKIE_THRESHOLD ≤ half_open
  pub unproved : ¬ BringsRightCookie secrets sender payloads parts.nonce
  pub made : octets ≡ new_cookie secrets parts.nonce sender.address sender.spi_i

-- a whole request whose sender brings a right cookie, or needs none
pub record IsHeard (secrets : CookieSecrets) (sender : Sender) (half_open : ℕ) (payloads : List Payload) (parts : PartsView) : Type 0 where
  pub whole : IsWhole payloads parts
  pub reached : (half_open < COOKIE_THRESHOLD) ⊎ BringsRightCookie secrets sender payloads parts.nonce

-- it is heard, but there is no room
pub record IsTurnedAway (secrets : CookieSecrets) (sender : Sender) (half_open held : ℕ) (payloads : List Payload) : Type 0 where
  pub parts : PartsView
  pub heard : IsHeard secrets sender half_open payloads parts
  pub full : (HALF_OPEN_LIMIT ≤ half_open) ⊎ (ASSOCIATION_LIMIT ≤ held)

-- it is heard, and there is room
pub record IsConsidered (secrets : CookieSecrets) (sender : Sender) (half_open held : ℕ) (payloads : List Payload) (parts : PartsView) : Type 0 where
  pub heard : IsHeard secrets sender half_open payloads parts
  pub opening : half_open < HALF_OPEN_LIMIT
  pub holding : held < ASSOCIATION_LIMIT

-- no proposal is acceptable (section 2.7), or the key exchange is of another group (section 1.2)
abbrev pub IsUnsuited : Cipher → ℕ → PartsView → Type 0
IsUnsuited cipher group parts =
    (parts.group ≢ group) ⊎ All (λ proposal. ¬ IsAcceptableProposal (ike_wanted cipher group) proposal) parts.proposals

-- the group is this end's, and the proposal is chosen
pub record IsSuited (cipher : Cipher) (group : ℕ) (parts : PartsView) (chosen : Chosen) : Type 0 where
  pub same_group : parts.group ≡ group
  pub choice : IsChosenProposal (ike_wanted cipher group) parts.proposals chosen

pub record IsDeclined (cipher : Cipher) (group : ℕ) (secrets : CookieSecrets) (sender : Sender) (half_open held : ℕ) (payloads : List Payload) : Type 0 where
  pub parts : PartsView
  pub considered : IsConsidered secrets sender half_open held payloads parts
  pub unsuited : IsUnsuited cipher group parts

pub record IsAccepted (cipher : Cipher) (group : ℕ) (secrets : CookieSecrets) (sender : Sender) (half_open held : ℕ) (payloads : List Payload) (offer : OfferView) : Type 0 where
  pub parts : PartsView
  pub considered : IsConsidered secrets sender half_open held payloads parts
  pub suited : IsSuited cipher group parts offer.chosen
  pub value : offer.public ≡ parts.public
  pub ni : offer.nonce ≡ parts.nonce

-- Each judgement and when it is given: a critical payload is looked at first (section 2.5), then whether
-- the request is whole, then the cookie, then the room, and at last what is offered.
abbrev pub IsJudgement : Cipher → ℕ → CookieSecrets → Sender → ℕ → ℕ → List Payload → JudgementView → Type 0
IsJudgement cipher group secrets sender half_open held payloads (Answered (UnsupportedCriticalPayload kind)) = unknown_critical payloads ≡ Some kind
IsJudgement cipher group secrets sender half_open held payloads (Answered (Cookie octets)) = WantsCookie secrets sender half_open payloads octets
IsJudgement cipher group secrets sender half_open held payloads (Answered NoProposalChosen) = IsDeclined cipher group secrets sender half_open held payloads
IsJudgement cipher group secrets sender half_open held payloads (Answered notice) = ⊥
IsJudgement cipher group secrets sender half_open held payloads Incomplete = IsIncomplete payloads
IsJudgement cipher group secrets sender half_open held payloads Full = IsTurnedAway secrets sender half_open held payloads
IsJudgement cipher group secrets sender half_open held payloads (Accepted offer) = IsAccepted cipher group secrets sender half_open held payloads offer
