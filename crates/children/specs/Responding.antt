-- What a responder answers (RFC 7296 sections 1.3, 2.7 and 2.9).
use Rattle.std.specs.Prelude.{◌≡◌, ◌+◌, ◌<◌, ◌≤◌, ◌^◌, ◌⊎◌, ℕ, Bool, List, [], ◌∷◌, All}
use Rattle.byteorder.specs.Endian.{big_bytes, big_number}
use Rattle.wire.specs.declared.proposal.Proposal.{Proposal}
use Rattle.suite.specs.Choice.{IsAcceptableProposal, IsChosenProposal}
use Rattle.suite.specs.declared.choice.Chosen.{Chosen}
use Rattle.suite.specs.declared.choice.Wanted.{Wanted}
use Rattle.suite.specs.declared.choice.Wanted.TheVariants.{Esp}
use Rattle.suite.specs.Offers.{answer_of, IsTakenFrom}
use Rattle.exchange.specs.declared.child.ChildPayloads.{ChildPayloads}
use Rattle.exchange.specs.declared.headers.Role.TheVariants.{Responder}
use Rattle.exchange.specs.declared.notices.Notice.{Notice}
use Rattle.exchange.specs.declared.notices.Notice.TheVariants.{UnsupportedCriticalPayload, InvalidSyntax, NoProposalChosen, AuthenticationFailed, NoAdditionalSas, TsUnacceptable, Cookie}
use Rattle.policy.specs.Narrowing.{IsAcceptableOffer, IsNarrowing}
use Rattle.policy.specs.declared.entry.Entry.{Entry}
use Rattle.sadb.specs.Database.{Database, Installs, IsFull, IsReady, IsSpent, Reserves}
use Rattle.sadb.specs.declared.pair.Pair.{Pair}
use Rattle.children.specs.Pairs.{new_pair}
use Rattle.children.specs.Terms.{Terms}
use Rattle.children.specs.declared.responding.Made.{Made}
use Rattle.children.specs.declared.responding.Response.{Response}
use Rattle.children.specs.declared.responding.Response.TheVariants as response
use Rattle.children.specs.declared.setting.Setting.{Setting}

-- no proposal is acceptable to an end that allows extended sequence numbers, or doesn't
abbrev pub OffersNone : Bool → ChildPayloads → Type 0
OffersNone extended offer = All (λ proposal. ¬ IsAcceptableProposal (Esp extended) proposal) offer.proposals

-- one is chosen
pub record OffersSome (extended : Bool) (offer : ChildPayloads) : Type 0 where
  pub chosen : Chosen
  pub choice : IsChosenProposal (Esp extended) offer.proposals chosen

-- some entry of the policy is chosen for the selectors
abbrev pub CanBeNarrowed : List Entry → ChildPayloads → Type 0
CanBeNarrowed entries offer = IsAcceptableOffer entries offer.ts_i offer.ts_r

-- the table has no place for another SA pair, or no SPI
abbrev pub TakesNoMore : Database → Type 0
TakesNoMore table = IsFull table ⊎ IsSpent table

-- the next SPI that a table gives
abbrev pub next_spi : Database → ℕ
next_spi table = table.start + table.given

-- the answer's only proposal, with this end's SPI
abbrev pub answered_proposals : Wanted → Chosen → ℕ → List Proposal
answered_proposals wanted chosen own = answer_of wanted chosen (big_bytes 4 own) ∷ []

-- what the answer says
abbrev pub child_response : Wanted → Chosen → Terms → ChildPayloads
child_response wanted chosen terms = record {
  proposals = answered_proposals wanted chosen terms.spi_r;
  ts_i = terms.ts_i;
  ts_r = terms.ts_r;
}

-- that, and the responder's SA pair
abbrev pub made_of : Setting → Wanted → Chosen → Terms → Made
made_of setting wanted chosen terms = record {
  payloads = child_response wanted chosen terms;
  pair = new_pair Responder setting terms;
}

-- The terms on which a Child SA is made: the peer's SPI is that of the chosen proposal, this end's the next
-- that the table gives, and the selectors are narrowed to the policy.
pub record AreMadeTerms (extended : Bool) (entries : List Entry) (table : Database) (offer : ChildPayloads)
    (chosen : Chosen) (terms : Terms) : Type 0 where
  pub choice : IsChosenProposal (Esp extended) offer.proposals chosen
  pub peer : terms.spi_i ≡ big_number 4 choice.proposal.spi
  pub own : terms.spi_r ≡ next_spi table
  -- the numbers up to 255 are reserved (RFC 4303 section 2.1)
  pub own_least : 256 ≤ terms.spi_r
  pub own_most : terms.spi_r < 2 ^ 32
  pub extension : terms.extended ≡ chosen.extended
  pub narrowed : IsNarrowing entries offer.ts_i offer.ts_r terms.ts_i terms.ts_r
  pub not_full : ¬ IsFull table
  pub not_spent : ¬ IsSpent table

-- What is made of an offer, by an end that allows extended sequence numbers or doesn't: the answer's
-- payloads, and the responder's SA pair.
pub record IsMadeChild (setting : Setting) (extended : Bool) (entries : List Entry) (table : Database)
    (offer : ChildPayloads) (made : Made) : Type 0 where
  pub chosen : Chosen
  pub terms : Terms
  pub due : AreMadeTerms extended entries table offer chosen terms
  pub whole : made ≡ made_of setting (Esp extended) chosen terms

-- why no Child SA is made, each where those before it don't apply
abbrev pub IsChildRefusal : Bool → List Entry → Database → ChildPayloads → Notice → Type 0
IsChildRefusal extended entries table offer NoProposalChosen = OffersNone extended offer
IsChildRefusal extended entries table offer TsUnacceptable =
    OffersSome extended offer × (¬ CanBeNarrowed entries offer)
IsChildRefusal extended entries table offer NoAdditionalSas =
    OffersSome extended offer × CanBeNarrowed entries offer × TakesNoMore table
IsChildRefusal extended entries table offer (UnsupportedCriticalPayload kind) = ⊥
IsChildRefusal extended entries table offer InvalidSyntax = ⊥
IsChildRefusal extended entries table offer AuthenticationFailed = ⊥
IsChildRefusal extended entries table offer (Cookie octets) = ⊥

-- the answer to an offer
abbrev pub IsChildResponse : Setting → Bool → List Entry → Database → ChildPayloads → Response → Type 0
IsChildResponse setting extended entries table offer (response.Made made) =
    IsMadeChild setting extended entries table offer made
IsChildResponse setting extended entries table offer (response.Refused notice) =
    IsChildRefusal extended entries table offer notice

-- the table can take the SA pair: it has room, and gives the pair's inbound SPI next
pub record CanTake (table : Database) (pair : Pair) : Type 0 where
  pub ready : IsReady table
  pub next : pair.inbound.association.spi ≡ next_spi table

-- the table that an answer leaves can take the SA pair that was made
abbrev pub LeavesRoom : Response → Database → Type 0
LeavesRoom (response.Made made) table = CanTake table made.pair
LeavesRoom (response.Refused notice) table = Unit

-- the offer is refused whatever the table holds
abbrev pub IsRefusedAtOnce : Bool → List Entry → ChildPayloads → Type 0
IsRefusedAtOnce extended entries offer = OffersNone extended offer ⊎ (¬ CanBeNarrowed entries offer)

-- there is one proposal, which answers one of those offered
pub record TakesProposal (offered answered : List Proposal) : Type 0 where
  pub place : ℕ
  pub answer : Proposal
  pub lone : answered ≡ answer ∷ []
  pub taken : IsTakenFrom offered place answer

-- the next SPI is given, and the SA pair comes for it
pub record AddsNext (old : Database) (pair : Pair) (serial : ℕ) (new : Database) : Type 0 where
  pub spi : ℕ
  pub between : Database
  pub reserved : Reserves old spi between
  pub installed : Installs between spi pair serial new
