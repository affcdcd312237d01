-- What the records of C spell.
use Rattle.std.specs.Prelude.{◌≡◌, ℕ, Option, None, Some, List, [], ◌∷◌, take, nat_eq, if◌then◌else◌, IfSome}
use Rattle.std.specs.Int.{from_be_bytes, w32, w128}
use Rattle.base.specs.Octets.{Octets}
use Rattle.base.specs.declared.address.Range.{Range}
use Rattle.base.specs.declared.address.Range.TheVariants.{V4, V6}
use Rattle.caller_peer.specs.declared.shared_key.PeerCaller.{PeerCaller}
use Rattle.gateway.specs.States.{new_gateway}
use Rattle.policy.specs.Entries.{IsEntryAtFault, IsSoundPolicy}
use Rattle.policy.specs.declared.entry.Action.{Action}
use Rattle.policy.specs.declared.entry.Action.TheVariants.{Protect, Bypass, Discard}
use Rattle.policy.specs.declared.entry.Entry.{Entry}
use Rattle.sadb.specs.Database.{IsStart}
use Rattle.setup.specs.Configs.{IsConfig}
use Rattle.setup.specs.declared.config.Config.{Config}
use Rattle.setup.specs.declared.config.EndConfig.{EndConfig}
use Rattle.sukperin.specs.Codes.{code_of_refusal}
use Rattle.sukperin.specs.Flags.{is_set}
use Rattle.sukperin.specs.declared.end.End.{End}
use Rattle.sukperin.specs.declared.end.End.TheVariants.{Gateway}
use Rattle.sukperin.specs.declared.hosted.Hosted.{Hosted}
use Rattle.sukperin.specs.declared.hosted.Left.TheVariants.{Nothing as NothingLeft}
use Rattle.sukperin.specs.declared.refusal.Refusal.{Refusal}
use Rattle.sukperin.specs.declared.refusal.Refusal.TheVariants as refusal
use Rattle.sukperin.specs.declared.terms.SukEntry.{SukEntry}
use Rattle.sukperin.specs.declared.terms.SukTerms.{SukTerms}

abbrev pub end_spelled : ℕ → Octets → Octets → EndConfig
end_spelled kind id address = record { identity = record { kind = kind; «data» = id }; address = address }

abbrev pub config_between : SukTerms → EndConfig → EndConfig → Config
config_between terms own peer = record {
  own = own;
  peer = peer;
  extended = is_set terms.extended;
  blocks = terms.blocks;
  cookie_secret = terms.cookie_secret;
  window = terms.window;
}

-- the configuration that the terms spell with both identities
abbrev pub config_spelled : SukTerms → Octets → Octets → Config
config_spelled terms own peer =
    config_between terms
    (end_spelled terms.own_kind own terms.own_address)
    (end_spelled terms.peer_kind peer terms.peer_address)

-- why there is no configuration: memory, or it can't be used
abbrev pub IsConfigRefusal : SukTerms → Octets → Octets → Refusal → Type 0
IsConfigRefusal terms own peer refusal.Memory = Unit {0}
IsConfigRefusal terms own peer refusal.Configuration = ¬ IsConfig (config_spelled terms own peer)
IsConfigRefusal terms own peer _ = ⊥

-- a family, 4 or 6, and two addresses
abbrev pub range_spelled : ℕ → Octets → Octets → Option Range
range_spelled family start end =
    if nat_eq family 4 then Some (V4 (from_be_bytes w32 (take 4 start)) (from_be_bytes w32 (take 4 end)))
    else if nat_eq family 6 then Some (V6 (from_be_bytes w128 start) (from_be_bytes w128 end))
    else None

abbrev pub action_spelled : ℕ → Option Action
action_spelled action =
    if nat_eq action 0 then Some Discard
    else if nat_eq action 1 then Some Bypass
    else if nat_eq action 2 then Some Protect
    else None

abbrev pub caller_spelled : SukTerms → Octets → Octets → Octets → PeerCaller
caller_spelled terms id own secret =
    record { own = own; peers = record { kind = terms.peer_kind; id = id; secret = secret } ∷ [] }

-- an entry, where its family and its action are such
abbrev pub entry_between : SukEntry → Option Range → Option Range → Option Action → Option Entry
entry_between entry (Some local) (Some remote) (Some action) = Some (record {
  protocol = entry.protocol;
  local = local;
  remote = remote;
  local_ports = (entry.local_start_port, entry.local_end_port);
  remote_ports = (entry.remote_start_port, entry.remote_end_port);
  action = action;
})
entry_between entry _ _ _ = None

abbrev pub entry_spelled : SukEntry → Option Entry
entry_spelled entry =
    entry_between entry (range_spelled entry.family entry.local_start entry.local_end)
    (range_spelled entry.family entry.remote_start entry.remote_end)
    (action_spelled entry.action)

-- the entries in their order, where each is one
abbrev pub spelled_before : Option Entry → Option (List Entry) → Option (List Entry)
spelled_before (Some entry) (Some entries) = Some (entry ∷ entries)
spelled_before _ _ = None

abbrev pub entries_spelled : List SukEntry → Option (List Entry)
entries_spelled [] = Some []
entries_spelled (entry ∷ entries) = spelled_before (entry_spelled entry) (entries_spelled entries)

-- why there are no entries: memory, or one is none
abbrev pub IsEntriesRefusal : List SukEntry → Refusal → Type 0
IsEntriesRefusal entries refusal.Memory = Unit {0}
IsEntriesRefusal entries refusal.Policy = entries_spelled entries ≡ None
IsEntriesRefusal entries _ = ⊥

-- entries that are no policy: one is none, or one of those that they spell is at fault
abbrev pub AreNoPolicy : List SukEntry → Type 0
AreNoPolicy entries =
    IfSome (entries_spelled entries) (λ policy. (place : ℕ) × IsEntryAtFault policy place)

abbrev pub IsPolicyRefusal : List SukEntry → Refusal → Type 0
IsPolicyRefusal entries refusal.Memory = Unit {0}
IsPolicyRefusal entries refusal.Policy = AreNoPolicy entries
IsPolicyRefusal entries _ = ⊥

-- the policy that the entries spell
pub record SpellsPolicy (entries : List SukEntry) (policy : List Entry) : Type 0 where
  pub spelled : entries_spelled entries ≡ Some policy
  pub sound : IsSoundPolicy policy

-- a new gateway of the terms with both identities, both secrets and a policy, of which nothing is left to be
-- taken
abbrev pub hosted_spelled : SukTerms → Octets → Octets → Octets → Octets → List Entry → Hosted
hosted_spelled terms own peer own_secret peer_secret policy = record {
  gateway =
      new_gateway (config_spelled terms own peer) policy terms.first_spi
      (caller_spelled terms peer own_secret peer_secret);
  left = NothingLeft;
  tells_keys = is_set terms.tells_keys;
}

-- what the arguments spell, all of which can be used
pub record SpellsGateway (terms : SukTerms) (own peer own_secret peer_secret : Octets) (entries : List SukEntry) (hosted : Hosted) : Type 0 where
  pub start : IsStart terms.first_spi
  pub config : IsConfig (config_spelled terms own peer)
  pub policy : List Entry
  pub spells : SpellsPolicy entries policy
  pub content : hosted ≡ hosted_spelled terms own peer own_secret peer_secret policy

-- why they spell none, each where those before it don't apply: the first SPI, the configuration, the policy,
-- memory
abbrev pub IsSpellingRefusal : SukTerms → Octets → Octets → List SukEntry → Refusal → Type 0
IsSpellingRefusal terms own peer entries refusal.Spi = ¬ IsStart terms.first_spi
IsSpellingRefusal terms own peer entries refusal.Configuration =
    IsStart terms.first_spi × (¬ IsConfig (config_spelled terms own peer))
IsSpellingRefusal terms own peer entries refusal.Policy =
    IsStart terms.first_spi × IsConfig (config_spelled terms own peer) × AreNoPolicy entries
IsSpellingRefusal terms own peer entries refusal.Memory = IsStart terms.first_spi
IsSpellingRefusal terms own peer entries _ = ⊥

-- The handle, which led to none, leads to the new gateway that the arguments spell.
pub record MakesGateway (terms : SukTerms) (own peer own_secret peer_secret : Octets) (entries : List SukEntry) (old new : Option End) : Type 0 where
  pub none : old ≡ None
  pub hosted : Hosted
  pub spelled : SpellsGateway terms own peer own_secret peer_secret entries hosted
  pub made : new ≡ Some (Gateway hosted)

-- The code tells why there is none: the handle is in use, or what the arguments spell can't be made.
abbrev pub IsMakingRefusal : SukTerms → Octets → Octets → List SukEntry → Option End → ℕ → Type 0
IsMakingRefusal terms own peer entries (Some end) code = code ≡ 102
IsMakingRefusal terms own peer entries None code =
    (why : Refusal) × (code ≡ code_of_refusal why) × IsSpellingRefusal terms own peer entries why
