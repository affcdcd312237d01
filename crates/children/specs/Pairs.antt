-- The pair of SAs that an end has of a Child SA (RFC 7296 sections 1.2 and 2.17, RFC 4301 section 4.4.2).
use Rattle.std.specs.Prelude.{◌≡◌, ◌≤◌, ℕ, List, [], ◌∷◌, length}
use Rattle.base.specs.declared.selector.Selector.{Selector}
use Rattle.wire.specs.Numbers.{SELECTOR_LIMIT}
use Rattle.wire.specs.declared.payload.Payload.{Payload}
use Rattle.exchange.specs.Headers.{other_role}
use Rattle.exchange.specs.declared.headers.Role.{Role}
use Rattle.exchange.specs.declared.headers.Role.TheVariants.{Initiator, Responder}
use Rattle.replay.specs.Window.{unused_window}
use Rattle.esp.specs.declared.sa.Sa.{Sa}
use Rattle.sadb.specs.declared.pair.Pair.{Pair}
use Rattle.sadb.specs.declared.pair.State.TheVariants.{Live}
use Rattle.children.specs.Terms.{Terms, AreTermsOf}
use Rattle.children.specs.declared.setting.Setting.{Setting}

-- the key of what the end of this role sends: of the two, the initiator's comes first (section 2.17)
abbrev pub sending_key : Role → List (List ℕ) → List ℕ
sending_key Initiator (first ∷ others) = first
sending_key Responder (first ∷ second ∷ others) = second
sending_key _ _ = []

-- the SPI that the end of this role gave, under which it is sent to
abbrev pub spi_of : Role → Terms → ℕ
spi_of Initiator terms = terms.spi_i
spi_of Responder terms = terms.spi_r

-- what the end of this role receives by
abbrev pub inbound_of : Role → List (List ℕ) → Terms → Sa
inbound_of role keys terms = record {
  spi = spi_of role terms;
  key = sending_key (other_role role) keys;
  extended = terms.extended;
}

-- what it sends by
abbrev pub outbound_of : Role → List (List ℕ) → Terms → Sa
outbound_of role keys terms = record {
  spi = spi_of (other_role role) terms;
  key = sending_key role keys;
  extended = terms.extended;
}

-- the selectors of its own side, and of the other end's
abbrev pub local_of : Role → Terms → List Selector
local_of Initiator terms = terms.ts_i
local_of Responder terms = terms.ts_r

abbrev pub remote_of : Role → Terms → List Selector
remote_of role terms = local_of (other_role role) terms

-- the SA pair as it is made: no serial yet, no number sent or taken
abbrev pub new_pair : Role → Setting → Terms → Pair
new_pair role setting terms = record {
  serial = 0;
  ike = setting.ike;
  inbound = record {
    association = inbound_of role setting.keys terms;
    window = unused_window setting.blocks;
  };
  outbound = record { association = outbound_of role setting.keys terms; last = 0 };
  local = local_of role terms;
  remote = remote_of role terms;
  state = Live;
}

-- both sides have at most so many selectors as a payload may (a limit of this implementation)
pub record HasFewSelectors (pair : Pair) : Type 0 where
  pub local : length pair.local ≤ SELECTOR_LIMIT
  pub remote : length pair.remote ≤ SELECTOR_LIMIT

-- The SA pair is what the end of this role has of the Child SA that a request and its reply made, under these
-- keys.
pub record IsChild (role : Role) (keys : List (List ℕ)) (request reply : List Payload) (pair : Pair)
    : Type 0 where
  pub terms : Terms
  pub agreed : AreTermsOf request reply terms
  pub inbound : pair.inbound.association ≡ inbound_of role keys terms
  pub outbound : pair.outbound.association ≡ outbound_of role keys terms
  pub local : pair.local ≡ local_of role terms
  pub remote : pair.remote ≡ remote_of role terms
