-- Which payloads of a message count (RFC 7296 section 2.5 and the payloads that each exchange has, sections
-- 1.2 to 1.4).
use Rattle.std.specs.Prelude.{Bool, true, false, ◌==◌, ℕ, Option, Some, None, List, [], ◌∷◌, if◌then◌else◌, option_and_then}
use Rattle.std.specs.Option.{option_or}
use Rattle.base.specs.Octets.{Octets}
use Rattle.base.specs.declared.selector.Selector.{Selector}
use Rattle.std.specs.List.{filter, list_any}
use Rattle.wire.specs.Numbers.{AUTH_TYPE, ID_I_TYPE, ID_R_TYPE, KE_TYPE, NONCE_TYPE, SA_TYPE, TS_I_TYPE, TS_R_TYPE}
use Rattle.wire.specs.Payloads.{type_of}
use Rattle.wire.specs.declared.proposal.Proposal.{Proposal}
use Rattle.wire.specs.declared.payload.Payload.{Payload}
use Rattle.wire.specs.declared.payload.Payload.TheVariants.{Sa, Ke, IdI, IdR, Auth, Nonce, TsI, TsR, Unknown}

-- the item of a list of one
abbrev pub lone_item : {A : Type 0} → List A → Option A
lone_item [] = None
lone_item (a ∷ []) = Some a
lone_item (a ∷ b ∷ others) = None

-- the payload of a type, where no other has it
abbrev pub only : ℕ → List Payload → Option Payload
only kind payloads = lone_item (filter (λ p. type_of p == kind) payloads)

-- the first that there is
abbrev pub first_some : {A B : Type 0} → (A → Option B) → List A → Option B
first_some f [] = None
first_some f (a ∷ others) = option_or (f a) (first_some f others)

-- the type of a payload that is not known and is marked as critical
abbrev pub critical_type : Payload → Option ℕ
critical_type (Unknown kind critical octets) = if critical then Some kind else None
critical_type _ = None

-- that of the first such payload (section 2.5)
abbrev pub unknown_critical : List Payload → Option ℕ
unknown_critical payloads = first_some critical_type payloads

-- a key exchange payload is there (section 3.4)
abbrev pub is_ke : Payload → Bool
is_ke (Ke group octets) = true
is_ke _ = false

abbrev pub has_ke : List Payload → Bool
has_ke payloads = list_any is_ke payloads

abbrev pub proposals_in : Payload → List Proposal
proposals_in (Sa proposals) = proposals
proposals_in _ = []

-- what a payload says, where it is of one kind
abbrev pub sa_in : Payload → Option (List Proposal)
sa_in (Sa proposals) = Some proposals
sa_in _ = None

abbrev pub ke_in : Payload → Option (ℕ × Octets)
ke_in (Ke group octets) = Some (group, octets)
ke_in _ = None

abbrev pub id_i_in : Payload → Option (ℕ × Octets)
id_i_in (IdI kind octets) = Some (kind, octets)
id_i_in _ = None

abbrev pub id_r_in : Payload → Option (ℕ × Octets)
id_r_in (IdR kind octets) = Some (kind, octets)
id_r_in _ = None

abbrev pub auth_in : Payload → Option (ℕ × Octets)
auth_in (Auth method octets) = Some (method, octets)
auth_in _ = None

abbrev pub nonce_in : Payload → Option (Octets)
nonce_in (Nonce octets) = Some octets
nonce_in _ = None

abbrev pub ts_i_in : Payload → Option (List Selector)
ts_i_in (TsI selectors) = Some selectors
ts_i_in _ = None

abbrev pub ts_r_in : Payload → Option (List Selector)
ts_r_in (TsR selectors) = Some selectors
ts_r_in _ = None

-- What the only payload of a type says, where there is just one and it is read as such: proposals (section
-- 3.3), a group and a public value (3.4), identities by their types (3.5), a method and its data (3.8), a
-- nonce (3.9), selectors (3.13).
abbrev pub only_sa : List Payload → Option (List Proposal)
only_sa payloads = option_and_then sa_in (only SA_TYPE payloads)

abbrev pub only_ke : List Payload → Option (ℕ × Octets)
only_ke payloads = option_and_then ke_in (only KE_TYPE payloads)

abbrev pub only_id_i : List Payload → Option (ℕ × Octets)
only_id_i payloads = option_and_then id_i_in (only ID_I_TYPE payloads)

abbrev pub only_id_r : List Payload → Option (ℕ × Octets)
only_id_r payloads = option_and_then id_r_in (only ID_R_TYPE payloads)

abbrev pub only_auth : List Payload → Option (ℕ × Octets)
only_auth payloads = option_and_then auth_in (only AUTH_TYPE payloads)

abbrev pub only_nonce : List Payload → Option Octets
only_nonce payloads = option_and_then nonce_in (only NONCE_TYPE payloads)

abbrev pub only_ts_i : List Payload → Option (List Selector)
only_ts_i payloads = option_and_then ts_i_in (only TS_I_TYPE payloads)

abbrev pub only_ts_r : List Payload → Option (List Selector)
only_ts_r payloads = option_and_then ts_r_in (only TS_R_TYPE payloads)

-- a payload offers a proposal for this protocol (section 3.3.1)
abbrev pub offers_protocol : ℕ → Payload → Bool
offers_protocol protocol p = list_any (λ proposal. proposal.protocol == protocol) (proposals_in p)
