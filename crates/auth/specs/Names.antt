-- Identities that are made of a name or an address (RFC 7296 section 3.5).
use Rattle.std.specs.Prelude.{◌≡◌, ◌≤◌, ◌<◌, ◌&&◌, ℕ, Bool, true, false, length, nat_lt, not}
use Rattle.std.specs.List.{list_any}
use Rattle.base.specs.Octets.{Octets}
use Rattle.wire.specs.Numbers.{IDENTITY_LIMIT}
use Rattle.auth.specs.declared.identity.Identity.{Identity}
use Rattle.auth.specs.declared.naming.IdentityFault.{IdentityFault}
use Rattle.auth.specs.declared.naming.IdentityFault.TheVariants as fault

-- the types that are made here
abbrev pub ID_IPV4_ADDR : ℕ
ID_IPV4_ADDR = 1

abbrev pub ID_FQDN : ℕ
ID_FQDN = 2

abbrev pub ID_RFC822_ADDR : ℕ
ID_RFC822_ADDR = 3

abbrev pub identity_of : ℕ → Octets → Identity
identity_of kind octets = record { kind = kind; «data» = octets }

-- an octet that no name has: a space, one that isn't printed, or one beyond ASCII
abbrev pub is_foreign : ℕ → Bool
is_foreign octet = not (nat_lt 32 octet && nat_lt octet 127)

-- as long as an ID payload allows, of printable ASCII without spaces
pub record IsName (name : Octets) : Type 0 where
  pub some : 1 ≤ length name
  pub few : length name ≤ IDENTITY_LIMIT
  pub plain : list_any is_foreign name ≡ false

-- why a name is none, each where those before it don't apply
abbrev pub IsIdentityFault : Octets → IdentityFault → Type 0
IsIdentityFault name fault.Empty = length name ≡ 0
IsIdentityFault name fault.Long = IDENTITY_LIMIT < length name
IsIdentityFault name fault.Foreign = (1 ≤ length name) × (length name ≤ IDENTITY_LIMIT) × (list_any is_foreign name ≡ true)
IsIdentityFault name fault.Memory = IsName name
