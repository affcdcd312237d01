-- Where a flow is kept: a hash of all that it is.
use Rattle.std.specs.Prelude.{ℕ, ◌+◌, ◌*◌, ◌/◌, ◌%◌, ◌^◌, bit_or, bit_xor, Option, Some, None}
use Rattle.base.specs.declared.address.Address.{Address}
use Rattle.base.specs.declared.address.Address.TheVariants.{V4, V6}
use Rattle.policy.specs.declared.flow.Flow.{Flow}
use Rattle.policy.specs.declared.flow.Ports.{Ports}

-- the low 64 bits of a product with an odd number
abbrev pub spread : ℕ → ℕ
spread word = word * 0x9e3779b97f4a7c15 % 2 ^ 64

-- a word mixed into a hash
abbrev pub scatter : ℕ → ℕ → ℕ
scatter hash word = bit_xor (spread (bit_xor hash word)) (spread (bit_xor hash word) / 2 ^ 29)

-- an address mixed into a hash, an IPv6 address by its two halves
abbrev pub mix : ℕ → Address → ℕ
mix hash (V4 number) = scatter hash number
mix hash (V6 number) = scatter (scatter hash (number / 2 ^ 64)) (number % 2 ^ 64)

-- both ports in one word
abbrev pub ports_word : Option Ports → ℕ
ports_word (Some ports) = bit_or (ports.source * 2 ^ 16) ports.target
ports_word None = 0

-- the protocol and both ports in one word
abbrev pub first_word : ℕ → Option Ports → ℕ
first_word protocol ports = bit_or (protocol * 2 ^ 32) (ports_word ports)

-- both addresses mixed into a hash, those of IPv4 in one word
abbrev pub mix_both : ℕ → Address → Address → ℕ
mix_both hash (V4 source) (V4 target) = bit_xor hash (bit_or (source * 2 ^ 32) target)
mix_both hash (V4 source) (V6 target) = mix (mix hash (V4 source)) (V6 target)
mix_both hash (V6 source) target = mix (mix hash (V6 source)) target

-- the place of a flow among 4096: the top bits of its hash
unfoldable pub place_of : Flow → ℕ
place_of flow = spread (mix_both (scatter 0 (first_word flow.protocol flow.ports)) flow.source flow.target) / 2 ^ 52
