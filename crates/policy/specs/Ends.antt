-- What the ends of a selector's ranges tell of its points. Only private contracts cite this; that it is
-- right is proved against `Points`.
use Rattle.std.specs.Prelude.{◌≡◌, ◌≢◌, ◌≤◌, ◌⊎◌, ◌↔◌, ℕ}
use Rattle.policy.specs.Points.{FitsProtocol, HasPorts}

-- points of this protocol, 0 for any, have a port from start to end, or none where that is every port
abbrev pub HasFittingPort : ℕ → ℕ → ℕ → Type 0
HasFittingPort protocol start end =
    (((protocol ≡ 0) ⊎ HasPorts protocol) × (start ≤ end))
    ⊎ ((protocol ≢ 0) × (¬ HasPorts protocol) × (start ≡ 0) × (end ≡ 65535))

-- a selector of the common protocol may have points of exactly the protocols that both of two selectors may
-- have
abbrev pub IsCommonProtocol : ℕ → ℕ → ℕ → Type 0
IsCommonProtocol one other common = (protocol : ℕ)
    → FitsProtocol common protocol ↔ (FitsProtocol one protocol × FitsProtocol other protocol)

abbrev pub HaveNoCommonProtocol : ℕ → ℕ → Type 0
HaveNoCommonProtocol one other = (protocol : ℕ) → FitsProtocol one protocol → ¬ FitsProtocol other protocol
