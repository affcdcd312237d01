-- What becomes of a packet that came in unprotected (RFC 4301 section 5.2, step 3b): it goes in only where
-- the policy bypasses it.
use Rattle.std.specs.Prelude.{◌≡◌, ◌⊎◌, List}
use Rattle.base.specs.Octets.{Octets}
use Rattle.policy.specs.Packets.{IsInnerRefusal}
use Rattle.policy.specs.declared.entry.Action.TheVariants.{Protect, Bypass, Discard}
use Rattle.policy.specs.declared.entry.Entry.{Entry}
use Rattle.policy.specs.declared.policy.Direction.TheVariants.{Inward}
use Rattle.traffic.specs.Outcomes.{Outcome, Up, Dummy, Sealed, Clear, Discarded, Dropped}
use Rattle.traffic.specs.Sending.{IsTreated}
use Rattle.traffic.specs.declared.fault.PacketFault.TheVariants.{Inner}

abbrev pub Admits : List Entry → Octets → Outcome → Type 0
Admits policy packet (Clear octets) = (octets ≡ packet) × IsTreated policy Inward packet Bypass
Admits policy packet Discarded = IsTreated policy Inward packet Protect ⊎ IsTreated policy Inward packet Discard
Admits policy packet (Dropped (Inner fault)) = IsInnerRefusal packet fault
Admits policy packet (Dropped fault) = ⊥
Admits policy packet (Sealed child number octets) = ⊥
Admits policy packet (Up child number inner) = ⊥
Admits policy packet (Dummy child number) = ⊥
