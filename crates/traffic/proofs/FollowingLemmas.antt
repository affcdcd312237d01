-- What holds over every step of a table holds over what becomes of packets.
use Rattle.std.proofs.Common.{◌≡◌, ℕ, List, sym, subst, inl, inr, refl, arith}
use Rattle.base.specs.Octets.{Octets}
use Rattle.esp.specs.declared.fault.EspFault.{EspFault}
use Rattle.esp.specs.declared.fault.EspFault.TheVariants.{Exhausted}
use Rattle.policy.specs.declared.entry.Entry.{Entry}
use Rattle.sadb.specs.Database.{Database, IsAsBefore, OpensAt, RefusesAt, SealsAt}
use Rattle.traffic.specs.Outcomes.{Outcome, Up, Dummy, Sealed, Clear, Discarded, Dropped}
use Rattle.traffic.specs.Receiving.{IsUnopened, Receives}
use Rattle.traffic.specs.Sending.{IsProtected, Sends}
use Rattle.traffic.specs.declared.fault.PacketFault.{PacketFault}
use Rattle.traffic.specs.declared.fault.PacketFault.TheVariants.{UnknownAssociation, Esp, Inner, OutsideSelectors}

-- what each of these steps keeps
pub record Keeps (P : Database → Database → Type 0) : Type 0 where
  pub same : (old : Database) → P old old
  pub opening : (old new : Database) (serial : ℕ) (packet : Octets) (number next : ℕ) (payload : Octets) → OpensAt old serial packet number next payload new → P old new
  pub refusing : (old new : Database) (serial : ℕ) (packet : Octets) (fault : EspFault) → RefusesAt old serial packet fault new → P old new
  pub sealing : (old new : Database) (serial next : ℕ) (payload before : Octets) (number : ℕ) (after : Octets)
      → SealsAt old serial next payload before number new after → P old new

module _ (P : Database → Database → Type 0) (keeps : Keeps P) where
  unmoved : (old new : Database) → new ≡ old → P old new
  unmoved old new is = subst (P old) (sym is) (keeps.same old)

  unopened : (old : Database) (packet : Octets) (fault : PacketFault) (new : Database) → IsUnopened old packet fault new → P old new
  unopened old packet (Esp fault) new is = keeps.refusing old new is.pair.serial packet fault is.refused
  unopened old packet (Inner fault) new is = absurd is
  unopened old packet UnknownAssociation new is = absurd is
  unopened old packet OutsideSelectors new is = absurd is

  pub received : (old new : Database) (packet : Octets) (outcome : Outcome) → Receives old packet outcome new → P old new
  received old new packet (Up child number inner) is = keeps.opening old new child packet number is.next is.payload is.opened
  received old new packet (Dummy child number) is = keeps.opening old new child packet number is.next is.payload is.opened
  received old new packet (Dropped fault) (inl is) = unmoved old new is.1
  received old new packet (Dropped fault) (inr (inl is)) = unopened old packet fault new is
  received old new packet (Dropped fault) (inr (inr is)) = keeps.opening old new is.child packet is.number is.opened.next is.opened.payload is.opened.opened
  received old new packet (Sealed child number octets) is = absurd is
  received old new packet (Clear octets) is = absurd is
  received old new packet Discarded is = absurd is

  protected : (old : Database) (policy : List Entry) (packet : Octets) (fault : PacketFault) (new : Database) → IsProtected old policy packet (Dropped fault) new → P old new
  protected old policy packet UnknownAssociation new is = unmoved old new is.protects.1
  protected old policy packet (Esp Exhausted) new is = unmoved old new is.protects.1
  protected old policy packet (Esp fault) new is = absurd is.protects
  protected old policy packet (Inner fault) new is = absurd is.protects
  protected old policy packet OutsideSelectors new is = absurd is.protects

  pub sent : (old new : Database) (policy : List Entry) (packet : Octets) (outcome : Outcome) → Sends old policy packet outcome new → P old new
  sent old new policy packet (Sealed child number octets) is = keeps.sealing old new child _ packet _ number octets is.protects.sealed
  sent old new policy packet (Clear octets) is = unmoved old new is.2
  sent old new policy packet Discarded is = unmoved old new is.1
  sent old new policy packet (Dropped (Inner fault)) is = unmoved old new is.1
  sent old new policy packet (Dropped UnknownAssociation) is = protected old policy packet UnknownAssociation new is
  sent old new policy packet (Dropped (Esp fault)) is = protected old policy packet (Esp fault) new is
  sent old new policy packet (Dropped OutsideSelectors) is = protected old policy packet OutsideSelectors new is
  sent old new policy packet (Up child number inner) is = absurd is
  sent old new policy packet (Dummy child number) is = absurd is

-- a table is as it was before
pub as_before : (old : Database) → IsAsBefore old old
as_before old = record { content = refl; room = omega arith }
