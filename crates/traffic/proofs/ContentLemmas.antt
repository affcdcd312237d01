-- What becomes of a packet goes by what the table holds, whatever room there is.
use Rattle.std.proofs.Common.{◌≡◌, ℕ, List, [], ap, subst, inl, inr}
use Rattle.base.specs.Addresses.{family_of}
use Rattle.base.specs.Octets.{Octets}
use Rattle.esp.specs.declared.fault.EspFault.{EspFault}
use Rattle.esp.specs.declared.fault.EspFault.TheVariants.{Exhausted, PayloadSize, BadLength, Old, Replayed, BadNumber, BadIcv, BadPadding, Memory}
use Rattle.policy.specs.declared.entry.Entry.{Entry}
use Rattle.policy.specs.declared.flow.Flow.{Flow}
use Rattle.sadb.specs.Contents.{table_content}
use Rattle.sadb.specs.Database.{ChangesAt, Database, OpensAt, RefusesAt, SealsAt}
use Rattle.sadb.specs.declared.pair.Pair.{Pair}
use Rattle.traffic.specs.NextHeaders.{next_header_of}
use Rattle.traffic.specs.Outcomes.{Outcome, Up, Dummy, Sealed, Clear, Discarded, Dropped}
use Rattle.traffic.specs.Receiving.{IsAddressedTo, IsAddressedToNone, IsNotOpened, IsOpened, IsUnopened, Receives}
use Rattle.traffic.specs.Sending.{IsExhausted, IsProtected, IsSealed, Protects, Sends}
use Rattle.traffic.specs.Verdicts.{Verdict, Packet, Nothing, Refused}
use Rattle.traffic.specs.declared.fault.PacketFault.{PacketFault}
use Rattle.traffic.specs.declared.fault.PacketFault.TheVariants.{UnknownAssociation, Esp, Inner, OutsideSelectors}

-- with other room
abbrev roomed : ℕ → Database → Database
roomed room d = record d { room = room }

module _ (r : ℕ) (old new : Database) where
  changed_at : (serial : ℕ) (was is : Pair) → ChangesAt old serial was is new → ChangesAt (roomed r old) serial was is (roomed r new)
  changed_at serial was is c = record { there = c.there; content = ap (roomed r) c.content }

  opens_at : (serial : ℕ) (packet : Octets) (number next : ℕ) (payload : Octets) → OpensAt old serial packet number next payload new → OpensAt (roomed r old) serial packet number next payload (roomed r new)
  opens_at serial packet number next payload x = record {
    pair = x.pair;
    inbound = x.inbound;
    opened = x.opened;
    changed = changed_at serial x.pair (record x.pair { inbound = x.inbound }) x.changed;
  }

  refuses_at : (serial : ℕ) (packet : Octets) (fault : EspFault) → RefusesAt old serial packet fault new → RefusesAt (roomed r old) serial packet fault (roomed r new)
  refuses_at serial packet fault x = record {
    pair = x.pair;
    inbound = x.inbound;
    refused = x.refused;
    changed = changed_at serial x.pair (record x.pair { inbound = x.inbound }) x.changed;
  }

  seals_at : (serial next : ℕ) (payload before : Octets) (number : ℕ) (after : Octets) → SealsAt old serial next payload before number new after → SealsAt (roomed r old) serial next payload before number (roomed r new) after
  seals_at serial next payload before number after x = record {
    pair = x.pair;
    outbound = x.outbound;
    sealed = x.sealed;
    changed = changed_at serial x.pair (record x.pair { outbound = x.outbound }) x.changed;
  }

  -- ---- a packet that came

  addressed_at : (packet : Octets) (pair : Pair) → IsAddressedTo old packet pair → IsAddressedTo (roomed r old) packet pair
  addressed_at packet pair x = record { has_spi = x.has_spi; inbound = x.inbound }

  none_at : (packet : Octets) (fault : PacketFault) → IsAddressedToNone old packet fault → IsAddressedToNone (roomed r old) packet fault
  none_at packet (Esp Exhausted) x = x
  none_at packet (Esp PayloadSize) x = x
  none_at packet (Esp BadLength) x = x
  none_at packet (Esp Old) x = x
  none_at packet (Esp Replayed) x = x
  none_at packet (Esp BadNumber) x = x
  none_at packet (Esp BadIcv) x = x
  none_at packet (Esp BadPadding) x = x
  none_at packet (Esp Memory) x = x
  none_at packet UnknownAssociation x = x
  none_at packet (Inner fault) x = x
  none_at packet OutsideSelectors x = x

  not_opened_at : (packet : Octets) (fault : EspFault) → IsNotOpened old packet fault new → IsNotOpened (roomed r old) packet fault (roomed r new)
  not_opened_at packet fault x = record {
    pair = x.pair;
    addressed = addressed_at packet x.pair x.addressed;
    refused = refuses_at x.pair.serial packet fault x.refused;
    unchanged = λ other. ap (roomed r) (x.unchanged other);
  }

  opened_at : (packet : Octets) (child number : ℕ) (verdict : Verdict) → IsOpened old packet child number verdict new → IsOpened (roomed r old) packet child number verdict (roomed r new)
  opened_at packet child number verdict x = record {
    pair = x.pair;
    addressed = addressed_at packet x.pair x.addressed;
    child_is = x.child_is;
    next = x.next;
    payload = x.payload;
    opened = opens_at child packet number x.next x.payload x.opened;
    verdict_is = x.verdict_is;
  }

  unopened_at : (packet : Octets) (fault : PacketFault) → IsUnopened old packet fault new → IsUnopened (roomed r old) packet fault (roomed r new)
  unopened_at packet (Esp fault) x = not_opened_at packet fault x
  unopened_at packet (Inner fault) x = x
  unopened_at packet UnknownAssociation x = x
  unopened_at packet OutsideSelectors x = x

  received_at : (packet : Octets) (outcome : Outcome) → Receives old packet outcome new → Receives (roomed r old) packet outcome (roomed r new)
  received_at packet (Up child number inner) x = opened_at packet child number (Packet inner) x
  received_at packet (Dummy child number) x = opened_at packet child number Nothing x
  received_at packet (Dropped fault) (inl x) = inl (none_at packet fault x.0, ap (roomed r) x.1)
  received_at packet (Dropped fault) (inr (inl x)) = inr (inl (unopened_at packet fault x))
  received_at packet (Dropped fault) (inr (inr x)) = inr (inr (record { child = x.child; number = x.number; opened = opened_at packet x.child x.number (Refused fault) x.opened }))
  received_at packet (Sealed child number octets) x = x
  received_at packet (Clear octets) x = x
  received_at packet Discarded x = x

  -- ---- a packet on its way out

  sealed_at : (flow : Flow) (packet : Octets) (child number : ℕ) (octets : Octets) → IsSealed old flow packet child number octets new → IsSealed (roomed r old) flow packet child number octets (roomed r new)
  sealed_at flow packet child number octets x = record { carrier = x.carrier; sealed = seals_at child (next_header_of (family_of flow.source)) packet [] number octets x.sealed }

  exhausted_at : (flow : Flow) (packet : Octets) → IsExhausted old flow packet → IsExhausted (roomed r old) flow packet
  exhausted_at flow packet x = record { child = x.child; carrier = x.carrier; refused = x.refused }

  protects_at : (flow : Flow) (packet : Octets) (outcome : Outcome) → Protects old flow packet outcome new → Protects (roomed r old) flow packet outcome (roomed r new)
  protects_at flow packet (Sealed child number octets) x = sealed_at flow packet child number octets x
  protects_at flow packet (Dropped UnknownAssociation) x = (x.0, ap (roomed r) x.1)
  protects_at flow packet (Dropped (Esp Exhausted)) x = (exhausted_at flow packet x.0, ap (roomed r) x.1)
  protects_at flow packet (Dropped (Esp PayloadSize)) x = x
  protects_at flow packet (Dropped (Esp BadLength)) x = x
  protects_at flow packet (Dropped (Esp Old)) x = x
  protects_at flow packet (Dropped (Esp Replayed)) x = x
  protects_at flow packet (Dropped (Esp BadNumber)) x = x
  protects_at flow packet (Dropped (Esp BadIcv)) x = x
  protects_at flow packet (Dropped (Esp BadPadding)) x = x
  protects_at flow packet (Dropped (Esp Memory)) x = x
  protects_at flow packet (Dropped (Inner fault)) x = x
  protects_at flow packet (Dropped OutsideSelectors) x = x
  protects_at flow packet (Clear octets) x = x
  protects_at flow packet Discarded x = x
  protects_at flow packet (Up child number inner) x = x
  protects_at flow packet (Dummy child number) x = x

  protected_at : (policy : List Entry) (packet : Octets) (outcome : Outcome) → IsProtected old policy packet outcome new → IsProtected (roomed r old) policy packet outcome (roomed r new)
  protected_at policy packet outcome x = record { flow = x.flow; decided = x.decided; protects = protects_at x.flow packet outcome x.protects }

  sent_at : (policy : List Entry) (packet : Octets) (outcome : Outcome) → Sends old policy packet outcome new → Sends (roomed r old) policy packet outcome (roomed r new)
  sent_at policy packet (Sealed child number octets) x = protected_at policy packet (Sealed child number octets) x
  sent_at policy packet (Clear octets) x = (x.0, x.1, ap (roomed r) x.2)
  sent_at policy packet Discarded x = (x.0, ap (roomed r) x.1)
  sent_at policy packet (Dropped (Inner fault)) x = (x.0, ap (roomed r) x.1)
  sent_at policy packet (Dropped UnknownAssociation) x = protected_at policy packet (Dropped UnknownAssociation) x
  sent_at policy packet (Dropped (Esp fault)) x = protected_at policy packet (Dropped (Esp fault)) x
  sent_at policy packet (Dropped OutsideSelectors) x = protected_at policy packet (Dropped OutsideSelectors) x
  sent_at policy packet (Up child number inner) x = x
  sent_at policy packet (Dummy child number) x = x

-- a table is another one's content with its own room
same_roomed : (old other : Database) → table_content old ≡ table_content other → roomed other.room old ≡ other
same_roomed old other same = ap (roomed other.room) same

pub received_by_content : (old other new : Database) (packet : Octets) (outcome : Outcome) → table_content old ≡ table_content other → Receives old packet outcome new → Receives other packet outcome (record new { room = other.room })
received_by_content old other new packet outcome same is =
    subst (λ (d : Database). Receives d packet outcome (record new { room = other.room })) (same_roomed old other same) (received_at other.room old new packet outcome is)

pub sent_by_content : (old other new : Database) (policy : List Entry) (packet : Octets) (outcome : Outcome) → table_content old ≡ table_content other → Sends old policy packet outcome new → Sends other policy packet outcome (record new { room = other.room })
sent_by_content old other new policy packet outcome same is =
    subst (λ (d : Database). Sends d policy packet outcome (record new { room = other.room })) (same_roomed old other same) (sent_at other.room old new policy packet outcome is)
