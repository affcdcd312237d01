-- A packet changes no reservation of the table.
use Rattle.std.proofs.Common.{◌≡◌, List, ap, inl, inr}
use Rattle.base.specs.Octets.{Octets}
use Rattle.esp.specs.declared.fault.EspFault.TheVariants as esp
use Rattle.policy.specs.declared.entry.Entry.{Entry}
use Rattle.sadb.specs.Database.{Database}
use Rattle.traffic.specs.Outcomes.{Outcome, Up, Dummy, Sealed, Clear, Discarded, Dropped}
use Rattle.traffic.specs.Receiving.{Receives}
use Rattle.traffic.specs.Sending.{Sends}
use Rattle.traffic.specs.declared.fault.PacketFault.{PacketFault}
use Rattle.traffic.specs.declared.fault.PacketFault.TheVariants.{UnknownAssociation, Esp, Inner, OutsideSelectors}

same : (old new : Database) → new ≡ old → new.reserved ≡ old.reserved
same old new is = ap (λ (d : Database). d.reserved) is

dropping_keeps : (old : Database) (packet : Octets) (fault : PacketFault) (new : Database) → Receives old packet (Dropped fault) new → new.reserved ≡ old.reserved
dropping_keeps old packet UnknownAssociation new (inl h) = same old new h.1
dropping_keeps old packet UnknownAssociation new (inr (inl h)) = absurd h
dropping_keeps old packet UnknownAssociation new (inr (inr h)) = ap (λ (d : Database). d.reserved) h.opened.opened.changed.content
dropping_keeps old packet (Esp f) new (inl h) = same old new h.1
dropping_keeps old packet (Esp f) new (inr (inl h)) = ap (λ (d : Database). d.reserved) h.refused.changed.content
dropping_keeps old packet (Esp f) new (inr (inr h)) = ap (λ (d : Database). d.reserved) h.opened.opened.changed.content
dropping_keeps old packet (Inner f) new (inl h) = same old new h.1
dropping_keeps old packet (Inner f) new (inr (inl h)) = absurd h
dropping_keeps old packet (Inner f) new (inr (inr h)) = ap (λ (d : Database). d.reserved) h.opened.opened.changed.content
dropping_keeps old packet OutsideSelectors new (inl h) = same old new h.1
dropping_keeps old packet OutsideSelectors new (inr (inl h)) = absurd h
dropping_keeps old packet OutsideSelectors new (inr (inr h)) = ap (λ (d : Database). d.reserved) h.opened.opened.changed.content

pub receiving_keeps : (old : Database) (packet : Octets) (outcome : Outcome) (new : Database) → Receives old packet outcome new → new.reserved ≡ old.reserved
receiving_keeps old packet (Up child number inner) new is = ap (λ (d : Database). d.reserved) is.opened.changed.content
receiving_keeps old packet (Dummy child number) new is = ap (λ (d : Database). d.reserved) is.opened.changed.content
receiving_keeps old packet (Dropped fault) new is = dropping_keeps old packet fault new is
receiving_keeps old packet (Sealed child number octets) new is = absurd is
receiving_keeps old packet (Clear octets) new is = absurd is
receiving_keeps old packet Discarded new is = absurd is

pub sending_keeps : (old : Database) (policy : List Entry) (packet : Octets) (outcome : Outcome) (new : Database) → Sends old policy packet outcome new → new.reserved ≡ old.reserved
sending_keeps old policy packet (Sealed child number octets) new is = ap (λ (d : Database). d.reserved) is.protects.sealed.changed.content
sending_keeps old policy packet (Clear octets) new is = same old new is.2
sending_keeps old policy packet Discarded new is = same old new is.1
sending_keeps old policy packet (Dropped (Inner f)) new is = same old new is.1
sending_keeps old policy packet (Dropped UnknownAssociation) new is = same old new is.protects.1
sending_keeps old policy packet (Dropped (Esp esp.Exhausted)) new is = same old new is.protects.1
sending_keeps old policy packet (Dropped (Esp esp.PayloadSize)) new is = absurd is.protects
sending_keeps old policy packet (Dropped (Esp esp.BadLength)) new is = absurd is.protects
sending_keeps old policy packet (Dropped (Esp esp.Old)) new is = absurd is.protects
sending_keeps old policy packet (Dropped (Esp esp.Replayed)) new is = absurd is.protects
sending_keeps old policy packet (Dropped (Esp esp.BadNumber)) new is = absurd is.protects
sending_keeps old policy packet (Dropped (Esp esp.BadIcv)) new is = absurd is.protects
sending_keeps old policy packet (Dropped (Esp esp.BadPadding)) new is = absurd is.protects
sending_keeps old policy packet (Dropped (Esp esp.Memory)) new is = absurd is.protects
sending_keeps old policy packet (Dropped OutsideSelectors) new is = absurd is.protects
sending_keeps old policy packet (Up child number inner) new is = absurd is
sending_keeps old policy packet (Dummy child number) new is = absurd is
