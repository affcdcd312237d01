-- What is promised of both ends of a world over a list of events, beside that their requests keep in step.
-- It is of their windows, their Child SAs and the children's packets (RFC 7296 sections 1.2, 1.3.1, 2.3, 2.9
-- and 2.17; RFC 4301 sections 4.1, 5.1 and 5.2; RFC 4303 sections 3.3 and 3.4).
use Rattle.std.specs.Prelude.{◌≡◌, ◌++◌, ℕ, List, Contains, Some, slice_get, take}
use Rattle.base.specs.Octets.{Octets}
use Rattle.suite.specs.declared.key_record.KeyRecord.{KeyRecord}
use Rattle.suite.specs.declared.keys.Keys.{Keys}
use Rattle.association.specs.Receiving.{Opening}
use Rattle.effects.specs.Taking.{Meaning}
use Rattle.gateway.specs.Exchanges.{HoldOneRecord}
use Rattle.gateway.specs.Inputs.{Event}
use Rattle.gateway.specs.Origin.{IsUnforgedUpTo}
use Rattle.gateway.specs.Outputs.{Up}
use Rattle.gateway.specs.WorldChildren.{AccountsForChildren, ChildrenMirror}
use Rattle.gateway.specs.WorldHistories.{Happening, IsWorldHistory}
use Rattle.gateway.specs.WorldPackets.{AccountsForPairs, HandsUpWhatWasSealed, HasOneSender, HasStored, IsUnforgedTo, PairsMirror, WasSealedByOther}
use Rattle.gateway.specs.WorldParties.{IsNeverMadeTwice, IsSoundUnder}
use Rattle.gateway.specs.WorldPromises.{IsUnforged}
use Rattle.gateway.specs.WorldWindows.{AccountsForWindows, WindowsFit}
use Rattle.gateway.specs.Worlds.{WorldState}
use Rattle.gateway.specs.declared.output.Output.{Output}
use Rattle.gateway.specs.declared.world.stored.Child.{Child}

-- The whole invariant of a world under a key record (*wholly sound*): it is sound, and it accounts for its
-- windows and its Child SAs under the record and for its pairs. A new world is so.
pub record IsWhollySound {C : Type 0} (body_of : Keys → Octets → Octets → Octets → Octets) (plain_of : Opening) (keys : KeyRecord) (w : WorldState C) : Type 0 where
  pub sound : IsSoundUnder keys w
  pub windows : AccountsForWindows body_of plain_of keys w w.stored
  pub children : AccountsForChildren body_of plain_of keys w w.stored
  pub pairs : AccountsForPairs w

-- What is promised of the Child SAs under a key record after a list of events. The children of one request
-- mirror each other. So do the pairs that both ends hold of it, at the end and after each event. What such
-- a child delivered in the list, the other end sealed. That assumes that no packet to the child was forged,
-- and that the other end had no other child that sends under its inbound SPI and key.
pub record ChildrenAgree {C : Type 0} (keys : KeyRecord) (happenings : List (Happening C)) (w : WorldState C) : Type 0 where
  pub mirror : ChildrenMirror keys w
  pub held : PairsMirror keys w
  pub held_then : (place : ℕ) (h : Happening C) → slice_get happenings place ≡ Some h → PairsMirror keys h.after
  pub carried : (child : Child) → Contains w.stored.children child → child.keys ≡ keys → IsUnforgedTo child happenings w.stored → HasOneSender child w.stored
      → HandsUpWhatWasSealed child happenings w

-- A list of events keeps the whole invariant, where no message under the record was forged and neither end
-- came to it twice. Then neither end assumes a wider window than the other is configured with, and the
-- Child SAs agree. Whatever comes, a world accounts for its pairs, after each step too; what is delivered is
-- of a child that is stored; and no number of a child delivers twice. Where one end's request of
-- IKE_SA_INIT made the other's IKE SA, and its answer gave the first its keys, both hold one record at the end.
pub record PromisesOfBothEnds {C : Type 0} (body_of : Keys → Octets → Octets → Octets → Octets) (plain_of : Opening) (meaning_of : C → Meaning) (happenings : List (Happening C)) (old new : WorldState C) : Type 0 where
  pub stays : (keys : KeyRecord) → IsWhollySound body_of plain_of keys old → IsUnforged meaning_of keys happenings new.stored → IsNeverMadeTwice keys new.stored
      → IsWhollySound body_of plain_of keys new
  pub windows : (keys : KeyRecord) → IsWhollySound body_of plain_of keys new → WindowsFit keys new
  pub agree : (keys : KeyRecord) → IsWhollySound body_of plain_of keys old → IsUnforged meaning_of keys happenings new.stored → IsNeverMadeTwice keys new.stored
      → ChildrenAgree keys happenings new
  pub pairs : AccountsForPairs old → (place : ℕ) (h : Happening C) → slice_get happenings place ≡ Some h → AccountsForPairs h.after
  pub stored : AccountsForPairs old → (place serial number : ℕ) (packet : Octets) (h : Happening C) → slice_get happenings place ≡ Some h → h.said ≡ Up serial number packet
      → HasStored h.event.end serial h.before.stored
  pub once : (place other serial number : ℕ) (one two : Octets) (h g : Happening C) → slice_get happenings place ≡ Some h → slice_get happenings other ≡ Some g
      → h.event.end ≡ g.event.end → h.said ≡ Up serial number one → g.said ≡ Up serial number two → place ≡ other
  pub one_record : HoldOneRecord happenings new

-- Over these events: where a Child SA delivers a packet, the other end had sent an ESP packet that carries
-- it, octet for octet, before this step. It was sealed by the other end's pair of this Child SA, and that
-- end's policy protects it. It asks that the world was wholly sound under the child's keys before the list,
-- as a world of two new gateways is, and that nothing was forged up to this step. That the accepted octets
-- had been sent is assumed so. What they carry, and that the other end's pair sealed it, is proved.
pub record WhatGoesUpHadBeenSealed {C : Type 0} (body_of : Keys → Octets → Octets → Octets → Octets) (plain_of : Opening) (meaning_of : C → Meaning) (happenings : List (Happening C)) (old : WorldState C) : Type 0 where
  pub each : (keys : KeyRecord) (child : Child) (place number : ℕ) (packet : Octets) (h : Happening C) → IsWhollySound body_of plain_of keys old → slice_get happenings place ≡ Some h
      → IsUnforgedUpTo meaning_of keys child happenings place h → h.event.end ≡ child.end → h.said ≡ Up child.serial number packet → WasSealedByOther child number packet h h.before

-- Some number of events took place, the first ones, as many as there are outputs. They have a history, and
-- the promises hold of every history of them.
pub record KeepsBothEnds {C : Type 0} (body_of : Keys → Octets → Octets → Octets → Octets) (plain_of : Opening) (meaning_of : C → Meaning) (events : List Event) (old : WorldState C) (before : List Output) (new : WorldState C) (after : List Output) : Type 0 where
  pub count : ℕ
  pub outputs : List Output
  pub appended : after ≡ before ++ outputs
  pub happenings : List (Happening C)
  pub history : IsWorldHistory meaning_of (take count events) outputs old new happenings
  pub each : (others : List (Happening C)) → IsWorldHistory meaning_of (take count events) outputs old new others → PromisesOfBothEnds body_of plain_of meaning_of others old new
  pub origin : (others : List (Happening C)) → IsWorldHistory meaning_of (take count events) outputs old new others → WhatGoesUpHadBeenSealed body_of plain_of meaning_of others old
