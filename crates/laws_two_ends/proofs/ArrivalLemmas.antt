-- A datagram comes to an end that holds one IKE SA, which takes it; and what comes under keys had been
-- sent, where the message that comes had.
use Rattle.std.proofs.Common.{◌≡◌, ◌∷◌, inr, ℕ, Bool, false, List, [], Result, Ok, Contains, ap, refl, subst, sym, ◌∙◌}
use Rattle.base.specs.Octets.{Octets}
use Rattle.wire.specs.Messages.{Spells}
use Rattle.wire.specs.declared.message.Message.{Message}
use Rattle.policy.specs.declared.entry.Entry.{Entry}
use Rattle.suite.specs.declared.fresh.Fresh.{Fresh}
use Rattle.suite.specs.declared.key_record.KeyRecord.{KeyRecord}
use Rattle.sadb.specs.Database.{Database}
use Rattle.association.specs.Finding.{place_meant}
use Rattle.association.specs.declared.fault.MessageFault.{MessageFault}
use Rattle.association.specs.declared.phase.Association.{Association}
use Rattle.effects.specs.Taking.{Meaning, TakesMessage}
use Rattle.effects.specs.declared.taking.Effect.{Effect}
use Rattle.ike.specs.Machines.{setup_at, Machine}
use Rattle.ike.specs.Outputs.{stepped_of}
use Rattle.ike.specs.Receiving.{is_initial_request, TakesFound, TakesRead}
use Rattle.ike.specs.Steps as ike
use Rattle.gateway.specs.Requests.{for_ike, IsDatagram}
use Rattle.gateway.specs.WorldHistories.{Happening}
use Rattle.gateway.specs.WorldParties.{HasSent}
use Rattle.gateway.specs.WorldPromises.{ComesUnder}
use Rattle.gateway.specs.Worlds.{datagram_of, Stored}
use Rattle.gateway.specs.declared.world.stored.Datagram.{Datagram}
use Rattle.gateway.specs.declared.world.stored.End.{End}
use Rattle.gateway.specs.declared.world.stored.Protection.TheVariants as mark
use Rattle.laws_two_ends.proofs.SoundnessLemmas.{OneMessage}

-- a machine that holds this IKE SA alone
abbrev pub alone : Machine → Association → Machine
alone machine a = record machine { held = record { next = 2; associations = a ∷ [] } }

pub takes_alone : {meaning : Meaning} {a changed : Association} {table new : Database} {m : Message} {octets : Octets} {e : Effect}
    → (machine : Machine) (entries : List Entry) (from : Octets) (fresh : Fresh)
    → Spells m octets → is_initial_request m.header ≡ false → place_meant m.header (a ∷ []) ≡ Ok 0
    → TakesMessage meaning (setup_at machine entries fresh) a table octets m e changed new
    → ike.Steps meaning entries (ike.Message from octets fresh) (alone machine a) table (stepped_of a.serial m.header.id e) (alone machine changed) new
takes_alone {meaning} {a} {changed} {table} {new} {m} {octets} {e} machine entries from fresh spelled later meant takes = (
  refl,
  inr (record {
    message = m;
    spelled = spelled;
    done = subst (λ (b : Bool). TakesRead b meaning (setup_at machine entries fresh) machine.cookies from octets m (alone machine a).held table
        (stepped_of a.serial m.header.id e) (alone machine changed).held new) (sym later)
        (subst (λ (found : Result ℕ MessageFault). TakesFound found meaning (setup_at machine entries fresh) octets m (alone machine a).held table
        (stepped_of a.serial m.header.id e) (alone machine changed).held new) (sym meant)
        (record { association = a; there = refl; effect = e; changed = changed; takes = takes; said = refl; content = refl }));
  }),
)

-- a step at which these octets come, which spell this message
module _ {C : Type 0} (one_message : OneMessage) (meaning_of : C → Meaning) (keys : KeyRecord) (h : Happening C) (m : Message) (came : Octets)
    (spelled : Spells m came) (given : (octets : Octets) → IsDatagram (for_ike h.event.input) octets → came ≡ octets) where
  -- the flag R and the number are read off them
  pub was_sent : (end : End) (stored : Stored) → HasSent end keys m.header.flags.response m.header.id came stored
      → (response : Bool) (number : ℕ) (octets : Octets) → ComesUnder meaning_of keys response number octets h → HasSent end keys response number octets stored
  was_sent end stored sent response number octets comes =
      let same : came ≡ octets = given octets comes.datagram in
      let read : Spells comes.opens.message came = subst (λ (o : Octets). Spells comes.opens.message o) (sym same) comes.opens.spelled in
      let message : m ≡ comes.opens.message = one_message m comes.opens.message came spelled read in
      let is_response : m.header.flags.response ≡ response = ap (λ (x : Message). x.header.flags.response) message ∙ comes.opens.is_response in
      let number_is : m.header.id ≡ number = ap (λ (x : Message). x.header.id) message ∙ comes.opens.number_is in
      subst (λ (d : Datagram). Contains stored.sent d) (λ i. datagram_of end (mark.Ike keys (is_response i) (number_is i)) (same i)) sent
