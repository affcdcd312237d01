-- A list of events keeps a world sound for a key record, and the ends of a sound world agree.
use Rattle.std.proofs.Common.{◌≡◌, ◌⊎◌, ◌↔◌, ◌+◌, ◌≤◌, ◌++◌, ◌∷◌, ℕ, zero, suc, Bool, true, false, List, [], Some, Contains, ap, subst, refl, sym, ◌∙◌, arith, inl, inr}
use Rattle.std.specs.Prelude.{flat_map, option_and_then, slice_get}
use Rattle.std.specs.Option.{option_to_list}
use Rattle.std.proofs.lemmas.List.{append-nil}
use Rattle.std.proofs.lemmas.List.Elements.{Contains-append_left}
use Rattle.base.specs.Octets.{Octets}
use Rattle.suite.specs.declared.key_record.KeyRecord.{KeyRecord}
use Rattle.exchange.specs.Headers.{other_role}
use Rattle.requests.specs.Numbers.{HasNumber}
use Rattle.association.specs.declared.phase.Association.{Association}
use Rattle.effects.specs.Moves.{ledger, ledger_of, Ledger}
use Rattle.effects.specs.Taking.{Meaning}
use Rattle.ike.specs.Machines.{association_of}
use Rattle.ike.specs.Moves.{ledger_at}
use Rattle.ike.specs.declared.output.Trace.{Trace}
use Rattle.lockstep.specs.Ends.{Entry}
use Rattle.lockstep.specs.Parties.{times, under, AreHeldUnder, AreSoundParties, Holds, IsGenuineTurn, IsNewParty, IsSoundParty, Marked, Parties, Party, TakesTurn, Turn}
use Rattle.lockstep.specs.Soundness.{IsInitial}
use Rattle.lockstep.specs.Promises.{AreInStep, AreIssuedAndInEffect, AreWithinWindows}
use Rattle.gateway.specs.Inputs.{Event}
use Rattle.gateway.specs.Outputs.{output_view, wants_memory, OutputView}
use Rattle.gateway.specs.Runs.{Runs}
use Rattle.gateway.specs.States.{State}
use Rattle.gateway.specs.WorldHistories.{Happening, IsWorldHistory, IsWorldTrail}
use Rattle.gateway.specs.WorldParties.{made_at, party_at, parties_of, sent_at, AreBothHeld, HasSent, HasSentSome, HoldsUnder, IsNeverMadeTwice, IsSoundUnder}
use Rattle.gateway.specs.WorldPromises.{ComesUnder, EndsAgree, IsUnforged, IsUnforgedByThen, StaysSound, KeepsWorldPromises}
use Rattle.gateway.specs.WorldRuns.{CallsWorldAs, HappensAs, IsLater}
use Rattle.gateway.specs.Worlds.{datagram_of, gateway_at, keyed_by, new_world, other_end, sent_by, storing, with_gateway, HoldsNothing, Stored, TakesEvent, WorldState}
use Rattle.gateway.specs.declared.output.Output.{Output}
use Rattle.gateway.specs.declared.world.stored.Datagram.{Datagram}
use Rattle.gateway.specs.declared.world.stored.End.{End}
use Rattle.gateway.specs.declared.world.stored.End.TheVariants.{A, B}
use Rattle.gateway.specs.declared.world.stored.Keyed.{Keyed}
use Rattle.gateway.specs.declared.world.stored.Protection.TheVariants as mark
use Rattle.gateway.proofs.PartyLemmas.{ledger_there, made_appended, marked, others_made, others_sent, sent_appended, sent_there, there_sent}
use Rattle.gateway.proofs.RunLemmas.{runs_joined}
use Rattle.gateway.proofs.MoveLemmas.{TurnLaws}
use Rattle.gateway.proofs.TurnLemmas.{is_turn, party_with, ComesTo}
use Rattle.gateway.proofs.WorldLemmas.{later_more, later_same, stored_at}

-- what is known of parties
pub record PartyLaws : Type 0 where
  pub kept : (keys : KeyRecord) (turn : Turn) (old new : Party) (others : List Entry) → IsSoundParty keys old others → TakesTurn turn old new → IsGenuineTurn keys turn new others
      → times keys new.made ≤ 1 → IsSoundParty keys new others
  pub later : (keys : KeyRecord) (p : Party) (others later : List Entry) → IsSoundParty keys p others → ((entry : Entry) → Contains others entry → Contains later entry) → IsSoundParty keys p later
  pub told : (keys : KeyRecord) (sent : List Marked) (entry : Entry) → Contains (under keys sent) entry ↔ Contains sent (marked keys entry)
  pub appended : (keys : KeyRecord) (sent more : List Marked) → under keys (sent ++ more) ≡ under keys sent ++ under keys more
  pub counted : (keys : KeyRecord) (made more : List KeyRecord) → times keys (made ++ more) ≡ times keys made + times keys more

-- ---- what is stored stays, event by event

pub event_later : {C : Type 0} (meaning_of : C → Meaning) (h : Happening C) (last : Stored) → TakesEvent meaning_of h.event h.before h.said h.after → IsLater h.after.stored last → IsLater h.before.stored last
event_later {C} meaning_of h last t later =
    let stored = ap (λ (w : WorldState C). w.stored) t.content ∙ stored_at h.event.end t.gateway (storing h.event.end h.said t.trace t.gateway h.before.stored) h.before in
    later_more h.before.stored h.after.stored last _ (ap (λ (s : Stored). s.sent) stored) (ap (λ (s : Stored). s.keyed) stored) (ap (λ (s : Stored). s.children) stored) later

pub trail_later : {C : Type 0} (meaning_of : C → Meaning) (hs : List (Happening C)) (old new : WorldState C) → IsWorldTrail meaning_of old hs new → IsLater old.stored new.stored
trail_later {C} meaning_of [] old new trail = later_same old.stored new.stored (ap (λ (w : WorldState C). w.stored) trail)
trail_later {C} meaning_of (h ∷ hs) old new trail =
    subst (λ (w : WorldState C). IsLater w.stored new.stored) trail.0 (event_later meaning_of h new.stored trail.1 (trail_later meaning_of hs h.after new trail.2))

pub place_later : {C : Type 0} (meaning_of : C → Meaning) (hs : List (Happening C)) (old new : WorldState C) (place : ℕ) (h : Happening C) → IsWorldTrail meaning_of old hs new → slice_get hs place ≡ Some h
    → IsLater h.before.stored new.stored
place_later {C} meaning_of [] old new place h trail there = absurd cc
place_later {C} meaning_of (g ∷ hs) old new zero h trail there =
    let same : g ≡ h = cc in
    subst (λ (x : Happening C). IsLater x.before.stored new.stored) same (event_later meaning_of g new.stored trail.1 (trail_later meaning_of hs g.after new trail.2))
place_later {C} meaning_of (g ∷ hs) old new (suc place) h trail there = place_later meaning_of hs g.after new place h trail.2 there

-- what was sent is sent later on
pub still_sent : (end : End) (keys : KeyRecord) (response : Bool) (number : ℕ) (octets : Octets) (now last : Stored) → IsLater now last → HasSent end keys response number octets now
    → HasSent end keys response number octets last
still_sent end keys response number octets now last later there =
    let sent = datagram_of end (mark.Ike keys response number) octets in
    subst (λ (ds : List Datagram). Contains ds sent) (sym later.sent) (Contains-append_left now.sent later.more.sent sent there)

-- and what came often came no less often later on
fits : PartyLaws → (keys : KeyRecord) (end : End) (now last : Stored) → IsLater now last → times keys (made_at end last.keyed) ≤ 1 → times keys (made_at end now.keyed) ≤ 1
fits laws keys end now last later once =
    let all = ap (λ (ks : List Keyed). times keys (made_at end ks)) later.keyed ∙ ap (times keys) (made_appended end now.keyed later.more.keyed) ∙ laws.counted keys (made_at end now.keyed) (made_at end later.more.keyed) in
    omega (arith, all, once)

pub not_twice_before : PartyLaws → (keys : KeyRecord) (now last : Stored) → IsLater now last → IsNeverMadeTwice keys last → IsNeverMadeTwice keys now
not_twice_before laws keys now last later once end = fits laws keys end now last later (once end)

-- what was stored before an event is stored after all
pub by_then_unforged : {C : Type 0} (meaning_of : C → Meaning) (keys : KeyRecord) (hs : List (Happening C)) (old new : WorldState C) → IsWorldTrail meaning_of old hs new
    → IsUnforgedByThen meaning_of keys hs → IsUnforged meaning_of keys hs new.stored
by_then_unforged {C} meaning_of keys hs old new trail unforged place h response number octets there comes =
    still_sent (other_end h.event.end) keys response number octets h.before.stored new.stored (place_later meaning_of hs old new place h trail there) (unforged place h response number octets there comes)

-- ---- ends apart

pub each_end : (P : End → Type 0) (e : End) → P e → P (other_end e) → (end : End) → P end
each_end P A here there A = here
each_end P A here there B = there
each_end P B here there B = here
each_end P B here there A = there

party_moved : {C : Type 0} (e : End) (gateway : State C) (stored : Stored) (old : WorldState C) → party_at e (with_gateway e gateway stored old) ≡ party_with e gateway stored
party_moved {C} A gateway stored old = refl
party_moved {C} B gateway stored old = refl

made_stays : {C : Type 0} (e : End) (trace : Trace) (gateway : State C) (old : Stored)
    → made_at (other_end e) (old.keyed ++ option_to_list (keyed_by e trace.keyed gateway.machine)) ≡ made_at (other_end e) old.keyed
made_stays {C} e trace gateway old =
    made_appended (other_end e) old.keyed (option_to_list (keyed_by e trace.keyed gateway.machine))
    ∙ ap (λ (ks : List KeyRecord). made_at (other_end e) old.keyed ++ ks) (others_made e trace.keyed gateway.machine)
    ∙ append-nil (made_at (other_end e) old.keyed)

sent_stays : {C : Type 0} (e : End) (s : OutputView) (trace : Trace) (gateway : State C) (old : Stored) → sent_at (other_end e) (old.sent ++ sent_by e s trace.sent gateway) ≡ sent_at (other_end e) old.sent
sent_stays {C} e s trace gateway old =
    sent_appended (other_end e) old.sent (sent_by e s trace.sent gateway)
    ∙ ap (λ (ms : List Marked). sent_at (other_end e) old.sent ++ ms) (others_sent e s trace.sent gateway)
    ∙ append-nil (sent_at (other_end e) old.sent)

party_stays : {C : Type 0} (e : End) (s : OutputView) (trace : Trace) (gateway : State C) (old : WorldState C)
    → party_at (other_end e) (with_gateway e gateway (storing e s trace gateway old.stored) old) ≡ party_at (other_end e) old
party_stays {C} A s trace gateway old = λ i. record { ledgers = ledger_at old.b.machine.held; made = made_stays A trace gateway old.stored i; sent = sent_stays A s trace gateway old.stored i }
party_stays {C} B s trace gateway old = λ i. record { ledgers = ledger_at old.a.machine.held; made = made_stays B trace gateway old.stored i; sent = sent_stays B s trace gateway old.stored i }

-- ---- over a list of events

module _ {C : Type 0} (turns : TurnLaws) (laws : PartyLaws) (meaning_of : C → Meaning) (keys : KeyRecord) where
  -- what the end's peer will have sent
  abbrev pub peers : End → Stored → List Entry
  peers end last = under keys (sent_at (other_end end) last.sent)

  abbrev pub BothSound : WorldState C → Stored → Type 0
  BothSound w last = (end : End) → IsSoundParty keys (party_at end w) (peers end last)

  module _ (h : Happening C) (t : TakesEvent meaning_of h.event h.before h.said h.after) (last : Stored) (later : IsLater h.after.stored last) (once : IsNeverMadeTwice keys last)
      (unforged : (response : Bool) (number : ℕ) (octets : Octets) → ComesUnder meaning_of keys response number octets h → HasSent (other_end h.event.end) keys response number octets last) where
    abbrev e : End
    e = h.event.end

    abbrev was : State C
    was = gateway_at e h.before

    abbrev now : Stored
    now = storing e h.said t.trace t.gateway h.before.stored

    stored_now : h.after.stored ≡ now
    stored_now = ap (λ (w : WorldState C). w.stored) t.content ∙ stored_at e t.gateway now h.before

    was_sent : (response : Bool) (number : ℕ) (octets : Octets) → wants_memory h.said ≡ false → ComesTo (meaning_of was.caller) h.event.input was keys response number octets
        → Contains (peers e last) (record { response = response; number = number; octets = octets })
    was_sent response number octets had comes =
        let entry : Entry = record { response = response; number = number; octets = octets } in
        (laws.told keys (sent_at (other_end e) last.sent) entry).1 (there_sent (other_end e) last.sent keys entry (unforged response number octets (record {
          association = comes.association;
          held = record { serial = comes.serial; there = comes.there; keyed = comes.keyed };
          datagram = comes.datagram;
          opens = comes.opens;
          delivered = had;
        })))

    -- the end at which it takes place
    sound_here : IsSoundParty keys (party_at e h.before) (peers e last) → IsSoundParty keys (party_at e h.after) (peers e last)
    sound_here sound =
        let turn = is_turn turns (meaning_of was.caller) h.event.input e was t.gateway h.said t.trace h.before.stored t.sound.table t.sound.machine t.traces in
        let kept = laws.kept keys turn.turn (party_with e was h.before.stored) (party_with e t.gateway now) (peers e last) sound turn.takes (turn.genuine keys (peers e last) was_sent)
        (fits laws keys e now last (subst (λ (x : Stored). IsLater x last) stored_now later) (once e)) in
        subst (λ (p : Party). IsSoundParty keys p (peers e last)) (sym (ap (λ (w : WorldState C). party_at e w) t.content ∙ party_moved e t.gateway now h.before)) kept

    sound_there : IsSoundParty keys (party_at (other_end e) h.before) (peers (other_end e) last) → IsSoundParty keys (party_at (other_end e) h.after) (peers (other_end e) last)
    sound_there sound =
        subst (λ (p : Party). IsSoundParty keys p (peers (other_end e) last)) (sym (ap (λ (w : WorldState C). party_at (other_end e) w) t.content ∙ party_stays e h.said t.trace t.gateway h.before)) sound

    pub sound_after : BothSound h.before last → BothSound h.after last
    sound_after both = each_end (λ end. IsSoundParty keys (party_at end h.after) (peers end last)) e (sound_here (both e)) (sound_there (both (other_end e)))

  both_stay : (hs : List (Happening C)) (old new : WorldState C) → IsWorldTrail meaning_of old hs new → IsUnforged meaning_of keys hs new.stored → IsNeverMadeTwice keys new.stored
      → BothSound old new.stored → BothSound new new.stored
  both_stay [] old new trail unforged once both = subst (λ (w : WorldState C). BothSound w new.stored) (sym trail) both
  both_stay (h ∷ hs) old new trail unforged once both =
      both_stay hs h.after new trail.2 (λ place g response number octets there comes. unforged (suc place) g response number octets there comes) once
      (sound_after h trail.1 new.stored (trail_later meaning_of hs h.after new trail.2) once (λ response number octets comes. unforged 0 h response number octets refl comes)
      (subst (λ (w : WorldState C). BothSound w new.stored) (sym trail.0) both))

  more_sent : (end : End) (now last : Stored) → IsLater now last → (entry : Entry) → Contains (under keys (sent_at end now.sent)) entry → Contains (under keys (sent_at end last.sent)) entry
  more_sent end now last later entry there =
      subst (λ (es : List Entry). Contains es entry)
      (sym (ap (λ (ds : List Datagram). under keys (sent_at end ds)) later.sent ∙ ap (under keys) (sent_appended end now.sent later.more.sent)
      ∙ laws.appended keys (sent_at end now.sent) (sent_at end later.more.sent)))
      (Contains-append_left (under keys (sent_at end now.sent)) (under keys (sent_at end later.more.sent)) entry there)

  pub both_sound : (w : WorldState C) (last : Stored) → IsLater w.stored last → IsSoundUnder keys w → BothSound w last
  both_sound w last later sound A = laws.later keys (party_at A w) (under keys (sent_at B w.stored.sent)) (peers A last) sound.one (more_sent B w.stored last later)
  both_sound w last later sound B = laws.later keys (party_at B w) (under keys (sent_at A w.stored.sent)) (peers B last) sound.other (more_sent A w.stored last later)

  pub world_stays : (hs : List (Happening C)) (old new : WorldState C) → IsWorldTrail meaning_of old hs new → IsSoundUnder keys old → IsUnforged meaning_of keys hs new.stored → IsNeverMadeTwice keys new.stored
      → IsSoundUnder keys new
  world_stays hs old new trail sound unforged once =
      let both = both_stay hs old new trail unforged once (both_sound old new.stored (trail_later meaning_of hs old new trail) sound) in
      record { one = both A; other = both B }

-- ---- each world between

first_alone : {C : Type 0} (meaning_of : C → Meaning) (keys : KeyRecord) (h : Happening C) (hs : List (Happening C)) → IsUnforgedByThen meaning_of keys (h ∷ hs) → IsUnforgedByThen meaning_of keys (h ∷ [])
first_alone {C} meaning_of keys h hs unforged zero g response number octets there comes = unforged 0 g response number octets there comes
first_alone {C} meaning_of keys h hs unforged (suc place) g response number octets there comes = absurd cc

module _ {C : Type 0} (turns : TurnLaws) (laws : PartyLaws) (meaning_of : C → Meaning) (keys : KeyRecord) where
  first_stays : (h : Happening C) (hs : List (Happening C)) (old new : WorldState C) → IsWorldTrail meaning_of old (h ∷ hs) new → IsSoundUnder keys old
      → IsUnforgedByThen meaning_of keys (h ∷ hs) → IsNeverMadeTwice keys new.stored → IsSoundUnder keys h.after
  first_stays h hs old new trail sound unforged once =
      let alone : IsWorldTrail meaning_of old (h ∷ []) h.after = (trail.0, trail.1, refl) in
      world_stays turns laws meaning_of keys (h ∷ []) old h.after alone sound (by_then_unforged meaning_of keys (h ∷ []) old h.after alone (first_alone meaning_of keys h hs unforged))
      (not_twice_before laws keys h.after.stored new.stored (trail_later meaning_of hs h.after new trail.2) once)

  pub each_stays : (hs : List (Happening C)) (old new : WorldState C) → IsWorldTrail meaning_of old hs new → IsSoundUnder keys old → IsUnforgedByThen meaning_of keys hs
      → IsNeverMadeTwice keys new.stored → (place : ℕ) (h : Happening C) → slice_get hs place ≡ Some h → IsSoundUnder keys h.after
  each_stays [] old new trail sound unforged once place h there = absurd cc
  each_stays (g ∷ hs) old new trail sound unforged once zero h there =
      let same : g ≡ h = cc in
      subst (λ (x : Happening C). IsSoundUnder keys x.after) same (first_stays g hs old new trail sound unforged once)
  each_stays (g ∷ hs) old new trail sound unforged once (suc place) h there =
      each_stays hs g.after new trail.2 (first_stays g hs old new trail sound unforged once) (λ place x response number octets is comes. unforged (suc place) x response number octets is comes) once place h there

-- ---- the ends of a sound world

-- what is known of two sound parties
pub record StepLaws : Type 0 where
  pub issued : (keys : KeyRecord) (parties : Parties) (asking answering : Ledger) → AreSoundParties keys parties → AreHeldUnder keys parties asking answering → AreIssuedAndInEffect asking answering
  pub windows : (keys : KeyRecord) (parties : Parties) (asking answering : Ledger) → AreSoundParties keys parties → AreHeldUnder keys parties asking answering → AreWithinWindows asking answering
  pub steps : (keys : KeyRecord) (parties : Parties) (asking answering : Ledger) → AreSoundParties keys parties → AreHeldUnder keys parties asking answering → asking.window ≡ 1 → AreInStep asking answering

holds_ledger : {C : Type 0} (keys : KeyRecord) (end : End) (w : WorldState C) (a : Association) → (h : HoldsUnder keys end w a) → Holds (party_at end w) keys h.serial (ledger_of a keys)
holds_ledger {C} keys end w a h = record { there = ledger_there (gateway_at end w).machine.held h.serial a keys h.there h.keyed; keyed = refl }

held_there : {C : Type 0} (keys : KeyRecord) (end : End) (w : WorldState C) (asking answering : Association) → AreBothHeld keys end w asking answering
    → AreHeldUnder keys (parties_of w) (ledger_of asking keys) (ledger_of answering keys)
held_there {C} keys A w asking answering held =
    record { asks = held.asks.serial; answers = held.answers.serial; held = inl (holds_ledger keys A w asking held.asks, holds_ledger keys B w answering held.answers); roles = held.roles }
held_there {C} keys B w asking answering held =
    record { asks = held.asks.serial; answers = held.answers.serial; held = inr (holds_ledger keys B w asking held.asks, holds_ledger keys A w answering held.answers); roles = held.roles }

pub party_sound : {C : Type 0} (keys : KeyRecord) (end : End) (w : WorldState C) → IsSoundUnder keys w → IsSoundParty keys (party_at end w) (under keys (sent_at (other_end end) w.stored.sent))
party_sound {C} keys A w sound = sound.one
party_sound {C} keys B w sound = sound.other

one_message : {C : Type 0} (laws : PartyLaws) (keys : KeyRecord) (w : WorldState C) → IsSoundUnder keys w → (end : End) (response : Bool) (number : ℕ) (one other : Octets)
    → HasSent end keys response number one w.stored → HasSent end keys response number other w.stored → one ≡ other
one_message {C} laws keys w sound end true number one other first second =
    (party_sound keys end w sound).once.response number one other
    ((laws.told keys (sent_at end w.stored.sent) _).1 (there_sent end w.stored.sent keys (record { response = true; number = number; octets = one }) first))
    ((laws.told keys (sent_at end w.stored.sent) _).1 (there_sent end w.stored.sent keys (record { response = true; number = number; octets = other }) second))
one_message {C} laws keys w sound end false number one other first second =
    (party_sound keys end w sound).once.request number one other
    ((laws.told keys (sent_at end w.stored.sent) _).1 (there_sent end w.stored.sent keys (record { response = false; number = number; octets = one }) first))
    ((laws.told keys (sent_at end w.stored.sent) _).1 (there_sent end w.stored.sent keys (record { response = false; number = number; octets = other }) second))

-- what an end took was sent by the other
sent_some : {C : Type 0} (laws : PartyLaws) (keys : KeyRecord) (end : End) (w : WorldState C) (response : Bool) (number : ℕ) (octets : Octets)
    → Contains (under keys (sent_at end w.stored.sent)) (record { response = response; number = number; octets = octets }) → HasSentSome end keys response number w.stored
sent_some {C} laws keys end w response number octets there =
    let entry : Entry = record { response = response; number = number; octets = octets } in
    record { octets = octets; sent = sent_there end w.stored.sent keys entry ((laws.told keys (sent_at end w.stored.sent) entry).0 there) }

taken_was_sent : {C : Type 0} (laws : PartyLaws) (keys : KeyRecord) (w : WorldState C) → IsSoundUnder keys w → (end : End) (a : Association) (number : ℕ) → HoldsUnder keys end w a
    → HasNumber a.incoming.in_effect number → IsInitial (other_role a.role) number ⊎ HasSentSome (other_end end) keys false number w.stored
taken_was_sent {C} laws keys w sound end a number held has =
    elim (((party_sound keys end w sound).holds held.serial (ledger_of a keys) (holds_ledger keys end w a held)).peers.in_effect number has) [
      | inl initial ↦ inl initial
      | inr asked ↦ inr (sent_some laws keys (other_end end) w false number asked.octets asked.there)
    ]

counted_was_sent : {C : Type 0} (laws : PartyLaws) (keys : KeyRecord) (w : WorldState C) → IsSoundUnder keys w → (end : End) (a : Association) (number : ℕ) → HoldsUnder keys end w a
    → HasNumber a.outgoing.answered number → IsInitial a.role number ⊎ HasSentSome (other_end end) keys true number w.stored
counted_was_sent {C} laws keys w sound end a number held has =
    elim (((party_sound keys end w sound).holds held.serial (ledger_of a keys) (holds_ledger keys end w a held)).peers.answered number has) [
      | inl initial ↦ inl initial
      | inr answered ↦ inr (sent_some laws keys (other_end end) w true number answered.octets answered.there)
    ]

pub ends_agree : {C : Type 0} (laws : PartyLaws) (steps : StepLaws) (keys : KeyRecord) (w : WorldState C) → IsSoundUnder keys w → EndsAgree keys w
ends_agree {C} laws steps keys w sound = record {
  issued = λ end asking answering held. steps.issued keys (parties_of w) (ledger_of asking keys) (ledger_of answering keys) sound (held_there keys end w asking answering held);
  windows = λ end asking answering held. steps.windows keys (parties_of w) (ledger_of asking keys) (ledger_of answering keys) sound (held_there keys end w asking answering held);
  steps = λ end asking answering held one. steps.steps keys (parties_of w) (ledger_of asking keys) (ledger_of answering keys) sound (held_there keys end w asking answering held) one;
  taken = taken_was_sent laws keys w sound;
  counted = counted_was_sent laws keys w sound;
  once = λ end response number one other. one_message laws keys w sound end response number one other;
}

-- ---- a new world

pub new_party : {C : Type 0} (end : End) (a b : State C) → HoldsNothing a → HoldsNothing b → IsNewParty (party_at end (new_world a b))
new_party {C} A a b first second = record { none = λ serial. ap (λ (xs : List Association). option_and_then ledger (association_of serial xs)) first.associations; made = refl; sent = refl }
new_party {C} B a b first second = record { none = λ serial. ap (λ (xs : List Association). option_and_then ledger (association_of serial xs)) second.associations; made = refl; sent = refl }

-- ---- the history of a run

pub record WorldTold {C : Type 0} (meaning_of : C → Meaning) (es : List Event) (os : List Output) (old new : WorldState C) : Type 0 where
  pub happenings : List (Happening C)
  pub history : IsWorldHistory meaning_of es os old new happenings

world_first : {C : Type 0} (meaning_of : C → Meaning) (e : Event) (es : List Event) (o : Output) (os : List Output) (old between new : WorldState C)
    → HappensAs meaning_of e old o between → WorldTold meaning_of es os between new → WorldTold meaning_of (e ∷ es) (o ∷ os) old new
world_first {C} meaning_of e es o os old between new step rest = record {
  happenings = record { before = old; event = e; said = output_view o; after = between } ∷ rest.happenings;
  history = record {
    takes = ap (λ (xs : List Event). e ∷ xs) rest.history.takes;
    says = ap (λ (xs : List OutputView). output_view o ∷ xs) rest.history.says;
    trail = (refl, step, rest.history.trail);
  };
}

pub world_told : {C : Type 0} (meaning_of : C → Meaning) (es : List Event) (os : List Output) (old new : WorldState C) → Runs (HappensAs meaning_of) es os old new → WorldTold meaning_of es os old new
world_told {C} meaning_of [] [] old new run = record { happenings = []; history = record { takes = refl; says = refl; trail = run } }
world_told {C} meaning_of (e ∷ es) (o ∷ os) old new run = world_first meaning_of e es o os old run.0 new run.1 (world_told meaning_of es os run.0 new run.2)
world_told {C} meaning_of [] (o ∷ os) old new run = absurd run
world_told {C} meaning_of (e ∷ es) [] old new run = absurd run

pub trail_sound : {C : Type 0} → TurnLaws → PartyLaws → StepLaws → (meaning_of : C → Meaning) (hs : List (Happening C)) (old new : WorldState C) → IsWorldTrail meaning_of old hs new
    → StaysSound meaning_of hs old new
trail_sound {C} turns laws steps meaning_of hs old new trail = record {
  stays = λ keys sound unforged once. world_stays turns laws meaning_of keys hs old new trail sound unforged once;
  each = λ keys sound unforged once. each_stays turns laws meaning_of keys hs old new trail sound unforged once;
  agree = λ keys sound. ends_agree laws steps keys new sound;
}

pub world_promises : {C : Type 0} → TurnLaws → PartyLaws → StepLaws → (meaning_of : C → Meaning) (es : List Event) (os : List Output) (old new : WorldState C)
    → Runs (HappensAs meaning_of) es os old new → KeepsWorldPromises meaning_of es os old new
world_promises {C} turns laws steps meaning_of es os old new run =
    let told = world_told meaning_of es os old new run in
    record {
      happenings = told.happenings;
      history = told.history;
      sound = λ others history. trail_sound turns laws steps meaning_of others old new history.trail;
    }

-- calls in a row
pub world_calls_joined : {C : Type 0} (meaning_of : C → Meaning) (lists : List (List Event)) (outputs : List (List Output)) (old new : WorldState C)
    → Runs (CallsWorldAs meaning_of) lists outputs old new → Runs (HappensAs meaning_of) (flat_map (λ es. es) lists) (flat_map (λ os. os) outputs) old new
world_calls_joined {C} meaning_of [] [] old new calls = calls
world_calls_joined {C} meaning_of (es ∷ lists) (os ∷ outputs) old new calls =
    runs_joined (HappensAs meaning_of) es os (flat_map (λ es. es) lists) (flat_map (λ os. os) outputs) old calls.0 new calls.1 (world_calls_joined meaning_of lists outputs calls.0 new calls.2)
world_calls_joined {C} meaning_of [] (os ∷ outputs) old new calls = absurd calls
world_calls_joined {C} meaning_of (es ∷ lists) [] old new calls = absurd calls
