-- An event keeps what a world knows of the windows under a key record, so no end counts more for the other
-- than that is set to.
use Rattle.std.proofs.Common.{◌≡◌, ◌⊎◌, ◌≤◌, ℕ, suc, Bool, true, false, List, [], ◌∷◌, Option, Some, None, Contains, map, max, inl, inr, refl, sym, ap, subst, ◌∙◌, arith}
use Rattle.std.specs.Prelude.{option_and_then}
use Rattle.std.specs.FinMap as finite
use Rattle.std.proofs.Math.Nat.{max-le}
use Rattle.std.proofs.lemmas.Bool.Decides.{leb_tells}
use Rattle.std.proofs.lemmas.List.Elements.{All-contains, All-from_recursion, Contains-append_cases}
use Rattle.base.specs.Octets.{Octets}
use Rattle.wire.specs.declared.message.Message.{Message}
use Rattle.wire.specs.declared.payload.Payload.{Payload}
use Rattle.policy.specs.declared.entry.Entry as policy
use Rattle.suite.specs.declared.fresh.Fresh.{Fresh}
use Rattle.suite.specs.declared.key_record.KeyRecord.{KeyRecord}
use Rattle.suite.specs.declared.keys.Keys.{Keys}
use Rattle.exchange.specs.Headers.{is_initiator, keys_of, other_role, sent_header}
use Rattle.exchange.specs.Sealed.{plain_of_message, IsSealed}
use Rattle.exchange.specs.declared.headers.Role.{Role}
use Rattle.exchange.specs.declared.headers.Role.TheVariants.{Initiator, Responder}
use Rattle.sadb.specs.Database.{Database}
use Rattle.association.specs.Phases.{keys_in}
use Rattle.association.specs.Receiving.{Opening}
use Rattle.association.specs.declared.phase.Association.{Association}
use Rattle.auth.specs.Windows.{peer_window, IsWindow}
use Rattle.setup.specs.Configs.{Setup}
use Rattle.effects.specs.Moves.{first_ledger, ledger_of, Close, Count, Issue, KeepsReply, Lead, Ledger, Make, Move, Moves, Remove, TakeEffect, WaitsWith}
use Rattle.effects.specs.Requests.{IsSoundlyHeld, KeepsPeersWindow}
use Rattle.effects.specs.Taking.{Meaning, TakesMessage}
use Rattle.effects.specs.declared.taking.Effect.{Effect}
use Rattle.ike.specs.Lengths.{HoldWholeKeys}
use Rattle.ike.specs.Machines.{association_of, keys_of_serial, setup_at, Held, Machine}
use Rattle.ike.specs.Moves.{ledger_at, ComesFor, HasFresh, HasSeal, MoveComes, MovesAt, Tells}
use Rattle.ike.specs.Outputs.{octets_in}
use Rattle.ike.specs.LawsOfSealing.{WhatGoesOutUnderKeysIsSealed, WhatIsToldWasTaken}
use Rattle.ike.specs.Sealing.{IsFreshOf, SealsNow, TellsOfMessageAt}
use Rattle.ike.specs.Steps as ike
use Rattle.ike.specs.Tracing.{HoldsKeys}
use Rattle.ike.specs.declared.output.IkeOutput.TheVariants as output
use Rattle.ike.specs.declared.output.Mark as marks
use Rattle.ike.specs.declared.output.Stepped.{Stepped}
use Rattle.ike.specs.declared.output.Trace.{Trace}
use Rattle.lockstep.specs.Ends.{Entry}
use Rattle.lockstep.specs.Parties.{under, Holds, IsSoundParty}
use Rattle.ike.specs.Payloads.{OpensToItself}
use Rattle.gateway.specs.Outputs.{wants_memory, OutputView, Repeat, Reply, Request, Sealed}
use Rattle.gateway.specs.Requests.{for_ike, IsDatagram}
use Rattle.gateway.specs.States.{association_in, State}
use Rattle.gateway.specs.WorldHistories.{Happening, IsWorldTrail}
use Rattle.gateway.specs.WorldParties.{party_at, sent_at, HasSent, HoldsUnder, IsNeverMadeTwice, IsSoundUnder}
use Rattle.gateway.specs.WorldPromises.{ComesUnder, IsUnforged}
use Rattle.gateway.specs.WorldRuns.{IsLater}
use Rattle.gateway.specs.WorldWindows.{window_at, AccountsForWindows, TellsWindow, WasToldWindow, WindowsFit}
use Rattle.gateway.specs.Worlds.{again_as, datagram_of, gateway_at, other_end, requests_in, sent_by, sent_once, storing, IsFreshlyGiven, Stored, TakesEvent, WorldState}
use Rattle.gateway.specs.declared.world.stored.Datagram.{Datagram}
use Rattle.gateway.specs.declared.world.stored.End.{End}
use Rattle.gateway.specs.declared.world.stored.End.TheVariants.{A, B}
use Rattle.gateway.specs.declared.world.stored.Protection.TheVariants as mark
use Rattle.gateway.proofs.ChildLemmas.{brought, gateway_here, gateway_there, keys_at, opened_with, way_of, Answered, Brought, ChildLaws, ShareCipher}
use Rattle.gateway.proofs.HistoryLemmas.{does_way}
use Rattle.gateway.proofs.MoveLemmas.{input_moves, octets_same, said_octets, wants_none, way_keys, TurnLaws}
use Rattle.gateway.proofs.PartyLemmas.{at_head, from_map, further_on, has_ledger, ledger_keys, ledger_there, none_some, none_there, sent_there, single, some_is}
use Rattle.gateway.proofs.SoundWorldLemmas.{both_sound, each_end, sound_after, still_sent, trail_later, BothSound, PartyLaws}
use Rattle.gateway.proofs.ToldLemmas.{step_tells}
use Rattle.gateway.proofs.TurnLemmas.{again_is, is_under, once_is, IsAgain, IsSaid}
use Rattle.gateway.proofs.WorldLemmas.{stored_at}

-- what is known of what a step seals, and of the message that it takes
pub record SealingLaws : Type 0 where
  pub sealed : WhatGoesOutUnderKeysIsSealed
  pub taken : WhatIsToldWasTaken
  pub bounds : (payloads : List Payload) → IsWindow (peer_window payloads)

-- what is known of the window for this end's requests
pub record PeersLaws : Type 0 where
  pub peers : (meaning : Meaning) (setup : Setup) (old : Association) (table : Database) (octets : Octets) (m : Message) (effect : Effect) (new : Association) (new_table : Database)
      → IsSoundlyHeld old → TakesMessage meaning setup old table octets m effect new new_table → KeepsPeersWindow meaning.plain_of octets m old new
  pub serial : (meaning : Meaning) (setup : Setup) (old : Association) (table : Database) (octets : Octets) (m : Message) (effect : Effect) (new : Association) (new_table : Database)
      → TakesMessage meaning setup old table octets m effect new new_table → new.serial ≡ old.serial

-- ---- what moves leave of a window

-- a message widens it
abbrev MayWiden : List Move → Type 0
MayWiden moves = ((number : ℕ) × Contains moves (Count number)) ⊎ ((number : ℕ) × (reply : Octets) × Contains moves (TakeEffect number reply))

data WindowBy (moves : List Move) (old : Option Ledger) (l : Ledger) : Type 0 where
  begins : l.window ≡ 1 → WindowBy moves old l
  keeps : (before : Ledger) → old ≡ Some before → l.window ≡ before.window → WindowBy moves old l
  widens : MayWiden moves → WindowBy moves old l

further_moves : (m : Move) (ms : List Move) → MayWiden ms → MayWiden (m ∷ ms)
further_moves m ms (inl is) = inl (is.0, further_on m ms (Count is.0) is.1)
further_moves m ms (inr is) = inr (is.0, is.1, further_on m ms (TakeEffect is.0 is.1) is.2)

first_window : (keys : KeyRecord) (l : Ledger) → l ≡ first_ledger keys l.role → l.window ≡ 1
first_window keys l is = ap (λ (x : Ledger). x.window) is ∙ of l.role where
  of : (r : Role) → (first_ledger keys r).window ≡ 1
  of Initiator = refl
  of Responder = refl

-- after one move whose ledger is between, the rest leads on
window_after : (m : Move) (ms : List Move) (old : Option Ledger) (between l : Ledger) → WindowBy (m ∷ ms) old between → WindowBy ms (Some between) l → WindowBy (m ∷ ms) old l
window_after m ms old between l first (begins one) = begins one
window_after m ms old between l first (widens more) = widens (further_moves m ms more)
window_after m ms old between l (begins one) (keeps before is same) =
    begins (same ∙ ap (λ (x : Ledger). x.window) (sym (some_is between before is)) ∙ one)
window_after m ms old between l (widens more) (keeps before is same) = widens more
window_after m ms old between l (keeps own was alike) (keeps before is same) =
    keeps own was (same ∙ ap (λ (x : Ledger). x.window) (sym (some_is between before is)) ∙ alike)

module _ (ms : List Move) (l : Ledger) (later : (between : Option Ledger) → Lead ms between (Some l) → WindowBy ms between l) where
  last : (m : Move) (old : Option Ledger) (between : Ledger) → WindowBy (m ∷ ms) old between → Lead ms (Some between) (Some l) → WindowBy (m ∷ ms) old l
  last m old between first rest = window_after m ms old between l first (later (Some between) rest)

  after_none : (own : Ledger) → WindowBy ms None l → WindowBy (Remove ∷ ms) (Some own) l
  after_none own (begins one) = begins one
  after_none own (keeps before is same) = absurd (none_some before is)
  after_none own (widens more) = widens (further_moves Remove ms more)

  led_by : (m : Move) (old between : Option Ledger) → Moves m old between → Lead ms between (Some l) → WindowBy (m ∷ ms) old l
  led_by (Make keys) None (Some between) is rest = last (Make keys) None between (begins (first_window keys between is.content)) rest
  led_by (Make keys) None None is rest = absurd is
  led_by (Make keys) (Some own) None is rest = absurd is
  led_by (Make keys) (Some own) (Some between) is rest = absurd is
  led_by (Issue number octets) (Some own) (Some between) is rest = last (Issue number octets) (Some own) between (keeps own refl (ap (λ (x : Ledger). x.window) is.content)) rest
  led_by (Issue number octets) (Some own) None is rest = absurd is
  led_by (Issue number octets) None None is rest = absurd is
  led_by (Issue number octets) None (Some between) is rest = absurd is
  led_by (Count number) (Some own) (Some between) is rest = last (Count number) (Some own) between (widens (inl (number, at_head (Count number) ms))) rest
  led_by (Count number) (Some own) None is rest = absurd is
  led_by (Count number) None None is rest = absurd is
  led_by (Count number) None (Some between) is rest = absurd is
  led_by (TakeEffect number reply) (Some own) (Some between) is rest = last (TakeEffect number reply) (Some own) between (widens (inr (number, reply, at_head (TakeEffect number reply) ms))) rest
  led_by (TakeEffect number reply) (Some own) None is rest = absurd is
  led_by (TakeEffect number reply) None None is rest = absurd is
  led_by (TakeEffect number reply) None (Some between) is rest = absurd is
  led_by Close (Some own) (Some between) is rest = last Close (Some own) between (keeps own refl (ap (λ (x : Ledger). x.window) is.content)) rest
  led_by Close (Some own) None is rest = absurd is
  led_by Close None None is rest = absurd is
  led_by Close None (Some between) is rest = absurd is
  led_by Remove (Some own) None is rest = after_none own (later None rest)
  led_by Remove (Some own) (Some between) is rest = absurd is
  led_by Remove None None is rest = absurd is
  led_by Remove None (Some between) is rest = absurd is

window_led : (moves : List Move) (old : Option Ledger) (l : Ledger) → Lead moves old (Some l) → WindowBy moves old l
window_led [] old l lead = keeps l (sym lead) refl
window_led (m ∷ ms) old l lead = led_by ms l (λ between rest. window_led ms between l rest) m old lead.0 lead.1 lead.2

-- ---- what is fresh, what is held

seal_of : (view : ike.InputView) (fresh : Fresh) → IsFreshOf view fresh → HasFresh view → HasSeal fresh
seal_of (ike.Message from octets given) fresh same is = subst (λ (f : Fresh). HasSeal f) same is
seal_of (ike.Start serial place given) fresh same is = subst (λ (f : Fresh). HasSeal f) same is
seal_of (ike.Order what given) fresh same is = subst (λ (f : Fresh). HasSeal f) same is
seal_of (ike.Secret secret) fresh same is = absurd same
seal_of (ike.Tick moment) fresh same is = absurd same

config_stays : (meaning : Meaning) (entries : List policy.Entry) (view : ike.InputView) (old : Machine) (table : Database) (stepped : Stepped) (new : Machine) (new_table : Database)
    → ike.Steps meaning entries view old table stepped new new_table → new.config.window ≡ old.config.window
config_stays meaning entries (ike.Message from octets fresh) old table stepped new new_table is = ap (λ (m : Machine). m.config.window) is.0
config_stays meaning entries (ike.Start serial place fresh) old table stepped new new_table is = ap (λ (m : Machine). m.config.window) is.0
config_stays meaning entries (ike.Order what fresh) old table stepped new new_table is = ap (λ (m : Machine). m.config.window) is.0
config_stays meaning entries (ike.Secret secret) old table stepped new new_table is = ap (λ (m : Machine). m.config.window) is.content
config_stays meaning entries (ike.Tick moment) old table stepped new new_table is = ap (λ (m : Machine). m.config.window) is.content

record WaitsSo (o : Option Ledger) (number : ℕ) (octets : Octets) : Type 0 where
  ledger : Ledger
  there : o ≡ Some ledger
  waits : ledger.outstanding number ≡ Some octets

waits_so : (o : Option Ledger) (number : ℕ) (octets : Octets) → WaitsWith o number octets → WaitsSo o number octets
waits_so None number octets is = absurd is
waits_so (Some l) number octets is = record { ledger = l; there = refl; waits = is }

record KeepsSo (o : Option Ledger) (number : ℕ) (octets : Octets) : Type 0 where
  ledger : Ledger
  there : o ≡ Some ledger
  kept : finite.get ledger.kept number ≡ Some octets

keeps_so : (o : Option Ledger) (number : ℕ) (octets : Octets) → KeepsReply o number octets → KeepsSo o number octets
keeps_so None number octets is = absurd is
keeps_so (Some l) number octets is = record { ledger = l; there = refl; kept = is }

-- ---- the other end's messages are not among these

ends_apart : (e : End) → e ≡ other_end e → ⊥
ends_apart A is = cc
ends_apart B is = cc

none_once : {C : Type 0} (e : End) (s : OutputView) (sent : Option marks.Mark) (gateway : State C) (d : Datagram) → Contains (sent_once e s sent gateway) d → d.end ≡ e
none_once {C} e (Reply octets closed) sent gateway d there = sym (ap (λ (x : Datagram). x.end) (single _ d there))
none_once {C} e (Repeat octets) sent gateway d there = sym (ap (λ (x : Datagram). x.end) (single _ d there))
none_once {C} e (Request serial octets) sent gateway d there = sym (ap (λ (x : Datagram). x.end) (single _ d there))
none_once {C} e (Sealed child number octets) sent gateway d there = sym (ap (λ (x : Datagram). x.end) (single _ d there))
none_once {C} e _ sent gateway d there = absurd (none_there d there)

none_of_other : {C : Type 0} (e : End) (s : OutputView) (sent : Option marks.Mark) (gateway : State C) (keys : KeyRecord) (response : Bool) (number : ℕ) (octets : Octets)
    → Contains (sent_by e s sent gateway) (datagram_of (other_end e) (mark.Ike keys response number) octets) → ⊥
none_of_other {C} e s sent gateway keys response number octets there =
    let d = datagram_of (other_end e) (mark.Ike keys response number) octets in
    elim (Contains-append_cases (sent_once e s sent gateway) (map (again_as e gateway.machine) (requests_in s)) d there) [
      | inl once ↦ ends_apart e (sym (none_once e s sent gateway d once))
      | inr again ↦ (
          let from = from_map (again_as e gateway.machine) (requests_in s) d again in
          ends_apart e (ap (λ (x : Datagram). x.end) from.is))
    ]

-- ---- an event

module _ {C : Type 0} (turns : TurnLaws) (parties : PartyLaws) (kin : ChildLaws) (windows : SealingLaws) (peers_law : PeersLaws) (meaning_of : C → Meaning) (body_of : Keys → Octets → Octets → Octets → Octets) (plain_of : Opening)
    (shares : ShareCipher meaning_of body_of plain_of) (keys : KeyRecord) where
  module _ (h : Happening C) (t : TakesEvent meaning_of h.event h.before h.said h.after) (last : Stored) (later : IsLater h.after.stored last)
      (unforged : (response : Bool) (number : ℕ) (octets : Octets) → ComesUnder meaning_of keys response number octets h → HasSent (other_end h.event.end) keys response number octets last)
      (sound : IsSoundParty keys (party_at h.event.end h.before) (under keys (sent_at (other_end h.event.end) last.sent)))
      (known : AccountsForWindows body_of plain_of keys h.before last) where
    abbrev e : End
    e = h.event.end

    abbrev was : State C
    was = gateway_at e h.before

    abbrev meaning : Meaning
    meaning = meaning_of was.caller

    abbrev now : Stored
    now = storing e h.said t.trace t.gateway h.before.stored

    here : gateway_at e h.after ≡ t.gateway
    here = ap (λ (w : WorldState C). gateway_at e w) t.content ∙ gateway_here e t.gateway now h.before

    there : gateway_at (other_end e) h.after ≡ gateway_at (other_end e) h.before
    there = ap (λ (w : WorldState C). gateway_at (other_end e) w) t.content ∙ gateway_there e t.gateway now h.before

    stored_now : h.after.stored ≡ now
    stored_now = ap (λ (w : WorldState C). w.stored) t.content ∙ stored_at e t.gateway now h.before

    window_here : window_at e h.after ≡ window_at e h.before
    window_here = elim (way_of meaning h.event.input was h.said t.trace t.gateway t.traces.does) [
      | inl w ↦ ap (λ (s : State C). s.machine.config.window) here ∙ config_stays meaning was.entries w.view was.machine was.table w.stepped t.gateway.machine t.gateway.table w.steps
      | inr still ↦ ap (λ (s : State C). s.machine.config.window) here ∙ ap (λ (m : Machine). m.config.window) still.machine
    ]

    window_there : window_at (other_end e) h.after ≡ window_at (other_end e) h.before
    window_there = ap (λ (s : State C). s.machine.config.window) there

    told_before : (response : Bool) (number : ℕ) (octets : Octets) → HasSent e keys response number octets h.before.stored → TellsWindow body_of keys response number (window_at e h.before) octets
    told_before response number octets sent = known.tells e response number octets sent

    abbrev held : Held
    held = t.gateway.machine.held

    -- what has keys after the step had the same ones before it, if any
    keys_before : (serial : ℕ) (k : KeyRecord) → keys_of_serial serial was.machine.held.associations ≡ Some k → keys_of_serial serial held.associations ≡ Some keys → k ≡ keys
    keys_before serial k old new =
        let found = held_keys (association_of serial held.associations) refl in
        some_is k keys (sym (way_keys turns meaning (for_ike h.event.input) was h.said t.gateway serial k found.0 t.sound.table t.sound.machine (does_way meaning h.event.input was h.said t.trace t.gateway t.traces.does) old found.1) ∙ found.2) where
          held_keys : (o : Option Association) → association_of serial held.associations ≡ o → (a : Association) × (association_of serial held.associations ≡ Some a) × (keys_in a.phase ≡ Some keys)
          held_keys None is = absurd (none_some keys (sym (ap (λ (x : Option Association). option_and_then (λ a. keys_in a.phase) x) is) ∙ new))
          held_keys (Some a) is = (a, is, sym (ap (λ (x : Option Association). option_and_then (λ a. keys_in a.phase) x) is) ∙ new)

    -- ---- what goes out again was sent before

    holds_before : (serial : ℕ) (l : Ledger) → ledger_at was.machine.held serial ≡ Some l → keys_of_serial serial held.associations ≡ Some keys → Holds (party_at e h.before) keys serial l
    holds_before serial l old new = record { there = old; keyed = keys_before serial l.keys (ledger_keys was.machine.held serial l old) new }

    stored_before : (entry : Entry) → Contains (under keys (sent_at e h.before.stored.sent)) entry → HasSent e keys entry.response entry.number entry.octets h.before.stored
    stored_before entry stands = sent_there e h.before.stored.sent keys entry ((parties.told keys (sent_at e h.before.stored.sent) entry).0 stands)

    waits_told : (serial number : ℕ) (octets : Octets) → WaitsWith (ledger_at was.machine.held serial) number octets → keys_of_serial serial held.associations ≡ Some keys
        → TellsWindow body_of keys false number (window_at e h.before) octets
    waits_told serial number octets waits new =
        let l = waits_so (ledger_at was.machine.held serial) number octets waits in
        let own = (sound.holds serial l.ledger (holds_before serial l.ledger l.there new)).own in
        told_before false number octets (stored_before (record { response = false; number = number; octets = octets }) (own.waits number octets l.waits))

    kept_told : (serial number : ℕ) (octets : Octets) → KeepsReply (ledger_at was.machine.held serial) number octets → keys_of_serial serial held.associations ≡ Some keys
        → TellsWindow body_of keys true number (window_at e h.before) octets
    kept_told serial number octets kept new =
        let l = keeps_so (ledger_at was.machine.held serial) number octets kept in
        let own = (sound.holds serial l.ledger (holds_before serial l.ledger l.there new)).own in
        told_before true number octets (stored_before (record { response = true; number = number; octets = octets }) (own.kept number octets l.kept))

    again_told : (entry : Entry) → IsAgain h.said t.gateway.machine keys entry → TellsWindow body_of keys entry.response entry.number (window_at e h.before) entry.octets
    again_told entry it =
        let moves = input_moves turns meaning h.event.input was t.gateway h.said t.trace it.request.ike t.sound.machine t.traces.does in
        let waits = moves.again it.requests it.closed it.request it.ticked it.there refl it.sealed in
        subst (λ (x : Entry). TellsWindow body_of keys x.response x.number (window_at e h.before) x.octets) it.is (waits_told it.request.ike it.request.number it.request.octets waits it.keyed)

    module _ (w : Answered meaning (for_ike h.event.input) was h.said t.trace t.gateway) where
      whole_new : HoldWholeKeys held
      whole_new = kin.whole meaning was.entries w.view was.machine was.table w.stepped t.gateway.machine t.gateway.table (kin.sound was.machine was.table t.sound.machine) w.steps

      moves_at : (serial : ℕ) → MovesAt meaning w.view was.machine.held w.stepped held serial
      moves_at serial = turns.moves meaning was.entries w.view was.machine was.table w.stepped t.gateway.machine t.gateway.table serial t.sound.machine w.steps

      comes_by : (serial : ℕ) (move : Move) → Contains (moves_at serial).moves move → MoveComes meaning w.view was.machine.held serial move
      comes_by serial move stands =
          All-contains (MoveComes meaning w.view was.machine.held serial) (moves_at serial).moves move (All-from_recursion (MoveComes meaning w.view was.machine.held serial) (moves_at serial).moves (moves_at serial).came) stands

      told_by : (serial : ℕ) (move : Move) → Contains (moves_at serial).moves move → Tells w.view w.stepped serial move
      told_by serial move stands =
          All-contains (Tells w.view w.stepped serial) (moves_at serial).moves move (All-from_recursion (Tells w.view w.stepped serial) (moves_at serial).moves (moves_at serial).told) stands

      fresh_view : HasFresh w.view
      fresh_view = subst (λ (o : Option ike.InputView). IsFreshlyGiven o) w.is t.fresh

      -- ---- what goes out for the first time

      repeats_told : (m : marks.Mark) (octets : Octets) → w.stepped.trace.sent ≡ Some m → w.stepped.output ≡ output.Repeat octets → keys_of_serial m.ike held.associations ≡ Some keys
          → TellsWindow body_of keys m.response m.number (window_at e h.before) octets
      repeats_told m octets named said new =
          elim ((moves_at m.ike).no_more.sent m octets named refl (ap octets_in said)) [
            | inl issued ↦ absurd (
                let told = told_by m.ike (Issue m.number octets) issued.1 in
                let no : output.Repeat octets ≡ output.Request m.ike octets = sym said ∙ told.0 in
                cc)
            | inr (response, inl taken) ↦ absurd (
                let told = told_by m.ike (TakeEffect m.number octets) taken in
                let no : output.Repeat octets ≡ output.Reply octets told.0 = sym said ∙ told.1 in
                cc)
            | inr (response, inr repeats) ↦ subst (λ (b : Bool). TellsWindow body_of keys b m.number (window_at e h.before) octets) (sym response) (kept_told m.ike m.number octets repeats.kept new)
          ]

      seals_told : (m : marks.Mark) (octets : Octets) (fresh : Fresh) → IsFreshOf w.view fresh → (s : SealsNow meaning.body_of was.machine.held held was.machine.config.window fresh m octets)
          → (stands : HoldsKeys held m.ike) → keys_of_serial m.ike held.associations ≡ Some keys → TellsWindow body_of keys m.response m.number (window_at e h.before) octets
      seals_told m octets fresh own s stands new =
          let seal = seal_of w.view fresh own fresh_view in
          let same : s.keys ≡ keys = elim s.keyed [ inl old ↦ keys_before m.ike s.keys old new | inr now ↦ some_is s.keys keys (sym now ∙ new) ] in
          let keyed : keys_in stands.association.phase ≡ Some keys = sym (ap (λ (x : Option Association). option_and_then (λ a. keys_in a.phase) x) stands.there) ∙ new in
          record {
            exchange = s.exchange;
            payloads = s.payloads;
            sealed = record {
              header = sent_header s.spi_i s.spi_r s.exchange s.role m.response m.number;
              header_is = record { exchange_is = refl; response_is = refl; number_is = refl };
              sender = s.role;
              from_sender = refl;
              keyed = keys_at stands.association keys s.role (kin.each_whole held m.ike stands.association whole_new stands.there) keyed;
              fresh = fresh.seal;
              fresh_octets = seal.octets;
              fresh_long = seal.many;
              sealed = subst (λ (b : Keys → Octets → Octets → Octets → Octets). IsSealed b (keys_of s.role keys) fresh.seal (record { header = sent_header s.spi_i s.spi_r s.exchange s.role m.response m.number; payloads = s.payloads }) octets) (shares.body was.caller)
                  (subst (λ (k : KeyRecord). IsSealed meaning.body_of (keys_of s.role k) fresh.seal (record { header = sent_header s.spi_i s.spi_r s.exchange s.role m.response m.number; payloads = s.payloads }) octets) same s.sealed);
            };
            tells = s.tells;
          }

      said_told : (entry : Entry) → IsSaid h.said t.trace.sent t.gateway.machine keys entry → TellsWindow body_of keys entry.response entry.number (window_at e h.before) entry.octets
      said_told entry it =
          let u = is_under t.gateway.machine t.trace.sent keys entry.response entry.number it.under in
          let named : w.stepped.trace.sent ≡ Some u.mark = sym (ap (λ (x : Trace). x.sent) w.traced) ∙ u.named in
          let said : octets_in w.stepped.output ≡ Some entry.octets = sym (octets_same w.stepped.output) ∙ sym (ap said_octets w.output) ∙ it.octets in
          let goes = windows.sealed meaning was.entries w.view was.machine was.table w.stepped t.gateway.machine t.gateway.table u.mark entry.octets t.sound.machine w.steps named said in
          let stands = (step_tells turns.traces meaning h.event.input h.said t.trace was t.gateway t.sound.table t.sound.machine t.traces).sent u.mark u.named in
          let tells : TellsWindow body_of keys u.mark.response u.mark.number (window_at e h.before) entry.octets = elim goes.goes [
            | inl repeats ↦ repeats_told u.mark entry.octets named repeats u.keyed
            | inr seals ↦ seals_told u.mark entry.octets goes.fresh goes.own seals stands u.keyed
          ] in
          subst (λ (b : Bool). TellsWindow body_of keys b entry.number (window_at e h.before) entry.octets) u.is_response
          (subst (λ (n : ℕ). TellsWindow body_of keys u.mark.response n (window_at e h.before) entry.octets) u.number_is tells)

      -- ---- what an end counts for the other

      counts_as : (serial : ℕ) (a before : Association) → association_of serial was.machine.held.associations ≡ Some before → keys_in before.phase ≡ Some keys → a.outgoing.window ≡ before.outgoing.window
          → (a.outgoing.window ≤ 1) ⊎ WasToldWindow plain_of keys e a.outgoing.window last
      counts_as serial a before stood keyed same =
          subst (λ (n : ℕ). (n ≤ 1) ⊎ WasToldWindow plain_of keys e n last) (sym same) (known.counts e before (record { serial = serial; there = stood; keyed = keyed }))

      widened_by : (n : ℕ) (payloads : List Payload) (before : ℕ) → n ≡ max (peer_window payloads) before → ((before ≤ 1) ⊎ WasToldWindow plain_of keys e before last)
          → ((within : n ≤ peer_window payloads) → WasToldWindow plain_of keys e n last) → (n ≤ 1) ⊎ WasToldWindow plain_of keys e n last
      widened_by n payloads before is (inl less) told =
          let least = (windows.bounds payloads).least in
          let most : before ≤ peer_window payloads = omega (arith, less, least) in
          let same : peer_window payloads ≤ peer_window payloads = omega arith in
          let within : max (peer_window payloads) before ≤ peer_window payloads = max-le same most in
          inr (told (subst (λ (k : ℕ). k ≤ peer_window payloads) (sym is) within))
      widened_by n payloads before is (inr earlier) told = elim (leb_tells before (peer_window payloads)) [
        | inl (leads, less) ↦
            let same : peer_window payloads ≤ peer_window payloads = omega arith in
            let within : max (peer_window payloads) before ≤ peer_window payloads = max-le same less in
            inr (told (subst (λ (k : ℕ). k ≤ peer_window payloads) (sym is) within))
        | inr (trails, more) ↦
            let below : peer_window payloads ≤ before = omega (arith, more) in
            let same : before ≤ before = omega arith in
            let within : max (peer_window payloads) before ≤ before = max-le below same in
            let fits : n ≤ before = subst (λ (k : ℕ). k ≤ before) (sym is) within in
            let bound = earlier.within in
            inr (record {
              response = earlier.response;
              number = earlier.number;
              octets = earlier.octets;
              sent = earlier.sent;
              exchange = earlier.exchange;
              payloads = earlier.payloads;
              opened = earlier.opened;
              within = omega (arith, fits, bound);
            })
      ]

      record Arrives (response : Bool) (serial number : ℕ) : Type 0 where
        association : Association
        stood : association_of serial was.machine.held.associations ≡ Some association
        by : Brought meaning w.view association response number

      arrives : (response : Bool) (serial number : ℕ) → ComesFor meaning w.view was.machine.held serial response number → Arrives response serial number
      arrives response serial number comes = record { association = comes.association; stood = comes.there; by = brought meaning w.view comes.association response number comes.comes }

      module _ (serial : ℕ) (a : Association) (a_there : association_of serial held.associations ≡ Some a) (keyed : keys_in a.phase ≡ Some keys) where
        keyed_now : keys_of_serial serial held.associations ≡ Some keys
        keyed_now = ap (λ (o : Option Association). option_and_then (λ x. keys_in x.phase) o) a_there ∙ keyed

        by_message : (response : Bool) (number : ℕ) → Arrives response serial number → TellsOfMessageAt w.stepped serial → (a.outgoing.window ≤ 1) ⊎ WasToldWindow plain_of keys e a.outgoing.window last
        by_message response number it told =
            let message = it.by.message in
            let opens = it.by.opens in
            let steps = subst (λ (v : ike.InputView). ike.Steps meaning was.entries v was.machine was.table w.stepped t.gateway.machine t.gateway.table) message.is w.steps in
            let by = windows.taken meaning was.entries message.from message.octets message.fresh was.machine was.table w.stepped t.gateway.machine t.gateway.table serial t.sound.machine steps told in
            let own : it.association ≡ by.was = some_is it.association by.was (sym it.stood ∙ by.stood) in
            let itself : by.is ≡ a = some_is by.is a (sym (by.stands (peers_law.serial meaning (setup_at was.machine was.entries message.fresh) by.was was.table message.octets by.message by.effect by.is t.gateway.table by.takes)) ∙ a_there) in
            let before_keys : opens.keys ≡ keys = keys_before serial opens.keys (ap (λ (o : Option Association). option_and_then (λ x. keys_in x.phase) o) it.stood ∙ opens.keyed) keyed_now in
            let was_keyed : keys_in by.was.phase ≡ Some keys = ap (λ (x : Association). keys_in x.phase) (sym own) ∙ opens.keyed ∙ ap (λ (k : KeyRecord). Some k) before_keys in
            let counted = known.counts e by.was (record { serial = serial; there = by.stood; keyed = was_keyed }) in
            elim (peers_law.peers meaning (setup_at was.machine was.entries message.fresh) by.was was.table message.octets by.message by.effect by.is t.gateway.table (kin.each_sound was.machine was.table serial by.was t.sound.machine by.stood).soundly by.takes) [
              | inl same ↦ counts_as serial a by.was by.stood was_keyed (ap (λ (x : Association). x.outgoing.window) (sym itself) ∙ same)
              | inr more ↦ widened_by a.outgoing.window more.payloads by.was.outgoing.window (ap (λ (x : Association). x.outgoing.window) (sym itself) ∙ more.window) counted (λ within.
                  let same : opens.message ≡ by.message = kin.one_message opens.message by.message message.octets opens.spelled by.spelled in
                  record {
                    response = response;
                    number = number;
                    octets = message.octets;
                    sent = unforged response number message.octets (record {
                      association = it.association;
                      held = record { serial = serial; there = it.stood; keyed = opens.keyed ∙ ap (λ (k : KeyRecord). Some k) before_keys };
                      datagram = subst (λ (o : Option ike.InputView). IsDatagram o message.octets) (sym w.is) (subst (λ (v : ike.InputView). IsDatagram (Some v) message.octets) (sym message.is) refl);
                      opens = opens;
                      delivered = ap wants_memory w.output ∙ wants_none w.stepped.output;
                    });
                    exchange = by.message.header.exchange;
                    payloads = more.payloads;
                    opened = record {
                      message = by.message;
                      spelled = by.spelled;
                      header_is = record {
                        exchange_is = refl;
                        response_is = sym (ap (λ (m : Message). m.header.flags.response) same) ∙ opens.is_response;
                        number_is = sym (ap (λ (m : Message). m.header.id) same) ∙ opens.number_is;
                      };
                      sender = other_role by.was.role;
                      from_sender = sym (ap (λ (m : Message). m.header.flags.initiator) same) ∙ opens.from_sender ∙ ap (λ (x : Association). is_initiator (other_role x.role)) own;
                      plain = more.told.plain;
                      opened = subst (λ (p : Opening). plain_of_message p (keys_of (other_role by.was.role) keys) message.octets by.message.payloads ≡ Some more.told.plain) (shares.plain was.caller)
                          (opened_with meaning.plain_of by.was.role (keys_in by.was.phase) keys message.octets by.message.payloads more.told.plain was_keyed more.told.opened);
                      read = more.told.read;
                    };
                    within = within;
                  })
            ]

        counts_so : (a.outgoing.window ≤ 1) ⊎ WasToldWindow plain_of keys e a.outgoing.window last
        counts_so = by_moves (window_led (moves_at serial).moves (ledger_at was.machine.held serial) (ledger_of a keys)
            (subst (λ (o : Option Ledger). Lead (moves_at serial).moves (ledger_at was.machine.held serial) o) (ledger_there held serial a keys a_there keyed) (moves_at serial).lead)) where
              by_moves : WindowBy (moves_at serial).moves (ledger_at was.machine.held serial) (ledger_of a keys) → (a.outgoing.window ≤ 1) ⊎ WasToldWindow plain_of keys e a.outgoing.window last
              by_moves (begins one) = inl (omega (arith, one))
              by_moves (keeps before old same) =
                  let own = has_ledger was.machine.held serial before old in
                  let before_keys = keys_before serial before.keys (ledger_keys was.machine.held serial before old) keyed_now in
                  let ledger_is : ledger_of own.association before.keys ≡ before = some_is _ before (sym (ledger_there was.machine.held serial own.association before.keys own.there own.keyed) ∙ old) in
                  counts_as serial a own.association own.there (own.keyed ∙ ap (λ (k : KeyRecord). Some k) before_keys) (same ∙ sym (ap (λ (l : Ledger). l.window) ledger_is))
              by_moves (widens (inl counted)) =
                  let told = told_by serial (Count counted.0) counted.1 in
                  by_message true counted.0 (arrives true serial counted.0 (comes_by serial (Count counted.0) counted.1)) (inl (told.0, told.1, told.2))
              by_moves (widens (inr taken)) =
                  let told = told_by serial (TakeEffect taken.0 taken.1) taken.2 in
                  by_message false taken.0 (arrives false serial taken.0 (comes_by serial (TakeEffect taken.0 taken.1) taken.2)) (inr (taken.0, taken.1, told.0, told.1, told.2))

    -- ---- all of it

    once_told : (entry : Entry) → IsSaid h.said t.trace.sent t.gateway.machine keys entry → TellsWindow body_of keys entry.response entry.number (window_at e h.before) entry.octets
    once_told entry it = elim (way_of meaning h.event.input was h.said t.trace t.gateway t.traces.does) [
      | inl w ↦ said_told w entry it
      | inr still ↦ absurd (
          let u = is_under t.gateway.machine t.trace.sent keys entry.response entry.number it.under in
          none_some u.mark (sym (ap (λ (x : Trace). x.sent) still.traced) ∙ u.named))
    ]

    tells_old : (response : Bool) (number : ℕ) (octets : Octets) → HasSent e keys response number octets h.after.stored → TellsWindow body_of keys response number (window_at e h.before) octets
    tells_old response number octets sent =
        let d = datagram_of e (mark.Ike keys response number) octets in
        let entry : Entry = record { response = response; number = number; octets = octets } in
        elim (Contains-append_cases h.before.stored.sent (sent_by e h.said t.trace.sent t.gateway) d (subst (λ (s : Stored). Contains s.sent d) stored_now sent)) [
          | inl old ↦ told_before response number octets old
          | inr new ↦ elim (Contains-append_cases (sent_once e h.said t.trace.sent t.gateway) (map (again_as e t.gateway.machine) (requests_in h.said)) d new) [
            | inl once ↦ once_told entry (once_is e h.said t.trace.sent t.gateway keys entry once)
            | inr again ↦ again_told entry (again_is e t.gateway.machine h.said keys entry again)
          ]
        ]

    counts_here : (a : Association) → HoldsUnder keys e h.after a → (a.outgoing.window ≤ 1) ⊎ WasToldWindow plain_of keys e a.outgoing.window last
    counts_here a holds =
        let stands : association_of holds.serial t.gateway.machine.held.associations ≡ Some a = ap (λ (s : State C). association_in s holds.serial) (sym here) ∙ holds.there in
        elim (way_of meaning h.event.input was h.said t.trace t.gateway t.traces.does) [
          | inl w ↦ counts_so w holds.serial a stands holds.keyed
          | inr still ↦ known.counts e a (record { serial = holds.serial; there = ap (λ (m : Machine). association_of holds.serial m.held.associations) (sym still.machine) ∙ stands; keyed = holds.keyed })
        ]

    tells_here : (response : Bool) (number : ℕ) (octets : Octets) → HasSent e keys response number octets h.after.stored → TellsWindow body_of keys response number (window_at e h.after) octets
    tells_here response number octets sent = subst (λ (n : ℕ). TellsWindow body_of keys response number n octets) (sym window_here) (tells_old response number octets sent)

    -- the other end sent nothing
    sent_there_before : (response : Bool) (number : ℕ) (octets : Octets) → HasSent (other_end e) keys response number octets h.after.stored → HasSent (other_end e) keys response number octets h.before.stored
    sent_there_before response number octets sent =
        let d = datagram_of (other_end e) (mark.Ike keys response number) octets in
        elim (Contains-append_cases h.before.stored.sent (sent_by e h.said t.trace.sent t.gateway) d (subst (λ (s : Stored). Contains s.sent d) stored_now sent)) [
          | inl old ↦ old
          | inr new ↦ absurd (none_of_other e h.said t.trace.sent t.gateway keys response number octets new)
        ]

    tells_there : (response : Bool) (number : ℕ) (octets : Octets) → HasSent (other_end e) keys response number octets h.after.stored → TellsWindow body_of keys response number (window_at (other_end e) h.after) octets
    tells_there response number octets sent =
        subst (λ (n : ℕ). TellsWindow body_of keys response number n octets) (sym window_there) (known.tells (other_end e) response number octets (sent_there_before response number octets sent))

    counts_there : (a : Association) → HoldsUnder keys (other_end e) h.after a → (a.outgoing.window ≤ 1) ⊎ WasToldWindow plain_of keys (other_end e) a.outgoing.window last
    counts_there a holds = known.counts (other_end e) a (record { serial = holds.serial; there = ap (λ (s : State C). association_in s holds.serial) (sym there) ∙ holds.there; keyed = holds.keyed })

    pub windows_after : AccountsForWindows body_of plain_of keys h.after last
    windows_after = record {
      least = each_end (λ end. 1 ≤ window_at end h.after) e (subst (λ (n : ℕ). 1 ≤ n) (sym window_here) (known.least e)) (subst (λ (n : ℕ). 1 ≤ n) (sym window_there) (known.least (other_end e)));
      tells = each_end (λ end. (response : Bool) (number : ℕ) (octets : Octets) → HasSent end keys response number octets h.after.stored → TellsWindow body_of keys response number (window_at end h.after) octets) e tells_here tells_there;
      counts = each_end (λ end. (a : Association) → HoldsUnder keys end h.after a → (a.outgoing.window ≤ 1) ⊎ WasToldWindow plain_of keys end a.outgoing.window last) e counts_here counts_there;
    }

  -- ---- over a list of events

  windows_trail : (hs : List (Happening C)) (old new : WorldState C) → IsWorldTrail meaning_of old hs new → IsUnforged meaning_of keys hs new.stored → IsNeverMadeTwice keys new.stored
      → BothSound turns parties meaning_of keys old new.stored → AccountsForWindows body_of plain_of keys old new.stored → AccountsForWindows body_of plain_of keys new new.stored
  windows_trail [] old new trail unforged once sound known = subst (λ (w : WorldState C). AccountsForWindows body_of plain_of keys w new.stored) (sym trail) known
  windows_trail (h ∷ hs) old new trail unforged once sound known =
      let later = trail_later meaning_of hs h.after new trail.2 in
      let sound_before : BothSound turns parties meaning_of keys h.before new.stored = subst (λ (w : WorldState C). BothSound turns parties meaning_of keys w new.stored) (sym trail.0) sound in
      let known_before : AccountsForWindows body_of plain_of keys h.before new.stored = subst (λ (w : WorldState C). AccountsForWindows body_of plain_of keys w new.stored) (sym trail.0) known in
      windows_trail hs h.after new trail.2 (λ place g response number octets there comes. unforged (suc place) g response number octets there comes) once
      (sound_after turns parties meaning_of keys h trail.1 new.stored later once (λ response number octets comes. unforged 0 h response number octets refl comes) sound_before)
      (windows_after h trail.1 new.stored later (λ response number octets comes. unforged 0 h response number octets refl comes) (sound_before h.event.end) known_before)

  windows_later : (w : WorldState C) (now last : Stored) → IsLater now last → AccountsForWindows body_of plain_of keys w now → AccountsForWindows body_of plain_of keys w last
  windows_later w now last later known = record {
    least = known.least;
    tells = known.tells;
    counts = λ end a holds. elim (known.counts end a holds) [
      | inl less ↦ inl less
      | inr told ↦ inr (record {
        response = told.response;
        number = told.number;
        octets = told.octets;
        sent = still_sent (other_end end) keys told.response told.number told.octets now last later told.sent;
        exchange = told.exchange;
        payloads = told.payloads;
        opened = told.opened;
        within = told.within;
      })
    ];
  }

  pub windows_stay : (hs : List (Happening C)) (old new : WorldState C) → IsWorldTrail meaning_of old hs new → IsUnforged meaning_of keys hs new.stored → IsNeverMadeTwice keys new.stored
      → IsSoundUnder keys old → AccountsForWindows body_of plain_of keys old old.stored → AccountsForWindows body_of plain_of keys new new.stored
  windows_stay hs old new trail unforged once sound known =
      let later = trail_later meaning_of hs old new trail in
      windows_trail hs old new trail unforged once (both_sound turns parties meaning_of keys old new.stored later sound) (windows_later old old.stored new.stored later known)

-- ---- so they fit

pub windows_fit : {C : Type 0} (body_of : Keys → Octets → Octets → Octets → Octets) (plain_of : Opening) → OpensToItself body_of plain_of → (keys : KeyRecord) (w : WorldState C) → AccountsForWindows body_of plain_of keys w w.stored → WindowsFit keys w
windows_fit {C} body_of plain_of opens keys w known end a holds = elim (known.counts end a holds) [
  | inl less ↦ (let least = known.least (other_end end) in omega (arith, less, least))
  | inr told ↦ (
      let tells = known.tells (other_end end) told.response told.number told.octets told.sent in
      let same = opens keys tells.exchange told.exchange told.response told.number tells.payloads told.payloads told.octets tells.sealed told.opened in
      let most : peer_window told.payloads ≤ window_at (other_end end) w = subst (λ (ps : List Payload). peer_window ps ≤ window_at (other_end end) w) same.payloads_are tells.tells in
      let within = told.within in
      omega (arith, most, within))
]
