-- A step of a gateway is a turn of its party.
use Rattle.std.proofs.Common.{◌≡◌, ◌⊎◌, ◌++◌, ◌∷◌, ℕ, Bool, true, false, List, [], Option, Some, None, Contains, map, ap, subst, refl, sym, ◌∙◌, inl, inr}
use Rattle.std.specs.Prelude.{if◌then◌else◌}
use Rattle.std.specs.Option.{option_to_list}
use Rattle.std.proofs.lemmas.List.Elements.{Contains-append_cases, Contains-append_left}
use Rattle.base.specs.Octets.{Octets}
use Rattle.suite.specs.declared.key_record.KeyRecord.{KeyRecord}
use Rattle.exchange.specs.Headers.{other_role}
use Rattle.sadb.specs.Database.{pair_at, IsSoundTable}
use Rattle.sadb.specs.declared.pair.Pair.{Pair}
use Rattle.association.specs.Phases.{keys_in}
use Rattle.association.specs.declared.phase.Association.{Association}
use Rattle.moments.specs.declared.resent.Resent.{Resent}
use Rattle.effects.specs.Moves.{ledger_of, Ledger, Make}
use Rattle.effects.specs.Openings.{OpensAsMessage}
use Rattle.effects.specs.Taking.{Meaning}
use Rattle.ike.specs.Machines.{association_of, keys_of_serial, Held, Machine}
use Rattle.ike.specs.Moves.{ledger_at, Comes}
use Rattle.ike.specs.Soundness.{IsSoundMachine}
use Rattle.ike.specs.Steps as ike
use Rattle.ike.specs.Tracing.{HoldsKeys}
use Rattle.ike.specs.declared.output.Mark as marks
use Rattle.ike.specs.declared.output.Trace.{Trace}
use Rattle.lockstep.specs.Ends.{request_of, sent_in, Entry, GoesOutAgain}
use Rattle.lockstep.specs.Parties.{Holds, IsGenuineTurn, IsSentNow, Party, TakesTurn, Turn}
use Rattle.gateway.specs.Inputs.{Input}
use Rattle.gateway.specs.Outputs.{wants_memory, OutputView, Repeat, Reply, Request, Sealed, Ticked}
use Rattle.gateway.specs.Requests.{for_ike, IsDatagram}
use Rattle.gateway.specs.States.{State}
use Rattle.gateway.specs.Steps.{Traces}
use Rattle.gateway.specs.WorldParties.{made_at, sent_at}
use Rattle.gateway.specs.Worlds.{again_as, datagram_of, esp_mark, ike_mark, keyed_by, mark_by, mark_under, requests_in, sent_by, sent_once, storing, Stored}
use Rattle.gateway.specs.declared.world.stored.Datagram.{Datagram}
use Rattle.gateway.specs.declared.world.stored.End.{End}
use Rattle.gateway.specs.declared.world.stored.Protection.{Protection}
use Rattle.gateway.specs.declared.world.stored.Protection.TheVariants as mark
use Rattle.gateway.proofs.HistoryLemmas.{does_way, IkeWay}
use Rattle.gateway.proofs.PartyLemmas.{as_stored, at_head, coming_by, coming_with, from_map, has_ledger, ledger_keys, ledger_there, made_appended, marked, none_some, none_there, own_made, sent_appended, sent_there, single, some_is, there_sent}
use Rattle.gateway.proofs.ToldLemmas.{again_held, keys_found, step_tells, TellsHeld}
use Rattle.gateway.proofs.MoveLemmas.{entry_of, input_moves, said_octets, way_keys, ComesHere, EndMoves, HasTaken, TurnLaws}

-- ---- what is stored of a step

-- a message under SK, as it is stored
pub record IsUnder (machine : Machine) (sent : Option marks.Mark) (keys : KeyRecord) (response : Bool) (number : ℕ) : Type 0 where
  pub mark : marks.Mark
  pub named : sent ≡ Some mark
  pub keyed : keys_of_serial mark.ike machine.held.associations ≡ Some keys
  pub is_response : mark.response ≡ response
  pub number_is : mark.number ≡ number

no_mark : (by : Protection) (keys : KeyRecord) (response : Bool) (number : ℕ) → mark.Plain ≡ mark.Ike keys response number → ⊥
no_mark by keys response number is = cc

under_by : (machine : Machine) (m : marks.Mark) (o : Option KeyRecord) (keys : KeyRecord) (response : Bool) (number : ℕ) → keys_of_serial m.ike machine.held.associations ≡ o
    → mark_under m o ≡ mark.Ike keys response number → IsUnder machine (Some m) keys response number
under_by machine m None keys response number found is = absurd cc
under_by machine m (Some k) keys response number found is =
    let same : k ≡ keys = cc in
    record { mark = m; named = refl; keyed = found ∙ ap (λ (x : KeyRecord). Some x) same; is_response = cc; number_is = cc }

pub is_under : (machine : Machine) (sent : Option marks.Mark) (keys : KeyRecord) (response : Bool) (number : ℕ) → ike_mark machine sent ≡ mark.Ike keys response number → IsUnder machine sent keys response number
is_under machine None keys response number is = absurd cc
is_under machine (Some m) keys response number is = under_by machine m (keys_of_serial m.ike machine.held.associations) keys response number refl is

-- the message of a step
pub record IsSaid (s : OutputView) (sent : Option marks.Mark) (machine : Machine) (keys : KeyRecord) (entry : Entry) : Type 0 where
  pub octets : said_octets s ≡ Some entry.octets
  pub under : ike_mark machine sent ≡ mark.Ike keys entry.response entry.number

same_datagram : (end : End) (by : Protection) (octets : Octets) (keys : KeyRecord) (entry : Entry) → Contains (datagram_of end by octets ∷ []) (as_stored end keys entry)
    → (octets ≡ entry.octets) × (by ≡ mark.Ike keys entry.response entry.number)
same_datagram end by octets keys entry there =
    let same = single (datagram_of end by octets) (as_stored end keys entry) there in
    (ap (λ (d : Datagram). d.octets) same, ap (λ (d : Datagram). d.mark) same)

said_so : (end : End) (s : OutputView) (sent : Option marks.Mark) (machine : Machine) (octets : Octets) (keys : KeyRecord) (entry : Entry) → said_octets s ≡ Some octets
    → Contains (datagram_of end (ike_mark machine sent) octets ∷ []) (as_stored end keys entry) → IsSaid s sent machine keys entry
said_so end s sent machine octets keys entry out there =
    let same = same_datagram end (ike_mark machine sent) octets keys entry there in
    record { octets = out ∙ ap (λ (o : Octets). Some o) same.0; under = same.1 }

esp_never : (number : ℕ) (o : Option Pair) (keys : KeyRecord) (response : Bool) (n : ℕ) → mark_by number o ≡ mark.Ike keys response n → ⊥
esp_never number None keys response n is = cc
esp_never number (Some pair) keys response n is = cc

pub once_is : {C : Type 0} (end : End) (s : OutputView) (sent : Option marks.Mark) (gateway : State C) (keys : KeyRecord) (entry : Entry) → Contains (sent_once end s sent gateway) (as_stored end keys entry)
    → IsSaid s sent gateway.machine keys entry
once_is {C} end (Reply octets closed) sent gateway keys entry there = said_so end (Reply octets closed) sent gateway.machine octets keys entry refl there
once_is {C} end (Repeat octets) sent gateway keys entry there = said_so end (Repeat octets) sent gateway.machine octets keys entry refl there
once_is {C} end (Request serial octets) sent gateway keys entry there = said_so end (Request serial octets) sent gateway.machine octets keys entry refl there
once_is {C} end (Sealed child number octets) sent gateway keys entry there =
    absurd (esp_never number (pair_at gateway.table.pairs child) keys entry.response entry.number (same_datagram end (esp_mark gateway.table child number) octets keys entry there).1)
once_is {C} end _ sent gateway keys entry there = absurd (none_there (as_stored end keys entry) there)

pub is_once : {C : Type 0} (end : End) (s : OutputView) (sent : Option marks.Mark) (gateway : State C) (octets : Octets) → said_octets s ≡ Some octets
    → Contains (sent_once end s sent gateway) (datagram_of end (ike_mark gateway.machine sent) octets)
is_once {C} end (Reply o closed) sent gateway octets is = subst (λ (x : Octets). Contains (datagram_of end (ike_mark gateway.machine sent) o ∷ []) (datagram_of end (ike_mark gateway.machine sent) x)) (some_is o octets is) (at_head _ [])
is_once {C} end (Repeat o) sent gateway octets is = subst (λ (x : Octets). Contains (datagram_of end (ike_mark gateway.machine sent) o ∷ []) (datagram_of end (ike_mark gateway.machine sent) x)) (some_is o octets is) (at_head _ [])
is_once {C} end (Request serial o) sent gateway octets is = subst (λ (x : Octets). Contains (datagram_of end (ike_mark gateway.machine sent) o ∷ []) (datagram_of end (ike_mark gateway.machine sent) x)) (some_is o octets is) (at_head _ [])
is_once {C} end _ sent gateway octets is = absurd (none_some octets is)

-- a request that goes out again under keys
pub record IsAgain (s : OutputView) (machine : Machine) (keys : KeyRecord) (entry : Entry) : Type 0 where
  pub requests : List Resent
  pub closed : List ℕ
  pub request : Resent
  pub ticked : s ≡ Ticked requests closed
  pub there : Contains requests request
  pub sealed : request.encrypted ≡ true
  pub keyed : keys_of_serial request.ike machine.held.associations ≡ Some keys
  pub is : request_of request.number request.octets ≡ entry

again_marked : (machine : Machine) (r : Resent) (b : Bool) (keys : KeyRecord) (response : Bool) (number : ℕ) → r.encrypted ≡ b
    → ike_mark machine (if b then Some (record { ike = r.ike; response = false; number = r.number }) else None) ≡ mark.Ike keys response number
    → (b ≡ true) × IsUnder machine (Some (record { ike = r.ike; response = false; number = r.number })) keys response number
again_marked machine r true keys response number sealed is = (refl, is_under machine (Some (record { ike = r.ike; response = false; number = r.number })) keys response number is)
again_marked machine r false keys response number sealed is = absurd cc

again_is_in : (end : End) (machine : Machine) (requests : List Resent) (closed : List ℕ) (keys : KeyRecord) (entry : Entry)
    → Contains (map (again_as end machine) requests) (as_stored end keys entry) → IsAgain (Ticked requests closed) machine keys entry
again_is_in end machine requests closed keys entry there =
    let from = from_map (again_as end machine) requests (as_stored end keys entry) there in
    let r = from.item in
    let both = again_marked machine r r.encrypted keys entry.response entry.number refl (ap (λ (d : Datagram). d.mark) from.is) in
    let named : record { ike = r.ike; response = false; number = r.number } ≡ both.1.mark = some_is _ _ both.1.named in
    let response : false ≡ entry.response = ap (λ (m : marks.Mark). m.response) named ∙ both.1.is_response in
    let number : r.number ≡ entry.number = ap (λ (m : marks.Mark). m.number) named ∙ both.1.number_is in
    let octets : r.octets ≡ entry.octets = ap (λ (d : Datagram). d.octets) from.is in
    record {
      requests = requests;
      closed = closed;
      request = r;
      ticked = refl;
      there = from.there;
      sealed = both.0;
      keyed = ap (λ (m : marks.Mark). keys_of_serial m.ike machine.held.associations) named ∙ both.1.keyed;
      is = λ i. record { response = response i; number = number i; octets = octets i };
    }

pub again_is : (end : End) (machine : Machine) (s : OutputView) (keys : KeyRecord) (entry : Entry) → Contains (map (again_as end machine) (requests_in s)) (as_stored end keys entry) → IsAgain s machine keys entry
again_is end machine (Ticked requests closed) keys entry there = again_is_in end machine requests closed keys entry there
again_is end machine _ keys entry there = absurd (none_there (as_stored end keys entry) there)

-- ---- the turn

-- an end as a party
abbrev pub party_with : {C : Type 0} → End → State C → Stored → Party
party_with {C} end gateway stored = record { ledgers = ledger_at gateway.machine.held; made = made_at end stored.keyed; sent = sent_at end stored.sent }

-- a datagram of these octets comes to an IKE SA under these keys, and opens there as its peer's message
pub record ComesTo {C : Type 0} (meaning : Meaning) (given : Input) (old : State C) (keys : KeyRecord) (response : Bool) (number : ℕ) (octets : Octets) : Type 0 where
  pub serial : ℕ
  pub association : Association
  pub there : association_of serial old.machine.held.associations ≡ Some association
  pub keyed : keys_in association.phase ≡ Some keys
  pub datagram : IsDatagram (for_ike given) octets
  pub opens : OpensAsMessage meaning.plain_of association (other_role association.role) response number octets

-- what a step of an end is, as a turn of its party; what it takes is genuine where what comes to it, and isn't
-- refused for want of memory, is among what the peer sent
pub record IsTurn {C : Type 0} (meaning : Meaning) (given : Input) (old : State C) (said : OutputView) (before after : Party) : Type 0 where
  pub turn : Turn
  pub takes : TakesTurn turn before after
  pub genuine : (keys : KeyRecord) (others : List Entry)
      → ((response : Bool) (number : ℕ) (octets : Octets) → wants_memory said ≡ false → ComesTo meaning given old keys response number octets → Contains others (record { response = response; number = number; octets = octets }))
      → IsGenuineTurn keys turn after others

record Brought (meaning : Meaning) (given : Option ike.InputView) (a : Association) (response : Bool) (number : ℕ) : Type 0 where
  octets : Octets
  datagram : IsDatagram given octets
  opens : OpensAsMessage meaning.plain_of a (other_role a.role) response number octets

brought : (meaning : Meaning) (view : ike.InputView) (a : Association) (response : Bool) (number : ℕ) → Comes meaning view a response number → Brought meaning (Some view) a response number
brought meaning (ike.Message from octets fresh) a response number comes = record { octets = octets; datagram = refl; opens = comes }
brought meaning (ike.Start serial place fresh) a response number comes = absurd comes
brought meaning (ike.Order what fresh) a response number comes = absurd comes
brought meaning (ike.Secret secret) a response number comes = absurd comes
brought meaning (ike.Tick moment) a response number comes = absurd comes

-- what comes here comes by a datagram
record ComesAt (meaning : Meaning) (given : Option ike.InputView) (old : Held) (serial : ℕ) (response : Bool) (number : ℕ) : Type 0 where
  association : Association
  there : association_of serial old.associations ≡ Some association
  by : Brought meaning given association response number

comes_at : (meaning : Meaning) (given : Option ike.InputView) (old : Held) (serial : ℕ) (response : Bool) (number : ℕ) → ComesHere meaning given old serial response number
    → ComesAt meaning given old serial response number
comes_at meaning None old serial response number comes = absurd comes
comes_at meaning (Some view) old serial response number comes =
    record { association = comes.association; there = comes.there; by = brought meaning view comes.association response number comes.comes }

has_taken : (others : List Entry) (response : Bool) (number : ℕ) (octets : Octets) → Contains others (record { response = response; number = number; octets = octets }) → HasTaken others response number
has_taken others true number octets there = record { octets = octets; there = there }
has_taken others false number octets there = record { octets = octets; there = there }

module _ {C : Type 0} (laws : TurnLaws) (meaning : Meaning) (given : Input) (end : End) (old new : State C) (s : OutputView) (trace : Trace) (stored : Stored)
    (table : IsSoundTable old.table) (machine : IsSoundMachine old.machine old.table) (is : Traces meaning given old s trace new) where
  way : IkeWay meaning (for_ike given) old s new
  way = does_way meaning given old s trace new is.does

  tells : TellsHeld trace new.machine.held new.table
  tells = step_tells laws.traces meaning given s trace old new table machine is

  at : (serial : ℕ) → EndMoves meaning (for_ike given) old.machine.held s trace new.machine.held serial
  at serial = input_moves laws meaning given old new s trace serial machine is.does

  abbrev before : Party
  before = party_with end old stored

  abbrev after : Party
  after = party_with end new (storing end s trace new stored)

  abbrev turn_of : Turn
  turn_of = record {
    moves = λ serial. (at serial).moves;
    coming = coming_by trace.keyed new.machine;
    sent = sent_at end (sent_by end s trace.sent new);
  }

  keys_stay : (serial : ℕ) (was is : Ledger) → before.ledgers serial ≡ Some was → after.ledgers serial ≡ Some is → is.keys ≡ was.keys
  keys_stay serial was is old_there new_there =
      let held = has_ledger new.machine.held serial is new_there in
      some_is is.keys was.keys
      (sym held.keyed ∙ way_keys laws meaning (for_ike given) old s new serial was.keys held.association table machine way (ledger_keys old.machine.held serial was old_there) held.there)

  keys_come_so : (serial : ℕ) (is : Ledger) (keys : KeyRecord) → after.ledgers serial ≡ Some is → Contains (at serial).moves (Make keys)
      → coming_by trace.keyed new.machine ≡ Some (record { serial = serial; keys = is.keys })
  keys_come_so serial is keys there makes =
      ap (λ (o : Option ℕ). coming_by o new.machine) ((at serial).come keys makes) ∙ ap (λ (k : Option KeyRecord). coming_with serial k) (ledger_keys new.machine.held serial is there)

  -- a message that is stored now is of an IKE SA that is held
  held_under : (keys : KeyRecord) (serial : ℕ) → HoldsKeys new.machine.held serial → keys_of_serial serial new.machine.held.associations ≡ Some keys → (l : Ledger) × Holds after keys serial l
  held_under keys serial holds keyed = (
    ledger_of holds.association holds.keys,
    record {
      there = ledger_there new.machine.held serial holds.association holds.keys holds.there holds.are;
      keyed = some_is holds.keys keys (sym (keys_found new.machine.held serial holds) ∙ keyed);
    },
  )

  sent_once_now : (keys : KeyRecord) (entry : Entry) → IsSaid s trace.sent new.machine keys entry → IsSentNow turn_of before after keys entry
  sent_once_now keys entry it =
      let u = is_under new.machine trace.sent keys entry.response entry.number it.under in
      let held = held_under keys u.mark.ike (tells.sent u.mark u.named) u.keyed in
      let same : entry_of u.mark entry.octets ≡ entry = (λ i. record { response = u.is_response i; number = u.number_is i; octets = entry.octets }) in
      record {
        serial = u.mark.ike;
        ledger = held.0;
        holds = held.1;
        by = subst (λ (e : Entry). (Contains (sent_in (at u.mark.ike).moves) e) ⊎ (GoesOutAgain (before.ledgers u.mark.ike) e)) same ((at u.mark.ike).sent u.mark entry.octets u.named refl it.octets);
      }

  sent_again_now : (keys : KeyRecord) (entry : Entry) → IsAgain s new.machine keys entry → IsSentNow turn_of before after keys entry
  sent_again_now keys entry it =
      let holds = again_held laws.again meaning (for_ike given) s it.requests it.closed it.request old new table machine way it.ticked it.there it.sealed in
      let held = held_under keys it.request.ike holds it.keyed in
      record {
        serial = it.request.ike;
        ledger = held.0;
        holds = held.1;
        by = inr (subst (λ (e : Entry). GoesOutAgain (before.ledgers it.request.ike) e) it.is ((at it.request.ike).again it.requests it.closed it.request it.ticked it.there refl it.sealed));
      }

  sent_now : (keys : KeyRecord) (entry : Entry) → Contains turn_of.sent (marked keys entry) → IsSentNow turn_of before after keys entry
  sent_now keys entry there =
      elim (Contains-append_cases (sent_once end s trace.sent new) (map (again_as end new.machine) (requests_in s)) (as_stored end keys entry) (sent_there end (sent_by end s trace.sent new) keys entry there)) [
        | inl once ↦ sent_once_now keys entry (once_is end s trace.sent new keys entry once)
        | inr again ↦ sent_again_now keys entry (again_is end new.machine s keys entry again)
      ]

  all_sent_now : (serial : ℕ) (is : Ledger) (entry : Entry) → after.ledgers serial ≡ Some is → Contains (sent_in (at serial).moves) entry → Contains turn_of.sent (marked is.keys entry)
  all_sent_now serial is entry there moved =
      let out = (at serial).goes_out entry moved in
      let by : ike_mark new.machine trace.sent ≡ mark.Ike is.keys entry.response entry.number =
      ap (λ (o : Option marks.Mark). ike_mark new.machine o) out.marked
      ∙ ap (λ (k : Option KeyRecord). mark_under (record { ike = serial; response = entry.response; number = entry.number }) k) (ledger_keys new.machine.held serial is there) in
      there_sent end (sent_by end s trace.sent new) is.keys entry
      (Contains-append_left (sent_once end s trace.sent new) (map (again_as end new.machine) (requests_in s)) (as_stored end is.keys entry)
      (subst (λ (m : Protection). Contains (sent_once end s trace.sent new) (datagram_of end m entry.octets)) by (is_once end s trace.sent new entry.octets out.octets)))

  takes_turn : TakesTurn turn_of before after
  takes_turn = record {
    few = λ serial. (at serial).few;
    lead = λ serial. (at serial).lead;
    keys_stay = keys_stay;
    come = keys_come_so;
    made = made_appended end stored.keyed (option_to_list (keyed_by end trace.keyed new.machine)) ∙ ap (λ (ks : List KeyRecord). made_at end stored.keyed ++ ks) (own_made end trace.keyed new.machine);
    sent = sent_appended end stored.sent (sent_by end s trace.sent new);
    sent_by = sent_now;
    all_sent = all_sent_now;
  }

  module _ (keys : KeyRecord) (others : List Entry)
      (all : (response : Bool) (number : ℕ) (octets : Octets) → wants_memory s ≡ false → ComesTo meaning given old keys response number octets → Contains others (record { response = response; number = number; octets = octets })) where
    taken_here : (serial : ℕ) (l : Ledger) → Holds after keys serial l → (response : Bool) (number : ℕ) → wants_memory s ≡ false → ComesHere meaning (for_ike given) old.machine.held serial response number → HasTaken others response number
    taken_here serial l holds response number had comes =
        let c = comes_at meaning (for_ike given) old.machine.held serial response number comes in
        let was = ledger_there old.machine.held serial c.association c.by.opens.keys c.there c.by.opens.keyed in
        let same : l.keys ≡ c.by.opens.keys = keys_stay serial (ledger_of c.association c.by.opens.keys) l was holds.there in
        has_taken others response number c.by.octets (all response number c.by.octets had (record {
          serial = serial;
          association = c.association;
          there = c.there;
          keyed = c.by.opens.keyed ∙ ap (λ (k : KeyRecord). Some k) (sym same ∙ holds.keyed);
          datagram = c.by.datagram;
          opens = c.by.opens;
        }))

    genuine_turn : IsGenuineTurn keys turn_of after others
    genuine_turn serial l holds = (at serial).genuine others (taken_here serial l holds)

  pub is_turn : IsTurn meaning given old s (party_with end old stored) (party_with end new (storing end s trace new stored))
  is_turn = record { turn = turn_of; takes = takes_turn; genuine = genuine_turn }
