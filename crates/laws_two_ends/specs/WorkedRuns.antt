-- A worked run of a world, for which the premises of what is promised of both ends are shown to hold. It
-- begins with two new gateways: they set up an IKE SA and its first Child SA, a packet goes from A to B,
-- and A's probe is answered (RFC 7296 sections 1.2, 1.4, 2.4, 2.14 and 2.15; RFC 4301 sections 5.1 and 5.2;
-- RFC 4303 sections 3.3 and 3.4).
use Rattle.std.specs.Prelude.{◌≡◌, ◌≤◌, ◌∷◌, false, true, ℕ, None, Some, List, [], Contains, length, map, replicate, slice_get}
use Rattle.base.specs.Octets.{AreOctets, Octets}
use Rattle.base.specs.declared.address.Range.TheVariants.{V4}
use Rattle.esp.specs.Worked.{worked_payload}
use Rattle.policy.specs.Entries.{IsSoundPolicy}
use Rattle.policy.specs.declared.entry.Action.TheVariants.{Protect}
use Rattle.policy.specs.declared.entry.Entry.{Entry}
use Rattle.sadb.specs.Database.{IsStart}
use Rattle.suite.specs.declared.key_record.KeyRecord.{KeyRecord}
use Rattle.requests.specs.Numbers.{HasNumber}
use Rattle.association.specs.declared.phase.Association.{Association}
use Rattle.association.specs.declared.phase.Phase.TheVariants.{Established}
use Rattle.setup.specs.Configs.{IsConfig}
use Rattle.setup.specs.declared.config.Config.{Config}
use Rattle.setup.specs.declared.config.EndConfig.{EndConfig}
use Rattle.effects.specs.Taking.{asker_of, Meaning}
use Rattle.gateway.specs.BothEnds.{IsWhollySound}
use Rattle.gateway.specs.Inputs.{Event}
use Rattle.gateway.specs.Inputs as input
use Rattle.gateway.specs.Outputs.{Counted, OutputView, Reply, Request, Sealed, Up}
use Rattle.gateway.specs.States.{new_gateway, State}
use Rattle.gateway.specs.WorldChildren.{AreOfOneRequest}
use Rattle.gateway.specs.WorldHistories.{Happening, IsWorldTrail}
use Rattle.gateway.specs.WorldPackets.{HasOneSender, HoldsSomePairOf, IsJudgedAt, IsUnforgedTo}
use Rattle.gateway.specs.WorldParties.{AreBothHeld, IsNeverMadeTwice}
use Rattle.gateway.specs.WorldPromises.{ComesUnder, IsUnforgedByThen}
use Rattle.gateway.specs.Worlds.{gateway_at, new_world, other_end, HoldsNothing, WorldState}
use Rattle.gateway.specs.declared.world.stored.Child.{Child}
use Rattle.gateway.specs.declared.world.stored.End.{End}
use Rattle.gateway.specs.declared.world.stored.End.TheVariants.{A, B}
use Rattle.laws_two_ends.specs.WorkedRecords.{fresh_of, introduction_of, worked_asker, worked_plain_of, worked_record, CanBeMeant, IsFresh}
use Rattle.laws_two_ends.specs.WorldRecords.{CameToKeysAsInitiator, CameToKeysAsResponder}

-- ---- how both are set up

-- A cipher that hides nothing, and one secret for all, as in the worked calls. Whatever proof of an
-- identity there is is accepted, so identities are not exercised.
abbrev pub run_meaning : Meaning
run_meaning = record {
  cipher = worked_asker.cipher;
  body_of = worked_asker.body_of;
  plain_of = worked_plain_of;
  group = worked_asker.group;
  public_value = worked_asker.public_value;
  shared_secret = worked_asker.shared_secret;
  own_method = worked_asker.own_method;
  proof_of = worked_asker.proof_of;
  accepts = λ kind identity method octets proof. true;
}

-- an identity of one octet, opaque to others (RFC 7296 section 3.5), and an address
abbrev pub end_config : ℕ → EndConfig
end_config number = record { identity = record { kind = 11; «data» = number ∷ [] }; address = replicate 4 number }

-- A is the end of number 1 and B that of number 2, and each is the other's peer.
abbrev pub config_by : ℕ → ℕ → Config
config_by own peer = record {
  own = end_config own;
  peer = end_config peer;
  extended = false;
  blocks = 2;
  cookie_secret = replicate 32 0;
  window = 1;
}

abbrev pub config_at : End → Config
config_at A = config_by 1 2
config_at B = config_by 2 1

-- the first SPI that an end gives to a Child SA
abbrev pub spi_at : End → ℕ
spi_at A = 256
spi_at B = 512

-- one entry, which protects all traffic of IPv4
abbrev pub all_protected : List Entry
all_protected =
    record {
      protocol = 0;
      local = V4 0 4294967295;
      remote = V4 0 4294967295;
      local_ports = (0, 65535);
      remote_ports = (0, 65535);
      action = Protect;
    }
    ∷ []

abbrev pub new_end : {C : Type 0} → End → C → State C
new_end {C} end caller = new_gateway (config_at end) all_protected (spi_at end) caller

-- two new gateways, whatever their callers' values
abbrev pub new_ends : {C : Type 0} → C → C → WorldState C
new_ends {C} a b = new_world (new_end A a) (new_end B b)

-- what the code's types say of a configuration, where nothing else does: addresses are of IPv4, and a
-- secret has 32 octets
pub record IsTyped (config : Config) : Type 0 where
  pub own : AreOctets config.own.address × (length config.own.address ≡ 4)
  pub peer : AreOctets config.peer.address × (length config.peer.address ≡ 4)
  pub cookie_secret : AreOctets config.cookie_secret × (length config.cookie_secret ≡ 32)

-- ---- what happens

-- the datagrams of the run, in the order in which they are sent
pub record Exchanged : Type 0 where
  pub init_request : Octets
  pub init_response : Octets
  pub auth_request : Octets
  pub auth_response : Octets
  pub packet : Octets
  pub probe : Octets
  pub probe_response : Octets

-- a datagram of IKE comes to this end, from the other's address; what is fresh at the step is told by a
-- number
abbrev pub comes_to : End → Octets → ℕ → Event
comes_to end octets number = record { end = end; input = input.Ike (config_at (other_end end)).own.address octets (fresh_of number) }

-- A is told to set up an IKE SA with a first Child SA, by the first entry; the four messages come as
-- they were sent. Then a packet goes out at A and comes to B; A is told to ask whether B is there, and
-- the request and its response come.
abbrev pub events_of : Exchanged → List Event
events_of e =
    record { end = A; input = input.Start None 0 (fresh_of 1) }
    ∷ comes_to B e.init_request 2
    ∷ comes_to A e.init_response 3
    ∷ comes_to B e.auth_request 4
    ∷ comes_to A e.auth_response 5
    ∷ record { end = A; input = input.Outward worked_payload }
    ∷ record { end = B; input = input.Esp e.packet }
    ∷ record { end = A; input = input.Probe 1 (fresh_of 6) }
    ∷ comes_to B e.probe 7
    ∷ comes_to A e.probe_response 8
    ∷ []

-- what comes of each
abbrev pub outputs_of : Exchanged → List OutputView
outputs_of e =
    Request 1 e.init_request
    ∷ Reply e.init_response None
    ∷ Request 1 e.auth_request
    ∷ Reply e.auth_response None
    ∷ Counted 1 (Some 1) None
    ∷ Sealed 1 1 e.packet
    ∷ Up 1 1 worked_payload
    ∷ Request 1 e.probe
    ∷ Reply e.probe_response None
    ∷ Counted 1 None None
    ∷ []

-- There is such a run, for a caller that there can be, of two gateways that are rightly set up and hold
-- nothing, whose world is wholly sound under every key record. What comes under the record of keys which
-- both ends come to, the other end had sent before, and neither end comes to it twice: B as responder and A
-- as initiator, each from what the other says of itself. At the end each holds the IKE SA,
-- established, with one place counted for the other's requests; A's probe was processed at B, and was
-- answered and matched. Both ends make the Child SA, by the one request of IKE_AUTH, and hold a pair of it at
-- the end, which has one sender each way; what is judged at B was sent by A. The packet is delivered by B's
-- pair. Nothing but answers goes from B to A, so of the child at A and of requests of B the premises hold,
-- and say nothing.
pub record IsRunFromNewGateways {C : Type 0} (a b : C) : Type 0 where
  pub exchanged : Exchanged
  pub happenings : List (Happening C)
  pub last : WorldState C
  pub takes : map (λ h. h.event) happenings ≡ events_of exchanged
  pub says : map (λ h. h.said) happenings ≡ outputs_of exchanged
  pub trail : IsWorldTrail (λ _. run_meaning) (new_ends a b) happenings last
  -- what is asked of the caller, of how both are set up, of what they hold at first, and of what is fresh
  pub can_be : CanBeMeant (asker_of run_meaning) run_meaning.plain_of
  pub configs : (end : End) → IsConfig (config_at end)
  pub typed : (end : End) → IsTyped (config_at end)
  pub policy : IsSoundPolicy all_protected
  pub starts : (end : End) → IsStart (spi_at end)
  pub holds_nothing : (end : End) → HoldsNothing (gateway_at end (new_ends a b))
  pub fresh : (number : ℕ) → 1 ≤ number → number ≤ 8 → IsFresh (fresh_of number)
  -- what is asked of the record of keys
  pub sound : (keys : KeyRecord) → IsWhollySound run_meaning.body_of run_meaning.plain_of keys (new_ends a b)
  pub unforged : IsUnforgedByThen (λ _. run_meaning) worked_record happenings
  pub once : IsNeverMadeTwice worked_record last.stored
  -- how each end comes to it
  pub responder_step : Happening C
  pub answers : slice_get happenings 1 ≡ Some responder_step
  pub as_responder : CameToKeysAsResponder run_meaning.public_value responder_step (introduction_of (fresh_of 2)) (introduction_of (fresh_of 1)) worked_record
  pub initiator_step : Happening C
  pub reads : slice_get happenings 2 ≡ Some initiator_step
  pub as_initiator : CameToKeysAsInitiator run_meaning.public_value initiator_step (introduction_of (fresh_of 1)) (introduction_of (fresh_of 2)) worked_record
  -- the IKE SA at the end, and what comes under its keys
  pub asking : Association
  pub answering : Association
  pub held : AreBothHeld worked_record A last asking answering
  pub held_back : AreBothHeld worked_record B last answering asking
  pub established : asking.phase ≡ Established worked_record
  pub established_back : answering.phase ≡ Established worked_record
  pub window : asking.outgoing.window ≡ 1
  pub window_back : answering.outgoing.window ≡ 1
  pub in_effect : HasNumber answering.incoming.in_effect 2
  pub counted : HasNumber asking.outgoing.answered 2
  pub probe_step : Happening C
  pub probes : slice_get happenings 8 ≡ Some probe_step
  pub request_comes : ComesUnder (λ _. run_meaning) worked_record false 2 exchanged.probe probe_step
  pub counting_step : Happening C
  pub counts : slice_get happenings 9 ≡ Some counting_step
  pub response_comes : ComesUnder (λ _. run_meaning) worked_record true 2 exchanged.probe_response counting_step
  -- the Child SA
  pub asked : Child
  pub answered : Child
  pub asked_there : Contains last.stored.children asked
  pub answered_there : Contains last.stored.children answered
  pub keyed : asked.keys ≡ worked_record
  pub of_one : AreOfOneRequest asked answered
  pub number_is : asked.number ≡ 1
  pub asked_end : asked.end ≡ A
  pub asked_serial : asked.serial ≡ 1
  pub answered_end : answered.end ≡ B
  pub answered_serial : answered.serial ≡ 1
  pub packet_step : Happening C
  pub delivers : slice_get happenings 6 ≡ Some packet_step
  pub packet_comes : IsJudgedAt answered 1 exchanged.packet packet_step
  pub asked_held : HoldsSomePairOf asked last
  pub answered_held : HoldsSomePairOf answered last
  pub unforged_to : IsUnforgedTo answered happenings last.stored
  pub one_sender : HasOneSender answered last.stored
  pub unforged_back : IsUnforgedTo asked happenings last.stored
  pub one_sender_back : HasOneSender asked last.stored
