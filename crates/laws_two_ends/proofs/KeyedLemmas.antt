-- Both ends come to the keys in the first three steps, under which nothing comes yet (RFC 7296 sections 1.2
-- and 2.14).
use Rattle.std.proofs.Common.{◌≡◌, ℕ, Bool, ap, refl, ◌∙◌}
use Rattle.std.specs.Prelude.{replicate, Some, None}
use Rattle.base.specs.Octets.{Octets}
use Rattle.association.specs.Phases.{keys_in}
use Rattle.association.specs.declared.phase.Association.{Association}
use Rattle.ike.specs.Machines.{has_serial}
use Rattle.gateway.specs.WorldPromises.{ComesUnder}
use Rattle.laws_two_ends.specs.WorkedRecords.{fresh_of, introduction_of, worked_record}
use Rattle.laws_two_ends.specs.WorldRecords.{CameToKeysAsInitiator, CameToKeysAsResponder}
use Rattle.laws_two_ends.proofs.CallerLemmas.{answering_is, beginning_is}
use Rattle.laws_two_ends.proofs.InitLemmas.{answer_octets, answer_read, answered_message, asked_message, request_octets, request_read}
use Rattle.laws_two_ends.proofs.WorkedRecordLemmas.{answered_has, answered_parts, asked_has, asked_parts, init_sent, waiting}
use Rattle.laws_two_ends.proofs.StateLemmas.{found_is}
use Rattle.laws_two_ends.specs.WorkedRuns.{run_meaning}
use Rattle.laws_two_ends.proofs.NewEndLemmas.{none_found}
use Rattle.laws_two_ends.proofs.Stages.{answers, begins, opened, telling, tells}

module _ {C : Type 0} (a b : C) where
  pub came_as_responder : CameToKeysAsResponder run_meaning.public_value (answers a b) (introduction_of (fresh_of 2)) (introduction_of (fresh_of 1)) worked_record
  came_as_responder = record {
    from = replicate 4 1;
    octets = request_octets;
    fresh = fresh_of 2;
    came = refl;
    place = 0;
    none_stood = refl;
    new = opened;
    stands = refl;
    keyed = refl;
    secret = answering_is.secret;
    own_is = refl;
    other_is = record { message = asked_message; spelled = request_read; parts = asked_parts; complete = asked_has; is = refl };
  }

  pub came_as_initiator : CameToKeysAsInitiator run_meaning.public_value (tells a b) (introduction_of (fresh_of 1)) (introduction_of (fresh_of 2)) worked_record
  came_as_initiator = record {
    from = replicate 4 2;
    octets = answer_octets;
    fresh = fresh_of 3;
    came = refl;
    place = 0;
    old = waiting;
    stood = refl;
    sent = init_sent;
    waited = refl;
    new = telling;
    stands = refl;
    keyed = refl;
    secret = beginning_is.secret;
    own_is = refl;
    other_is = record { message = answered_message; spelled = answer_read; parts = answered_parts; complete = answered_has; is = refl };
  }

  -- ---- nothing comes under them yet

  -- the order is no datagram
  pub none_comes_beginning : (response : Bool) (number : ℕ) (octets : Octets) → ComesUnder (λ _. run_meaning) worked_record response number octets (begins a b) → ⊥
  none_comes_beginning response number octets is = is.datagram

  -- B holds no IKE SA
  pub none_comes_answering : (response : Bool) (number : ℕ) (octets : Octets) → ComesUnder (λ _. run_meaning) worked_record response number octets (answers a b) → ⊥
  none_comes_answering response number octets is = none_found is.held.serial is.association is.held.there

  -- A's has no keys
  pub none_comes_telling : (response : Bool) (number : ℕ) (octets : Octets) → ComesUnder (λ _. run_meaning) worked_record response number octets (tells a b) → ⊥
  none_comes_telling response number octets is =
      let same : waiting ≡ is.association = found_is (has_serial is.held.serial waiting) waiting is.association is.held.there in
      let none : None ≡ Some worked_record = ap (λ (x : Association). keys_in x.phase) same ∙ is.held.keyed in
      cc
