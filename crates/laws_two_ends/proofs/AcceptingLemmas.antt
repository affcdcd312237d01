-- B takes IKE_AUTH: A is who it is to be, so the IKE SA is established, and its first Child SA is made
-- (RFC 7296 sections 1.2 and 2.15).
use Rattle.std.proofs.Common.{◌≡◌, ◌<◌, ◌≤◌, ◌∷◌, inl, inr, ℕ, zero, suc, Bool, false, Option, Some, None, [], All, Any, Contains, ap, arith, refl, subst, sym}
use Rattle.std.specs.Prelude.{replicate, slice_get}
use Rattle.std.proofs.lemmas.List.Elements.{All-cons}
use Rattle.std.specs.FinMap as map
use Rattle.std.specs.FinSet as set
use Rattle.std.specs.Option.{option_to_list}
use Rattle.std.specs.Ordering.{nat_cmp}
use Rattle.byteorder.specs.Endian.{big_number}
use Rattle.base.specs.Octets.{Octets}
use Rattle.base.specs.declared.address.Address.TheVariants as address
use Rattle.base.specs.declared.address.Range.TheVariants.{V4}
use Rattle.base.specs.declared.selector.Selector.{Selector}
use Rattle.wire.specs.declared.proposal.Transform.{Transform}
use Rattle.suite.specs.Choice.{kinds, sequence_numbers, without_attributes, IsAcceptableProposal, IsAcceptableTransform, IsChosenProposal}
use Rattle.suite.specs.declared.choice.Chosen.{Chosen}
use Rattle.suite.specs.declared.choice.Wanted.TheVariants.{Esp}
use Rattle.exchange.specs.Headers.{keys_of}
use Rattle.exchange.specs.declared.headers.Role.TheVariants.{Responder}
use Rattle.exchange.specs.declared.sealed.Plain.{Plain}
use Rattle.policy.specs.Narrowing.{HasAllCommonPoints, IsNarrowed, IsNarrowing}
use Rattle.policy.specs.Points.{HasPorts, HoldsPoint, IsCommonPart, IsNonempty}
use Rattle.policy.specs.declared.point.Point.{Point}
use Rattle.requests.specs.Incoming.{after_number_0, PeerRequests, TakesRequest}
use Rattle.requests.specs.declared.incoming.Judgement.TheVariants as judged
use Rattle.replay.specs.Window.{unused_window}
use Rattle.sadb.specs.Database.{empty_table, pair_at, Database, IsFull, IsSoundTable}
use Rattle.sadb.specs.declared.pair.Pair.{Pair}
use Rattle.association.specs.Receiving as receiving
use Rattle.association.specs.declared.phase.HalfOpen.{HalfOpen}
use Rattle.children.specs.Responding.{made_of, AddsNext, AreMadeTerms}
use Rattle.children.specs.declared.responding.Made.{Made}
use Rattle.children.specs.declared.responding.Response.TheVariants as response
use Rattle.deliveries.specs.Worked.{any_traffic}
use Rattle.setup.specs.Configs.{first_setting, Setup}
use Rattle.initial.specs.Deciding.{AcceptsAuth}
use Rattle.association.specs.declared.outcome.Answered.{Answered}
use Rattle.association.specs.declared.outcome.Fate.TheVariants as fate
use Rattle.initial.specs.declared.deciding.Decision.TheVariants as decision
use Rattle.moments.specs.Held.{IsInTime}
use Rattle.effects.specs.Taking.{TakesMessage}
use Rattle.effects.specs.declared.taking.Effect.TheVariants as effect
use Rattle.ike.specs.Machines.{new_machine, setup_at}
use Rattle.ike.specs.Outputs.{stepped_of}
use Rattle.ike.specs.Steps as ike
use Rattle.ike.specs.declared.output.MadeChild.{MadeChild}
use Rattle.ike.specs.declared.output.Stepped.{Stepped}
use Rattle.gateway.specs.States.{IsSoundState}
use Rattle.gateway.specs.WorldParties.{HasSent}
use Rattle.gateway.specs.WorldPromises.{ComesUnder}
use Rattle.gateway.specs.Worlds.{child_with, TakesEvent}
use Rattle.gateway.specs.declared.world.stored.End.TheVariants.{A, B}
use Rattle.gateway.proofs.PartyLemmas.{at_head, further_on, some_is}
use Rattle.laws_two_ends.proofs.WorkedRequestLemmas.{no_reply, none_there, IsUpTo}
use Rattle.esp.proofs.NumberLemmas.{contains-insert_nat}
use Rattle.laws_two_ends.specs.WorkedRecords.{fresh_of, worked_record}
use Rattle.laws_two_ends.specs.WorkedMessages.{proposal_of, spi_octets}
use Rattle.laws_two_ends.proofs.ArrivalLemmas.{alone, takes_alone, was_sent}
use Rattle.laws_two_ends.proofs.MapLemmas.{put_there}
use Rattle.laws_two_ends.proofs.TakenLemmas.{fresh_next, one_more, takes_next}
use Rattle.laws_two_ends.specs.WorkedRuns.{all_protected, config_at, run_meaning, spi_at}
use Rattle.laws_two_ends.proofs.AuthLemmas.{asked, auth_octets, plain_octets, request_payloads}
use Rattle.laws_two_ends.proofs.InitLemmas.{answer_octets, request_octets}
use Rattle.laws_two_ends.proofs.NewEndLemmas.{sealing}
use Rattle.laws_two_ends.proofs.ResponseLemmas.{asked_spelled, request_read, response_octets, response_sealed}
use Rattle.laws_two_ends.proofs.SoundnessLemmas.{sound_next, timely_alone, NoSpiIsLost, OneMessage, SoundnessStays}
use Rattle.laws_two_ends.proofs.Stages.{accepts, agreed_terms, all_keyed, answering, answering_table, child_world, end_with, opened, pair_of, reserved_table, sent_answer, sent_auth, sent_request, sent_response, stored_of, telling, told_world, two_taken, world_of}

-- ---- the requests that B took

first_one : IsUpTo after_number_0.in_effect 1
first_one = one_more set.empty 0 (record { has = λ n less. absurd (omega (arith, less)); only = λ n is. absurd (none_there n is) })

-- with room for so many replies
abbrev with_room : ℕ → PeerRequests
with_room room = record after_number_0 { room = room }

taken : (reply : Octets) → TakesRequest (with_room 1) 1 reply (two_taken reply)
taken reply =
    takes_next (with_room 1) 1 refl first_one reply (λ n octets is. absurd (no_reply n octets is))
    (let none = map.len-empty nat_cmp Octets in omega (arith, none))

-- ---- the proposal of either end is acceptable

pub all_3 : {X : Type 0} (P : X → Type 0) (a b c : X) → P a → P b → P c → All P (a ∷ b ∷ c ∷ [])
all_3 {X} P a b c pa pb pc = All-cons P a (b ∷ c ∷ []) pa (All-cons P b (c ∷ []) pb (All-cons P c [] pc (λ k d below. absurd (omega (arith, below)))))

abbrev encryption : Transform
encryption = without_attributes 1 11

abbrev integrity : Transform
integrity = without_attributes 3 12

abbrev numbers : Transform
numbers = sequence_numbers false

abbrev pub chosen : Chosen
chosen = record { place = 0; number = 1; extended = false }

-- no transform in front of that of sequence numbers is of its type
not_yet : (place : ℕ) (other : Transform) → place < 2 → slice_get (encryption ∷ integrity ∷ numbers ∷ []) place ≡ Some other → other.kind ≡ 5 → ⊥
not_yet zero other less there is = let kind : 1 ≡ other.kind = ap (λ (t : Transform). t.kind) (some_is encryption other there) in absurd (omega (arith, kind, is))
not_yet (suc zero) other less there is = let kind : 3 ≡ other.kind = ap (λ (t : Transform). t.kind) (some_is integrity other there) in absurd (omega (arith, kind, is))
not_yet (suc (suc place)) other less there is = absurd (omega (arith, less))

module _ (n : ℕ) (enough : 256 ≤ big_number 4 (spi_octets n)) where
  pub acceptable : IsAcceptableProposal (Esp false) (proposal_of n)
  acceptable = record {
    protocol = refl;
    spi = (refl, enough);
    no_other = all_3 (λ (t : Transform). Contains (kinds (Esp false)) t.kind) encryption integrity numbers
        (0, omega arith, refl) (1, omega arith, refl) (2, omega arith, refl);
    each = all_3 (λ (kind : ℕ). Any (IsAcceptableTransform (Esp false) kind) (proposal_of n).transforms) 1 3 5
        (0, encryption, omega arith, refl, (refl, (0, omega arith, refl)))
        (1, integrity, omega arith, refl, (refl, (1, omega arith, refl)))
        (2, numbers, omega arith, refl, (refl, (2, omega arith, refl)));
  }

  pub chosen_is : IsChosenProposal (Esp false) (proposal_of n ∷ []) chosen
  chosen_is = record {
    proposal = proposal_of n;
    here = refl;
    acceptable = acceptable;
    first = λ k other below. absurd (omega (arith, below));
    number = refl;
    numbers = record {
      place = 2;
      here = refl;
      acceptable = (refl, (2, omega arith, refl));
      first = λ k other below there is. not_yet k other below there is.0;
    };
  }

-- ---- all traffic of IPv4 is narrowed to itself

abbrev pub any_selector : Selector
any_selector = record { protocol = 0; start_port = 0; end_port = 65535; addresses = V4 0 4294967295 }

without_ports : ¬ HasPorts 0
without_ports (inl is) = absurd (omega arith)
without_ports (inr is) = absurd (omega arith)

pub some_point : IsNonempty (HoldsPoint any_selector)
some_point = record {
  point = record { protocol = 0; address = address.V4 0; port = None };
  inside = record {
    point = record { protocol = omega arith; address = omega arith; port = without_ports };
    protocol = inl refl;
    address = (omega arith, omega arith);
    port = (refl, refl);
  };
}

common : IsCommonPart (HoldsPoint any_selector) (HoldsPoint any_selector) any_selector
common = record {
  points = λ p. (λ held. (held, held), λ both. both.0);
  some = some_point;
  fields = record { protocol = omega arith; start_port = omega arith; end_port = omega arith; addresses = (omega arith, omega arith) };
}

narrowed : IsNarrowed any_selector any_traffic any_traffic
narrowed = inl (record { part = any_selector; others = []; begins = refl; common = common; rest = refl })

one_held : (p : Point) (place : ℕ) (s : Selector) → slice_get any_traffic place ≡ Some s → HoldsPoint s p → HoldsPoint any_selector p
one_held p zero s there held = subst (λ (x : Selector). HoldsPoint x p) (sym (some_is any_selector s there)) held
one_held p (suc place) s there held = absurd cc

all_common : HasAllCommonPoints any_selector any_traffic any_traffic
all_common p = (λ held. (held, one_held p held.place held.selector held.there held.held), λ both. both.0)

pub narrowing : IsNarrowing all_protected any_traffic any_traffic any_traffic any_traffic
narrowing = record {
  place = 0;
  entry = _;
  chosen = inl (record {
    there = refl;
    holds = record { protects = refl; remote = (some_point, λ p held. held); local = (some_point, λ p held. held) };
    before = λ k other less there. absurd (omega (arith, less));
  });
  narrowed_i = narrowed;
  narrowed_r = narrowed;
  points_i = all_common;
  points_r = all_common;
}

-- ---- the Child SA

abbrev before_table : Database
before_table = empty_table (spi_at B)

not_full : ¬ IsFull before_table
not_full full = let none = map.len-empty nat_cmp Pair in let free = set.len-empty nat_cmp in absurd (omega (arith, full, none, free))

made_terms : AreMadeTerms false all_protected before_table (record { proposals = proposal_of 1 ∷ []; ts_i = any_traffic; ts_r = any_traffic }) chosen agreed_terms
unfolding chosen_is
made_terms = record {
  choice = chosen_is 1 (omega arith);
  peer = refl;
  own = refl;
  own_least = omega arith;
  own_most = omega arith;
  extension = refl;
  narrowed = narrowing;
  not_full = not_full;
  not_spent = λ spent. absurd (omega (arith, spent));
}

abbrev made : Made
made = made_of (first_setting (config_at B) 1 worked_record) (Esp false) chosen agreed_terms

-- ---- the request is processed

abbrev at_half : HalfOpen
at_half = record { keys = worked_record; request = request_octets; reply = answer_octets; made = 0 }

abbrev request_plain : Plain
request_plain = record { first = 35; octets = plain_octets 1 }

-- what the step has to hand
abbrev setup : Setup
setup = setup_at (new_machine (config_at B)) all_protected (fresh_of 4)

accepted : AcceptsAuth run_meaning.accepts setup 1 at_half before_table request_payloads (response.Made made) 1
accepted = record {
  asked = record { child = record { proposals = proposal_of 1 ∷ []; ts_i = any_traffic; ts_r = any_traffic }; window = 1 };
  judged = record { known = refl; proved = refl; sa = refl; ts_i = refl; ts_r = refl; told = refl };
  child = record { chosen = chosen; terms = agreed_terms; due = made_terms; whole = refl };
  told = refl;
}

-- with room for its pair, and with its SPI given
abbrev with_place : Database
with_place = record before_table { room = 1 }

adds : AddsNext with_place made.pair 1 answering_table
adds = record {
  spi = spi_at B;
  between = reserved_table (spi_at B);
  reserved = record { in_order = refl; content = refl; room = omega arith };
  installed = record {
    reserved = contains-insert_nat set.empty (spi_at B) (spi_at B);
    its_own = refl;
    in_order = refl;
    content = refl;
    room = omega arith;
    no_more = omega arith;
  };
}

abbrev reply_said : Answered
reply_said = record { octets = response_octets; fate = fate.Made 1 }

request_takes : TakesMessage run_meaning setup opened before_table auth_octets asked (effect.Replied reply_said) (answering response_octets) answering_table
request_takes = record {
  reception = receiving.TakesEffect request_plain;
  received = record { judgement = judged.Fresh; number = fresh_next (with_room 0) 1 refl first_one; whole = refl };
  done = record {
    opened = at_half;
    was = refl;
    decision = decision.Accepted (response.Made made) 1;
    decided = record { payloads = Some request_payloads; read = request_read; due = accepted };
    sealed = response_sealed (keys_of Responder worked_record) setup.fresh.seal;
    incoming = two_taken response_octets;
    ready = with_room 1;
    prepared = record { content = refl; room = omega arith };
    taken = taken response_octets;
    between = with_place;
    room = record { content = refl; room = omega arith };
    concluded = record { stands = refl; added = adds; content = refl };
  };
}

-- ---- the step

abbrev stepped : Stepped
stepped = stepped_of 1 1 (effect.Replied reply_said)

steps : ike.Steps run_meaning all_protected (ike.Message (replicate 4 1) auth_octets (fresh_of 4)) (alone (new_machine (config_at B)) opened) before_table stepped
    (alone (new_machine (config_at B)) (answering response_octets)) answering_table
steps = takes_alone (new_machine (config_at B)) all_protected (replicate 4 1) (fresh_of 4) asked_spelled refl refl request_takes

abbrev pair : Pair
pair = pair_of Responder 0 (unused_window 2)

abbrev made_child : MadeChild
made_child = record { serial = 1; ike = 1; number = 1; asked = false }

pair_there : pair_at answering_table.pairs 1 ≡ Some pair
pair_there = put_there map.empty 1 1 pair refl

module _ {C : Type 0} (a b : C) where
  pub accepts_is : IsSoundState (told_world a b).b
      → TakesEvent (λ _. run_meaning) (accepts a b response_octets).event (accepts a b response_octets).before (accepts a b response_octets).said
      (accepts a b response_octets).after
  accepts_is sound = record {
    sound = sound;
    fresh = sealing 4 (omega arith);
    trace = stepped.trace;
    gateway = end_with B b (answering response_octets) answering_table;
    traces = record { kept = refl; does = inl (record { stepped = stepped; steps = steps; output = refl; traced = refl }) };
    content = ap (λ (o : Option Pair).
        world_of a b (end_with A a telling (reserved_table (spi_at A))) (end_with B b (answering response_octets) answering_table)
        (stored_of (sent_request ∷ sent_answer ∷ sent_auth ∷ sent_response response_octets ∷ []) (all_keyed a b response_octets)
        (option_to_list (child_with B made_child (Some worked_record) o)))) (sym pair_there);
  }

  -- B is sound then
  pub child_other_is_sound : SoundnessStays → NoSpiIsLost → IsSoundTable answering_table → IsInTime 0 (answering response_octets) → IsSoundState (told_world a b).b
      → IsSoundState (child_world a b response_octets).b
  child_other_is_sound stays held table timely sound =
      sound_next stays held run_meaning (ike.Message (replicate 4 1) auth_octets (fresh_of 4)) stepped (told_world a b).b (child_world a b response_octets).b
      sound steps table (timely_alone (config_at B) (answering response_octets) timely)

-- ---- the request had been sent

module _ {C : Type 0} (a b : C) (one_message : OneMessage) where
  pub auth_request_was_sent : (response : Bool) (number : ℕ) (octets : Octets)
      → ComesUnder (λ _. run_meaning) worked_record response number octets (accepts a b response_octets)
      → HasSent A worked_record response number octets (told_world a b).stored
  auth_request_was_sent =
      was_sent one_message (λ _. run_meaning) worked_record (accepts a b response_octets) asked auth_octets asked_spelled (λ octets same. same) A (told_world a b).stored
      (further_on sent_request (sent_answer ∷ sent_auth ∷ []) sent_auth
      (further_on sent_answer (sent_auth ∷ []) sent_auth (at_head sent_auth [])))
