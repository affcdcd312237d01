-- The steps of the machine of IKE in the run with extended sequence numbers (RFC 7296 sections 1.2, 2.14 and
-- 2.15).
use Rattle.std.proofs.Common.{◌≡◌, ◌<◌, ◌∷◌, inr, ℕ, zero, suc, false, true, Option, Some, None, List, [], All, Any, Contains, ap, arith, refl, sym}
use Rattle.std.specs.Prelude.{replicate, slice_get}
use Rattle.std.proofs.lemmas.List.Elements.{All-cons}
use Rattle.std.specs.FinMap as map
use Rattle.std.specs.FinSet as set
use Rattle.std.specs.Ordering.{nat_cmp}
use Rattle.base.specs.Octets.{Octets}
use Rattle.wire.specs.declared.proposal.Transform.{Transform}
use Rattle.suite.specs.Choice.{kinds, sequence_numbers, without_attributes, IsAcceptableProposal, IsAcceptableTransform, IsChosenProposal}
use Rattle.suite.specs.Offers.{count_of_kind, AcceptsAnswer}
use Rattle.suite.specs.declared.choice.Wanted.TheVariants.{Esp}
use Rattle.exchange.specs.Chains.{error_of}
use Rattle.exchange.specs.Headers.{keys_of}
use Rattle.exchange.specs.declared.headers.Role.TheVariants.{Initiator, Responder}
use Rattle.exchange.specs.declared.sealed.Plain.{Plain}
use Rattle.requests.specs.Incoming.{after_number_0, PeerRequests, TakesRequest}
use Rattle.requests.specs.declared.incoming.Judgement.TheVariants as judged
use Rattle.sadb.specs.Database.{empty_table, Database, Installs, IsFull}
use Rattle.sadb.specs.declared.pair.Pair.{Pair}
use Rattle.sa_init.specs.Judging.{Accepted}
use Rattle.sa_init.specs.Reading.{GivesKeys}
use Rattle.sa_init.specs.declared.response.Response.TheVariants as init
use Rattle.association.specs.AskedChildren.{asked_of}
use Rattle.association.specs.Admitting.{Admits}
use Rattle.association.specs.Receiving as receiving
use Rattle.association.specs.Receiving.{reception_by}
use Rattle.association.specs.declared.admitting.Admitted.{Admitted}
use Rattle.association.specs.declared.outcome.Answered.{Answered}
use Rattle.association.specs.declared.outcome.Ended.{Ended}
use Rattle.association.specs.declared.outcome.Fate.TheVariants as fate
use Rattle.association.specs.declared.phase.Association.{Association}
use Rattle.association.specs.declared.phase.AuthSent.{AuthSent}
use Rattle.association.specs.declared.phase.HalfOpen.{HalfOpen}
use Rattle.association.specs.declared.phase.Request.{Request}
use Rattle.children.specs.Accepting.{AreAcceptedTerms}
use Rattle.children.specs.Pairs.{new_pair}
use Rattle.children.specs.Responding.{made_of, AddsNext, AreMadeTerms}
use Rattle.children.specs.declared.responding.Made.{Made}
use Rattle.children.specs.declared.responding.Response.TheVariants as response
use Rattle.deliveries.specs.Worked.{any_traffic}
use Rattle.setup.specs.Configs.{first_setting, Setup}
use Rattle.initial.specs.Deciding.{AcceptsAuth}
use Rattle.initial.specs.Ending.{ProvesPeer}
use Rattle.initial.specs.Reading.{waiting_of, ReadsResponse, TellsIdentity}
use Rattle.initial.specs.declared.concluding.Outcome.TheVariants as outcome
use Rattle.initial.specs.declared.deciding.Decision.TheVariants as decision
use Rattle.initial.specs.declared.reading.Continued.TheVariants as continued
use Rattle.effects.specs.Taking.{asker_of, TakesMessage}
use Rattle.effects.specs.declared.taking.Effect.TheVariants as effect
use Rattle.ike.specs.Machines.{new_machine, setup_at, Machine}
use Rattle.ike.specs.Outputs.{half_open_step, plain_step, stepped_of}
use Rattle.ike.specs.Steps.{Message, Start, Steps}
use Rattle.ike.specs.declared.output.IkeOutput.TheVariants.{Request as Requested}
use Rattle.ike.specs.declared.output.Stepped.{Stepped}
use Rattle.gateway.specs.declared.world.stored.End.{End}
use Rattle.gateway.specs.declared.world.stored.End.TheVariants.{A, B}
use Rattle.gateway.proofs.PartyLemmas.{some_is}
use Rattle.laws_two_ends.proofs.WorkedRequestLemmas.{no_reply, none_there, IsUpTo}
use Rattle.esp.proofs.NumberLemmas.{contains-insert_nat}
use Rattle.laws_two_ends.specs.WorkedRecords.{answering_fresh, beginning_fresh, fresh_of, worked_asker, worked_record}
use Rattle.laws_two_ends.specs.WorkedRuns.{all_protected, run_meaning, spi_at}
use Rattle.laws_two_ends.proofs.AcceptLemmas.{answer_accepted as init_accepted, worked_chosen}
use Rattle.laws_two_ends.proofs.ArrivalLemmas.{alone, takes_alone}
use Rattle.laws_two_ends.proofs.InitLemmas.{answer_octets, answer_read, answered_message, asked_message, request_octets, request_read as init_read}
use Rattle.laws_two_ends.proofs.MapLemmas.{put_there}
use Rattle.laws_two_ends.proofs.RequestLemmas.{first_waits, second_issued}
use Rattle.laws_two_ends.proofs.TakenLemmas.{fresh_next, one_more, takes_next}
use Rattle.laws_two_ends.proofs.WorkedRecordLemmas as records
use Rattle.laws_two_ends.proofs.WorkedRecordLemmas.{accepted as init_judged, answered as init_answered, answered_has, answered_parts, first_request, worked_agreed, worked_beginning, worked_offer}
use Rattle.laws_worked.specs.ExtendedRuns.{extended_config}
use Rattle.laws_two_ends.proofs.AcceptingLemmas.{all_3, narrowing}
use Rattle.laws_two_ends.proofs.ConcludingLemmas.{all_inside}
use Rattle.laws_worked.proofs.ExtendedMessageLemmas.{answer_spelled, answered, answered_proposal, asked, asked_spelled, chosen, offered, request_octets as auth_octets, request_payloads, request_plain, request_read, request_sealed, response_octets, response_payloads, response_plain, response_read, response_sealed}
use Rattle.laws_worked.proofs.ExtendedStages.{answering_table, asking, asking_table, extended_child, init_sent, second_request, telling, terms, two_answered, waiting}
use Rattle.laws_two_ends.proofs.Stages.{answering, opened, reserved_table, two_taken}

-- an end's machine that holds this IKE SA alone
abbrev pub machine_with : End → Association → Machine
machine_with end a = alone (new_machine (extended_config end)) a

abbrev pub first_table : Database
first_table = reserved_table (spi_at A)

abbrev setup_of : End → ℕ → Setup
setup_of end number = setup_at (new_machine (extended_config end)) all_protected (fresh_of number)

-- ---- A begins

not_full : (spi : ℕ) → ¬ IsFull (empty_table spi)
not_full spi full =
    let no_pairs = map.len-empty nat_cmp Pair in
    let none_reserved = set.len-empty nat_cmp in
    absurd (omega (arith, full, no_pairs, none_reserved))

abbrev pub begun_step : Stepped
begun_step = plain_step (Requested 1 request_octets)

pub begin_steps : Steps run_meaning all_protected (Start None 0 (fresh_of 1)) (new_machine (extended_config A)) (empty_table (spi_at A)) begun_step
    (machine_with A waiting) first_table
begin_steps = (
  refl,
  record {
    entry = _;
    allowed = record { none = refl; protects = refl; next = refl; left = omega arith };
    beginning = worked_beginning;
    begins = records.begins;
    between = empty_table (spi_at A);
    room = record { content = refl; room = omega arith };
    done = record {
      not_full = not_full (spi_at A);
      not_spent = λ spent. absurd (omega (arith, spent));
      spi = spi_at A;
      reserved = record { in_order = refl; content = refl; room = omega arith };
      said = refl;
      content = refl;
    };
  },
)

-- ---- B answers

abbrev admitted : Admitted
admitted = record { association = opened; octets = answer_octets }

admits : Admits run_meaning.cipher run_meaning.group run_meaning.public_value run_meaning.shared_secret answering_fresh 0 1 worked_offer beginning_fresh.spi
    request_octets admitted
admits = record { agreed = worked_agreed; answer = init_answered; octets = refl; content = refl }

abbrev pub answered_step : Stepped
answered_step = half_open_step 1 answer_octets

pub answer_steps : Steps run_meaning all_protected (Message (replicate 4 1) request_octets (fresh_of 2)) (new_machine (extended_config B)) (empty_table (spi_at B)) answered_step
    (machine_with B opened) (empty_table (spi_at B))
answer_steps = (
  refl,
  inr (record {
    message = asked_message;
    spelled = init_read;
    done = (
      record {
        judgement = Accepted worked_offer;
        judged = init_judged;
        done = record { can = record { serial = omega arith; usable = refl }; done = inr (record { admitted = admitted; admits = admits; said = refl; content = refl }) };
      },
      refl,
    );
  }),
)

-- ---- A reads the answer, and tells who it is

gives : GivesKeys worked_asker.cipher worked_asker.group worked_asker.shared_secret (waiting_of beginning_fresh.spi init_sent) answered_message worked_record
gives = record {
  parts = answered_parts;
  acceptance = record { complete = answered_has; chosen = worked_chosen; accepted = init_accepted; same_group = refl; named = λ is. absurd (omega (arith, is)) };
  shared = replicate 32 0;
  agrees = refl;
  made = refl;
}

tells_identity : TellsIdentity (asker_of run_meaning) (setup_of A 3) waiting init_sent 0 answered_message answer_octets worked_record auth_octets telling
tells_identity = record {
  request = first_request;
  outstanding = first_waits first_request;
  sealed = request_sealed (keys_of Initiator worked_record) (fresh_of 3).seal;
  issued = second_issued second_request;
  content = refl;
}

reads : ReadsResponse (asker_of run_meaning) (setup_of A 3) waiting 0 answer_octets answered_message (continued.AsksAuth auth_octets) telling
reads = record { sent = init_sent; was = refl; response = init.Keys worked_record; means = gives; continues = tells_identity }

reads_message : TakesMessage run_meaning (setup_of A 3) waiting first_table answer_octets answered_message (effect.AsksAuth auth_octets) telling first_table
reads_message = record {
  reception = receiving.AnswersInitial;
  received = sym (ap (λ (o : Option Request). reception_by waiting.phase 34 o None) (first_waits first_request));
  done = (record { continued = continued.AsksAuth auth_octets; read = reads; said = refl }, refl);
}

abbrev pub told_step : Stepped
told_step = stepped_of 1 0 (effect.AsksAuth auth_octets)

pub tell_steps : Steps run_meaning all_protected (Message (replicate 4 2) answer_octets (fresh_of 3)) (machine_with A waiting) first_table told_step
    (machine_with A telling) first_table
tell_steps = takes_alone (new_machine (extended_config A)) all_protected (replicate 4 2) (fresh_of 3) answer_read refl refl reads_message

-- ---- both proposals are acceptable

abbrev encryption : Transform
encryption = without_attributes 1 11

abbrev integrity : Transform
integrity = without_attributes 3 12

abbrev long : Transform
long = sequence_numbers true

abbrev short : Transform
short = sequence_numbers false

all_4 : {X : Type 0} (P : X → Type 0) (a b c d : X) → P a → P b → P c → P d → All P (a ∷ b ∷ c ∷ d ∷ [])
all_4 {X} P a b c d pa pb pc pd = All-cons P a (b ∷ c ∷ d ∷ []) pa (all_3 P b c d pb pc pd)

-- no transform in front of the one that is chosen is of its type
not_yet : (place : ℕ) (other : Transform) (others : List Transform) → place < 2 → slice_get (encryption ∷ integrity ∷ others) place ≡ Some other → other.kind ≡ 5 → ⊥
not_yet zero other others less there is = let kind : 1 ≡ other.kind = ap (λ (t : Transform). t.kind) (some_is encryption other there) in absurd (omega (arith, kind, is))
not_yet (suc zero) other others less there is = let kind : 3 ≡ other.kind = ap (λ (t : Transform). t.kind) (some_is integrity other there) in absurd (omega (arith, kind, is))
not_yet (suc (suc place)) other others less there is = absurd (omega (arith, less))

offered_acceptable : IsAcceptableProposal (Esp true) offered
offered_acceptable = record {
  protocol = refl;
  spi = (refl, omega arith);
  no_other = all_4 (λ (t : Transform). Contains (kinds (Esp true)) t.kind) encryption integrity long short
      (0, omega arith, refl) (1, omega arith, refl) (2, omega arith, refl) (2, omega arith, refl);
  each = all_3 (λ (kind : ℕ). Any (IsAcceptableTransform (Esp true) kind) offered.transforms) 1 3 5
      (0, encryption, omega arith, refl, (refl, (0, omega arith, refl)))
      (1, integrity, omega arith, refl, (refl, (1, omega arith, refl)))
      (2, long, omega arith, refl, (refl, (3, omega arith, refl)));
}

offered_chosen : IsChosenProposal (Esp true) (offered ∷ []) chosen
offered_chosen = record {
  proposal = offered;
  here = refl;
  acceptable = offered_acceptable;
  first = λ k other below. absurd (omega (arith, below));
  number = refl;
  numbers = record {
    place = 2;
    here = refl;
    acceptable = (refl, (3, omega arith, refl));
    first = λ k other below there is. not_yet k other (long ∷ short ∷ []) below there is.0;
  };
}

answered_acceptable : IsAcceptableProposal (Esp true) answered_proposal
answered_acceptable = record {
  protocol = refl;
  spi = (refl, omega arith);
  no_other = all_3 (λ (t : Transform). Contains (kinds (Esp true)) t.kind) encryption integrity long
      (0, omega arith, refl) (1, omega arith, refl) (2, omega arith, refl);
  each = all_3 (λ (kind : ℕ). Any (IsAcceptableTransform (Esp true) kind) answered_proposal.transforms) 1 3 5
      (0, encryption, omega arith, refl, (refl, (0, omega arith, refl)))
      (1, integrity, omega arith, refl, (refl, (1, omega arith, refl)))
      (2, long, omega arith, refl, (refl, (3, omega arith, refl)));
}

answer_accepted : AcceptsAnswer (Esp true) (answered_proposal ∷ []) chosen
answer_accepted = record {
  proposal = answered_proposal;
  alone = refl;
  answer = record {
    acceptable = answered_acceptable;
    number = refl;
    one_each = all_3 (λ (kind : ℕ). count_of_kind answered_proposal.transforms kind ≡ 1) 1 3 5 refl refl refl;
  };
  choice = record {
    proposal = answered_proposal;
    here = refl;
    acceptable = answered_acceptable;
    first = λ k other below. absurd (omega (arith, below));
    number = refl;
    numbers = record {
      place = 2;
      here = refl;
      acceptable = (refl, (3, omega arith, refl));
      first = λ k other below there is. not_yet k other (long ∷ []) below there is.0;
    };
  };
}

-- ---- B accepts

abbrev before_table : Database
before_table = empty_table (spi_at B)

made_terms : AreMadeTerms true all_protected before_table (record { proposals = offered ∷ []; ts_i = any_traffic; ts_r = any_traffic }) chosen terms
unfolding offered_chosen
made_terms = record {
  choice = offered_chosen;
  peer = refl;
  own = refl;
  own_least = omega arith;
  own_most = omega arith;
  extension = refl;
  narrowed = narrowing;
  not_full = not_full (spi_at B);
  not_spent = λ spent. absurd (omega (arith, spent));
}

abbrev made : Made
made = made_of (first_setting (extended_config B) 1 worked_record) (Esp true) chosen terms

abbrev at_half : HalfOpen
at_half = record { keys = worked_record; request = request_octets; reply = answer_octets; made = 0 }

abbrev asked_plain : Plain
asked_plain = record { first = 35; octets = request_plain }

accepted : AcceptsAuth run_meaning.accepts (setup_of B 4) 1 at_half before_table request_payloads (response.Made made) 1
accepted = record {
  asked = record { child = record { proposals = offered ∷ []; ts_i = any_traffic; ts_r = any_traffic }; window = 1 };
  judged = record { known = refl; proved = refl; sa = refl; ts_i = refl; ts_r = refl; told = refl };
  child = record { chosen = chosen; terms = terms; due = made_terms; whole = refl };
  told = refl;
}

first_one : IsUpTo after_number_0.in_effect 1
first_one = one_more set.empty 0 (record { has = λ n less. absurd (omega (arith, less)); only = λ n is. absurd (none_there n is) })

-- with room for so many replies
abbrev with_room : ℕ → PeerRequests
with_room room = record after_number_0 { room = room }

taken : (reply : Octets) → TakesRequest (with_room 1) 1 reply (two_taken reply)
taken reply =
    takes_next (with_room 1) 1 refl first_one reply (λ n octets is. absurd (no_reply n octets is))
    (let none = map.len-empty nat_cmp Octets in omega (arith, none))

abbrev with_place : Database
with_place = record before_table { room = 1 }

adds : AddsNext with_place made.pair 1 answering_table
adds = record {
  spi = spi_at B;
  between = reserved_table (spi_at B);
  reserved = record { in_order = refl; content = refl; room = omega arith };
  installed = record {
    reserved = contains-insert_nat set.empty (spi_at B) (spi_at B);
    its_own = refl;
    in_order = refl;
    content = refl;
    room = omega arith;
    no_more = omega arith;
  };
}

abbrev reply_said : Answered
reply_said = record { octets = response_octets; fate = fate.Made 1 }

request_takes : TakesMessage run_meaning (setup_of B 4) opened before_table auth_octets asked (effect.Replied reply_said) (answering response_octets) answering_table
request_takes = record {
  reception = receiving.TakesEffect asked_plain;
  received = record { judgement = judged.Fresh; number = fresh_next (with_room 0) 1 refl first_one; whole = refl };
  done = record {
    opened = at_half;
    was = refl;
    decision = decision.Accepted (response.Made made) 1;
    decided = record { payloads = Some request_payloads; read = request_read; due = accepted };
    sealed = response_sealed (keys_of Responder worked_record) (fresh_of 4).seal;
    incoming = two_taken response_octets;
    ready = with_room 1;
    prepared = record { content = refl; room = omega arith };
    taken = taken response_octets;
    between = with_place;
    room = record { content = refl; room = omega arith };
    concluded = record { stands = refl; added = adds; content = refl };
  };
}

abbrev pub accepted_step : Stepped
accepted_step = stepped_of 1 1 (effect.Replied reply_said)

pub accept_steps : Steps run_meaning all_protected (Message (replicate 4 1) auth_octets (fresh_of 4)) (machine_with B opened) before_table accepted_step
    (machine_with B (answering response_octets)) answering_table
accept_steps = takes_alone (new_machine (extended_config B)) all_protected (replicate 4 1) (fresh_of 4) asked_spelled refl refl request_takes

-- ---- A concludes

accepted_terms : AreAcceptedTerms (asked_of extended_child) response_payloads terms
accepted_terms = record {
  proposal = answered_proposal;
  chosen = chosen;
  sa = refl;
  accepted = answer_accepted;
  own = refl;
  peer = refl;
  extension = refl;
  ts_i = refl;
  ts_r = refl;
  inside_i = all_inside;
  inside_r = all_inside;
}

abbrev made_by_a : Pair
made_by_a = new_pair Initiator (first_setting (extended_config A) 1 worked_record) terms

installs : Installs first_table (spi_at A) made_by_a 1 (asking_table 0)
installs = record {
  reserved = contains-insert_nat set.empty (spi_at A) (spi_at A);
  its_own = refl;
  in_order = refl;
  content = refl;
  room = omega arith;
  no_more = omega arith;
}

abbrev waits : AuthSent
waits = record { keys = worked_record; first = answer_octets; child = extended_child }

abbrev answered_plain : Plain
answered_plain = record { first = 36; octets = response_plain }

proves : ProvesPeer run_meaning.accepts (setup_of A 5) 1 waits response_payloads (Some made_by_a) 1
proves = record { proved = refl; child = record { terms = terms; due = accepted_terms; made = refl }; told = refl }

request_there : map.get telling.outgoing.outstanding 1 ≡ Some second_request
request_there = put_there map.empty 1 1 second_request refl

abbrev child_made : Ended
child_made = record { fate = fate.Made 1; declined = None }

response_takes : TakesMessage run_meaning (setup_of A 5) telling first_table response_octets answered (effect.Counted child_made) asking (asking_table 0)
response_takes = record {
  reception = receiving.Answers answered_plain;
  received = sym (ap (λ (o : Option Request). reception_by telling.phase 35 o (Some answered_plain)) request_there);
  done = record {
    sent = waits;
    was = refl;
    verdict = outcome.Establishes (Some made_by_a) 1;
    judged = record { payloads = Some response_payloads; read = response_read; due = proves };
    request = second_request;
    outgoing = two_answered;
    counted = record { there = request_there; content = refl };
    declined = record { error = error_of (Some response_payloads); told = record { payloads = Some response_payloads; read = response_read; told = refl }; due = refl };
    concluded = record { stands = refl; added = installs; content = refl };
  };
}

abbrev pub concluded_step : Stepped
concluded_step = stepped_of 1 1 (effect.Counted child_made)

pub conclude_steps : Steps run_meaning all_protected (Message (replicate 4 2) response_octets (fresh_of 5)) (machine_with A telling) first_table concluded_step
    (machine_with A asking) (asking_table 0)
conclude_steps = takes_alone (new_machine (extended_config A)) all_protected (replicate 4 2) (fresh_of 5) answer_spelled refl refl response_takes
