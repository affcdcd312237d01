-- The worked calls are there, and are of one exchange.
use Rattle.std.proofs.Common.{◌∷◌, [], inl, arith, refl}
use Rattle.std.specs.Prelude.{None, replicate}
use Rattle.sa_init.specs.Agreement.{IsAnswer}
use Rattle.sa_init.specs.Cookies.{first_secret}
use Rattle.sa_init.specs.Judging.{IsAccepted, OfferView}
use Rattle.sa_init.specs.Parts.{HasParts, PartsView}
use Rattle.sa_init.specs.Reading.{GivesKeys}
use Rattle.sa_init.specs.declared.answers.Agreed.{Agreed}
use Rattle.sa_init.specs.declared.response.Response.TheVariants as response
use Rattle.requests.specs.Outgoing.{none_issued, number_0_answered}
use Rattle.association.specs.declared.phase.Association.{Association}
use Rattle.association.specs.declared.phase.InitSent.{InitSent}
use Rattle.association.specs.declared.phase.Phase.TheVariants as phase
use Rattle.association.specs.declared.phase.Request.{Request}
use Rattle.association.specs.declared.purpose.Purpose.TheVariants.{Begin, Identify}
use Rattle.association.specs.Admitting.{half_open, Admits}
use Rattle.initial.specs.Beginning.{begun, Begins}
use Rattle.association.specs.Issuing.{new_request}
use Rattle.initial.specs.Reading.{waiting_of, ReadsResponse, TellsIdentity}
use Rattle.association.specs.declared.admitting.Admitted.{Admitted}
use Rattle.initial.specs.declared.beginning.Beginning.{Beginning}
use Rattle.initial.specs.declared.reading.Continued.TheVariants as continued
use Rattle.ike.specs.Records.{ComesToKeysAsInitiator, ComesToKeysAsResponder}
use Rattle.wire.specs.Parts.{IsZero}
use Rattle.laws_two_ends.specs.WorkedRecords.{answering_fresh, beginning_fresh, introduction_of, worked_asker, worked_record, AreOfOneExchange, IsWorkedRecord}
use Rattle.laws_two_ends.proofs.AcceptLemmas.{answer_accepted, chosen_is, worked_chosen}
use Rattle.laws_two_ends.proofs.AuthLemmas.{auth_octets, plain_octets, request_chain, request_is, sendable, worked_child}
use Rattle.laws_two_ends.proofs.CallerLemmas.{answering_is, beginning_is, can_be, reading_is, set_up, worked_setup}
use Rattle.laws_two_ends.proofs.InitLemmas.{answer_octets, answer_read, answer_sent, answered_message, asked_message, init_proposal, request_octets, request_read, request_sent}
use Rattle.laws_two_ends.proofs.OctetLemmas.{octets_if}
use Rattle.laws_two_ends.proofs.RequestLemmas.{after, first_issued, first_waits, second_issued}

-- ---- the initiator begins

abbrev pub first_request : Request
first_request = new_request request_octets Begin 0

abbrev pub worked_beginning : Beginning
worked_beginning = record {
  octets = request_octets;
  outgoing = after none_issued first_request;
  spi_i = beginning_fresh.spi;
  secret = beginning_fresh.secret;
  nonce = beginning_fresh.nonce;
}

pub begins : Begins worked_asker.cipher worked_asker.group worked_asker.public_value beginning_fresh 0 worked_beginning
begins = record { spelled = request_sent; issued = first_issued first_request; spi = refl; secret = refl; nonce_is = refl }

-- what waits for the answer
abbrev pub waiting : Association
waiting = begun 1 worked_beginning worked_child

abbrev pub init_sent : InitSent
init_sent = record { secret = beginning_fresh.secret; nonce = beginning_fresh.nonce; cookie = None; cookies_taken = 0; child = worked_child }

-- ---- the responder answers

abbrev pub worked_offer : OfferView
worked_offer = record { chosen = worked_chosen; public = worked_asker.public_value beginning_fresh.secret; nonce = beginning_fresh.nonce }

abbrev pub asked_parts : PartsView
asked_parts = record { proposals = init_proposal ∷ []; group = worked_asker.group; public = worked_asker.public_value beginning_fresh.secret; nonce = beginning_fresh.nonce }

pub asked_has : HasParts asked_message.payloads asked_parts
asked_has = record { sa = refl; ke = refl; ni = refl }

pub accepted : IsAccepted worked_asker.cipher worked_asker.group (first_secret (replicate 32 0)) (record { address = replicate 4 1; spi_i = 1 }) 0 0 asked_message.payloads worked_offer
accepted = record {
  parts = asked_parts;
  considered = record {
    heard = record { whole = record { known = refl; complete = asked_has }; reached = inl (omega arith) };
    opening = omega arith;
    holding = omega arith;
  };
  suited = record { same_group = refl; choice = chosen_is };
  value = refl;
  ni = refl;
}

abbrev pub worked_agreed : Agreed
worked_agreed = record { «record» = worked_record; octets = answer_octets }

abbrev admitted : Admitted
admitted = record { association = half_open 1 beginning_fresh.spi answering_fresh.spi worked_record request_octets answer_octets 1; octets = answer_octets }

pub answered : IsAnswer worked_asker.cipher worked_asker.group worked_asker.public_value worked_asker.shared_secret worked_offer beginning_fresh.spi answering_fresh worked_agreed
answered = record { shared = replicate 32 0; agrees = refl; keys = refl; spelled = answer_sent }

admits : Admits worked_asker.cipher worked_asker.group worked_asker.public_value worked_asker.shared_secret answering_fresh 1 1 worked_offer beginning_fresh.spi request_octets admitted
admits = record { agreed = worked_agreed; answer = answered; octets = refl; content = refl }

answers : ComesToKeysAsResponder worked_asker.cipher worked_asker.group worked_asker.public_value worked_asker.shared_secret (introduction_of answering_fresh) (introduction_of beginning_fresh) worked_record
answers = record {
  fresh = answering_fresh;
  moment = 1;
  serial = 1;
  offer = worked_offer;
  spi_i = beginning_fresh.spi;
  request = request_octets;
  admitted = admitted;
  admits = admits;
  keyed = refl;
  secret = answering_is.secret;
  own_is = refl;
  other_is = refl;
}

-- ---- the initiator reads the answer

abbrev pub answered_parts : PartsView
answered_parts = record { proposals = init_proposal ∷ []; group = worked_asker.group; public = worked_asker.public_value answering_fresh.secret; nonce = answering_fresh.nonce }

pub answered_has : HasParts answered_message.payloads answered_parts
answered_has = record { sa = refl; ke = refl; ni = refl }

pub gives : GivesKeys worked_asker.cipher worked_asker.group worked_asker.shared_secret (waiting_of beginning_fresh.spi init_sent) answered_message worked_record
gives = record {
  parts = answered_parts;
  acceptance = record { complete = answered_has; chosen = worked_chosen; accepted = answer_accepted; same_group = refl; named = λ is. absurd (omega (arith, is)) };
  shared = replicate 32 0;
  agrees = refl;
  made = refl;
}

abbrev second_request : Request
second_request = new_request auth_octets Identify 2

-- what waits for the answer to IKE_AUTH
abbrev telling : Association
telling = record waiting {
  spi_r = answering_fresh.spi;
  outgoing = after number_0_answered second_request;
  phase = phase.AuthSent (record { keys = worked_record; first = answer_octets; child = worked_child });
}

tells : TellsIdentity worked_asker worked_setup waiting init_sent 0 answered_message answer_octets worked_record auth_octets telling
tells = record {
  request = first_request;
  outstanding = first_waits first_request;
  sealed = record { first = 35; plain = plain_octets 1; spelled = request_chain IsZero refl; octets = octets_if (plain_octets 1) refl; whole = request_is IsZero refl };
  issued = second_issued second_request;
  content = refl;
}

reads : ReadsResponse worked_asker worked_setup waiting 0 answer_octets answered_message (continued.AsksAuth auth_octets) telling
reads = record { sent = init_sent; was = refl; response = response.Keys worked_record; means = gives; continues = tells }

asks : ComesToKeysAsInitiator worked_asker (introduction_of beginning_fresh) (introduction_of answering_fresh) worked_record
unfolding reads
asks = record {
  setup = worked_setup;
  old = waiting;
  new = telling;
  number = 0;
  octets = answer_octets;
  response = answered_message;
  request = auth_octets;
  read = reads;
  keyed = refl;
  secret = beginning_is.secret;
  own_is = refl;
  parts = answered_parts;
  complete = answered_has;
  other_is = refl;
}

-- ---- both are of one exchange

one_exchange : AreOfOneExchange worked_asker beginning_fresh (introduction_of beginning_fresh) (introduction_of answering_fresh) worked_record asks answers
unfolding asks answers
one_exchange = record {
  moment = 0;
  serial = 1;
  child = worked_child;
  sendable = sendable;
  beginning = worked_beginning;
  begins = begins;
  began = refl;
  sent = refl;
  waiting = first_request;
  outstanding = first_waits first_request;
  one_request = refl;
  asked = asked_message;
  asked_spelled = request_read;
  sender = record { address = replicate 4 1; spi_i = 1 };
  from = (refl, refl);
  secrets = first_secret (replicate 32 0);
  accepted = accepted;
  one_answer = refl;
  answer_spelled = answer_read;
}

pub worked_record_is : IsWorkedRecord
unfolding asks answers
worked_record_is = record {
  can_be = can_be;
  beginning_is = beginning_is;
  answering_is = answering_is;
  reading_is = reading_is;
  asks = asks;
  asks_with = refl;
  set_up = set_up;
  answers = answers;
  answers_with = refl;
  one_exchange = one_exchange;
}
