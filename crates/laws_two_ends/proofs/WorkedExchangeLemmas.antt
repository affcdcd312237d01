-- The premises on an exchange are met in the run that begins with two new gateways.
use Rattle.std.proofs.Common.{refl, arith}
use Rattle.std.specs.Prelude.{replicate}
use Rattle.gateway.specs.declared.world.stored.End.TheVariants.{A}
use Rattle.wire.specs.declared.message.Header.{Header}
use Rattle.ike.specs.Records.{SaysOfSender}
use Rattle.laws_two_ends.proofs.InitLemmas.{answer_octets, answer_read, answered_message, asked_message, request_octets, request_read}
use Rattle.laws_two_ends.proofs.CallerLemmas.{answering_is, beginning_is}
use Rattle.laws_two_ends.proofs.NewEndLemmas.{NewWorldsAreSound}
use Rattle.laws_two_ends.proofs.ResponseLemmas.{response_octets}
use Rattle.laws_two_ends.proofs.SoundnessLemmas.{NoSpiIsLost, OneMessage, OneTime, SoundnessStays}
use Rattle.laws_two_ends.proofs.Stages.{all_steps, answers, begins, counted, last_world, opened, probed, telling, tells}
use Rattle.laws_two_ends.proofs.WorkedRecordLemmas.{init_sent, waiting}
use Rattle.laws_two_ends.proofs.WorkedRunLemmas.{run_is}
use Rattle.laws_two_ends.specs.WorkedRecords.{answering_fresh, beginning_fresh, fresh_of, introduction_of, worked_record}
use Rattle.gateway.specs.Exchanges.{HaveExchanged, HaveIntroduced}
use Rattle.laws_two_ends.specs.WorkedExchanges.{IsWorkedExchange}

have_exchanged : {C : Type 0} (a b : C) → HaveExchanged (all_steps a b response_octets) A 1 1
have_exchanged {C} a b = record {
  request = request_octets;
  response = answer_octets;
  asked = 0;
  asks = begins a b;
  asks_there = refl;
  sends = record { at = refl; said = refl; association = waiting; there = refl; sent = init_sent; waits = refl; secret = beginning_is.secret };
  answered = 1;
  replies = answers a b;
  replies_there = refl;
  answers = record { at = refl; from = replicate 4 1; fresh = fresh_of 2; came = refl; said = refl; none = refl; association = opened; there = refl; secret = answering_is.secret };
  taken = 2;
  takes = tells a b;
  takes_there = refl;
  reads = record { at = refl; from = replicate 4 2; fresh = fresh_of 3; came = refl; was = waiting; stood = refl; sent = init_sent; waited = refl; is = telling; there = refl; keys = worked_record; keyed = refl };
  later = omega arith;
}

request_says : SaysOfSender (λ (h : Header). h.spi_i) request_octets (introduction_of beginning_fresh)
request_says = record { message = asked_message; spelled = request_read; parts = _; complete = record { sa = refl; ke = refl; ni = refl }; is = refl }

answer_says : SaysOfSender (λ (h : Header). h.spi_r) answer_octets (introduction_of answering_fresh)
answer_says = record { message = answered_message; spelled = answer_read; parts = _; complete = record { sa = refl; ke = refl; ni = refl }; is = refl }

have_introduced : {C : Type 0} (a b : C) → HaveIntroduced (all_steps a b response_octets) A 1 1
unfolding have_exchanged
have_introduced {C} a b =
    let e = have_exchanged a b in
    record {
      initiator = introduction_of beginning_fresh;
      responder = introduction_of answering_fresh;
      sent = e.request;
      came = e.request;
      answer = e.response;
      response = e.response;
      asked = e.asked;
      asks = e.asks;
      asks_there = e.asks_there;
      sends = e.sends;
      sent_says = request_says;
      answered = e.answered;
      replies = e.replies;
      replies_there = e.replies_there;
      answers = e.answers;
      came_says = request_says;
      answer_says = answer_says;
      taken = e.taken;
      takes = e.takes;
      takes_there = e.takes_there;
      reads = e.reads;
      response_says = answer_says;
      later = e.later;
    }

pub worked_exchange_is : {C : Type 0} (a b : C) → SoundnessStays → NoSpiIsLost → OneMessage → OneTime → NewWorldsAreSound C → IsWorkedExchange a b
worked_exchange_is {C} a b stays held one_message one_time are_sound = record {
  happenings = all_steps a b response_octets;
  last = last_world a b response_octets;
  trail = run_is a b stays held;
  exchanged = have_exchanged a b;
  introduced = have_introduced a b;
  asking = record { association = counted; there = refl; keyed = refl };
  answering = record { association = probed; there = refl; keyed = refl };
}
