-- A asks for an additional Child SA; B makes it and answers, and A makes it too (RFC 7296 section 1.3.1).
use Rattle.std.proofs.Common.{◌≡◌, ◌+◌, ◌<◌, ◌≤◌, ◌∷◌, inr, ℕ, zero, suc, Bool, false, [], Some, None, Option, Any, Contains, ap, arith, refl, subst, sym, ◌∙◌}
use Rattle.std.proofs.lemmas.Bool.{true≢false}
use Rattle.std.specs.FinMap as map
use Rattle.std.specs.Prelude.{slice_get}
use Rattle.byteorder.specs.Endian.{big_number}
use Rattle.base.specs.Octets.{Octets}
use Rattle.wire.specs.declared.proposal.Transform.{Transform}
use Rattle.suite.specs.Choice.{kinds, sequence_numbers, without_attributes, IsAcceptableProposal, IsAcceptableTransform, IsChosenProposal}
use Rattle.suite.specs.Offers.{count_of_kind, AcceptsAnswer}
use Rattle.suite.specs.declared.choice.Wanted.TheVariants.{Esp}
use Rattle.exchange.specs.Chains.{error_of}
use Rattle.exchange.specs.Headers.{keys_of}
use Rattle.exchange.specs.declared.headers.Role.TheVariants.{Initiator, Responder}
use Rattle.exchange.specs.declared.sealed.Plain.{Plain}
use Rattle.requests.specs.Incoming.{TakesRequest}
use Rattle.requests.specs.Outgoing.{MayIssue}
use Rattle.requests.specs.declared.incoming.Judgement.TheVariants as judged
use Rattle.association.specs.AskedChildren.{asked_of}
use Rattle.association.specs.Issuing.{IssuesNext}
use Rattle.association.specs.Purposes.{AwaitsDeletion}
use Rattle.association.specs.Receiving as receiving
use Rattle.association.specs.Receiving.{reception_by}
use Rattle.association.specs.declared.outcome.Answered.{Answered}
use Rattle.association.specs.declared.outcome.Ended.{Ended}
use Rattle.association.specs.declared.outcome.Fate.TheVariants as fate
use Rattle.association.specs.declared.phase.Request.{Request}
use Rattle.association.specs.declared.purpose.Purpose.TheVariants as purpose
use Rattle.children.specs.Accepting.{AreAcceptedTerms}
use Rattle.children.specs.Responding.{made_of, AreMadeTerms}
use Rattle.children.specs.declared.responding.Made.{Made}
use Rattle.deliveries.specs.Worked.{any_traffic}
use Rattle.setup.specs.Configs.{Setup}
use Rattle.further.specs.Deciding.{further_setting, DecidesFurtherOn}
use Rattle.further.specs.Judging.{Admitted}
use Rattle.further.specs.declared.concluding.Conclusion.TheVariants as conclusion
use Rattle.further.specs.declared.deciding.Decision.TheVariants as decision
use Rattle.create_child.specs.Asking.{AsksForFurther}
use Rattle.effects.specs.Taking.{has_asked, DoesAnswer, TakesMessage}
use Rattle.effects.specs.declared.taking.Effect.TheVariants as effect
use Rattle.ike.specs.Asking.{AsksFurther}
use Rattle.ike.specs.Machines.{new_machine, setup_at}
use Rattle.ike.specs.Outputs.{asking_step}
use Rattle.gateway.proofs.PartyLemmas.{some_is}
use Rattle.laws_two_ends.proofs.WorkedRequestLemmas.{first_three, IsUpTo}
use Rattle.gateway.specs.declared.world.stored.End.TheVariants.{B}
use Rattle.laws_two_ends.specs.WorkedMessages.{alive_octets}
use Rattle.laws_two_ends.specs.WorkedRecords.{fresh_of, worked_record}
use Rattle.laws_two_ends.specs.WorkedRuns.{all_protected, config_at, run_meaning}
use Rattle.laws_two_ends.proofs.MapLemmas.{none_found, only_there, put_there, taken_out}
use Rattle.laws_two_ends.proofs.TakenLemmas.{fresh_next, one_kept, one_more, takes_next}
use Rattle.laws_two_ends.proofs.AcceptingLemmas.{all_3, any_selector, chosen, narrowing}
use Rattle.laws_two_ends.proofs.ConcludingLemmas.{all_inside}
use Rattle.laws_worked.proofs.FurtherMessageLemmas.{answered, answering_octets, answering_payloads, answering_read, answering_sealed, asked, asking_octets, asking_payloads, asking_read, asking_sealed, clear, nonce_of, plain_octets, proposal_of, spi_octets}
use Rattle.laws_worked.proofs.FurtherStages.{answered_thrice, answering_two, asked_table, asking_two, counted_thrice, further_request, further_terms, furthering, wanted_child}
use Rattle.laws_worked.proofs.FurtherTableLemmas.{adds, asking_not_full, installs, later_not_full, made_by_a}
use Rattle.laws_worked.proofs.RecoveryLemmas.{later_machine}
use Rattle.laws_worked.proofs.RecoveryMessageLemmas.{counted_waits_for_none}
use Rattle.laws_worked.proofs.RecoveryStages.{again_request, answered_twice, counted_twice}
use Rattle.laws_two_ends.proofs.Stages.{asking_table, counted, later_table, probed}

-- ---- the proposal of either end is acceptable

abbrev encryption : Transform
encryption = without_attributes 1 11

abbrev integrity : Transform
integrity = without_attributes 3 12

abbrev numbers : Transform
numbers = sequence_numbers false

-- no transform in front of that of sequence numbers is of its type
not_yet : (place : ℕ) (other : Transform) → place < 2 → slice_get (encryption ∷ integrity ∷ numbers ∷ []) place ≡ Some other → other.kind ≡ 5 → ⊥
not_yet zero other less there is = let kind : 1 ≡ other.kind = ap (λ (t : Transform). t.kind) (some_is encryption other there) in absurd (omega (arith, kind, is))
not_yet (suc zero) other less there is = let kind : 3 ≡ other.kind = ap (λ (t : Transform). t.kind) (some_is integrity other there) in absurd (omega (arith, kind, is))
not_yet (suc (suc place)) other less there is = absurd (omega (arith, less))

module _ (half : ℕ) (enough : 256 ≤ big_number 4 (spi_octets half)) where
  acceptable : IsAcceptableProposal (Esp false) (proposal_of half)
  acceptable = record {
    protocol = refl;
    spi = (refl, enough);
    no_other = all_3 (λ (t : Transform). Contains (kinds (Esp false)) t.kind) encryption integrity numbers
        (0, omega arith, refl) (1, omega arith, refl) (2, omega arith, refl);
    each = all_3 (λ (kind : ℕ). Any (IsAcceptableTransform (Esp false) kind) (proposal_of half).transforms) 1 3 5
        (0, encryption, omega arith, refl, (refl, (0, omega arith, refl)))
        (1, integrity, omega arith, refl, (refl, (1, omega arith, refl)))
        (2, numbers, omega arith, refl, (refl, (2, omega arith, refl)));
  }

  chosen_is : IsChosenProposal (Esp false) (proposal_of half ∷ []) chosen
  chosen_is = record {
    proposal = proposal_of half;
    here = refl;
    acceptable = acceptable;
    first = λ k other below. absurd (omega (arith, below));
    number = refl;
    numbers = record {
      place = 2;
      here = refl;
      acceptable = (refl, (2, omega arith, refl));
      first = λ k other below there is. not_yet k other below there is.0;
    };
  }

-- ---- A asks

abbrev asking_setup : Setup
asking_setup = setup_at later_machine all_protected (fresh_of 13)

pub first_four : IsUpTo answered_twice.incoming.in_effect 4
first_four = one_more probed.incoming.in_effect 3 first_three

all_answered : IsUpTo counted_twice.outgoing.answered 4
all_answered = one_more counted.outgoing.answered 3 first_three

pub twice_waits_for_none : counted_twice.outgoing.outstanding ≡ map.empty
twice_waits_for_none = taken_out counted.outgoing.outstanding counted_waits_for_none 3 again_request

may_issue : MayIssue counted_twice.outgoing
may_issue = record {
  not_busy = λ busy.
      let full = busy.full in
      let less : busy.gap < 4 = omega (arith, full) in
      absurd (true≢false (sym (all_answered.has busy.gap less) ∙ busy.is_gap.missing));
  not_spent = λ spent. absurd (omega (arith, spent));
}

issued : IssuesNext counted_twice.outgoing further_request furthering.outgoing
issued = record {
  ready = counted_twice.outgoing;
  prepared = record { content = refl; room = omega arith };
  issued = record { allowed = may_issue; least = refl; content = refl; room = refl };
}

not_deleting : ¬ AwaitsDeletion counted_twice.outgoing
not_deleting awaits = none_found counted_twice.outgoing.outstanding twice_waits_for_none awaits.number awaits.request awaits.outstanding

asks_for : AsksForFurther run_meaning.body_of asking_setup any_selector any_selector counted_twice (asking_table 1) asking_octets furthering asked_table
asks_for = record {
  keys = worked_record;
  established = refl;
  not_deleting = not_deleting;
  not_full = asking_not_full;
  not_spent = λ spent. absurd (omega (arith, spent));
  between = asking_table 1;
  room = record { content = refl; room = omega arith };
  spi = 257;
  reserved = record { in_order = refl; content = refl; room = omega arith };
  sealed = asking_sealed (keys_of Initiator worked_record) (fresh_of 13).seal;
  outgoing = furthering.outgoing;
  issued = issued;
  content = refl;
}

pub asks_further : AsksFurther run_meaning.body_of asking_setup 1 any_selector any_selector (record { next = 2; associations = counted_twice ∷ [] }) (asking_table 1)
    (asking_step 1 4 asking_octets) (record { next = 2; associations = furthering ∷ [] }) asked_table
asks_further = record {
  asks = record {
    place = 0;
    first = refl;
    association = counted_twice;
    there = refl;
    octets = asking_octets;
    changed = furthering;
    sends = record {
      keys = worked_record;
      established = refl;
      purpose = purpose.CreateChild wanted_child;
      later = inr refl;
      payloads = asking_payloads;
      clear = clear 1 13;
      sealed = asking_sealed (keys_of Initiator worked_record) (fresh_of 13).seal;
      outgoing = furthering.outgoing;
      issued = issued;
      content = refl;
    };
    said = refl;
    content = refl;
  };
  further = asks_for;
}

-- ---- B answers

abbrev answering_setup : Setup
answering_setup = setup_at (new_machine (config_at B)) all_protected (fresh_of 14)

abbrev made : Made
made = made_of (further_setting 2 1 worked_record (nonce_of 13) (nonce_of 14)) (Esp false) chosen further_terms

made_terms : AreMadeTerms false all_protected later_table (record { proposals = proposal_of 1 ∷ []; ts_i = any_traffic; ts_r = any_traffic }) chosen further_terms
unfolding chosen_is
made_terms = record {
  choice = chosen_is 1 (omega arith);
  peer = refl;
  own = refl;
  own_least = omega arith;
  own_most = omega arith;
  extension = refl;
  narrowed = narrowing;
  not_full = later_not_full;
  not_spent = λ spent. absurd (omega (arith, spent));
}

decides : DecidesFurtherOn answering_setup 1 worked_record later_table false asking_payloads (decision.Made made)
decides = record {
  judgement = Admitted (record { child = record { proposals = proposal_of 1 ∷ []; ts_i = any_traffic; ts_r = any_traffic }; nonce = nonce_of 13 });
  judged = record { known = refl; admitted = refl; sa = refl; nonce = refl; ts_i = refl; ts_r = refl };
  due = record { chosen = chosen; terms = further_terms; due = made_terms; whole = refl };
}

abbrev asked_plain : Plain
asked_plain = record { first = 33; octets = plain_octets 1 13 }

last_kept : (n : ℕ) (octets : Octets) → map.get answered_twice.incoming.kept n ≡ Some octets → n + 1 ≡ 4
last_kept n octets is = let three = (only_there map.empty refl 3 alive_octets n octets is).number in omega (arith, three)

taken : TakesRequest answered_twice.incoming 4 answering_octets answered_thrice.incoming
taken = takes_next answered_twice.incoming 4 refl first_four answering_octets last_kept (let one = one_kept 3 alive_octets in omega (arith, one))

abbrev pub reply_said : Answered
reply_said = record { octets = answering_octets; fate = fate.Made 2 }

pub request_takes : TakesMessage run_meaning answering_setup answered_twice later_table asking_octets asked (effect.Replied reply_said) answered_thrice answering_two
request_takes = record {
  reception = receiving.TakesEffect asked_plain;
  received = record { judgement = judged.Fresh; number = fresh_next answered_twice.incoming 4 refl first_four; whole = refl };
  done = record {
    keys = worked_record;
    established = refl;
    deleting = false;
    told = λ awaits. none_found map.empty refl awaits.number awaits.request awaits.outstanding;
    decision = decision.Made made;
    decided = record { payloads = Some asking_payloads; read = asking_read; due = decides };
    sealed = answering_sealed (keys_of Responder worked_record) (fresh_of 14).seal;
    incoming = answered_thrice.incoming;
    ready = answered_twice.incoming;
    prepared = record { content = refl; room = omega arith };
    taken = taken;
    between = later_table;
    room = record { content = refl; room = omega arith };
    concluded = (refl, adds);
  };
}

-- ---- A concludes

abbrev concluding_setup : Setup
concluding_setup = setup_at later_machine all_protected (fresh_of 15)

answer_accepted : AcceptsAnswer (Esp false) (proposal_of 2 ∷ []) chosen
answer_accepted = record {
  proposal = proposal_of 2;
  alone = refl;
  answer = record {
    acceptable = acceptable 2 (omega arith);
    number = refl;
    one_each = all_3 (λ (kind : ℕ). count_of_kind (proposal_of 2).transforms kind ≡ 1) 1 3 5 refl refl refl;
  };
  choice = chosen_is 2 (omega arith);
}

accepted_terms : AreAcceptedTerms (asked_of wanted_child.child) answering_payloads further_terms
accepted_terms = record {
  proposal = proposal_of 2;
  chosen = chosen;
  sa = refl;
  accepted = answer_accepted;
  own = refl;
  peer = refl;
  extension = refl;
  ts_i = refl;
  ts_r = refl;
  inside_i = all_inside;
  inside_r = all_inside;
}

abbrev answered_plain : Plain
answered_plain = record { first = 33; octets = plain_octets 2 14 }

request_there : map.get furthering.outgoing.outstanding 4 ≡ Some further_request
request_there = put_there counted_twice.outgoing.outstanding 4 4 further_request refl

abbrev pub child_made : Ended
child_made = record { fate = fate.Made 2; declined = None }

pub response_takes : TakesMessage run_meaning concluding_setup furthering asked_table answering_octets answered (effect.Counted child_made) counted_thrice asking_two
response_takes = record {
  reception = receiving.Answers answered_plain;
  received = sym (ap (λ (o : Option Request). reception_by furthering.phase 36 o (Some answered_plain)) request_there);
  done = subst (λ (b : Bool). DoesAnswer b concluding_setup furthering asked_table 4 answered_plain (effect.Counted child_made) counted_thrice asking_two)
      (sym (ap has_asked request_there)) (record {
        keys = worked_record;
        established = refl;
        request = further_request;
        further = wanted_child;
        asked = refl;
        outgoing = counted_thrice.outgoing;
        counted = record { there = request_there; content = refl };
        conclusion = conclusion.Made made_by_a;
        concluded = record {
          payloads = Some answering_payloads;
          read = answering_read;
          due = record { stands = refl; nonce = nonce_of 14; alone = refl; child = record { terms = further_terms; due = accepted_terms; made = refl } };
        };
        declined = record { error = error_of (Some answering_payloads); told = record { payloads = Some answering_payloads; read = answering_read; told = refl }; due = refl };
        ends = record { serial = 2; told = refl; installed = installs; same = refl };
      });
}
