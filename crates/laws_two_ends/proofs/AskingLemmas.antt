-- A asks whether B is there; that is processed at B and is answered, and A matches the response, whatever
-- reply B kept before.
use Rattle.std.proofs.Common.{◌≡◌, ◌+◌, ◌<◌, inl, ℕ, true, false, List, [], ◌∷◌, Some, Option, ap, arith, refl, sym, ◌∙◌}
use Rattle.std.proofs.lemmas.Bool.{true≢false}
use Rattle.std.specs.FinMap as map
use Rattle.base.specs.Octets.{Octets}
use Rattle.wire.specs.Messages.{SpellsPlainly}
use Rattle.wire.specs.Numbers.{INFORMATIONAL}
use Rattle.wire.specs.Parts.{IsZero}
use Rattle.policy.specs.declared.entry.Entry.{Entry}
use Rattle.suite.specs.declared.fresh.Fresh.{Fresh}
use Rattle.exchange.specs.Headers.{keys_of}
use Rattle.exchange.specs.Sealed.{IsSealed}
use Rattle.exchange.specs.declared.headers.Role.TheVariants.{Initiator, Responder}
use Rattle.requests.specs.Incoming.{TakesRequest}
use Rattle.requests.specs.Outgoing.{MayIssue}
use Rattle.requests.specs.declared.incoming.Judgement.TheVariants as judged
use Rattle.sadb.specs.Database.{Database}
use Rattle.association.specs.Purposes.{AwaitsDeletion}
use Rattle.association.specs.Receiving as receiving
use Rattle.association.specs.Receiving.{reception_by}
use Rattle.association.specs.declared.phase.Association.{Association}
use Rattle.association.specs.declared.phase.Request.{Request}
use Rattle.association.specs.declared.purpose.Purpose.TheVariants as purpose
use Rattle.setup.specs.Configs.{Setup}
use Rattle.association.specs.Issuing.{IssuesNext}
use Rattle.setup.specs.declared.config.Config.{Config}
use Rattle.association.specs.Sending.{request_message}
use Rattle.informational.specs.declared.ordering.Order.TheVariants as order
use Rattle.effects.specs.Openings.{OpensAsMessage}
use Rattle.effects.specs.Taking.{TakesMessage}
use Rattle.effects.specs.declared.taking.Effect.TheVariants as effect
use Rattle.ike.specs.Asking.{AsksThat}
use Rattle.ike.specs.Machines.{Held}
use Rattle.ike.specs.Outputs.{asking_step}
use Rattle.laws_two_ends.specs.WorkedRequests.{worked_reply, worked_request}
use Rattle.laws_two_ends.proofs.WorkedRequestLemmas.{answer_spelled, answered, asked, asked_spelled, first_two}
use Rattle.laws_two_ends.specs.WorkedRecords.{worked_record}
use Rattle.laws_two_ends.proofs.OctetLemmas.{octets_if}
use Rattle.laws_two_ends.proofs.SealedLemmas.{answering_header_is, asking_header_is}
use Rattle.laws_two_ends.proofs.MessageLemmas.{bare_is}
use Rattle.laws_two_ends.proofs.InformationalLemmas.{empty_plain, is_answered, is_counted, nothing_ended, opens_bare, reply_by}
use Rattle.laws_two_ends.proofs.MapLemmas.{none_found, only_there, put_there}
use Rattle.laws_two_ends.proofs.TakenLemmas.{fresh_next, one_kept, takes_next}
use Rattle.laws_two_ends.specs.WorkedRuns.{run_meaning}
use Rattle.laws_two_ends.proofs.HeldLemmas.{asking_waits_for_none}
use Rattle.laws_two_ends.proofs.Stages.{answering, asking, counted, probe_request, probed, probing}

-- ---- the octets

asked_plainly : SpellsPlainly asked worked_request
asked_plainly = bare_is IsZero refl 37 8 2 asked.header (asking_header_is IsZero refl 37 2 refl (omega arith)) (octets_if worked_request refl)

answered_plainly : SpellsPlainly answered worked_reply
answered_plainly = bare_is IsZero refl 37 32 2 answered.header (answering_header_is IsZero refl 37 2 refl (omega arith)) (octets_if worked_reply refl)

pub probe_opens : (response : Octets) → OpensAsMessage run_meaning.plain_of (answering response) Initiator false 2 worked_request
probe_opens response = opens_bare run_meaning.plain_of (answering response) Initiator false 2 worked_record worked_request asked_spelled refl refl refl

pub reply_opens : OpensAsMessage run_meaning.plain_of probing Responder true 2 worked_reply
reply_opens = opens_bare run_meaning.plain_of probing Responder true 2 worked_record worked_reply answer_spelled refl refl refl

-- ---- the probe goes out

-- all numbers that A issued were answered
may_issue : MayIssue asking.outgoing
may_issue = record {
  not_busy = λ busy.
      let full = busy.full in
      let less : busy.gap < 2 = omega (arith, full) in
      absurd (true≢false (sym (first_two.has busy.gap less) ∙ busy.is_gap.missing));
  not_spent = λ spent. absurd (omega (arith, spent));
}

issued : IssuesNext asking.outgoing probe_request probing.outgoing
issued = record {
  ready = asking.outgoing;
  prepared = record { content = refl; room = omega arith };
  issued = record { allowed = may_issue; least = refl; content = refl; room = refl };
}

not_deleting : ¬ AwaitsDeletion asking.outgoing
not_deleting awaits = none_found asking.outgoing.outstanding asking_waits_for_none awaits.number awaits.request awaits.outstanding

abbrev holding : Association → Held
holding a = record { next = 2; associations = a ∷ [] }

module _ (config : Config) (entries : List Entry) (fresh : Fresh) where
  -- at time 0
  abbrev setup : Setup
  setup = record { config = config; entries = entries; fresh = fresh; moment = 0 }

  sealed : IsSealed run_meaning.body_of (keys_of Initiator worked_record) fresh.seal (request_message asking INFORMATIONAL 2 []) worked_request
  sealed = record { first = 0; plain = []; spelled = (refl, refl); octets = tt; whole = asked_plainly }

  pub probe_asks : (table : Database) → AsksThat run_meaning.body_of setup 1 order.Probe (holding asking) table (asking_step 1 2 worked_request) (holding probing) table
  probe_asks table = record {
    asks = record {
      place = 0;
      first = refl;
      association = asking;
      there = refl;
      octets = worked_request;
      changed = probing;
      sends = record {
        keys = worked_record;
        established = refl;
        purpose = purpose.Probe;
        later = inl refl;
        payloads = [];
        clear = tt;
        sealed = sealed;
        outgoing = probing.outgoing;
        issued = issued;
        content = refl;
      };
      said = refl;
      content = refl;
    };
    ordered = record {
      keys = worked_record;
      established = refl;
      not_deleting = not_deleting;
      sealed = sealed;
      outgoing = probing.outgoing;
      issued = issued;
      content = refl;
    };
    marked = refl;
  }

-- ---- it is processed

last_kept : (response : Octets) (n : ℕ) (octets : Octets) → map.get (answering response).incoming.kept n ≡ Some octets → n + 1 ≡ 2
last_kept response n octets is = let one = (only_there map.empty refl 1 response n octets is).number in omega (arith, one)

taken : (response : Octets) → TakesRequest (answering response).incoming 2 worked_reply probed.incoming
taken response =
    takes_next (answering response).incoming 2 refl first_two worked_reply (last_kept response) (let one = one_kept 1 response in omega (arith, one))

pub probe_takes : (response : Octets) (setup : Setup) (table : Database)
    → TakesMessage run_meaning setup (answering response) table worked_request asked (effect.Replied (reply_by worked_reply)) probed table
probe_takes response setup table = record {
  reception = receiving.TakesEffect empty_plain;
  received = record { judgement = judged.Fresh; number = fresh_next (answering response).incoming 2 refl first_two; whole = refl };
  done = is_answered setup (answering response) table 2 run_meaning worked_record worked_reply probed.incoming refl
      (record { first = 0; plain = []; spelled = (refl, refl); octets = tt; whole = answered_plainly }) (taken response);
}

-- ---- the response is matched

probe_waits : map.get probing.outgoing.outstanding 2 ≡ Some probe_request
probe_waits = put_there asking.outgoing.outstanding 2 2 probe_request refl

pub reply_takes : (setup : Setup) (table : Database)
    → TakesMessage run_meaning setup probing table worked_reply answered (effect.Counted nothing_ended) counted table
reply_takes setup table = record {
  reception = receiving.Answers empty_plain;
  received = sym (ap (λ (o : Option Request). reception_by probing.phase 37 o (Some empty_plain)) probe_waits);
  done = is_counted setup probing table 2 worked_request probe_request.timer probe_waits;
}
