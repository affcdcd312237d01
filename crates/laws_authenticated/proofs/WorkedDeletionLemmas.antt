-- A is told to delete the IKE SA. Its request is spelled so, is processed at B, and closes the IKE SA there.
use Rattle.std.proofs.Common.{◌≡◌, ◌+◌, ◌<◌, ◌∷◌, inl, inr, ℕ, true, List, [], Some, ap, arith, refl, subst, sym, ◌∙◌}
use Rattle.std.proofs.lemmas.Bool.{true≢false}
use Rattle.std.specs.FinMap as map
use Rattle.base.specs.Octets.{AreOctets, IsOctet, Octets}
use Rattle.wire.specs.Messages.{Spells, SpellsPlainly}
use Rattle.wire.specs.Numbers.{INFORMATIONAL}
use Rattle.wire.specs.Parts.{IsZero}
use Rattle.wire.specs.Payloads.{SpellsChain, SpellsPayloads}
use Rattle.wire.specs.declared.message.Message.{Message}
use Rattle.wire.specs.declared.payload.Payload.TheVariants.{Delete}
use Rattle.policy.specs.declared.entry.Entry.{Entry}
use Rattle.suite.specs.declared.fresh.Fresh.{Fresh}
use Rattle.exchange.specs.Headers.{keys_of}
use Rattle.exchange.specs.Sealed.{IsSealed}
use Rattle.exchange.specs.declared.headers.Role.TheVariants.{Initiator, Responder}
use Rattle.exchange.specs.declared.sealed.Plain.{Plain}
use Rattle.requests.specs.Incoming.{IsFreshRequest, TakesRequest}
use Rattle.requests.specs.Outgoing.{MayIssue}
use Rattle.requests.specs.declared.incoming.Judgement.TheVariants as judged
use Rattle.sadb.specs.Database.{Database}
use Rattle.association.specs.Closing.{Closes, HoldsSpi}
use Rattle.association.specs.Issuing.{with_incoming, IssuesNext}
use Rattle.association.specs.Purposes.{AwaitsDeletion}
use Rattle.association.specs.Receiving as receiving
use Rattle.association.specs.Sending.{request_message}
use Rattle.association.specs.declared.outcome.Answered.{Answered}
use Rattle.association.specs.declared.outcome.Fate.TheVariants as fate
use Rattle.association.specs.declared.phase.Association.{Association}
use Rattle.association.specs.declared.purpose.Purpose.TheVariants as purpose
use Rattle.setup.specs.Configs.{Setup}
use Rattle.setup.specs.declared.config.Config.{Config}
use Rattle.informational.specs.declared.ordering.Order.TheVariants as order
use Rattle.sadb.specs.declared.pair.Pair.{Pair}
use Rattle.effects.specs.Taking.{TakesMessage}
use Rattle.effects.specs.declared.taking.Effect.TheVariants as effect
use Rattle.ike.specs.Asking.{AsksThat}
use Rattle.ike.specs.Machines.{Held}
use Rattle.ike.specs.Outputs.{asking_step}
use Rattle.gateway.specs.Strangers.{CountsForOne}
use Rattle.laws_two_ends.specs.WorkedMessages.{alive_octets, header_octets}
use Rattle.laws_two_ends.specs.WorkedRecords.{worked_record}
use Rattle.laws_two_ends.specs.WorkedRequests.{worked_reply}
use Rattle.laws_two_ends.specs.WorkedRuns.{run_meaning}
use Rattle.laws_two_ends.proofs.HeldLemmas.{asking_waits_for_none}
use Rattle.laws_two_ends.proofs.InformationalLemmas.{bare_message}
use Rattle.laws_two_ends.proofs.MapLemmas.{none_found, only_there, taken_out}
use Rattle.laws_two_ends.proofs.MessageLemmas.{bare_is}
use Rattle.laws_two_ends.proofs.OctetLemmas.{octets_if}
use Rattle.laws_two_ends.proofs.SealedLemmas.{answering_header_is, asking_header_is, sealed_is}
use Rattle.laws_two_ends.proofs.Stages.{asking, counted, later_table, one_taken, pair_of, probe_request, probed}
use Rattle.laws_two_ends.proofs.TableLemmas.{lone_in}
use Rattle.laws_two_ends.proofs.TakenLemmas.{fresh_next, one_kept, takes_next}
use Rattle.laws_two_ends.proofs.WorkedRequestLemmas.{first_three}
use Rattle.laws_authenticated.specs.WorkedDeletions.{deletion_payload, deletion_under_keys}
use Rattle.laws_authenticated.proofs.WorkedDeletionStages.{deletion_request, emptied_table, encrypted_octets, ended, ending, four_taken, sealed_deletion}

-- ---- the octets

module _ (Free : ℕ → Type 0) (free : Free 0) where
  pub payload_is : SpellsPayloads Free 42 (Delete 1 [] ∷ []) deletion_payload
  payload_is = (
    refl,
    0,
    record {
      front = deletion_payload;
      rest = [];
      joined = refl;
      first = record {
        second = 0;
        body = 1 ∷ 0 ∷ 0 ∷ 0 ∷ [];
        part = record { spelled = refl; fits = omega arith };
        header = free;
        inside = record { size = 0; list = []; spelled = refl; count = omega arith; sized = inl (refl, refl, refl); each = refl };
      };
      others = (refl, refl);
    },
  )

pub payload_octets : AreOctets deletion_payload
payload_octets = octets_if deletion_payload refl

pub payload_read : SpellsChain 42 (Delete 1 [] ∷ []) deletion_payload
payload_read = record { clear = (λ is. absurd (omega (arith, is)), tt); payloads = payload_is IsOctet (omega arith); octets = payload_octets }

pub asked_spelled : Spells deletion_under_keys sealed_deletion
asked_spelled =
    sealed_is IsOctet (omega arith) 42 (header_octets 37 8 3) deletion_payload encrypted_octets sealed_deletion deletion_under_keys.header
    (asking_header_is IsOctet (omega arith) 37 3 refl (omega arith)) (record { spelled = refl; fits = omega arith }) refl (omega arith) (octets_if sealed_deletion refl)

asked_plainly : SpellsPlainly deletion_under_keys sealed_deletion
asked_plainly =
    sealed_is IsZero refl 42 (header_octets 37 8 3) deletion_payload encrypted_octets sealed_deletion deletion_under_keys.header
    (asking_header_is IsZero refl 37 3 refl (omega arith)) (record { spelled = refl; fits = omega arith }) refl (omega arith) (octets_if sealed_deletion refl)

-- the response, which holds no payloads
abbrev answered : Message
answered = bare_message Responder true 3

answered_plainly : SpellsPlainly answered alive_octets
answered_plainly = bare_is IsZero refl 37 32 3 answered.header (answering_header_is IsZero refl 37 3 refl (omega arith)) (octets_if alive_octets refl)

-- ---- the request goes out

pub counted_waits_for_none : counted.outgoing.outstanding ≡ map.empty
counted_waits_for_none = taken_out asking.outgoing.outstanding asking_waits_for_none 2 probe_request

-- all numbers that A issued were answered
may_issue : MayIssue counted.outgoing
may_issue = record {
  not_busy = λ busy.
      let full = busy.full in
      let less : busy.gap < 3 = omega (arith, full) in
      absurd (true≢false (sym (first_three.has busy.gap less) ∙ busy.is_gap.missing));
  not_spent = λ spent. absurd (omega (arith, spent));
}

issued : IssuesNext counted.outgoing deletion_request ending.outgoing
issued = record {
  ready = counted.outgoing;
  prepared = record { content = refl; room = omega arith };
  issued = record { allowed = may_issue; least = refl; content = refl; room = refl };
}

not_deleting : ¬ AwaitsDeletion counted.outgoing
not_deleting awaits = none_found counted.outgoing.outstanding counted_waits_for_none awaits.number awaits.request awaits.outstanding

abbrev holding : Association → Held
holding a = record { next = 2; associations = a ∷ [] }

module _ (config : Config) (entries : List Entry) (fresh : Fresh) where
  -- at time 0
  abbrev setup : Setup
  setup = record { config = config; entries = entries; fresh = fresh; moment = 0 }

  sealed : IsSealed run_meaning.body_of (keys_of Initiator worked_record) fresh.seal (request_message counted INFORMATIONAL 3 (Delete 1 [] ∷ [])) sealed_deletion
  sealed = record { first = 42; plain = deletion_payload; spelled = payload_is IsZero refl; octets = payload_octets; whole = asked_plainly }

  pub asks_to_delete : (table : Database)
      → AsksThat run_meaning.body_of setup 1 order.DeleteAssociation (holding counted) table (asking_step 1 3 sealed_deletion) (holding ending) table
  asks_to_delete table = record {
    asks = record {
      place = 0;
      first = refl;
      association = counted;
      there = refl;
      octets = sealed_deletion;
      changed = ending;
      sends = record {
        keys = worked_record;
        established = refl;
        purpose = purpose.DeleteAssociation;
        later = inl refl;
        payloads = Delete 1 [] ∷ [];
        clear = payload_read.clear;
        sealed = sealed;
        outgoing = ending.outgoing;
        issued = issued;
        content = refl;
      };
      said = refl;
      content = refl;
    };
    ordered = record {
      keys = worked_record;
      established = refl;
      not_deleting = not_deleting;
      sealed = sealed;
      outgoing = ending.outgoing;
      issued = issued;
      content = refl;
    };
    marked = refl;
  }

-- ---- it is processed

pub fresh_three : IsFreshRequest probed.incoming 3
fresh_three = fresh_next probed.incoming 3 refl first_three

last_kept : (n : ℕ) (octets : Octets) → map.get probed.incoming.kept n ≡ Some octets → n + 1 ≡ 3
last_kept n octets is = let two = (only_there map.empty refl 2 worked_reply n octets is).number in omega (arith, two)

taken : TakesRequest probed.incoming 3 alive_octets four_taken
taken = takes_next probed.incoming 3 refl first_three alive_octets last_kept (let one = one_kept 2 worked_reply in omega (arith, one))

abbrev pub plain_deletion : Plain
plain_deletion = record { first = 42; octets = deletion_payload }

-- B holds this IKE SA alone
pub counts_for_it : CountsForOne run_meaning.plain_of (holding probed) sealed_deletion
counts_for_it = record {
  message = deletion_under_keys;
  spelled = asked_spelled;
  place = 0;
  meant = refl;
  association = probed;
  there = refl;
  plain = plain_deletion;
  counts = record { request = refl; fresh = fresh_three; admitted = refl; opened = refl };
}

-- ---- the IKE SA is closed

no_spi : (spi : ℕ) → HoldsSpi (with_incoming probed four_taken) spi → ⊥
no_spi spi (inl is) = cc
no_spi spi (inr waits) = none_found map.empty refl waits.number waits.awaits.request waits.awaits.outstanding

-- the pair in B's table
abbrev pub delivering : Pair
delivering = pair_of Responder 0 one_taken

closes : Closes (with_incoming probed four_taken) later_table 0 ended emptied_table
closes = record {
  between = later_table;
  released = record {
    reserved = λ spi. (λ there. (there, λ held. no_spi spi held), λ both. both.0);
    content = refl;
    room = omega arith;
  };
  removed = record {
    kept = λ child pair. (
      λ there. absurd (none_found map.empty refl child pair there),
      λ both. absurd (both.1 (ap (λ (p : Pair). p.ike) ((lone_in delivering).only child pair both.0).content)),
    );
    content = refl;
    room = omega arith;
  };
  requests = record { content = refl };
  content = refl;
}

abbrev pub deletion_said : Answered
deletion_said = record { octets = alive_octets; fate = fate.Closed }

pub request_takes : (setup : Setup) → setup.moment ≡ 0
    → TakesMessage run_meaning setup probed later_table sealed_deletion deletion_under_keys (effect.Replied deletion_said) ended emptied_table
request_takes setup begins = record {
  reception = receiving.TakesEffect plain_deletion;
  received = record { judgement = judged.Fresh; number = fresh_three; whole = refl };
  done = record {
    keys = worked_record;
    established = refl;
    payloads = Some (Delete 1 [] ∷ []);
    read = payload_read;
    sealed = record { first = 0; plain = []; spelled = (refl, refl); octets = tt; whole = answered_plainly };
    incoming = four_taken;
    ready = probed.incoming;
    prepared = record { content = refl; room = omega arith };
    taken = taken;
    fate = refl;
    concluded = subst (λ (n : ℕ). Closes (with_incoming probed four_taken) later_table n ended emptied_table) (sym begins) closes;
  };
}
