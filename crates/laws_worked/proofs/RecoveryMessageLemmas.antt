-- A asks a second time whether B is there. The request is retransmitted at the end of its first wait, is
-- processed at B and answered, and A matches the response.
use Rattle.std.proofs.Common.{◌≡◌, ◌+◌, ◌<◌, ◌∷◌, inl, inr, ℕ, Bool, true, false, List, [], Some, Option, map, length, ap, arith, refl, subst, sym, ◌∙◌, None}
use Rattle.std.proofs.lemmas.Bool.{true≢false}
use Rattle.std.proofs.lemmas.Bool.Decides.{eqb_tells}
use Rattle.std.specs.Cmp.{nat_cmp_total}
use Rattle.std.specs.FinMap as numbers
use Rattle.std.specs.FinMap.Entries as entries
use Rattle.std.specs.List.{filter, list_any}
use Rattle.std.specs.Option.{option_map}
use Rattle.std.specs.Ordering.{nat_cmp}
use Rattle.base.specs.Octets.{IsOctet, Octets}
use Rattle.wire.specs.Messages.{Spells, SpellsPlainly}
use Rattle.wire.specs.Numbers.{INFORMATIONAL}
use Rattle.wire.specs.Parts.{IsZero}
use Rattle.wire.specs.declared.message.Message.{Message}
use Rattle.policy.specs.declared.entry.Entry.{Entry}
use Rattle.suite.specs.declared.fresh.Fresh.{Fresh}
use Rattle.exchange.specs.Headers.{keys_of}
use Rattle.exchange.specs.Sealed.{IsSealed}
use Rattle.exchange.specs.declared.headers.Role.TheVariants.{Initiator, Responder}
use Rattle.requests.specs.Incoming.{IsFreshRequest, TakesRequest}
use Rattle.requests.specs.Numbers.{HasNumber}
use Rattle.requests.specs.Outgoing.{MayIssue}
use Rattle.requests.specs.declared.incoming.Judgement.TheVariants as judged
use Rattle.sadb.specs.Database.{Database}
use Rattle.association.specs.Purposes.{AwaitsDeletion}
use Rattle.association.specs.Receiving as receiving
use Rattle.association.specs.Receiving.{reception_by}
use Rattle.association.specs.declared.phase.Association.{Association}
use Rattle.association.specs.declared.phase.Request.{Request}
use Rattle.association.specs.declared.purpose.Purpose.TheVariants as purpose
use Rattle.association.specs.Issuing.{IssuesNext}
use Rattle.association.specs.Sending.{request_message}
use Rattle.setup.specs.Configs.{Setup}
use Rattle.setup.specs.declared.config.Config.{Config}
use Rattle.informational.specs.declared.ordering.Order.TheVariants as order
use Rattle.moments.specs.Due.{after_sending, due_of, has_failed, is_due, is_unanswered, resent, SendsAgain}
use Rattle.moments.specs.Ticking.{PassAll, PassesBy}
use Rattle.effects.specs.Requests.{OpensAs}
use Rattle.effects.specs.Taking.{TakesMessage}
use Rattle.effects.specs.declared.taking.Effect.TheVariants as effect
use Rattle.ike.specs.Asking.{AsksThat}
use Rattle.ike.specs.Machines.{Held}
use Rattle.ike.specs.Outputs.{asking_step}
use Rattle.laws_two_ends.specs.WorkedRequests.{worked_reply}
use Rattle.laws_two_ends.proofs.WorkedRequestLemmas.{first_three}
use Rattle.laws_two_ends.specs.WorkedMessages.{alive_octets, probe_octets}
use Rattle.laws_two_ends.specs.WorkedRecords.{worked_record}
use Rattle.laws_two_ends.specs.WorkedRuns.{run_meaning}
use Rattle.laws_two_ends.proofs.InformationalLemmas.{bare_message, empty_plain, is_answered, is_counted, nothing_ended, reply_by}
use Rattle.laws_two_ends.proofs.MapLemmas.{none_found, only_there, put_beside, put_there, taken_out}
use Rattle.laws_two_ends.proofs.MessageLemmas.{bare_is}
use Rattle.laws_two_ends.proofs.OctetLemmas.{octets_if}
use Rattle.laws_two_ends.proofs.SealedLemmas.{answering_header_is, asking_header_is}
use Rattle.laws_two_ends.proofs.TakenLemmas.{fresh_next, one_kept, one_more, takes_next}
use Rattle.laws_worked.specs.Recoveries.{sent_again}
use Rattle.laws_two_ends.proofs.HeldLemmas.{asking_waits_for_none}
use Rattle.laws_worked.proofs.RecoveryStages.{again, again_request, answered_twice, counted_twice, second_request, waiting_by}
use Rattle.laws_two_ends.proofs.Stages.{asking, counted, probe_request, probed}

-- ---- the octets

abbrev pub asked : Message
asked = bare_message Initiator false 3

abbrev pub answered : Message
answered = bare_message Responder true 3

pub asked_spelled : Spells asked probe_octets
asked_spelled =
    bare_is IsOctet (omega arith) 37 8 3 asked.header
    (asking_header_is IsOctet (omega arith) 37 3 refl (omega arith)) (octets_if probe_octets refl)

asked_plainly : SpellsPlainly asked probe_octets
asked_plainly = bare_is IsZero refl 37 8 3 asked.header (asking_header_is IsZero refl 37 3 refl (omega arith)) (octets_if probe_octets refl)

pub answer_spelled : Spells answered alive_octets
answer_spelled =
    bare_is IsOctet (omega arith) 37 32 3 answered.header
    (answering_header_is IsOctet (omega arith) 37 3 refl (omega arith)) (octets_if alive_octets refl)

answered_plainly : SpellsPlainly answered alive_octets
answered_plainly = bare_is IsZero refl 37 32 3 answered.header (answering_header_is IsZero refl 37 3 refl (omega arith)) (octets_if alive_octets refl)

-- ---- the request goes out

pub counted_waits_for_none : counted.outgoing.outstanding ≡ numbers.empty
counted_waits_for_none = taken_out asking.outgoing.outstanding asking_waits_for_none 2 probe_request

-- all numbers that A issued were answered
may_issue : MayIssue counted.outgoing
may_issue = record {
  not_busy = λ busy.
      let full = busy.full in
      let less : busy.gap < 3 = omega (arith, full) in
      absurd (true≢false (sym (first_three.has busy.gap less) ∙ busy.is_gap.missing));
  not_spent = λ spent. absurd (omega (arith, spent));
}

issued : IssuesNext counted.outgoing second_request (waiting_by second_request).outgoing
issued = record {
  ready = counted.outgoing;
  prepared = record { content = refl; room = omega arith };
  issued = record { allowed = may_issue; least = refl; content = refl; room = refl };
}

not_deleting : ¬ AwaitsDeletion counted.outgoing
not_deleting awaits = none_found counted.outgoing.outstanding counted_waits_for_none awaits.number awaits.request awaits.outstanding

abbrev holding : Association → Held
holding a = record { next = 2; associations = a ∷ [] }

module _ (config : Config) (entries : List Entry) (fresh : Fresh) where
  -- at time 0
  abbrev setup : Setup
  setup = record { config = config; entries = entries; fresh = fresh; moment = 0 }

  sealed : IsSealed run_meaning.body_of (keys_of Initiator worked_record) fresh.seal (request_message counted INFORMATIONAL 3 []) probe_octets
  sealed = record { first = 0; plain = []; spelled = (refl, refl); octets = tt; whole = asked_plainly }

  pub asks_that : (table : Database) → AsksThat run_meaning.body_of setup 1 order.Probe (holding counted) table (asking_step 1 3 probe_octets) (holding (waiting_by second_request)) table
  asks_that table = record {
    asks = record {
      place = 0;
      first = refl;
      association = counted;
      there = refl;
      octets = probe_octets;
      changed = waiting_by second_request;
      sends = record {
        keys = worked_record;
        established = refl;
        purpose = purpose.Probe;
        later = inl refl;
        payloads = [];
        clear = tt;
        sealed = sealed;
        outgoing = (waiting_by second_request).outgoing;
        issued = issued;
        content = refl;
      };
      said = refl;
      content = refl;
    };
    ordered = record {
      keys = worked_record;
      established = refl;
      not_deleting = not_deleting;
      sealed = sealed;
      outgoing = (waiting_by second_request).outgoing;
      issued = issued;
      content = refl;
    };
    marked = refl;
  }

-- ---- what waits

pub it_waits : (request : Request) → numbers.get (waiting_by request).outgoing.outstanding 3 ≡ Some request
it_waits request = put_there counted.outgoing.outstanding 3 3 request refl

pub none_waits : (request : Request) → ¬ (numbers.get counted.outgoing.outstanding 3 ≡ Some request)
none_waits request there = none_found counted.outgoing.outstanding counted_waits_for_none 3 request there

-- its number is answered, and nothing waits
pub none_waits_then : (request : Request) → ¬ (numbers.get counted_twice.outgoing.outstanding 3 ≡ Some request)
none_waits_then request there =
    none_found counted_twice.outgoing.outstanding (taken_out counted.outgoing.outstanding counted_waits_for_none 3 again_request) 3 request there

-- ---- it is retransmitted

abbrev none_out : numbers.FinMap nat_cmp Request
none_out = numbers.empty

no_entries_by : (es : List (ℕ × Request)) → length es ≡ 0 → es ≡ []
no_entries_by [] none = refl
no_entries_by (e ∷ es) none = absurd (omega (arith, none))

no_entries : numbers.entries none_out ≡ []
no_entries = no_entries_by (numbers.entries none_out) (sym (numbers.len-entries none_out) ∙ numbers.len-empty nat_cmp Request)

pub one_entry : (request : Request) → numbers.entries (waiting_by request).outgoing.outstanding ≡ (3, request) ∷ []
one_entry request =
    ap (λ (m : numbers.FinMap nat_cmp Request). numbers.entries (numbers.insert m 3 request)) counted_waits_for_none
    ∙ numbers.entries-insert nat_cmp_total none_out 3 request
    ∙ ap (entries.put nat_cmp 3 request) no_entries

pub none_at : (number : ℕ) → numbers.get counted.outgoing.outstanding number ≡ None
none_at number = ap (λ (m : numbers.FinMap nat_cmp Request). numbers.get m number) counted_waits_for_none ∙ numbers.get-empty nat_cmp number

abbrev before : Association
before = waiting_by second_request

abbrev later : Association
later = waiting_by again_request

not_failed : has_failed 1000 before ≡ false
not_failed = ap (list_any (λ (e : ℕ × Request). is_unanswered 1000 e.1)) (one_entry second_request)

sends : SendsAgain 1000 before later
sends = record {
  each = λ number. elim (eqb_tells number 3) [
    | inl (_, same) ↦
        put_there counted.outgoing.outstanding 3 number again_request same
        ∙ ap (option_map (after_sending 1000)) (sym (put_there counted.outgoing.outstanding 3 number second_request same))
    | inr (_, apart) ↦
        put_beside counted.outgoing.outstanding 3 number again_request apart
        ∙ none_at number
        ∙ ap (option_map (after_sending 1000)) (sym (put_beside counted.outgoing.outstanding 3 number second_request apart ∙ none_at number))
  ];
  content = refl;
}

goes : sent_again again ∷ [] ≡ due_of 1000 before
goes =
    sym (ap (λ (es : List (ℕ × Request)). map (resent before) (filter (λ e. is_due 1000 e.1) es)) (one_entry second_request))

passes : (table : Database) → PassesBy false (has_failed 1000 before) 1000 before table (sent_again again ∷ []) [] (later ∷ []) table
passes table =
    subst (λ (b : Bool). PassesBy false b 1000 before table (sent_again again ∷ []) [] (later ∷ []) table) (sym not_failed)
    (later, sends, goes, refl, refl, refl)

pub all_pass : (table : Database) → PassAll 1000 (before ∷ []) table (sent_again again ∷ []) [] (later ∷ []) table
all_pass table = record {
  sent_first = sent_again again ∷ [];
  sent_rest = [];
  closed_first = [];
  closed_rest = [];
  held_first = later ∷ [];
  held_rest = [];
  between = table;
  passes = record { done = passes table };
  others = (refl, refl, refl, refl);
  sent_all = refl;
  closed_all = refl;
  held_all = refl;
}

-- ---- it is processed

pub opens : OpensAs run_meaning.plain_of probed probe_octets 37 3
opens = record {
  message = asked;
  spelled = asked_spelled;
  spis = refl;
  from_peer = refl;
  request = refl;
  exchange_is = refl;
  number_is = refl;
  plain = record { first = 0; octets = [] };
  opened = refl;
}

pub fresh_three : IsFreshRequest probed.incoming 3
fresh_three = fresh_next probed.incoming 3 refl first_three

pub in_effect : HasNumber answered_twice.incoming.in_effect 3
in_effect = (one_more probed.incoming.in_effect 3 first_three).has 3 (omega arith)

last_kept : (n : ℕ) (octets : Octets) → numbers.get probed.incoming.kept n ≡ Some octets → n + 1 ≡ 3
last_kept n octets is = let two = (only_there numbers.empty refl 2 worked_reply n octets is).number in omega (arith, two)

taken : TakesRequest probed.incoming 3 alive_octets answered_twice.incoming
taken = takes_next probed.incoming 3 refl first_three alive_octets last_kept (let one = one_kept 2 worked_reply in omega (arith, one))

pub request_takes : (setup : Setup) (table : Database)
    → TakesMessage run_meaning setup probed table probe_octets asked (effect.Replied (reply_by alive_octets)) answered_twice table
request_takes setup table = record {
  reception = receiving.TakesEffect empty_plain;
  received = record { judgement = judged.Fresh; number = fresh_three; whole = refl };
  done = is_answered setup probed table 3 run_meaning worked_record alive_octets answered_twice.incoming refl
      (record { first = 0; plain = []; spelled = (refl, refl); octets = tt; whole = answered_plainly }) taken;
}

-- ---- the response is matched

pub response_takes : (setup : Setup) (table : Database)
    → TakesMessage run_meaning setup later table alive_octets answered (effect.Counted nothing_ended) counted_twice table
response_takes setup table = record {
  reception = receiving.Answers empty_plain;
  received = sym (ap (λ (o : Option Request). reception_by later.phase 37 o (Some empty_plain)) (it_waits again_request));
  done = is_counted setup later table 3 probe_octets again_request.timer (it_waits again_request);
}
