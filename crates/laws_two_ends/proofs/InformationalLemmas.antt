-- A request of INFORMATIONAL without payloads is answered without any, and the answer is matched (RFC 7296
-- section 1.4). The IKE SA stays as it is, with its pairs.
use Rattle.std.proofs.Common.{◌≡◌, ◌+◌, ◌∷◌, ℕ, Bool, true, false, [], Some, None, ap, arith, refl, subst, sym}
use Rattle.std.specs.FinMap as map
use Rattle.std.specs.FinSet as set
use Rattle.base.specs.Octets.{Octets}
use Rattle.wire.specs.Messages.{Spells}
use Rattle.wire.specs.Numbers.{INFORMATIONAL}
use Rattle.wire.specs.declared.message.Message.{Message}
use Rattle.wire.specs.declared.payload.Payload.TheVariants.{Sealed}
use Rattle.suite.specs.declared.key_record.KeyRecord.{KeyRecord}
use Rattle.exchange.specs.Headers.{keys_of, sent_header}
use Rattle.exchange.specs.Sealed.{plain_of_message, IsSealed}
use Rattle.exchange.specs.declared.headers.Role.{Role}
use Rattle.exchange.specs.declared.sealed.Plain.{Plain}
use Rattle.requests.specs.Incoming.{PeerRequests, TakesRequest}
use Rattle.requests.specs.declared.timer.Timer.{Timer}
use Rattle.sadb.specs.Database.{Database}
use Rattle.association.specs.Finding.{has_pair}
use Rattle.association.specs.Phases.{keys_in}
use Rattle.association.specs.Receiving.{Opening}
use Rattle.association.specs.declared.phase.Association.{Association}
use Rattle.association.specs.declared.phase.Phase.TheVariants as phase
use Rattle.association.specs.declared.phase.Request.{Request}
use Rattle.association.specs.declared.purpose.Purpose.TheVariants.{Probe}
use Rattle.association.specs.Sending.{reply_message}
use Rattle.association.specs.Issuing.{with_incoming, with_outgoing}
use Rattle.setup.specs.Configs.{Setup}
use Rattle.association.specs.declared.outcome.Answered.{Answered}
use Rattle.association.specs.declared.outcome.Ended.{Ended}
use Rattle.association.specs.declared.outcome.Fate.TheVariants as fate
use Rattle.informational.specs.Answering.{AnswersInformational}
use Rattle.informational.specs.Orders.{ClosesIf}
use Rattle.effects.specs.Openings.{OpensAsMessage}
use Rattle.effects.specs.Taking.{asked_further, has_asked, DoesAnswer, Meaning}
use Rattle.effects.specs.declared.taking.Effect.TheVariants as effect

abbrev pub empty_plain : Plain
empty_plain = record { first = 0; octets = [] }

abbrev pub reply_by : Octets → Answered
reply_by octets = record { octets = octets; fate = fate.Stands }

abbrev pub nothing_ended : Ended
nothing_ended = record { fate = fate.Stands; declined = None }

-- the message of the end of this role
abbrev pub bare_message : Role → Bool → ℕ → Message
bare_message sender response number = record { header = sent_header 1 2 INFORMATIONAL sender response number; payloads = Sealed 0 [] ∷ [] }

module _ (plain_of : Opening) (a : Association) (sender : Role) (response : Bool) (number : ℕ) (keys : KeyRecord) (octets : Octets) where
  abbrev message : Message
  message = bare_message sender response number

  pub opens_bare : Spells message octets → has_pair message.header a ≡ true → keys_in a.phase ≡ Some keys
      → plain_of_message plain_of (keys_of sender keys) octets message.payloads ≡ Some empty_plain → OpensAsMessage plain_of a sender response number octets
  opens_bare spelled spis keyed opened = record {
    message = message;
    spelled = spelled;
    spis = spis;
    from_sender = refl;
    is_response = refl;
    number_is = refl;
    keys = keys;
    keyed = keyed;
    plain = empty_plain;
    opened = opened;
  }

module _ (setup : Setup) (a : Association) (table : Database) (number : ℕ) where
  none_goes : (new : Association) → ClosesIf false [] new table setup.moment new table
  none_goes new = (
    refl,
    record {
      its_own = λ place d less. absurd (omega (arith, less));
      removed = record {
        kept = λ serial pair. (λ there. (there, λ among. absurd (omega (arith, among.1))), λ both. both.0);
        content = refl;
        room = omega arith;
        no_more = omega arith;
      };
    },
  )

  pub is_answered : (meaning : Meaning) (keys : KeyRecord) (octets : Octets) (incoming : PeerRequests) → a.phase ≡ phase.Established keys
      → IsSealed meaning.body_of (keys_of a.role keys) setup.fresh.seal (reply_message a INFORMATIONAL number []) octets
      → TakesRequest a.incoming number octets incoming
      → AnswersInformational meaning.body_of setup a table number empty_plain (reply_by octets) (with_incoming a incoming) table
  is_answered meaning keys octets incoming established sealed taken = record {
    keys = keys;
    established = established;
    payloads = Some [];
    read = record { clear = tt; payloads = (refl, refl); octets = tt };
    sealed = sealed;
    incoming = incoming;
    ready = a.incoming;
    prepared = record { content = refl; room = omega arith };
    taken = taken;
    fate = refl;
    concluded = none_goes (with_incoming a incoming);
  }

  module _ (octets : Octets) (timer : Timer) where
    abbrev probe : Request
    probe = record { octets = octets; purpose = Probe; timer = timer }

    abbrev counted : Association
    counted = with_outgoing a (record a.outgoing {
      answered = set.insert a.outgoing.answered number;
      outstanding = map.remove a.outgoing.outstanding number;
      room = a.outgoing.room + 1;
    })

    pub is_counted : map.get a.outgoing.outstanding number ≡ Some probe
        → DoesAnswer (asked_further a number) setup a table number empty_plain (effect.Counted nothing_ended) counted table
    is_counted there =
        subst (λ (b : Bool). DoesAnswer b setup a table number empty_plain (effect.Counted nothing_ended) counted table) (sym (ap has_asked there))
        (record {
          payloads = Some [];
          read = record { clear = tt; payloads = (refl, refl); octets = tt };
          request = probe;
          outgoing = counted.outgoing;
          counted = record { there = there; content = refl };
          fate = refl;
          declined = record { error = None; told = record { payloads = Some []; read = record { clear = tt; payloads = (refl, refl); octets = tt }; told = refl }; due = refl };
          concluded = none_goes counted;
        })
