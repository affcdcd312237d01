-- What a request is that comes again.
use Rattle.std.proofs.Common.{◌≡◌, ◌==◌, ℕ, Bool, true, false, if◌then◌else◌, Option, Some, None, refl, ◌∙◌}
use Rattle.std.specs.FinMap as map
use Rattle.base.specs.Octets.{Octets}
use Rattle.wire.specs.declared.message.Message.{Message}
use Rattle.exchange.specs.declared.sealed.Plain.{Plain}
use Rattle.requests.specs.Incoming.{IsJudgement}
use Rattle.requests.specs.declared.incoming.Judgement.{Judgement}
use Rattle.requests.specs.declared.incoming.Judgement.TheVariants as judged
use Rattle.association.specs.Purposes.{exchange_of}
use Rattle.association.specs.Receiving.{admits, answering_reception, fresh_reception, judged_reception, opened_by, reception_by, repeated_reception, IsReceived, IsReceivedBy, IsRepeating, Opening, Refused, Repeat, TakesEffect}
use Rattle.association.specs.declared.fault.MessageFault.TheVariants.{WrongPhase}
use Rattle.association.specs.declared.phase.Association.{Association}
use Rattle.association.specs.declared.phase.Phase.{Phase}
use Rattle.association.specs.declared.phase.Phase.TheVariants as phase
use Rattle.association.specs.declared.phase.Request.{Request}

-- ---- what does not come again

effect_repeats : (b : Bool) (p : Plain) (reply : Octets) → Repeat reply ≡ (if b then TakesEffect p else Refused WrongPhase) → ⊥
effect_repeats true p reply is = cc
effect_repeats false p reply is = cc

fresh_repeats : (p : Phase) (exchange : ℕ) (opened : Option Plain) (reply : Octets) → Repeat reply ≡ fresh_reception p exchange opened → ⊥
fresh_repeats (phase.Closed keys at) exchange opened reply is = cc
fresh_repeats p exchange None reply is = cc
fresh_repeats p exchange (Some q) reply is = effect_repeats (admits p exchange) q reply is

answering_repeats : (p : Phase) (same : Bool) (opened : Option Plain) (reply : Octets) → Repeat reply ≡ answering_reception p same opened → ⊥
answering_repeats p false opened reply is = cc
answering_repeats (phase.InitSent sent) true opened reply is = cc
answering_repeats p true None reply is = cc
answering_repeats p true (Some q) reply is = cc

response_repeats : (p : Phase) (exchange : ℕ) (request : Option Request) (opened : Option Plain) (reply : Octets) → Repeat reply ≡ reception_by p exchange request opened → ⊥
response_repeats (phase.Closed keys at) exchange request opened reply is = cc
response_repeats p exchange None opened reply is = cc
response_repeats p exchange (Some r) opened reply is = answering_repeats p (exchange_of r.purpose == exchange) opened reply is

-- ---- what comes again

-- the reply is the cached response, and the request opens
record IsSaidAgain (reply kept : Octets) (opened : Option Plain) : Type 0 where
  same : kept ≡ reply
  plain : Plain
  is : opened ≡ Some plain

said_again : (reply kept : Octets) (opened : Option Plain) → Repeat reply ≡ repeated_reception kept opened → IsSaidAgain reply kept opened
said_again reply kept None is = absurd cc
said_again reply kept (Some plain) is = record { same = cc; plain = plain; is = refl }

same_some : (a b : Octets) → a ≡ b → Some a ≡ Some b
same_some a b same = λ i. Some (same i)

repeating : (plain_of : Opening) (a : Association) (octets : Octets) (m : Message) (reply : Octets) (judgement : Judgement) → m.header.flags.response ≡ false
    → IsJudgement a.incoming m.header.id judgement
    → Repeat reply ≡ judged_reception a.phase m.header.exchange (opened_by plain_of a octets m.payloads) judgement
    → IsRepeating plain_of a octets m reply
repeating plain_of a octets m reply judged.Fresh request number is =
    absurd (fresh_repeats a.phase m.header.exchange (opened_by plain_of a octets m.payloads) reply is)
repeating plain_of a octets m reply (judged.Repeat kept) request number is =
    let again = said_again reply kept.now (opened_by plain_of a octets m.payloads) is in
    record {
      request = request;
      in_effect = number.0;
      kept = number.1 ∙ same_some kept.now reply again.same;
      plain = again.plain;
      opened = again.is;
    }
repeating plain_of a octets m reply judged.Forgotten request number is = absurd cc
repeating plain_of a octets m reply judged.Outside request number is = absurd cc

repeating_by : (plain_of : Opening) (a : Association) (octets : Octets) (m : Message) (reply : Octets) (response : Bool) → m.header.flags.response ≡ response
    → IsReceivedBy response plain_of a octets m (Repeat reply) → IsRepeating plain_of a octets m reply
repeating_by plain_of a octets m reply true flag is =
    absurd (response_repeats a.phase m.header.exchange (map.get a.outgoing.outstanding m.header.id) (opened_by plain_of a octets m.payloads) reply is)
repeating_by plain_of a octets m reply false flag is = repeating plain_of a octets m reply is.judgement flag is.number is.whole

pub repeats_say : (plain_of : Opening) (a : Association) (octets : Octets) (m : Message) (reply : Octets)
    → IsReceived plain_of a octets m (Repeat reply) → IsRepeating plain_of a octets m reply
repeats_say plain_of a octets m reply is = repeating_by plain_of a octets m reply m.header.flags.response refl is
