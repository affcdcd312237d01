-- CREATE_CHILD_SA under other serials.
use Rattle.std.proofs.Common.{◌≡◌, ℕ, Bool, true, false, Option, Some, None, List, refl, ap, subst}
use Rattle.base.specs.Octets.{Octets}
use Rattle.base.specs.declared.selector.Selector.{Selector}
use Rattle.wire.specs.Numbers.{CREATE_CHILD_SA}
use Rattle.wire.specs.declared.payload.Payload.{Payload}
use Rattle.suite.specs.declared.key_record.KeyRecord.{KeyRecord}
use Rattle.suite.specs.declared.keys.Keys.{Keys}
use Rattle.exchange.specs.Headers.{keys_of}
use Rattle.exchange.specs.Sealed.{IsSealed}
use Rattle.exchange.specs.declared.sealed.Plain.{Plain}
use Rattle.sadb.specs.Database.{Database}
use Rattle.sadb.specs.declared.pair.Pair.{Pair}
use Rattle.association.specs.Issuing.{with_incoming, with_outgoing}
use Rattle.association.specs.Sending.{reply_message}
use Rattle.association.specs.declared.outcome.Answered.{Answered}
use Rattle.association.specs.declared.outcome.Ended.{Ended}
use Rattle.association.specs.declared.outcome.Fate.{Fate}
use Rattle.association.specs.declared.outcome.Fate.TheVariants as fate
use Rattle.association.specs.declared.phase.Association.{Association}
use Rattle.children.specs.declared.asking.Asked.{Asked}
use Rattle.further.specs.Answering.{answer_to_further, further_answer, further_pair}
use Rattle.further.specs.Concluding.{IsConclusion}
use Rattle.further.specs.Deciding.{further_setting, is_closing_decision, responder_setting, response_of, DecidesFurtherBy, IsFurtherDecision}
use Rattle.further.specs.Judging.{FurtherJudgement, Refused, Admitted}
use Rattle.further.specs.declared.concluding.Conclusion.{Conclusion}
use Rattle.further.specs.declared.concluding.Conclusion.TheVariants as conclusion
use Rattle.further.specs.declared.deciding.Decision.{Decision}
use Rattle.further.specs.declared.deciding.Decision.TheVariants as decision
use Rattle.create_child.specs.Answering.{AddsFurther, AnswersFurther, ConcludesFurther}
use Rattle.create_child.specs.Asking.{AsksForFurther}
use Rattle.create_child.specs.Counting.{CountsFurther, EndsFurther}
use Rattle.setup.specs.Configs.{Setup}
use Rattle.gateway.proofs.ChildRenaming as child
use Rattle.gateway.proofs.ChildRenaming.{renamed_child, renamed_response, TableSteps}
use Rattle.gateway.proofs.RenamedLaws.{PairLaws}
use Rattle.gateway.specs.Renaming.{renamed_association, renamed_pair, renamed_table}

abbrev renamed_decision : (ℕ → ℕ) → Decision → Decision
renamed_decision r (decision.Refused notice) = decision.Refused notice
renamed_decision r (decision.Made made) = decision.Made (renamed_child r made)

abbrev renamed_conclusion : (ℕ → ℕ) → Conclusion → Conclusion
renamed_conclusion r conclusion.Closes = conclusion.Closes
renamed_conclusion r (conclusion.Made pair) = conclusion.Made (renamed_pair r pair)
renamed_conclusion r conclusion.NoChild = conclusion.NoChild

abbrev renamed_maybe : (ℕ → ℕ) → Option Pair → Option Pair
renamed_maybe r None = None
renamed_maybe r (Some pair) = Some (renamed_pair r pair)

same_response : (r : ℕ → ℕ) (came : Decision) → renamed_response r (response_of came) ≡ response_of (renamed_decision r came)
same_response r (decision.Refused notice) = refl
same_response r (decision.Made made) = refl

same_payloads : (r : ℕ → ℕ) (came : Decision) (nonce : Octets) → further_answer (answer_to_further came) nonce ≡ further_answer (answer_to_further (renamed_decision r came)) nonce
same_payloads r (decision.Refused notice) nonce = refl
same_payloads r (decision.Made made) nonce = refl

module _ (r : ℕ → ℕ) (laws : PairLaws r) (tables : TableSteps r) where
  -- ---- the request

  decided_by : (setup : Setup) (ike : ℕ) (keys : KeyRecord) (table : Database) (judgement : FurtherJudgement) (came : Decision)
      → DecidesFurtherBy setup ike keys table judgement came → DecidesFurtherBy setup (r ike) keys (renamed_table r table) judgement (renamed_decision r came)
  decided_by setup ike keys table (Refused notice) (decision.Refused told) is = is
  decided_by setup ike keys table (Refused notice) (decision.Made made) is = absurd is
  decided_by setup ike keys table (Admitted request) (decision.Refused told) is =
      child.responds r laws (responder_setting setup ike keys request) setup.config.extended setup.entries table request.child (response_of (decision.Refused told)) is
  decided_by setup ike keys table (Admitted request) (decision.Made made) is =
      child.responds r laws (responder_setting setup ike keys request) setup.config.extended setup.entries table request.child (response_of (decision.Made made)) is

  decided_on : (setup : Setup) (ike : ℕ) (keys : KeyRecord) (table : Database) (deleting : Bool) (payloads : Option (List Payload)) (came : Decision)
      → IsFurtherDecision setup ike keys table deleting payloads came → IsFurtherDecision setup (r ike) keys (renamed_table r table) deleting payloads (renamed_decision r came)
  decided_on setup ike keys table deleting None (decision.Refused notice) is = is
  decided_on setup ike keys table deleting None (decision.Made made) is = absurd is
  decided_on setup ike keys table deleting (Some payloads) came is = record { judgement = is.judgement; judged = is.judged; due = decided_by setup ike keys table is.judgement came is.due }

  adds : (pair : Option Pair) (table new : Database) (came : Fate) → AddsFurther pair table came new → AddsFurther (renamed_maybe r pair) (renamed_table r table) came (renamed_table r new)
  adds None table new fate.Stands is = ap (renamed_table r) is
  adds None table new (fate.Made serial) is = absurd is
  adds None table new fate.Closed is = absurd is
  adds (Some pair) table new (fate.Made serial) is = tables.adds table new pair serial is
  adds (Some pair) table new fate.Stands is = absurd is
  adds (Some pair) table new fate.Closed is = absurd is

  concludes : (closing : Bool) (pair : Option Pair) (old new : Association) (table new_table : Database) (moment : ℕ) (came : Fate)
      → ConcludesFurther closing pair old table moment came new new_table
      → ConcludesFurther closing (renamed_maybe r pair) (renamed_association r old) (renamed_table r table) moment came (renamed_association r new) (renamed_table r new_table)
  concludes true pair old new table new_table moment came is = (is.0, tables.closes old new table new_table moment is.1)
  concludes false pair old new table new_table moment came is = (ap (renamed_association r) is.0, adds pair table new_table came is.1)

  concludes_on : (came : Decision) (old new : Association) (table new_table : Database) (moment : ℕ) (fate : Fate)
      → ConcludesFurther (is_closing_decision came) (further_pair came) old table moment fate new new_table
      → ConcludesFurther (is_closing_decision (renamed_decision r came)) (further_pair (renamed_decision r came)) (renamed_association r old) (renamed_table r table) moment fate (renamed_association r new) (renamed_table r new_table)
  concludes_on (decision.Refused notice) old new table new_table moment fate is = concludes (is_closing_decision (decision.Refused notice)) None old new table new_table moment fate is
  concludes_on (decision.Made made) old new table new_table moment fate is = concludes false (Some made.pair) old new table new_table moment fate is

  pub answers_further : (body_of : Keys → Octets → Octets → Octets → Octets) (setup : Setup) (old new : Association) (table new_table : Database) (number : ℕ) (plain : Plain) (answer : Answered)
      → AnswersFurther body_of setup old table number plain answer new new_table → AnswersFurther body_of setup (renamed_association r old) (renamed_table r table) number plain answer (renamed_association r new) (renamed_table r new_table)
  answers_further body_of setup old new table new_table number plain answer is = record {
    keys = is.keys;
    established = is.established;
    deleting = is.deleting;
    told = is.told;
    decision = renamed_decision r is.decision;
    decided = record {
      payloads = is.decided.payloads;
      read = is.decided.read;
      due = decided_on setup old.serial is.keys table is.deleting is.decided.payloads is.decision is.decided.due;
    };
    sealed = subst (λ payloads. IsSealed body_of (keys_of old.role is.keys) setup.fresh.seal (reply_message old CREATE_CHILD_SA number payloads) answer.octets) (same_payloads r is.decision setup.fresh.nonce) is.sealed;
    incoming = is.incoming;
    ready = is.ready;
    prepared = is.prepared;
    taken = is.taken;
    between = renamed_table r is.between;
    room = tables.before table is.between is.room;
    concluded = concludes_on is.decision (with_incoming old is.incoming) new is.between new_table setup.moment answer.fate is.concluded;
  }

  -- ---- the response

  conclusion_of : (blocks ike : ℕ) (keys : KeyRecord) (asked : Asked) (own_nonce : Octets) (payloads : Option (List Payload)) (came : Conclusion)
      → IsConclusion blocks ike keys asked own_nonce payloads came → IsConclusion blocks (r ike) keys asked own_nonce payloads (renamed_conclusion r came)
  conclusion_of blocks ike keys asked own_nonce None conclusion.Closes is = absurd is
  conclusion_of blocks ike keys asked own_nonce None (conclusion.Made pair) is = absurd is
  conclusion_of blocks ike keys asked own_nonce None conclusion.NoChild is = is
  conclusion_of blocks ike keys asked own_nonce (Some answer) conclusion.Closes is = is
  conclusion_of blocks ike keys asked own_nonce (Some answer) (conclusion.Made pair) is = record {
    stands = is.stands;
    nonce = is.nonce;
    alone = is.alone;
    child = child.accepted r (further_setting blocks ike keys own_nonce is.nonce) asked answer pair is.child;
  }
  conclusion_of blocks ike keys asked own_nonce (Some answer) conclusion.NoChild is = is

  ends : (came : Conclusion) (spi : ℕ) (old new : Association) (table new_table : Database) (moment : ℕ) (fate : Fate)
      → EndsFurther came spi old table moment fate new new_table
      → EndsFurther (renamed_conclusion r came) spi (renamed_association r old) (renamed_table r table) moment fate (renamed_association r new) (renamed_table r new_table)
  ends conclusion.Closes spi old new table new_table moment fate is = record {
    closed = is.closed;
    between = renamed_table r is.between;
    released = tables.releases table is.between spi is.released;
    over = tables.closes old new is.between new_table moment is.over;
  }
  ends (conclusion.Made pair) spi old new table new_table moment fate is = record {
    serial = is.serial;
    told = is.told;
    installed = tables.installs table new_table spi is.serial pair is.installed;
    same = ap (renamed_association r) is.same;
  }
  ends conclusion.NoChild spi old new table new_table moment fate is = record {
    stands = is.stands;
    released = tables.releases table new_table spi is.released;
    same = ap (renamed_association r) is.same;
  }

  pub counts_further : (setup : Setup) (old new : Association) (table new_table : Database) (number : ℕ) (plain : Plain) (ended : Ended)
      → CountsFurther setup old table number plain ended new new_table → CountsFurther setup (renamed_association r old) (renamed_table r table) number plain ended (renamed_association r new) (renamed_table r new_table)
  counts_further setup old new table new_table number plain ended is = record {
    keys = is.keys;
    established = is.established;
    request = is.request;
    further = is.further;
    asked = is.asked;
    outgoing = is.outgoing;
    counted = is.counted;
    conclusion = renamed_conclusion r is.conclusion;
    concluded = record {
      payloads = is.concluded.payloads;
      read = is.concluded.read;
      due = conclusion_of setup.config.blocks old.serial is.keys _ is.further.nonce is.concluded.payloads is.conclusion is.concluded.due;
    };
    declined = is.declined;
    ends = ends is.conclusion is.further.child.spi (with_outgoing old is.outgoing) new table new_table setup.moment ended.fate is.ends;
  }

  -- ---- the command

  pub asks_further : (body_of : Keys → Octets → Octets → Octets → Octets) (setup : Setup) (local remote : Selector) (old new : Association) (table new_table : Database) (octets : Octets)
      → AsksForFurther body_of setup local remote old table octets new new_table → AsksForFurther body_of setup local remote (renamed_association r old) (renamed_table r table) octets (renamed_association r new) (renamed_table r new_table)
  asks_further body_of setup local remote old new table new_table octets is = record {
    keys = is.keys;
    established = is.established;
    not_deleting = is.not_deleting;
    not_full = child.not_full r laws table is.not_full;
    not_spent = is.not_spent;
    between = renamed_table r is.between;
    room = tables.before table is.between is.room;
    spi = is.spi;
    reserved = tables.reserves is.between new_table is.spi is.reserved;
    sealed = is.sealed;
    outgoing = is.outgoing;
    issued = is.issued;
    content = ap (renamed_association r) is.content;
  }
