-- What a message does to its IKE SA and to the table is determined, but for spare capacity.
use Rattle.std.proofs.Common.{◌≡◌, ◌==◌, ℕ, Bool, true, false, List, Option, Some, None, MatchBool, refl, sym, ap, subst, ◌∙◌}
use Rattle.std.specs.FinMap as map
use Rattle.base.specs.Octets.{Octets}
use Rattle.wire.specs.Numbers.{CREATE_CHILD_SA, IKE_AUTH, INFORMATIONAL}
use Rattle.wire.specs.declared.message.Message.{Message}
use Rattle.wire.specs.declared.payload.Payload.{Payload}
use Rattle.suite.specs.declared.key_record.KeyRecord.{KeyRecord}
use Rattle.exchange.specs.Chains.{error_of}
use Rattle.exchange.specs.Headers.{keys_of}
use Rattle.exchange.specs.Sealed.{IsSealed}
use Rattle.exchange.specs.declared.sealed.Plain.{Plain}
use Rattle.requests.specs.Contents.{incoming_content, outgoing_content}
use Rattle.requests.specs.Incoming.{HasSameRequests, PeerRequests, TakesRequest}
use Rattle.requests.specs.Outgoing.{CountsAnswer, OwnRequests}
use Rattle.sadb.specs.Contents.{table_content}
use Rattle.sadb.specs.Database.{Database, PairMap}
use Rattle.association.specs.AskedChildren.{asked_of}
use Rattle.association.specs.Contents.{association_content}
use Rattle.association.specs.Outcomes.{childless, closed_by, made_by, unless_made, IsDeclinedBy}
use Rattle.association.specs.Phases.{keys_in}
use Rattle.association.specs.Purposes.{AwaitsDeletion}
use Rattle.association.specs.Receiving.{Answers, AnswersInitial, IsReceived, Reception, Refused, Repeat, TakesEffect}
use Rattle.association.specs.declared.fault.MessageFault.{MessageFault}
use Rattle.association.specs.declared.fault.MessageFault.TheVariants.{WrongPhase}
use Rattle.association.specs.declared.phase.Association.{Association}
use Rattle.association.specs.declared.phase.AuthSent.{AuthSent}
use Rattle.association.specs.declared.phase.HalfOpen.{HalfOpen}
use Rattle.association.specs.declared.phase.Phase.{Phase}
use Rattle.association.specs.declared.phase.Phase.TheVariants as phase
use Rattle.association.specs.declared.phase.Request.{Request}
use Rattle.association.specs.declared.purpose.FurtherChild.{FurtherChild}
use Rattle.association.specs.declared.purpose.Purpose.{Purpose}
use Rattle.association.specs.declared.purpose.Purpose.TheVariants.{CreateChild}
use Rattle.initial.specs.Answering.{outcome_of, reply_payloads, AnswersAuth, Prover}
use Rattle.association.specs.Sending.{reply_message}
use Rattle.initial.specs.Concluding.{ConcludesBy}
use Rattle.association.specs.Issuing.{with_incoming, with_outgoing}
use Rattle.setup.specs.Configs.{Setup}
use Rattle.initial.specs.Deciding.{Decides}
use Rattle.initial.specs.Ending.{EndsAuth, Judges}
use Rattle.deletions.specs.Answering.{payloads_of_verdict}
use Rattle.deletions.specs.Deciding.{is_closing_verdict, verdict_on}
use Rattle.deletions.specs.declared.deciding.Verdict.{Verdict}
use Rattle.informational.specs.Answering.{gone_by, AnswersInformational}
use Rattle.informational.specs.Counting.{gone_with, is_ended, CountsInformational}
use Rattle.informational.specs.Orders.{ClosesIf}
use Rattle.further.specs.Answering.{answer_to_further, further_answer, further_pair}
use Rattle.further.specs.Concluding.{Concludes}
use Rattle.further.specs.Deciding.{is_closing_decision, DecidesFurther}
use Rattle.further.specs.declared.concluding.Conclusion.{Conclusion}
use Rattle.further.specs.declared.deciding.Decision as further
use Rattle.create_child.specs.Answering.{AnswersFurther, ConcludesFurther}
use Rattle.create_child.specs.Counting.{is_closing_conclusion, CountsFurther, EndsFurther}
use Rattle.effects.specs.Lengths.{AreWholeKeys, HoldsWholeKeys, TellsLengths}
use Rattle.effects.specs.Taking.{asked_further, asker_of, prover_of, Does, DoesAnswer, DoesAtEstablished, DoesInitial, DoesRequest, DoesResponse, IsPassedOver, Meaning, Says, TakesMessage}
use Rattle.association.specs.declared.outcome.Answered.{Answered}
use Rattle.initial.specs.declared.concluding.Outcome.{Outcome}
use Rattle.initial.specs.declared.deciding.Decision.{Decision}
use Rattle.association.specs.declared.outcome.Ended.{Ended}
use Rattle.initial.specs.declared.reading.Continued.{Continued}
use Rattle.initial.specs.declared.reading.Continued.TheVariants as continued
use Rattle.effects.specs.declared.taking.Effect.{Effect}
use Rattle.effects.specs.declared.taking.Effect.TheVariants as effect
use Rattle.effects.proofs.DeterminedLaws.{Laws}
use Rattle.effects.proofs.DeterminedConclusions.{one_closing, one_conclusion, one_further_end}
use Rattle.effects.proofs.DeterminedDecisions.{one_decision, one_read, one_verdict}
use Rattle.effects.proofs.DeterminedReadings.{keys_by_role, one_response}
use Rattle.effects.proofs.WayLemmas.{answered_further, counted_further, pair_made}
use Rattle.association.specs.declared.outcome.Fate.{Fate}
use Rattle.effects.proofs.FateLemmas.{answered_fate, concluded_fate, counted_fate, same_fate}

-- two ends of one beginning
pub record SameEnd (e f : Effect) (a b : Association) (a_table b_table : Database) : Type 0 where
  pub effect_is : e ≡ f
  pub association : association_content a ≡ association_content b
  pub table : table_content a_table ≡ table_content b_table

same_request : (one other : Request) → Some one ≡ Some other → one ≡ other
same_request one other same = cc

same_opened : (p : Phase) (one other : HalfOpen) → p ≡ phase.HalfOpen one → p ≡ phase.HalfOpen other → one ≡ other
same_opened p one other is also = cc

same_sent : (p : Phase) (one other : AuthSent) → p ≡ phase.AuthSent one → p ≡ phase.AuthSent other → one ≡ other
same_sent p one other is also = cc

same_further : (one other : FurtherChild) → CreateChild one ≡ CreateChild other → one ≡ other
same_further one other same = cc

same_keys : (p : Phase) (one other : KeyRecord) → p ≡ phase.Established one → p ≡ phase.Established other → one ≡ other
same_keys p one other is also = cc

answered_alike : (a b : Answered) → a.octets ≡ b.octets → a.fate ≡ b.fate → a ≡ b
answered_alike a b octets came = λ i. record { octets = octets i; fate = came i }

ended_alike : (a b : Ended) → a.fate ≡ b.fate → a.declined ≡ b.declined → a ≡ b
ended_alike a b came declined = λ i. record { fate = came i; declined = declined i }

module _ (laws : Laws) (meaning : Meaning) (setup : Setup) (old other : Association) (same : association_content old ≡ association_content other) (table another : Database) (alike : table_content table ≡ table_content another) where
  -- ---- what all exchanges do

  one_sealing : TellsLengths meaning.body_of setup.fresh.seal → (keys : KeyRecord) → AreWholeKeys keys → (exchange number : ℕ) (payloads : List Payload) (x y : Octets)
      → IsSealed meaning.body_of (keys_of old.role keys) setup.fresh.seal (reply_message old exchange number payloads) x
      → IsSealed meaning.body_of (keys_of other.role keys) setup.fresh.seal (reply_message other exchange number payloads) y → x ≡ y
  one_sealing tells keys whole exchange number payloads x y is also =
      let sealed : IsSealed meaning.body_of (keys_of old.role keys) setup.fresh.seal (reply_message old exchange number payloads) y =
      subst (λ (z : Association). IsSealed meaning.body_of (keys_of z.role keys) setup.fresh.seal (reply_message z exchange number payloads) y) (sym same) also in
      laws.messages.sealing meaning.body_of (keys_of old.role keys) setup.fresh.seal (reply_message old exchange number payloads) x y
      (tells.told (keys_of old.role keys) (keys_by_role old.role keys whole)) is sealed

  one_taking : (number : ℕ) (x y : Octets) (ready prepared one another : PeerRequests) → x ≡ y → HasSameRequests old.incoming ready → HasSameRequests other.incoming prepared
      → TakesRequest ready number x one → TakesRequest prepared number y another → association_content (with_incoming old one) ≡ association_content (with_incoming other another)
  one_taking number x y ready prepared one another octets room more is also =
      let before : incoming_content ready ≡ incoming_content prepared =
      laws.incoming.prepared old.incoming ready room ∙ ap (λ (z : Association). z.incoming) same ∙ sym (laws.incoming.prepared other.incoming prepared more) in
      let taken : TakesRequest prepared number x another = subst (λ (o : Octets). TakesRequest prepared number o another) (sym octets) also in
      let incoming : incoming_content one ≡ incoming_content another = laws.incoming.taken ready prepared one another number x before is taken in
      ap (λ (z : Association). record z { incoming = incoming_content one }) same ∙ ap (λ (r : PeerRequests). record (association_content other) { incoming = r }) incoming

  one_counting : (number : ℕ) (request asked : Request) (one another : OwnRequests Request) → CountsAnswer old.outgoing number request one → CountsAnswer other.outgoing number asked another
      → association_content (with_outgoing old one) ≡ association_content (with_outgoing other another)
  one_counting number request asked one another is also =
      let outgoing : outgoing_content one ≡ outgoing_content another =
      (laws.outgoing.counted old.outgoing other.outgoing one another number request asked (ap (λ (z : Association). z.outgoing) same) is also).1 in
      ap (λ (z : Association). record z { outgoing = outgoing_content one }) same ∙ ap (λ (r : OwnRequests Request). record (association_content other) { outgoing = r }) outgoing

  one_declined : (plain : Plain) (x y : Ended) → x.fate ≡ y.fate → IsDeclinedBy plain x.fate x.declined → IsDeclinedBy plain y.fate y.declined → x.declined ≡ y.declined
  one_declined plain x y came is also =
      let payloads : also.told.payloads ≡ is.told.payloads = one_read laws.messages plain also.told.payloads is.told.payloads also.told.read is.told.read in
      let error : also.error ≡ is.error = also.told.told ∙ ap error_of payloads ∙ sym is.told.told in
      is.due ∙ ap (λ (f : Fate). unless_made f is.error) came ∙ ap (λ (e : Option ℕ). unless_made y.fate e) (sym error) ∙ sym also.due

  -- ---- IKE_AUTH at the responder

  one_answer : TellsLengths meaning.body_of setup.fresh.seal → HoldsWholeKeys old.phase → (number : ℕ) (plain : Plain) (x y : Answered) (a b : Association) (a_table b_table : Database)
      → AnswersAuth (prover_of meaning) setup old table number plain x a a_table → AnswersAuth (prover_of meaning) setup other another number plain y b b_table
      → SameEnd (effect.Replied x) (effect.Replied y) a b a_table b_table
  one_answer tells whole number plain x y a b a_table b_table is also =
      let prover : Prover = prover_of meaning in
      let opened : also.opened ≡ is.opened = same_opened other.phase also.opened is.opened also.was (sym (ap (λ (z : Association). z.phase) same) ∙ is.was) in
      let serial : other.serial ≡ old.serial = sym (ap (λ (z : Association). z.serial) same) in
      let by_opened : Decides prover.accepts setup other.serial is.opened another plain also.decision =
      subst (λ (o : HalfOpen). Decides prover.accepts setup other.serial o another plain also.decision) opened also.decided in
      let decided : Decides prover.accepts setup old.serial is.opened another plain also.decision =
      subst (λ (n : ℕ). Decides prover.accepts setup n is.opened another plain also.decision) serial by_opened in
      let decision : also.decision ≡ is.decision = sym (one_decision laws.auth prover.accepts setup old.serial is.opened table another alike laws.messages plain is.decision also.decision is.decided decided) in
      let sealed_by_opened : IsSealed prover.body_of (keys_of other.role is.opened.keys) setup.fresh.seal (reply_message other IKE_AUTH number (reply_payloads prover.own_method prover.proof_of setup is.opened also.decision)) y.octets =
      subst (λ (o : HalfOpen). IsSealed prover.body_of (keys_of other.role o.keys) setup.fresh.seal (reply_message other IKE_AUTH number (reply_payloads prover.own_method prover.proof_of setup o also.decision)) y.octets) opened also.sealed in
      let sealed_by_decision : IsSealed prover.body_of (keys_of other.role is.opened.keys) setup.fresh.seal (reply_message other IKE_AUTH number (reply_payloads prover.own_method prover.proof_of setup is.opened is.decision)) y.octets =
      subst (λ (d : Decision). IsSealed prover.body_of (keys_of other.role is.opened.keys) setup.fresh.seal (reply_message other IKE_AUTH number (reply_payloads prover.own_method prover.proof_of setup is.opened d)) y.octets) decision sealed_by_opened in
      let octets : x.octets ≡ y.octets =
      one_sealing tells is.opened.keys (whole is.opened.keys (ap keys_in is.was)) IKE_AUTH number (reply_payloads prover.own_method prover.proof_of setup is.opened is.decision) x.octets y.octets is.sealed sealed_by_decision in
      let between : table_content is.between ≡ table_content also.between = laws.tables.prepared table is.between is.room ∙ alike ∙ sym (laws.tables.prepared another also.between also.room) in
      let before = one_taking number x.octets y.octets is.ready also.ready is.incoming also.incoming octets is.prepared also.prepared is.taken also.taken in
      let concluded : ConcludesBy setup (with_incoming other also.incoming) also.between (outcome_of is.decision) y.fate b b_table =
      subst (λ (d : Decision). ConcludesBy setup (with_incoming other also.incoming) also.between (outcome_of d) y.fate b b_table) decision also.concluded in
      let over = one_conclusion laws.tables setup (outcome_of is.decision) x.fate y.fate (with_incoming old is.incoming) (with_incoming other also.incoming) a b is.between also.between a_table b_table before between is.concluded concluded in
      let closed : closed_by x.fate ≡ closed_by y.fate =
      concluded_fate setup (with_incoming old is.incoming) is.between (outcome_of is.decision) x.fate a a_table is.concluded
      ∙ sym (concluded_fate setup (with_incoming other also.incoming) also.between (outcome_of is.decision) y.fate b b_table concluded) in
      record {
        effect_is = ap (λ (z : Answered). effect.Replied z) (answered_alike x y octets (same_fate x.fate y.fate over.child_is closed));
        association = over.association;
        table = over.table;
      }

  -- ---- the response to IKE_AUTH at the initiator

  one_end : (number : ℕ) (plain : Plain) (x y : Ended) (a b : Association) (a_table b_table : Database)
      → EndsAuth meaning.accepts setup old table number plain x a a_table → EndsAuth meaning.accepts setup other another number plain y b b_table
      → SameEnd (effect.Counted x) (effect.Counted y) a b a_table b_table
  one_end number plain x y a b a_table b_table is also =
      let sent : also.sent ≡ is.sent = same_sent other.phase also.sent is.sent also.was (sym (ap (λ (z : Association). z.phase) same) ∙ is.was) in
      let serial : other.serial ≡ old.serial = sym (ap (λ (z : Association). z.serial) same) in
      let by_sent : Judges meaning.accepts setup other.serial is.sent plain also.verdict = subst (λ (s : AuthSent). Judges meaning.accepts setup other.serial s plain also.verdict) sent also.judged in
      let judged : Judges meaning.accepts setup old.serial is.sent plain also.verdict = subst (λ (n : ℕ). Judges meaning.accepts setup n is.sent plain also.verdict) serial by_sent in
      let verdict : also.verdict ≡ is.verdict = sym (one_verdict laws.auth meaning.accepts setup old.serial is.sent laws.messages plain is.verdict also.verdict is.judged judged) in
      let before = one_counting number is.request also.request is.outgoing also.outgoing is.counted also.counted in
      let concluded : ConcludesBy setup (with_outgoing other also.outgoing) another is.verdict y.fate b b_table =
      subst (λ (o : Outcome). ConcludesBy setup (with_outgoing other also.outgoing) another o y.fate b b_table) verdict also.concluded in
      let over = one_conclusion laws.tables setup is.verdict x.fate y.fate (with_outgoing old is.outgoing) (with_outgoing other also.outgoing) a b table another a_table b_table before alike is.concluded concluded in
      let closed : closed_by x.fate ≡ closed_by y.fate =
      concluded_fate setup (with_outgoing old is.outgoing) table is.verdict x.fate a a_table is.concluded
      ∙ sym (concluded_fate setup (with_outgoing other also.outgoing) another is.verdict y.fate b b_table concluded) in
      let came : x.fate ≡ y.fate = same_fate x.fate y.fate over.child_is closed in
      let declined : x.declined ≡ y.declined = one_declined plain x y came is.declined also.declined in
      record {
        effect_is = ap (λ (z : Ended). effect.Counted z) (ended_alike x y came declined);
        association = over.association;
        table = over.table;
      }

  -- ---- INFORMATIONAL

  one_information : TellsLengths meaning.body_of setup.fresh.seal → HoldsWholeKeys old.phase → (number : ℕ) (plain : Plain) (x y : Answered) (a b : Association) (a_table b_table : Database)
      → AnswersInformational meaning.body_of setup old table number plain x a a_table → AnswersInformational meaning.body_of setup other another number plain y b b_table
      → SameEnd (effect.Replied x) (effect.Replied y) a b a_table b_table
  one_information tells whole number plain x y a b a_table b_table is also =
      let keys : also.keys ≡ is.keys = same_keys other.phase also.keys is.keys also.established (sym (ap (λ (z : Association). z.phase) same) ∙ is.established) in
      let payloads : also.payloads ≡ is.payloads = one_read laws.messages plain also.payloads is.payloads also.read is.read in
      let v : Verdict = verdict_on table.pairs old.serial is.payloads in
      let w : Verdict = verdict_on another.pairs other.serial also.payloads in
      let verdicts : w ≡ v =
      ap (λ (p : PairMap). verdict_on p other.serial also.payloads) (sym (ap (λ (d : Database). d.pairs) alike))
      ∙ ap (λ (n : ℕ). verdict_on table.pairs n also.payloads) (sym (ap (λ (z : Association). z.serial) same))
      ∙ ap (λ (p : Option (List Payload)). verdict_on table.pairs old.serial p) payloads in
      let sealed_by_keys : IsSealed meaning.body_of (keys_of other.role is.keys) setup.fresh.seal (reply_message other INFORMATIONAL number (payloads_of_verdict w)) y.octets =
      subst (λ (k : KeyRecord). IsSealed meaning.body_of (keys_of other.role k) setup.fresh.seal (reply_message other INFORMATIONAL number (payloads_of_verdict w)) y.octets) keys also.sealed in
      let sealed : IsSealed meaning.body_of (keys_of other.role is.keys) setup.fresh.seal (reply_message other INFORMATIONAL number (payloads_of_verdict v)) y.octets =
      subst (λ (u : Verdict). IsSealed meaning.body_of (keys_of other.role is.keys) setup.fresh.seal (reply_message other INFORMATIONAL number (payloads_of_verdict u)) y.octets) verdicts sealed_by_keys in
      let octets : x.octets ≡ y.octets = one_sealing tells is.keys (whole is.keys (ap keys_in is.established)) INFORMATIONAL number (payloads_of_verdict v) x.octets y.octets is.sealed sealed in
      let before = one_taking number x.octets y.octets is.ready also.ready is.incoming also.incoming octets is.prepared also.prepared is.taken also.taken in
      let concluded : ClosesIf (is_closing_verdict v) (gone_by v) (with_incoming other also.incoming) another setup.moment b b_table =
      subst (λ (u : Verdict). ClosesIf (is_closing_verdict u) (gone_by u) (with_incoming other also.incoming) another setup.moment b b_table) verdicts also.concluded in
      let over = one_closing laws.tables (is_closing_verdict v) (gone_by v) setup.moment (with_incoming old is.incoming) (with_incoming other also.incoming) a b table another a_table b_table before alike is.concluded concluded in
      let came : x.fate ≡ y.fate = is.fate ∙ ap (λ (u : Verdict). childless (is_closing_verdict u)) (sym verdicts) ∙ sym also.fate in
      record {
        effect_is = ap (λ (z : Answered). effect.Replied z) (answered_alike x y octets came);
        association = over.0;
        table = over.1;
      }

  one_count : (number : ℕ) (plain : Plain) (x y : Ended) (a b : Association) (a_table b_table : Database)
      → CountsInformational setup old table number plain x a a_table → CountsInformational setup other another number plain y b b_table
      → SameEnd (effect.Counted x) (effect.Counted y) a b a_table b_table
  one_count number plain x y a b a_table b_table is also =
      let payloads : also.payloads ≡ is.payloads = one_read laws.messages plain also.payloads is.payloads also.read is.read in
      let before = one_counting number is.request also.request is.outgoing also.outgoing is.counted also.counted in
      let requests : also.request ≡ is.request = same_request also.request is.request (sym also.counted.there ∙ sym (ap (λ (z : Association). map.get z.outgoing.outstanding number) same) ∙ is.counted.there) in
      let asked : also.request.purpose ≡ is.request.purpose = ap (λ (r : Request). r.purpose) requests in
      let ends : is_ended also.payloads also.request.purpose ≡ is_ended is.payloads is.request.purpose =
      ap (λ (p : Option (List Payload)). is_ended p also.request.purpose) payloads ∙ ap (λ (q : Purpose). is_ended is.payloads q) asked in
      let gone : gone_with another.pairs other.serial also.request.purpose ≡ gone_with table.pairs old.serial is.request.purpose =
      ap (λ (p : PairMap). gone_with p other.serial also.request.purpose) (sym (ap (λ (d : Database). d.pairs) alike))
      ∙ ap (λ (n : ℕ). gone_with table.pairs n also.request.purpose) (sym (ap (λ (z : Association). z.serial) same))
      ∙ ap (λ (q : Purpose). gone_with table.pairs old.serial q) asked in
      let concluded : ClosesIf (is_ended is.payloads is.request.purpose) (gone_with table.pairs old.serial is.request.purpose) (with_outgoing other also.outgoing) another setup.moment b b_table =
      subst (λ (e : Bool). ClosesIf e (gone_with table.pairs old.serial is.request.purpose) (with_outgoing other also.outgoing) another setup.moment b b_table) ends
      (subst (λ (g : List ℕ). ClosesIf (is_ended also.payloads also.request.purpose) g (with_outgoing other also.outgoing) another setup.moment b b_table) gone also.concluded) in
      let over = one_closing laws.tables (is_ended is.payloads is.request.purpose) (gone_with table.pairs old.serial is.request.purpose) setup.moment (with_outgoing old is.outgoing) (with_outgoing other also.outgoing) a b table another a_table b_table before alike is.concluded concluded in
      let came : x.fate ≡ y.fate = is.fate ∙ ap childless (sym ends) ∙ sym also.fate in
      let declined : x.declined ≡ y.declined = one_declined plain x y came is.declined also.declined in
      record {
        effect_is = ap (λ (z : Ended). effect.Counted z) (ended_alike x y came declined);
        association = over.0;
        table = over.1;
      }

  -- ---- CREATE_CHILD_SA

  one_deleting : (d e : Bool) → MatchBool d (AwaitsDeletion old.outgoing) (¬ AwaitsDeletion old.outgoing) → MatchBool e (AwaitsDeletion other.outgoing) (¬ AwaitsDeletion other.outgoing) → d ≡ e
  one_deleting true true is also = refl
  one_deleting true false is also = absurd (also (record {
    number = is.number;
    request = is.request;
    outstanding = sym (ap (λ (z : Association). map.get z.outgoing.outstanding is.number) same) ∙ is.outstanding;
    deletion = is.deletion;
  }))
  one_deleting false true is also = absurd (is (record {
    number = also.number;
    request = also.request;
    outstanding = ap (λ (z : Association). map.get z.outgoing.outstanding also.number) same ∙ also.outstanding;
    deletion = also.deletion;
  }))
  one_deleting false false is also = refl

  one_further_answer : TellsLengths meaning.body_of setup.fresh.seal → HoldsWholeKeys old.phase → (number : ℕ) (plain : Plain) (x y : Answered) (a b : Association) (a_table b_table : Database)
      → AnswersFurther meaning.body_of setup old table number plain x a a_table → AnswersFurther meaning.body_of setup other another number plain y b b_table
      → SameEnd (effect.Replied x) (effect.Replied y) a b a_table b_table
  one_further_answer tells whole number plain x y a b a_table b_table is also =
      let keys : also.keys ≡ is.keys = same_keys other.phase also.keys is.keys also.established (sym (ap (λ (z : Association). z.phase) same) ∙ is.established) in
      let serial : other.serial ≡ old.serial = sym (ap (λ (z : Association). z.serial) same) in
      let deleting : also.deleting ≡ is.deleting = sym (one_deleting is.deleting also.deleting is.told also.told) in
      let by_serial : DecidesFurther setup old.serial also.keys another also.deleting plain also.decision =
      subst (λ (n : ℕ). DecidesFurther setup n also.keys another also.deleting plain also.decision) serial also.decided in
      let by_keys : DecidesFurther setup old.serial is.keys another also.deleting plain also.decision =
      subst (λ (k : KeyRecord). DecidesFurther setup old.serial k another also.deleting plain also.decision) keys by_serial in
      let decided : DecidesFurther setup old.serial is.keys another is.deleting plain also.decision =
      subst (λ (d : Bool). DecidesFurther setup old.serial is.keys another d plain also.decision) deleting by_keys in
      let decision : also.decision ≡ is.decision = sym (laws.further.decided setup old.serial is.keys table another is.deleting plain is.decision also.decision alike is.decided decided) in
      let answer = λ (d : further.Decision). further_answer (answer_to_further d) setup.fresh.nonce in
      let sealed_by_keys : IsSealed meaning.body_of (keys_of other.role is.keys) setup.fresh.seal (reply_message other CREATE_CHILD_SA number (answer also.decision)) y.octets =
      subst (λ (k : KeyRecord). IsSealed meaning.body_of (keys_of other.role k) setup.fresh.seal (reply_message other CREATE_CHILD_SA number (answer also.decision)) y.octets) keys also.sealed in
      let sealed : IsSealed meaning.body_of (keys_of other.role is.keys) setup.fresh.seal (reply_message other CREATE_CHILD_SA number (answer is.decision)) y.octets =
      subst (λ (d : further.Decision). IsSealed meaning.body_of (keys_of other.role is.keys) setup.fresh.seal (reply_message other CREATE_CHILD_SA number (answer d)) y.octets) decision sealed_by_keys in
      let octets : x.octets ≡ y.octets = one_sealing tells is.keys (whole is.keys (ap keys_in is.established)) CREATE_CHILD_SA number (answer is.decision) x.octets y.octets is.sealed sealed in
      let before = one_taking number x.octets y.octets is.ready also.ready is.incoming also.incoming octets is.prepared also.prepared is.taken also.taken in
      let between : table_content is.between ≡ table_content also.between = laws.tables.prepared table is.between is.room ∙ alike ∙ sym (laws.tables.prepared another also.between also.room) in
      let concluded : ConcludesFurther (is_closing_decision is.decision) (further_pair is.decision) (with_incoming other also.incoming) also.between setup.moment y.fate b b_table =
      subst (λ (d : further.Decision). ConcludesFurther (is_closing_decision d) (further_pair d) (with_incoming other also.incoming) also.between setup.moment y.fate b b_table) decision also.concluded in
      let over = one_further_end laws.tables (is_closing_decision is.decision) None (further_pair is.decision) setup.moment (made_by x.fate) (made_by y.fate) (with_incoming old is.incoming) (with_incoming other also.incoming) a b is.between also.between a_table b_table before between
      (answered_further (is_closing_decision is.decision) (further_pair is.decision) (with_incoming old is.incoming) is.between setup.moment x.fate a a_table is.concluded)
      (answered_further (is_closing_decision is.decision) (further_pair is.decision) (with_incoming other also.incoming) also.between setup.moment y.fate b b_table concluded) in
      let closed : closed_by x.fate ≡ closed_by y.fate =
      answered_fate (is_closing_decision is.decision) (further_pair is.decision) (with_incoming old is.incoming) is.between setup.moment x.fate a a_table is.concluded
      ∙ sym (answered_fate (is_closing_decision is.decision) (further_pair is.decision) (with_incoming other also.incoming) also.between setup.moment y.fate b b_table concluded) in
      record {
        effect_is = ap (λ (z : Answered). effect.Replied z) (answered_alike x y octets (same_fate x.fate y.fate over.child_is closed));
        association = over.association;
        table = over.table;
      }

  one_further_count : (number : ℕ) (plain : Plain) (x y : Ended) (a b : Association) (a_table b_table : Database)
      → CountsFurther setup old table number plain x a a_table → CountsFurther setup other another number plain y b b_table
      → SameEnd (effect.Counted x) (effect.Counted y) a b a_table b_table
  one_further_count number plain x y a b a_table b_table is also =
      let keys : also.keys ≡ is.keys = same_keys other.phase also.keys is.keys also.established (sym (ap (λ (z : Association). z.phase) same) ∙ is.established) in
      let serial : other.serial ≡ old.serial = sym (ap (λ (z : Association). z.serial) same) in
      let requests : also.request ≡ is.request = same_request also.request is.request (sym also.counted.there ∙ sym (ap (λ (z : Association). map.get z.outgoing.outstanding number) same) ∙ is.counted.there) in
      let asked : also.further ≡ is.further = same_further also.further is.further (sym also.asked ∙ ap (λ (r : Request). r.purpose) requests ∙ is.asked) in
      let by_serial : Concludes setup.config.blocks old.serial also.keys (asked_of also.further.child) also.further.nonce plain also.conclusion =
      subst (λ (n : ℕ). Concludes setup.config.blocks n also.keys (asked_of also.further.child) also.further.nonce plain also.conclusion) serial also.concluded in
      let by_keys : Concludes setup.config.blocks old.serial is.keys (asked_of also.further.child) also.further.nonce plain also.conclusion =
      subst (λ (k : KeyRecord). Concludes setup.config.blocks old.serial k (asked_of also.further.child) also.further.nonce plain also.conclusion) keys by_serial in
      let concluded : Concludes setup.config.blocks old.serial is.keys (asked_of is.further.child) is.further.nonce plain also.conclusion =
      subst (λ (f : FurtherChild). Concludes setup.config.blocks old.serial is.keys (asked_of f.child) f.nonce plain also.conclusion) asked by_keys in
      let conclusion : also.conclusion ≡ is.conclusion =
      sym (laws.further.concluded setup.config.blocks old.serial is.keys (asked_of is.further.child) is.further.nonce plain is.conclusion also.conclusion is.concluded concluded) in
      let before = one_counting number is.request also.request is.outgoing also.outgoing is.counted also.counted in
      let ends_by_asked : EndsFurther also.conclusion is.further.child.spi (with_outgoing other also.outgoing) another setup.moment y.fate b b_table =
      subst (λ (f : FurtherChild). EndsFurther also.conclusion f.child.spi (with_outgoing other also.outgoing) another setup.moment y.fate b b_table) asked also.ends in
      let ends : EndsFurther is.conclusion is.further.child.spi (with_outgoing other also.outgoing) another setup.moment y.fate b b_table =
      subst (λ (c : Conclusion). EndsFurther c is.further.child.spi (with_outgoing other also.outgoing) another setup.moment y.fate b b_table) conclusion ends_by_asked in
      let over = one_further_end laws.tables (is_closing_conclusion is.conclusion) (Some is.further.child.spi) (pair_made is.conclusion) setup.moment (made_by x.fate) (made_by y.fate) (with_outgoing old is.outgoing) (with_outgoing other also.outgoing) a b table another a_table b_table before alike
      (counted_further is.conclusion is.further.child.spi (with_outgoing old is.outgoing) table setup.moment x.fate a a_table is.ends)
      (counted_further is.conclusion is.further.child.spi (with_outgoing other also.outgoing) another setup.moment y.fate b b_table ends) in
      let closed : closed_by x.fate ≡ closed_by y.fate =
      counted_fate is.conclusion is.further.child.spi (with_outgoing old is.outgoing) table setup.moment x.fate a a_table is.ends
      ∙ sym (counted_fate is.conclusion is.further.child.spi (with_outgoing other also.outgoing) another setup.moment y.fate b b_table ends) in
      let came : x.fate ≡ y.fate = same_fate x.fate y.fate over.child_is closed in
      let declined : x.declined ≡ y.declined = one_declined plain x y came is.declined also.declined in
      record {
        effect_is = ap (λ (z : Ended). effect.Counted z) (ended_alike x y came declined);
        association = over.association;
        table = over.table;
      }

  -- ---- what is dropped

  one_passing : (e f : Effect) (a b : Association) (a_table b_table : Database) → e ≡ f → IsPassedOver old table a a_table → IsPassedOver other another b b_table → SameEnd e f a b a_table b_table
  one_passing e f a b a_table b_table effects is also = record {
    effect_is = effects;
    association = ap association_content is.association ∙ same ∙ sym (ap association_content also.association);
    table = ap table_content is.pairs ∙ alike ∙ sym (ap table_content also.pairs);
  }

-- ---- what an effect is by what was received

-- it is refused, and nothing is changed
pub record Refuses (fault : MessageFault) (e : Effect) (old : Association) (table : Database) (new : Association) (new_table : Database) : Type 0 where
  pub is : e ≡ effect.Refused fault
  pub passed : IsPassedOver old table new new_table

pub record Repeats (reply : Octets) (e : Effect) (old : Association) (table : Database) (new : Association) (new_table : Database) : Type 0 where
  pub is : e ≡ effect.Repeated reply
  pub passed : IsPassedOver old table new new_table

pub record Replies (meaning : Meaning) (setup : Setup) (number : ℕ) (plain : Plain) (e : Effect) (old : Association) (table : Database) (new : Association) (new_table : Database) : Type 0 where
  pub answered : Answered
  pub is : e ≡ effect.Replied answered
  pub answers : AnswersAuth (prover_of meaning) setup old table number plain answered new new_table

pub record CountsResponse (meaning : Meaning) (setup : Setup) (number : ℕ) (plain : Plain) (e : Effect) (old : Association) (table : Database) (new : Association) (new_table : Database) : Type 0 where
  pub ended : Ended
  pub is : e ≡ effect.Counted ended
  pub ends : EndsAuth meaning.accepts setup old table number plain ended new new_table

pub record Informs (meaning : Meaning) (setup : Setup) (number : ℕ) (plain : Plain) (e : Effect) (old : Association) (table : Database) (new : Association) (new_table : Database) : Type 0 where
  pub answered : Answered
  pub is : e ≡ effect.Replied answered
  pub answers : AnswersInformational meaning.body_of setup old table number plain answered new new_table

pub record IsInformed (setup : Setup) (number : ℕ) (plain : Plain) (e : Effect) (old : Association) (table : Database) (new : Association) (new_table : Database) : Type 0 where
  pub ended : Ended
  pub is : e ≡ effect.Counted ended
  pub counts : CountsInformational setup old table number plain ended new new_table

pub record AnswersChild (meaning : Meaning) (setup : Setup) (number : ℕ) (plain : Plain) (e : Effect) (old : Association) (table : Database) (new : Association) (new_table : Database) : Type 0 where
  pub answered : Answered
  pub is : e ≡ effect.Replied answered
  pub answers : AnswersFurther meaning.body_of setup old table number plain answered new new_table

pub record CountsChild (setup : Setup) (number : ℕ) (plain : Plain) (e : Effect) (old : Association) (table : Database) (new : Association) (new_table : Database) : Type 0 where
  pub ended : Ended
  pub is : e ≡ effect.Counted ended
  pub counts : CountsFurther setup old table number plain ended new new_table

module _ (meaning : Meaning) (setup : Setup) (old : Association) (table : Database) (octets : Octets) (m : Message) (new : Association) (new_table : Database) where
  pub refused_is : (fault : MessageFault) (e : Effect) → Does meaning setup old table octets m (Refused fault) e new new_table → Refuses fault e old table new new_table
  refused_is fault (effect.Refused s) is = record { is = ap (λ (x : MessageFault). effect.Refused x) is.0; passed = is.1 }
  refused_is fault (effect.Repeated s) is = absurd is
  refused_is fault (effect.Replied s) is = absurd is
  refused_is fault (effect.Again s) is = absurd is
  refused_is fault (effect.AsksAuth s) is = absurd is
  refused_is fault (effect.Counted s) is = absurd is

  pub repeated_is : (reply : Octets) (e : Effect) → Does meaning setup old table octets m (Repeat reply) e new new_table → Repeats reply e old table new new_table
  repeated_is reply (effect.Refused s) is = absurd is
  repeated_is reply (effect.Repeated s) is = record { is = ap (λ (x : Octets). effect.Repeated x) is.0; passed = is.1 }
  repeated_is reply (effect.Replied s) is = absurd is
  repeated_is reply (effect.Again s) is = absurd is
  repeated_is reply (effect.AsksAuth s) is = absurd is
  repeated_is reply (effect.Counted s) is = absurd is

module _ (meaning : Meaning) (setup : Setup) (number : ℕ) (plain : Plain) (old : Association) (table : Database) (new : Association) (new_table : Database) where
  -- by the exchange, at an established IKE SA
  abbrev pub FurtherDone : Bool → Effect → Type 0
  FurtherDone true e = Informs meaning setup number plain e old table new new_table
  FurtherDone false e = AnswersChild meaning setup number plain e old table new new_table

  further_is : (informational : Bool) (e : Effect) → DoesAtEstablished informational meaning setup old table number plain e new new_table → FurtherDone informational e
  further_is true (effect.Replied s) is = record { answered = s; is = refl; answers = is }
  further_is true e is = absurd is
  further_is false (effect.Replied s) is = record { answered = s; is = refl; answers = is }
  further_is false e is = absurd is

  -- by the phase: a half-open IKE SA answers, an established one goes by the exchange, any other drops the
  -- request
  abbrev pub RequestDone : Phase → ℕ → Effect → Type 0
  RequestDone (phase.HalfOpen opened) exchange e = Replies meaning setup number plain e old table new new_table
  RequestDone (phase.Established keys) exchange e = FurtherDone (exchange == INFORMATIONAL) e
  RequestDone p exchange e = Refuses WrongPhase e old table new new_table

  pub request_is : (p : Phase) (exchange : ℕ) (e : Effect) → DoesRequest meaning setup p exchange old table number plain e new new_table → RequestDone p exchange e
  request_is (phase.HalfOpen p) exchange (effect.Replied s) is = record { answered = s; is = refl; answers = is }
  request_is (phase.HalfOpen p) exchange e is = absurd is
  request_is (phase.Established p) exchange e is = further_is (exchange == INFORMATIONAL) e is
  request_is p exchange (effect.Refused s) is = record { is = ap (λ (x : MessageFault). effect.Refused x) is.0; passed = is.1 }
  request_is p exchange e is = absurd is

  -- by what the request of the response asked for
  abbrev pub AnswerDone : Bool → Effect → Type 0
  AnswerDone true e = CountsChild setup number plain e old table new new_table
  AnswerDone false e = IsInformed setup number plain e old table new new_table

  answer_is : (further : Bool) (e : Effect) → DoesAnswer further setup old table number plain e new new_table → AnswerDone further e
  answer_is true (effect.Counted s) is = record { ended = s; is = refl; counts = is }
  answer_is true e is = absurd is
  answer_is false (effect.Counted s) is = record { ended = s; is = refl; counts = is }
  answer_is false e is = absurd is

  abbrev pub ResponseDone : Phase → Effect → Type 0
  ResponseDone (phase.AuthSent sent) e = CountsResponse meaning setup number plain e old table new new_table
  ResponseDone (phase.Established keys) e = AnswerDone (asked_further old number) e
  ResponseDone p e = Refuses WrongPhase e old table new new_table

  pub response_is : (p : Phase) (e : Effect) → DoesResponse meaning setup p old table number plain e new new_table → ResponseDone p e
  response_is (phase.AuthSent p) (effect.Counted s) is = record { ended = s; is = refl; ends = is }
  response_is (phase.AuthSent p) e is = absurd is
  response_is (phase.Established p) e is = answer_is (asked_further old number) e is
  response_is p (effect.Refused s) is = record { is = ap (λ (x : MessageFault). effect.Refused x) is.0; passed = is.1 }
  response_is p e is = absurd is

-- the effect that goes with how it is gone on
abbrev effect_of : Continued → Effect
effect_of (continued.Again next) = effect.Again next
effect_of (continued.AsksAuth next) = effect.AsksAuth next
effect_of continued.Unfit = effect.Refused WrongPhase

said_is : (e : Effect) (c : Continued) → Says e c → e ≡ effect_of c
said_is (effect.Refused s) (continued.Again c) is = absurd is
said_is (effect.Refused s) (continued.AsksAuth c) is = absurd is
said_is (effect.Refused s) continued.Unfit is = ap (λ (x : MessageFault). effect.Refused x) is
said_is (effect.Repeated s) (continued.Again c) is = absurd is
said_is (effect.Repeated s) (continued.AsksAuth c) is = absurd is
said_is (effect.Repeated s) continued.Unfit is = absurd is
said_is (effect.Replied s) (continued.Again c) is = absurd is
said_is (effect.Replied s) (continued.AsksAuth c) is = absurd is
said_is (effect.Replied s) continued.Unfit is = absurd is
said_is (effect.Again s) (continued.Again c) is = ap (λ (x : Octets). effect.Again x) is
said_is (effect.Again s) (continued.AsksAuth c) is = absurd is
said_is (effect.Again s) continued.Unfit is = absurd is
said_is (effect.AsksAuth s) (continued.Again c) is = absurd is
said_is (effect.AsksAuth s) (continued.AsksAuth c) is = ap (λ (x : Octets). effect.AsksAuth x) is
said_is (effect.AsksAuth s) continued.Unfit is = absurd is
said_is (effect.Counted s) (continued.Again c) is = absurd is
said_is (effect.Counted s) (continued.AsksAuth c) is = absurd is
said_is (effect.Counted s) continued.Unfit is = absurd is

-- ---- two receptions that are one

module _ (laws : Laws) (meaning : Meaning) (setup : Setup) (old other : Association) (same : association_content old ≡ association_content other) (table another : Database) (alike : table_content table ≡ table_content another) (a b : Association) (a_table b_table : Database) (e f : Effect) where
  both_refuse : (fault : MessageFault) → Refuses fault e old table a a_table → Refuses fault f other another b b_table → SameEnd e f a b a_table b_table
  both_refuse fault is also = one_passing laws meaning setup old other same table another alike e f a b a_table b_table (is.is ∙ sym also.is) is.passed also.passed

  both_repeat : (reply : Octets) → Repeats reply e old table a a_table → Repeats reply f other another b b_table → SameEnd e f a b a_table b_table
  both_repeat reply is also = one_passing laws meaning setup old other same table another alike e f a b a_table b_table (is.is ∙ sym also.is) is.passed also.passed

  both_reply : TellsLengths meaning.body_of setup.fresh.seal → HoldsWholeKeys old.phase → (number : ℕ) (plain : Plain) → Replies meaning setup number plain e old table a a_table → Replies meaning setup number plain f other another b b_table → SameEnd e f a b a_table b_table
  both_reply tells whole number plain is also =
      let one = one_answer laws meaning setup old other same table another alike tells whole number plain is.answered also.answered a b a_table b_table is.answers also.answers in
      record { effect_is = is.is ∙ one.effect_is ∙ sym also.is; association = one.association; table = one.table }

  both_count : (number : ℕ) (plain : Plain) → CountsResponse meaning setup number plain e old table a a_table → CountsResponse meaning setup number plain f other another b b_table → SameEnd e f a b a_table b_table
  both_count number plain is also =
      let one = one_end laws meaning setup old other same table another alike number plain is.ended also.ended a b a_table b_table is.ends also.ends in
      record { effect_is = is.is ∙ one.effect_is ∙ sym also.is; association = one.association; table = one.table }

  both_go_on : TellsLengths meaning.body_of setup.fresh.seal → (octets : Octets) (m : Message) → DoesInitial meaning setup old octets m e a × (a_table ≡ table) → DoesInitial meaning setup other octets m f b × (b_table ≡ another) → SameEnd e f a b a_table b_table
  both_go_on tells octets m is also =
      let one = one_response laws.messages laws.outgoing laws.keys laws.init (asker_of meaning) setup old other m.header.id octets m is.0.continued also.0.continued a b tells same is.0.read also.0.read in
      record {
        effect_is = said_is e is.0.continued is.0.said ∙ ap effect_of one.continued_is ∙ sym (said_is f also.0.continued also.0.said);
        association = one.association;
        table = ap table_content is.1 ∙ alike ∙ sym (ap table_content also.1);
      }

  both_inform : TellsLengths meaning.body_of setup.fresh.seal → HoldsWholeKeys old.phase → (number : ℕ) (plain : Plain) (informational : Bool) → FurtherDone meaning setup number plain old table a a_table informational e → FurtherDone meaning setup number plain other another b b_table informational f
      → SameEnd e f a b a_table b_table
  both_inform tells whole number plain true is also =
      let one = one_information laws meaning setup old other same table another alike tells whole number plain is.answered also.answered a b a_table b_table is.answers also.answers in
      record { effect_is = is.is ∙ one.effect_is ∙ sym also.is; association = one.association; table = one.table }
  both_inform tells whole number plain false is also =
      let one = one_further_answer laws meaning setup old other same table another alike tells whole number plain is.answered also.answered a b a_table b_table is.answers also.answers in
      record { effect_is = is.is ∙ one.effect_is ∙ sym also.is; association = one.association; table = one.table }

  both_be_answered : (number : ℕ) (plain : Plain) (further : Bool) → AnswerDone meaning setup number plain old table a a_table further e → AnswerDone meaning setup number plain other another b b_table further f → SameEnd e f a b a_table b_table
  both_be_answered number plain true is also =
      let one = one_further_count laws meaning setup old other same table another alike number plain is.ended also.ended a b a_table b_table is.counts also.counts in
      record { effect_is = is.is ∙ one.effect_is ∙ sym also.is; association = one.association; table = one.table }
  both_be_answered number plain false is also =
      let one = one_count laws meaning setup old other same table another alike number plain is.ended also.ended a b a_table b_table is.counts also.counts in
      record { effect_is = is.is ∙ one.effect_is ∙ sym also.is; association = one.association; table = one.table }

  requests_alike : TellsLengths meaning.body_of setup.fresh.seal → HoldsWholeKeys old.phase → (number : ℕ) (plain : Plain) (p : Phase) (exchange : ℕ) → RequestDone meaning setup number plain old table a a_table p exchange e → RequestDone meaning setup number plain other another b b_table p exchange f
      → SameEnd e f a b a_table b_table
  requests_alike tells whole number plain (phase.InitSent p) exchange is also = both_refuse WrongPhase is also
  requests_alike tells whole number plain (phase.AuthSent p) exchange is also = both_refuse WrongPhase is also
  requests_alike tells whole number plain (phase.HalfOpen p) exchange is also = both_reply tells whole number plain is also
  requests_alike tells whole number plain (phase.Established p) exchange is also = both_inform tells whole number plain (exchange == INFORMATIONAL) is also
  requests_alike tells whole number plain (phase.Closed p at) exchange is also = both_refuse WrongPhase is also

  responses_alike : (number : ℕ) (plain : Plain) (p : Phase) → ResponseDone meaning setup number plain old table a a_table p e → ResponseDone meaning setup number plain other another b b_table p f → SameEnd e f a b a_table b_table
  responses_alike number plain (phase.InitSent p) is also = both_refuse WrongPhase is also
  responses_alike number plain (phase.AuthSent p) is also = both_count number plain is also
  responses_alike number plain (phase.HalfOpen p) is also = both_refuse WrongPhase is also
  responses_alike number plain (phase.Established p) is also =
      both_be_answered number plain (asked_further old number) is
      (subst (λ (x : Bool). AnswerDone meaning setup number plain other another b b_table x f) (sym (ap (λ (z : Association). asked_further z number) same)) also)
  responses_alike number plain (phase.Closed p at) is also = both_refuse WrongPhase is also

  one_doing : TellsLengths meaning.body_of setup.fresh.seal → HoldsWholeKeys old.phase → (octets : Octets) (m : Message) (r : Reception) → Does meaning setup old table octets m r e a a_table → Does meaning setup other another octets m r f b b_table → SameEnd e f a b a_table b_table
  one_doing tells whole octets m (Refused fault) is also =
      both_refuse fault (refused_is meaning setup old table octets m a a_table fault e is) (refused_is meaning setup other another octets m b b_table fault f also)
  one_doing tells whole octets m (Repeat reply) is also =
      both_repeat reply (repeated_is meaning setup old table octets m a a_table reply e is) (repeated_is meaning setup other another octets m b b_table reply f also)
  one_doing tells whole octets m (TakesEffect plain) is also =
      let n = m.header.id in
      let phases : other.phase ≡ old.phase = sym (ap (λ (x : Association). x.phase) same) in
      let x = m.header.exchange in
      requests_alike tells whole n plain old.phase x (request_is meaning setup n plain old table a a_table old.phase x e is)
      (subst (λ (p : Phase). RequestDone meaning setup n plain other another b b_table p x f) phases (request_is meaning setup n plain other another b b_table other.phase x f also))
  one_doing tells whole octets m (Answers plain) is also =
      let n = m.header.id in
      let phases : other.phase ≡ old.phase = sym (ap (λ (x : Association). x.phase) same) in
      responses_alike n plain old.phase (response_is meaning setup n plain old table a a_table old.phase e is)
      (subst (λ (p : Phase). ResponseDone meaning setup n plain other another b b_table p f) phases (response_is meaning setup n plain other another b b_table other.phase f also))
  one_doing tells whole octets m AnswersInitial is also = both_go_on tells octets m is also

pub one_effect : Laws → (meaning : Meaning) (setup : Setup) (old other a b : Association) (table another a_table b_table : Database) (octets : Octets) (m : Message) (e f : Effect)
    → TellsLengths meaning.body_of setup.fresh.seal → HoldsWholeKeys old.phase → association_content old ≡ association_content other → table_content table ≡ table_content another
    → TakesMessage meaning setup old table octets m e a a_table → TakesMessage meaning setup other another octets m f b b_table
    → (e ≡ f) × (association_content a ≡ association_content b) × (table_content a_table ≡ table_content b_table)
one_effect laws meaning setup old other a b table another a_table b_table octets m e f tells whole same alike is also =
    let received : IsReceived meaning.plain_of old octets m also.reception = laws.receptions.by_content meaning.plain_of other old octets m also.reception (sym same) also.received in
    let one : also.reception ≡ is.reception = laws.receptions.one meaning.plain_of old octets m also.reception is.reception received is.received in
    let done : Does meaning setup other another octets m is.reception f b b_table = subst (λ (r : Reception). Does meaning setup other another octets m r f b b_table) one also.done in
    let end = one_doing laws meaning setup old other same table another alike a b a_table b_table e f tells whole octets m is.reception is.done done in
    (end.effect_is, end.association, end.table)
