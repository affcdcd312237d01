-- The keys of an IKE SA are whole when they are derived, and stay so.
use Rattle.std.proofs.Common.{◌≡◌, ◌==◌, ℕ, Bool, true, false, Option, Some, None, refl, sym, ap, subst, ◌∙◌, List}
use Rattle.base.specs.Octets.{Octets}
use Rattle.wire.specs.Numbers.{INFORMATIONAL}
use Rattle.wire.specs.declared.message.Message.{Message}
use Rattle.suite.specs.Keys.{ike_keys}
use Rattle.suite.specs.declared.fresh.Fresh.{Fresh}
use Rattle.suite.specs.declared.key_record.KeyRecord.{KeyRecord}
use Rattle.suite.specs.declared.sealer.Cipher.{Cipher}
use Rattle.exchange.specs.declared.sealed.Plain.{Plain}
use Rattle.sa_init.specs.Judging.{OfferView}
use Rattle.sa_init.specs.declared.response.Response.{Response}
use Rattle.sa_init.specs.declared.response.Response.TheVariants as response
use Rattle.sadb.specs.Database.{Database}
use Rattle.sadb.specs.declared.pair.Pair.{Pair}
use Rattle.association.specs.Phases.{established_of, keys_in}
use Rattle.association.specs.Receiving.{Answers, AnswersInitial, Reception, Refused, Repeat, TakesEffect}
use Rattle.association.specs.declared.phase.Association.{Association}
use Rattle.association.specs.declared.phase.InitSent.{InitSent}
use Rattle.association.specs.declared.phase.Phase.{Phase}
use Rattle.association.specs.declared.phase.Phase.TheVariants as phase
use Rattle.initial.specs.Answering.{outcome_of}
use Rattle.association.specs.Admitting.{Admits}
use Rattle.initial.specs.Concluding.{ConcludesBy}
use Rattle.setup.specs.Configs.{Setup}
use Rattle.deletions.specs.Deciding.{is_closing_verdict, verdict_on}
use Rattle.informational.specs.Answering.{gone_by}
use Rattle.informational.specs.Counting.{gone_with, is_ended}
use Rattle.informational.specs.Orders.{ClosesIf}
use Rattle.further.specs.Answering.{further_pair}
use Rattle.further.specs.Deciding.{is_closing_decision}
use Rattle.create_child.specs.Counting.{is_closing_conclusion}
use Rattle.effects.specs.Lengths.{AreWholeKeys, HoldsWholeKeys}
use Rattle.initial.specs.Reading.{Asker, Continues}
use Rattle.effects.specs.Taking.{asked_further, asker_of, Does, IsPassedOver, Meaning, TakesMessage}
use Rattle.association.specs.declared.admitting.Admitted.{Admitted}
use Rattle.initial.specs.declared.concluding.Outcome.{Outcome}
use Rattle.initial.specs.declared.concluding.Outcome.TheVariants as outcome
use Rattle.initial.specs.declared.reading.Continued.{Continued}
use Rattle.initial.specs.declared.reading.Continued.TheVariants as continued
use Rattle.effects.specs.declared.taking.Effect.{Effect}
use Rattle.effects.proofs.DeterminedEffects.{refused_is, repeated_is, request_is, response_is, AnswerDone, FurtherDone, RequestDone, ResponseDone}
use Rattle.effects.proofs.DeterminedLaws.{KeyLaws}
use Rattle.effects.proofs.DeterminedReadings.{gives_whole}
use Rattle.effects.proofs.WayLemmas.{answered_further, counted_further, pair_made, FurtherIf}
use Rattle.association.specs.Outcomes.{made_by}
use Rattle.association.specs.declared.outcome.Fate.{Fate}

abbrev held_keys : Association → Option KeyRecord
held_keys a = keys_in a.phase

whole_still : (old new : Phase) → keys_in new ≡ keys_in old → HoldsWholeKeys old → HoldsWholeKeys new
whole_still old new same whole keys is = whole keys (sym same ∙ is)

keys_established : (p : Phase) → keys_in (established_of p) ≡ keys_in p
keys_established (phase.InitSent p) = refl
keys_established (phase.AuthSent p) = refl
keys_established (phase.HalfOpen p) = refl
keys_established (phase.Established p) = refl
keys_established (phase.Closed p at) = refl

concluded_keys : (setup : Setup) (o : Outcome) (old : Association) (table : Database) (came : Fate) (new : Association) (new_table : Database) → ConcludesBy setup old table o came new new_table → held_keys new ≡ held_keys old
concluded_keys setup outcome.Closes old table came new new_table is = ap held_keys is.over.content
concluded_keys setup (outcome.Establishes pair window) old table came new new_table is = ap held_keys is.content ∙ keys_established old.phase

closed_if_keys : (ending : Bool) (serials : List ℕ) (old : Association) (table : Database) (moment : ℕ) (new : Association) (new_table : Database) → ClosesIf ending serials old table moment new new_table → held_keys new ≡ held_keys old
closed_if_keys true serials old table moment new new_table is = ap held_keys is.content
closed_if_keys false serials old table moment new new_table is = ap held_keys is.0

further_if_keys : (closing : Bool) (spi : Option ℕ) (pair : Option Pair) (old : Association) (table : Database) (moment : ℕ) (child : Option ℕ) (new : Association) (new_table : Database)
    → FurtherIf closing spi pair old table moment child new new_table → held_keys new ≡ held_keys old
further_if_keys true spi pair old table moment child new new_table is = ap held_keys is.over.content
further_if_keys false spi pair old table moment child new new_table is = ap held_keys is.same

no_keys : (p : Phase) → keys_in p ≡ None → HoldsWholeKeys p
no_keys p none keys is = absurd (cc)

derived_keys : (p : Phase) (keys : KeyRecord) → keys_in p ≡ Some keys → AreWholeKeys keys → HoldsWholeKeys p
derived_keys p keys has whole others is =
    let same : keys ≡ others = cc in
    subst AreWholeKeys same whole

continued_whole : (asker : Asker) (setup : Setup) (old : Association) (sent : InitSent) (number : ℕ) (m : Message) (octets : Octets) (r : Response) (c : Continued) (new : Association)
    → ((keys : KeyRecord) → r ≡ response.Keys keys → AreWholeKeys keys) → HoldsWholeKeys old.phase → Continues asker setup old sent number m octets r c new → HoldsWholeKeys new.phase
continued_whole asker setup old sent number m octets (response.Cookie q) (continued.Again c) new gives whole is = no_keys new.phase (ap held_keys is.content)
continued_whole asker setup old sent number m octets (response.Cookie q) (continued.AsksAuth c) new gives whole is = absurd is
continued_whole asker setup old sent number m octets (response.Cookie q) continued.Unfit new gives whole is = absurd is
continued_whole asker setup old sent number m octets (response.Keys q) (continued.Again c) new gives whole is = absurd is
continued_whole asker setup old sent number m octets (response.Keys q) (continued.AsksAuth c) new gives whole is = derived_keys new.phase q (ap held_keys is.content) (gives q refl)
continued_whole asker setup old sent number m octets (response.Keys q) continued.Unfit new gives whole is = absurd is
continued_whole asker setup old sent number m octets response.Unfit (continued.Again c) new gives whole is = absurd is
continued_whole asker setup old sent number m octets response.Unfit (continued.AsksAuth c) new gives whole is = absurd is
continued_whole asker setup old sent number m octets response.Unfit continued.Unfit new gives whole is = subst (λ (x : Association). HoldsWholeKeys x.phase) (sym is) whole

passed_whole : (old : Association) (table : Database) (new : Association) (new_table : Database) → HoldsWholeKeys old.phase → IsPassedOver old table new new_table → HoldsWholeKeys new.phase
passed_whole old table new new_table whole is = subst (λ (x : Association). HoldsWholeKeys x.phase) (sym is.association) whole

module _ (meaning : Meaning) (setup : Setup) (number : ℕ) (plain : Plain) (old : Association) (table : Database) (new : Association) (new_table : Database) (e : Effect) (whole : HoldsWholeKeys old.phase) where
  further_whole : (informational : Bool) → FurtherDone meaning setup number plain old table new new_table informational e → HoldsWholeKeys new.phase
  further_whole true is =
      whole_still old.phase new.phase (closed_if_keys (is_closing_verdict (verdict_on table.pairs old.serial is.answers.payloads)) (gone_by (verdict_on table.pairs old.serial is.answers.payloads)) (record old { incoming = is.answers.incoming }) table setup.moment new new_table is.answers.concluded) whole
  further_whole false is =
      let d = is.answers in
      let taken : Association = record old { incoming = d.incoming } in
      whole_still old.phase new.phase (further_if_keys (is_closing_decision d.decision) None (further_pair d.decision) taken d.between setup.moment (made_by is.answered.fate) new new_table
      (answered_further (is_closing_decision d.decision) (further_pair d.decision) taken d.between setup.moment is.answered.fate new new_table d.concluded)) whole

  request_whole : (p : Phase) (exchange : ℕ) → RequestDone meaning setup number plain old table new new_table p exchange e → HoldsWholeKeys new.phase
  request_whole (phase.InitSent p) exchange is = passed_whole old table new new_table whole is.passed
  request_whole (phase.AuthSent p) exchange is = passed_whole old table new new_table whole is.passed
  request_whole (phase.HalfOpen p) exchange is =
      whole_still old.phase new.phase (concluded_keys setup (outcome_of is.answers.decision) (record old { incoming = is.answers.incoming }) is.answers.between is.answered.fate new new_table is.answers.concluded) whole
  request_whole (phase.Established p) exchange is = further_whole (exchange == INFORMATIONAL) is
  request_whole (phase.Closed p at) exchange is = passed_whole old table new new_table whole is.passed

  answer_whole : (further : Bool) → AnswerDone meaning setup number plain old table new new_table further e → HoldsWholeKeys new.phase
  answer_whole true is =
      let d = is.counts in
      let counted : Association = record old { outgoing = d.outgoing } in
      whole_still old.phase new.phase (further_if_keys (is_closing_conclusion d.conclusion) (Some d.further.child.spi) (pair_made d.conclusion) counted table setup.moment (made_by is.ended.fate) new new_table
      (counted_further d.conclusion d.further.child.spi counted table setup.moment is.ended.fate new new_table d.ends)) whole
  answer_whole false is =
      whole_still old.phase new.phase (closed_if_keys (is_ended is.counts.payloads is.counts.request.purpose) (gone_with table.pairs old.serial is.counts.request.purpose) (record old { outgoing = is.counts.outgoing }) table setup.moment new new_table is.counts.concluded) whole

  response_whole : (p : Phase) → ResponseDone meaning setup number plain old table new new_table p e → HoldsWholeKeys new.phase
  response_whole (phase.InitSent p) is = passed_whole old table new new_table whole is.passed
  response_whole (phase.AuthSent p) is = whole_still old.phase new.phase (concluded_keys setup is.ends.verdict (record old { outgoing = is.ends.outgoing }) table is.ended.fate new new_table is.ends.concluded) whole
  response_whole (phase.HalfOpen p) is = passed_whole old table new new_table whole is.passed
  response_whole (phase.Established p) is = answer_whole (asked_further old number) is
  response_whole (phase.Closed p at) is = passed_whole old table new new_table whole is.passed

done_whole : KeyLaws → (meaning : Meaning) (setup : Setup) (old : Association) (table : Database) (octets : Octets) (m : Message) (r : Reception) (e : Effect) (new : Association) (new_table : Database)
    → HoldsWholeKeys old.phase → Does meaning setup old table octets m r e new new_table → HoldsWholeKeys new.phase
done_whole laws meaning setup old table octets m (Refused fault) e new new_table whole is = passed_whole old table new new_table whole (refused_is meaning setup old table octets m new new_table fault e is).passed
done_whole laws meaning setup old table octets m (Repeat reply) e new new_table whole is = passed_whole old table new new_table whole (repeated_is meaning setup old table octets m new new_table reply e is).passed
done_whole laws meaning setup old table octets m (TakesEffect plain) e new new_table whole is =
    request_whole meaning setup m.header.id plain old table new new_table e whole old.phase m.header.exchange (request_is meaning setup m.header.id plain old table new new_table old.phase m.header.exchange e is)
done_whole laws meaning setup old table octets m (Answers plain) e new new_table whole is =
    response_whole meaning setup m.header.id plain old table new new_table e whole old.phase (response_is meaning setup m.header.id plain old table new new_table old.phase e is)
done_whole laws meaning setup old table octets m AnswersInitial e new new_table whole is =
    let read = is.0.read in
    continued_whole (asker_of meaning) setup old read.sent m.header.id m octets read.response is.0.continued new (gives_whole laws meaning.cipher meaning.group meaning.shared_secret _ m read.response read.means) whole read.continues

pub taken_whole : KeyLaws → (meaning : Meaning) (setup : Setup) (old : Association) (table : Database) (octets : Octets) (m : Message) (e : Effect) (new : Association) (new_table : Database)
    → HoldsWholeKeys old.phase → TakesMessage meaning setup old table octets m e new new_table → HoldsWholeKeys new.phase
taken_whole laws meaning setup old table octets m e new new_table whole is = done_whole laws meaning setup old table octets m is.reception e new new_table whole is.done

pub admitted_whole : KeyLaws → (cipher : Cipher) (group : ℕ) (public_value : Octets → Octets) (shared_secret : Octets → Octets → Option Octets) (fresh : Fresh) (moment serial : ℕ) (offer : OfferView) (spi_i : ℕ) (request : Octets) (admitted : Admitted)
    → Admits cipher group public_value shared_secret fresh moment serial offer spi_i request admitted → HoldsWholeKeys admitted.association.phase
admitted_whole laws cipher group public_value shared_secret fresh moment serial offer spi_i request admitted is =
    let s = is.answer.shared in
    let made : AreWholeKeys (ike_keys s offer.nonce fresh.nonce spi_i fresh.spi) = record {
      initiator = laws.initiator s offer.nonce fresh.nonce spi_i fresh.spi;
      responder = laws.responder s offer.nonce fresh.nonce spi_i fresh.spi;
    } in
    derived_keys admitted.association.phase is.agreed.record (ap held_keys is.content) (subst AreWholeKeys (sym is.answer.keys) made)
