-- The first response to a request, delivered while that waits, is matched.
use Rattle.std.proofs.Common.{◌≡◌, ◌≢◌, ◌⊎◌, ◌&&◌, ℕ, List, true, false, Option, Some, ap, arith, refl, subst, sym, ◌∙◌, inl, inr}
use Rattle.std.proofs.lemmas.Bool.{both_ways, eq-eqb, eqb-true}
use Rattle.std.proofs.lemmas.List.Folds.{find-set}
use Rattle.std.proofs.lemmas.Option.{none-some, slice_get_within}
use Rattle.std.specs.FinMap as map
use Rattle.std.specs.List.{position_or_len}
use Rattle.std.specs.Ordering.{nat_cmp}
use Rattle.std.specs.Prelude.{◌==◌}
use Rattle.base.specs.Octets.{Octets}
use Rattle.wire.specs.Numbers.{CREATE_CHILD_SA, IKE_AUTH, IKE_SA_INIT, INFORMATIONAL}
use Rattle.wire.specs.declared.message.Message.{Message}
use Rattle.suite.specs.declared.fresh.Fresh.{Fresh}
use Rattle.suite.specs.declared.key_record.KeyRecord.{KeyRecord}
use Rattle.exchange.specs.Headers.{keys_of}
use Rattle.exchange.specs.Sealed.{plain_of_message}
use Rattle.exchange.specs.declared.headers.Role.{Role}
use Rattle.association.specs.Finding.{has_pair, sent_by_other}
use Rattle.association.specs.Phases.{IsEstablished}
use Rattle.association.specs.Purposes.{exchange_of}
use Rattle.association.specs.Outcomes.{closed_by, made_by}
use Rattle.association.specs.Receiving.{opened_by, opened_under, Opening}
use Rattle.association.specs.declared.phase.Association.{Association}
use Rattle.association.specs.declared.phase.Phase.{Phase}
use Rattle.association.specs.declared.phase.Phase.TheVariants as phase
use Rattle.association.specs.declared.phase.Request.{Request}
use Rattle.association.specs.declared.purpose.Purpose.{Purpose}
use Rattle.association.specs.declared.purpose.Purpose.TheVariants.{Begin, Identify}
use Rattle.effects.specs.Openings.{OpensWhatItSeals}
use Rattle.effects.specs.Requests.{OpensAs}
use Rattle.effects.specs.Taking.{Meaning, TakesMessage}
use Rattle.effects.specs.Waiting.{IsAskedLater, SuitPhase}
use Rattle.effects.specs.declared.taking.Effect.{Effect}
use Rattle.ike.specs.Faults as faults
use Rattle.ike.specs.Machines.{association_of, has_serial, setup_at}
use Rattle.ike.specs.Moves.{HasSeal}
use Rattle.ike.specs.Outputs.{closed_serial, passed_over, stepped_of}
use Rattle.ike.specs.Steps as ike
use Rattle.ike.specs.declared.output.Stepped.{Stepped}
use Rattle.gateway.specs.Histories.{IsPassage, Passage}
use Rattle.gateway.specs.Inputs.{Input}
use Rattle.gateway.specs.Inputs as input
use Rattle.gateway.specs.Outputs as output
use Rattle.gateway.specs.Outputs.{view_of_ike, wants_memory}
use Rattle.gateway.specs.Requests.{for_ike, AnswersBy, IsDatagram}
use Rattle.gateway.specs.States.{association_in}
use Rattle.gateway.specs.Steps.{DoesInput, StepsIke}
use Rattle.gateway.specs.Worlds.{IsFreshlyGiven}
use Rattle.gateway.specs.declared.fault.Reason.TheVariants as reason
use Rattle.laws_recovery.proofs.HeldLemmas.{sound_at}
use Rattle.laws_recovery.specs.Copies.{AreEndsOfOne, ArrivesAt, IsMatched, WaitsUntil}
use Rattle.laws_recovery.specs.Waiting.{WaitsBefore}
use Rattle.laws_recovery.proofs.AskingLemmas.{back_again, from_other, not_initial}
use Rattle.laws_recovery.proofs.CopyLemmas.{its_purpose, opens_at, sent, MomentFacts}
use Rattle.laws_recovery.proofs.TakingLemmas.{TakingFacts}
use Rattle.laws_recovery.proofs.ResponseLemmas.{answers_so, at, matches, no_initial, no_response, refused_for, says_reply, takes_it, Answers, IsFor, Matched, MessageLaws, Taken}
use Rattle.laws_recovery.proofs.WaitingLemmas.{found, same_one, suits_at}

-- ---- a datagram is an input of IKE

-- the input is a datagram of these octets
pub record IsDatagramOf (given : Input) (octets : Octets) : Type 0 where
  pub from : Octets
  pub fresh : Fresh
  pub is : given ≡ input.Ike from octets fresh

datagram_by : (given : Input) (octets : Octets) → IsDatagram (for_ike given) octets → IsDatagramOf given octets
datagram_by (input.Ike from came fresh) octets is = record { from = from; fresh = fresh; is = ap (λ (o : Octets). input.Ike from o fresh) is }
datagram_by (input.Start own place fresh) octets is = absurd is
datagram_by (input.Probe own fresh) octets is = absurd is
datagram_by (input.DeleteChild child fresh) octets is = absurd is
datagram_by (input.DeleteIke own fresh) octets is = absurd is
datagram_by (input.Secret secret) octets is = absurd is
datagram_by (input.Tick moment) octets is = absurd is
datagram_by (input.Esp came) octets is = absurd is
datagram_by (input.Outward packet) octets is = absurd is
datagram_by (input.Inward packet) octets is = absurd is

takes_octets : {C : Type 0} (meaning_of : C → Meaning) (p : Passage C) (is : IsPassage meaning_of p) (octets : Octets) (d : IsDatagramOf p.given octets)
    → StepsIke (meaning_of p.before.caller) p.before.entries (ike.Message d.from octets d.fresh) p.before.machine p.before.table p.said is.steps.trace p.after.machine p.after.table
takes_octets {C} meaning_of p is octets d =
    subst (λ (i : Input). DoesInput (meaning_of p.before.caller) p.before.entries i p.before.machine p.before.table p.said is.steps.trace p.after.machine p.after.table) d.is is.steps.traces.does

seal_of : (given : Input) (octets : Octets) (d : IsDatagramOf given octets) → IsFreshlyGiven (for_ike given) → HasSeal d.fresh
seal_of given octets d fresh = subst (λ (i : Input). IsFreshlyGiven (for_ike i)) d.is fresh

-- ---- the end that answers

module _ {C : Type 0} (laws : MessageLaws) (meaning_of : C → Meaning) (p : Passage C) (is : IsPassage meaning_of p)
    (opens : (one other : C) (fresh : Fresh) → HasSeal fresh → OpensWhatItSeals (meaning_of one).body_of (meaning_of other).plain_of fresh.seal)
    (serial number exchange : ℕ) (b : Association) (octets reply : Octets) (arrives : ArrivesAt serial b octets p) (established : IsEstablished b.phase) (by : AnswersBy p reply)
    (later : (exchange ≡ INFORMATIONAL) ⊎ (exchange ≡ CREATE_CHILD_SA)) (o : OpensAs (meaning_of p.before.caller).plain_of b octets exchange number) (seal : IsFreshlyGiven (for_ike p.given)) where
  came : IsDatagramOf p.given octets
  came = datagram_by p.given octets arrives.datagram

  apart : o.message.header.exchange ≢ IKE_SA_INIT
  apart same = elim later [
    | inl one ↦ (let its = o.exchange_is in absurd (omega (arith, one, same, its)))
    | inr other ↦ (let its = o.exchange_is in absurd (omega (arith, other, same, its)))
  ]

  header_later : (o.message.header.exchange ≡ INFORMATIONAL) ⊎ (o.message.header.exchange ≡ CREATE_CHILD_SA)
  header_later = elim later [ inl one ↦ inl (o.exchange_is ∙ one) | inr other ↦ inr (o.exchange_is ∙ other) ]

  by_taken : (stepped : Stepped) → p.said ≡ view_of_ike stepped.output
      → Taken (meaning_of p.before.caller) (setup_at p.before.machine p.before.entries came.fresh) octets o.message p.before.machine.held p.before.table stepped p.after.machine.held p.after.table serial b
      → Answers (meaning_of p.before.caller).plain_of b exchange number reply
  by_taken stepped said t =
      let told = says_reply t.effect b.serial o.message.header.id reply by.closed (ap (λ (s : Stepped). view_of_ike s.output) (sym t.said) ∙ sym said ∙ by.said) in
      let answers = answers_so laws (meaning_of p.before.caller) (setup_at p.before.machine p.before.entries came.fresh) b p.before.table octets o.message told.answered t.changed p.after.table
      established.keys established.is header_later
      (opens p.before.caller p.before.caller came.fresh (seal_of p.given octets came seal))
      (sound_at p.before.machine p.before.table serial b is.sound.machine arrives.its).whole
      (subst (λ (e : Effect). TakesMessage (meaning_of p.before.caller) (setup_at p.before.machine p.before.entries came.fresh) b p.before.table octets o.message e t.changed p.after.table) told.is t.takes) in
      subst (λ (x : ℕ). Answers (meaning_of p.before.caller).plain_of b x number reply) o.exchange_is
      (subst (λ (n : ℕ). Answers (meaning_of p.before.caller).plain_of b o.message.header.exchange n reply) o.number_is
      (subst (λ (r : Octets). Answers (meaning_of p.before.caller).plain_of b o.message.header.exchange o.message.header.id r) told.octets answers))

  pub answers_as : Answers (meaning_of p.before.caller).plain_of b exchange number reply
  answers_as = elim (takes_octets meaning_of p is octets came) [
    | inl answers ↦
        by_taken answers.stepped answers.output
        (takes_it laws (meaning_of p.before.caller) (setup_at p.before.machine p.before.entries came.fresh) p.before.machine.cookies came.from octets p.before.machine.held p.before.table answers.stepped p.after.machine.held p.after.table
        is.sound.machine.held serial b arrives.its o.message o.spelled apart (no_initial o.message.header apart) (record { from_other = o.from_peer; spis = o.spis }) answers.steps.1)
    | inr refuses ↦ absurd (let wrong : output.Refused (reason.Ike refuses.fault) ≡ output.Reply reply by.closed = sym refuses.output ∙ by.said in cc)
  ]

-- ---- the end that asked

not_auth : (purpose : Purpose) → IsAskedLater purpose → exchange_of purpose ≢ IKE_AUTH
not_auth purpose (inl is) same = absurd (omega (arith, is, same))
not_auth purpose (inr is) same = absurd (omega (arith, is, same))

spis_of : (m : Message) (b d : Association) → AreEndsOfOne d b → has_pair m.header b ≡ true → has_pair m.header d ≡ true
spis_of m b d ends is =
    ap (λ (n : ℕ). (n == m.header.spi_i) && (d.spi_r == m.header.spi_r)) (sym ends.spi_i)
    ∙ ap (λ (n : ℕ). (b.spi_i == m.header.spi_i) && (n == m.header.spi_r)) (sym ends.spi_r)
    ∙ is

opened_of : (plain_of : Opening) (exchange number : ℕ) (b d : Association) (reply : Octets) → AreEndsOfOne d b → (answers : Answers plain_of b exchange number reply)
    → opened_by plain_of d reply answers.opens.message.payloads ≡ Some answers.opens.plain
opened_of plain_of exchange number b d reply ends answers =
    ap (λ (k : Option KeyRecord). opened_under plain_of d.role k reply answers.opens.message.payloads) (ends.one_keyed ∙ sym ends.other_keyed ∙ answers.opens.keyed)
    ∙ ap (λ (r : Role). plain_of_message plain_of (keys_of r answers.opens.keys) reply answers.opens.message.payloads) (sym ends.roles)
    ∙ answers.opens.opened

-- an IKE SA at which such a request waits is established
later_phase : (p : Phase) (outstanding : map.FinMap nat_cmp Request) (number : ℕ) (request : Request) → SuitPhase p outstanding → map.get outstanding number ≡ Some request → IsAskedLater request.purpose → IsEstablished p
later_phase (phase.InitSent asked) outstanding number request suits there later =
    absurd (let begins : request.purpose ≡ Begin = (suits number request there).1 in not_initial request.purpose later (ap exchange_of begins))
later_phase (phase.AuthSent asked) outstanding number request suits there later =
    absurd (let tells : request.purpose ≡ Identify = (suits number request there).1 in not_auth request.purpose later (ap exchange_of tells))
later_phase (phase.HalfOpen opened) outstanding number request suits there later = absurd (suits number request there)
later_phase (phase.Established keys) outstanding number request suits there later = record { keys = keys; is = refl }
later_phase (phase.Closed keys moment) outstanding number request suits there later = absurd (suits number request there)

module _ {C : Type 0} (laws : MessageLaws) (meaning_of : C → Meaning) (p : Passage C) (is : IsPassage meaning_of p)
    (serial number exchange : ℕ) (b d : Association) (reply : Octets) (arrives : ArrivesAt serial d reply p) (ends : AreEndsOfOne d b) (request : Request) (waits : WaitsBefore serial number request p)
    (later : IsAskedLater request.purpose) (same_exchange : exchange_of request.purpose ≡ exchange) (answers : Answers (meaning_of p.before.caller).plain_of b exchange number reply) (memory : wants_memory p.said ≡ false) where
  abbrev message : Message
  message = answers.opens.message

  back : IsDatagramOf p.given reply
  back = datagram_by p.given reply arrives.datagram

  one : waits.association ≡ d
  one = same_one waits.association d (sym waits.there ∙ arrives.its)

  its_waits : map.get d.outgoing.outstanding number ≡ Some request
  its_waits = ap (λ (a : Association). map.get a.outgoing.outstanding number) (sym one) ∙ waits.waits

  established : IsEstablished d.phase
  established =
      subst (λ (a : Association). IsEstablished a.phase) one
      (later_phase waits.association.phase waits.association.outgoing.outstanding number request (suits_at p.before.machine.held p.before.table serial number request is.sound.machine.held waits) waits.waits later)

  not_first : message.header.exchange ≢ IKE_SA_INIT
  not_first same = not_initial request.purpose later (same_exchange ∙ sym answers.exchange_is ∙ same)

  meant : IsFor message.header d
  meant = record {
    from_other = ap (sent_by_other d.role) answers.opens.from_sender ∙ from_other b.role d.role (sym (back_again d.role b.role ends.roles));
    spis = spis_of message b d ends answers.opens.spis;
  }

  by_matched : (stepped : Stepped) → p.said ≡ view_of_ike stepped.output
      → Taken (meaning_of p.before.caller) (setup_at p.before.machine p.before.entries back.fresh) reply message p.before.machine.held p.before.table stepped p.after.machine.held p.after.table serial d
      → IsMatched serial number p
  by_matched stepped said t =
      let named : d.serial ≡ serial = eqb-true d.serial serial (found serial p.before.machine.held.associations d arrives.its).named in
      let opened = opened_of (meaning_of p.before.caller).plain_of exchange number b d reply ends answers in
      let m : Matched d.serial message.header.id t.effect t.changed =
      matches (meaning_of p.before.caller) (setup_at p.before.machine p.before.entries back.fresh) d p.before.table reply message t.changed p.after.table established.keys request answers.opens.plain t.effect
      established.is answers.opens.is_response (ap (map.get d.outgoing.outstanding) answers.opens.number_is ∙ its_waits) (same_exchange ∙ sym answers.exchange_is) opened t.takes in
      record {
        child = made_by m.ended.fate;
        closed = closed_serial d.serial (closed_by m.ended.fate);
        said = said ∙ ap (λ (s : Stepped). view_of_ike s.output) t.said ∙ ap (λ (e : Effect). view_of_ike (stepped_of d.serial message.header.id e).output) m.is
            ∙ ap (λ (n : ℕ). output.Counted n (made_by m.ended.fate) (closed_serial d.serial (closed_by m.ended.fate))) named;
        waits_no_more = λ still after.
            let place = position_or_len (has_serial serial) p.before.machine.held.associations in
            let stands = at p.before.machine.held p.before.table is.sound.machine.held serial d arrives.its message.header not_first meant in
            let now : association_in p.after serial ≡ Some t.changed =
            ap (association_of serial) t.after
            ∙ find-set (has_serial serial) p.before.machine.held.associations place t.changed refl (slice_get_within p.before.machine.held.associations place d stands) (eq-eqb t.changed.serial serial (m.serial_is ∙ named)) in
            let same : after.association ≡ t.changed = same_one after.association t.changed (sym after.there ∙ now) in
            none-some still (sym m.gone ∙ ap (map.get t.changed.outgoing.outstanding) answers.opens.number_is ∙ ap (λ (a : Association). map.get a.outgoing.outstanding number) (sym same) ∙ after.waits);
      }

  pub matched : IsMatched serial number p
  matched = elim (takes_octets meaning_of p is reply back) [
    | inl takes ↦
        by_matched takes.stepped takes.output
        (takes_it laws (meaning_of p.before.caller) (setup_at p.before.machine p.before.entries back.fresh) p.before.machine.cookies back.from reply p.before.machine.held p.before.table takes.stepped p.after.machine.held p.after.table
        is.sound.machine.held serial d arrives.its message answers.opens.spelled not_first (no_response message.header answers.opens.is_response) meant takes.steps.1)
    | inr refuses ↦
        absurd (both_ways (faults.is_want_of_memory refuses.fault) (sym (ap wants_memory refuses.output) ∙ memory)
        (refused_for laws (meaning_of p.before.caller) (setup_at p.before.machine p.before.entries back.fresh) p.before.machine.cookies back.from reply p.before.machine.held p.before.table (passed_over refuses.fault) p.after.machine.held p.after.table
        is.sound.machine.held serial d arrives.its message answers.opens.spelled not_first (no_response message.header answers.opens.is_response) meant refuses.fault refuses.refuses))
  ]

-- ---- both

module _ {C : Type 0} (moments : MomentFacts) (facts : TakingFacts) (laws : MessageLaws) (meaning_of : C → Meaning)
    (opens : (one other : C) (fresh : Fresh) → HasSeal fresh → OpensWhatItSeals (meaning_of one).body_of (meaning_of other).plain_of fresh.seal)
    (plain : (one other : C) → (meaning_of one).plain_of ≡ (meaning_of other).plain_of)
    (serial number : ℕ) (a : Association) (octets : Octets) (asking : Passage C) (between : List (Passage C)) (matching : Passage C)
    (history : WaitsUntil meaning_of serial number a octets asking between matching) where
  pub comes_back : (other : ℕ) (b d : Association) (reply : Octets) (taking : Passage C) → IsPassage meaning_of taking → IsFreshlyGiven (for_ike taking.given) → ArrivesAt other b octets taking → AreEndsOfOne a b
      → IsEstablished b.phase → AnswersBy taking reply → ArrivesAt serial d reply matching → AreEndsOfOne d b → wants_memory matching.said ≡ false → IsMatched serial number matching
  comes_back other b d reply taking took seal arrives ends established by comes ends_then memory =
      let goes = sent moments facts meaning_of opens serial number a octets asking between matching history in
      let purpose = its_purpose moments facts meaning_of opens serial number a octets asking between matching history in
      let o = opens_at moments facts meaning_of opens serial number a octets asking between matching history taking.before.caller b ends in
      let answers = answers_as laws meaning_of taking took opens other number (exchange_of goes.sends.purpose) b octets reply arrives established by goes.sends.later o seal in
      matched laws meaning_of matching history.step serial number (exchange_of goes.sends.purpose) b d reply comes ends_then history.waiting history.waits
      (subst (λ (x : Purpose). IsAskedLater x) (sym purpose) goes.sends.later) (ap exchange_of purpose)
      (subst (λ (f : Opening). Answers f b (exchange_of goes.sends.purpose) number reply) (plain taking.before.caller matching.before.caller) answers) memory
