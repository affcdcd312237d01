-- What IKE_SA_INIT leaves of both gateways, whatever else they hold, and both exchanges in a row.
use Rattle.std.proofs.Common.{◌≡◌, ◌∷◌, ◌++◌, ◌∙◌, ℕ, zero, suc, Bool, List, [], Some, cond, length, ap, refl, subst, sym}
use Rattle.std.proofs.lemmas.Bool.{eq-eqb}
use Rattle.std.specs.Cmp.{nat_cmp_total, unsigned_tied}
use Rattle.std.specs.FinMap as map
use Rattle.std.specs.List.{slice_get, slice_set}
use Rattle.std.specs.Ordering.{nat_cmp}
use Rattle.base.specs.Octets.{AreOctets, Octets}
use Rattle.policy.specs.declared.entry.Entry.{Entry}
use Rattle.suite.specs.declared.fresh.Fresh.{Fresh}
use Rattle.exchange.specs.Headers.{keys_of}
use Rattle.exchange.specs.Sealed.{IsSealed}
use Rattle.exchange.specs.declared.headers.Role.TheVariants.{Initiator, Responder}
use Rattle.association.specs.AskedChildren.{AskedChildView}
use Rattle.association.specs.Issuing.{new_request}
use Rattle.association.specs.declared.phase.Association.{Association}
use Rattle.association.specs.declared.phase.Request.{Request}
use Rattle.association.specs.declared.purpose.Purpose.TheVariants.{Identify}
use Rattle.auth.specs.Proofs.{octets_to_prove}
use Rattle.setup.specs.declared.config.Config.{Config}
use Rattle.association.specs.Admitting.{half_open}
use Rattle.effects.specs.Taking.{Meaning}
use Rattle.ike.specs.Moves.{HasSeal}
use Rattle.gateway.specs.Histories.{Passage}
use Rattle.gateway.specs.States.{State}
use Rattle.laws_opening.specs.Beside.{next_child, told_by, AnswersBeside, OpensBeside, StillWaits, TakesUpBeside}
use Rattle.laws_opening.specs.Exchanged.{keys_from}
use Rattle.laws_opening.specs.UnderLoad.{OpensUnderLoad}
use Rattle.laws_coming_up.specs.ComingUpBeside.{identity_in, meeting_by, proved_in, AreInExchangeBeside, AwaitsAnswer, AwaitsIdentity, CanAskFor, IsKnownIn, IsSealedIn, Meeting}
use Rattle.laws_coming_up.specs.BringingUpBeside.{AreSetUpBeside, CanBeKnown}
use Rattle.laws_coming_up.specs.BringingUpUnderLoad.{AreSetUpUnderLoad}
use Rattle.laws_coming_up.proofs.BringingLemmas.{signed_octets}
use Rattle.laws_coming_up.proofs.ConcludingLemmas.{waiting_so}

-- ---- both wait then

last_there : (xs : List Association) (a : Association) → slice_get (xs ++ a ∷ []) (length xs) ≡ Some a
last_there [] a = refl
last_there (x ∷ xs) a = last_there xs a

pub is_half_open : {C : Type 0} (meaning : Meaning) (asking answering : Fresh) (shared request : Octets) (child : AskedChildView) (q : Passage C)
    → (answers : AnswersBeside meaning asking answering shared request q)
    → AwaitsIdentity (meeting_by asking answering shared request answers.response child) q.after.machine.held
is_half_open {C} meaning asking answering shared request child q answers =
    let held = q.before.machine.held in
    let a = half_open held.next asking.spi answering.spi (keys_from shared asking answering) request answers.response q.before.machine.moment in
    record {
      place = length held.associations;
      association = a;
      there = ap (λ (s : State C). slice_get s.machine.held.associations (length held.associations)) answers.after ∙ last_there held.associations a;
      spi_i = refl;
      spi_r = refl;
      made = q.before.machine.moment;
      phase_is = refl;
    }

pub set_there : (xs : List Association) (place : ℕ) (a b : Association) → slice_get xs place ≡ Some a → slice_get (slice_set xs place b) place ≡ Some b
set_there [] place a b there = absurd cc
set_there (x ∷ xs) zero a b there = refl
set_there (x ∷ xs) (suc place) a b there = set_there xs place a b there

abbrev none_out : map.FinMap nat_cmp Request
none_out = map.empty

pub identity_waits : (request : Request) → map.get (map.insert none_out 1 request) 1 ≡ Some request
identity_waits request =
    map.get-insert nat_cmp_total none_out 1 request 1 ∙ ap (λ (b : Bool). cond b (Some request) (map.get none_out 1)) (unsigned_tied 1 1 ∙ eq-eqb 1 1 refl)

pub is_waiting : {C : Type 0} (meaning : Meaning) (asking answering reading : Fresh) (shared request response : Octets) (child : AskedChildView) (r : Passage C)
    (waits : StillWaits asking request child r.before.machine.held)
    → TakesUpBeside meaning asking answering reading (keys_from shared asking answering) request response child r waits
    → AwaitsAnswer (meeting_by asking answering shared request response child) r.after.machine.held
is_waiting {C} meaning asking answering reading shared request response child r waits takes_up =
    let moment = r.before.machine.moment in
    let a = told_by waits.association answering (keys_from shared asking answering) response child takes_up.auth moment takes_up.spare in
    let asked = new_request takes_up.auth Identify moment in
    record {
      place = waits.place;
      association = a;
      there = ap (λ (s : State C). slice_get s.machine.held.associations waits.place) takes_up.after
          ∙ set_there r.before.machine.held.associations waits.place waits.association a waits.there;
      spi_i = waits.spi;
      spi_r = refl;
      phase_is = refl;
      asked = asked;
      outstanding = identity_waits asked;
    }

-- ---- the initiator can ask so

pub can_ask : {C : Type 0} (meaning_of : C → Meaning) (d : Meeting) (auth : Octets) (q r : Passage C) → AreInExchangeBeside meaning_of d auth q r
    → CanAskFor r.before.machine.config d.child
can_ask {C} meaning_of d auth q r are =
    let so = waiting_so d r.before.machine.held r.before.table are.ends.sound.machine.held are.ends.sound.table are.waits in
    record { valid = are.ends.sound.machine.config; least = so.least; most = so.most }

-- ---- both exchanges

-- what one end proves itself over is octets, as the message of IKE_SA_INIT and the nonce are
pub initiator_known : (one other : Config) (meaning theirs : Meaning) (d : Meeting) → AreOctets d.request → AreOctets d.keys.nonce_r
    → CanBeKnown one other meaning theirs → IsKnownIn Initiator one other meaning theirs d
initiator_known one other meaning theirs d request nonce can =
    let id = one.own.identity in
    record { named = can.named; proved = can.proved (octets_to_prove (proved_in Initiator d) id) (signed_octets d.request d.keys.nonce_r d.keys.sk_pi id.kind id.data request nonce) }

pub responder_known : (one other : Config) (meaning theirs : Meaning) (d : Meeting) → AreOctets d.response → AreOctets d.keys.nonce_i
    → CanBeKnown one other meaning theirs → IsKnownIn Responder one other meaning theirs d
responder_known one other meaning theirs d response nonce can =
    let id = one.own.identity in
    record { named = can.named; proved = can.proved (octets_to_prove (proved_in Responder d) id) (signed_octets d.response d.keys.nonce_i d.keys.sk_pr id.kind id.data response nonce) }

-- what was sealed by the one as it was then
pub sealed_then : {C : Type 0} (meaning_of : C → Meaning) (d : Meeting) (reading : Fresh) (auth : Octets) (r t : Passage C) → HasSeal reading
    → t.before.machine.config ≡ r.before.machine.config → t.before.caller ≡ r.before.caller
    → IsSealed (meaning_of r.before.caller).body_of (keys_of Initiator d.keys) reading.seal (identity_in (meaning_of r.before.caller) r.before.machine.config d) auth
    → IsSealedIn Initiator (meaning_of t.before.caller) d (identity_in (meaning_of t.before.caller) t.before.machine.config d) auth
sealed_then {C} meaning_of d reading auth r t seal config caller sealed = record {
  fresh = reading;
  seal = seal;
  sealed =
      subst (λ (c : Config). IsSealed (meaning_of t.before.caller).body_of (keys_of Initiator d.keys) reading.seal (identity_in (meaning_of t.before.caller) c d) auth) (sym config)
      (subst (λ (c : C). IsSealed (meaning_of c).body_of (keys_of Initiator d.keys) reading.seal (identity_in (meaning_of c) r.before.machine.config d) auth) (sym caller) sealed);
}

abbrev pub in_exchange_beside : {C : Type 0} (meaning_of : C → Meaning) (place : ℕ) (entry : Entry) (asking answering reading : Fresh) (shared : Octets) (p q r s t : Passage C)
    (are : AreSetUpBeside meaning_of place entry asking answering reading shared p q r s t)
    (h : OpensBeside meaning_of place entry asking answering reading shared p q r are.opens)
    → AreInExchangeBeside meaning_of (meeting_by asking answering shared are.opens.request are.opens.response (next_child entry p.before)) h.takes_up.auth s t
in_exchange_beside {C} meaning_of place entry asking answering reading shared p q r s t are h =
    let d = meeting_by asking answering shared are.opens.request are.opens.response (next_child entry p.before) in
    record {
      answers = are.accepts;
      half_open = are.half_open;
      asked = are.asked h.takes_up.auth h.takes_up.said;
      ends = are.concludes;
      waits = are.waits;
      answered = are.answered;
      initiator_known =
          initiator_known t.before.machine.config s.before.machine.config (meaning_of t.before.caller) (meaning_of s.before.caller) d
          (subst AreOctets h.request_is h.asks.spelled.octets) are.answering_nonce are.one_known;
      responder_known =
          responder_known s.before.machine.config t.before.machine.config (meaning_of s.before.caller) (meaning_of t.before.caller) d
          (subst AreOctets h.response_is h.answers.spelled.octets) are.asking_nonce are.other_known;
      sent = sealed_then meaning_of d reading h.takes_up.auth r t are.seal are.config_stays are.caller_stays h.takes_up.sealed;
    }

-- under load the request is the one with the cookie
abbrev pub in_exchange_under_load : {C : Type 0} (meaning_of : C → Meaning) (place : ℕ) (entry : Entry) (asking delaying bringing answering reading : Fresh) (shared : Octets) (p l b q r s t : Passage C)
    (are : AreSetUpUnderLoad meaning_of place entry asking delaying bringing answering reading shared p l b q r s t)
    (h : OpensUnderLoad meaning_of place entry asking delaying bringing answering reading shared p l b q r are.opens)
    → AreInExchangeBeside meaning_of (meeting_by asking answering shared are.opens.again are.opens.response (next_child entry p.before)) h.takes_up.auth s t
in_exchange_under_load {C} meaning_of place entry asking delaying bringing answering reading shared p l b q r s t are h =
    let d = meeting_by asking answering shared are.opens.again are.opens.response (next_child entry p.before) in
    record {
      answers = are.accepts;
      half_open = are.half_open;
      asked = are.asked h.takes_up.auth h.takes_up.said;
      ends = are.concludes;
      waits = are.waits;
      answered = are.answered;
      initiator_known =
          initiator_known t.before.machine.config s.before.machine.config (meaning_of t.before.caller) (meaning_of s.before.caller) d
          (subst AreOctets h.again_is h.brings.spelled.octets) are.answering_nonce are.one_known;
      responder_known =
          responder_known s.before.machine.config t.before.machine.config (meaning_of s.before.caller) (meaning_of t.before.caller) d
          (subst AreOctets h.response_is h.answers.spelled.octets) are.asking_nonce are.other_known;
      sent = sealed_then meaning_of d reading h.takes_up.auth r t are.seal are.config_stays are.caller_stays h.takes_up.sealed;
    }
