-- A request that goes out by a command, and as what its octets open at the other end.
use Rattle.std.proofs.Common.{◌≡◌, ◌≢◌, ◌<◌, ◌⊎◌, ◌∷◌, ◌&&◌, [], ℕ, List, Bool, true, false, cond, Option, Some, None, length, ap, arith, refl, subst, sym, ◌∙◌, inl, inr}
use Rattle.std.proofs.lemmas.Bool.{eq-eqb, eqb-true, ltb-true, ne_eqb}
use Rattle.std.proofs.lemmas.Bool.Decides.{eqb_tells}
use Rattle.std.proofs.lemmas.List.Folds.{find-set, find_at}
use Rattle.std.proofs.lemmas.Option.{none-some, same_Some}
use Rattle.std.specs.Cmp.{nat_cmp_total, unsigned_tied}
use Rattle.std.specs.FinMap as map
use Rattle.std.specs.List.{position, position_or_len, slice_get}
use Rattle.std.specs.Ordering.{nat_cmp}
use Rattle.std.specs.Prelude.{◌==◌, nat_lt, slice_set}
use Rattle.base.specs.Octets.{Octets}
use Rattle.wire.specs.Numbers.{IKE_SA_INIT}
use Rattle.suite.specs.Sealing.{AreKeys}
use Rattle.suite.specs.declared.fresh.Fresh.{Fresh}
use Rattle.suite.specs.declared.key_record.KeyRecord.{KeyRecord}
use Rattle.suite.specs.declared.keys.Keys.{Keys}
use Rattle.exchange.specs.Headers.{is_initiator, keys_of, other_role}
use Rattle.exchange.specs.Sealed.{plain_of_message, OpensAgain}
use Rattle.exchange.specs.declared.headers.Role.{Role}
use Rattle.exchange.specs.declared.headers.Role.TheVariants.{Initiator, Responder}
use Rattle.requests.specs.Outgoing.{OwnRequests}
use Rattle.association.specs.Finding.{sent_by_other}
use Rattle.association.specs.Issuing.{IssuesNext}
use Rattle.association.specs.Phases.{keys_in}
use Rattle.association.specs.Purposes.{exchange_of}
use Rattle.association.specs.Receiving.{opened_under, Opening}
use Rattle.association.specs.Sending.{request_message}
use Rattle.association.specs.declared.phase.Association.{Association}
use Rattle.association.specs.declared.phase.Request.{Request}
use Rattle.association.specs.declared.purpose.Purpose.{Purpose}
use Rattle.setup.specs.Configs.{Setup}
use Rattle.effects.specs.Lengths.{AreWholeKeys, HoldsWholeKeys}
use Rattle.effects.specs.Openings.{OpensWhatItSeals}
use Rattle.effects.specs.Requests.{OpensAs}
use Rattle.effects.specs.Sending.{SendsRequest}
use Rattle.effects.specs.Taking.{Meaning}
use Rattle.effects.specs.Waiting.{IsAskedLater}
use Rattle.ike.specs.Asking.{AsksAt}
use Rattle.ike.specs.Machines.{association_of, has_serial, setup_at, Held}
use Rattle.ike.specs.Moves.{HasSeal}
use Rattle.ike.specs.Orders as orders
use Rattle.ike.specs.Steps as ike
use Rattle.ike.specs.declared.output.Stepped.{Stepped}
use Rattle.gateway.specs.Histories.{IsPassage, Passage}
use Rattle.gateway.specs.Inputs.{Input}
use Rattle.gateway.specs.Inputs as input
use Rattle.gateway.specs.Outputs as output
use Rattle.gateway.specs.Outputs.{view_of_ike}
use Rattle.gateway.specs.Requests.{for_ike}
use Rattle.gateway.specs.States.{association_in}
use Rattle.gateway.specs.Steps.{DoesInput, StepsIke}
use Rattle.gateway.specs.Worlds.{IsFreshlyGiven}
use Rattle.gateway.specs.declared.fault.Reason.{Reason}
use Rattle.laws_recovery.specs.Copies.{is_asking, AreEndsOfOne, GoesOutFirst}
use Rattle.laws_recovery.proofs.WaitingLemmas.{found, same_one}

-- ---- the IKE SA at the place of its serial

record PlacedAt (p : Association → Bool) (xs : List Association) (place : ℕ) : Type 0 where
  is : place ≡ position_or_len p xs
  less : place < length xs

placed_by : (p : Association → Bool) (xs : List Association) (place : ℕ) (b : Bool) → nat_lt (position_or_len p xs) (length xs) ≡ b → cond b (Some (position_or_len p xs)) None ≡ Some place → PlacedAt p xs place
placed_by p xs place true is first =
    let same : position_or_len p xs ≡ place = same_Some (position_or_len p xs) place first in
    record { is = sym same; less = subst (λ (n : ℕ). n < length xs) same (ltb-true (position_or_len p xs) (length xs) is) }
placed_by p xs place false is first = absurd (none-some place first)

placed : (p : Association → Bool) (xs : List Association) (place : ℕ) → position p xs ≡ Some place → PlacedAt p xs place
placed p xs place first = placed_by p xs place (nat_lt (position_or_len p xs) (length xs)) refl first

pub found_there : (serial : ℕ) (xs : List Association) (place : ℕ) (a : Association) → position (has_serial serial) xs ≡ Some place → slice_get xs place ≡ Some a → association_of serial xs ≡ Some a
found_there serial xs place a first there =
    find_at (has_serial serial) xs ∙ ap (slice_get xs) (sym (placed (has_serial serial) xs place first).is) ∙ there

pub found_changed : (serial : ℕ) (xs : List Association) (place : ℕ) (b : Association) → position (has_serial serial) xs ≡ Some place → b.serial ≡ serial → association_of serial (slice_set xs place b) ≡ Some b
found_changed serial xs place b first named =
    let at = placed (has_serial serial) xs place first in
    find-set (has_serial serial) xs place b at.is at.less (eq-eqb b.serial serial named)

-- ---- one more request waits

put_there : (m : map.FinMap nat_cmp Request) (k n : ℕ) (v : Request) → n ≡ k → map.get (map.insert m k v) n ≡ Some v
put_there m k n v same = map.get-insert nat_cmp_total m k v n ∙ ap (λ (b : Bool). cond b (Some v) (map.get m n)) (unsigned_tied n k ∙ eq-eqb n k same)

put_beside : (m : map.FinMap nat_cmp Request) (k n : ℕ) (v : Request) → n ≢ k → map.get (map.insert m k v) n ≡ map.get m n
put_beside m k n v apart = map.get-insert nat_cmp_total m k v n ∙ ap (λ (b : Bool). cond b (Some v) (map.get m n)) (unsigned_tied n k ∙ ne_eqb n k apart)

-- what waits then is the new one, or waited before
record IsIssued (old : OwnRequests Request) (request : Request) (number : ℕ) (found : Request) : Type 0 where
  number_is : number ≡ old.next
  same : found ≡ request

issued : (old : OwnRequests Request) (request : Request) (new : OwnRequests Request) → IssuesNext old request new → (number : ℕ) (found : Request) → map.get new.outstanding number ≡ Some found
    → IsIssued old request number found ⊎ (map.get old.outstanding number ≡ Some found)
issued old request new is number found there =
    let ready : map.get is.ready.outstanding number ≡ map.get old.outstanding number = ap (λ (o : OwnRequests Request). map.get o.outstanding number) is.prepared.content in
    let now : map.get (map.insert is.ready.outstanding old.next request) number ≡ Some found = sym (ap (λ (o : OwnRequests Request). map.get o.outstanding number) is.issued.content) ∙ there in
    elim (eqb_tells number old.next) [
      | inl (_, same) ↦ inl (record { number_is = same; same = same_Some found request (sym now ∙ put_there is.ready.outstanding old.next number request same) })
      | inr (_, apart) ↦ inr (sym ready ∙ sym (put_beside is.ready.outstanding old.next number request apart) ∙ now)
    ]

-- ---- the step

-- the IKE SA sends the request with this Message ID, under fresh octets for sealing
pub record Sends {C : Type 0} (meaning : Meaning) (serial number : ℕ) (request : Request) (p : Passage C) : Type 0 where
  pub setup : Setup
  pub seal : HasSeal setup.fresh
  pub old : Association
  pub new : Association
  pub its : association_in p.before serial ≡ Some old
  pub octets : Octets
  pub octets_are : octets ≡ request.octets
  pub sends : SendsRequest meaning.body_of setup old octets new
  pub number_is : number ≡ old.outgoing.next
  pub purpose : request.purpose ≡ sends.purpose

same_serial : (one two : ℕ) (octets others : Octets) → output.Request one octets ≡ output.Request two others → one ≡ two
same_serial one two octets others is = cc

same_octets : (one two : ℕ) (octets others : Octets) → output.Request one octets ≡ output.Request two others → octets ≡ others
same_octets one two octets others is = cc

module _ {C : Type 0} (meaning_of : C → Meaning) (serial number : ℕ) (request : Request) (p : Passage C) (is : IsPassage meaning_of p) (out : GoesOutFirst serial number request p) where
  -- by the IKE SA that asks
  by_asking : (setup : Setup) (own : ℕ) (stepped : Stepped) → HasSeal setup.fresh → p.said ≡ view_of_ike stepped.output
      → AsksAt (meaning_of p.before.caller).body_of setup own p.before.machine.held stepped p.after.machine.held → Sends (meaning_of p.before.caller) serial number request p
  by_asking setup own stepped seal said asks =
      let told : output.Request own asks.octets ≡ output.Request serial request.octets = sym (said ∙ ap (λ (s : Stepped). view_of_ike s.output) asks.said) ∙ out.said in
      let named : own ≡ serial = same_serial own serial asks.octets request.octets told in
      let first : position (has_serial serial) p.before.machine.held.associations ≡ Some asks.place = ap (λ (n : ℕ). position (has_serial n) p.before.machine.held.associations) (sym named) ∙ asks.first in
      let its : association_in p.before serial ≡ Some asks.association = found_there serial p.before.machine.held.associations asks.place asks.association first asks.there in
      let serial_is : asks.association.serial ≡ serial = eqb-true asks.association.serial serial (found serial p.before.machine.held.associations asks.association its).named in
      let changed : asks.changed.serial ≡ serial = ap (λ (a : Association). a.serial) asks.sends.content ∙ serial_is in
      let after : association_in p.after serial ≡ Some asks.changed =
      ap (λ (h : Held). association_of serial h.associations) asks.content ∙ found_changed serial p.before.machine.held.associations asks.place asks.changed first changed in
      let waits : map.get asks.sends.outgoing.outstanding number ≡ Some request =
      ap (λ (a : Association). map.get a.outgoing.outstanding number) (sym asks.sends.content)
      ∙ ap (λ (a : Association). map.get a.outgoing.outstanding number) (sym (same_one out.waits.association asks.changed (sym out.waits.there ∙ after))) ∙ out.waits.waits in
      elim (issued asks.association.outgoing _ asks.sends.outgoing asks.sends.issued number request waits) [
        | inl new ↦ record {
          setup = setup;
          seal = seal;
          old = asks.association;
          new = asks.changed;
          its = its;
          octets = asks.octets;
          octets_are = same_octets own serial asks.octets request.octets told;
          sends = asks.sends;
          number_is = new.number_is;
          purpose = ap (λ (r : Request). r.purpose) new.same;
        }
        | inr before ↦ absurd (out.first request (record { association = asks.association; there = its; waits = before }))
      ]

  refused : (why : Reason) → p.said ≡ output.Refused why → Sends (meaning_of p.before.caller) serial number request p
  refused why said = absurd (let wrong : output.Refused why ≡ output.Request serial request.octets = sym said ∙ out.said in cc)

  by_order : (what : orders.OrderView) (fresh : Fresh) → HasSeal fresh
      → StepsIke (meaning_of p.before.caller) p.before.entries (ike.Order what fresh) p.before.machine p.before.table p.said is.steps.trace p.after.machine p.after.table
      → Sends (meaning_of p.before.caller) serial number request p
  by_order (orders.Probe own) fresh seal (inl answers) = by_asking (setup_at p.before.machine p.before.entries fresh) own answers.stepped seal answers.output answers.steps.1.asks
  by_order (orders.DeleteChild child) fresh seal (inl answers) =
      by_asking (setup_at p.before.machine p.before.entries fresh) answers.steps.1.pair.ike answers.stepped seal answers.output answers.steps.1.asks.asks
  by_order (orders.DeleteIke own) fresh seal (inl answers) = by_asking (setup_at p.before.machine p.before.entries fresh) own answers.stepped seal answers.output answers.steps.1.asks
  by_order what fresh seal (inr refuses) = refused _ refuses.output

  by_start : (own place : ℕ) (fresh : Fresh) → HasSeal fresh
      → StepsIke (meaning_of p.before.caller) p.before.entries (ike.Start (Some own) place fresh) p.before.machine p.before.table p.said is.steps.trace p.after.machine p.after.table
      → Sends (meaning_of p.before.caller) serial number request p
  by_start own place fresh seal (inl answers) = by_asking (setup_at p.before.machine p.before.entries fresh) own answers.stepped seal answers.output answers.steps.1.asks.asks
  by_start own place fresh seal (inr refuses) = refused _ refuses.output

  by_input : (given : Input) → is_asking given ≡ true → IsFreshlyGiven (for_ike given)
      → DoesInput (meaning_of p.before.caller) p.before.entries given p.before.machine p.before.table p.said is.steps.trace p.after.machine p.after.table
      → Sends (meaning_of p.before.caller) serial number request p
  by_input (input.Ike from octets fresh) asked seal does = absurd cc
  by_input (input.Start None place fresh) asked seal does = absurd cc
  by_input (input.Start (Some own) place fresh) asked seal does = by_start own place fresh seal does
  by_input (input.Probe own fresh) asked seal does = by_order (orders.Probe own) fresh seal does
  by_input (input.DeleteChild child fresh) asked seal does = by_order (orders.DeleteChild child) fresh seal does
  by_input (input.DeleteIke own fresh) asked seal does = by_order (orders.DeleteIke own) fresh seal does
  by_input (input.Secret secret) asked seal does = absurd cc
  by_input (input.Tick moment) asked seal does = absurd cc
  by_input (input.Esp octets) asked seal does = absurd cc
  by_input (input.Outward packet) asked seal does = absurd cc
  by_input (input.Inward packet) asked seal does = absurd cc

  pub sends : IsFreshlyGiven (for_ike p.given) → Sends (meaning_of p.before.caller) serial number request p
  sends seal = by_input p.given out.asked seal is.steps.traces.does

-- ---- as what it opens at the other end

keys_by_role : (role : Role) (keys : KeyRecord) → AreWholeKeys keys → AreKeys (keys_of role keys)
keys_by_role Initiator keys whole = whole.initiator
keys_by_role Responder keys whole = whole.responder

pub from_other : (own other : Role) → other ≡ other_role own → sent_by_other other (is_initiator own) ≡ true
from_other Initiator other is = ap (λ (r : Role). sent_by_other r true) is
from_other Responder other is = ap (λ (r : Role). sent_by_other r false) is

pub back_again : (own other : Role) → other ≡ other_role own → other_role other ≡ own
back_again Initiator other is = ap other_role is
back_again Responder other is = ap other_role is

its_spis : (a b : Association) → b.spi_i ≡ a.spi_i → b.spi_r ≡ a.spi_r → (b.spi_i == a.spi_i && b.spi_r == a.spi_r) ≡ true
its_spis a b one other = ap (λ (u : Bool). u && (b.spi_r == a.spi_r)) (eq-eqb b.spi_i a.spi_i one) ∙ eq-eqb b.spi_r a.spi_r other

pub opens_there : (body_of : Keys → Octets → Octets → Octets → Octets) (plain_of : Opening) (setup : Setup) (a new b : Association) (octets : Octets) (sends : SendsRequest body_of setup a octets new)
    → OpensWhatItSeals body_of plain_of setup.fresh.seal → HoldsWholeKeys a.phase → AreEndsOfOne a b → OpensAs plain_of b octets (exchange_of sends.purpose) a.outgoing.next
opens_there body_of plain_of setup a new b octets sends opens whole ends =
    let established : keys_in a.phase ≡ Some sends.keys = ap keys_in sends.established in
    let m = request_message a (exchange_of sends.purpose) a.outgoing.next sends.payloads in
    let o : OpensAgain plain_of (keys_of a.role sends.keys) m octets = opens.again (keys_of a.role sends.keys) m octets (keys_by_role a.role sends.keys (whole sends.keys established)) sends.clear sends.sealed in
    record {
      message = record { header = m.header; payloads = o.sealed ∷ [] };
      spelled = o.spelled;
      spis = its_spis a b ends.spi_i ends.spi_r;
      from_peer = from_other a.role b.role ends.roles;
      request = refl;
      exchange_is = refl;
      number_is = refl;
      plain = o.plain;
      opened =
          ap (λ (k : Option KeyRecord). opened_under plain_of b.role k octets (o.sealed ∷ [])) (ends.other_keyed ∙ sym ends.one_keyed ∙ established)
          ∙ ap (λ (r : Role). plain_of_message plain_of (keys_of r sends.keys) octets (o.sealed ∷ [])) (back_again a.role b.role ends.roles)
          ∙ o.opens;
    }

-- it is of no exchange in which an IKE SA begins
pub not_initial : (purpose : Purpose) → IsAskedLater purpose → exchange_of purpose ≢ IKE_SA_INIT
not_initial purpose (inl is) same = absurd (omega (arith, is, same))
not_initial purpose (inr is) same = absurd (omega (arith, is, same))
