-- A request of this end at an established IKE SA: how long it is, and that it goes out in one way.
use Rattle.std.proofs.Common.{◌≡◌, ℕ, List, ap, subst, sym, ◌∙◌}
use Rattle.base.specs.Octets.{Octets}
use Rattle.base.specs.declared.selector.Selector.{Selector}
use Rattle.wire.specs.Numbers.{CREATE_CHILD_SA, INFORMATIONAL}
use Rattle.wire.specs.declared.message.Message.{Message}
use Rattle.wire.specs.declared.payload.Payload.{Payload}
use Rattle.suite.specs.declared.key_record.KeyRecord.{KeyRecord}
use Rattle.suite.specs.declared.keys.Keys.{Keys}
use Rattle.exchange.specs.Headers.{keys_of}
use Rattle.exchange.specs.Sealed.{IsSealed, TellsLength}
use Rattle.requests.specs.Contents.{outgoing_content}
use Rattle.requests.specs.Outgoing.{OwnRequests}
use Rattle.sadb.specs.Contents.{table_content}
use Rattle.sadb.specs.Database.{Database, IsAsBefore, Reserves}
use Rattle.association.specs.AskedChildren.{asked_of}
use Rattle.association.specs.Contents.{association_content}
use Rattle.association.specs.Phases.{keys_in}
use Rattle.association.specs.declared.phase.Association.{Association}
use Rattle.association.specs.declared.phase.Phase.{Phase}
use Rattle.association.specs.declared.phase.Phase.TheVariants as phase
use Rattle.association.specs.declared.phase.Request.{Request}
use Rattle.association.specs.declared.purpose.FurtherChild.{FurtherChild}
use Rattle.association.specs.declared.purpose.Purpose.{Purpose}
use Rattle.association.specs.declared.purpose.Purpose.TheVariants.{CreateChild}
use Rattle.children.specs.Asking.{child_request}
use Rattle.association.specs.Issuing.{with_outgoing, new_request, IssuesNext}
use Rattle.setup.specs.Configs.{Setup}
use Rattle.informational.specs.Asking.{Asks}
use Rattle.association.specs.Sending.{request_message}
use Rattle.informational.specs.Ordering.{payloads_of_order, purpose_of}
use Rattle.informational.specs.declared.ordering.Order.{Order}
use Rattle.further.specs.Payloads.{further_payloads}
use Rattle.create_child.specs.Asking.{wanted, AsksForFurther}
use Rattle.effects.specs.Keeping.{IsShort, KeepsShort}
use Rattle.effects.specs.Lengths.{AreWholeKeys, HoldsWholeKeys, TellsLengths}
use Rattle.effects.specs.Sending.{SendsRequest}
use Rattle.effects.proofs.DeterminedLaws.{OutgoingLaws}
use Rattle.effects.proofs.DeterminedReadings.{keys_by_role, one_issue}
use Rattle.effects.proofs.KeepingLemmas.{issued_short}

same_keys : (p : Phase) (one other : KeyRecord) → p ≡ phase.Established one → p ≡ phase.Established other → one ≡ other
same_keys p one other is also = cc

pub requested_short : (body_of : Keys → Octets → Octets → Octets → Octets) (setup : Setup) (old : Association) (octets : Octets) (new : Association)
    → KeepsShort old → SendsRequest body_of setup old octets new → KeepsShort new × IsShort octets
requested_short body_of setup old octets new short is =
    let kept : KeepsShort (with_outgoing old is.outgoing) = record {
      replies = short.replies;
      requests = issued_short old.outgoing (new_request octets is.purpose setup.moment) is.outgoing short.requests is.sealed.whole.limit is.issued;
      first = short.first;
    } in
    (subst (λ (a : Association). KeepsShort a) (sym is.content) kept, is.sealed.whole.limit)

-- what is known of how requests are sealed and issued
pub record ProbeLaws : Type 0 where
  pub sealing : (body_of : Keys → Octets → Octets → Octets → Octets) (keys : Keys) (fresh : Octets) (m : Message) (a b : Octets)
      → TellsLength body_of keys fresh → IsSealed body_of keys fresh m a → IsSealed body_of keys fresh m b → a ≡ b
  pub outgoing : OutgoingLaws

-- one request, of the same payloads and for the same purpose
module _ (laws : ProbeLaws) (body_of : Keys → Octets → Octets → Octets → Octets) (setup : Setup) (exchange : ℕ) (payloads : List Payload) (purpose : Purpose) (old other : Association) (same : association_content old ≡ association_content other) (keys : KeyRecord) where
  abbrev Sealed : Association → Octets → Type 0
  Sealed a octets = IsSealed body_of (keys_of a.role keys) setup.fresh.seal (request_message a exchange a.outgoing.next payloads) octets

  one_sealing : TellsLengths body_of setup.fresh.seal → AreWholeKeys keys → (one two : Octets) → Sealed old one → Sealed other two → one ≡ two
  one_sealing tells whole one two is also =
      laws.sealing body_of (keys_of old.role keys) setup.fresh.seal (request_message old exchange old.outgoing.next payloads) one two
      (tells.told (keys_of old.role keys) (keys_by_role old.role keys whole)) is (subst (λ (z : Association). Sealed z two) (sym same) also)

  one_sending : (one two : Octets) (mine yours : OwnRequests Request) (a b : Association) → one ≡ two → IssuesNext old.outgoing (new_request one purpose setup.moment) mine → IssuesNext other.outgoing (new_request two purpose setup.moment) yours
      → a ≡ with_outgoing old mine → b ≡ with_outgoing other yours → association_content a ≡ association_content b
  one_sending one two mine yours a b octets is also content too =
      let issued : IssuesNext other.outgoing (new_request one purpose setup.moment) yours = subst (λ (x : Octets). IssuesNext other.outgoing (new_request x purpose setup.moment) yours) (sym octets) also in
      let outgoing : outgoing_content mine ≡ outgoing_content yours =
      one_issue laws.outgoing old.outgoing other.outgoing mine yours (new_request one purpose setup.moment) (ap (λ (z : Association). z.outgoing) same) is issued in
      ap association_content content
      ∙ ap (λ (z : Association). record z { outgoing = outgoing_content mine }) same
      ∙ ap (λ (r : OwnRequests Request). record (association_content other) { outgoing = r }) outgoing
      ∙ sym (ap association_content too)

pub one_probe : ProbeLaws → (body_of : Keys → Octets → Octets → Octets → Octets) (setup : Setup) (order : Order) (old other a b : Association) (one two : Octets)
    → TellsLengths body_of setup.fresh.seal → HoldsWholeKeys old.phase → association_content old ≡ association_content other
    → Asks body_of setup order old one a → Asks body_of setup order other two b → (one ≡ two) × (association_content a ≡ association_content b)
one_probe laws body_of setup order old other a b one two tells whole same is also =
    let keys : also.keys ≡ is.keys = same_keys other.phase also.keys is.keys also.established (sym (ap (λ (z : Association). z.phase) same) ∙ is.established) in
    let sealed : IsSealed body_of (keys_of other.role is.keys) setup.fresh.seal (request_message other INFORMATIONAL other.outgoing.next (payloads_of_order order)) two =
    subst (λ (k : KeyRecord). IsSealed body_of (keys_of other.role k) setup.fresh.seal (request_message other INFORMATIONAL other.outgoing.next (payloads_of_order order)) two) keys also.sealed in
    let octets : one ≡ two = one_sealing laws body_of setup INFORMATIONAL (payloads_of_order order) (purpose_of order) old other same is.keys tells (whole is.keys (ap keys_in is.established)) one two is.sealed sealed in (
      octets,
      one_sending laws body_of setup INFORMATIONAL (payloads_of_order order) (purpose_of order) old other same is.keys one two is.outgoing also.outgoing a b octets is.issued also.issued is.content also.content,
    )

-- what is known of the table beside it
pub record FurtherLaws : Type 0 where
  pub prepared : (old new : Database) → IsAsBefore old new → table_content new ≡ table_content old
  pub reserved : (old other a b : Database) (spi mark : ℕ) → table_content old ≡ table_content other → Reserves old spi a → Reserves other mark b → (spi ≡ mark) × (table_content a ≡ table_content b)

pub one_further : ProbeLaws → FurtherLaws → (body_of : Keys → Octets → Octets → Octets → Octets) (setup : Setup) (local remote : Selector) (old other a b : Association) (table another a_table b_table : Database) (one two : Octets)
    → TellsLengths body_of setup.fresh.seal → HoldsWholeKeys old.phase → association_content old ≡ association_content other → table_content table ≡ table_content another
    → AsksForFurther body_of setup local remote old table one a a_table → AsksForFurther body_of setup local remote other another two b b_table
    → (one ≡ two) × (association_content a ≡ association_content b) × (table_content a_table ≡ table_content b_table)
one_further laws tables body_of setup local remote old other a b table another a_table b_table one two tells whole same alike is also =
    let keys : also.keys ≡ is.keys = same_keys other.phase also.keys is.keys also.established (sym (ap (λ (z : Association). z.phase) same) ∙ is.established) in
    let between : table_content is.between ≡ table_content also.between = tables.prepared table is.between is.room ∙ alike ∙ sym (tables.prepared another also.between also.room) in
    let reserved = tables.reserved is.between also.between a_table b_table is.spi also.spi between is.reserved also.reserved in
    let asked : FurtherChild = wanted setup is.spi local remote in
    let payloads : List Payload = further_payloads (child_request (asked_of asked.child)) setup.fresh.nonce in
    let by_keys : IsSealed body_of (keys_of other.role is.keys) setup.fresh.seal (request_message other CREATE_CHILD_SA other.outgoing.next (further_payloads (child_request (asked_of (wanted setup also.spi local remote).child)) setup.fresh.nonce)) two =
    subst (λ (k : KeyRecord). IsSealed body_of (keys_of other.role k) setup.fresh.seal (request_message other CREATE_CHILD_SA other.outgoing.next (further_payloads (child_request (asked_of (wanted setup also.spi local remote).child)) setup.fresh.nonce)) two) keys also.sealed in
    let sealed : IsSealed body_of (keys_of other.role is.keys) setup.fresh.seal (request_message other CREATE_CHILD_SA other.outgoing.next payloads) two =
    subst (λ (s : ℕ). IsSealed body_of (keys_of other.role is.keys) setup.fresh.seal (request_message other CREATE_CHILD_SA other.outgoing.next (further_payloads (child_request (asked_of (wanted setup s local remote).child)) setup.fresh.nonce)) two) (sym reserved.0) by_keys in
    let issued : IssuesNext other.outgoing (new_request two (CreateChild asked) setup.moment) also.outgoing =
    subst (λ (s : ℕ). IssuesNext other.outgoing (new_request two (CreateChild (wanted setup s local remote)) setup.moment) also.outgoing) (sym reserved.0) also.issued in
    let octets : one ≡ two = one_sealing laws body_of setup CREATE_CHILD_SA payloads (CreateChild asked) old other same is.keys tells (whole is.keys (ap keys_in is.established)) one two is.sealed sealed in (
      octets,
      one_sending laws body_of setup CREATE_CHILD_SA payloads (CreateChild asked) old other same is.keys one two is.outgoing also.outgoing a b octets is.issued issued is.content also.content,
      reserved.1,
    )
