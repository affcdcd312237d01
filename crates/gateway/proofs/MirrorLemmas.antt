-- The Child SAs of one request that both ends made mirror each other.
use Rattle.std.proofs.Common.{◌≡◌, ℕ, Bool, true, false, List, [], ◌∷◌, Some, refl, sym, ap, subst, ◌∙◌, arith}
use Rattle.base.specs.Octets.{Octets}
use Rattle.wire.specs.declared.payload.Payload.{Payload}
use Rattle.wire.specs.declared.proposal.Proposal.{Proposal}
use Rattle.suite.specs.declared.key_record.KeyRecord.{KeyRecord}
use Rattle.suite.specs.declared.keys.Keys.{Keys}
use Rattle.exchange.specs.Counting.{only_sa}
use Rattle.exchange.specs.declared.headers.Role.TheVariants.{Initiator, Responder}
use Rattle.sadb.specs.Mirrors.{Mirrors}
use Rattle.sadb.specs.declared.pair.Pair.{Pair}
use Rattle.association.specs.Receiving.{Opening}
use Rattle.children.specs.Pairs.{IsChild}
use Rattle.further.specs.Pairs.{IsFurtherChild}
use Rattle.suite.specs.Keys.{first_child_keys}
use Rattle.effects.specs.Children.{exchange_of_child, ChildKind, First, Further, IsChildOf}
use Rattle.ike.specs.Payloads.{OpensToItself, OpensToPayloads, SealsPayloads}
use Rattle.gateway.specs.WorldChildren.{AccountsForChildren, AreOfOneRequest, ChildrenMirror, IsStoredOf, MirrorEachOther, WasAnsweredFor, WasAskedFor, WasMade}
use Rattle.gateway.specs.WorldParties.{HasSent}
use Rattle.gateway.specs.WorldPromises.{EndsAgree}
use Rattle.gateway.specs.Worlds.{other_end, simplex_of, WorldState}
use Rattle.gateway.specs.declared.world.stored.Child.{Child}
use Rattle.gateway.specs.declared.world.stored.End.{End}
use Rattle.gateway.specs.declared.world.stored.End.TheVariants.{A, B}
use Rattle.gateway.specs.declared.world.stored.Simplex.{Simplex}

-- what is known of the pairs of both ends
pub record MirrorLaws : Type 0 where
  pub first : (keys : List (List ℕ)) (request reply : List Payload) (proposal : Proposal) (a b : Pair) → only_sa request ≡ Some (proposal ∷ [])
      → IsChild Initiator keys request reply a → IsChild Responder keys request reply b → Mirrors a b
  pub further : (keys : KeyRecord) (request reply : List Payload) (proposal : Proposal) (a b : Pair) → only_sa request ≡ Some (proposal ∷ [])
      → IsFurtherChild Initiator keys request reply a → IsFurtherChild Responder keys request reply b → Mirrors a b

mirrored : MirrorLaws → (kind : ChildKind) (keys : KeyRecord) (request reply : List Payload) (proposal : Proposal) (a b : Pair) → only_sa request ≡ Some (proposal ∷ [])
    → IsChildOf kind Initiator keys request reply a → IsChildOf kind Responder keys request reply b → Mirrors a b
mirrored laws First keys request reply proposal a b offers asked answered = laws.first (first_child_keys keys) request reply proposal a b offers asked answered
mirrored laws Further keys request reply proposal a b offers asked answered = laws.further keys request reply proposal a b offers asked answered

same_kind : (one other : ChildKind) → exchange_of_child one ≡ exchange_of_child other → one ≡ other
same_kind First First is = refl
same_kind Further Further is = refl
same_kind First Further is = absurd (omega (arith, is))
same_kind Further First is = absurd (omega (arith, is))

other_twice : (end : End) → other_end (other_end end) ≡ end
other_twice A = refl
other_twice B = refl

stored_mirror : (one other : Child) (a b : Pair) → IsStoredOf one a → IsStoredOf other b → Mirrors a b → MirrorEachOther one other
stored_mirror one other a b first second is = record {
  inward = first.inbound ∙ ap simplex_of is.inward ∙ sym second.outbound;
  outward = first.outbound ∙ ap simplex_of is.outward ∙ sym second.inbound;
  extension = ap (λ (s : Simplex). s.extended) first.inbound ∙ is.extension ∙ sym (ap (λ (s : Simplex). s.extended) first.outbound);
  local = first.local ∙ is.local ∙ sym second.remote;
  remote = first.remote ∙ is.remote ∙ sym second.local;
}

module _ {C : Type 0} (laws : MirrorLaws) (body_of : Keys → Octets → Octets → Octets → Octets) (plain_of : Opening) (opens : OpensToItself body_of plain_of) (keys : KeyRecord) (w : WorldState C) (ends : EndsAgree keys w) where
  one_mirror : (asked answered : Child) → asked.keys ≡ keys → AreOfOneRequest asked answered → WasAskedFor body_of plain_of asked w.stored → WasAnsweredFor body_of plain_of answered w.stored → MirrorEachOther asked answered
  one_mirror asked answered under one a b =
      let end = asked.end in
      let number = asked.number in
      let keyed : answered.keys ≡ keys = one.keys ∙ under in
      let there : other_end answered.end ≡ end = ap other_end one.ends ∙ other_twice end in
      let a_request : HasSent end keys false number a.request w.stored = subst (λ (k : KeyRecord). HasSent end k false number a.request w.stored) under a.requested in
      let a_response : HasSent (other_end end) keys true number a.response w.stored = subst (λ (k : KeyRecord). HasSent (other_end end) k true number a.response w.stored) under a.responded in
      let b_request : HasSent end keys false number b.request w.stored =
      subst (λ (x : End). HasSent x keys false number b.request w.stored) there
      (subst (λ (k : KeyRecord). HasSent (other_end answered.end) k false number b.request w.stored) keyed
      (subst (λ (n : ℕ). HasSent (other_end answered.end) answered.keys false n b.request w.stored) one.number b.requested)) in
      let b_response : HasSent (other_end end) keys true number b.response w.stored =
      subst (λ (x : End). HasSent x keys true number b.response w.stored) one.ends
      (subst (λ (k : KeyRecord). HasSent answered.end k true number b.response w.stored) keyed
      (subst (λ (n : ℕ). HasSent answered.end answered.keys true n b.response w.stored) one.number b.responded)) in
      let request : b.request ≡ a.request = ends.once end false number b.request a.request b_request a_request in
      let response : b.response ≡ a.response = ends.once (other_end end) true number b.response a.response b_response a_response in
      let a_sealed : SealsPayloads body_of keys (exchange_of_child a.kind) false number a.asks a.request = subst (λ (k : KeyRecord). SealsPayloads body_of k (exchange_of_child a.kind) false number a.asks a.request) under a.sealed in
      let a_opened : OpensToPayloads plain_of keys (exchange_of_child a.kind) true number a.answers a.response = subst (λ (k : KeyRecord). OpensToPayloads plain_of k (exchange_of_child a.kind) true number a.answers a.response) under a.opened in
      let b_opened : OpensToPayloads plain_of keys (exchange_of_child b.kind) false number b.asks a.request =
      subst (λ (o : Octets). OpensToPayloads plain_of keys (exchange_of_child b.kind) false number b.asks o) request
      (subst (λ (n : ℕ). OpensToPayloads plain_of keys (exchange_of_child b.kind) false n b.asks b.request) one.number
      (subst (λ (k : KeyRecord). OpensToPayloads plain_of k (exchange_of_child b.kind) false answered.number b.asks b.request) keyed b.opened)) in
      let b_sealed : SealsPayloads body_of keys (exchange_of_child b.kind) true number b.answers a.response =
      subst (λ (o : Octets). SealsPayloads body_of keys (exchange_of_child b.kind) true number b.answers o) response
      (subst (λ (n : ℕ). SealsPayloads body_of keys (exchange_of_child b.kind) true n b.answers b.response) one.number
      (subst (λ (k : KeyRecord). SealsPayloads body_of k (exchange_of_child b.kind) true answered.number b.answers b.response) keyed b.sealed)) in
      let asks = opens keys (exchange_of_child a.kind) (exchange_of_child b.kind) false number a.asks b.asks a.request a_sealed b_opened in
      let answers = opens keys (exchange_of_child b.kind) (exchange_of_child a.kind) true number b.answers a.answers a.response b_sealed a_opened in
      let kind : b.kind ≡ a.kind = same_kind b.kind a.kind (sym asks.exchange_is) in
      let a_is : IsChildOf a.kind Initiator keys a.asks a.answers a.pair = subst (λ (k : KeyRecord). IsChildOf a.kind Initiator k a.asks a.answers a.pair) under a.is in
      let b_is : IsChildOf a.kind Responder keys a.asks a.answers b.pair =
      subst (λ (r : List Payload). IsChildOf a.kind Responder keys a.asks r b.pair) answers.payloads_are
      (subst (λ (q : List Payload). IsChildOf a.kind Responder keys q b.answers b.pair) (sym asks.payloads_are)
      (subst (λ (c : ChildKind). IsChildOf c Responder keys b.asks b.answers b.pair) kind
      (subst (λ (k : KeyRecord). IsChildOf b.kind Responder k b.asks b.answers b.pair) keyed b.is))) in
      stored_mirror asked answered a.pair b.pair a.stored_of b.stored_of (mirrored laws a.kind keys a.asks a.answers a.proposal a.pair b.pair a.offers a_is b_is)

  pub children_mirror : AccountsForChildren body_of plain_of keys w w.stored → ChildrenMirror keys w
  children_mirror known asked answered first second under one =
      one_mirror asked answered under one
      (subst (λ (b : Bool). WasMade b body_of plain_of asked w.stored) one.asked_is (known.made asked first under))
      (subst (λ (b : Bool). WasMade b body_of plain_of answered w.stored) one.answered_is (known.made answered second (one.keys ∙ under)))
