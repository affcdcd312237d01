-- How an initiator goes on by the response to IKE_SA_INIT is determined, and how IKE SAs begin, but for spare
-- capacity.
use Rattle.std.proofs.Common.{◌≡◌, ◌+◌, ℕ, Option, Some, None, refl, sym, ap, subst, ◌∙◌}
use Rattle.std.specs.Borrow.{Bor}
use Rattle.std.specs.FinMap as map
use Rattle.base.specs.Octets.{Octets}
use Rattle.wire.specs.Messages.{SpellsPlainly}
use Rattle.wire.specs.declared.message.Message.{Message}
use Rattle.suite.specs.declared.fresh.Fresh.{Fresh}
use Rattle.suite.specs.declared.key_record.KeyRecord.{KeyRecord}
use Rattle.suite.specs.declared.sealer.Cipher.{Cipher}
use Rattle.suite.specs.Sealing.{AreKeys}
use Rattle.exchange.specs.Headers.{keys_of}
use Rattle.exchange.specs.Sealed.{IsSealed}
use Rattle.exchange.specs.declared.headers.Role.{Role}
use Rattle.exchange.specs.declared.headers.Role.TheVariants.{Initiator, Responder}
use Rattle.requests.specs.Contents.{outgoing_content}
use Rattle.requests.specs.Incoming.{no_requests}
use Rattle.requests.specs.Outgoing.{none_issued, number_0_answered, OwnRequests, ReplacesRequest}
use Rattle.sa_init.specs.Judging.{OfferView}
use Rattle.sa_init.specs.Messages.{request_message}
use Rattle.sa_init.specs.Reading.{GivesKeys, IsResponse, IsSameResponse, WaitingView}
use Rattle.sa_init.specs.declared.answers.Agreed.{Agreed}
use Rattle.sa_init.specs.declared.response.Response.{Response}
use Rattle.sa_init.specs.declared.response.Response.TheVariants as response
use Rattle.association.specs.Contents.{association_content}
use Rattle.association.specs.AskedChildren.{AskedChildView}
use Rattle.association.specs.declared.phase.Association.{Association}
use Rattle.association.specs.declared.phase.InitSent.{InitSent}
use Rattle.association.specs.declared.phase.Phase.{Phase}
use Rattle.association.specs.declared.phase.Phase.TheVariants as phase
use Rattle.association.specs.declared.phase.Request.{Request}
use Rattle.association.specs.declared.purpose.Purpose.TheVariants.{Begin, Identify}
use Rattle.association.specs.Admitting.{half_open, Admits}
use Rattle.initial.specs.Beginning.{begun, Begins}
use Rattle.setup.specs.Configs.{Setup}
use Rattle.association.specs.Issuing.{new_request, IssuesNext}
use Rattle.effects.specs.Lengths.{AreWholeKeys, TellsLengths}
use Rattle.initial.specs.Reading.{identity_message, waiting_of, Asker, BringsCookie, Continues, ReadsResponse, TellsIdentity}
use Rattle.association.specs.declared.admitting.Admitted.{Admitted}
use Rattle.initial.specs.declared.beginning.Beginning.{Beginning}
use Rattle.initial.specs.declared.reading.Continued.{Continued}
use Rattle.initial.specs.declared.reading.Continued.TheVariants as continued
use Rattle.effects.proofs.DeterminedLaws.{InitLaws, KeyLaws, MessageLaws, OneSpelling, OutgoingLaws}

-- ---- requests as they are issued

pub one_issue : OutgoingLaws → (old other a b : OwnRequests Request) (request : Request) → outgoing_content old ≡ outgoing_content other → IssuesNext old request a → IssuesNext other request b → outgoing_content a ≡ outgoing_content b
one_issue laws old other a b request same is also =
    laws.issued is.ready also.ready a b request old.next other.next (laws.prepared old is.ready is.prepared ∙ same ∙ sym (laws.prepared other also.ready also.prepared)) is.issued also.issued

-- ---- IKE SAs as they begin

begun_alike : (serial : ℕ) (child : AskedChildView) (a b : Beginning) → outgoing_content a.outgoing ≡ outgoing_content b.outgoing → a.spi_i ≡ b.spi_i → a.secret ≡ b.secret → a.nonce ≡ b.nonce
    → association_content (begun serial a child) ≡ association_content (begun serial b child)
begun_alike serial child a b outgoing spi secret nonce = λ i. record {
  serial = serial;
  role = Initiator;
  spi_i = spi i;
  spi_r = 0;
  incoming = no_requests;
  outgoing = outgoing i;
  phase = phase.InitSent (record { secret = secret i; nonce = nonce i; cookie = None; cookies_taken = 0; child = child });
}

pub one_beginning : OneSpelling → OutgoingLaws → (cipher : Cipher) (group : ℕ) (public_value : Octets → Octets) (fresh : Fresh) (moment serial : ℕ) (child : AskedChildView) (a b : Beginning)
    → Begins cipher group public_value fresh moment a → Begins cipher group public_value fresh moment b
    → (a.octets ≡ b.octets) × (association_content (begun serial a child) ≡ association_content (begun serial b child))
one_beginning spelling numbers cipher group public_value fresh moment serial child a b is also =
    let octets : a.octets ≡ b.octets = spelling (request_message cipher group (public_value fresh.secret) fresh.spi None fresh.nonce) a.octets b.octets is.spelled also.spelled in
    let issued : IssuesNext none_issued (new_request a.octets Begin moment) b.outgoing = subst (λ (x : Octets). IssuesNext none_issued (new_request x Begin moment) b.outgoing) (sym octets) also.issued in
    let outgoing : outgoing_content a.outgoing ≡ outgoing_content b.outgoing = one_issue numbers none_issued none_issued a.outgoing b.outgoing (new_request a.octets Begin moment) refl is.issued issued in
    (octets, begun_alike serial child a b outgoing (is.spi ∙ sym also.spi) (is.secret ∙ sym also.secret) (is.nonce_is ∙ sym also.nonce_is))

pub one_admission : InitLaws → (cipher : Cipher) (group : ℕ) (public_value : Octets → Octets) (shared_secret : Octets → Octets → Option Octets) (fresh : Fresh) (moment serial : ℕ) (offer : OfferView) (spi_i : ℕ) (request : Octets) (a b : Admitted)
    → Admits cipher group public_value shared_secret fresh moment serial offer spi_i request a → Admits cipher group public_value shared_secret fresh moment serial offer spi_i request b → a ≡ b
one_admission laws cipher group public_value shared_secret fresh moment serial offer spi_i request a b is also =
    let agreed = laws.answer cipher group public_value shared_secret offer spi_i fresh is.agreed also.agreed is.answer also.answer in
    let association : a.association ≡ b.association =
    is.content ∙ ap (λ (x : Agreed). half_open serial spi_i fresh.spi x.record request x.octets moment) agreed ∙ sym also.content in
    let octets : a.octets ≡ b.octets = is.octets ∙ ap (λ (x : Agreed). x.octets) agreed ∙ sym also.octets in
    λ i. record { association = association i; octets = octets i }

-- ---- the response to IKE_SA_INIT

same_sent : (p : Phase) (one other : InitSent) → p ≡ phase.InitSent one → p ≡ phase.InitSent other → one ≡ other
same_sent p one other is also = cc

same_request : (o : Option Request) (one other : Request) → o ≡ Some one → o ≡ Some other → one ≡ other
same_request o one other is also = cc

whole_keys : KeyLaws → (cipher : Cipher) (group : ℕ) (shared_secret : Octets → Octets → Option Octets) (sent : WaitingView) (m : Message) (keys : KeyRecord) → GivesKeys cipher group shared_secret sent m keys → AreWholeKeys keys
whole_keys laws cipher group shared_secret sent m keys is =
    let nr = is.parts.nonce in
    subst AreWholeKeys (sym is.made) (record {
      initiator = laws.initiator is.shared sent.nonce nr sent.spi_i m.header.spi_r;
      responder = laws.responder is.shared sent.nonce nr sent.spi_i m.header.spi_r;
    })

pub keys_by_role : (role : Role) (keys : KeyRecord) → AreWholeKeys keys → AreKeys (keys_of role keys)
keys_by_role Initiator keys is = is.initiator
keys_by_role Responder keys is = is.responder

-- how it is gone on, and what is held then
pub record SameGoing (c d : Continued) (a b : Association) : Type 0 where
  pub continued_is : c ≡ d
  pub association : association_content a ≡ association_content b

module _ (messages : MessageLaws) (numbers : OutgoingLaws) (asker : Asker) (setup : Setup) (old other : Association) (same : association_content old ≡ association_content other) (sent : InitSent) (number : ℕ) where
  one_cookie : (cookie octets again : Octets) (a b : Association) → BringsCookie asker setup.moment old sent number cookie octets a → BringsCookie asker setup.moment other sent number cookie again b
      → SameGoing (continued.Again octets) (continued.Again again) a b
  one_cookie cookie octets again a b is also =
      let spi : other.spi_i ≡ old.spi_i = sym (ap (λ (x : Association). x.spi_i) same) in
      let spelled = subst (λ (n : ℕ). SpellsPlainly (request_message asker.cipher asker.group (asker.public_value sent.secret) n (Some cookie) sent.nonce) again) spi also.spelled in
      let one : octets ≡ again = messages.spelling (request_message asker.cipher asker.group (asker.public_value sent.secret) old.spi_i (Some cookie) sent.nonce) octets again is.spelled spelled in
      let replaced : ReplacesRequest other.outgoing number also.was (new_request octets Begin setup.moment) b.outgoing =
      subst (λ (x : Octets). ReplacesRequest other.outgoing number also.was (new_request x Begin setup.moment) b.outgoing) (sym one) also.replaced in
      let outgoing : outgoing_content a.outgoing ≡ outgoing_content b.outgoing =
      (numbers.replaced old.outgoing other.outgoing a.outgoing b.outgoing number is.was also.was (new_request octets Begin setup.moment) (ap (λ (x : Association). x.outgoing) same) is.replaced replaced).1 in
      let next : Phase = phase.InitSent (record sent { cookie = Some cookie; cookies_taken = sent.cookies_taken + 1 }) in
      record {
        continued_is = ap (λ (x : Octets). continued.Again x) one;
        association =
            ap association_content is.content
            ∙ ap (λ (x : Association). record x { outgoing = outgoing_content a.outgoing; phase = next }) same
            ∙ ap (λ (o : OwnRequests Request). record (association_content other) { outgoing = o; phase = next }) outgoing
            ∙ sym (ap association_content also.content);
      }

  one_identity : TellsLengths asker.body_of setup.fresh.seal → (m : Message) (octets one_octets two_octets : Octets) (keys : KeyRecord) (a b : Association) → AreWholeKeys keys
      → TellsIdentity asker setup old sent number m octets keys one_octets a → TellsIdentity asker setup other sent number m octets keys two_octets b
      → SameGoing (continued.AsksAuth one_octets) (continued.AsksAuth two_octets) a b
  one_identity tells m octets one_octets two_octets keys a b whole is also =
      let request : also.request ≡ is.request = same_request (map.get other.outgoing.outstanding number) also.request is.request also.outstanding
      (sym (ap (λ (x : Association). map.get x.outgoing.outstanding number) same) ∙ is.outstanding) in
      let by_request : IsSealed asker.body_of (keys_of other.role keys) setup.fresh.seal (identity_message asker.own_method asker.proof_of setup other sent m.header.spi_r keys is.request.octets) two_octets =
      subst (λ (r : Request). IsSealed asker.body_of (keys_of other.role keys) setup.fresh.seal (identity_message asker.own_method asker.proof_of setup other sent m.header.spi_r keys r.octets) two_octets) request also.sealed in
      let sealed : IsSealed asker.body_of (keys_of old.role keys) setup.fresh.seal (identity_message asker.own_method asker.proof_of setup old sent m.header.spi_r keys is.request.octets) two_octets =
      subst (λ (x : Association). IsSealed asker.body_of (keys_of x.role keys) setup.fresh.seal (identity_message asker.own_method asker.proof_of setup x sent m.header.spi_r keys is.request.octets) two_octets) (sym same) by_request in
      let one : one_octets ≡ two_octets =
      messages.sealing asker.body_of (keys_of old.role keys) setup.fresh.seal (identity_message asker.own_method asker.proof_of setup old sent m.header.spi_r keys is.request.octets) one_octets two_octets
      (tells.told (keys_of old.role keys) (keys_by_role old.role keys whole)) is.sealed sealed in
      let issued : IssuesNext number_0_answered (new_request one_octets Identify setup.moment) b.outgoing =
      subst (λ (x : Octets). IssuesNext number_0_answered (new_request x Identify setup.moment) b.outgoing) (sym one) also.issued in
      let outgoing : outgoing_content a.outgoing ≡ outgoing_content b.outgoing = one_issue numbers number_0_answered number_0_answered a.outgoing b.outgoing (new_request one_octets Identify setup.moment) refl is.issued issued in
      let next : Phase = phase.AuthSent (record { keys = keys; first = octets; child = sent.child }) in
      record {
        continued_is = ap (λ (x : Octets). continued.AsksAuth x) one;
        association =
            ap association_content is.content
            ∙ ap (λ (x : Association). record x { spi_r = m.header.spi_r; outgoing = outgoing_content a.outgoing; phase = next }) same
            ∙ ap (λ (o : OwnRequests Request). record (association_content other) { spi_r = m.header.spi_r; outgoing = o; phase = next }) outgoing
            ∙ sym (ap association_content also.content);
      }

  one_unfit : (a b : Association) → a ≡ old → b ≡ other → SameGoing continued.Unfit continued.Unfit a b
  one_unfit a b is also = record { continued_is = refl; association = ap association_content is ∙ same ∙ sym (ap association_content also) }

  module _ (m : Message) (octets : Octets) (a b : Association) where
    after_cookie : (cookie : Bor Octets) (next : Octets) (r : Response) (d : Continued) → IsSameResponse (response.Cookie cookie) r → BringsCookie asker setup.moment old sent number cookie.now next a → Continues asker setup other sent number m octets r d b → SameGoing (continued.Again next) d a b
    after_cookie cookie next (response.Cookie x) (continued.Again y) like is also = one_cookie cookie.now next y a b is (subst (λ (o : Octets). BringsCookie asker setup.moment other sent number o y b) (sym like) also)
    after_cookie cookie next (response.Cookie x) (continued.AsksAuth y) like is also = absurd also
    after_cookie cookie next (response.Cookie x) continued.Unfit like is also = absurd also
    after_cookie cookie next (response.Keys x) (continued.Again y) like is also = absurd like
    after_cookie cookie next (response.Keys x) (continued.AsksAuth y) like is also = absurd like
    after_cookie cookie next (response.Keys x) continued.Unfit like is also = absurd like
    after_cookie cookie next response.Unfit (continued.Again y) like is also = absurd like
    after_cookie cookie next response.Unfit (continued.AsksAuth y) like is also = absurd like
    after_cookie cookie next response.Unfit continued.Unfit like is also = absurd like

    after_keys : (keys : KeyRecord) (next : Octets) → TellsLengths asker.body_of setup.fresh.seal → AreWholeKeys keys → (r : Response) (d : Continued) → IsSameResponse (response.Keys keys) r → TellsIdentity asker setup old sent number m octets keys next a → Continues asker setup other sent number m octets r d b → SameGoing (continued.AsksAuth next) d a b
    after_keys keys next tells whole (response.Cookie x) (continued.Again y) like is also = absurd like
    after_keys keys next tells whole (response.Cookie x) (continued.AsksAuth y) like is also = absurd like
    after_keys keys next tells whole (response.Cookie x) continued.Unfit like is also = absurd like
    after_keys keys next tells whole (response.Keys x) (continued.Again y) like is also = absurd also
    after_keys keys next tells whole (response.Keys x) (continued.AsksAuth y) like is also = one_identity tells m octets next y keys a b whole is (subst (λ (k : KeyRecord). TellsIdentity asker setup other sent number m octets k y b) (sym like) also)
    after_keys keys next tells whole (response.Keys x) continued.Unfit like is also = absurd also
    after_keys keys next tells whole response.Unfit (continued.Again y) like is also = absurd like
    after_keys keys next tells whole response.Unfit (continued.AsksAuth y) like is also = absurd like
    after_keys keys next tells whole response.Unfit continued.Unfit like is also = absurd like

    after_unfit : (r : Response) (d : Continued) → IsSameResponse (response.Unfit) r → a ≡ old → Continues asker setup other sent number m octets r d b → SameGoing (continued.Unfit) d a b
    after_unfit (response.Cookie x) (continued.Again y) like is also = absurd like
    after_unfit (response.Cookie x) (continued.AsksAuth y) like is also = absurd like
    after_unfit (response.Cookie x) continued.Unfit like is also = absurd like
    after_unfit (response.Keys x) (continued.Again y) like is also = absurd like
    after_unfit (response.Keys x) (continued.AsksAuth y) like is also = absurd like
    after_unfit (response.Keys x) continued.Unfit like is also = absurd like
    after_unfit response.Unfit (continued.Again y) like is also = absurd also
    after_unfit response.Unfit (continued.AsksAuth y) like is also = absurd also
    after_unfit response.Unfit continued.Unfit like is also = one_unfit a b is also

    one_going : TellsLengths asker.body_of setup.fresh.seal → (q r : Response) (c d : Continued) → ((keys : KeyRecord) → q ≡ response.Keys keys → AreWholeKeys keys) → IsSameResponse q r
        → Continues asker setup old sent number m octets q c a → Continues asker setup other sent number m octets r d b → SameGoing c d a b
    one_going tells (response.Cookie q) r (continued.Again c) d whole like is also = after_cookie q c r d like is also
    one_going tells (response.Cookie q) r (continued.AsksAuth c) d whole like is also = absurd is
    one_going tells (response.Cookie q) r continued.Unfit d whole like is also = absurd is
    one_going tells (response.Keys q) r (continued.Again c) d whole like is also = absurd is
    one_going tells (response.Keys q) r (continued.AsksAuth c) d whole like is also = after_keys q c tells (whole q refl) r d like is also
    one_going tells (response.Keys q) r continued.Unfit d whole like is also = absurd is
    one_going tells response.Unfit r (continued.Again c) d whole like is also = absurd is
    one_going tells response.Unfit r (continued.AsksAuth c) d whole like is also = absurd is
    one_going tells response.Unfit r continued.Unfit d whole like is also = after_unfit r d like is also

pub gives_whole : KeyLaws → (cipher : Cipher) (group : ℕ) (shared_secret : Octets → Octets → Option Octets) (sent : WaitingView) (m : Message) (r : Response) → IsResponse cipher group shared_secret sent m r
    → (keys : KeyRecord) → r ≡ response.Keys keys → AreWholeKeys keys
gives_whole laws cipher group shared_secret sent m r is keys same =
    whole_keys laws cipher group shared_secret sent m keys (subst (λ (x : Response). IsResponse cipher group shared_secret sent m x) same is)

pub one_response : MessageLaws → OutgoingLaws → KeyLaws → InitLaws → (asker : Asker) (setup : Setup) (old other : Association) (number : ℕ) (octets : Octets) (m : Message) (c d : Continued) (a b : Association)
    → TellsLengths asker.body_of setup.fresh.seal → association_content old ≡ association_content other
    → ReadsResponse asker setup old number octets m c a → ReadsResponse asker setup other number octets m d b → SameGoing c d a b
one_response messages numbers keys init asker setup old other number octets m c d a b tells same is also =
    let sent : also.sent ≡ is.sent = same_sent other.phase also.sent is.sent also.was (sym (ap (λ (x : Association). x.phase) same) ∙ is.was) in
    let means : IsResponse asker.cipher asker.group asker.shared_secret (waiting_of other.spi_i is.sent) m also.response =
    subst (λ (s : InitSent). IsResponse asker.cipher asker.group asker.shared_secret (waiting_of other.spi_i s) m also.response) sent also.means in
    let meant : IsResponse asker.cipher asker.group asker.shared_secret (waiting_of old.spi_i is.sent) m also.response =
    subst (λ (x : Association). IsResponse asker.cipher asker.group asker.shared_secret (waiting_of x.spi_i is.sent) m also.response) (sym same) means in
    let like = init.response asker.cipher asker.group asker.shared_secret (waiting_of old.spi_i is.sent) m is.response also.response is.means meant in
    let continues : Continues asker setup other is.sent number m octets also.response d b = subst (λ (s : InitSent). Continues asker setup other s number m octets also.response d b) sent also.continues in
    one_going messages numbers asker setup old other same is.sent number m octets a b tells is.response also.response c d
    (gives_whole keys asker.cipher asker.group asker.shared_secret (waiting_of old.spi_i is.sent) m is.response is.means) like is.continues continues
