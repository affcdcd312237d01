-- The step by which an end comes to its keys is a call that gives them: one that reads a response, or one
-- that takes an offer.
use Rattle.std.proofs.Common.{◌≡◌, ◌⊎◌, ◌++◌, ◌∷◌, inl, inr, ℕ, zero, suc, Bool, true, false, List, [], Option, Some, None, ap, refl, subst, sym, ◌∙◌}
use Rattle.std.specs.List.{position}
use Rattle.std.specs.Prelude.{slice_get, slice_set, Result, Ok, Err}
use Rattle.base.specs.Octets.{Octets}
use Rattle.wire.specs.Messages.{Spells}
use Rattle.wire.specs.declared.message.Header.{Header}
use Rattle.wire.specs.declared.message.Message.{Message}
use Rattle.policy.specs.declared.entry.Entry.{Entry}
use Rattle.suite.specs.Callers.{IsSecret}
use Rattle.suite.specs.declared.fresh.Fresh.{Fresh}
use Rattle.suite.specs.declared.key_record.KeyRecord.{KeyRecord}
use Rattle.suite.specs.declared.keys.Keys.{Keys}
use Rattle.exchange.specs.declared.sealed.Plain.{Plain}
use Rattle.sadb.specs.Database.{Database}
use Rattle.sa_init.specs.Cookies.{CookieSecrets}
use Rattle.sa_init.specs.Judging.{Accepted, Answered, Full, Incomplete, JudgementView, OfferView}
use Rattle.sa_init.specs.Parts.{HasParts, PartsView}
use Rattle.sa_init.specs.declared.response.Response.{Response}
use Rattle.sa_init.specs.declared.response.Response.TheVariants as response
use Rattle.association.specs.Phases.{keys_in}
use Rattle.association.specs.Receiving.{Answers, AnswersInitial, Reception, Refused, Repeat, TakesEffect}
use Rattle.association.specs.declared.fault.MessageFault.{MessageFault}
use Rattle.association.specs.declared.phase.Association.{Association}
use Rattle.association.specs.declared.phase.InitSent.{InitSent}
use Rattle.association.specs.declared.phase.Phase.{Phase}
use Rattle.association.specs.declared.phase.Phase.TheVariants as phase
use Rattle.association.specs.Admitting.{Admits}
use Rattle.setup.specs.Configs.{Setup}
use Rattle.initial.specs.Reading.{Continues, ReadsResponse}
use Rattle.association.specs.declared.admitting.Admitted.{Admitted}
use Rattle.initial.specs.declared.reading.Continued.{Continued}
use Rattle.initial.specs.declared.reading.Continued.TheVariants as continued
use Rattle.effects.specs.Taking.{asker_of, Does, DoesInitial, DoesRequest, DoesResponse, Meaning, TakesMessage}
use Rattle.effects.specs.declared.taking.Effect.{Effect}
use Rattle.effects.specs.declared.taking.Effect.TheVariants as effect
use Rattle.ike.specs.Machines.{setup_at, Held, Machine}
use Rattle.ike.specs.Receiving.{is_answered, is_initial_request, is_sound_initial, DoesJudgement, IsJudged, TakesDatagram, TakesFound, TakesRead, TakesRequestAt, TakesSound}
use Rattle.association.specs.Finding.{place_meant}
use Rattle.ike.specs.Records.{ComesToKeysAsInitiator, ComesToKeysAsResponder, Introduction, SaysOfSender}
use Rattle.ike.specs.Steps as ike
use Rattle.ike.specs.declared.output.Stepped.{Stepped}
use Rattle.ike.proofs.RecordLemmas.{same_nonces, same_values}

some_is : {X : Type 0} (a b : X) → Some a ≡ Some b → a ≡ b
some_is {X} a b is = cc

-- ---- lists

-- in a longer list each item keeps its place
kept_in_place : {X : Type 0} (xs : List X) (y : X) (place : ℕ) (a b : X) → slice_get xs place ≡ Some a → slice_get (xs ++ y ∷ []) place ≡ Some b → a ≡ b
kept_in_place {X} [] y place a b there here = absurd cc
kept_in_place {X} (x ∷ xs) y zero a b there here = some_is a b (sym there ∙ here)
kept_in_place {X} (x ∷ xs) y (suc place) a b there here = kept_in_place xs y place a b there here

-- and what is new is the one at its end
new_in_place : {X : Type 0} (xs : List X) (y : X) (place : ℕ) (b : X) → slice_get xs place ≡ None → slice_get (xs ++ y ∷ []) place ≡ Some b → y ≡ b
new_in_place {X} [] y zero b none here = some_is y b here
new_in_place {X} [] y (suc place) b none here = absurd cc
new_in_place {X} (x ∷ xs) y zero b none here = absurd cc
new_in_place {X} (x ∷ xs) y (suc place) b none here = new_in_place xs y place b none here

-- where one item is replaced, the item at a place is the old one, or the two places are one
data IsReplaced {X : Type 0} (xs : List X) (at : ℕ) (y : X) (place : ℕ) (a b : X) : Type 0 where
  Kept : a ≡ b → IsReplaced xs at y place a b
  Put : slice_get xs at ≡ Some a → y ≡ b → IsReplaced xs at y place a b

replaced : {X : Type 0} (xs : List X) (at : ℕ) (y : X) (place : ℕ) (a b : X) → slice_get xs place ≡ Some a → slice_get (slice_set xs at y) place ≡ Some b → IsReplaced xs at y place a b
replaced {X} [] at y place a b there here = absurd cc
replaced {X} (x ∷ xs) zero y zero a b there here = Put there (some_is y b here)
replaced {X} (x ∷ xs) zero y (suc place) a b there here = Kept (some_is a b (sym there ∙ here))
replaced {X} (x ∷ xs) (suc at) y zero a b there here = Kept (some_is a b (sym there ∙ here))
replaced {X} (x ∷ xs) (suc at) y (suc place) a b there here = elim (replaced xs at y place a b there here) [
  | Kept is ↦ Kept is
  | Put found is ↦ Put found is
]

none_put : {X : Type 0} (xs : List X) (at : ℕ) (y : X) (place : ℕ) (b : X) → slice_get xs place ≡ None → slice_get (slice_set xs at y) place ≡ Some b → ⊥
none_put {X} [] at y place b none here = cc
none_put {X} (x ∷ xs) zero y zero b none here = cc
none_put {X} (x ∷ xs) zero y (suc place) b none here = cc
none_put {X} (x ∷ xs) (suc at) y zero b none here = cc
none_put {X} (x ∷ xs) (suc at) y (suc place) b none here = none_put xs at y place b none here

-- ---- the initiator

-- the message was read as the response that brings keys
record IsRead (meaning : Meaning) (setup : Setup) (octets : Octets) (old new : Association) (m : Message) : Type 0 where
  pub request : Octets
  pub read : ReadsResponse (asker_of meaning) setup old m.header.id octets m (continued.AsksAuth request) new

record WasRead (meaning : Meaning) (setup : Setup) (octets : Octets) (old new : Association) : Type 0 where
  pub message : Message
  pub spelled : Spells message octets
  pub is : IsRead meaning setup octets old new message

module _ (meaning : Meaning) (setup : Setup) (octets : Octets) (sent : InitSent) (keys : KeyRecord) (old new : Association)
    (waited : old.phase ≡ phase.InitSent sent) (keyed : keys_in new.phase ≡ Some keys) where
  not_same : old ≡ new → ⊥
  not_same same =
      let none : None ≡ Some keys = sym (ap (λ (p : Phase). keys_in p) waited) ∙ ap (λ (a : Association). keys_in a.phase) same ∙ keyed in
      cc

  waits_on : (m : Message) (number : ℕ) (was : InitSent) (r : Response) (again : Octets)
      → Continues (asker_of meaning) setup old was number m octets r (continued.Again again) new → ⊥
  waits_on m number was (response.Cookie cookie) again brings =
      let none : None ≡ Some keys = sym (ap (λ (a : Association). keys_in a.phase) brings.content) ∙ keyed in
      cc
  waits_on m number was (response.Keys made) again c = c
  waits_on m number was response.Unfit again c = c

  unfit : (m : Message) (number : ℕ) (was : InitSent) (r : Response) → Continues (asker_of meaning) setup old was number m octets r continued.Unfit new → ⊥
  unfit m number was (response.Cookie cookie) c = c
  unfit m number was (response.Keys made) c = c
  unfit m number was response.Unfit c = not_same (sym c)

  read_as : (m : Message) (c : Continued) → ReadsResponse (asker_of meaning) setup old m.header.id octets m c new → IsRead meaning setup octets old new m
  read_as m (continued.Again again) read = absurd (waits_on m m.header.id read.sent read.response again read.continues)
  read_as m (continued.AsksAuth request) read = record { request = request; read = read }
  read_as m continued.Unfit read = absurd (unfit m m.header.id read.sent read.response read.continues)

  no_request : (exchange number : ℕ) (table new_table : Database) (plain : Plain) (e : Effect)
      → DoesRequest meaning setup (phase.InitSent sent) exchange old table number plain e new new_table → ⊥
  no_request exchange number table new_table plain (effect.Refused fault) d = not_same (sym d.1.association)
  no_request exchange number table new_table plain (effect.Repeated reply) d = d
  no_request exchange number table new_table plain (effect.Replied answered) d = d
  no_request exchange number table new_table plain (effect.Again again) d = d
  no_request exchange number table new_table plain (effect.AsksAuth next) d = d
  no_request exchange number table new_table plain (effect.Counted ended) d = d

  no_response : (number : ℕ) (table new_table : Database) (plain : Plain) (e : Effect)
      → DoesResponse meaning setup (phase.InitSent sent) old table number plain e new new_table → ⊥
  no_response number table new_table plain (effect.Refused fault) d = not_same (sym d.1.association)
  no_response number table new_table plain (effect.Repeated reply) d = d
  no_response number table new_table plain (effect.Replied answered) d = d
  no_response number table new_table plain (effect.Again again) d = d
  no_response number table new_table plain (effect.AsksAuth next) d = d
  no_response number table new_table plain (effect.Counted ended) d = d

  refused_so : (m : Message) (table new_table : Database) (fault : MessageFault) (e : Effect) → Does meaning setup old table octets m (Refused fault) e new new_table → ⊥
  refused_so m table new_table fault (effect.Refused said) d = not_same (sym d.1.association)
  refused_so m table new_table fault (effect.Repeated reply) d = d
  refused_so m table new_table fault (effect.Replied answered) d = d
  refused_so m table new_table fault (effect.Again again) d = d
  refused_so m table new_table fault (effect.AsksAuth next) d = d
  refused_so m table new_table fault (effect.Counted ended) d = d

  repeated_so : (m : Message) (table new_table : Database) (kept : Octets) (e : Effect) → Does meaning setup old table octets m (Repeat kept) e new new_table → ⊥
  repeated_so m table new_table kept (effect.Refused said) d = d
  repeated_so m table new_table kept (effect.Repeated reply) d = not_same (sym d.1.association)
  repeated_so m table new_table kept (effect.Replied answered) d = d
  repeated_so m table new_table kept (effect.Again again) d = d
  repeated_so m table new_table kept (effect.AsksAuth next) d = d
  repeated_so m table new_table kept (effect.Counted ended) d = d

  done_by : (m : Message) (table new_table : Database) (r : Reception) (e : Effect) → Does meaning setup old table octets m r e new new_table → IsRead meaning setup octets old new m
  done_by m table new_table (Refused fault) e d = absurd (refused_so m table new_table fault e d)
  done_by m table new_table (Repeat kept) e d = absurd (repeated_so m table new_table kept e d)
  done_by m table new_table (TakesEffect plain) e d =
      absurd (no_request m.header.exchange m.header.id table new_table plain e
      (subst (λ (p : Phase). DoesRequest meaning setup p m.header.exchange old table m.header.id plain e new new_table) waited d))
  done_by m table new_table (Answers plain) e d =
      absurd (no_response m.header.id table new_table plain e
      (subst (λ (p : Phase). DoesResponse meaning setup p old table m.header.id plain e new new_table) waited d))
  done_by m table new_table AnswersInitial e d = let initial : DoesInitial meaning setup old octets m e new = d.0 in read_as m initial.continued initial.read

  module _ (held later : Held) (place : ℕ) (stood : slice_get held.associations place ≡ Some old) (stands : slice_get later.associations place ≡ Some new) where
    not_unchanged : later ≡ held → ⊥
    not_unchanged is = not_same (some_is old new (sym stood ∙ ap (λ (x : Held). slice_get x.associations place) (sym is) ∙ stands))

    not_judged : (spi_i : ℕ) (judgement : JudgementView) (stepped : Stepped) → DoesJudgement meaning setup spi_i octets judgement held stepped later → ⊥
    not_judged spi_i (Answered notice) stepped d = not_unchanged d.1
    not_judged spi_i Incomplete stepped d = not_unchanged d.unchanged
    not_judged spi_i Full stepped d = not_unchanged d.unchanged
    not_judged spi_i (Accepted offer) stepped d = elim d.done [
      | inl (none, passes) ↦ not_unchanged passes.unchanged
      | inr admits ↦ (
          let here : slice_get (held.associations ++ admits.admitted.association ∷ []) place ≡ Some new =
          sym (ap (λ (x : Held). slice_get x.associations place) admits.content) ∙ stands in
          not_same (kept_in_place held.associations admits.admitted.association place old new stood here)
          )
    ]

    not_requested : (answered : Option ℕ) (cookies : CookieSecrets) (from : Octets) (m : Message) (stepped : Stepped)
        → TakesRequestAt answered meaning setup cookies from octets m held stepped later → ⊥
    not_requested (Some at) cookies from m stepped d = not_unchanged d.1
    not_requested None cookies from m stepped d = not_judged m.header.spi_i d.judgement stepped d.done

    not_sound : (sound : Bool) (cookies : CookieSecrets) (from : Octets) (m : Message) (stepped : Stepped)
        → TakesSound sound meaning setup cookies from octets m held stepped later → ⊥
    not_sound true cookies from m stepped d = not_requested (position (is_answered octets) held.associations) cookies from m stepped d
    not_sound false cookies from m stepped d = not_unchanged d.unchanged

    found_as : (r : Result ℕ MessageFault) (m : Message) (table new_table : Database) (stepped : Stepped)
        → TakesFound r meaning setup octets m held table stepped later new_table → IsRead meaning setup octets old new m
    found_as (Err f) m table new_table stepped d = absurd (not_unchanged d.0.unchanged)
    found_as (Ok at) m table new_table stepped d =
        let here : slice_get (slice_set held.associations at d.changed) place ≡ Some new = sym (ap (λ (x : Held). slice_get x.associations place) d.content) ∙ stands in
        elim (replaced held.associations at d.changed place old new stood here) [
          | Kept is ↦ absurd (not_same is)
          | Put there is ↦ (
              let was : d.association ≡ old = some_is d.association old (sym d.there ∙ there) in
              let taken : TakesMessage meaning setup old table octets m d.effect new new_table =
              subst (λ (a : Association). TakesMessage meaning setup old table octets m d.effect a new_table) is
              (subst (λ (a : Association). TakesMessage meaning setup a table octets m d.effect d.changed new_table) was d.takes) in
              done_by m table new_table taken.reception d.effect taken.done
              )
        ]

    read_by : (initial : Bool) (cookies : CookieSecrets) (from : Octets) (m : Message) (table new_table : Database) (stepped : Stepped)
        → TakesRead initial meaning setup cookies from octets m held table stepped later new_table → IsRead meaning setup octets old new m
    read_by true cookies from m table new_table stepped d = absurd (not_sound (is_sound_initial m.header) cookies from m stepped d.0)
    read_by false cookies from m table new_table stepped d = found_as (place_meant m.header held.associations) m table new_table stepped d

    taken_by : (cookies : CookieSecrets) (from : Octets) (table new_table : Database) (stepped : Stepped)
        → TakesDatagram meaning setup cookies from octets held table stepped later new_table → WasRead meaning setup octets old new
    taken_by cookies from table new_table stepped (inl fails) = absurd (not_unchanged fails.passed.unchanged)
    taken_by cookies from table new_table stepped (inr reads) = record {
      message = reads.message;
      spelled = reads.spelled;
      is = read_by (is_initial_request reads.message.header) cookies from reads.message table new_table stepped reads.done;
    }

-- ---- the responder

-- an offer was taken, and made this IKE SA
record IsMade (meaning : Meaning) (setup : Setup) (cookies : CookieSecrets) (from octets : Octets) (held : Held) (new : Association) (m : Message) : Type 0 where
  pub offer : OfferView
  pub judged : IsJudged meaning cookies held from m (Accepted offer)
  pub admitted : Admitted
  pub admits : Admits meaning.cipher meaning.group meaning.public_value meaning.shared_secret setup.fresh setup.moment held.next offer m.header.spi_i octets admitted
  pub is : admitted.association ≡ new

record WasMade (meaning : Meaning) (setup : Setup) (cookies : CookieSecrets) (from octets : Octets) (held : Held) (new : Association) : Type 0 where
  pub message : Message
  pub spelled : Spells message octets
  pub is : IsMade meaning setup cookies from octets held new message

module _ (meaning : Meaning) (setup : Setup) (cookies : CookieSecrets) (from octets : Octets) (held later : Held) (place : ℕ) (new : Association)
    (none_stood : slice_get held.associations place ≡ None) (stands : slice_get later.associations place ≡ Some new) where
  grows : later ≡ held → ⊥
  grows is = let same : None ≡ Some new = sym none_stood ∙ ap (λ (x : Held). slice_get x.associations place) (sym is) ∙ stands in cc

  made_of : (m : Message) (judgement : JudgementView) (stepped : Stepped) → IsJudged meaning cookies held from m judgement
      → DoesJudgement meaning setup m.header.spi_i octets judgement held stepped later → IsMade meaning setup cookies from octets held new m
  made_of m (Answered notice) stepped judged d = absurd (grows d.1)
  made_of m Incomplete stepped judged d = absurd (grows d.unchanged)
  made_of m Full stepped judged d = absurd (grows d.unchanged)
  made_of m (Accepted offer) stepped judged d = elim d.done [
    | inl (none, passes) ↦ absurd (grows passes.unchanged)
    | inr admits ↦ (
        let here : slice_get (held.associations ++ admits.admitted.association ∷ []) place ≡ Some new =
        sym (ap (λ (x : Held). slice_get x.associations place) admits.content) ∙ stands in
        record {
          offer = offer;
          judged = judged;
          admitted = admits.admitted;
          admits = admits.admits;
          is = new_in_place held.associations admits.admitted.association place new none_stood here;
        }
        )
  ]

  made_at_request : (answered : Option ℕ) (m : Message) (stepped : Stepped) → TakesRequestAt answered meaning setup cookies from octets m held stepped later
      → IsMade meaning setup cookies from octets held new m
  made_at_request (Some at) m stepped d = absurd (grows d.1)
  made_at_request None m stepped d = made_of m d.judgement stepped d.judged d.done

  made_if_sound : (sound : Bool) (m : Message) (stepped : Stepped) → TakesSound sound meaning setup cookies from octets m held stepped later
      → IsMade meaning setup cookies from octets held new m
  made_if_sound true m stepped d = made_at_request (position (is_answered octets) held.associations) m stepped d
  made_if_sound false m stepped d = absurd (grows d.unchanged)

  not_found : (r : Result ℕ MessageFault) (m : Message) (table new_table : Database) (stepped : Stepped)
      → TakesFound r meaning setup octets m held table stepped later new_table → ⊥
  not_found (Err f) m table new_table stepped d = grows d.0.unchanged
  not_found (Ok at) m table new_table stepped d =
      none_put held.associations at d.changed place new none_stood (sym (ap (λ (x : Held). slice_get x.associations place) d.content) ∙ stands)

  made_as : (initial : Bool) (m : Message) (table new_table : Database) (stepped : Stepped)
      → TakesRead initial meaning setup cookies from octets m held table stepped later new_table → IsMade meaning setup cookies from octets held new m
  made_as true m table new_table stepped d = made_if_sound (is_sound_initial m.header) m stepped d.0
  made_as false m table new_table stepped d = absurd (not_found (place_meant m.header held.associations) m table new_table stepped d)

  made_by : (table new_table : Database) (stepped : Stepped) → TakesDatagram meaning setup cookies from octets held table stepped later new_table
      → WasMade meaning setup cookies from octets held new
  made_by table new_table stepped (inl fails) = absurd (grows fails.passed.unchanged)
  made_by table new_table stepped (inr reads) = record {
    message = reads.message;
    spelled = reads.spelled;
    is = made_as (is_initial_request reads.message.header) reads.message table new_table stepped reads.done;
  }

-- ---- what a datagram says of its sender

-- octets spell one message
abbrev pub OneMessage : Type 0
OneMessage = (m n : Message) (octets : Octets) → Spells m octets → Spells n octets → m ≡ n

init_sent_is : (one other : InitSent) → phase.InitSent one ≡ phase.InitSent other → one ≡ other
init_sent_is one other is = cc

says_of : (one_message : OneMessage) (spi_of : Header → ℕ) (octets : Octets) (who : Introduction) (m : Message) → Spells m octets → SaysOfSender spi_of octets who
    → (parts : PartsView) × (HasParts m.payloads parts) × (who ≡ record { spi = spi_of m.header; public = parts.public; nonce = parts.nonce })
says_of one_message spi_of octets who m spelled says =
    let same : says.message ≡ m = one_message says.message m octets says.spelled spelled in (
      says.parts,
      subst (λ (n : Message). HasParts n.payloads says.parts) same says.complete,
      says.is ∙ ap (λ (n : Message). record { spi = spi_of n.header; public = says.parts.public; nonce = says.parts.nonce }) same,
    )

-- ---- a step

module _ (one_message : OneMessage) (meaning : Meaning) (entries : List Entry) (from octets : Octets) (fresh : Fresh) (old : Machine) (table : Database) (stepped : Stepped) (new : Machine) (new_table : Database)
    (place : ℕ) (keys : KeyRecord) (own other : Introduction) (steps : ike.Steps meaning entries (ike.Message from octets fresh) old table stepped new new_table) where
  pub comes_as_initiator : (was is : Association) (sent : InitSent) → slice_get old.held.associations place ≡ Some was → was.phase ≡ phase.InitSent sent → slice_get new.held.associations place ≡ Some is
      → keys_in is.phase ≡ Some keys → IsSecret sent.secret → own ≡ record { spi = was.spi_i; public = meaning.public_value sent.secret; nonce = sent.nonce } → SaysOfSender (λ header. header.spi_r) octets other
      → ComesToKeysAsInitiator (asker_of meaning) own other keys
  comes_as_initiator was is sent stood waited stands keyed secret own_is other_is =
      let setup = setup_at old entries fresh in
      let taken : WasRead meaning setup octets was is = taken_by meaning setup octets sent keys was is waited keyed old.held new.held place stood stands old.cookies from table new_table stepped steps.1 in
      let read = taken.is.read in
      let says = says_of one_message (λ header. header.spi_r) octets other taken.message taken.spelled other_is in
      let sent_is : sent ≡ read.sent = init_sent_is sent read.sent (sym waited ∙ read.was) in
      record {
        setup = setup;
        old = was;
        new = is;
        number = taken.message.header.id;
        octets = octets;
        response = taken.message;
        request = taken.is.request;
        read = read;
        keyed = keyed;
        secret = subst (λ (s : InitSent). IsSecret s.secret) sent_is secret;
        own_is = own_is ∙ ap (λ (s : InitSent). record { spi = was.spi_i; public = meaning.public_value s.secret; nonce = s.nonce }) sent_is;
        parts = says.0;
        complete = says.1;
        other_is = says.2;
      }

  pub comes_as_responder : (is : Association) → slice_get old.held.associations place ≡ None → slice_get new.held.associations place ≡ Some is → keys_in is.phase ≡ Some keys → IsSecret fresh.secret
      → own ≡ record { spi = fresh.spi; public = meaning.public_value fresh.secret; nonce = fresh.nonce } → SaysOfSender (λ header. header.spi_i) octets other
      → ComesToKeysAsResponder meaning.cipher meaning.group meaning.public_value meaning.shared_secret own other keys
  comes_as_responder is none_stood stands keyed secret own_is other_is =
      let setup = setup_at old entries fresh in
      let was : WasMade meaning setup old.cookies from octets old.held is = made_by meaning setup old.cookies from octets old.held new.held place is none_stood stands table new_table stepped steps.1 in
      let made = was.is in
      let says = says_of one_message (λ header. header.spi_i) octets other was.message was.spelled other_is in
      let accepted = made.judged in
      let complete = accepted.considered.heard.whole.complete in
      let public_is : says.0.public ≡ made.offer.public = same_values was.message says.0 accepted.parts says.1 complete ∙ sym accepted.value in
      let nonce_is : says.0.nonce ≡ made.offer.nonce = same_nonces was.message says.0 accepted.parts says.1 complete ∙ sym accepted.ni in
      record {
        fresh = fresh;
        moment = old.moment;
        serial = old.held.next;
        offer = made.offer;
        spi_i = was.message.header.spi_i;
        request = octets;
        admitted = made.admitted;
        admits = made.admits;
        keyed = ap (λ (a : Association). keys_in a.phase) made.is ∙ keyed;
        secret = secret;
        own_is = own_is;
        other_is = says.2 ∙ (λ i. record { spi = was.message.header.spi_i; public = public_is i; nonce = nonce_is i });
      }
