-- What waits for its answer after a message waited before, or goes out by it.
use Rattle.std.proofs.Common.{◌≡◌, ◌⊎◌, inl, inr, ℕ, arith, Bool, true, false, cond, Option, Some, None, ap, refl, subst, sym, ◌∙◌, List}
use Rattle.std.specs.Cmp.{nat_cmp_total, unsigned_tied}
use Rattle.std.specs.FinMap as map
use Rattle.std.specs.Ordering.{nat_cmp}
use Rattle.std.proofs.lemmas.Bool.Decides.{eqb_tells}
use Rattle.base.specs.Octets.{Octets}
use Rattle.wire.specs.declared.message.Message.{Message}
use Rattle.suite.specs.declared.fresh.Fresh.{Fresh}
use Rattle.suite.specs.declared.keys.Keys.{Keys}
use Rattle.suite.specs.declared.sealer.Cipher.{Cipher}
use Rattle.requests.specs.Outgoing.{none_issued, number_0_answered, CountsAnswer, GivesUpRequests, OwnRequests}
use Rattle.suite.specs.declared.key_record.KeyRecord.{KeyRecord}
use Rattle.sadb.specs.Database.{Database}
use Rattle.association.specs.AskedChildren.{AskedChildView}
use Rattle.association.specs.Phases.{established_of, keys_in}
use Rattle.association.specs.declared.phase.Association.{Association}
use Rattle.association.specs.declared.phase.AuthSent.{AuthSent}
use Rattle.association.specs.declared.phase.InitSent.{InitSent}
use Rattle.association.specs.declared.phase.Phase.{Phase}
use Rattle.association.specs.declared.phase.Phase.TheVariants as phase
use Rattle.association.specs.declared.phase.Request.{Request}
use Rattle.association.specs.declared.purpose.Purpose.{Purpose}
use Rattle.association.specs.declared.purpose.Purpose.TheVariants.{Begin, Identify}
use Rattle.initial.specs.Answering.{outcome_of}
use Rattle.initial.specs.Beginning.{begun, Begins}
use Rattle.initial.specs.Concluding.{is_closing, ConcludesBy}
use Rattle.association.specs.Issuing.{with_incoming, with_outgoing, new_request, IssuesNext}
use Rattle.setup.specs.Configs.{Setup}
use Rattle.initial.specs.declared.beginning.Beginning.{Beginning}
use Rattle.initial.specs.declared.concluding.Outcome.{Outcome}
use Rattle.initial.specs.declared.concluding.Outcome.TheVariants as outcome
use Rattle.association.specs.Purposes.{asks_for_child}
use Rattle.informational.specs.Asking.{Asks}
use Rattle.informational.specs.Ordering.{purpose_of}
use Rattle.informational.specs.Orders.{ClosesIf}
use Rattle.informational.specs.declared.ordering.Order.{Order}
use Rattle.informational.specs.declared.ordering.Order.TheVariants as order
use Rattle.effects.specs.Sending.{SendsRequest}
use Rattle.effects.specs.Taking.{Meaning, TakesMessage}
use Rattle.effects.specs.Requests.{IsSoundlyHeld}
use Rattle.effects.specs.Waiting.{asked_by, ClosesAssociation, StartsWaiting, TakesCookie, SuitPhase, KeepTimers, WaitUntil}
use Rattle.effects.specs.declared.taking.Effect.{Effect}
use Rattle.effects.specs.declared.taking.Effect.TheVariants as effect
use Rattle.effects.proofs.MapLemmas.{some_none}
use Rattle.effects.proofs.RequestLemmas.{put_at, stays_sound, yes_no, FollowLaws, Windows}
use Rattle.effects.proofs.WayLemmas.{answered_later, counted_later, way_of, Way}
use Rattle.association.specs.Outcomes.{closed_by}
use Rattle.association.specs.declared.outcome.Fate.{Fate}
use Rattle.effects.proofs.FateLemmas.{concluded_fate}

-- all that waits waited before, and all that waited waits
abbrev Fewer : OwnRequests Request → OwnRequests Request → Type 0
Fewer old new = (number : ℕ) (request : Request) → map.get new.outstanding number ≡ Some request → map.get old.outstanding number ≡ Some request

abbrev Keeps : OwnRequests Request → OwnRequests Request → Type 0
Keeps old new = (number : ℕ) (request : Request) → map.get old.outstanding number ≡ Some request → map.get new.outstanding number ≡ Some request

fewer_wait : (moment : ℕ) (sent : Option Octets) (old new : Association) → Fewer old.outgoing new.outgoing → KeepTimers moment sent old new
fewer_wait moment sent old new fewer number request there = inl (fewer number request there)

counted_fewer : (old : OwnRequests Request) (number : ℕ) (request : Request) (new : OwnRequests Request) → CountsAnswer old number request new → Fewer old new
counted_fewer old number request new is n found there =
    let left : map.get (map.remove old.outstanding number) n ≡ Some found = sym (ap (λ (r : OwnRequests Request). map.get r.outstanding n) is.content) ∙ there in
    elim (eqb_tells n number) [
      | inl (one, same) ↦ absurd (some_none found (sym (map.get-remove nat_cmp_total old.outstanding number n ∙ ap (λ b. cond b None (map.get old.outstanding n)) (unsigned_tied n number ∙ one)) ∙ left))
      | inr (none, apart) ↦ sym (map.get-remove nat_cmp_total old.outstanding number n ∙ ap (λ b. cond b None (map.get old.outstanding n)) (unsigned_tied n number ∙ none)) ∙ left
    ]

counted_keeps : (old : OwnRequests Request) (number : ℕ) (request : Request) (new : OwnRequests Request) (n : ℕ) (found : Request) → CountsAnswer old number request new → map.get old.outstanding n ≡ Some found
    → (map.get new.outstanding n ≡ Some found) ⊎ (n ≡ number)
counted_keeps old number request new n found is there = elim (eqb_tells n number) [
  | inl (one, same) ↦ inr same
  | inr (none, apart) ↦ inl (
      ap (λ (r : OwnRequests Request). map.get r.outstanding n) is.content
      ∙ map.get-remove nat_cmp_total old.outstanding number n ∙ ap (λ b. cond b None (map.get old.outstanding n)) (unsigned_tied n number ∙ none) ∙ there
      )
]

given_up : (old new : OwnRequests Request) → GivesUpRequests old new → Fewer old new
given_up old new is number request there =
    absurd (some_none request (sym (map.get-empty {X = Request} nat_cmp number) ∙ sym (ap (λ (r : OwnRequests Request). map.get r.outstanding number) is.content) ∙ there))

concluded_fewer : (setup : Setup) (a : Association) (table : Database) (o : Outcome) (came : Fate) (new : Association) (new_table : Database) → ConcludesBy setup a table o came new new_table → Fewer a.outgoing new.outgoing
concluded_fewer setup a table outcome.Closes came new new_table is = given_up a.outgoing new.outgoing is.over.requests
concluded_fewer setup a table (outcome.Establishes pair window) came new new_table is = λ number request there. sym (ap (λ (x : Association). map.get x.outgoing.outstanding number) is.content) ∙ there

concluded_keeps : (setup : Setup) (a : Association) (table : Database) (o : Outcome) (came : Fate) (new : Association) (new_table : Database) → ConcludesBy setup a table o came new new_table
    → Keeps a.outgoing new.outgoing ⊎ (is_closing o ≡ true)
concluded_keeps setup a table outcome.Closes came new new_table is = inr refl
concluded_keeps setup a table (outcome.Establishes pair window) came new new_table is = inl (λ number request there. ap (λ (x : Association). map.get x.outgoing.outstanding number) is.content ∙ there)

closed_fewer : (ending : Bool) (serials : List ℕ) (a : Association) (table : Database) (moment : ℕ) (new : Association) (new_table : Database) → ClosesIf ending serials a table moment new new_table → Fewer a.outgoing new.outgoing
closed_fewer true serials a table moment new new_table is = given_up a.outgoing new.outgoing is.requests
closed_fewer false serials a table moment new new_table is = λ number request there. sym (ap (λ (x : Association). map.get x.outgoing.outstanding number) is.0) ∙ there

closed_keeps : (ending : Bool) (serials : List ℕ) (a : Association) (table : Database) (moment : ℕ) (new : Association) (new_table : Database) → ClosesIf ending serials a table moment new new_table → Keeps a.outgoing new.outgoing ⊎ (ending ≡ true)
closed_keeps true serials a table moment new new_table is = inr refl
closed_keeps false serials a table moment new new_table is = inl (λ number request there. ap (λ (x : Association). map.get x.outgoing.outstanding number) is.0 ∙ there)

goes_out : (octets : Octets) (asked : Purpose) (moment : ℕ) (old new : Association) (number : ℕ) (found : Request) → (map.get old.outgoing.outstanding number ≡ None) ⊎ TakesCookie old new → new_request octets asked moment ≡ found
    → StartsWaiting moment (Some octets) old new number found
goes_out octets asked moment old new number found fresh is = subst (λ (r : Request). StartsWaiting moment (Some octets) old new number r) is (record { said = refl; timer = refl; fresh = fresh })

none_by : (o : Option Request) → ((request : Request) → o ≡ Some request → ⊥) → o ≡ None
none_by None never = refl
none_by (Some request) never = absurd (never request refl)

-- what stands after one more was issued
issued_put : (old : OwnRequests Request) (request : Request) (new : OwnRequests Request) (number : ℕ) (found : Request) → IssuesNext old request new → map.get new.outstanding number ≡ Some found
    → (map.get old.outstanding number ≡ Some found) ⊎ ((number ≡ old.next) × (request ≡ found))
issued_put old request new number found is there =
    elim (put_at is.ready.outstanding old.next request number found (sym (ap (λ (r : OwnRequests Request). map.get r.outstanding number) is.issued.content) ∙ there)) [
      | inl before ↦ inl (sym (ap (λ (r : OwnRequests Request). map.get r.outstanding number) is.prepared.content) ∙ before)
      | inr now ↦ inr now
    ]

none_first : (number : ℕ) (request : Request) → map.get {R = nat_cmp} (map.empty {X = Request}) number ≡ Some request → ⊥
none_first number request there = some_none request (sym (map.get-empty {X = Request} nat_cmp number) ∙ there)

-- Message ID 0 alone waits for the response to IKE_SA_INIT
init_number : (old : Association) (sent : InitSent) (number : ℕ) (request : Request) → IsSoundlyHeld old → old.phase ≡ phase.InitSent sent → map.get old.outgoing.outstanding number ≡ Some request → number ≡ 0
init_number old sent number request held was there = (subst (λ (p : Phase). SuitPhase p old.outgoing.outstanding) was held.waits number request there).0

way_waits : (meaning : Meaning) (setup : Setup) (old : Association) (table : Database) (octets : Octets) (m : Message) (e : Effect) (new : Association) (new_table : Database)
    → IsSoundlyHeld old → Way meaning setup old table octets m e new new_table → KeepTimers setup.moment (asked_by e) old new
way_waits meaning setup old table octets m (effect.Refused fault) new new_table held is = λ number request there. inl (sym (ap (λ (x : Association). map.get x.outgoing.outstanding number) is.association) ∙ there)
way_waits meaning setup old table octets m (effect.Repeated reply) new new_table held is = λ number request there. inl (sym (ap (λ (x : Association). map.get x.outgoing.outstanding number) is.same.association) ∙ there)
way_waits meaning setup old table octets m (effect.Replied answered) new new_table held (inl is) =
    let d = is.done in
    fewer_wait setup.moment None old new (concluded_fewer setup (with_incoming old d.incoming) d.between (outcome_of d.decision) answered.fate new new_table d.concluded)
way_waits meaning setup old table octets m (effect.Replied answered) new new_table held (inr is) =
    let d = answered_later meaning setup old table octets m answered new new_table is in
    fewer_wait setup.moment None old new (closed_fewer (closed_by answered.fate) d.ends.serials (with_incoming old d.incoming) d.ends.before setup.moment new d.ends.after d.ends.is)
way_waits meaning setup old table octets m (effect.Counted ended) new new_table held (inl is) =
    let d = is.done in
    fewer_wait setup.moment None old new
    (λ number request there. counted_fewer old.outgoing m.header.id d.request d.outgoing d.counted number request (concluded_fewer setup (with_outgoing old d.outgoing) table d.verdict ended.fate new new_table d.concluded number request there))
way_waits meaning setup old table octets m (effect.Counted ended) new new_table held (inr is) =
    let d = counted_later meaning setup old table octets m ended new new_table is in
    fewer_wait setup.moment None old new
    (λ number request there. counted_fewer old.outgoing m.header.id d.request d.outgoing d.counted number request
    (closed_fewer (closed_by ended.fate) d.ends.serials (with_outgoing old d.outgoing) d.ends.before setup.moment new d.ends.after d.ends.is number request there))
way_waits meaning setup old table octets m (effect.Again next) new new_table held is =
    let takes : TakesCookie old new = record { before = is.sent; was = is.was; after = _; is = ap (λ (x : Association). x.phase) is.done.content; taken = refl } in
    λ number found there.
    elim (put_at old.outgoing.outstanding m.header.id (new_request next Begin setup.moment) number found (sym (ap (λ (r : OwnRequests Request). map.get r.outstanding number) is.done.replaced.content) ∙ there)) [
      | inl before ↦ inl before
      | inr (here, now) ↦ inr (goes_out next Begin setup.moment old new number found (inr takes) now)
    ]
way_waits meaning setup old table octets m (effect.AsksAuth next) new new_table held is =
    λ number found there.
    elim (issued_put number_0_answered (new_request next Identify setup.moment) new.outgoing number found is.done.issued there) [
      | inl before ↦ absurd (none_first number found before)
      | inr (here, now) ↦ inr (goes_out next Identify setup.moment old new number found
          (inl (none_by (map.get old.outgoing.outstanding number) (λ request stood. let zero_it_is = init_number old is.sent number request held is.was stood in omega (arith, here, zero_it_is)))) now)
    ]

pub message_waits : (meaning : Meaning) (setup : Setup) (old : Association) (table : Database) (octets : Octets) (m : Message) (e : Effect) (new : Association) (new_table : Database)
    → IsSoundlyHeld old → TakesMessage meaning setup old table octets m e new new_table → KeepTimers setup.moment (asked_by e) old new
message_waits meaning setup old table octets m e new new_table held is = way_waits meaning setup old table octets m e new new_table held (way_of meaning setup old table octets m e new new_table is)

-- ---- a request for an additional Child SA is made by a command alone

none_said : (octets : Octets) → None ≡ Some octets → ⊥
none_said octets is = cc

-- an initiator that waits for a response of the initial exchanges asked for no additional Child SA
early_asks : (new : Association) (sent : InitSent) (number : ℕ) (request : Request) → IsSoundlyHeld new → new.phase ≡ phase.InitSent sent → map.get new.outgoing.outstanding number ≡ Some request
    → asks_for_child request.purpose ≡ true → ⊥
early_asks new sent number request held is there asks =
    let may = subst (λ (p : Phase). SuitPhase p new.outgoing.outstanding) is held.waits number request there in
    yes_no true refl (sym asks ∙ ap asks_for_child may.1)

auth_asks : (new : Association) (sent : AuthSent) (number : ℕ) (request : Request) → IsSoundlyHeld new → new.phase ≡ phase.AuthSent sent → map.get new.outgoing.outstanding number ≡ Some request
    → asks_for_child request.purpose ≡ true → ⊥
auth_asks new sent number request held is there asks =
    let may = subst (λ (p : Phase). SuitPhase p new.outgoing.outstanding) is held.waits number request there in
    yes_no true refl (sym asks ∙ ap asks_for_child may.1)

way_further : (meaning : Meaning) (setup : Setup) (old : Association) (table : Database) (octets : Octets) (m : Message) (e : Effect) (new : Association) (new_table : Database) (number : ℕ) (request : Request)
    → KeepTimers setup.moment (asked_by e) old new → IsSoundlyHeld new → Way meaning setup old table octets m e new new_table → map.get new.outgoing.outstanding number ≡ Some request
    → asks_for_child request.purpose ≡ true → map.get old.outgoing.outstanding number ≡ Some request
way_further meaning setup old table octets m (effect.Refused fault) new new_table number request timers held is there asks = elim (timers number request there) [
  | inl before ↦ before
  | inr starts ↦ absurd (none_said request.octets starts.said)
]
way_further meaning setup old table octets m (effect.Repeated reply) new new_table number request timers held is there asks = elim (timers number request there) [
  | inl before ↦ before
  | inr starts ↦ absurd (none_said request.octets starts.said)
]
way_further meaning setup old table octets m (effect.Replied answered) new new_table number request timers held is there asks = elim (timers number request there) [
  | inl before ↦ before
  | inr starts ↦ absurd (none_said request.octets starts.said)
]
way_further meaning setup old table octets m (effect.Counted ended) new new_table number request timers held is there asks = elim (timers number request there) [
  | inl before ↦ before
  | inr starts ↦ absurd (none_said request.octets starts.said)
]
way_further meaning setup old table octets m (effect.Again next) new new_table number request timers held is there asks =
    absurd (early_asks new _ number request held (ap (λ (x : Association). x.phase) is.done.content) there asks)
way_further meaning setup old table octets m (effect.AsksAuth next) new new_table number request timers held is there asks =
    absurd (auth_asks new _ number request held (ap (λ (x : Association). x.phase) is.done.content) there asks)

pub waits_further : FollowLaws → Windows → (meaning : Meaning) (setup : Setup) (old : Association) (table : Database) (octets : Octets) (m : Message) (e : Effect) (new : Association) (new_table : Database) (number : ℕ) (request : Request)
    → IsSoundlyHeld old → map.get new.outgoing.outstanding number ≡ Some request → asks_for_child request.purpose ≡ true → TakesMessage meaning setup old table octets m e new new_table
    → map.get old.outgoing.outstanding number ≡ Some request
waits_further laws windows meaning setup old table octets m e new new_table number request held there asks is =
    way_further meaning setup old table octets m e new new_table number request (message_waits meaning setup old table octets m e new new_table held is)
    (stays_sound laws windows meaning setup old table octets m e new new_table held is) (way_of meaning setup old table octets m e new new_table is) there asks

order_asks : (order : Order) → asks_for_child (purpose_of order) ≡ false
order_asks order.Probe = refl
order_asks (order.DeleteChild child spi) = refl
order_asks order.DeleteAssociation = refl

pub ordered_further : (body_of : Keys → Octets → Octets → Octets → Octets) (setup : Setup) (order : Order) (old : Association) (octets : Octets) (new : Association) (number : ℕ) (request : Request)
    → Asks body_of setup order old octets new → map.get new.outgoing.outstanding number ≡ Some request → asks_for_child request.purpose ≡ true → map.get old.outgoing.outstanding number ≡ Some request
ordered_further body_of setup order old octets new number request is there asks =
    elim (issued_put old.outgoing (new_request octets (purpose_of order) setup.moment) is.outgoing number request is.issued (sym (ap (λ (x : Association). map.get x.outgoing.outstanding number) is.content) ∙ there)) [
      | inl before ↦ before
      | inr (here, now) ↦ absurd (yes_no true refl (sym asks ∙ sym (ap (λ (r : Request). asks_for_child r.purpose) now) ∙ order_asks order))
    ]

-- ---- and what waited

replied_until : (old new : OwnRequests Request) (closed ending : Bool) → closed ≡ ending → Keeps old new ⊎ (ending ≡ true) → (number : ℕ) (request : Request) → map.get old.outstanding number ≡ Some request
    → (map.get new.outstanding number ≡ Some request) ⊎ (closed ≡ true)
replied_until old new closed ending same (inl keeps) number request there = inl (keeps number request there)
replied_until old new closed ending same (inr ends) number request there = inr (same ∙ ends)

counted_until : (old between new : OwnRequests Request) (id : ℕ) (answered : Request) (closed ending : Bool) → CountsAnswer old id answered between → closed ≡ ending → Keeps between new ⊎ (ending ≡ true)
    → (number : ℕ) (request : Request) → map.get old.outstanding number ≡ Some request → (map.get new.outstanding number ≡ Some request) ⊎ ((number ≡ id) ⊎ (closed ≡ true))
counted_until old between new id answered closed ending counts same (inl keeps) number request there = elim (counted_keeps old id answered between number request counts there) [
  | inl left ↦ inl (keeps number request left)
  | inr here ↦ inr (inl here)
]
counted_until old between new id answered closed ending counts same (inr ends) number request there = inr (inr (same ∙ ends))

way_until : (meaning : Meaning) (setup : Setup) (old : Association) (table : Database) (octets : Octets) (m : Message) (e : Effect) (new : Association) (new_table : Database)
    → IsSoundlyHeld old → Way meaning setup old table octets m e new new_table → WaitUntil m.header.id e old.outgoing new.outgoing
way_until meaning setup old table octets m (effect.Refused fault) new new_table held is = λ number request there. inl (ap (λ (x : Association). map.get x.outgoing.outstanding number) is.association ∙ there)
way_until meaning setup old table octets m (effect.Repeated reply) new new_table held is = λ number request there. inl (ap (λ (x : Association). map.get x.outgoing.outstanding number) is.same.association ∙ there)
way_until meaning setup old table octets m (effect.Replied answered) new new_table held (inl is) =
    let d = is.done in
    replied_until old.outgoing new.outgoing (closed_by answered.fate) (is_closing (outcome_of d.decision)) (concluded_fate setup (with_incoming old d.incoming) d.between (outcome_of d.decision) answered.fate new new_table d.concluded) (concluded_keeps setup (with_incoming old d.incoming) d.between (outcome_of d.decision) answered.fate new new_table d.concluded)
way_until meaning setup old table octets m (effect.Replied answered) new new_table held (inr is) =
    let d = answered_later meaning setup old table octets m answered new new_table is in
    replied_until old.outgoing new.outgoing (closed_by answered.fate) (closed_by answered.fate) refl (closed_keeps (closed_by answered.fate) d.ends.serials (with_incoming old d.incoming) d.ends.before setup.moment new d.ends.after d.ends.is)
way_until meaning setup old table octets m (effect.Counted ended) new new_table held (inl is) =
    let d = is.done in
    counted_until old.outgoing d.outgoing new.outgoing m.header.id d.request (closed_by ended.fate) (is_closing d.verdict) d.counted (concluded_fate setup (with_outgoing old d.outgoing) table d.verdict ended.fate new new_table d.concluded) (concluded_keeps setup (with_outgoing old d.outgoing) table d.verdict ended.fate new new_table d.concluded)
way_until meaning setup old table octets m (effect.Counted ended) new new_table held (inr is) =
    let d = counted_later meaning setup old table octets m ended new new_table is in
    counted_until old.outgoing d.outgoing new.outgoing m.header.id d.request (closed_by ended.fate) (closed_by ended.fate) d.counted refl (closed_keeps (closed_by ended.fate) d.ends.serials (with_outgoing old d.outgoing) d.ends.before setup.moment new d.ends.after d.ends.is)
way_until meaning setup old table octets m (effect.Again next) new new_table held is = λ number request there. inr (init_number old is.sent number request held is.was there)
way_until meaning setup old table octets m (effect.AsksAuth next) new new_table held is = λ number request there. inr (init_number old is.sent number request held is.was there)

pub message_until : (meaning : Meaning) (setup : Setup) (old : Association) (table : Database) (octets : Octets) (m : Message) (e : Effect) (new : Association) (new_table : Database)
    → IsSoundlyHeld old → TakesMessage meaning setup old table octets m e new new_table → WaitUntil m.header.id e old.outgoing new.outgoing
message_until meaning setup old table octets m e new new_table held is = way_until meaning setup old table octets m e new new_table held (way_of meaning setup old table octets m e new new_table is)

-- ---- since when an IKE SA is closed

abbrev ClosesNow : ℕ → Bool → Association → Association → Option KeyRecord → ℕ → Type 0
ClosesNow moment ending old new keys at = new.phase ≡ phase.Closed keys at → (old.phase ≡ phase.Closed keys at) ⊎ ((at ≡ moment) × (ending ≡ true))

closed_at : (one other : Option KeyRecord) (at moment : ℕ) → phase.Closed one at ≡ phase.Closed other moment → at ≡ moment
closed_at one other at moment is = cc

closed_now : (a new : Association) (moment : ℕ) (keys : Option KeyRecord) (at : ℕ) → new ≡ record a { outgoing = new.outgoing; phase = phase.Closed (keys_in a.phase) moment } → new.phase ≡ phase.Closed keys at → at ≡ moment
closed_now a new moment keys at content is = closed_at keys (keys_in a.phase) at moment (sym is ∙ ap (λ (x : Association). x.phase) content)

established_at : (keys : KeyRecord) (closed : Option KeyRecord) (at : ℕ) → phase.Established keys ≡ phase.Closed closed at → ⊥
established_at keys closed at is = cc

concluded_closes : (setup : Setup) (a : Association) (table : Database) (o : Outcome) (came : Fate) (new : Association) (new_table : Database) (known : KeyRecord) (keys : Option KeyRecord) (at : ℕ)
    → established_of a.phase ≡ phase.Established known → ConcludesBy setup a table o came new new_table → ClosesNow setup.moment (is_closing o) a new keys at
concluded_closes setup a table outcome.Closes came new new_table known keys at was is = λ closed. inr (closed_now a new setup.moment keys at is.over.content closed, refl)
concluded_closes setup a table (outcome.Establishes pair window) came new new_table known keys at was is =
    λ closed. absurd (established_at known keys at (sym was ∙ sym (ap (λ (x : Association). x.phase) is.content) ∙ closed))

ending_closes : (ending : Bool) (serials : List ℕ) (a : Association) (table : Database) (moment : ℕ) (new : Association) (new_table : Database) (keys : Option KeyRecord) (at : ℕ) → ClosesIf ending serials a table moment new new_table → ClosesNow moment ending a new keys at
ending_closes true serials a table moment new new_table keys at is = λ closed. inr (closed_now a new moment keys at is.content closed, refl)
ending_closes false serials a table moment new new_table keys at is = λ closed. inl (sym (ap (λ (x : Association). x.phase) is.0) ∙ closed)

ends_too : (moment : ℕ) (closed ending : Bool) (old new : Association) (keys : Option KeyRecord) (at : ℕ) → closed ≡ ending → ClosesNow moment ending old new keys at → ClosesNow moment closed old new keys at
ends_too moment closed ending old new keys at same is = subst (λ (b : Bool). ClosesNow moment b old new keys at) (sym same) is

init_closed : (sent : InitSent) (keys : Option KeyRecord) (at : ℕ) → phase.InitSent sent ≡ phase.Closed keys at → ⊥
init_closed sent keys at is = cc

auth_closed : (sent : AuthSent) (keys : Option KeyRecord) (at : ℕ) → phase.AuthSent sent ≡ phase.Closed keys at → ⊥
auth_closed sent keys at is = cc

way_closes : (meaning : Meaning) (setup : Setup) (old : Association) (table : Database) (octets : Octets) (m : Message) (e : Effect) (new : Association) (new_table : Database) (keys : Option KeyRecord) (at : ℕ)
    → Way meaning setup old table octets m e new new_table → new.phase ≡ phase.Closed keys at → (old.phase ≡ phase.Closed keys at) ⊎ ((at ≡ setup.moment) × ClosesAssociation e)
way_closes meaning setup old table octets m (effect.Refused fault) new new_table keys at is = λ closed. inl (sym (ap (λ (x : Association). x.phase) is.association) ∙ closed)
way_closes meaning setup old table octets m (effect.Repeated reply) new new_table keys at is = λ closed. inl (sym (ap (λ (x : Association). x.phase) is.same.association) ∙ closed)
way_closes meaning setup old table octets m (effect.Replied answered) new new_table keys at (inl is) =
    let d = is.done in
    ends_too setup.moment (closed_by answered.fate) (is_closing (outcome_of d.decision)) (with_incoming old d.incoming) new keys at (concluded_fate setup (with_incoming old d.incoming) d.between (outcome_of d.decision) answered.fate new new_table d.concluded)
    (concluded_closes setup (with_incoming old d.incoming) d.between (outcome_of d.decision) answered.fate new new_table d.opened.keys keys at (ap established_of d.was) d.concluded)
way_closes meaning setup old table octets m (effect.Replied answered) new new_table keys at (inr is) =
    let d = answered_later meaning setup old table octets m answered new new_table is in
    ending_closes (closed_by answered.fate) d.ends.serials (with_incoming old d.incoming) d.ends.before setup.moment new d.ends.after keys at d.ends.is
way_closes meaning setup old table octets m (effect.Counted ended) new new_table keys at (inl is) =
    let d = is.done in
    ends_too setup.moment (closed_by ended.fate) (is_closing d.verdict) (with_outgoing old d.outgoing) new keys at (concluded_fate setup (with_outgoing old d.outgoing) table d.verdict ended.fate new new_table d.concluded)
    (concluded_closes setup (with_outgoing old d.outgoing) table d.verdict ended.fate new new_table d.sent.keys keys at (ap established_of d.was) d.concluded)
way_closes meaning setup old table octets m (effect.Counted ended) new new_table keys at (inr is) =
    let d = counted_later meaning setup old table octets m ended new new_table is in
    ending_closes (closed_by ended.fate) d.ends.serials (with_outgoing old d.outgoing) d.ends.before setup.moment new d.ends.after keys at d.ends.is
way_closes meaning setup old table octets m (effect.Again next) new new_table keys at is = λ closed. absurd (init_closed _ keys at (sym (ap (λ (x : Association). x.phase) is.done.content) ∙ closed))
way_closes meaning setup old table octets m (effect.AsksAuth next) new new_table keys at is = λ closed. absurd (auth_closed _ keys at (sym (ap (λ (x : Association). x.phase) is.done.content) ∙ closed))

pub message_closes : (meaning : Meaning) (setup : Setup) (old : Association) (table : Database) (octets : Octets) (m : Message) (e : Effect) (new : Association) (new_table : Database) (keys : Option KeyRecord) (at : ℕ)
    → TakesMessage meaning setup old table octets m e new new_table → new.phase ≡ phase.Closed keys at → (old.phase ≡ phase.Closed keys at) ⊎ ((at ≡ setup.moment) × ClosesAssociation e)
message_closes meaning setup old table octets m e new new_table keys at is = way_closes meaning setup old table octets m e new new_table keys at (way_of meaning setup old table octets m e new new_table is)

-- ---- as an IKE SA asks, and begins

pub requested_waits : (body_of : Keys → Octets → Octets → Octets → Octets) (setup : Setup) (old : Association) (octets : Octets) (new : Association) → IsSoundlyHeld old → SendsRequest body_of setup old octets new
    → KeepTimers setup.moment (Some octets) old new
requested_waits body_of setup old octets new held is number found there =
    elim (issued_put old.outgoing (new_request octets is.purpose setup.moment) is.outgoing number found is.issued (sym (ap (λ (x : Association). map.get x.outgoing.outstanding number) is.content) ∙ there)) [
      | inl before ↦ inl before
      | inr (here, now) ↦ inr (goes_out octets is.purpose setup.moment old new number found
          (inl (none_by (map.get old.outgoing.outstanding number) (λ request stood. let less = held.issued number request stood in omega (arith, here, less)))) now)
    ]

pub requested_next : (body_of : Keys → Octets → Octets → Octets → Octets) (setup : Setup) (old : Association) (octets : Octets) (new : Association) (number : ℕ) (request : Request) → SendsRequest body_of setup old octets new
    → map.get new.outgoing.outstanding number ≡ Some request → (map.get old.outgoing.outstanding number ≡ Some request) ⊎ (number ≡ old.outgoing.next)
requested_next body_of setup old octets new number request is there =
    elim (issued_put old.outgoing (new_request octets is.purpose setup.moment) is.outgoing number request is.issued (sym (ap (λ (x : Association). map.get x.outgoing.outstanding number) is.content) ∙ there)) [
      | inl before ↦ inl before
      | inr (here, now) ↦ inr here
    ]

pub requested_keeps : (body_of : Keys → Octets → Octets → Octets → Octets) (setup : Setup) (old : Association) (octets : Octets) (new : Association) (number : ℕ) (request : Request) → IsSoundlyHeld old → SendsRequest body_of setup old octets new
    → map.get old.outgoing.outstanding number ≡ Some request → map.get new.outgoing.outstanding number ≡ Some request
requested_keeps body_of setup old octets new number request held is there =
    let less = held.issued number request there in
    let put = new_request octets is.purpose setup.moment in
    elim (eqb_tells number old.outgoing.next) [
      | inl (one, same) ↦ absurd (omega (arith, same, less))
      | inr (none, apart) ↦ ap (λ (x : Association). map.get x.outgoing.outstanding number) is.content
          ∙ ap (λ (r : OwnRequests Request). map.get r.outstanding number) is.issued.issued.content
          ∙ map.get-insert nat_cmp_total is.issued.ready.outstanding old.outgoing.next put number
          ∙ ap (λ b. cond b (Some put) (map.get is.issued.ready.outstanding number)) (unsigned_tied number old.outgoing.next ∙ none)
          ∙ ap (λ (r : OwnRequests Request). map.get r.outstanding number) is.issued.prepared.content ∙ there
    ]

pub begun_waits : (cipher : Cipher) (group : ℕ) (public_value : Octets → Octets) (fresh : Fresh) (moment serial : ℕ) (beginning : Beginning) (child : AskedChildView) (number : ℕ) (request : Request)
    → Begins cipher group public_value fresh moment beginning → map.get (begun serial beginning child).outgoing.outstanding number ≡ Some request
    → (beginning.octets ≡ request.octets) × (request.timer ≡ record { sent = moment; repeats = 0 })
begun_waits cipher group public_value fresh moment serial beginning child number request is there =
    elim (issued_put none_issued (new_request beginning.octets Begin moment) beginning.outgoing number request is.issued there) [
      | inl before ↦ absurd (none_first number request before)
      | inr (here, now) ↦ (ap (λ (r : Request). r.octets) now, sym (ap (λ (r : Request). r.timer) now))
    ]
