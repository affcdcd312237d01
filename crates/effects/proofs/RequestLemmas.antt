-- What a message does to the peer's requests of one IKE SA.
use Rattle.std.proofs.Common.{◌≡◌, ◌≢◌, ◌==◌, ◌||◌, ◌⊎◌, inl, inr, ℕ, ◌+◌, ◌≤◌, Bool, true, false, cond, max, Option, Some, None, ap, refl, subst, sym, ◌∙◌, arith, List}
use Rattle.std.specs.Cmp.{nat_cmp_total, unsigned_tied}
use Rattle.std.specs.FinMap as map
use Rattle.std.specs.FinSet as set
use Rattle.std.specs.Ordering.{nat_cmp}
use Rattle.std.specs.Prelude.{if◌then◌else◌}
use Rattle.std.proofs.Math.Nat.{le-max_right}
use Rattle.std.proofs.lemmas.Bool.Decides.{eqb_tells}
use Rattle.base.specs.Octets.{Octets}
use Rattle.wire.specs.Numbers.{INFORMATIONAL}
use Rattle.wire.specs.declared.message.Message.{Message}
use Rattle.wire.specs.declared.payload.Payload.{Payload}
use Rattle.suite.specs.declared.fresh.Fresh.{Fresh}
use Rattle.suite.specs.declared.key_record.KeyRecord.{KeyRecord}
use Rattle.suite.specs.declared.keys.Keys.{Keys}
use Rattle.suite.specs.declared.sealer.Cipher.{Cipher}
use Rattle.exchange.specs.declared.headers.Role.TheVariants.{Initiator, Responder}
use Rattle.exchange.specs.declared.sealed.Plain.{Plain}
use Rattle.requests.specs.Following.{FollowsIncoming}
use Rattle.requests.specs.Incoming.{no_requests, HasSameRequests, IsFreshRequest, IsJudgement, IsLeftBehind, PeerRequests, TakesRequest}
use Rattle.requests.specs.Numbers.{HasNumber, LacksNumber, NumberSet}
use Rattle.requests.specs.declared.incoming.Judgement.{Judgement}
use Rattle.requests.specs.declared.incoming.Judgement.TheVariants as judged
use Rattle.requests.specs.Outgoing.{none_issued, number_0_answered, CountsAnswer, OwnRequests, ReplacesRequest}
use Rattle.sadb.specs.Database.{Database}
use Rattle.sa_init.specs.Judging.{OfferView}
use Rattle.association.specs.Closing.{Closes}
use Rattle.association.specs.AskedChildren.{AskedChildView}
use Rattle.association.specs.Phases.{established_of, keys_in}
use Rattle.association.specs.Receiving.{admits, fresh_reception, judged_reception, opened_by, repeated_reception, Answers, AnswersInitial, IsEffective, IsReceived, IsReceivedBy, IsReceivedRequest, IsRepeating, Opening, Reception, Refused, Repeat, TakesEffect}
use Rattle.association.specs.declared.fault.MessageFault.{MessageFault}
use Rattle.association.specs.declared.fault.MessageFault.TheVariants as why
use Rattle.association.specs.declared.phase.Association.{Association}
use Rattle.association.specs.declared.phase.AuthSent.{AuthSent}
use Rattle.association.specs.declared.phase.HalfOpen.{HalfOpen}
use Rattle.association.specs.declared.phase.InitSent.{InitSent}
use Rattle.association.specs.declared.phase.Phase.{Phase}
use Rattle.association.specs.declared.phase.Phase.TheVariants as phase
use Rattle.association.specs.declared.phase.Request.{Request}
use Rattle.association.specs.declared.purpose.Purpose.TheVariants.{Begin, Identify}
use Rattle.auth.specs.Proofs.{Accepts}
use Rattle.auth.specs.Windows.{peer_window, IsWindow, WINDOW_LIMIT}
use Rattle.initial.specs.Answering.{outcome_of, AnswersAuth}
use Rattle.association.specs.Admitting.{Admits}
use Rattle.initial.specs.Beginning.{begun, Begins}
use Rattle.initial.specs.Concluding.{established, widened, ConcludesBy}
use Rattle.association.specs.Issuing.{with_incoming, with_outgoing, new_request, IssuesNext}
use Rattle.setup.specs.Configs.{Setup}
use Rattle.initial.specs.Deciding.{IsDecision}
use Rattle.initial.specs.Ending.{IsAuthSent, IsVerdict}
use Rattle.initial.specs.Reading.{IsInitSent}
use Rattle.association.specs.declared.outcome.Answered.{Answered}
use Rattle.association.specs.declared.admitting.Admitted.{Admitted}
use Rattle.initial.specs.declared.beginning.Beginning.{Beginning}
use Rattle.initial.specs.declared.concluding.Outcome.{Outcome}
use Rattle.initial.specs.declared.concluding.Outcome.TheVariants as outcome
use Rattle.initial.specs.declared.deciding.Decision.{Decision}
use Rattle.initial.specs.declared.deciding.Decision.TheVariants as decision
use Rattle.informational.specs.Orders.{ClosesIf}
use Rattle.effects.specs.Keeping.{HasKeys}
use Rattle.effects.specs.Requests.{is_concluded, IsPassing, IsSoundlyHeld, KeepsWindow, PutsIntoEffect, StaysConcluded}
use Rattle.effects.specs.Sending.{SendsRequest}
use Rattle.effects.specs.Taking.{asked_further, prover_of, Does, DoesAnswer, DoesAtEstablished, DoesRequest, DoesResponse, Meaning, TakesMessage}
use Rattle.effects.specs.Waiting.{AreIssued, MayBeOutstanding, SuitPhase}
use Rattle.effects.specs.declared.taking.Effect.{Effect}
use Rattle.effects.specs.declared.taking.Effect.TheVariants as effect
use Rattle.effects.proofs.KeepingLemmas.{established_keys}
use Rattle.effects.proofs.WayLemmas.{answered_later, counted_later, further_later, informed_later, way_of, AnsweredLater, Way}
use Rattle.association.specs.Outcomes.{closed_by}
use Rattle.association.specs.declared.outcome.Fate.{Fate}

-- what is known of the peer's requests
pub record FollowLaws : Type 0 where
  pub reflexive : (a : PeerRequests) → FollowsIncoming a a
  pub transitive : (a b c : PeerRequests) → FollowsIncoming a b → FollowsIncoming b c → FollowsIncoming a c
  pub preparing : (old new : PeerRequests) → HasSameRequests old new → FollowsIncoming old new
  pub taking : (old new : PeerRequests) (number : ℕ) (reply : Octets) → TakesRequest old number reply new → FollowsIncoming old new
  pub sizing : (old new : PeerRequests) (size : ℕ) → old.size ≤ size → new ≡ record old { size = size } → FollowsIncoming old new

-- what is known of windows that are told
abbrev pub Windows : Type 0
Windows = (payloads : List Payload) → IsWindow (peer_window payloads)

some_none : {T : Type 0} (x : T) → None ≡ Some x → ⊥
some_none x is = cc

pub yes_no : (b : Bool) → b ≡ true → b ≡ false → ⊥
yes_no b one other = cc

-- ---- what holds of the cached responses

-- the part of it that the peer's requests say alone
record KeptWell (r : PeerRequests) : Type 0 where
  in_effect : (number : ℕ) (reply : Octets) → map.get r.kept number ≡ Some reply → HasNumber r.in_effect number
  near : (number : ℕ) (reply : Octets) → map.get r.kept number ≡ Some reply → ¬ IsLeftBehind r number

kept_well : (a : Association) → IsSoundlyHeld a → KeptWell a.incoming
kept_well a held = record { in_effect = held.in_effect; near = held.near }

well_as : (a b : PeerRequests) → b ≡ a → KeptWell a → KeptWell b
well_as a b same well = subst (λ r. KeptWell r) (sym same) well

-- with a wider window no more Message IDs lie below it
well_wider : (r : PeerRequests) (size : ℕ) → r.size ≤ size → KeptWell r → KeptWell (record r { size = size })
well_wider r size wider well = record {
  in_effect = well.in_effect;
  near = λ number reply kept behind.
      well.near number reply kept (record { later = behind.later; in_effect = behind.in_effect; far = omega (arith, wider, behind.far) });
}

or_true : (b c : Bool) → c ≡ true → (b || c) ≡ true
or_true true c is = refl
or_true false c is = is

pub inserted : (numbers : NumberSet) (n : ℕ) → HasNumber (set.insert numbers n) n
inserted numbers n = elim (eqb_tells n n) [
  | inl (one, same) ↦ set.contains-insert nat_cmp_total numbers n n ∙ ap (λ b. b || set.contains numbers n) (unsigned_tied n n ∙ one)
  | inr (none, apart) ↦ absurd (apart refl)
]

inserted_other : (numbers : NumberSet) (n m : ℕ) → HasNumber numbers m → HasNumber (set.insert numbers n) m
inserted_other numbers n m has = set.contains-insert nat_cmp_total numbers n m ∙ or_true _ (set.contains numbers m) has

-- a Message ID that came is the one that was put in
pub came : (numbers : NumberSet) (n m : ℕ) → LacksNumber numbers m → HasNumber (set.insert numbers n) m → m ≡ n
came numbers n m lacks has = elim (eqb_tells m n) [
  | inl (one, same) ↦ same
  | inr (none, apart) ↦ absurd (yes_no _ (sym (set.contains-insert nat_cmp_total numbers n m) ∙ has) (ap (λ b. b || set.contains numbers m) (unsigned_tied m n ∙ none) ∙ lacks))
]

kept_was : (kept : map.FinMap nat_cmp Octets) (n : ℕ) (reply : Octets) (m : ℕ) (octets : Octets) → map.get (map.insert kept n reply) m ≡ Some octets → (m ≡ n) ⊎ (map.get kept m ≡ Some octets)
kept_was kept n reply m octets is = elim (eqb_tells m n) [
  | inl (one, same) ↦ inl same
  | inr (none, apart) ↦ inr (sym (map.get-insert nat_cmp_total kept n reply m ∙ ap (λ b. cond b (Some reply) (map.get kept m)) (unsigned_tied m n ∙ none)) ∙ is)
]

well_taken : (old new : PeerRequests) (number : ℕ) (reply : Octets) → KeptWell old → TakesRequest old number reply new → KeptWell new
well_taken old new number reply well is = record {
  in_effect = λ m octets kept. subst (λ (s : NumberSet). HasNumber s m) (sym is.in_effect)
      (elim (kept_was old.kept number reply m octets ((is.kept m octets).0 kept).0) [
        | inl same ↦ subst (λ k. HasNumber (set.insert old.in_effect number) k) (sym same) (inserted old.in_effect number)
        | inr before ↦ inserted_other old.in_effect number m (well.in_effect m octets before)
      ]);
  near = λ m octets kept. ((is.kept m octets).0 kept).1;
}

-- ---- what a message leaves of an IKE SA

-- the peer's window is widened to one of 16 at most
record BoundsWider (old new : Association) : Type 0 where
  before : is_concluded old.phase ≡ false
  after : is_concluded new.phase ≡ true
  told : ℕ
  is_window : IsWindow told
  window : new.outgoing.window ≡ max told old.outgoing.window

abbrev BoundsPeersWindow : Association → Association → Type 0
BoundsPeersWindow old new = (new.outgoing.window ≡ old.outgoing.window) ⊎ BoundsWider old new

record Leaves (own : ℕ) (old new : Association) : Type 0 where
  window : KeepsWindow own old new
  follows : FollowsIncoming old.incoming new.incoming
  concluded : is_concluded old.phase ≡ true → StaysConcluded old new
  half_open : (opened : HalfOpen) → new.phase ≡ phase.HalfOpen opened → old.phase ≡ phase.HalfOpen opened
  sound : IsSoundlyHeld old → IsSoundlyHeld new

same_leaves : (laws : FollowLaws) (own : ℕ) (old new : Association) → new ≡ old → Leaves own old new
same_leaves laws own old new same = record {
  window = inl (ap (λ (x : Association). x.incoming.size) same);
  follows = subst (λ (x : Association). FollowsIncoming old.incoming x.incoming) (sym same) (laws.reflexive old.incoming);
  concluded = λ is. record { concluded = subst (λ (x : Association). is_concluded x.phase ≡ true) (sym same) is; size = ap (λ (x : Association). x.incoming.size) same };
  half_open = λ opened is. sym (ap (λ (x : Association). x.phase) same) ∙ is;
  sound = λ held. subst (λ (x : Association). IsSoundlyHeld x) (sym same) held;
}

-- what is left of an IKE SA when its exchange is done: its requests or wider ones, in a phase that is
-- concluded
record Concludes (a new : Association) : Type 0 where
  follows : FollowsIncoming a.incoming new.incoming
  in_effect : new.incoming.in_effect ≡ a.incoming.in_effect
  kept : new.incoming.kept ≡ a.incoming.kept
  well : KeptWell a.incoming → KeptWell new.incoming
  concluded : is_concluded new.phase ≡ true
  keys : keys_in new.phase ≡ keys_in a.phase
  role : new.role ≡ a.role
  spi_r : new.spi_r ≡ a.spi_r
  waits : SuitPhase (established_of a.phase) a.outgoing.outstanding → SuitPhase new.phase new.outgoing.outstanding
  issued : AreIssued a.outgoing → AreIssued new.outgoing

-- who is known stays so
concluded_stays : (p : Phase) → is_concluded p ≡ true → established_of p ≡ p
concluded_stays (phase.InitSent sent) is = absurd cc
concluded_stays (phase.AuthSent sent) is = absurd cc
concluded_stays (phase.HalfOpen opened) is = absurd cc
concluded_stays (phase.Established keys) is = refl
concluded_stays (phase.Closed keys at) is = refl

same_request : (one other : Request) → Some one ≡ Some other → one ≡ other
same_request one other is = cc

none_outstanding : (number : ℕ) (request : Request) → map.get {R = nat_cmp} (map.empty {X = Request}) number ≡ Some request → ⊥
none_outstanding number request there = some_none request (sym (map.get-empty {X = Request} nat_cmp number) ∙ there)

concludes_as : (a b new : Association) → new ≡ b → Concludes a b → Concludes a new
concludes_as a b new same is = subst (λ (x : Association). Concludes a x) (sym same) is

over_concludes : (laws : FollowLaws) (a : Association) (table : Database) (moment : ℕ) (new : Association) (new_table : Database) → Closes a table moment new new_table → Concludes a new
over_concludes laws a table moment new new_table is =
    concludes_as a (record a { outgoing = new.outgoing; phase = phase.Closed (keys_in a.phase) moment }) new is.content
    (record {
      follows = laws.reflexive a.incoming;
      in_effect = refl;
      kept = refl;
      well = λ w. w;
      concluded = refl;
      keys = refl;
      role = refl;
      spi_r = refl;
      waits = λ before number request there. absurd (none_outstanding number request (sym (ap (λ (r : OwnRequests Request). map.get r.outstanding number) is.requests.content) ∙ there));
      issued = λ before number request there. absurd (none_outstanding number request (sym (ap (λ (r : OwnRequests Request). map.get r.outstanding number) is.requests.content) ∙ there));
    })

auth_concludes : (laws : FollowLaws) (setup : Setup) (a : Association) (table : Database) (o : Outcome) (came : Fate) (new : Association) (new_table : Database) (keys : KeyRecord)
    → established_of a.phase ≡ phase.Established keys → ConcludesBy setup a table o came new new_table → Concludes a new
auth_concludes laws setup a table outcome.Closes came new new_table keys was is = over_concludes laws a table setup.moment new new_table is.over
auth_concludes laws setup a table (outcome.Establishes pair window) came new new_table keys was is =
    let size = max setup.config.window a.incoming.size in
    concludes_as a (widened setup.config.window window (established a)) new is.content
    (record {
      follows = laws.sizing a.incoming (record a.incoming { size = size }) size (le-max_right setup.config.window a.incoming.size) refl;
      in_effect = refl;
      kept = refl;
      well = well_wider a.incoming size (le-max_right setup.config.window a.incoming.size);
      concluded = ap is_concluded was;
      keys = established_keys a.phase;
      role = refl;
      spi_r = refl;
      waits = λ before. before;
      issued = λ before. before;
    })

closing_concludes : (laws : FollowLaws) (ending : Bool) (serials : List ℕ) (a : Association) (table : Database) (moment : ℕ) (new : Association) (new_table : Database) → is_concluded a.phase ≡ true
    → ClosesIf ending serials a table moment new new_table → Concludes a new
closing_concludes laws true serials a table moment new new_table concluded is = over_concludes laws a table moment new new_table is
closing_concludes laws false serials a table moment new new_table concluded is =
    concludes_as a a new is.0
    (record {
      follows = laws.reflexive a.incoming;
      in_effect = refl;
      kept = refl;
      well = λ w. w;
      concluded = concluded;
      keys = refl;
      role = refl;
      spi_r = refl;
      waits = subst (λ (p : Phase). SuitPhase p a.outgoing.outstanding) (concluded_stays a.phase concluded);
      issued = λ before. before;
    })

-- the window is widened where the IKE SA is established
auth_window : (setup : Setup) (a : Association) (table : Database) (o : Outcome) (came : Fate) (new : Association) (new_table : Database) (keys : KeyRecord)
    → is_concluded a.phase ≡ false → established_of a.phase ≡ phase.Established keys → ConcludesBy setup a table o came new new_table → KeepsWindow setup.config.window a new
auth_window setup a table outcome.Closes came new new_table keys open_yet was is = inl (ap (λ (x : Association). x.incoming.size) is.over.content)
auth_window setup a table (outcome.Establishes pair window) came new new_table keys open_yet was is = inr (record {
  before = open_yet;
  after = record { keys = keys; is = ap (λ (x : Association). x.phase) is.content ∙ was };
  size = ap (λ (x : Association). x.incoming.size) is.content;
})

-- so is the peer's, to what it told
abbrev pub TellsWindow : Outcome → Type 0
TellsWindow outcome.Closes = Unit {0}
TellsWindow (outcome.Establishes pair window) = IsWindow window

pub decided_window : Windows → (accepts : Accepts) (setup : Setup) (ike : ℕ) (opened : HalfOpen) (table : Database) (payloads : Option (List Payload)) (d : Decision)
    → IsDecision accepts setup ike opened table payloads d → TellsWindow (outcome_of d)
decided_window windows accepts setup ike opened table None (decision.Refused notice) is = tt
decided_window windows accepts setup ike opened table None (decision.Accepted answer window) is = absurd is
decided_window windows accepts setup ike opened table (Some payloads) (decision.Refused notice) is = tt
decided_window windows accepts setup ike opened table (Some payloads) (decision.Accepted answer window) is =
    subst (λ n. IsWindow n) (sym (is.told ∙ is.judged.told)) (windows payloads)

pub judged_window : Windows → (accepts : Accepts) (setup : Setup) (ike : ℕ) (sent : AuthSent) (payloads : Option (List Payload)) (o : Outcome)
    → IsVerdict accepts setup ike sent payloads o → TellsWindow o
judged_window windows accepts setup ike sent None outcome.Closes is = tt
judged_window windows accepts setup ike sent None (outcome.Establishes pair window) is = absurd is
judged_window windows accepts setup ike sent (Some payloads) outcome.Closes is = tt
judged_window windows accepts setup ike sent (Some payloads) (outcome.Establishes pair window) is = subst (λ n. IsWindow n) (sym is.told) (windows payloads)

auth_peers : (setup : Setup) (a : Association) (table : Database) (o : Outcome) (came : Fate) (new : Association) (new_table : Database) (keys : KeyRecord)
    → is_concluded a.phase ≡ false → established_of a.phase ≡ phase.Established keys → TellsWindow o → ConcludesBy setup a table o came new new_table → BoundsPeersWindow a new
auth_peers setup a table outcome.Closes came new new_table keys open_yet was tells is = inl (ap (λ (r : OwnRequests Request). r.window) is.over.requests.content)
auth_peers setup a table (outcome.Establishes pair window) came new new_table keys open_yet was tells is = inr (record {
  before = open_yet;
  after = ap (λ (x : Association). is_concluded x.phase) is.content ∙ ap is_concluded was;
  told = window;
  is_window = tells;
  window = ap (λ (x : Association). x.outgoing.window) is.content;
})

-- it is 16 at most from then on
narrow : (old new : Association) → old.outgoing.window ≤ WINDOW_LIMIT → BoundsPeersWindow old new → new.outgoing.window ≤ WINDOW_LIMIT
narrow old new before (inl same) = omega (arith, before, same)
narrow old new before (inr widened) = omega (arith, before, widened.window, widened.is_window.widest)

-- the window of one that has as wide a one
peers_from : (old a new : Association) → a.phase ≡ old.phase → a.outgoing.window ≡ old.outgoing.window → BoundsPeersWindow a new → BoundsPeersWindow old new
peers_from old a new same_phase same (inl kept) = inl (kept ∙ same)
peers_from old a new same_phase same (inr widened) = inr (record {
  before = ap is_concluded (sym same_phase) ∙ widened.before;
  after = widened.after;
  told = widened.told;
  is_window = widened.is_window;
  window = widened.window ∙ ap (max widened.told) same;
})

-- that none is half-open
concluded_opens : (p : Phase) (opened : HalfOpen) → is_concluded p ≡ true → p ≡ phase.HalfOpen opened → ⊥
concluded_opens p opened is opens = yes_no (is_concluded p) is (ap is_concluded opens)

concluded_waits : (p : Phase) → is_concluded p ≡ true → IsInitSent p ⊎ IsAuthSent p → ⊥
concluded_waits p concluded (inl is) = yes_no (is_concluded p) concluded (ap is_concluded is.is)
concluded_waits p concluded (inr is) = yes_no (is_concluded p) concluded (ap is_concluded is.is)

sound_by : (old a new : Association) → a.phase ≡ old.phase → a.role ≡ old.role → a.spi_r ≡ old.spi_r → Concludes a new → KeptWell a.incoming
    → SuitPhase (established_of a.phase) a.outgoing.outstanding → AreIssued a.outgoing → BoundsPeersWindow old new → IsSoundlyHeld old → IsSoundlyHeld new
sound_by old a new same_phase same_role same_spi done well waits issued peers held =
    let after = done.well well in
    record {
      in_effect = after.in_effect;
      near = after.near;
      concluded = λ number reply kept. done.concluded;
      named = λ keyed initiator zero. held.named (record { keys = keyed.keys; are = sym (done.keys ∙ ap keys_in same_phase) ∙ keyed.are })
          (sym (done.role ∙ same_role) ∙ initiator) (sym (done.spi_r ∙ same_spi) ∙ zero);
      waits = done.waits waits;
      issued = done.issued issued;
      took_none = λ is. absurd (concluded_waits new.phase done.concluded is);
      took_first = λ is. absurd (concluded_opens new.phase is.opened done.concluded is.is);
      peers = narrow old new held.peers peers;
    }

well_ready : (old ready : PeerRequests) → HasSameRequests old ready → KeptWell old → KeptWell ready
well_ready old ready prepared well = subst (λ (r : PeerRequests). KeptWell r) (sym prepared.content) (record { in_effect = well.in_effect; near = well.near })

-- the window of one that has as wide a one
window_from : (own : ℕ) (old a new : Association) → a.phase ≡ old.phase → a.incoming.size ≡ old.incoming.size → KeepsWindow own a new → KeepsWindow own old new
window_from own old a new same_phase same (inl kept) = inl (kept ∙ same)
window_from own old a new same_phase same (inr widened) =
    inr (record { before = ap is_concluded (sym same_phase) ∙ widened.before; after = widened.after; size = widened.size ∙ ap (max own) same })

-- the window stays as wide as a request is processed
pub taken_size : (old ready : PeerRequests) (number : ℕ) (reply : Octets) (new : PeerRequests) → HasSameRequests old ready → TakesRequest ready number reply new → new.size ≡ old.size
taken_size old ready number reply new prepared taken = taken.size ∙ ap (λ (r : PeerRequests). r.size) prepared.content

-- a request was processed
taken_leaves : (laws : FollowLaws) (own : ℕ) (old : Association) (ready incoming : PeerRequests) (number : ℕ) (reply : Octets) (new : Association)
    → HasSameRequests old.incoming ready → TakesRequest ready number reply incoming → Concludes (with_incoming old incoming) new
    → (is_concluded old.phase ≡ true → new.incoming.size ≡ incoming.size) → KeepsWindow own (with_incoming old incoming) new → BoundsPeersWindow (with_incoming old incoming) new
    → (SuitPhase old.phase old.outgoing.outstanding → SuitPhase (established_of old.phase) old.outgoing.outstanding) → Leaves own old new
taken_leaves laws own old ready incoming number reply new prepared taken done size window peers waits = record {
  window = window_from own old (with_incoming old incoming) new refl (taken.size ∙ ap (λ (r : PeerRequests). r.size) prepared.content) window;
  follows = laws.transitive old.incoming incoming new.incoming
      (laws.transitive old.incoming ready incoming (laws.preparing old.incoming ready prepared) (laws.taking ready incoming number reply taken)) done.follows;
  concluded = λ is. record { concluded = done.concluded; size = size is ∙ taken.size ∙ ap (λ (r : PeerRequests). r.size) prepared.content };
  half_open = λ opened opens. absurd (concluded_opens new.phase opened done.concluded opens);
  sound = λ held. sound_by old (with_incoming old incoming) new refl refl refl done
      (well_taken ready incoming number reply (well_ready old.incoming ready prepared (kept_well old held)) taken) (waits held.waits) held.issued
      (peers_from old (with_incoming old incoming) new refl refl peers) held;
}

-- a response was matched
counted_leaves : (laws : FollowLaws) (own : ℕ) (old a new : Association) → a.incoming ≡ old.incoming → a.phase ≡ old.phase → a.role ≡ old.role → a.spi_r ≡ old.spi_r
    → Concludes a new → (is_concluded old.phase ≡ true → new.incoming.size ≡ old.incoming.size) → KeepsWindow own a new → a.outgoing.window ≡ old.outgoing.window → BoundsPeersWindow a new
    → (SuitPhase old.phase old.outgoing.outstanding → SuitPhase (established_of a.phase) a.outgoing.outstanding) → (AreIssued old.outgoing → AreIssued a.outgoing) → Leaves own old new
counted_leaves laws own old a new same same_phase same_role same_spi done size window same_window peers waits issued = record {
  window = window_from own old a new same_phase (ap (λ (r : PeerRequests). r.size) same) window;
  follows = subst (λ (r : PeerRequests). FollowsIncoming r new.incoming) same done.follows;
  concluded = λ is. record { concluded = done.concluded; size = size is };
  half_open = λ opened opens. absurd (concluded_opens new.phase opened done.concluded opens);
  sound = λ held. sound_by old a new same_phase same_role same_spi done (well_as old.incoming a.incoming same (kept_well old held)) (waits held.waits) (issued held.issued)
      (peers_from old a new same_phase same_window peers) held;
}

-- the window stays as wide where nothing but a closing can be
size_if : (ending : Bool) (serials : List ℕ) (a : Association) (table : Database) (moment : ℕ) (new : Association) (new_table : Database) → ClosesIf ending serials a table moment new new_table → new.incoming.size ≡ a.incoming.size
size_if true serials a table moment new new_table is = ap (λ (x : Association). x.incoming.size) is.content
size_if false serials a table moment new new_table is = ap (λ (x : Association). x.incoming.size) is.0

-- so does the peer's
peers_if : (ending : Bool) (serials : List ℕ) (a : Association) (table : Database) (moment : ℕ) (new : Association) (new_table : Database) → ClosesIf ending serials a table moment new new_table → BoundsPeersWindow a new
peers_if true serials a table moment new new_table is = inl (ap (λ (r : OwnRequests Request). r.window) is.requests.content)
peers_if false serials a table moment new new_table is = inl (ap (λ (x : Association). x.outgoing.window) is.0)

-- one request more, or an answer, leaves it
pub issued_window : (old : OwnRequests Request) (request : Request) (new : OwnRequests Request) → IssuesNext old request new → new.window ≡ old.window
issued_window old request new is = ap (λ (r : OwnRequests Request). r.window) is.issued.content ∙ ap (λ (r : OwnRequests Request). r.window) is.prepared.content

pub counted_window : (old : OwnRequests Request) (number : ℕ) (request : Request) (new : OwnRequests Request) → CountsAnswer old number request new → new.window ≡ old.window
counted_window old number request new is = ap (λ (r : OwnRequests Request). r.window) is.content

-- IKE_AUTH is not done yet
not_yet : (p q : Phase) (n m : ℕ) → p ≡ q → is_concluded q ≡ false → is_concluded p ≡ true → n ≡ m
not_yet p q n m is open_yet concluded = absurd (yes_no (is_concluded q) (sym (ap is_concluded is) ∙ concluded) open_yet)

init_opens : (sent : InitSent) (opened : HalfOpen) → phase.InitSent sent ≡ phase.HalfOpen opened → ⊥
init_opens sent opened is = cc

auth_opens : (sent : AuthSent) (opened : HalfOpen) → phase.AuthSent sent ≡ phase.HalfOpen opened → ⊥
auth_opens sent opened is = cc

-- it waits for a response still, and no response is cached yet
early_leaves : (laws : FollowLaws) (own : ℕ) (old new : Association) (sent : InitSent) → new.incoming ≡ old.incoming → old.phase ≡ phase.InitSent sent
    → ((opened : HalfOpen) → new.phase ≡ phase.HalfOpen opened → old.phase ≡ phase.HalfOpen opened)
    → (HasKeys new.phase → new.role ≡ Initiator → new.spi_r ≢ 0) → (SuitPhase (phase.InitSent sent) old.outgoing.outstanding → SuitPhase new.phase new.outgoing.outstanding)
    → (old.outgoing.window ≡ 1 → new.outgoing.window ≡ 1) → new.role ≡ old.role → (AreIssued old.outgoing → AreIssued new.outgoing) → Leaves own old new
early_leaves laws own old new sent same was opens named waits window role issued = record {
  window = inl (ap (λ (r : PeerRequests). r.size) same);
  follows = subst (λ (r : PeerRequests). FollowsIncoming old.incoming r) (sym same) (laws.reflexive old.incoming);
  concluded = λ is. absurd (yes_no (is_concluded old.phase) is (ap is_concluded was));
  half_open = opens;
  sound = λ held.
      let well = well_as old.incoming new.incoming same (kept_well old held) in
      let none = held.took_none (inl (record { sent = sent; is = was })) in
      record {
        in_effect = well.in_effect;
        near = well.near;
        concluded = λ number reply kept.
            absurd (yes_no (is_concluded old.phase) (held.concluded number reply (ap (λ (r : PeerRequests). map.get r.kept number) (sym same) ∙ kept)) (ap is_concluded was));
        named = named;
        waits = waits (subst (λ (q : Phase). SuitPhase q old.outgoing.outstanding) was held.waits);
        issued = issued held.issued;
        took_none = λ is. record {
          role = role ∙ none.role;
          incoming = subst (λ (r : PeerRequests). r ≡ record no_requests { room = r.room }) (sym same) none.incoming;
          window = window none.window;
        };
        took_first = λ is. absurd (init_opens sent is.opened (sym was ∙ opens is.opened is.is));
        peers = let one = window none.window in omega (arith, one);
      };
}

-- ---- what waits for an answer

-- one more waits, or another in its place
inserted_waits : (outstanding : map.FinMap nat_cmp Request) (p : Phase) (n : ℕ) (request : Request) → SuitPhase p outstanding → MayBeOutstanding p n request.purpose → SuitPhase p (map.insert outstanding n request)
inserted_waits outstanding p n request before may number found there = elim (eqb_tells number n) [
  | inl (one, same) ↦ (let is : Some request ≡ Some found = sym (map.get-insert nat_cmp_total outstanding n request number ∙ ap (λ b. cond b (Some request) (map.get outstanding number)) (unsigned_tied number n ∙ one)) ∙ there in
      let its : request ≡ found = cc in
      subst (λ (k : ℕ). MayBeOutstanding p k found.purpose) (sym same) (subst (λ (r : Request). MayBeOutstanding p n r.purpose) its may))
  | inr (none, apart) ↦ before number found (sym (map.get-insert nat_cmp_total outstanding n request number ∙ ap (λ b. cond b (Some request) (map.get outstanding number)) (unsigned_tied number n ∙ none)) ∙ there)
]

-- what stands where one was put: it, or what stood there before
pub put_at : (outstanding : map.FinMap nat_cmp Request) (k : ℕ) (request : Request) (number : ℕ) (found : Request) → map.get (map.insert outstanding k request) number ≡ Some found
    → (map.get outstanding number ≡ Some found) ⊎ ((number ≡ k) × (request ≡ found))
put_at outstanding k request number found there = elim (eqb_tells number k) [
  | inl (one, same) ↦ (let is : Some request ≡ Some found = sym (map.get-insert nat_cmp_total outstanding k request number ∙ ap (λ b. cond b (Some request) (map.get outstanding number)) (unsigned_tied number k ∙ one)) ∙ there in
      inr (same, same_request request found is))
  | inr (none, apart) ↦ inl (sym (map.get-insert nat_cmp_total outstanding k request number ∙ ap (λ b. cond b (Some request) (map.get outstanding number)) (unsigned_tied number k ∙ none)) ∙ there)
]

-- all that waits was issued
next_issued : (old : OwnRequests Request) (request : Request) (new : OwnRequests Request) → IssuesNext old request new → AreIssued old → AreIssued new
next_issued old request new is before number found there =
    let next : new.next ≡ old.next + 1 = ap (λ (r : OwnRequests Request). r.next) is.issued.content ∙ ap (λ (r : OwnRequests Request). r.next + 1) is.prepared.content in
    elim (put_at is.ready.outstanding old.next request number found (sym (ap (λ (r : OwnRequests Request). map.get r.outstanding number) is.issued.content) ∙ there)) [
      | inl was ↦ (let less = before number found (sym (ap (λ (r : OwnRequests Request). map.get r.outstanding number) is.prepared.content) ∙ was) in omega (arith, next, less))
      | inr (here, now) ↦ omega (arith, next, here)
    ]

-- one that waited does no more
record StillWaits (outstanding : map.FinMap nat_cmp Request) (n number : ℕ) (request : Request) : Type 0 where
  other : number ≢ n
  there : map.get outstanding number ≡ Some request

removed_waits : (outstanding : map.FinMap nat_cmp Request) (n number : ℕ) (request : Request) → map.get (map.remove outstanding n) number ≡ Some request → StillWaits outstanding n number request
removed_waits outstanding n number request there = elim (eqb_tells number n) [
  | inl (one, same) ↦ absurd (some_none request (sym (map.get-remove nat_cmp_total outstanding n number ∙ ap (λ b. cond b None (map.get outstanding number)) (unsigned_tied number n ∙ one)) ∙ there))
  | inr (none, apart) ↦ record {
    other = apart;
    there = sym (map.get-remove nat_cmp_total outstanding n number ∙ ap (λ b. cond b None (map.get outstanding number)) (unsigned_tied number n ∙ none)) ∙ there;
  }
]

counted_out : (old : OwnRequests Request) (number : ℕ) (request : Request) (new : OwnRequests Request) (n : ℕ) (found : Request) → CountsAnswer old number request new → map.get new.outstanding n ≡ Some found → StillWaits old.outstanding number n found
counted_out old number request new n found is there = removed_waits old.outstanding number n found (sym (ap (λ (r : OwnRequests Request). map.get r.outstanding n) is.content) ∙ there)

fewer_issued : (old : OwnRequests Request) (number : ℕ) (request : Request) (new : OwnRequests Request) → CountsAnswer old number request new → AreIssued old → AreIssued new
fewer_issued old number request new is before n found there =
    let next : new.next ≡ old.next = ap (λ (r : OwnRequests Request). r.next) is.content in
    let less = before n found (counted_out old number request new n found is there).there in
    omega (arith, next, less)

replaced_issued : (old : OwnRequests Request) (number : ℕ) (was request : Request) (new : OwnRequests Request) → ReplacesRequest old number was request new → AreIssued old → AreIssued new
replaced_issued old number was request new is before n found there =
    let next : new.next ≡ old.next = ap (λ (r : OwnRequests Request). r.next) is.content in
    elim (put_at old.outstanding number request n found (sym (ap (λ (r : OwnRequests Request). map.get r.outstanding n) is.content) ∙ there)) [
      | inl stood ↦ (let less = before n found stood in omega (arith, next, less))
      | inr (here, now) ↦ (let less = before number was is.there in omega (arith, next, less, here))
    ]

fewer_wait : (keys : KeyRecord) (old : OwnRequests Request) (number : ℕ) (request : Request) (new : OwnRequests Request) → CountsAnswer old number request new
    → SuitPhase (phase.Established keys) old.outstanding → SuitPhase (phase.Established keys) new.outstanding
fewer_wait keys old number request new is before n found there = before n found (counted_out old number request new n found is there).there

-- IKE_AUTH alone was asked
asked_once : (sent : AuthSent) (old : OwnRequests Request) (number : ℕ) (request : Request) (new : OwnRequests Request) → CountsAnswer old number request new
    → SuitPhase (phase.AuthSent sent) old.outstanding → SuitPhase (phase.Established sent.keys) new.outstanding
asked_once sent old number request new is before n found there =
    let still = counted_out old number request new n found is there in
    absurd (still.other ((before n found still.there).0 ∙ sym (before number request is.there).0))

replaced_waits : (old new : Association) (sent : InitSent) (number : ℕ) (was request : Request) → request.purpose ≡ Begin → ReplacesRequest old.outgoing number was request new.outgoing
    → (later : InitSent) → new.phase ≡ phase.InitSent later → SuitPhase (phase.InitSent sent) old.outgoing.outstanding → SuitPhase new.phase new.outgoing.outstanding
replaced_waits old new sent number was request exchange is later comes before =
    subst (λ (p : Phase). SuitPhase p new.outgoing.outstanding) (sym comes)
    (subst (λ (r : OwnRequests Request). SuitPhase (phase.InitSent later) r.outstanding) (sym is.content)
    (inserted_waits old.outgoing.outstanding (phase.InitSent later) number request before ((before number was is.there).0, exchange)))

issued_waits : (new : Association) (p : Phase) (old : OwnRequests Request) (request : Request) → new.phase ≡ p → IssuesNext old request new.outgoing → SuitPhase p old.outstanding → MayBeOutstanding p old.next request.purpose
    → SuitPhase new.phase new.outgoing.outstanding
issued_waits new p old request same is before may =
    subst (λ (q : Phase). SuitPhase q new.outgoing.outstanding) (sym same)
    (subst (λ (r : OwnRequests Request). SuitPhase p r.outstanding) (sym is.issued.content)
    (inserted_waits is.ready.outstanding p old.next request (subst (λ (r : OwnRequests Request). SuitPhase p r.outstanding) (sym is.prepared.content) before) may))

way_leaves : (laws : FollowLaws) (windows : Windows) (meaning : Meaning) (setup : Setup) (old : Association) (table : Database) (octets : Octets) (m : Message) (e : Effect) (new : Association) (new_table : Database)
    → Way meaning setup old table octets m e new new_table → Leaves setup.config.window old new
way_leaves laws windows meaning setup old table octets m (effect.Refused fault) new new_table is = same_leaves laws setup.config.window old new is.association
way_leaves laws windows meaning setup old table octets m (effect.Repeated reply) new new_table is = same_leaves laws setup.config.window old new is.same.association
way_leaves laws windows meaning setup old table octets m (effect.Replied answered) new new_table (inl is) =
    let d = is.done in
    taken_leaves laws setup.config.window old d.ready d.incoming m.header.id answered.octets new d.prepared d.taken
    (auth_concludes laws setup (with_incoming old d.incoming) d.between (outcome_of d.decision) answered.fate new new_table d.opened.keys (ap established_of d.was) d.concluded)
    (not_yet old.phase (phase.HalfOpen d.opened) new.incoming.size d.incoming.size d.was refl)
    (auth_window setup (with_incoming old d.incoming) d.between (outcome_of d.decision) answered.fate new new_table d.opened.keys (ap is_concluded d.was) (ap established_of d.was) d.concluded)
    (auth_peers setup (with_incoming old d.incoming) d.between (outcome_of d.decision) answered.fate new new_table d.opened.keys (ap is_concluded d.was) (ap established_of d.was)
    (decided_window windows meaning.accepts setup old.serial d.opened table d.decided.payloads d.decision d.decided.due) d.concluded)
    (subst (λ (p : Phase). SuitPhase p old.outgoing.outstanding → SuitPhase (established_of p) old.outgoing.outstanding) (sym d.was) (λ waits number request there. absurd (waits number request there)))
way_leaves laws windows meaning setup old table octets m (effect.Replied answered) new new_table (inr is) =
    let d = answered_later meaning setup old table octets m answered new new_table is in
    taken_leaves laws setup.config.window old d.ready d.incoming m.header.id answered.octets new d.prepared d.taken
    (closing_concludes laws (closed_by answered.fate) d.ends.serials (with_incoming old d.incoming) d.ends.before setup.moment new d.ends.after (ap is_concluded d.was) d.ends.is)
    (λ concluded. size_if (closed_by answered.fate) d.ends.serials (with_incoming old d.incoming) d.ends.before setup.moment new d.ends.after d.ends.is)
    (inl (size_if (closed_by answered.fate) d.ends.serials (with_incoming old d.incoming) d.ends.before setup.moment new d.ends.after d.ends.is))
    (peers_if (closed_by answered.fate) d.ends.serials (with_incoming old d.incoming) d.ends.before setup.moment new d.ends.after d.ends.is)
    (subst (λ (p : Phase). SuitPhase p old.outgoing.outstanding → SuitPhase (established_of p) old.outgoing.outstanding) (sym d.was) (λ waits. waits))
way_leaves laws windows meaning setup old table octets m (effect.Counted ended) new new_table (inl is) =
    let d = is.done in
    counted_leaves laws setup.config.window old (with_outgoing old d.outgoing) new refl refl refl refl
    (auth_concludes laws setup (with_outgoing old d.outgoing) table d.verdict ended.fate new new_table d.sent.keys (ap established_of d.was) d.concluded)
    (not_yet old.phase (phase.AuthSent d.sent) new.incoming.size old.incoming.size d.was refl)
    (auth_window setup (with_outgoing old d.outgoing) table d.verdict ended.fate new new_table d.sent.keys (ap is_concluded d.was) (ap established_of d.was) d.concluded)
    (counted_window old.outgoing m.header.id d.request d.outgoing d.counted)
    (auth_peers setup (with_outgoing old d.outgoing) table d.verdict ended.fate new new_table d.sent.keys (ap is_concluded d.was) (ap established_of d.was)
    (judged_window windows meaning.accepts setup old.serial d.sent d.judged.payloads d.verdict d.judged.due) d.concluded)
    (subst (λ (p : Phase). SuitPhase p old.outgoing.outstanding → SuitPhase (established_of p) d.outgoing.outstanding) (sym d.was) (asked_once d.sent old.outgoing m.header.id d.request d.outgoing d.counted))
    (fewer_issued old.outgoing m.header.id d.request d.outgoing d.counted)
way_leaves laws windows meaning setup old table octets m (effect.Counted ended) new new_table (inr is) =
    let d = counted_later meaning setup old table octets m ended new new_table is in
    counted_leaves laws setup.config.window old (with_outgoing old d.outgoing) new refl refl refl refl
    (closing_concludes laws (closed_by ended.fate) d.ends.serials (with_outgoing old d.outgoing) d.ends.before setup.moment new d.ends.after (ap is_concluded d.was) d.ends.is)
    (λ concluded. size_if (closed_by ended.fate) d.ends.serials (with_outgoing old d.outgoing) d.ends.before setup.moment new d.ends.after d.ends.is)
    (inl (size_if (closed_by ended.fate) d.ends.serials (with_outgoing old d.outgoing) d.ends.before setup.moment new d.ends.after d.ends.is))
    (counted_window old.outgoing m.header.id d.request d.outgoing d.counted)
    (peers_if (closed_by ended.fate) d.ends.serials (with_outgoing old d.outgoing) d.ends.before setup.moment new d.ends.after d.ends.is)
    (subst (λ (p : Phase). SuitPhase p old.outgoing.outstanding → SuitPhase (established_of p) d.outgoing.outstanding) (sym d.was) (fewer_wait d.keys old.outgoing m.header.id d.request d.outgoing d.counted))
    (fewer_issued old.outgoing m.header.id d.request d.outgoing d.counted)
way_leaves laws windows meaning setup old table octets m (effect.Again next) new new_table is = early_leaves laws setup.config.window old new is.sent (ap (λ (x : Association). x.incoming) is.done.content) is.was (λ opened opens. absurd (init_opens _ opened (sym (ap (λ (x : Association). x.phase) is.done.content) ∙ opens)))
    (λ keyed initiator zero. some_none keyed.keys (sym (ap (λ (x : Association). keys_in x.phase) is.done.content) ∙ keyed.are))
    (replaced_waits old new is.sent m.header.id is.done.was (new_request next Begin setup.moment) refl is.done.replaced _ (ap (λ (x : Association). x.phase) is.done.content))
    (λ one. ap (λ (r : OwnRequests Request). r.window) is.done.replaced.content ∙ one)
    (ap (λ (x : Association). x.role) is.done.content)
    (replaced_issued old.outgoing m.header.id is.done.was (new_request next Begin setup.moment) new.outgoing is.done.replaced)
way_leaves laws windows meaning setup old table octets m (effect.AsksAuth next) new new_table is = early_leaves laws setup.config.window old new is.sent (ap (λ (x : Association). x.incoming) is.done.content) is.was (λ opened opens. absurd (auth_opens _ opened (sym (ap (λ (x : Association). x.phase) is.done.content) ∙ opens)))
    (λ keyed initiator zero. is.named (sym (ap (λ (x : Association). x.spi_r) is.done.content) ∙ zero))
    (λ before. issued_waits new _ number_0_answered (new_request next Identify setup.moment) (ap (λ (x : Association). x.phase) is.done.content) is.done.issued
    (λ number request there. absurd (none_outstanding number request there)) (refl, refl))
    (λ one. issued_window number_0_answered (new_request next Identify setup.moment) new.outgoing is.done.issued)
    (ap (λ (x : Association). x.role) is.done.content)
    (λ before. next_issued number_0_answered (new_request next Identify setup.moment) new.outgoing is.done.issued (λ number request there. absurd (none_outstanding number request there)))

leaves : (laws : FollowLaws) (windows : Windows) (meaning : Meaning) (setup : Setup) (old : Association) (table : Database) (octets : Octets) (m : Message) (e : Effect) (new : Association) (new_table : Database)
    → TakesMessage meaning setup old table octets m e new new_table → Leaves setup.config.window old new
leaves laws windows meaning setup old table octets m e new new_table is =
    way_leaves laws windows meaning setup old table octets m e new new_table (way_of meaning setup old table octets m e new new_table is)

pub requests_follow : FollowLaws → Windows → (meaning : Meaning) (setup : Setup) (old : Association) (table : Database) (octets : Octets) (m : Message) (e : Effect) (new : Association) (new_table : Database)
    → TakesMessage meaning setup old table octets m e new new_table → FollowsIncoming old.incoming new.incoming
requests_follow laws windows meaning setup old table octets m e new new_table is = (leaves laws windows meaning setup old table octets m e new new_table is).follows

pub stays_concluded : FollowLaws → Windows → (meaning : Meaning) (setup : Setup) (old : Association) (table : Database) (octets : Octets) (m : Message) (e : Effect) (new : Association) (new_table : Database)
    → TakesMessage meaning setup old table octets m e new new_table → is_concluded old.phase ≡ true → StaysConcluded old new
stays_concluded laws windows meaning setup old table octets m e new new_table is = (leaves laws windows meaning setup old table octets m e new new_table is).concluded

pub keeps_window : FollowLaws → Windows → (meaning : Meaning) (setup : Setup) (old : Association) (table : Database) (octets : Octets) (m : Message) (e : Effect) (new : Association) (new_table : Database)
    → TakesMessage meaning setup old table octets m e new new_table → KeepsWindow setup.config.window old new
keeps_window laws windows meaning setup old table octets m e new new_table is = (leaves laws windows meaning setup old table octets m e new new_table is).window

pub stays_half_open : FollowLaws → Windows → (meaning : Meaning) (setup : Setup) (old : Association) (table : Database) (octets : Octets) (m : Message) (e : Effect) (new : Association) (new_table : Database) (opened : HalfOpen)
    → TakesMessage meaning setup old table octets m e new new_table → new.phase ≡ phase.HalfOpen opened → old.phase ≡ phase.HalfOpen opened
stays_half_open laws windows meaning setup old table octets m e new new_table opened is = (leaves laws windows meaning setup old table octets m e new new_table is).half_open opened

pub stays_sound : FollowLaws → Windows → (meaning : Meaning) (setup : Setup) (old : Association) (table : Database) (octets : Octets) (m : Message) (e : Effect) (new : Association) (new_table : Database)
    → IsSoundlyHeld old → TakesMessage meaning setup old table octets m e new new_table → IsSoundlyHeld new
stays_sound laws windows meaning setup old table octets m e new new_table held is = (leaves laws windows meaning setup old table octets m e new new_table is).sound held

-- ---- as an IKE SA begins, and asks

none_kept : (number : ℕ) (reply : Octets) → map.get no_requests.kept number ≡ Some reply → ⊥
none_kept number reply is = some_none reply (sym (map.get-empty {X = Octets} nat_cmp number) ∙ is)

pub begun_sound : (cipher : Cipher) (group : ℕ) (public_value : Octets → Octets) (fresh : Fresh) (moment serial : ℕ) (beginning : Beginning) (child : AskedChildView)
    → Begins cipher group public_value fresh moment beginning → IsSoundlyHeld (begun serial beginning child)
begun_sound cipher group public_value fresh moment serial beginning child is = record {
  in_effect = λ number reply kept. absurd (none_kept number reply kept);
  near = λ number reply kept. absurd (none_kept number reply kept);
  concluded = λ number reply kept. absurd (none_kept number reply kept);
  named = λ keyed initiator. absurd (some_none keyed.keys keyed.are);
  waits = issued_waits (begun serial beginning child) (begun serial beginning child).phase none_issued (new_request beginning.octets Begin moment) refl is.issued
      (λ number request there. absurd (none_outstanding number request there)) (refl, refl);
  issued = next_issued none_issued (new_request beginning.octets Begin moment) beginning.outgoing is.issued (λ number request there. absurd (none_outstanding number request there));
  took_none = λ waits. record { role = refl; incoming = refl; window = issued_window none_issued (new_request beginning.octets Begin moment) beginning.outgoing is.issued };
  took_first = λ opens. absurd (init_opens _ opens.opened opens.is);
  peers = let one = issued_window none_issued (new_request beginning.octets Begin moment) beginning.outgoing is.issued in omega (arith, one);
}

other_role : Responder ≡ Initiator → ⊥
other_role is = cc

half_begins : (opened : HalfOpen) → IsInitSent (phase.HalfOpen opened) ⊎ IsAuthSent (phase.HalfOpen opened) → ⊥
half_begins opened (inl waits) = let is = waits.is in cc
half_begins opened (inr waits) = let is = waits.is in cc

pub admitted_sound : (cipher : Cipher) (group : ℕ) (public_value : Octets → Octets) (shared_secret : Octets → Octets → Option Octets) (fresh : Fresh) (moment serial : ℕ) (offer : OfferView) (spi_i : ℕ) (request : Octets) (admitted : Admitted)
    → Admits cipher group public_value shared_secret fresh moment serial offer spi_i request admitted → IsSoundlyHeld admitted.association
admitted_sound cipher group public_value shared_secret fresh moment serial offer spi_i request admitted is =
    subst (λ (a : Association). IsSoundlyHeld a) (sym is.content)
    (record {
      in_effect = λ number reply kept. absurd (none_kept number reply kept);
      near = λ number reply kept. absurd (none_kept number reply kept);
      concluded = λ number reply kept. absurd (none_kept number reply kept);
      named = λ keyed initiator. absurd (other_role initiator);
      waits = λ number request there. absurd (none_outstanding number request there);
      issued = λ number request there. absurd (none_outstanding number request there);
      took_none = λ waits. absurd (half_begins _ waits);
      took_first = λ opens. record { role = refl; incoming = refl; next = refl; answered = refl; window = refl };
      peers = omega arith;
    })

pub requested_sound : (body_of : Keys → Octets → Octets → Octets → Octets) (setup : Setup) (old : Association) (octets : Octets) (new : Association)
    → IsSoundlyHeld old → SendsRequest body_of setup old octets new → IsSoundlyHeld new
requested_sound body_of setup old octets new held is =
    subst (λ (a : Association). IsSoundlyHeld a) (sym is.content)
    (record {
      in_effect = held.in_effect;
      near = held.near;
      concluded = held.concluded;
      named = held.named;
      waits = issued_waits (with_outgoing old is.outgoing) (phase.Established is.keys) old.outgoing (new_request octets is.purpose setup.moment) is.established is.issued
          (subst (λ (p : Phase). SuitPhase p old.outgoing.outstanding) is.established held.waits) is.later;
      issued = next_issued old.outgoing (new_request octets is.purpose setup.moment) is.outgoing is.issued held.issued;
      took_none = λ waits. absurd (concluded_waits old.phase (ap is_concluded is.established) waits);
      took_first = λ opens. absurd (concluded_opens old.phase opens.opened (ap is_concluded is.established) opens.is);
      peers = let same = issued_window old.outgoing (new_request octets is.purpose setup.moment) is.outgoing is.issued in omega (arith, same, held.peers);
    })

-- ---- which Message ID comes into effect

-- what a request was answered by
record WasTaken (old : Association) (number : ℕ) (reply : Octets) (new : Association) : Type 0 where
  in_effect : new.incoming.in_effect ≡ set.insert old.incoming.in_effect number
  kept : map.get new.incoming.kept number ≡ Some reply

taken_by : (old : Association) (ready incoming : PeerRequests) (number : ℕ) (reply : Octets) (new : Association)
    → HasSameRequests old.incoming ready → TakesRequest ready number reply incoming → Concludes (with_incoming old incoming) new → WasTaken old number reply new
taken_by old ready incoming number reply new prepared taken done = record {
  in_effect = done.in_effect ∙ taken.in_effect ∙ ap (λ (r : PeerRequests). set.insert r.in_effect number) prepared.content;
  kept = ap (λ k. map.get k number) done.kept ∙ taken.own_reply;
}

-- a request that was answered was processed, by the exchange that belongs to its phase
record Taken (old : Association) (m : Message) (e : Effect) (new : Association) : Type 0 where
  admitted : admits old.phase m.header.exchange ≡ true
  answered : Answered
  said : e ≡ effect.Replied answered
  taken : WasTaken old m.header.id answered.octets new

later_taken : (laws : FollowLaws) (meaning : Meaning) (setup : Setup) (old : Association) (m : Message) (answered : Answered) (new : Association)
    → admits old.phase m.header.exchange ≡ true → AnsweredLater meaning setup old m answered new → Taken old m (effect.Replied answered) new
later_taken laws meaning setup old m answered new admitted d = record {
  admitted = admitted;
  answered = answered;
  said = refl;
  taken = taken_by old d.ready d.incoming m.header.id answered.octets new d.prepared d.taken
      (closing_concludes laws (closed_by answered.fate) d.ends.serials (with_incoming old d.incoming) d.ends.before setup.moment new d.ends.after (ap is_concluded d.was) d.ends.is);
}

auth_taken : (laws : FollowLaws) (meaning : Meaning) (setup : Setup) (old : Association) (table : Database) (m : Message) (plain : Plain) (answered : Answered) (new : Association) (new_table : Database)
    → admits old.phase m.header.exchange ≡ true → AnswersAuth (prover_of meaning) setup old table m.header.id plain answered new new_table → Taken old m (effect.Replied answered) new
auth_taken laws meaning setup old table m plain answered new new_table admitted is = record {
  admitted = admitted;
  answered = answered;
  said = refl;
  taken = taken_by old is.ready is.incoming m.header.id answered.octets new is.prepared is.taken
      (auth_concludes laws setup (with_incoming old is.incoming) is.between (outcome_of is.decision) answered.fate new new_table is.opened.keys (ap established_of is.was) is.concluded);
}

further_taken : (laws : FollowLaws) (informational : Bool) (meaning : Meaning) (setup : Setup) (old : Association) (table : Database) (m : Message) (plain : Plain) (e : Effect) (new : Association) (new_table : Database)
    → admits old.phase m.header.exchange ≡ true → DoesAtEstablished informational meaning setup old table m.header.id plain e new new_table → Taken old m e new
further_taken laws true meaning setup old table m plain (effect.Replied answered) new new_table admitted is =
    later_taken laws meaning setup old m answered new admitted (informed_later meaning setup old table m plain answered new new_table is)
further_taken laws true meaning setup old table m plain e new new_table admitted is = absurd is
further_taken laws false meaning setup old table m plain (effect.Replied answered) new new_table admitted is =
    later_taken laws meaning setup old m answered new admitted (further_later meaning setup old table m plain answered new new_table is)
further_taken laws false meaning setup old table m plain e new new_table admitted is = absurd is

request_taken : (laws : FollowLaws) (p : Phase) (meaning : Meaning) (setup : Setup) (old : Association) (table : Database) (m : Message) (plain : Plain) (e : Effect) (new : Association) (new_table : Database)
    → old.phase ≡ p → admits p m.header.exchange ≡ true → DoesRequest meaning setup p m.header.exchange old table m.header.id plain e new new_table → Taken old m e new
request_taken laws (phase.InitSent sent) meaning setup old table m plain e new new_table was admitted is = absurd cc
request_taken laws (phase.AuthSent sent) meaning setup old table m plain e new new_table was admitted is = absurd cc
request_taken laws (phase.HalfOpen opened) meaning setup old table m plain (effect.Replied answered) new new_table was admitted is =
    auth_taken laws meaning setup old table m plain answered new new_table (ap (λ (p : Phase). admits p m.header.exchange) was ∙ admitted) is
request_taken laws (phase.HalfOpen opened) meaning setup old table m plain e new new_table was admitted is = absurd is
request_taken laws (phase.Established keys) meaning setup old table m plain e new new_table was admitted is =
    further_taken laws (m.header.exchange == INFORMATIONAL) meaning setup old table m plain e new new_table (ap (λ (p : Phase). admits p m.header.exchange) was ∙ admitted) is
request_taken laws (phase.Closed keys at) meaning setup old table m plain e new new_table was admitted is = absurd cc

-- ---- nothing but a request puts a Message ID into effect

-- some reply went out
record IsReply (e : Effect) : Type 0 where
  answered : Answered
  is : e ≡ effect.Replied answered

same_in_effect : (old new : Association) → new ≡ old → new.incoming.in_effect ≡ old.incoming.in_effect
same_in_effect old new same = ap (λ (a : Association). a.incoming.in_effect) same

way_same : (laws : FollowLaws) (meaning : Meaning) (setup : Setup) (old : Association) (table : Database) (octets : Octets) (m : Message) (e : Effect) (new : Association) (new_table : Database)
    → Way meaning setup old table octets m e new new_table → (new.incoming.in_effect ≡ old.incoming.in_effect) ⊎ IsReply e
way_same laws meaning setup old table octets m (effect.Refused fault) new new_table is = inl (same_in_effect old new is.association)
way_same laws meaning setup old table octets m (effect.Repeated reply) new new_table is = inl (same_in_effect old new is.same.association)
way_same laws meaning setup old table octets m (effect.Replied answered) new new_table is = inr (record { answered = answered; is = refl })
way_same laws meaning setup old table octets m (effect.Again next) new new_table is = inl (ap (λ (a : Association). a.incoming.in_effect) is.done.content)
way_same laws meaning setup old table octets m (effect.AsksAuth next) new new_table is = inl (ap (λ (a : Association). a.incoming.in_effect) is.done.content)
way_same laws meaning setup old table octets m (effect.Counted ended) new new_table (inl is) =
    let d = is.done in
    inl (auth_concludes laws setup (with_outgoing old d.outgoing) table d.verdict ended.fate new new_table d.sent.keys (ap established_of d.was) d.concluded).in_effect
way_same laws meaning setup old table octets m (effect.Counted ended) new new_table (inr is) =
    let d = counted_later meaning setup old table octets m ended new new_table is in
    inl (closing_concludes laws (closed_by ended.fate) d.ends.serials (with_outgoing old d.outgoing) d.ends.before setup.moment new d.ends.after (ap is_concluded d.was) d.ends.is).in_effect

-- what a message that was answered is
record IsRequest (r : Reception) : Type 0 where
  plain : Plain
  is : r ≡ TakesEffect plain

replied_answer : (further : Bool) (setup : Setup) (old : Association) (table : Database) (number : ℕ) (plain : Plain) (answered : Answered) (new : Association) (new_table : Database)
    → DoesAnswer further setup old table number plain (effect.Replied answered) new new_table → ⊥
replied_answer true setup old table number plain answered new new_table is = is
replied_answer false setup old table number plain answered new new_table is = is

replied_response : (p : Phase) (meaning : Meaning) (setup : Setup) (old : Association) (table : Database) (number : ℕ) (plain : Plain) (answered : Answered) (new : Association) (new_table : Database)
    → DoesResponse meaning setup p old table number plain (effect.Replied answered) new new_table → ⊥
replied_response (phase.InitSent sent) meaning setup old table number plain answered new new_table is = is
replied_response (phase.AuthSent sent) meaning setup old table number plain answered new new_table is = is
replied_response (phase.HalfOpen opened) meaning setup old table number plain answered new new_table is = is
replied_response (phase.Established keys) meaning setup old table number plain answered new new_table is = replied_answer (asked_further old number) setup old table number plain answered new new_table is
replied_response (phase.Closed keys at) meaning setup old table number plain answered new new_table is = is

replied_reception : (r : Reception) (meaning : Meaning) (setup : Setup) (old : Association) (table : Database) (octets : Octets) (m : Message) (answered : Answered) (new : Association) (new_table : Database)
    → Does meaning setup old table octets m r (effect.Replied answered) new new_table → IsRequest r
replied_reception (Refused fault) meaning setup old table octets m answered new new_table is = absurd is
replied_reception (Repeat reply) meaning setup old table octets m answered new new_table is = absurd is
replied_reception (TakesEffect plain) meaning setup old table octets m answered new new_table is = record { plain = plain; is = refl }
replied_reception (Answers plain) meaning setup old table octets m answered new new_table is =
    absurd (replied_response old.phase meaning setup old table m.header.id plain answered new new_table is)
replied_reception AnswersInitial meaning setup old table octets m answered new new_table is = absurd is.0.said

-- what is known of how a message is received
pub record ReceptionLaws : Type 0 where
  pub determined : (plain_of : Opening) (a : Association) (octets : Octets) (m : Message) (one other : Reception) → IsReceived plain_of a octets m one → IsReceived plain_of a octets m other → one ≡ other
  pub effective : (plain_of : Opening) (a : Association) (octets : Octets) (m : Message) (plain : Plain) → IsReceived plain_of a octets m (TakesEffect plain) → IsEffective plain_of a octets m plain
  pub due : (plain_of : Opening) (a : Association) (octets : Octets) (m : Message) (plain : Plain) → IsEffective plain_of a octets m plain → IsReceived plain_of a octets m (TakesEffect plain)

effective_request : (laws : FollowLaws) (meaning : Meaning) (setup : Setup) (old : Association) (table : Database) (octets : Octets) (m : Message) (plain : Plain) (e : Effect) (new : Association) (new_table : Database)
    → IsEffective meaning.plain_of old octets m plain → Does meaning setup old table octets m (TakesEffect plain) e new new_table → Taken old m e new
effective_request laws meaning setup old table octets m plain e new new_table effective is =
    request_taken laws old.phase meaning setup old table m plain e new new_table refl effective.admitted is

no_change : (old new : Association) (number : ℕ) → new.incoming.in_effect ≡ old.incoming.in_effect → LacksNumber old.incoming.in_effect number → HasNumber new.incoming.in_effect number → ⊥
no_change old new number same lacks has = yes_no (set.contains old.incoming.in_effect number) (ap (λ s. set.contains s number) (sym same) ∙ has) lacks

put_by : (meaning : Meaning) (old : Association) (octets : Octets) (m : Message) (plain : Plain) (e : Effect) (new : Association) (number : ℕ)
    → IsEffective meaning.plain_of old octets m plain → Taken old m e new → LacksNumber old.incoming.in_effect number → HasNumber new.incoming.in_effect number → PutsIntoEffect meaning.plain_of old octets m e new number
put_by meaning old octets m plain e new number effective taken lacks has =
    let same : number ≡ m.header.id = came old.incoming.in_effect m.header.id number lacks (subst (λ (s : NumberSet). HasNumber s number) taken.taken.in_effect has) in
    record {
      request = effective.request;
      number_is = sym same;
      fresh = subst (λ n. IsFreshRequest old.incoming n) (sym same) effective.fresh;
      admitted = taken.admitted;
      plain = plain;
      opened = effective.opened;
      answered = taken.answered;
      said = taken.said;
      kept = ap (map.get new.incoming.kept) same ∙ taken.taken.kept;
    }

pub put_into_effect : FollowLaws → ReceptionLaws → (meaning : Meaning) (setup : Setup) (old : Association) (table : Database) (octets : Octets) (m : Message) (e : Effect) (new : Association) (new_table : Database) (number : ℕ)
    → TakesMessage meaning setup old table octets m e new new_table → LacksNumber old.incoming.in_effect number → HasNumber new.incoming.in_effect number
    → PutsIntoEffect meaning.plain_of old octets m e new number
put_into_effect laws facts meaning setup old table octets m e new new_table number is lacks has =
    elim (way_same laws meaning setup old table octets m e new new_table (way_of meaning setup old table octets m e new new_table is)) [
      | inl same ↦ absurd (no_change old new number same lacks has)
      | inr replied ↦
          let done = subst (λ (x : Effect). Does meaning setup old table octets m is.reception x new new_table) replied.is is.done in
          let request = replied_reception is.reception meaning setup old table octets m replied.answered new new_table done in
          let effective = facts.effective meaning.plain_of old octets m request.plain (subst (λ (r : Reception). IsReceived meaning.plain_of old octets m r) request.is is.received) in
          put_by meaning old octets m request.plain e new number effective
          (effective_request laws meaning setup old table octets m request.plain e new new_table effective (subst (λ (r : Reception). Does meaning setup old table octets m r e new new_table) request.is is.done)) lacks has
    ]

-- ---- a new request always does

pub new_takes_effect : FollowLaws → ReceptionLaws → (meaning : Meaning) (setup : Setup) (old : Association) (table : Database) (octets : Octets) (m : Message) (e : Effect) (new : Association) (new_table : Database) (plain : Plain)
    → TakesMessage meaning setup old table octets m e new new_table → m.header.flags.response ≡ false → IsFreshRequest old.incoming m.header.id
    → admits old.phase m.header.exchange ≡ true → opened_by meaning.plain_of old octets m.payloads ≡ Some plain → HasNumber new.incoming.in_effect m.header.id
new_takes_effect laws facts meaning setup old table octets m e new new_table plain is request fresh admitted opened =
    let effective : IsEffective meaning.plain_of old octets m plain = record { request = request; fresh = fresh; admitted = admitted; opened = opened } in
    let received : is.reception ≡ TakesEffect plain = facts.determined meaning.plain_of old octets m is.reception (TakesEffect plain) is.received (facts.due meaning.plain_of old octets m plain effective) in
    let taken = request_taken laws old.phase meaning setup old table m plain e new new_table refl admitted (subst (λ (r : Reception). Does meaning setup old table octets m r e new new_table) received is.done) in
    subst (λ (s : NumberSet). HasNumber s m.header.id) (sym taken.taken.in_effect) (inserted old.incoming.in_effect m.header.id)

-- ---- what comes again

same_reply : (one other : Octets) → Some one ≡ Some other → one ≡ other
same_reply one other is = cc

repeat_received : (judgement : Judgement) (plain_of : Opening) (a : Association) (octets : Octets) (m : Message) (reply : Octets) (plain : Plain) (r : Reception)
    → HasNumber a.incoming.in_effect m.header.id → map.get a.incoming.kept m.header.id ≡ Some reply → opened_by plain_of a octets m.payloads ≡ Some plain
    → IsJudgement a.incoming m.header.id judgement → r ≡ judged_reception a.phase m.header.exchange (opened_by plain_of a octets m.payloads) judgement → r ≡ Repeat reply
repeat_received judged.Fresh plain_of a octets m reply plain r has kept opened is whole = absurd (yes_no _ has is.not_in_effect)
repeat_received (judged.Repeat said) plain_of a octets m reply plain r has kept opened is whole =
    whole ∙ ap (λ o. judged_reception a.phase m.header.exchange o (judged.Repeat said)) opened ∙ ap Repeat (same_reply said.now reply (sym is.1 ∙ kept))
repeat_received judged.Forgotten plain_of a octets m reply plain r has kept opened is whole = absurd (some_none reply (sym is.1 ∙ kept))
repeat_received judged.Outside plain_of a octets m reply plain r has kept opened is whole = absurd (yes_no _ has is.not_in_effect)

forgotten_received : (judgement : Judgement) (plain_of : Opening) (a : Association) (octets : Octets) (m : Message) (r : Reception)
    → HasNumber a.incoming.in_effect m.header.id → map.get a.incoming.kept m.header.id ≡ None
    → IsJudgement a.incoming m.header.id judgement → r ≡ judged_reception a.phase m.header.exchange (opened_by plain_of a octets m.payloads) judgement → r ≡ Refused why.Forgotten
forgotten_received judged.Fresh plain_of a octets m r has none is whole = absurd (yes_no _ has is.not_in_effect)
forgotten_received (judged.Repeat said) plain_of a octets m r has none is whole = absurd (some_none said.now (sym none ∙ is.1))
forgotten_received judged.Forgotten plain_of a octets m r has none is whole = whole
forgotten_received judged.Outside plain_of a octets m r has none is whole = absurd (yes_no _ has is.not_in_effect)

as_request : (response : Bool) (plain_of : Opening) (a : Association) (octets : Octets) (m : Message) (r : Reception) → response ≡ false → IsReceivedBy response plain_of a octets m r → IsReceivedRequest plain_of a octets m r
as_request true plain_of a octets m r none is = absurd cc
as_request false plain_of a octets m r none is = is

does_repeat : (meaning : Meaning) (setup : Setup) (old : Association) (table : Database) (octets : Octets) (m : Message) (reply : Octets) (e : Effect) (new : Association) (new_table : Database)
    → Does meaning setup old table octets m (Repeat reply) e new new_table → e ≡ effect.Repeated reply
does_repeat meaning setup old table octets m reply (effect.Refused fault) new new_table is = absurd is
does_repeat meaning setup old table octets m reply (effect.Repeated said) new new_table is = ap effect.Repeated is.0
does_repeat meaning setup old table octets m reply (effect.Replied answered) new new_table is = absurd is
does_repeat meaning setup old table octets m reply (effect.Again next) new new_table is = absurd is
does_repeat meaning setup old table octets m reply (effect.AsksAuth next) new new_table is = absurd is
does_repeat meaning setup old table octets m reply (effect.Counted ended) new new_table is = absurd is

does_refuse : (meaning : Meaning) (setup : Setup) (old : Association) (table : Database) (octets : Octets) (m : Message) (f : MessageFault) (e : Effect) (new : Association) (new_table : Database)
    → Does meaning setup old table octets m (Refused f) e new new_table → e ≡ effect.Refused f
does_refuse meaning setup old table octets m f (effect.Refused fault) new new_table is = ap effect.Refused is.0
does_refuse meaning setup old table octets m f (effect.Repeated said) new new_table is = absurd is
does_refuse meaning setup old table octets m f (effect.Replied answered) new new_table is = absurd is
does_refuse meaning setup old table octets m f (effect.Again next) new new_table is = absurd is
does_refuse meaning setup old table octets m f (effect.AsksAuth next) new new_table is = absurd is
does_refuse meaning setup old table octets m f (effect.Counted ended) new new_table is = absurd is

pub repeat_is_answered : (meaning : Meaning) (setup : Setup) (old : Association) (table : Database) (octets : Octets) (m : Message) (e : Effect) (new : Association) (new_table : Database) (plain : Plain) (reply : Octets)
    → TakesMessage meaning setup old table octets m e new new_table → m.header.flags.response ≡ false → HasNumber old.incoming.in_effect m.header.id
    → map.get old.incoming.kept m.header.id ≡ Some reply → opened_by meaning.plain_of old octets m.payloads ≡ Some plain → e ≡ effect.Repeated reply
repeat_is_answered meaning setup old table octets m e new new_table plain reply is request has kept opened =
    let received = as_request m.header.flags.response meaning.plain_of old octets m is.reception request is.received in
    let same = repeat_received received.judgement meaning.plain_of old octets m reply plain is.reception has kept opened received.number received.whole in
    does_repeat meaning setup old table octets m reply e new new_table (subst (λ (r : Reception). Does meaning setup old table octets m r e new new_table) same is.done)

pub forgotten_is_refused : (meaning : Meaning) (setup : Setup) (old : Association) (table : Database) (octets : Octets) (m : Message) (e : Effect) (new : Association) (new_table : Database)
    → TakesMessage meaning setup old table octets m e new new_table → m.header.flags.response ≡ false → HasNumber old.incoming.in_effect m.header.id
    → map.get old.incoming.kept m.header.id ≡ None → e ≡ effect.Refused why.Forgotten
forgotten_is_refused meaning setup old table octets m e new new_table is request has none =
    let received = as_request m.header.flags.response meaning.plain_of old octets m is.reception request is.received in
    let same = forgotten_received received.judgement meaning.plain_of old octets m is.reception has none received.number received.whole in
    does_refuse meaning setup old table octets m why.Forgotten e new new_table (subst (λ (r : Reception). Does meaning setup old table octets m r e new new_table) same is.done)

-- ---- what a request does, and what is answered

-- what a request can be
data Kind (r : Reception) : Type 0 where
  refused : (f : MessageFault) → r ≡ Refused f → Kind r
  repeated : (reply : Octets) → r ≡ Repeat reply → Kind r
  effective : (plain : Plain) → r ≡ TakesEffect plain → Kind r

chosen_kind : (b : Bool) (plain : Plain) (r : Reception) → r ≡ (if b then TakesEffect plain else Refused why.WrongPhase) → Kind r
chosen_kind true plain r is = effective plain is
chosen_kind false plain r is = refused why.WrongPhase is

fresh_kind : (p : Phase) (exchange : ℕ) (o : Option Plain) (r : Reception) → r ≡ fresh_reception p exchange o → Kind r
fresh_kind (phase.Closed keys at) exchange o r is = refused why.WrongPhase is
fresh_kind (phase.InitSent sent) exchange None r is = refused why.NotOpened is
fresh_kind (phase.AuthSent sent) exchange None r is = refused why.NotOpened is
fresh_kind (phase.HalfOpen opened) exchange None r is = refused why.NotOpened is
fresh_kind (phase.Established keys) exchange None r is = refused why.NotOpened is
fresh_kind (phase.InitSent sent) exchange (Some plain) r is = chosen_kind (admits (phase.InitSent sent) exchange) plain r is
fresh_kind (phase.AuthSent sent) exchange (Some plain) r is = chosen_kind (admits (phase.AuthSent sent) exchange) plain r is
fresh_kind (phase.HalfOpen opened) exchange (Some plain) r is = chosen_kind (admits (phase.HalfOpen opened) exchange) plain r is
fresh_kind (phase.Established keys) exchange (Some plain) r is = chosen_kind (admits (phase.Established keys) exchange) plain r is

repeat_kind : (reply : Octets) (o : Option Plain) (r : Reception) → r ≡ repeated_reception reply o → Kind r
repeat_kind reply None r is = refused why.NotOpened is
repeat_kind reply (Some plain) r is = repeated reply is

kind_of : (judgement : Judgement) (p : Phase) (exchange : ℕ) (o : Option Plain) (r : Reception) → r ≡ judged_reception p exchange o judgement → Kind r
kind_of judged.Fresh p exchange o r is = fresh_kind p exchange o r is
kind_of (judged.Repeat reply) p exchange o r is = repeat_kind reply.now o r is
kind_of judged.Forgotten p exchange o r is = refused why.Forgotten is
kind_of judged.Outside p exchange o r is = refused why.OutsideWindow is

put_now : (meaning : Meaning) (old : Association) (octets : Octets) (m : Message) (plain : Plain) (e : Effect) (new : Association)
    → IsEffective meaning.plain_of old octets m plain → Taken old m e new → PutsIntoEffect meaning.plain_of old octets m e new m.header.id
put_now meaning old octets m plain e new is taken =
    put_by meaning old octets m plain e new m.header.id is taken is.fresh.not_in_effect
    (subst (λ (s : NumberSet). HasNumber s m.header.id) (sym taken.taken.in_effect) (inserted old.incoming.in_effect m.header.id))

by_kind : (laws : FollowLaws) (facts : ReceptionLaws) (meaning : Meaning) (setup : Setup) (old : Association) (table : Database) (octets : Octets) (m : Message) (e : Effect) (new : Association) (new_table : Database) (r : Reception)
    → IsReceived meaning.plain_of old octets m r → Does meaning setup old table octets m r e new new_table → Kind r → IsPassing e ⊎ PutsIntoEffect meaning.plain_of old octets m e new m.header.id
by_kind laws facts meaning setup old table octets m e new new_table r received is (refused f same) =
    inl (subst (λ (x : Effect). IsPassing x) (sym (does_refuse meaning setup old table octets m f e new new_table (subst (λ (x : Reception). Does meaning setup old table octets m x e new new_table) same is))) tt)
by_kind laws facts meaning setup old table octets m e new new_table r received is (repeated reply same) =
    inl (subst (λ (x : Effect). IsPassing x) (sym (does_repeat meaning setup old table octets m reply e new new_table (subst (λ (x : Reception). Does meaning setup old table octets m x e new new_table) same is))) tt)
by_kind laws facts meaning setup old table octets m e new new_table r received is (effective plain same) =
    let due = facts.effective meaning.plain_of old octets m plain (subst (λ (x : Reception). IsReceived meaning.plain_of old octets m x) same received) in
    inr (put_now meaning old octets m plain e new due
    (effective_request laws meaning setup old table octets m plain e new new_table due (subst (λ (x : Reception). Does meaning setup old table octets m x e new new_table) same is)))

pub passes_or_takes : FollowLaws → ReceptionLaws → (meaning : Meaning) (setup : Setup) (old : Association) (table : Database) (octets : Octets) (m : Message) (e : Effect) (new : Association) (new_table : Database)
    → TakesMessage meaning setup old table octets m e new new_table → m.header.flags.response ≡ false → IsPassing e ⊎ PutsIntoEffect meaning.plain_of old octets m e new m.header.id
passes_or_takes laws facts meaning setup old table octets m e new new_table is request =
    let received = as_request m.header.flags.response meaning.plain_of old octets m is.reception request is.received in
    by_kind laws facts meaning setup old table octets m e new new_table is.reception is.received is.done
    (kind_of received.judgement old.phase m.header.exchange (opened_by meaning.plain_of old octets m.payloads) is.reception received.whole)

-- a reply goes out to a request that is processed
pub replied_takes : FollowLaws → ReceptionLaws → (meaning : Meaning) (setup : Setup) (old : Association) (table : Database) (octets : Octets) (m : Message) (answered : Answered) (new : Association) (new_table : Database)
    → TakesMessage meaning setup old table octets m (effect.Replied answered) new new_table → PutsIntoEffect meaning.plain_of old octets m (effect.Replied answered) new m.header.id
replied_takes laws facts meaning setup old table octets m answered new new_table is =
    let request = replied_reception is.reception meaning setup old table octets m answered new new_table is.done in
    let due = facts.effective meaning.plain_of old octets m request.plain (subst (λ (r : Reception). IsReceived meaning.plain_of old octets m r) request.is is.received) in
    elim (passes_or_takes laws facts meaning setup old table octets m (effect.Replied answered) new new_table is due.request) [
      | inl passing ↦ absurd passing
      | inr put ↦ put
    ]

-- a reply goes out again to what comes again
pub repeated_why : ((plain_of : Opening) (a : Association) (octets : Octets) (m : Message) (reply : Octets) → IsReceived plain_of a octets m (Repeat reply) → IsRepeating plain_of a octets m reply)
    → (meaning : Meaning) (setup : Setup) (old : Association) (table : Database) (octets : Octets) (m : Message) (reply : Octets) (new : Association) (new_table : Database)
    → TakesMessage meaning setup old table octets m (effect.Repeated reply) new new_table → IsRepeating meaning.plain_of old octets m reply
repeated_why law meaning setup old table octets m reply new new_table is =
    law meaning.plain_of old octets m reply (way_of meaning setup old table octets m (effect.Repeated reply) new new_table is).received
