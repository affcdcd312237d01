-- A message makes the moves that are stated, from what an IKE SA was to what it is.
use Rattle.std.proofs.Common.{◌≡◌, ◌≢◌, ◌⊎◌, ◌==◌, inl, inr, ◌+◌, ◌≤◌, ◌^◌, ◌∷◌, [], ℕ, Bool, true, false, cond, List, Option, Some, None, length, arith, ap, refl, subst, sym, max, ◌∙◌, if◌then◌else◌}
use Rattle.std.proofs.lemmas.Bool.{eqb-true}
use Rattle.std.proofs.lemmas.Bool.Decides.{leb_tells}
use Rattle.std.proofs.Math.Nat.{le-max_right}
use Rattle.std.specs.Cmp.{nat_cmp_total, unsigned_tied}
use Rattle.std.specs.FinMap as map
use Rattle.std.specs.FinSet as set
use Rattle.std.specs.Option.{option_map}
use Rattle.std.specs.Ordering.{nat_cmp}
use Rattle.base.specs.Octets.{Octets}
use Rattle.wire.specs.Numbers.{IKE_SA_INIT, INFORMATIONAL}
use Rattle.wire.specs.declared.message.Message.{Message}
use Rattle.wire.specs.declared.payload.Payload.{Payload}
use Rattle.suite.specs.declared.key_record.KeyRecord.{KeyRecord}
use Rattle.exchange.specs.declared.headers.Role.{Role}
use Rattle.exchange.specs.declared.headers.Role.TheVariants.{Initiator, Responder}
use Rattle.exchange.specs.declared.sealed.Plain.{Plain}
use Rattle.requests.specs.Incoming.{after_number_0, no_requests, HasSameRequests, IsFreshRequest, IsPassed, PeerRequests, TakesRequest}
use Rattle.requests.specs.Numbers.{HasNumber, LacksNumber}
use Rattle.requests.specs.Outgoing.{none_issued, number_0_answered, CountsAnswer, GivesUpRequests, MayIssue, OwnRequests, SomeOutstanding}
use Rattle.sadb.specs.Database.{Database}
use Rattle.association.specs.Closing.{Closes}
use Rattle.association.specs.Finding.{is_waiting}
use Rattle.association.specs.AskedChildren.{AskedChildView}
use Rattle.association.specs.Phases.{established_of, keys_in}
use Rattle.association.specs.Receiving.{is_closed, opened_under, Answers, AnswersInitial, IsAnsweringInitial, IsReceived, IsRepeating, Opening, Reception, Refused, Repeat, TakesEffect}
use Rattle.association.specs.declared.phase.Association.{Association}
use Rattle.association.specs.declared.phase.Phase.{Phase}
use Rattle.association.specs.declared.phase.Phase.TheVariants as phase
use Rattle.association.specs.Purposes.{exchange_of}
use Rattle.association.specs.declared.phase.Request.{Request}
use Rattle.association.specs.declared.purpose.Purpose.{Purpose}
use Rattle.association.specs.declared.purpose.Purpose.TheVariants.{Identify}
use Rattle.suite.specs.declared.fresh.Fresh.{Fresh}
use Rattle.suite.specs.declared.sealer.Cipher.{Cipher}
use Rattle.sa_init.specs.Judging.{OfferView}
use Rattle.auth.specs.Windows.{IsWindow, WINDOW_LIMIT}
use Rattle.initial.specs.Answering.{outcome_of, IsHalfOpen}
use Rattle.association.specs.Admitting.{Admits}
use Rattle.initial.specs.Beginning.{begun, Begins}
use Rattle.association.specs.declared.admitting.Admitted.{Admitted}
use Rattle.initial.specs.declared.beginning.Beginning.{Beginning}
use Rattle.moments.specs.Due.{after_sending, has_failed, is_due, is_over, is_unanswered, SendsAgain}
use Rattle.moments.specs.Held.{IsClosedAt}
use Rattle.initial.specs.Concluding.{is_closing, ConcludesBy}
use Rattle.association.specs.Issuing.{with_incoming, with_outgoing, new_request, IssuesNext}
use Rattle.setup.specs.Configs.{IsConfig, Setup}
use Rattle.initial.specs.declared.concluding.Outcome.{Outcome}
use Rattle.initial.specs.declared.concluding.Outcome.TheVariants as outcome
use Rattle.informational.specs.Orders.{ClosesIf}
use Rattle.suite.specs.declared.keys.Keys.{Keys}
use Rattle.effects.specs.Moves.{and_closes, first_ledger, ledger, ledger_of, ledger_with, makes_and_issues, moves_of, octets_out, put, ClosesLedger, Close, Count, Counts, Issue, Issues, KeepsReply, KeepWindows, Lead, Ledger, Make, Move, Remove, TakeEffect, TakesEffectOnce, WaitsWith}
use Rattle.effects.specs.Requests.{IsSoundlyHeld}
use Rattle.effects.specs.Sending.{SendsRequest}
use Rattle.effects.specs.Taking.{asked_further, Does, DoesAnswer, DoesAtEstablished, DoesRequest, DoesResponse, Meaning, TakesMessage}
use Rattle.effects.specs.Waiting.{MayBeOutstanding, TookFirstRequest}
use Rattle.effects.specs.declared.taking.Effect.{Effect}
use Rattle.effects.specs.declared.taking.Effect.TheVariants as effect
use Rattle.effects.proofs.KeepingLemmas.{established_keys}
use Rattle.effects.proofs.RequestLemmas.{came, counted_window, decided_window, inserted, judged_window, repeated_why, taken_size, yes_no, TellsWindow, Windows}
use Rattle.effects.proofs.WayLemmas.{answered_later, counted_later, way_of, Way}
use Rattle.association.specs.Outcomes.{closed_by}
use Rattle.association.specs.declared.outcome.Fate.{Fate}
use Rattle.effects.proofs.FateLemmas.{concluded_fate}

-- ---- ledgers

no_ledger : (a : Association) → keys_in a.phase ≡ None → ledger a ≡ None
no_ledger a none = ap (option_map (ledger_of a)) none

keyed : (a : Association) (keys : KeyRecord) → keys_in a.phase ≡ Some keys → ledger a ≡ Some (ledger_of a keys)
keyed a keys are = ap (option_map (ledger_of a)) are

-- with other requests of this end
abbrev with_own : Ledger → OwnRequests Request → Ledger
with_own l r = record l { next = r.next; answered = r.answered; window = r.window; outstanding = octets_out r }

octets_if : (b : Bool) (v : Request) (o : Option Request) → option_map (λ (x : Request). x.octets) (cond b (Some v) o) ≡ cond b (Some v.octets) (option_map (λ (x : Request). x.octets) o)
octets_if true v o = refl
octets_if false v o = refl

none_if : (b : Bool) (o : Option Request) → option_map (λ (x : Request). x.octets) (cond b None o) ≡ cond b None (option_map (λ (x : Request). x.octets) o)
none_if true o = refl
none_if false o = refl

inserted_out : (m : map.FinMap nat_cmp Request) (k : ℕ) (v : Request) (n : ℕ)
    → option_map (λ (x : Request). x.octets) (map.get (map.insert m k v) n) ≡ (if n == k then Some v.octets else option_map (λ (x : Request). x.octets) (map.get m n))
inserted_out m k v n =
    ap (option_map (λ (x : Request). x.octets)) (map.get-insert nat_cmp_total m k v n ∙ ap (λ b. cond b (Some v) (map.get m n)) (unsigned_tied n k)) ∙ octets_if (n == k) v (map.get m n)

removed_out : (m : map.FinMap nat_cmp Request) (k n : ℕ)
    → option_map (λ (x : Request). x.octets) (map.get (map.remove m k) n) ≡ (if n == k then None else option_map (λ (x : Request). x.octets) (map.get m n))
removed_out m k n =
    ap (option_map (λ (x : Request). x.octets)) (map.get-remove nat_cmp_total m k n ∙ ap (λ b. cond b None (map.get m n)) (unsigned_tied n k)) ∙ none_if (n == k) (map.get m n)

-- ---- one request more

pub issued_moves : (l : Ledger) (old : OwnRequests Request) (request : Request) (new : OwnRequests Request) → l.is_closed ≡ false → IssuesNext old request new → Issues old.next request.octets (with_own l old) (with_own l new)
issued_moves l old request new is_open is =
    let allowed : MayIssue (record old { room = is.ready.room }) = subst (λ (r : OwnRequests Request). MayIssue r) is.prepared.content is.issued.allowed in
    record {
      least = refl;
      in_window = λ gap is_gap.
          elim (leb_tells (gap + old.window) old.next) [
            | inl (_, full) ↦ absurd (allowed.not_busy (record { gap = gap; is_gap = is_gap; full = full }))
            | inr (_, less) ↦ less
          ];
      is_open = is_open;
      left = elim (leb_tells (2 ^ 32) old.next) [ inl (_, spent) ↦ absurd (allowed.not_spent spent) | inr (_, less) ↦ less ];
      content = ap (with_own l) is.issued.content
          ∙ ap (λ (r : OwnRequests Request). with_own l (record r { next = r.next + 1; outstanding = map.insert r.outstanding old.next request; room = new.room })) is.prepared.content
          ∙ (λ i. record l { next = old.next + 1; answered = old.answered; window = old.window; outstanding = λ n. inserted_out old.outstanding old.next request n i });
    }

-- ---- when an exchange is done

-- the ledger is as it was but for windows
record Stays (role : Role) (number : ℕ) (l m : Ledger) : Type 0 where
  windows : KeepWindows role number l m
  content : m ≡ record l { size = m.size; window = m.window }

-- it stays so, or it is closed
abbrev EndsAs : Bool → Role → ℕ → Ledger → Option Ledger → Type 0
EndsAs false role number l o = (m : Ledger) × (o ≡ Some m) × Stays role number l m
EndsAs true role number l o = (m : Ledger) × (o ≡ Some m) × ClosesLedger l m

-- windows that were kept before
keep_from : (role : Role) (number : ℕ) (old l m : Ledger) → l.role ≡ old.role → l.size ≡ old.size → l.window ≡ old.window → KeepWindows role number l m → KeepWindows role number old m
keep_from role number old l m same_role size window (inl kept) = inl (kept.0 ∙ size, kept.1 ∙ window)
keep_from role number old l m same_role size window (inr w) = inr (record {
  role_is = sym same_role ∙ w.role_is;
  number_is = w.number_is;
  wider = omega (arith, w.wider, size);
  most = w.most;
  peers_wider = omega (arith, w.peers_wider, window);
  peers_most = w.peers_most;
})

taken_with : (number : ℕ) (reply : Octets) (old l : Ledger) (size window : ℕ) → KeepWindows Responder number old (record l { size = size; window = window }) → TakesEffectOnce number reply old l
    → TakesEffectOnce number reply old (record l { size = size; window = window })
taken_with number reply old l size window windows is =
    record {
      is_open = is.is_open;
      not_yet = is.not_yet;
      gap = is.gap;
      is_gap = is.is_gap;
      inside = is.inside;
      own_reply = is.own_reply;
      kept = is.kept;
      windows = windows;
      content = ap (λ (x : Ledger). record x { size = size; window = window }) is.content;
    }

counted_with : (number : ℕ) (old l : Ledger) (size window : ℕ) → KeepWindows Initiator number old (record l { size = size; window = window }) → Counts number old l
    → Counts number old (record l { size = size; window = window })
counted_with number old l size window windows is =
    record {
      octets = is.octets;
      there = is.there;
      is_open = is.is_open;
      windows = windows;
      content = ap (λ (x : Ledger). record x { size = size; window = window }) is.content;
    }

taken_leads : (closed : Bool) (number : ℕ) (reply : Octets) (old l : Ledger) (o : Option Ledger) → TakesEffectOnce number reply old l → l.size ≡ old.size → l.window ≡ old.window → EndsAs closed Responder number l o
    → Lead (and_closes (TakeEffect number reply) closed) (Some old) o
taken_leads true number reply old l o takes size window ends = (Some l, takes, (Some ends.0, ends.2, ends.1))
taken_leads false number reply old l o takes size window ends =
    let m = ends.0 in
    let windows : KeepWindows Responder number old m = keep_from Responder number old l m (ap (λ (x : Ledger). x.role) takes.content) size window ends.2.windows in
    let all : TakesEffectOnce number reply old m =
    subst (λ (x : Ledger). TakesEffectOnce number reply old x) (sym ends.2.content)
    (taken_with number reply old l m.size m.window (subst (λ (x : Ledger). KeepWindows Responder number old x) ends.2.content windows) takes) in
    (Some m, all, ends.1)

counted_leads : (closed : Bool) (number : ℕ) (old l : Ledger) (o : Option Ledger) → Counts number old l → l.size ≡ old.size → l.window ≡ old.window → EndsAs closed Initiator number l o
    → Lead (and_closes (Count number) closed) (Some old) o
counted_leads true number old l o counts size window ends = (Some l, counts, (Some ends.0, ends.2, ends.1))
counted_leads false number old l o counts size window ends =
    let m = ends.0 in
    let windows : KeepWindows Initiator number old m = keep_from Initiator number old l m (ap (λ (x : Ledger). x.role) counts.content) size window ends.2.windows in
    let all : Counts number old m =
    subst (λ (x : Ledger). Counts number old x) (sym ends.2.content)
    (counted_with number old l m.size m.window (subst (λ (x : Ledger). KeepWindows Initiator number old x) ends.2.content windows) counts) in
    (Some m, all, ends.1)

closed_ends : (role : Role) (number : ℕ) (a : Association) (keys : KeyRecord) (moment : ℕ) (new : Association) → keys_in a.phase ≡ Some keys → is_closed a.phase ≡ false → GivesUpRequests a.outgoing new.outgoing
    → new ≡ record a { outgoing = new.outgoing; phase = phase.Closed (keys_in a.phase) moment } → EndsAs true role number (ledger_of a keys) (ledger new)
closed_ends role number a keys moment new are is_open gives content =
    let l = ledger_of a keys in
    let closed : Ledger = record l { is_closed = true; outstanding = λ number. None } in (
      closed,
      ap ledger content
          ∙ ap (option_map (ledger_of (record a { outgoing = new.outgoing; phase = phase.Closed (keys_in a.phase) moment }))) are
          ∙ ap (λ (r : OwnRequests Request). Some (record (with_own l r) { is_closed = true })) gives.content
          ∙ (λ i. Some (record l { is_closed = true; outstanding = λ n. option_map (λ (x : Request). x.octets) (map.get-empty {X = Request} nat_cmp n i) })),
      record { is_open = is_open; content = refl },
    )

over_ends : (role : Role) (number : ℕ) (a : Association) (keys : KeyRecord) (table : Database) (moment : ℕ) (new : Association) (new_table : Database) → keys_in a.phase ≡ Some keys → is_closed a.phase ≡ false
    → Closes a table moment new new_table → EndsAs true role number (ledger_of a keys) (ledger new)
over_ends role number a keys table moment new new_table are is_open is = closed_ends role number a keys moment new are is_open is.requests is.content

same_ends : (role : Role) (number : ℕ) (a : Association) (keys : KeyRecord) (new : Association) → keys_in a.phase ≡ Some keys → new ≡ a → EndsAs false role number (ledger_of a keys) (ledger new)
same_ends role number a keys new are same = (ledger_of a keys, ap ledger same ∙ keyed a keys are, record { windows = inl (refl, refl); content = refl })

closed_if_ends : (role : Role) (number : ℕ) (ending : Bool) (serials : List ℕ) (a : Association) (keys : KeyRecord) (table : Database) (moment : ℕ) (new : Association) (new_table : Database) → keys_in a.phase ≡ Some keys
    → is_closed a.phase ≡ false → ClosesIf ending serials a table moment new new_table → EndsAs ending role number (ledger_of a keys) (ledger new)
closed_if_ends role number true serials a keys table moment new new_table are is_open is = over_ends role number a keys table moment new new_table are is_open is
closed_if_ends role number false serials a keys table moment new new_table are is_open is = same_ends role number a keys new are is.0

established_open : (p : Phase) → is_closed (established_of p) ≡ is_closed p
established_open (phase.InitSent sent) = refl
established_open (phase.AuthSent sent) = refl
established_open (phase.HalfOpen opened) = refl
established_open (phase.Established keys) = refl
established_open (phase.Closed keys at) = refl

-- what is asked of an IKE SA so that IKE_AUTH can be done: its windows, and whose request it is
record AwaitsWindows (setup : Setup) (role : Role) (number : ℕ) (a : Association) (o : Outcome) : Type 0 where
  role_is : a.role ≡ role
  number_is : number ≡ 1
  own : a.incoming.size ≤ WINDOW_LIMIT
  peers : a.outgoing.window ≤ WINDOW_LIMIT
  configured : IsWindow setup.config.window
  tells : TellsWindow o

concluded_ends : (setup : Setup) (role : Role) (number : ℕ) (a : Association) (keys : KeyRecord) (table : Database) (o : Outcome) (came : Fate) (new : Association) (new_table : Database)
    → AwaitsWindows setup role number a o → keys_in a.phase ≡ Some keys → is_closed a.phase ≡ false → ConcludesBy setup a table o came new new_table → EndsAs (is_closing o) role number (ledger_of a keys) (ledger new)
concluded_ends setup role number a keys table outcome.Closes came new new_table windows are is_open is = over_ends role number a keys table setup.moment new new_table are is_open is.over
concluded_ends setup role number a keys table (outcome.Establishes pair window) came new new_table windows are is_open is =
    let l = ledger_of a keys in
    let size = max setup.config.window a.incoming.size in
    let peers = max window a.outgoing.window in
    let there : keys_in (established_of a.phase) ≡ Some keys = established_keys a.phase ∙ are in (
      record l { size = size; window = peers },
      ap ledger is.content
          ∙ ap (option_map (λ (k : KeyRecord). record (ledger_of a k) { is_closed = is_closed (established_of a.phase); size = size; window = peers })) there
          ∙ ap (λ (b : Bool). Some (record l { is_closed = b; size = size; window = peers })) (established_open a.phase),
      record {
        windows = inr (record {
          role_is = windows.role_is;
          number_is = windows.number_is;
          wider = le-max_right setup.config.window a.incoming.size;
          most = omega (arith, windows.own, windows.configured.widest);
          peers_wider = le-max_right window a.outgoing.window;
          peers_most = omega (arith, windows.peers, windows.tells.widest);
        });
        content = refl;
      },
    )

-- ---- a request, and a response

-- what is fresh beside the request of IKE_SA_INIT has Message ID 1
fresh_first : (room number : ℕ) → IsFreshRequest (record after_number_0 { room = room }) number → number ≡ 1
fresh_first room number fresh =
    let has : HasNumber after_number_0.in_effect 0 = inserted set.empty 0 in
    let none : (n : ℕ) → LacksNumber after_number_0.in_effect n → n ≢ 0 = λ n lacks zero. yes_no (set.contains after_number_0.in_effect 0) has (subst (λ k. LacksNumber after_number_0.in_effect k) zero lacks) in
    let other : number ≢ 0 = none number fresh.not_in_effect in
    elim (leb_tells 2 fresh.gap) [
      | inl (_, above) ↦ (let zero : 1 ≡ 0 = came set.empty 0 1 (set.contains-empty nat_cmp 1) (fresh.is_gap.below 1 (omega (arith, above))) in absurd (omega (arith, zero)))
      | inr (_, less) ↦ omega (arith, less, other, fresh.inside)
    ]

taken_moves : (old : Association) (keys : KeyRecord) (ready incoming : PeerRequests) (number : ℕ) (reply : Octets) → is_closed old.phase ≡ false → HasSameRequests old.incoming ready → TakesRequest ready number reply incoming
    → TakesEffectOnce number reply (ledger_of old keys) (ledger_of (with_incoming old incoming) keys)
taken_moves old keys ready incoming number reply is_open prepared taken =
    let fresh : IsFreshRequest (record old.incoming { room = ready.room }) number = subst (λ (r : PeerRequests). IsFreshRequest r number) prepared.content taken.fresh in
    let kept : ready.kept ≡ old.incoming.kept = ap (λ (r : PeerRequests). r.kept) prepared.content in
    let in_effect : incoming.in_effect ≡ set.insert old.incoming.in_effect number = taken.in_effect ∙ ap (λ (r : PeerRequests). set.insert r.in_effect number) prepared.content in
    let size = taken_size old.incoming ready number reply incoming prepared taken in
    record {
      is_open = is_open;
      not_yet = fresh.not_in_effect;
      gap = fresh.gap;
      is_gap = fresh.is_gap;
      inside = fresh.inside;
      own_reply = taken.own_reply;
      kept = λ other octets. (
        λ there.
            let was = (taken.kept other octets).0 there in (
              subst (λ (m : map.FinMap nat_cmp Octets). map.get (map.insert m number reply) other ≡ Some octets) kept was.0,
              λ passed. was.1 (subst (λ n. IsPassed incoming.in_effect n other) (sym size) passed),
            ),
        λ (was, near).
            (taken.kept other octets).1 (
              subst (λ (m : map.FinMap nat_cmp Octets). map.get (map.insert m number reply) other ≡ Some octets) (sym kept) was,
              λ passed. near (subst (λ n. IsPassed incoming.in_effect n other) size passed),
            ),
      );
      windows = inl (size, refl);
      content = λ i. record (ledger_of (with_incoming old incoming) keys) { in_effect = in_effect i };
    }

counted_moves : (old : Association) (keys : KeyRecord) (number : ℕ) (request : Request) (outgoing : OwnRequests Request) → is_closed old.phase ≡ false → CountsAnswer old.outgoing number request outgoing
    → Counts number (ledger_of old keys) (ledger_of (with_outgoing old outgoing) keys)
counted_moves old keys number request outgoing is_open is =
    let window = counted_window old.outgoing number request outgoing is in
    record {
      octets = request.octets;
      there = ap (option_map (λ (x : Request). x.octets)) is.there;
      is_open = is_open;
      windows = inl (refl, window);
      content = ap (with_own (ledger_of old keys)) is.content
          ∙ (λ i. record (ledger_of old keys) { answered = set.insert old.outgoing.answered number; outstanding = λ n. removed_out old.outgoing.outstanding number n i })
          ∙ (λ i. record (ledger_of old keys) { answered = set.insert old.outgoing.answered number; outstanding = put (octets_out old.outgoing) number None; window = sym window i });
    }

-- ---- a message

from_keys : (moves : List Move) (old : Association) (keys : KeyRecord) (o : Option Ledger) → keys_in old.phase ≡ Some keys → Lead moves (Some (ledger_of old keys)) o → Lead moves (ledger old) o
from_keys moves old keys o are leads = subst (λ (x : Option Ledger). Lead moves x o) (sym (keyed old keys are)) leads

way_moves : Windows → (meaning : Meaning) (setup : Setup) (old : Association) (table : Database) (octets : Octets) (m : Message) (e : Effect) (new : Association) (new_table : Database)
    → IsSoundlyHeld old → IsConfig setup.config → Way meaning setup old table octets m e new new_table → Lead (moves_of m.header.id (keys_in new.phase) e) (ledger old) (ledger new)
way_moves windows meaning setup old table octets m (effect.Refused fault) new new_table held config is = ap ledger is.association
way_moves windows meaning setup old table octets m (effect.Repeated reply) new new_table held config is = ap ledger is.same.association
way_moves windows meaning setup old table octets m (effect.Replied answered) new new_table held config (inl is) =
    let d = is.done in
    let keys = d.opened.keys in
    let is_open : is_closed old.phase ≡ false = ap is_closed d.was in
    let first = held.took_first (record { opened = d.opened; is = d.was }) in
    let size = taken_size old.incoming d.ready m.header.id answered.octets d.incoming d.prepared d.taken in
    let one : old.incoming.size ≡ 1 = ap (λ (r : PeerRequests). r.size) first.incoming in
    let awaits : AwaitsWindows setup Responder m.header.id (with_incoming old d.incoming) (outcome_of d.decision) = record {
      role_is = first.role;
      number_is = fresh_first d.ready.room m.header.id
          (subst (λ (r : PeerRequests). IsFreshRequest r m.header.id) (d.prepared.content ∙ ap (λ (r : PeerRequests). record r { room = d.ready.room }) first.incoming) d.taken.fresh);
      own = omega (arith, size, one);
      peers = held.peers;
      configured = config.window;
      tells = decided_window windows meaning.accepts setup old.serial d.opened table d.decided.payloads d.decision d.decided.due;
    } in
    from_keys (and_closes (TakeEffect m.header.id answered.octets) (closed_by answered.fate)) old keys (ledger new) (ap keys_in d.was)
    (taken_leads (closed_by answered.fate) m.header.id answered.octets (ledger_of old keys) (ledger_of (with_incoming old d.incoming) keys) (ledger new)
    (taken_moves old keys d.ready d.incoming m.header.id answered.octets is_open d.prepared d.taken) size refl
    (subst (λ (b : Bool). EndsAs b Responder m.header.id (ledger_of (with_incoming old d.incoming) keys) (ledger new)) (sym (concluded_fate setup (with_incoming old d.incoming) d.between (outcome_of d.decision) answered.fate new new_table d.concluded))
    (concluded_ends setup Responder m.header.id (with_incoming old d.incoming) keys d.between (outcome_of d.decision) answered.fate new new_table awaits (ap keys_in d.was) is_open d.concluded)))
way_moves windows meaning setup old table octets m (effect.Replied answered) new new_table held config (inr is) =
    let d = answered_later meaning setup old table octets m answered new new_table is in
    let is_open : is_closed old.phase ≡ false = ap is_closed d.was in
    from_keys (and_closes (TakeEffect m.header.id answered.octets) (closed_by answered.fate)) old d.keys (ledger new) (ap keys_in d.was)
    (taken_leads (closed_by answered.fate) m.header.id answered.octets (ledger_of old d.keys) (ledger_of (with_incoming old d.incoming) d.keys) (ledger new)
    (taken_moves old d.keys d.ready d.incoming m.header.id answered.octets is_open d.prepared d.taken)
    (taken_size old.incoming d.ready m.header.id answered.octets d.incoming d.prepared d.taken) refl
    (closed_if_ends Responder m.header.id (closed_by answered.fate) d.ends.serials (with_incoming old d.incoming) d.keys d.ends.before setup.moment new d.ends.after (ap keys_in d.was) is_open d.ends.is))
way_moves windows meaning setup old table octets m (effect.Counted ended) new new_table held config (inl is) =
    let d = is.done in
    let keys = d.sent.keys in
    let is_open : is_closed old.phase ≡ false = ap is_closed d.was in
    let none = held.took_none (inr (record { sent = d.sent; is = d.was })) in
    let window = counted_window old.outgoing m.header.id d.request d.outgoing d.counted in
    let one : old.incoming.size ≡ 1 = ap (λ (r : PeerRequests). r.size) none.incoming in
    let awaits : AwaitsWindows setup Initiator m.header.id (with_outgoing old d.outgoing) d.verdict = record {
      role_is = none.role;
      number_is = (subst (λ (p : Phase). MayBeOutstanding p m.header.id d.request.purpose) d.was (held.waits m.header.id d.request d.counted.there)).0;
      own = omega (arith, one);
      peers = omega (arith, window, held.peers);
      configured = config.window;
      tells = judged_window windows meaning.accepts setup old.serial d.sent d.judged.payloads d.verdict d.judged.due;
    } in
    from_keys (and_closes (Count m.header.id) (closed_by ended.fate)) old keys (ledger new) (ap keys_in d.was)
    (counted_leads (closed_by ended.fate) m.header.id (ledger_of old keys) (ledger_of (with_outgoing old d.outgoing) keys) (ledger new)
    (counted_moves old keys m.header.id d.request d.outgoing is_open d.counted) refl window
    (subst (λ (b : Bool). EndsAs b Initiator m.header.id (ledger_of (with_outgoing old d.outgoing) keys) (ledger new)) (sym (concluded_fate setup (with_outgoing old d.outgoing) table d.verdict ended.fate new new_table d.concluded))
    (concluded_ends setup Initiator m.header.id (with_outgoing old d.outgoing) keys table d.verdict ended.fate new new_table awaits (ap keys_in d.was) is_open d.concluded)))
way_moves windows meaning setup old table octets m (effect.Counted ended) new new_table held config (inr is) =
    let d = counted_later meaning setup old table octets m ended new new_table is in
    let is_open : is_closed old.phase ≡ false = ap is_closed d.was in
    from_keys (and_closes (Count m.header.id) (closed_by ended.fate)) old d.keys (ledger new) (ap keys_in d.was)
    (counted_leads (closed_by ended.fate) m.header.id (ledger_of old d.keys) (ledger_of (with_outgoing old d.outgoing) d.keys) (ledger new)
    (counted_moves old d.keys m.header.id d.request d.outgoing is_open d.counted) refl (counted_window old.outgoing m.header.id d.request d.outgoing d.counted)
    (closed_if_ends Initiator m.header.id (closed_by ended.fate) d.ends.serials (with_outgoing old d.outgoing) d.keys d.ends.before setup.moment new d.ends.after (ap keys_in d.was) is_open d.ends.is))
way_moves windows meaning setup old table octets m (effect.Again next) new new_table held config is = ap ledger is.done.content ∙ sym (no_ledger old (ap keys_in is.was))
way_moves windows meaning setup old table octets m (effect.AsksAuth next) new new_table held config is =
    let d = is.done in
    let are : keys_in new.phase ≡ Some is.keys = ap (λ (x : Association). keys_in x.phase) d.content in
    let made : Ledger = with_own (ledger_of new is.keys) number_0_answered in
    let is_open : is_closed new.phase ≡ false = ap (λ (x : Association). is_closed x.phase) d.content in
    let none = held.took_none (inl (record { sent = is.sent; is = is.was })) in
    let role : new.role ≡ Initiator = ap (λ (x : Association). x.role) d.content ∙ none.role in
    let incoming : new.incoming ≡ record no_requests { room = old.incoming.room } = ap (λ (x : Association). x.incoming) d.content ∙ none.incoming in
    let leads : Lead (makes_and_issues (Some is.keys) next) None (Some (ledger_of new is.keys)) = (
      Some made,
      record { content = (λ i. ledger_with is.keys (role i) (is_open i) (incoming i) number_0_answered) ∙ ap (first_ledger is.keys) (sym role) },
      (Some (ledger_of new is.keys), issued_moves made number_0_answered (new_request next Identify setup.moment) new.outgoing is_open d.issued, refl),
    ) in
    subst (λ (k : Option KeyRecord). Lead (makes_and_issues k next) (ledger old) (ledger new)) (sym are)
    (subst (λ (x : Option Ledger). Lead (makes_and_issues (Some is.keys) next) x (ledger new)) (sym (no_ledger old (ap keys_in is.was)))
    (subst (λ (x : Option Ledger). Lead (makes_and_issues (Some is.keys) next) None x) (sym (keyed new is.keys are)) leads))

pub message_moves : Windows → (meaning : Meaning) (setup : Setup) (old : Association) (table : Database) (octets : Octets) (m : Message) (e : Effect) (new : Association) (new_table : Database)
    → IsSoundlyHeld old → IsConfig setup.config → TakesMessage meaning setup old table octets m e new new_table → Lead (moves_of m.header.id (keys_in new.phase) e) (ledger old) (ledger new)
message_moves windows meaning setup old table octets m e new new_table held config is = way_moves windows meaning setup old table octets m e new new_table held config (way_of meaning setup old table octets m e new new_table is)

-- ---- a command, and the end

pub requested_moves : (body_of : Keys → Octets → Octets → Octets → Octets) (setup : Setup) (old : Association) (octets : Octets) (new : Association)
    → SendsRequest body_of setup old octets new → Lead (Issue old.outgoing.next octets ∷ []) (ledger old) (ledger new)
requested_moves body_of setup old octets new is =
    let l = ledger_of old is.keys in
    let after : ledger new ≡ Some (with_own l is.outgoing) = ap ledger is.content ∙ ap (option_map (ledger_of (with_outgoing old is.outgoing))) (ap keys_in is.established) in
    from_keys (Issue old.outgoing.next octets ∷ []) old is.keys (ledger new) (ap keys_in is.established)
    (Some (with_own l is.outgoing), issued_moves l old.outgoing (new_request octets is.purpose setup.moment) is.outgoing (ap is_closed is.established) is.issued, after)

-- what waits belongs to a phase that is open, and in which nothing is over
waiting_open : (p : Phase) (number : ℕ) (asked : Purpose) → MayBeOutstanding p number asked → is_closed p ≡ false
waiting_open (phase.InitSent sent) number asked may = refl
waiting_open (phase.AuthSent sent) number asked may = refl
waiting_open (phase.HalfOpen opened) number asked may = absurd may
waiting_open (phase.Established keys) number asked may = refl
waiting_open (phase.Closed keys at) number asked may = absurd may

over_waits : (now : ℕ) (p : Phase) (number : ℕ) (asked : Purpose) → is_over now p ≡ true → MayBeOutstanding p number asked → ⊥
over_waits now (phase.InitSent sent) number asked over may = cc
over_waits now (phase.AuthSent sent) number asked over may = cc
over_waits now (phase.HalfOpen opened) number asked over may = may
over_waits now (phase.Established keys) number asked over may = cc
over_waits now (phase.Closed keys at) number asked over may = may

none_out : (o : Option Request) → ((request : Request) → o ≡ Some request → ⊥) → option_map (λ (x : Request). x.octets) o ≡ None
none_out None never = refl
none_out (Some request) never = absurd (never request refl)

-- who is taken to be gone was asked
abbrev pub WhoIsGone : Type 0
WhoIsGone = (now : ℕ) (a : Association) → has_failed now a ≡ true → SomeOutstanding a.outgoing.outstanding (λ (r : Request) (b : Bool). is_unanswered now r ≡ b)

pub closing_moves : WhoIsGone → (now : ℕ) (old new : Association) (keys : KeyRecord) → IsSoundlyHeld old → keys_in old.phase ≡ Some keys → IsClosedAt now old new → Lead (Close ∷ []) (ledger old) (ledger new)
closing_moves gone now old new keys held are is =
    let asked = gone now old is.failed in
    let is_open = waiting_open old.phase asked.number asked.request.purpose (held.waits asked.number asked.request asked.there) in
    let ends = closed_ends old.role asked.number old keys now new are is_open is.requests is.content in
    from_keys (Close ∷ []) old keys (ledger new) are (Some ends.0, ends.2, ends.1)

-- one that is over is closed, or half-open
over_phase : (now : ℕ) (p : Phase) → is_over now p ≡ true → (is_closed p ≡ true) ⊎ IsHalfOpen p
over_phase now (phase.InitSent sent) over = absurd cc
over_phase now (phase.AuthSent sent) over = absurd cc
over_phase now (phase.HalfOpen opened) over = inr (record { opened = opened; is = refl })
over_phase now (phase.Established keys) over = absurd cc
over_phase now (phase.Closed keys at) over = inl refl

-- what is half-open is as it was made
still_first : (a : Association) (keys : KeyRecord) → is_closed a.phase ≡ false → ((n : ℕ) → octets_out a.outgoing n ≡ None) → TookFirstRequest a → ledger_of a keys ≡ first_ledger keys Responder
still_first a keys is_open none first =
    let out : (n : ℕ) → octets_out a.outgoing n ≡ octets_out none_issued n = λ n. none n ∙ sym (ap (option_map (λ (x : Request). x.octets)) (map.get-empty {X = Request} nat_cmp n)) in
    λ i. record (ledger_with keys (first.role i) (is_open i) (first.incoming i) none_issued) {
      next = first.next i;
      answered = first.answered i;
      window = first.window i;
      outstanding = λ n. out n i;
    }

pub removal_moves : (now : ℕ) (old : Association) (keys : KeyRecord) → IsSoundlyHeld old → keys_in old.phase ≡ Some keys → is_over now old.phase ≡ true → Lead (Remove ∷ []) (ledger old) None
removal_moves now old keys held are over =
    let none : (n : ℕ) → octets_out old.outgoing n ≡ None = λ number. none_out (map.get old.outgoing.outstanding number)
    (λ request there. over_waits now old.phase number request.purpose over (held.waits number request there)) in
    from_keys (Remove ∷ []) old keys None are (
      None,
      record {
        waits = none;
        over = elim (over_phase now old.phase over) [
          | inl closed ↦ inl closed
          | inr opened ↦ inr (still_first old keys (ap is_closed opened.is) none (held.took_first opened))
        ];
      },
      refl,
    )

pub admitted_moves : (cipher : Cipher) (group : ℕ) (public_value : Octets → Octets) (shared_secret : Octets → Octets → Option Octets) (fresh : Fresh) (moment serial : ℕ) (offer : OfferView) (spi_i : ℕ) (request : Octets) (admitted : Admitted)
    → Admits cipher group public_value shared_secret fresh moment serial offer spi_i request admitted → (keys : KeyRecord) × Lead (Make keys ∷ []) None (ledger admitted.association)
admitted_moves cipher group public_value shared_secret fresh moment serial offer spi_i request admitted is =
    let keys = is.agreed.record in
    let are : keys_in admitted.association.phase ≡ Some keys = ap (λ (x : Association). keys_in x.phase) is.content in
    let role : admitted.association.role ≡ Responder = ap (λ (x : Association). x.role) is.content in (
      keys,
      (
        Some (ledger_of admitted.association keys),
        record { content = ap (λ (x : Association). ledger_of x keys) is.content ∙ ap (first_ledger keys) (sym role) },
        keyed admitted.association keys are,
      ),
    )

-- there is nothing to speak of as this end begins
pub begun_none : (cipher : Cipher) (group : ℕ) (public_value : Octets → Octets) (fresh : Fresh) (moment serial : ℕ) (beginning : Beginning) (child : AskedChildView)
    → Begins cipher group public_value fresh moment beginning → ledger (begun serial beginning child) ≡ None
begun_none cipher group public_value fresh moment serial beginning child is = refl

-- a request that goes out again has the octets that it had
again_out : (now : ℕ) (r : Request) (due : Bool) → (cond due (record r { timer = record { sent = now; repeats = r.timer.repeats + 1 } }) r).octets ≡ r.octets
again_out now r true = refl
again_out now r false = refl

again_outs : (now : ℕ) (o : Option Request) → option_map (λ (x : Request). x.octets) (option_map (after_sending now) o) ≡ option_map (λ (x : Request). x.octets) o
again_outs now None = refl
again_outs now (Some r) = ap Some (again_out now r (is_due now r))

pub sending_moves : (now : ℕ) (old new : Association) → SendsAgain now old new → Lead [] (ledger old) (ledger new)
sending_moves now old new is =
    let out = λ (n : ℕ). ap (option_map (λ (x : Request). x.octets)) (is.each n) ∙ again_outs now (map.get old.outgoing.outstanding n) in
    ap ledger is.content ∙ (λ i. option_map (λ (k : KeyRecord). record (ledger_of old k) { outstanding = λ n. out n i }) (keys_in old.phase))

-- ---- what goes out again

with_keys : (keys : Option KeyRecord) (plain_of : Opening) (role : Role) (octets : Octets) (payloads : List Payload) (plain : Plain) → opened_under plain_of role keys octets payloads ≡ Some plain → (k : KeyRecord) × (keys ≡ Some k)
with_keys None plain_of role octets payloads plain is = absurd cc
with_keys (Some k) plain_of role octets payloads plain is = (k, refl)

pub kept_again : ((plain_of : Opening) (a : Association) (octets : Octets) (m : Message) (reply : Octets) → IsReceived plain_of a octets m (Repeat reply) → IsRepeating plain_of a octets m reply)
    → (meaning : Meaning) (setup : Setup) (old : Association) (table : Database) (octets : Octets) (m : Message) (reply : Octets) (new : Association) (new_table : Database)
    → TakesMessage meaning setup old table octets m (effect.Repeated reply) new new_table → KeepsReply (ledger old) m.header.id reply
kept_again why meaning setup old table octets m reply new new_table is =
    let repeats = repeated_why why meaning setup old table octets m reply new new_table is in
    let keys = with_keys (keys_in old.phase) meaning.plain_of old.role octets m.payloads repeats.plain repeats.opened in
    subst (λ (x : Option Ledger). KeepsReply x m.header.id reply) (sym (keyed old keys.0 keys.1)) repeats.kept

sealed_keys : (p : Phase) (number : ℕ) (asked : Purpose) → MayBeOutstanding p number asked → (exchange_of asked == IKE_SA_INIT) ≡ false → (k : KeyRecord) × (keys_in p ≡ Some k)
sealed_keys (phase.InitSent sent) number asked may other = absurd (yes_no (exchange_of asked == IKE_SA_INIT) (ap (λ (e : Purpose). exchange_of e == IKE_SA_INIT) may.1) other)
sealed_keys (phase.AuthSent sent) number asked may other = (sent.keys, refl)
sealed_keys (phase.HalfOpen opened) number asked may other = absurd may
sealed_keys (phase.Established keys) number asked may other = (keys, refl)
sealed_keys (phase.Closed keys at) number asked may other = absurd may

pub waiting_again : (a : Association) (number : ℕ) (request : Request) → IsSoundlyHeld a → map.get a.outgoing.outstanding number ≡ Some request → (exchange_of request.purpose == IKE_SA_INIT) ≡ false
    → WaitsWith (ledger a) number request.octets
waiting_again a number request held there other =
    let keys = sealed_keys a.phase number request.purpose (held.waits number request there) other in
    subst (λ (x : Option Ledger). WaitsWith x number request.octets) (sym (keyed a keys.0 keys.1)) (ap (option_map (λ (x : Request). x.octets)) there)

-- ---- keys come by IKE_SA_INIT

identified_further : (informational : Bool) (meaning : Meaning) (setup : Setup) (old : Association) (table : Database) (number : ℕ) (plain : Plain) (next : Octets) (new : Association) (new_table : Database)
    → DoesAtEstablished informational meaning setup old table number plain (effect.AsksAuth next) new new_table → ⊥
identified_further true meaning setup old table number plain next new new_table is = is
identified_further false meaning setup old table number plain next new new_table is = is

identified_request : (p : Phase) (meaning : Meaning) (setup : Setup) (exchange : ℕ) (old : Association) (table : Database) (number : ℕ) (plain : Plain) (next : Octets) (new : Association) (new_table : Database)
    → DoesRequest meaning setup p exchange old table number plain (effect.AsksAuth next) new new_table → ⊥
identified_request (phase.InitSent sent) meaning setup exchange old table number plain next new new_table is = is
identified_request (phase.AuthSent sent) meaning setup exchange old table number plain next new new_table is = is
identified_request (phase.HalfOpen opened) meaning setup exchange old table number plain next new new_table is = is
identified_request (phase.Established keys) meaning setup exchange old table number plain next new new_table is =
    identified_further (exchange == INFORMATIONAL) meaning setup old table number plain next new new_table is
identified_request (phase.Closed keys at) meaning setup exchange old table number plain next new new_table is = is

identified_answer : (further : Bool) (setup : Setup) (old : Association) (table : Database) (number : ℕ) (plain : Plain) (next : Octets) (new : Association) (new_table : Database)
    → DoesAnswer further setup old table number plain (effect.AsksAuth next) new new_table → ⊥
identified_answer true setup old table number plain next new new_table is = is
identified_answer false setup old table number plain next new new_table is = is

identified_response : (p : Phase) (meaning : Meaning) (setup : Setup) (old : Association) (table : Database) (number : ℕ) (plain : Plain) (next : Octets) (new : Association) (new_table : Database)
    → DoesResponse meaning setup p old table number plain (effect.AsksAuth next) new new_table → ⊥
identified_response (phase.InitSent sent) meaning setup old table number plain next new new_table is = is
identified_response (phase.AuthSent sent) meaning setup old table number plain next new new_table is = is
identified_response (phase.HalfOpen opened) meaning setup old table number plain next new new_table is = is
identified_response (phase.Established keys) meaning setup old table number plain next new new_table is = identified_answer (asked_further old number) setup old table number plain next new new_table is
identified_response (phase.Closed keys at) meaning setup old table number plain next new new_table is = is

identified_reception : (r : Reception) (meaning : Meaning) (setup : Setup) (old : Association) (table : Database) (octets : Octets) (m : Message) (next : Octets) (new : Association) (new_table : Database)
    → Does meaning setup old table octets m r (effect.AsksAuth next) new new_table → r ≡ AnswersInitial
identified_reception (Refused fault) meaning setup old table octets m next new new_table is = absurd is
identified_reception (Repeat reply) meaning setup old table octets m next new new_table is = absurd is
identified_reception (TakesEffect plain) meaning setup old table octets m next new new_table is =
    absurd (identified_request old.phase meaning setup m.header.exchange old table m.header.id plain next new new_table is)
identified_reception (Answers plain) meaning setup old table octets m next new new_table is = absurd (identified_response old.phase meaning setup old table m.header.id plain next new new_table is)
identified_reception AnswersInitial meaning setup old table octets m next new new_table is = refl

-- what waits then is of IKE_SA_INIT
waiting_initial : (p : Phase) (number : ℕ) (asked : Purpose) → is_waiting p ≡ true → MayBeOutstanding p number asked → exchange_of asked ≡ IKE_SA_INIT
waiting_initial (phase.InitSent sent) number asked waits may = ap exchange_of may.1
waiting_initial (phase.AuthSent sent) number asked waits may = absurd cc
waiting_initial (phase.HalfOpen opened) number asked waits may = absurd may
waiting_initial (phase.Established keys) number asked waits may = absurd cc
waiting_initial (phase.Closed keys at) number asked waits may = absurd may

pub identified_by : ((plain_of : Opening) (a : Association) (octets : Octets) (m : Message) → IsReceived plain_of a octets m AnswersInitial → IsAnsweringInitial a m)
    → (meaning : Meaning) (setup : Setup) (old : Association) (table : Database) (octets : Octets) (m : Message) (next : Octets) (new : Association) (new_table : Database)
    → IsSoundlyHeld old → TakesMessage meaning setup old table octets m (effect.AsksAuth next) new new_table → (m.header.exchange ≡ IKE_SA_INIT) × (m.header.flags.response ≡ true)
identified_by why meaning setup old table octets m next new new_table held is =
    let same = identified_reception is.reception meaning setup old table octets m next new new_table is.done in
    let answers = why meaning.plain_of old octets m (subst (λ (r : Reception). IsReceived meaning.plain_of old octets m r) same is.received) in
    let due = answers.due in (
      sym (eqb-true (exchange_of due.request.purpose) m.header.exchange due.exchange_is) ∙ waiting_initial old.phase m.header.id due.request.purpose answers.waiting (held.waits m.header.id due.request due.outstanding),
      due.response,
    )

-- ---- how many there are

few_ended : (move : Move) (closed : Bool) → length (and_closes move closed) ≤ 2
few_ended move true = omega arith
few_ended move false = omega arith

few_made : (keys : Option KeyRecord) (octets : Octets) → length (makes_and_issues keys octets) ≤ 2
few_made (Some keys) octets = omega arith
few_made None octets = omega arith

pub few_moves : (number : ℕ) (keys : Option KeyRecord) (e : Effect) → length (moves_of number keys e) ≤ 2
few_moves number keys (effect.Refused fault) = omega arith
few_moves number keys (effect.Repeated octets) = omega arith
few_moves number keys (effect.Replied answered) = few_ended (TakeEffect number answered.octets) (closed_by answered.fate)
few_moves number keys (effect.Again octets) = omega arith
few_moves number keys (effect.AsksAuth octets) = few_made keys octets
few_moves number keys (effect.Counted ended) = few_ended (Count number) (closed_by ended.fate)
