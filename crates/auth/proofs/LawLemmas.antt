-- What follows from the definitions: who is accepted, what fits, what is read again.
use Rattle.std.proofs.Common.{◌≡◌, ◌==◌, ◌&&◌, ◌+◌, ◌<◌, ◌≤◌, ◌^◌, ℕ, Bool, true, false, Option, Some, None, List, [], ◌∷◌, ◌++◌, IsTrue, is_some, nat_lt, nat_eq, unwrap_or, if◌then◌else◌, length, refl, sym, ap, subst, ◌∙◌, arith}
use Rattle.std.proofs.lemmas.Bool.{eq-eqb, eqb-true}
use Rattle.std.proofs.lemmas.Bool.Decides.{nat_tests}
use Rattle.std.proofs.lemmas.List.Sums.{sum_by-cons, sum_by-append}
use Rattle.std.proofs.lemmas.Nat.{from_be_bytes-to_be_bytes_4}
use Rattle.std.proofs.lemmas.Option.{same_Some}
use Rattle.std.specs.Cmp.Lexicographic.{pointwise, same_text}
use Rattle.std.specs.Int.{from_be_bytes, w32}
use Rattle.std.specs.List.{AllByRecursion, sum_by}
use Rattle.std.specs.Option.{option_or}
use Rattle.base.specs.Octets.{Octets}
use Rattle.wire.specs.Numbers.{SET_WINDOW_SIZE}
use Rattle.wire.specs.Sizes.{size_of, FitsFields}
use Rattle.wire.specs.declared.payload.Payload.{Payload}
use Rattle.wire.specs.declared.payload.Payload.TheVariants.{Auth, IdI, IdR, Notify}
use Rattle.exchange.specs.Children.{child_payloads, answering_payloads}
use Rattle.exchange.specs.Counting.{first_some, only_auth, only_id_i, only_sa, only_ts_i, only_ts_r, unknown_critical}
use Rattle.exchange.specs.Notices.{payload_of_notice}
use Rattle.exchange.specs.declared.child.ChildPayloads.{ChildPayloads}
use Rattle.exchange.specs.declared.headers.Role.{Role}
use Rattle.exchange.specs.declared.headers.Role.TheVariants.{Initiator, Responder}
use Rattle.exchange.specs.declared.notices.Notice.{Notice}
use Rattle.exchange.specs.declared.notices.Notice.TheVariants.{UnsupportedCriticalPayload, InvalidSyntax, NoProposalChosen, AuthenticationFailed, NoAdditionalSas, TsUnacceptable, Cookie}
use Rattle.auth.specs.Answers.{auth_answer, is_accepted}
use Rattle.auth.specs.Fitting.{FitWithin, OWN_LIMIT}
use Rattle.auth.specs.Proofs.{auth_payload, id_payload, is_identity, is_peer, is_proved, octets_to_prove, proved_identity, Accepts, IsIdentity, ProvesItself, ProvingView}
use Rattle.auth.specs.Requests.{auth_request, is_complete, Accepted, AskedView, AuthJudgement, IsAcceptedRequest, IsAuthJudgement, Refused}
use Rattle.auth.specs.Windows.{peer_window, window_in, window_notices, window_payload, window_within, IsWindow}
use Rattle.exchange.specs.declared.child.ChildAnswer.{ChildAnswer}
use Rattle.exchange.specs.declared.child.ChildAnswer.TheVariants as answered
use Rattle.auth.specs.declared.identity.Identity.{Identity}

and_left : (a b : Bool) → (a && b) ≡ true → a ≡ true
and_left true b is = refl
and_left false b is = cc

and_right : (a b : Bool) → (a && b) ≡ true → b ≡ true
and_right true b is = is
and_right false b is = cc

both : (a b : Bool) → a ≡ true → b ≡ true → (a && b) ≡ true
both a b is too = λ i. is i && too i

all_there : (a b c d e : Bool) → a ≡ true → b ≡ true → c ≡ true → d ≡ true → e ≡ true → (a && b && c && d && e) ≡ true
all_there a b c d e p q r s t = λ i. p i && q i && r i && s i && t i

pointwise_itself : (xs : List ℕ) → pointwise nat_eq xs xs ≡ true
pointwise_itself [] = refl
pointwise_itself (x ∷ xs) = rw (eq-eqb x x refl) (pointwise_itself xs)

-- Who is accepted.

peer_there : (accepts : Accepts) (peer : Identity) (what : ProvingView) (id auth : Option (ℕ × Octets)) → is_peer accepts peer what id auth ≡ true → (is_some id ≡ true) × (is_some auth ≡ true)
peer_there accepts peer what (Some id) (Some auth) is = (refl, refl)
peer_there accepts peer what (Some id) None is = cc
peer_there accepts peer what None auth is = cc

proved_itself : (accepts : Accepts) (peer : Identity) (what : ProvingView) (kind : ℕ) (id : Octets) (method : ℕ) (proof : Octets)
    → is_proved accepts peer what kind id method proof ≡ true → ProvesItself accepts peer what (Some (kind, id)) (Some (method, proof))
proved_itself accepts peer what kind id method proof is =
    let named : is_identity peer kind id ≡ true = and_left (is_identity peer kind id) _ is in
    let accepted : accepts kind id method (octets_to_prove what peer) proof ≡ true = and_right (is_identity peer kind id) _ is in
    let kinds : kind ≡ peer.kind = eqb-true kind peer.kind (and_left (kind == peer.kind) _ named) in
    let ids : id ≡ peer.data = same_text id peer.data (sym (and_right (kind == peer.kind) _ named)) in
    record {
      method = method;
      proof = proof;
      identity = λ i. Some (kinds i, ids i);
      alone = refl;
      checked = (λ i. accepts (sym kinds i) (sym ids i) method (octets_to_prove what peer) proof) ∙ accepted;
    }

pub peer_proves : (accepts : Accepts) (peer : Identity) (what : ProvingView) (id auth : Option (ℕ × Octets)) → is_peer accepts peer what id auth ≡ true → ProvesItself accepts peer what id auth
peer_proves accepts peer what (Some id) (Some auth) is = proved_itself accepts peer what id.0 id.1 auth.0 auth.1 is
peer_proves accepts peer what (Some id) None is = cc
peer_proves accepts peer what None auth is = cc

-- Judgements are determined.

judged : Option ℕ → Bool → Bool → AskedView → AuthJudgement
judged (Some kind) complete proved asked = Refused (UnsupportedCriticalPayload kind)
judged None false proved asked = Refused InvalidSyntax
judged None true false asked = Refused AuthenticationFailed
judged None true true asked = Accepted asked

asked_in : List Payload → AskedView
asked_in ps = record { child = record { proposals = unwrap_or (only_sa ps) []; ts_i = unwrap_or (only_ts_i ps) []; ts_r = unwrap_or (only_ts_r ps) [] }; window = peer_window ps }

judgement_of : Accepts → Identity → ProvingView → List Payload → AuthJudgement
judgement_of accepts peer what ps = judged (unknown_critical ps) (is_complete ps) (is_peer accepts peer what (only_id_i ps) (only_auth ps)) (asked_in ps)

accepted_alone : (accepts : Accepts) (peer : Identity) (what : ProvingView) (ps : List Payload) (asked : AskedView) → IsAcceptedRequest accepts peer what ps asked → judgement_of accepts peer what ps ≡ Accepted asked
unfolding judgement_of judged asked_in
accepted_alone accepts peer what ps asked is =
    let there = peer_there accepts peer what (only_id_i ps) (only_auth ps) is.proved in
    let complete : is_complete ps ≡ true = all_there _ _ _ _ _ there.0 there.1 (λ i. is_some (is.sa i)) (λ i. is_some (is.ts_i i)) (λ i. is_some (is.ts_r i)) in
    let judgement : judgement_of accepts peer what ps ≡ Accepted (asked_in ps) = λ i. judged (is.known i) (complete i) (is.proved i) (asked_in ps) in
    let content : asked_in ps ≡ asked = λ i. record { child = record { proposals = unwrap_or (is.sa i) []; ts_i = unwrap_or (is.ts_i i) []; ts_r = unwrap_or (is.ts_r i) [] }; window = sym is.told i } in
    judgement ∙ ap (λ (a : AskedView). Accepted a) content

alone : (accepts : Accepts) (peer : Identity) (what : ProvingView) (ps : List Payload) (one : AuthJudgement) → IsAuthJudgement accepts peer what ps one → judgement_of accepts peer what ps ≡ one
unfolding judgement_of judged asked_in
alone accepts peer what ps (Refused (UnsupportedCriticalPayload kind)) is = λ i. judged (is i) (is_complete ps) (is_peer accepts peer what (only_id_i ps) (only_auth ps)) (asked_in ps)
alone accepts peer what ps (Refused InvalidSyntax) is = λ i. judged (is.known i) (is.missing i) (is_peer accepts peer what (only_id_i ps) (only_auth ps)) (asked_in ps)
alone accepts peer what ps (Refused AuthenticationFailed) is = λ i. judged (is.known i) (is.complete i) (is.unproved i) (asked_in ps)
alone accepts peer what ps (Refused NoProposalChosen) is = absurd is
alone accepts peer what ps (Refused NoAdditionalSas) is = absurd is
alone accepts peer what ps (Refused TsUnacceptable) is = absurd is
alone accepts peer what ps (Refused (Cookie octets)) is = absurd is
alone accepts peer what ps (Accepted asked) is = accepted_alone accepts peer what ps asked is

pub judged_once : (accepts : Accepts) (peer : Identity) (what : ProvingView) (ps : List Payload) (one other : AuthJudgement)
    → IsAuthJudgement accepts peer what ps one → IsAuthJudgement accepts peer what ps other → one ≡ other
judged_once accepts peer what ps one other is too = sym (alone accepts peer what ps one is) ∙ alone accepts peer what ps other too

-- What is sent fits.

fields_append : (xs ys : List Payload) → AllByRecursion FitsFields xs → AllByRecursion FitsFields ys → AllByRecursion FitsFields (xs ++ ys)
fields_append [] ys fit more = more
fields_append (x ∷ xs) ys fit more = (fit.0, fields_append xs ys fit.1 more)

notice_fits : (window : ℕ) → FitsFields (window_payload window)
notice_fits window = record {
  protocol_fits = omega arith;
  kind_fits = omega arith;
  spi_fits = record { some = omega arith; few = omega arith; fits = tt };
  octets_fit = (omega arith, (omega arith, (omega arith, (omega arith, tt))));
}

notices_if : (told : Bool) (window : ℕ) → FitWithin 12 (if told then window_payload window ∷ [] else [])
notices_if true window = record { fields = (notice_fits window, tt); short = omega arith }
notices_if false window = record { fields = tt; short = omega arith }

sent_fits : (id auth : Payload) (child notices : List Payload) → FitsFields id → FitsFields auth → size_of id ≤ 264 → size_of auth ≤ 1032
    → AllByRecursion FitsFields child → FitWithin 12 notices → FitWithin (OWN_LIMIT + sum_by size_of child) (id ∷ auth ∷ child ++ notices)
sent_fits id auth child notices id_fits auth_fits id_short auth_short fit within =
    let first = sum_by-cons size_of id (auth ∷ child ++ notices) in
    let second = sum_by-cons size_of auth (child ++ notices) in
    let others = sum_by-append size_of child notices in
    let last = within.short in
    record { fields = (id_fits, (auth_fits, fields_append child notices fit within.fields)); short = omega arith }

id_fits : (role : Role) (own : Identity) → IsIdentity own → FitsFields (id_payload role own) × (size_of (id_payload role own) ≤ 264)
id_fits Initiator own is = let few = is.octets.few in ((is.kind, is.octets), omega arith)
id_fits Responder own is = let few = is.octets.few in ((is.kind, is.octets), omega arith)

pub message_fits : (role : Role) (own_method : ℕ) (proof_of : Octets → Octets) (own : Identity) (what : ProvingView) (child : List Payload) (window : ℕ)
    → IsIdentity own → FitsFields (auth_payload own_method proof_of own what) → AllByRecursion FitsFields child
    → FitWithin (OWN_LIMIT + sum_by size_of child) (proved_identity role own_method proof_of own what ++ child ++ window_notices window)
message_fits role own_method proof_of own what child window is auth fit =
    let id = id_fits role own is in
    let proof_few = auth.1.few in
    sent_fits _ _ child (window_notices window) id.0 auth id.1 (omega arith) fit (notices_if (nat_lt 1 window) window)

-- Windows are read again.

within_itself : (window : ℕ) → IsWindow window → window_within window ≡ window
within_itself window is = let least = is.least in let widest = is.widest in omega arith

read_if : (told : Bool) (window : ℕ) → nat_lt 1 window ≡ told → IsWindow window → peer_window (if told then window_payload window ∷ [] else []) ≡ window
read_if true window wide is =
    let small : window < 2 ^ 32 = (let widest = is.widest in omega arith) in
    ap window_within (from_be_bytes-to_be_bytes_4 window small) ∙ within_itself window is
read_if false window wide is = let least = is.least in grind (arith, nat_tests)

pub read_again : (window : ℕ) → IsWindow window → peer_window (window_notices window) ≡ window
read_again window is = read_if (nat_lt 1 window) window refl is

-- no notification that refuses a Child SA tells a window
tells_none : (notice : Notice) → window_in (payload_of_notice notice) ≡ None
tells_none (UnsupportedCriticalPayload kind) = refl
tells_none InvalidSyntax = refl
tells_none NoProposalChosen = refl
tells_none AuthenticationFailed = refl
tells_none NoAdditionalSas = refl
tells_none TsUnacceptable = refl
tells_none (Cookie octets) = refl

pub read_in_answer : (own_method : ℕ) (proof_of : Octets → Octets) (own : Identity) (what : ProvingView) (answer : ChildAnswer) (window : ℕ)
    → IsWindow window → peer_window (auth_answer own_method proof_of own what answer window) ≡ window
read_in_answer own_method proof_of own what (answered.Payloads child) window is = read_again window is
read_in_answer own_method proof_of own what (answered.Notice notice) window is =
    ap (λ (told : Option ℕ). unwrap_or (option_or told (first_some window_in (window_notices window))) 1) (tells_none notice) ∙ read_again window is

counted : (number : ℕ) → IsWindow (window_within number)
counted number = record { least = omega arith; widest = omega arith }

counts_if : (told : Bool) (number window : ℕ) → (if told then Some (window_within number) else None) ≡ Some window → IsWindow window
counts_if true number window is = subst (λ (w : ℕ). IsWindow w) (same_Some _ _ is) (counted number)
counts_if false number window is = cc

counts_in : (p : Payload) (window : ℕ) → window_in p ≡ Some window → IsWindow window
counts_in (Notify protocol spi kind octets) window is = counts_if (kind == SET_WINDOW_SIZE && length octets == 4) (from_be_bytes w32 octets) window is
counts_in p window is = cc

first_of_two : (o q : Option ℕ) → ((w : ℕ) → o ≡ Some w → IsWindow w) → ((w : ℕ) → q ≡ Some w → IsWindow w) → (w : ℕ) → option_or o q ≡ Some w → IsWindow w
first_of_two (Some x) q here there w is = here w is
first_of_two None q here there w is = there w is

counts_among : (payloads : List Payload) (window : ℕ) → first_some window_in payloads ≡ Some window → IsWindow window
counts_among [] window is = cc
counts_among (p ∷ ps) window is = first_of_two (window_in p) (first_some window_in ps) (counts_in p) (counts_among ps) window is

or_least : (o : Option ℕ) → ((w : ℕ) → o ≡ Some w → IsWindow w) → IsWindow (unwrap_or o 1)
or_least None counts = record { least = omega arith; widest = omega arith }
or_least (Some w) counts = counts w refl

pub window_bounds : (payloads : List Payload) → IsWindow (peer_window payloads)
window_bounds payloads = or_least (first_some window_in payloads) (counts_among payloads)

-- Requests and answers are accepted.

proved_by : (accepts : Accepts) (own : Identity) (what : ProvingView) (method : ℕ) (proof : Octets)
    → IsTrue (accepts own.kind own.data method (octets_to_prove what own) proof) → is_proved accepts own what own.kind own.data method proof ≡ true
proved_by accepts own what method proof accepted =
    both (is_identity own own.kind own.data) _ (both (own.kind == own.kind) _ (eq-eqb own.kind own.kind refl) (pointwise_itself own.data)) accepted

accepted_if : (told : Bool) (accepts : Accepts) (own : Identity) (what : ProvingView) (method : ℕ) (proof : Octets) (child : ChildPayloads) (window : ℕ)
    → is_proved accepts own what own.kind own.data method proof ≡ true → peer_window (if told then window_payload window ∷ [] else []) ≡ window
    → IsAcceptedRequest accepts own what (IdI own.kind own.data ∷ Auth method proof ∷ child_payloads child ++ (if told then window_payload window ∷ [] else []))
    (record { child = child; window = window })
accepted_if true accepts own what method proof child window proved read = record { known = refl; proved = proved; sa = refl; ts_i = refl; ts_r = refl; told = sym read }
accepted_if false accepts own what method proof child window proved read = record { known = refl; proved = proved; sa = refl; ts_i = refl; ts_r = refl; told = sym read }

pub request_accepted : (accepts : Accepts) (own_method : ℕ) (proof_of : Octets → Octets) (own : Identity) (what : ProvingView) (child : ChildPayloads) (window : ℕ)
    → IsWindow window → IsTrue (accepts own.kind own.data own_method (octets_to_prove what own) (proof_of (octets_to_prove what own)))
    → IsAcceptedRequest accepts own what (auth_request own_method proof_of own what child window) (record { child = child; window = window })
request_accepted accepts own_method proof_of own what child window is accepted =
    let proof = proof_of (octets_to_prove what own) in
    accepted_if (nat_lt 1 window) accepts own what own_method proof child window (proved_by accepts own what own_method proof accepted) (read_again window is)

-- by what a message says beside its identity and its proof, and by whether it tells a window
answer_if : (told : Bool) (accepts : Accepts) (own : Identity) (what : ProvingView) (method : ℕ) (proof : Octets) (answer : ChildAnswer) (window : ℕ)
    → is_proved accepts own what own.kind own.data method proof ≡ true
    → is_accepted accepts own what (IdR own.kind own.data ∷ Auth method proof ∷ answering_payloads answer ++ (if told then window_payload window ∷ [] else [])) ≡ true
answer_if true accepts own what method proof (answered.Payloads child) window proved = proved
answer_if false accepts own what method proof (answered.Payloads child) window proved = proved
answer_if true accepts own what method proof (answered.Notice notice) window proved = proved
answer_if false accepts own what method proof (answered.Notice notice) window proved = proved

pub answer_accepted : (accepts : Accepts) (own_method : ℕ) (proof_of : Octets → Octets) (own : Identity) (what : ProvingView) (answer : ChildAnswer) (window : ℕ)
    → IsTrue (accepts own.kind own.data own_method (octets_to_prove what own) (proof_of (octets_to_prove what own)))
    → is_accepted accepts own what (auth_answer own_method proof_of own what answer window) ≡ true
answer_accepted accepts own_method proof_of own what answer window accepted =
    let proof = proof_of (octets_to_prove what own) in
    answer_if (nat_lt 1 window) accepts own what own_method proof answer window (proved_by accepts own what own_method proof accepted)
