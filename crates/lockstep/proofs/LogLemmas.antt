-- What is sent: entries that come at the end, and logs that hold the same entries.
use Rattle.std.proofs.Common.{◌≡◌, ◌⊎◌, ◌++◌, ◌∷◌, ℕ, Option, Some, None, List, [], Contains, ap, sym, inl, inr}
use Rattle.std.proofs.lemmas.Bool.{true≢false}
use Rattle.std.proofs.lemmas.List.Elements.{Contains-push_cases}
use Rattle.base.specs.Octets.{Octets}
use Rattle.exchange.specs.Headers.{other_role}
use Rattle.exchange.specs.declared.headers.Role.{Role}
use Rattle.effects.specs.Moves.{Ledger}
use Rattle.lockstep.specs.Ends.{request_of, response_of, End, Entry}
use Rattle.lockstep.specs.Soundness.{HasAnswered, HasAsked, HoldsSoundly, IsSoundEnd, SendsOnce, SentSo, TookSo}

-- each entry of the one is one of the other
abbrev pub AllIn : List Entry → List Entry → Type 0
AllIn sent more = (entry : Entry) → Contains sent entry → Contains more entry

pub asked_in : (role : Role) (sent more : List Entry) (n : ℕ) → AllIn sent more → HasAsked role sent n → HasAsked role more n
asked_in role sent more n all (inl initial) = inl initial
asked_in role sent more n all (inr has) = inr (record { octets = has.octets; there = all (request_of n has.octets) has.there })

pub answered_in : (role : Role) (sent more : List Entry) (n : ℕ) → AllIn sent more → HasAnswered role sent n → HasAnswered role more n
answered_in role sent more n all (inl initial) = inl initial
answered_in role sent more n all (inr has) = inr (record { octets = has.octets; there = all (response_of n has.octets) has.there })

-- ---- logs with the same entries say the same

pub once_in : (sent more : List Entry) → AllIn more sent → SendsOnce sent → SendsOnce more
once_in sent more back once = record {
  request = λ n a b one other. once.request n a b (back (request_of n a) one) (back (request_of n b) other);
  response = λ n a b one other. once.response n a b (back (response_of n a) one) (back (response_of n b) other);
}

sent_so_in : (l : Ledger) (sent more : List Entry) → AllIn sent more → AllIn more sent → SentSo l sent → SentSo l more
sent_so_in l sent more all back own = record {
  asked = λ n has. own.asked n (asked_in l.role more sent n back has);
  answered = λ n has. own.answered n (answered_in (other_role l.role) more sent n back has);
  waits = λ n octets is. all (request_of n octets) (own.waits n octets is);
  kept = λ n octets is. all (response_of n octets) (own.kept n octets is);
}

holds_in : (o : Option Ledger) (sent more others : List Entry) → AllIn sent more → AllIn more sent → HoldsSoundly o sent others → HoldsSoundly o more others
holds_in None sent more others all back holds = tt
holds_in (Some l) sent more others all back holds = record { windows = holds.windows; own = sent_so_in l sent more all back holds.own; peers = holds.peers }

pub sound_in : (ledger : Option Ledger) (made : ℕ) (sent more others : List Entry) → AllIn sent more → AllIn more sent
    → IsSoundEnd (record { ledger = ledger; made = made; sent = sent }) others → IsSoundEnd (record { ledger = ledger; made = made; sent = more }) others
sound_in ledger made sent more others all back sound = record {
  unmade = λ is. ((sound.unmade is).0, λ entry there. (sound.unmade is).1 entry (back entry there));
  once = once_in sent more back sound.once;
  holds = holds_in ledger sent more others all back sound.holds;
}

-- ---- what the peer sent till later

later_peers : (l : Ledger) (others later : List Entry) → AllIn others later → TookSo l others → TookSo l later
later_peers l others later all took = record {
  in_effect = λ n has. asked_in (other_role l.role) others later n all (took.in_effect n has);
  answered = λ n has. answered_in l.role others later n all (took.answered n has);
}

later_holds : (o : Option Ledger) (sent others later : List Entry) → AllIn others later → HoldsSoundly o sent others → HoldsSoundly o sent later
later_holds None sent others later all holds = tt
later_holds (Some l) sent others later all holds = record { windows = holds.windows; own = holds.own; peers = later_peers l others later all holds.peers }

pub sound_later : (e : End) (others later : List Entry) → AllIn others later → IsSoundEnd e others → IsSoundEnd e later
sound_later e others later all sound = record { unmade = sound.unmade; once = sound.once; holds = later_holds e.ledger e.sent others later all sound.holds }

-- ---- one entry more

request_is : (k : ℕ) (octets : Octets) (n : ℕ) (found : Octets) → request_of k octets ≡ request_of n found → (k ≡ n) × (octets ≡ found)
request_is k octets n found is = (ap (λ (e : Entry). e.number) is, ap (λ (e : Entry). e.octets) is)

response_is : (k : ℕ) (octets : Octets) (n : ℕ) (found : Octets) → response_of k octets ≡ response_of n found → (k ≡ n) × (octets ≡ found)
response_is k octets n found is = (ap (λ (e : Entry). e.number) is, ap (λ (e : Entry). e.octets) is)

request_no_response : (k : ℕ) (octets : Octets) (n : ℕ) (found : Octets) → request_of k octets ≡ response_of n found → ⊥
request_no_response k octets n found is = true≢false (sym (ap (λ (e : Entry). e.response) is))

pub request_after_request : (sent : List Entry) (k : ℕ) (octets : Octets) (n : ℕ) (found : Octets) → Contains (sent ++ request_of k octets ∷ []) (request_of n found)
    → (Contains sent (request_of n found)) ⊎ ((k ≡ n) × (octets ≡ found))
request_after_request sent k octets n found there = elim (Contains-push_cases sent (request_of k octets) (request_of n found) there) [
  | inl before ↦ inl before
  | inr same ↦ inr (request_is k octets n found same)
]

pub response_after_request : (sent : List Entry) (k : ℕ) (octets : Octets) (n : ℕ) (found : Octets) → Contains (sent ++ request_of k octets ∷ []) (response_of n found)
    → Contains sent (response_of n found)
response_after_request sent k octets n found there = elim (Contains-push_cases sent (request_of k octets) (response_of n found) there) [
  | inl before ↦ before
  | inr same ↦ absurd (request_no_response k octets n found same)
]

pub response_after_response : (sent : List Entry) (k : ℕ) (octets : Octets) (n : ℕ) (found : Octets) → Contains (sent ++ response_of k octets ∷ []) (response_of n found)
    → (Contains sent (response_of n found)) ⊎ ((k ≡ n) × (octets ≡ found))
response_after_response sent k octets n found there = elim (Contains-push_cases sent (response_of k octets) (response_of n found) there) [
  | inl before ↦ inl before
  | inr same ↦ inr (response_is k octets n found same)
]

pub request_after_response : (sent : List Entry) (k : ℕ) (octets : Octets) (n : ℕ) (found : Octets) → Contains (sent ++ response_of k octets ∷ []) (request_of n found)
    → Contains sent (request_of n found)
request_after_response sent k octets n found there = elim (Contains-push_cases sent (response_of k octets) (request_of n found) there) [
  | inl before ↦ before
  | inr same ↦ absurd (request_no_response n found k octets (sym same))
]
