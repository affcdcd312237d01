-- What each move leaves of one end.
use Rattle.std.proofs.Common.{◌≡◌, ◌≢◌, ◌⊎◌, ◌+◌, ◌-◌, ◌<◌, ◌≤◌, ◌++◌, ◌∷◌, ℕ, Option, Some, None, List, [], Contains, ap, subst, refl, sym, ◌∙◌, arith, inl, inr}
use Rattle.std.specs.FinMap as map
use Rattle.std.specs.FinSet as set
use Rattle.std.specs.Option.{option_map}
use Rattle.std.specs.Ordering.{nat_cmp}
use Rattle.std.proofs.lemmas.Bool.Decides.{eqb_tells}
use Rattle.std.proofs.lemmas.List.{append-nil}
use Rattle.std.proofs.lemmas.List.Elements.{Contains-append_left, Contains-push}
use Rattle.base.specs.Octets.{Octets}
use Rattle.suite.specs.declared.key_record.KeyRecord.{KeyRecord}
use Rattle.exchange.specs.declared.headers.Role.{Role}
use Rattle.exchange.specs.declared.headers.Role.TheVariants.{Initiator, Responder}
use Rattle.requests.specs.Numbers.{HasNumber, IsGap, LacksNumber}
use Rattle.association.specs.declared.phase.Request.{Request}
use Rattle.effects.specs.Moves.{first_ledger, Close, ClosesLedger, Count, Counts, Issue, Issues, KeepWindows, Ledger, Make, Makes, Move, Moves, put, Remove, TakeEffect, TakesEffectOnce}
use Rattle.lockstep.specs.Ends.{made_by, request_of, response_of, sent_by, End, Entry}
use Rattle.lockstep.specs.Histories.{HasRequest, HasResponse, IsGenuineMove}
use Rattle.lockstep.specs.Soundness.{IsSoundEnd, IsSoundLedger, IsWide, IsWithinWindows, SendsOnce, SentSo, TookSo}
use Rattle.lockstep.proofs.LogLemmas.{request_after_request, request_after_response, response_after_request, response_after_response}
use Rattle.lockstep.proofs.NumberLemmas.{above_gap, find_gap, FoundGap, in_or_out, kept_was, member_apart, member_here, member_was, none_in_empty, not_both, one_gap, put_here, put_was, some_none, still_member}

-- ---- as an end comes to keys

pub zero_alone : (n : ℕ) → HasNumber (set.insert set.empty 0) n → n ≡ 0
zero_alone n has = elim (member_was set.empty 0 n has) [
  | inl same ↦ same
  | inr before ↦ absurd (not_both set.empty n before (none_in_empty n))
]

pub zero_gap : IsGap (set.insert set.empty 0) 1
zero_gap = record {
  missing = member_apart set.empty 0 1 (λ same. omega arith) ∙ none_in_empty 1;
  below = λ n less. member_here set.empty 0 n (omega arith);
}

empty_gap : IsGap set.empty 0
empty_gap = record { missing = none_in_empty 0; below = λ n less. absurd (omega arith) }

pub none_kept : (n : ℕ) (octets : Octets) → map.get {R = nat_cmp} (map.empty {X = Octets}) n ≡ Some octets → ⊥
none_kept n octets is = some_none octets (sym (map.get-empty {X = Octets} nat_cmp n) ∙ is)

-- nothing waits
abbrev none_issued_waits : ℕ → Option Octets
none_issued_waits n = option_map (λ (x : Request). x.octets) (map.get {R = nat_cmp} (map.empty {X = Request}) n)

none_waits : (n : ℕ) (octets : Octets) → none_issued_waits n ≡ Some octets → ⊥
none_waits n octets is = some_none octets (sym (ap (option_map (λ (x : Request). x.octets)) (map.get-empty {X = Request} nat_cmp n)) ∙ is)

one_wide : IsWide 1
one_wide = record { some = omega arith; most = omega arith }

first_within : (keys : KeyRecord) (role : Role) → IsWithinWindows (first_ledger keys role)
first_within keys Initiator = record {
  size = one_wide;
  window = one_wide;
  gap = 0;
  is_gap = empty_gap;
  none_above = λ n above. none_in_empty n;
  unanswered = 1;
  is_unanswered = zero_gap;
  within = omega arith;
  answered_issued = λ n has. (let is = zero_alone n has in omega (arith, is));
  waits_issued = λ n octets is. absurd (none_waits n octets is);
  waits_unanswered = λ n octets is. absurd (none_waits n octets is);
}
first_within keys Responder = record {
  size = one_wide;
  window = one_wide;
  gap = 1;
  is_gap = zero_gap;
  none_above = λ n above. member_apart set.empty 0 n (λ same. omega arith) ∙ none_in_empty n;
  unanswered = 0;
  is_unanswered = empty_gap;
  within = omega arith;
  answered_issued = λ n has. absurd (not_both set.empty n has (none_in_empty n));
  waits_issued = λ n octets is. absurd (none_waits n octets is);
  waits_unanswered = λ n octets is. absurd (none_waits n octets is);
}

first_own : (keys : KeyRecord) (role : Role) (sent : List Entry) → ((entry : Entry) → ¬ Contains sent entry) → SentSo (first_ledger keys role) sent
first_own keys Initiator sent nothing = record {
  asked = λ n has. elim has [
    | inl initial ↦ (let first = initial.first in omega (arith, first))
    | inr there ↦ absurd (nothing (request_of n there.octets) there.there)
  ];
  answered = λ n has. elim has [
    | inl initial ↦ absurd (let is = initial.role in cc)
    | inr there ↦ absurd (nothing (response_of n there.octets) there.there)
  ];
  waits = λ n octets is. absurd (none_waits n octets is);
  kept = λ n octets is. absurd (none_kept n octets is);
}
first_own keys Responder sent nothing = record {
  asked = λ n has. elim has [
    | inl initial ↦ absurd (let is = initial.role in cc)
    | inr there ↦ absurd (nothing (request_of n there.octets) there.there)
  ];
  answered = λ n has. elim has [
    | inl initial ↦ member_here set.empty 0 n initial.first
    | inr there ↦ absurd (nothing (response_of n there.octets) there.there)
  ];
  waits = λ n octets is. absurd (none_waits n octets is);
  kept = λ n octets is. absurd (none_kept n octets is);
}

first_peers : (keys : KeyRecord) (role : Role) (others : List Entry) → TookSo (first_ledger keys role) others
first_peers keys Initiator others = record {
  in_effect = λ n has. absurd (not_both set.empty n has (none_in_empty n));
  answered = λ n has. inl (record { role = refl; first = zero_alone n has });
}
first_peers keys Responder others = record {
  in_effect = λ n has. inl (record { role = refl; first = zero_alone n has });
  answered = λ n has. absurd (not_both set.empty n has (none_in_empty n));
}

pub nothing_once : (sent : List Entry) → ((entry : Entry) → ¬ Contains sent entry) → SendsOnce sent
nothing_once sent nothing = record {
  request = λ n a b one other. absurd (nothing (request_of n a) one);
  response = λ n a b one other. absurd (nothing (response_of n a) one);
}

pub first_sound : (keys : KeyRecord) (role : Role) (sent others : List Entry) → ((entry : Entry) → ¬ Contains sent entry) → IsSoundLedger (first_ledger keys role) sent others
first_sound keys role sent others nothing = record { windows = first_within keys role; own = first_own keys role sent nothing; peers = first_peers keys role others }

pub made_sound : (keys : KeyRecord) (new : Ledger) (sent others : List Entry) → Makes keys new → ((entry : Entry) → ¬ Contains sent entry) → IsSoundLedger new sent others
made_sound keys new sent others is nothing = subst (λ (l : Ledger). IsSoundLedger l sent others) (sym is.content) (first_sound keys new.role sent others nothing)

-- ---- a request is issued

module _ (l : Ledger) (sent others : List Entry) (sound : IsSoundLedger l sent others) where
  -- the number that comes next is not answered
  next_unanswered : LacksNumber l.answered l.next
  next_unanswered = elim (in_or_out l.answered l.next) [
    | inl has ↦ absurd (let below = sound.windows.answered_issued l.next has in omega (arith, below))
    | inr lacks ↦ lacks
  ]

  -- what waits at the number that is issued, and what waited
  waits_more : (number : ℕ) (octets : Octets) (n : ℕ) (found : Octets) → (((n ≡ number) × (Some octets ≡ Some found)) ⊎ (l.outstanding n ≡ Some found))
      → Contains (sent ++ request_of number octets ∷ []) (request_of n found)
  waits_more number octets n found (inl here) =
      let its : octets ≡ found = (let both = here.1 in cc) in
      subst (λ (entry : Entry). Contains (sent ++ request_of number octets ∷ []) entry) (λ i. request_of (sym here.0 i) (its i)) (Contains-push sent (request_of number octets))
  waits_more number octets n found (inr before) = Contains-append_left sent (request_of number octets ∷ []) (request_of n found) (sound.own.waits n found before)

  pub issued_sound : (number : ℕ) (octets : Octets) (new : Ledger) → Issues number octets l new → IsSoundLedger new (sent ++ request_of number octets ∷ []) others
  issued_sound number octets new is =
      let least = is.least in
      let windows = sound.windows in
      subst (λ (x : Ledger). IsSoundLedger x (sent ++ request_of number octets ∷ []) others) (sym is.content) (record {
        windows = record {
          size = windows.size;
          window = windows.window;
          gap = windows.gap;
          is_gap = windows.is_gap;
          none_above = windows.none_above;
          unanswered = windows.unanswered;
          is_unanswered = windows.is_unanswered;
          within = (let inside = is.in_window windows.unanswered windows.is_unanswered in omega (arith, inside));
          answered_issued = λ n has. (let less = windows.answered_issued n has in omega (arith, less));
          waits_issued = λ n found there. elim (put_was l.outstanding number (Some octets) n found there) [
            | inl here ↦ (let same = here.0 in omega (arith, same, least))
            | inr before ↦ (let less = windows.waits_issued n found before in omega (arith, less))
          ];
          waits_unanswered = λ n found there. elim (put_was l.outstanding number (Some octets) n found there) [
            | inl here ↦ subst (λ (k : ℕ). LacksNumber l.answered k) (sym least ∙ sym here.0) (next_unanswered)
            | inr before ↦ windows.waits_unanswered n found before
          ];
        };
        own = record {
          asked = λ n has. elim has [
            | inl initial ↦ (let less = sound.own.asked n (inl initial) in omega (arith, less))
            | inr there ↦ elim (request_after_request sent number octets n there.octets there.there) [
              | inl before ↦ (let less = sound.own.asked n (inr (record { octets = there.octets; there = before })) in omega (arith, less))
              | inr here ↦ (let same = here.0 in omega (arith, same, least))
            ]
          ];
          answered = λ n has. elim has [
            | inl initial ↦ sound.own.answered n (inl initial)
            | inr there ↦ sound.own.answered n (inr (record { octets = there.octets; there = response_after_request sent number octets n there.octets there.there }))
          ];
          waits = λ n found there. waits_more number octets n found (put_was l.outstanding number (Some octets) n found there);
          kept = λ n found there. Contains-append_left sent (request_of number octets ∷ []) (response_of n found) (sound.own.kept n found there);
        };
        peers = record { in_effect = sound.peers.in_effect; answered = sound.peers.answered };
      })

  -- no request of this number was sent before
  not_asked : (n : ℕ) (octets : Octets) → l.next ≤ n → Contains sent (request_of n octets) → ⊥
  not_asked n octets above there = (let less = sound.own.asked n (inr (record { octets = octets; there = there })) in omega (arith, less, above))

  issued_again : (number : ℕ) (octets : Octets) (n : ℕ) (a b : Octets) → number ≡ l.next → SendsOnce sent
      → ((Contains sent (request_of n a)) ⊎ ((number ≡ n) × (octets ≡ a))) → ((Contains sent (request_of n b)) ⊎ ((number ≡ n) × (octets ≡ b))) → a ≡ b
  issued_again number octets n a b least once (inl one) (inl other) = once.request n a b one other
  issued_again number octets n a b least once (inl one) (inr other) = absurd (let same = other.0 in not_asked n a (omega arith) one)
  issued_again number octets n a b least once (inr one) (inl other) = absurd (let same = one.0 in not_asked n b (omega arith) other)
  issued_again number octets n a b least once (inr one) (inr other) = sym one.1 ∙ other.1

  pub issued_once : (number : ℕ) (octets : Octets) (new : Ledger) → Issues number octets l new → SendsOnce sent → SendsOnce (sent ++ request_of number octets ∷ [])
  issued_once number octets new is once = record {
    request = λ n a b one other. issued_again number octets n a b is.least once (request_after_request sent number octets n a one) (request_after_request sent number octets n b other);
    response = λ n a b one other. once.response n a b (response_after_request sent number octets n a one) (response_after_request sent number octets n b other);
  }

  -- ---- windows that widen, or stay

  wider_size : (role : Role) (number : ℕ) (new : Ledger) → KeepWindows role number l new → l.size ≤ new.size
  wider_size role number new (inl same) = (let is = same.0 in omega arith)
  wider_size role number new (inr widens) = widens.wider

  wider_window : (role : Role) (number : ℕ) (new : Ledger) → KeepWindows role number l new → l.window ≤ new.window
  wider_window role number new (inl same) = (let is = same.1 in omega arith)
  wider_window role number new (inr widens) = widens.peers_wider

  wide_size : (role : Role) (number : ℕ) (new : Ledger) → KeepWindows role number l new → IsWide new.size
  wide_size role number new (inl same) = (let some = sound.windows.size.some in let most = sound.windows.size.most in let is = same.0 in record { some = omega arith; most = omega arith })
  wide_size role number new (inr widens) = (let some = sound.windows.size.some in let wider = widens.wider in record { some = omega arith; most = widens.most })

  wide_window : (role : Role) (number : ℕ) (new : Ledger) → KeepWindows role number l new → IsWide new.window
  wide_window role number new (inl same) = (let some = sound.windows.window.some in let most = sound.windows.window.most in let is = same.1 in record { some = omega arith; most = omega arith })
  wide_window role number new (inr widens) = (let some = sound.windows.window.some in let wider = widens.peers_wider in record { some = omega arith; most = widens.peers_most })

  -- ---- a response is matched

  found_unanswered : (number : ℕ) → number < l.next → FoundGap (set.insert l.answered number) sound.windows.unanswered l.next
  found_unanswered number less =
      let windows = sound.windows in
      let below : windows.unanswered ≤ l.next = above_gap l.answered windows.unanswered l.next windows.is_unanswered next_unanswered in
      find_gap (set.insert l.answered number) (l.next - windows.unanswered) windows.unanswered l.next (omega (arith, below))
      (λ n under. still_member l.answered number n (windows.is_unanswered.below n under))
      (member_apart l.answered number l.next (λ same. omega (arith, same, less)) ∙ next_unanswered)

  counted_within : (number : ℕ) (new : Ledger) → Counts number l new → IsWithinWindows new
  counted_within number new is =
      let windows = sound.windows in
      let less : number < l.next = windows.waits_issued number is.octets is.there in
      let found = found_unanswered number less in
      let wider = wider_size Initiator number new is.windows in
      let peers_wider = wider_window Initiator number new is.windows in
      let from = found.least in
      let was = windows.within in
      subst (λ (x : Ledger). IsWithinWindows x) (sym is.content) (record {
        size = wide_size Initiator number new is.windows;
        window = wide_window Initiator number new is.windows;
        gap = windows.gap;
        is_gap = windows.is_gap;
        none_above = λ n above. windows.none_above n (omega (arith, above, wider));
        unanswered = found.gap;
        is_unanswered = found.is_gap;
        within = omega (arith, was, from, peers_wider);
        answered_issued = λ n has. elim (member_was l.answered number n has) [
          | inl same ↦ omega (arith, same, less)
          | inr before ↦ windows.answered_issued n before
        ];
        waits_issued = λ n octets there. elim (put_was l.outstanding number None n octets there) [
          | inl here ↦ absurd (some_none octets here.1)
          | inr before ↦ windows.waits_issued n octets before
        ];
        waits_unanswered = λ n octets there. elim (eqb_tells n number) [
          | inl (_, same) ↦ absurd (some_none octets (sym (ap (put l.outstanding number None) same ∙ put_here l.outstanding number None) ∙ there))
          | inr (_, apart) ↦ elim (put_was l.outstanding number None n octets there) [
            | inl here ↦ absurd (some_none octets here.1)
            | inr before ↦ member_apart l.answered number n apart ∙ windows.waits_unanswered n octets before
          ]
        ];
      })

  pub counted_sound : (number : ℕ) (new : Ledger) → Counts number l new → HasResponse others number → IsSoundLedger new sent others
  counted_sound number new is genuine = record {
    windows = counted_within number new is;
    own = subst (λ (x : Ledger). SentSo x sent) (sym is.content) (record {
      asked = sound.own.asked;
      answered = sound.own.answered;
      waits = λ n octets there. elim (put_was l.outstanding number None n octets there) [
        | inl here ↦ absurd (some_none octets here.1)
        | inr before ↦ sound.own.waits n octets before
      ];
      kept = sound.own.kept;
    });
    peers = subst (λ (x : Ledger). TookSo x others) (sym is.content) (record {
      in_effect = sound.peers.in_effect;
      answered = λ n has. elim (member_was l.answered number n has) [
        | inl same ↦ inr (subst (λ (k : ℕ). HasResponse others k) (sym same) genuine)
        | inr before ↦ sound.peers.answered n before
      ];
    });
  }

  -- ---- a request is processed

  taken_within : (number : ℕ) (reply : Octets) (new : Ledger) → TakesEffectOnce number reply l new → IsWithinWindows new
  taken_within number reply new is =
      let windows = sound.windows in
      let same_gap : is.gap ≡ windows.gap = one_gap l.in_effect is.gap windows.gap is.is_gap windows.is_gap in
      let inside : number < windows.gap + l.size = (let near = is.inside in omega (arith, near, same_gap)) in
      let wider = wider_size Responder number new is.windows in
      let peers_wider = wider_window Responder number new is.windows in
      let was = windows.within in
      let found : FoundGap (set.insert l.in_effect number) windows.gap (windows.gap + l.size) =
      find_gap (set.insert l.in_effect number) l.size windows.gap (windows.gap + l.size) refl (λ n under. still_member l.in_effect number n (windows.is_gap.below n under))
      (member_apart l.in_effect number (windows.gap + l.size) (λ same. omega (arith, same, inside)) ∙ windows.none_above (windows.gap + l.size) (omega arith)) in
      let from = found.least in
      subst (λ (x : Ledger). IsWithinWindows x) (sym is.content) (record {
        size = wide_size Responder number new is.windows;
        window = wide_window Responder number new is.windows;
        gap = found.gap;
        is_gap = found.is_gap;
        none_above = λ n above.
            member_apart l.in_effect number n (λ same. omega (arith, same, inside, above, from, wider)) ∙ windows.none_above n (omega (arith, above, from, wider));
        unanswered = windows.unanswered;
        is_unanswered = windows.is_unanswered;
        within = omega (arith, was, peers_wider);
        answered_issued = windows.answered_issued;
        waits_issued = windows.waits_issued;
        waits_unanswered = windows.waits_unanswered;
      })

  kept_more : (number : ℕ) (reply : Octets) (n : ℕ) (found : Octets) → (((n ≡ number) × (reply ≡ found)) ⊎ (map.get l.kept n ≡ Some found))
      → Contains (sent ++ response_of number reply ∷ []) (response_of n found)
  kept_more number reply n found (inl here) =
      subst (λ (entry : Entry). Contains (sent ++ response_of number reply ∷ []) entry) (λ i. response_of (sym here.0 i) (here.1 i)) (Contains-push sent (response_of number reply))
  kept_more number reply n found (inr before) = Contains-append_left sent (response_of number reply ∷ []) (response_of n found) (sound.own.kept n found before)

  taken_own : (number : ℕ) (reply : Octets) (new : Ledger) → TakesEffectOnce number reply l new → SentSo new (sent ++ response_of number reply ∷ [])
  taken_own number reply new is =
      subst (λ (x : Ledger). SentSo x (sent ++ response_of number reply ∷ [])) (sym is.content) (record {
        asked = λ n has. elim has [
          | inl initial ↦ sound.own.asked n (inl initial)
          | inr there ↦ sound.own.asked n (inr (record { octets = there.octets; there = request_after_response sent number reply n there.octets there.there }))
        ];
        answered = λ n has. elim has [
          | inl initial ↦ still_member l.in_effect number n (sound.own.answered n (inl initial))
          | inr there ↦ elim (response_after_response sent number reply n there.octets there.there) [
            | inl before ↦ still_member l.in_effect number n (sound.own.answered n (inr (record { octets = there.octets; there = before })))
            | inr here ↦ member_here l.in_effect number n (sym here.0)
          ]
        ];
        waits = λ n found there. Contains-append_left sent (response_of number reply ∷ []) (request_of n found) (sound.own.waits n found there);
        kept = λ n found there. kept_more number reply n found (kept_was l.kept number reply n found ((is.kept n found).0 there).0);
      })

  pub taken_sound : (number : ℕ) (reply : Octets) (new : Ledger) → TakesEffectOnce number reply l new → HasRequest others number
      → IsSoundLedger new (sent ++ response_of number reply ∷ []) others
  taken_sound number reply new is genuine = record {
    windows = taken_within number reply new is;
    own = taken_own number reply new is;
    peers = subst (λ (x : Ledger). TookSo x others) (sym is.content) (record {
      in_effect = λ n has. elim (member_was l.in_effect number n has) [
        | inl same ↦ inr (subst (λ (k : ℕ). HasRequest others k) (sym same) genuine)
        | inr before ↦ sound.peers.in_effect n before
      ];
      answered = sound.peers.answered;
    });
  }

  -- no response to the request of this number was sent before
  not_answered : (n : ℕ) (octets : Octets) → LacksNumber l.in_effect n → Contains sent (response_of n octets) → ⊥
  not_answered n octets lacks there = not_both l.in_effect n (sound.own.answered n (inr (record { octets = octets; there = there }))) lacks

  taken_again : (number : ℕ) (reply : Octets) (n : ℕ) (a b : Octets) → LacksNumber l.in_effect number → SendsOnce sent
      → ((Contains sent (response_of n a)) ⊎ ((number ≡ n) × (reply ≡ a))) → ((Contains sent (response_of n b)) ⊎ ((number ≡ n) × (reply ≡ b))) → a ≡ b
  taken_again number reply n a b lacks once (inl one) (inl other) = once.response n a b one other
  taken_again number reply n a b lacks once (inl one) (inr other) = absurd (not_answered n a (subst (λ (k : ℕ). LacksNumber l.in_effect k) other.0 lacks) one)
  taken_again number reply n a b lacks once (inr one) (inl other) = absurd (not_answered n b (subst (λ (k : ℕ). LacksNumber l.in_effect k) one.0 lacks) other)
  taken_again number reply n a b lacks once (inr one) (inr other) = sym one.1 ∙ other.1

  pub taken_once : (number : ℕ) (reply : Octets) (new : Ledger) → TakesEffectOnce number reply l new → SendsOnce sent → SendsOnce (sent ++ response_of number reply ∷ [])
  taken_once number reply new is once = record {
    request = λ n a b one other. once.request n a b (request_after_response sent number reply n a one) (request_after_response sent number reply n b other);
    response = λ n a b one other. taken_again number reply n a b is.not_yet once (response_after_response sent number reply n a one) (response_after_response sent number reply n b other);
  }

  -- ---- the IKE SA is closed

  pub closed_sound : (new : Ledger) → ClosesLedger l new → IsSoundLedger new sent others
  closed_sound new is = subst (λ (x : Ledger). IsSoundLedger x sent others) (sym is.content) (record {
    windows = record {
      size = sound.windows.size;
      window = sound.windows.window;
      gap = sound.windows.gap;
      is_gap = sound.windows.is_gap;
      none_above = sound.windows.none_above;
      unanswered = sound.windows.unanswered;
      is_unanswered = sound.windows.is_unanswered;
      within = sound.windows.within;
      answered_issued = sound.windows.answered_issued;
      waits_issued = λ n octets there. absurd (some_none octets there);
      waits_unanswered = λ n octets there. absurd (some_none octets there);
    };
    own = record {
      asked = sound.own.asked;
      answered = sound.own.answered;
      waits = λ n octets there. absurd (some_none octets there);
      kept = sound.own.kept;
    };
    peers = record { in_effect = sound.peers.in_effect; answered = sound.peers.answered };
  })

-- ---- with a window of one, in order

pub taken_in_order : (l new : Ledger) (number : ℕ) (reply : Octets) → IsWithinWindows l → l.size ≡ 1 → TakesEffectOnce number reply l new → IsGap l.in_effect number
taken_in_order l new number reply windows size is =
    let above : is.gap ≤ number = above_gap l.in_effect is.gap number is.is_gap is.not_yet in
    let inside = is.inside in
    subst (λ (n : ℕ). IsGap l.in_effect n) (let same : is.gap ≡ number = omega (arith, above, inside, size) in same) is.is_gap

pub counted_in_order : (l new : Ledger) (number : ℕ) → IsWithinWindows l → l.window ≡ 1 → Counts number l new → IsGap l.answered number
counted_in_order l new number windows window is =
    let lacks : LacksNumber l.answered number = windows.waits_unanswered number is.octets is.there in
    let above : windows.unanswered ≤ number = above_gap l.answered windows.unanswered number windows.is_unanswered lacks in
    let less = windows.waits_issued number is.octets is.there in
    let within = windows.within in
    subst (λ (n : ℕ). IsGap l.answered n) (let same : windows.unanswered ≡ number = omega (arith, above, less, within, window) in same) windows.is_unanswered

-- ---- any move

abbrev pub end_of : Option Ledger → ℕ → List Entry → End
end_of ledger made sent = record { ledger = ledger; made = made; sent = sent }

makes_nothing : (ledger : Option Ledger) (made : ℕ) (sent others : List Entry) → IsSoundEnd (end_of ledger made sent) others → IsSoundEnd (end_of ledger (made + 0) sent) others
makes_nothing ledger made sent others sound =
    let still : made ≡ made + 0 = omega arith in
    subst (λ (m : ℕ). IsSoundEnd (end_of ledger m sent) others) still sound

sends_nothing : (ledger : Option Ledger) (made : ℕ) (sent others : List Entry) → IsSoundEnd (end_of ledger made sent) others → IsSoundEnd (end_of ledger (made + 0) (sent ++ [])) others
sends_nothing ledger made sent others sound =
    makes_nothing ledger made (sent ++ []) others (subst (λ (log : List Entry). IsSoundEnd (end_of ledger made log) others) (sym (append-nil sent)) sound)

-- an end that comes to the keys now sent nothing
nothing_sent : (made : ℕ) (sent others : List Entry) → made + 1 ≤ 1 → IsSoundEnd (end_of None made sent) others → (entry : Entry) → ¬ Contains sent entry
nothing_sent made sent others once sound = (sound.unmade (omega arith)).1

-- one that holds a ledger came to them
held_made : (old : Ledger) (made : ℕ) (sent others : List Entry) → IsSoundEnd (end_of (Some old) made sent) others → made ≢ 0
held_made old made sent others sound none = some_none old (sym (sound.unmade none).0)

pub sound_after : (move : Move) (old new : Option Ledger) (made : ℕ) (sent others : List Entry) → Moves move old new → IsGenuineMove others move → made + made_by move ≤ 1
    → IsSoundEnd (end_of old made sent) others → IsSoundEnd (end_of new (made + made_by move) (sent ++ sent_by move)) others
sound_after (Make keys) None None made sent others is genuine once sound = absurd is
sound_after (Make keys) None (Some new) made sent others is genuine once sound =
    let nothing : (entry : Entry) → ¬ Contains sent entry = nothing_sent made sent others once sound in
    subst (λ (log : List Entry). IsSoundEnd (end_of (Some new) (made + 1) log) others) (sym (append-nil sent)) (record {
      unmade = λ none. absurd (omega arith);
      once = nothing_once sent nothing;
      holds = made_sound keys new sent others is nothing;
    })
sound_after (Make keys) (Some old) new made sent others is genuine once sound = absurd is
sound_after (Issue number octets) None new made sent others is genuine once sound = absurd is
sound_after (Issue number octets) (Some old) None made sent others is genuine once sound = absurd is
sound_after (Issue number octets) (Some old) (Some new) made sent others is genuine once sound =
    makes_nothing (Some new) made (sent ++ request_of number octets ∷ []) others (record {
      unmade = λ none. absurd (held_made old made sent others sound none);
      once = issued_once old sent others sound.holds number octets new is sound.once;
      holds = issued_sound old sent others sound.holds number octets new is;
    })
sound_after (Count number) None new made sent others is genuine once sound = absurd is
sound_after (Count number) (Some old) None made sent others is genuine once sound = absurd is
sound_after (Count number) (Some old) (Some new) made sent others is genuine once sound =
    sends_nothing (Some new) made sent others (record { unmade = λ none. absurd (held_made old made sent others sound none); once = sound.once; holds = counted_sound old sent others sound.holds number new is genuine })
sound_after (TakeEffect number reply) None new made sent others is genuine once sound = absurd is
sound_after (TakeEffect number reply) (Some old) None made sent others is genuine once sound = absurd is
sound_after (TakeEffect number reply) (Some old) (Some new) made sent others is genuine once sound =
    makes_nothing (Some new) made (sent ++ response_of number reply ∷ []) others (record {
      unmade = λ none. absurd (held_made old made sent others sound none);
      once = taken_once old sent others sound.holds number reply new is sound.once;
      holds = taken_sound old sent others sound.holds number reply new is genuine;
    })
sound_after Close None new made sent others is genuine once sound = absurd is
sound_after Close (Some old) None made sent others is genuine once sound = absurd is
sound_after Close (Some old) (Some new) made sent others is genuine once sound =
    sends_nothing (Some new) made sent others (record { unmade = λ none. absurd (held_made old made sent others sound none); once = sound.once; holds = closed_sound old sent others sound.holds new is })
sound_after Remove None new made sent others is genuine once sound = absurd is
sound_after Remove (Some old) None made sent others is genuine once sound =
    sends_nothing None made sent others (record { unmade = λ none. absurd (held_made old made sent others sound none); once = sound.once; holds = tt })
sound_after Remove (Some old) (Some new) made sent others is genuine once sound = absurd is
