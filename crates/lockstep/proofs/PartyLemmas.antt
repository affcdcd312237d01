-- What a turn leaves of a party under one key record.
use Rattle.std.proofs.Common.{◌≡◌, ◌⊎◌, ◌+◌, ◌≤◌, ◌++◌, ◌∷◌, ℕ, Bool, true, false, Option, Some, None, List, [], Contains, length, ap, subst, refl, sym, ◌∙◌, arith, inl, inr}
use Rattle.std.proofs.lemmas.Bool.Decides.{leb_tells}
use Rattle.std.proofs.lemmas.List.Elements.{Contains-append_cases, Contains-append_left, Contains-append_right}
use Rattle.base.specs.Octets.{Octets}
use Rattle.suite.specs.declared.key_record.KeyRecord.{KeyRecord}
use Rattle.effects.specs.Moves.{Close, Count, Issue, Lead, Ledger, Make, Move, Moves, Remove, TakeEffect}
use Rattle.lockstep.specs.Ends.{made_by, made_in, request_of, response_of, sent_in, Entry, GoesOutAgain}
use Rattle.lockstep.specs.Parties.{keys_come, times, under, AreHeldUnder, AreSoundParties, Coming, Holds, IsGenuineTurn, IsNewParty, IsSentNow, IsSoundParty, Marked, Parties, Party, TakesTurn, Turn}
use Rattle.lockstep.specs.Promises.{AreInStep, AreIssuedAndInEffect, AreWithinWindows}
use Rattle.lockstep.specs.Soundness.{IsSoundEnd}
use Rattle.lockstep.proofs.KeyLemmas.{at_head, further_on, marked, none_there, one_time, there_under, times_append, under_append, under_there}
use Rattle.lockstep.proofs.LogLemmas.{AllIn, sound_in, sound_later}
use Rattle.lockstep.proofs.MoveLemmas.{end_of, nothing_once}
use Rattle.lockstep.proofs.NumberLemmas.{one_some, some_none}
use Rattle.lockstep.proofs.PromiseLemmas.{in_step, issued_and_in_effect, within_windows, Direction}
use Rattle.lockstep.proofs.RunLemmas.{kept_or_waits, sound_led}

-- ---- how often the moves of a step make keys

made_most : (move : Move) → made_by move ≤ 1
made_most (Make keys) = omega arith
made_most (Issue number octets) = omega arith
made_most (Count number) = omega arith
made_most (TakeEffect number reply) = omega arith
made_most Close = omega arith
made_most Remove = omega arith

-- from a ledger none are made
held_makes_none : (move : Move) (l : Ledger) (new : Option Ledger) → Moves move (Some l) new → made_by move ≡ 0
held_makes_none (Make keys) l new is = absurd is
held_makes_none (Issue number octets) l new is = refl
held_makes_none (Count number) l new is = refl
held_makes_none (TakeEffect number reply) l new is = refl
held_makes_none Close l new is = refl
held_makes_none Remove l new is = refl

-- from none a ledger comes by keys alone
none_makes : (move : Move) (new : Option Ledger) → Moves move None new → made_by move ≡ 1
none_makes (Make keys) new is = refl
none_makes (Issue number octets) new is = absurd is
none_makes (Count number) new is = absurd is
none_makes (TakeEffect number reply) new is = absurd is
none_makes Close new is = absurd is
none_makes Remove new is = absurd is

-- and there is a ledger then
none_to_some : (move : Move) (other : Move) (between new : Option Ledger) → Moves move None between → Moves other between new → made_by other ≡ 0
none_to_some move other (Some l) new first second = held_makes_none other l new second
none_to_some (Make keys) other None new first second = absurd first
none_to_some (Issue number octets) other None new first second = absurd first
none_to_some (Count number) other None new first second = absurd first
none_to_some (TakeEffect number reply) other None new first second = absurd first
none_to_some Close other None new first second = absurd first
none_to_some Remove other None new first second = absurd first

two_make_one : (move other : Move) (old between new : Option Ledger) → Moves move old between → Moves other between new → made_by move + made_by other ≤ 1
two_make_one move other None between new first second = (let none = none_to_some move other between new first second in let most = made_most move in omega arith)
two_make_one move other (Some l) between new first second = (let none = held_makes_none move l between first in let most = made_most other in omega arith)

few_make_one : (moves : List Move) (old new : Option Ledger) → length moves ≤ 2 → Lead moves old new → made_in moves ≤ 1
few_make_one [] old new few lead = omega arith
few_make_one (a ∷ []) old new few lead = (let most = made_most a in omega arith)
few_make_one (a ∷ b ∷ []) old new few lead = (let most = two_make_one a b old lead.0 lead.2.0 lead.1 lead.2.1 in omega arith)
few_make_one (a ∷ b ∷ c ∷ moves) old new few lead = absurd (omega arith)

came_by_keys : (moves : List Move) (l : Ledger) → Lead moves None (Some l) → 1 ≤ made_in moves
came_by_keys [] l lead = absurd (some_none l (sym lead))
came_by_keys (move ∷ moves) l lead = (let one = none_makes move lead.0 lead.1 in omega arith)

record MakesKeys (moves : List Move) : Type 0 where
  keys : KeyRecord
  there : Contains moves (Make keys)

later_makes : (move : Move) (moves : List Move) → MakesKeys moves → MakesKeys (move ∷ moves)
later_makes move moves is = record { keys = is.keys; there = further_on move moves (Make is.keys) is.there }

makes_keys : (moves : List Move) → 1 ≤ made_in moves → MakesKeys moves
makes_keys [] some = absurd (omega arith)
makes_keys (Make keys ∷ moves) some = record { keys = keys; there = at_head (Make keys) moves }
makes_keys (Issue number octets ∷ moves) some = later_makes (Issue number octets) moves (makes_keys moves (omega arith))
makes_keys (Count number ∷ moves) some = later_makes (Count number) moves (makes_keys moves (omega arith))
makes_keys (TakeEffect number reply ∷ moves) some = later_makes (TakeEffect number reply) moves (makes_keys moves (omega arith))
makes_keys (Close ∷ moves) some = later_makes Close moves (makes_keys moves (omega arith))
makes_keys (Remove ∷ moves) some = later_makes Remove moves (makes_keys moves (omega arith))

-- ---- a turn

record WasHeld (p : Party) (keys : KeyRecord) (serial : ℕ) : Type 0 where
  ledger : Ledger
  holds : Holds p keys serial ledger

module _ (keys : KeyRecord) (turn : Turn) (old new : Party) (takes : TakesTurn turn old new) (others : List Entry) (sound : IsSoundParty keys old others)
    (genuine : IsGenuineTurn keys turn new others) (once : times keys new.made ≤ 1) where
  abbrev comes_now : ℕ → Type 0
  comes_now serial = turn.coming ≡ Some (record { serial = serial; keys = keys })

  times_new : times keys new.made ≡ times keys old.made + times keys (keys_come turn.coming)
  times_new = ap (times keys) takes.made ∙ times_append keys old.made (keys_come turn.coming)

  -- keys that come are counted
  one_more : (serial : ℕ) → comes_now serial → times keys new.made ≡ times keys old.made + 1
  one_more serial is = times_new ∙ ap (λ (c : Option Coming). times keys old.made + times keys (keys_come c)) is ∙ ap (λ (n : ℕ). times keys old.made + n) (one_time keys)

  comes : (serial : ℕ) (l : Ledger) → Holds new keys serial l → 1 ≤ made_in (turn.moves serial) → comes_now serial
  comes serial l holds some =
      let made = makes_keys (turn.moves serial) some in
      takes.come serial l made.keys holds.there made.there ∙ ap (λ (k : KeyRecord). Some (record { serial = serial; keys = k })) holds.keyed

  -- what is held under the keys was held under them, or comes now
  was_or_comes : (serial : ℕ) (l : Ledger) → Holds new keys serial l → (o : Option Ledger) → old.ledgers serial ≡ o
      → (WasHeld old keys serial) ⊎ ((old.ledgers serial ≡ None) × comes_now serial)
  was_or_comes serial l holds None none =
      let lead : Lead (turn.moves serial) None (Some l) = subst (λ (o : Option Ledger). Lead (turn.moves serial) o (Some l)) none
      (subst (λ (o : Option Ledger). Lead (turn.moves serial) (old.ledgers serial) o) holds.there (takes.lead serial)) in
      inr (none, comes serial l holds (came_by_keys (turn.moves serial) l lead))
  was_or_comes serial l holds (Some was) there =
      inl (record { ledger = was; holds = record { there = there; keyed = sym (takes.keys_stay serial was l there holds.there) ∙ holds.keyed } })

  -- ---- the IKE SA that is held under them

  module _ (serial : ℕ) (l : Ledger) (holds : Holds new keys serial l) where
    as_it_was : IsSoundEnd (end_of (old.ledgers serial) (times keys old.made) (under keys old.sent)) others
    as_it_was = elim (was_or_comes serial l holds (old.ledgers serial) refl) [
      | inl was ↦
          subst (λ (o : Option Ledger). IsSoundEnd (end_of o (times keys old.made) (under keys old.sent)) others) (sym was.holds.there) (record {
            unmade = λ none. absurd ((sound.unmade none).held serial was.ledger was.holds);
            once = sound.once;
            holds = sound.holds serial was.ledger was.holds;
          })
      | inr now ↦
          subst (λ (o : Option Ledger). IsSoundEnd (end_of o (times keys old.made) (under keys old.sent)) others) (sym now.0) (record {
            unmade = λ none. (refl, (sound.unmade none).sent);
            once = sound.once;
            holds = tt;
          })
    ]

    made_fits : times keys old.made + made_in (turn.moves serial) ≤ 1
    made_fits =
        let most = few_make_one (turn.moves serial) (old.ledgers serial) (new.ledgers serial) (takes.few serial) (takes.lead serial) in
        elim (leb_tells 1 (made_in (turn.moves serial))) [
          | inl (_, some) ↦ (let more = one_more serial (comes serial l holds some) in omega (arith, most, more, once))
          | inr (_, none) ↦ (let all = times_new in omega (arith, none, all, once))
        ]

    abbrev log : List Entry
    log = under keys old.sent ++ sent_in (turn.moves serial)

    led : IsSoundEnd (end_of (Some l) (times keys old.made + made_in (turn.moves serial)) log) others
    led =
        subst (λ (o : Option Ledger). IsSoundEnd (end_of o (times keys old.made + made_in (turn.moves serial)) log) others) holds.there
        (sound_led (turn.moves serial) (old.ledgers serial) (new.ledgers serial) (times keys old.made) (under keys old.sent) others (takes.lead serial) (genuine serial l holds) made_fits as_it_was)

    again_was_sent : (entry : Entry) → GoesOutAgain (old.ledgers serial) entry → Contains (under keys old.sent) entry
    again_was_sent entry again = kept_or_waits entry.response (old.ledgers serial) entry.number entry.octets (under keys old.sent) others as_it_was.holds again

  log_new : under keys new.sent ≡ under keys old.sent ++ under keys turn.sent
  log_new = ap (under keys) takes.sent ∙ under_append keys old.sent turn.sent

  -- ---- one alone

  comes_alone : (s t : ℕ) → comes_now s → comes_now t → s ≡ t
  comes_alone s t one other = ap (λ (c : Coming). c.serial) (one_some (record { serial = s; keys = keys }) (record { serial = t; keys = keys }) (sym one ∙ other))

  not_both_come : (s t : ℕ) → WasHeld old keys s → comes_now t → ⊥
  not_both_come s t was now =
      let more = one_more t now in
      let none : times keys old.made ≡ 0 = omega (arith, more, once) in
      (sound.unmade none).held s was.ledger was.holds

  alone_by : (s t : ℕ) → ((WasHeld old keys s) ⊎ ((old.ledgers s ≡ None) × comes_now s)) → ((WasHeld old keys t) ⊎ ((old.ledgers t ≡ None) × comes_now t)) → s ≡ t
  alone_by s t (inl one) (inl other) = sound.alone s t one.ledger other.ledger one.holds other.holds
  alone_by s t (inl one) (inr other) = absurd (not_both_come s t one other.1)
  alone_by s t (inr one) (inl other) = absurd (not_both_come t s other one.1)
  alone_by s t (inr one) (inr other) = comes_alone s t one.1 other.1

  alone_now : (s t : ℕ) (l m : Ledger) → Holds new keys s l → Holds new keys t m → s ≡ t
  alone_now s t l m one other = alone_by s t (was_or_comes s l one (old.ledgers s) refl) (was_or_comes t m other (old.ledgers t) refl)

  -- ---- the log

  sent_or_now : (entry : Entry) → Contains (under keys new.sent) entry → (Contains (under keys old.sent) entry) ⊎ (IsSentNow turn old new keys entry)
  sent_or_now entry there = elim (Contains-append_cases (under keys old.sent) (under keys turn.sent) entry (subst (λ (es : List Entry). Contains es entry) log_new there)) [
    | inl before ↦ inl before
    | inr now ↦ inr (takes.sent_by keys entry (there_under keys turn.sent entry now))
  ]

  stays_sent : (entry : Entry) → Contains (under keys old.sent) entry → Contains (under keys new.sent) entry
  stays_sent entry there = subst (λ (es : List Entry). Contains es entry) (sym log_new) (Contains-append_left (under keys old.sent) (under keys turn.sent) entry there)

  module _ (serial : ℕ) (l : Ledger) (holds : Holds new keys serial l) where
    all_in_log : AllIn (under keys new.sent) (under keys old.sent ++ sent_in (turn.moves serial))
    all_in_log entry there = elim (sent_or_now entry there) [
      | inl before ↦ Contains-append_left (under keys old.sent) (sent_in (turn.moves serial)) entry before
      | inr now ↦
          (let same : now.serial ≡ serial = alone_now now.serial serial now.ledger l now.holds holds in
          elim now.by [
            | inl moved ↦
                Contains-append_right (under keys old.sent) (sent_in (turn.moves serial)) entry (subst (λ (s : ℕ). Contains (sent_in (turn.moves s)) entry) same moved)
            | inr again ↦
                Contains-append_left (under keys old.sent) (sent_in (turn.moves serial)) entry
                (again_was_sent serial l holds entry (subst (λ (s : ℕ). GoesOutAgain (old.ledgers s) entry) same again))
          ])
    ]

    all_of_log : AllIn (under keys old.sent ++ sent_in (turn.moves serial)) (under keys new.sent)
    all_of_log entry there = elim (Contains-append_cases (under keys old.sent) (sent_in (turn.moves serial)) entry there) [
      | inl before ↦ stays_sent entry before
      | inr moved ↦
          subst (λ (es : List Entry). Contains es entry) (sym log_new) (Contains-append_right (under keys old.sent) (under keys turn.sent) entry
          (under_there keys turn.sent entry (subst (λ (k : KeyRecord). Contains turn.sent (marked k entry)) holds.keyed (takes.all_sent serial l entry holds.there moved))))
    ]

    sound_now : IsSoundEnd (end_of (Some l) (times keys old.made + made_in (turn.moves serial)) (under keys new.sent)) others
    sound_now = sound_in (Some l) (times keys old.made + made_in (turn.moves serial)) (under keys old.sent ++ sent_in (turn.moves serial)) (under keys new.sent) others all_of_log all_in_log (led serial l holds)

  once_by : (n : ℕ) (a b : Octets) (response : Bool) → Contains (under keys new.sent) (record { response = response; number = n; octets = a })
      → Contains (under keys new.sent) (record { response = response; number = n; octets = b })
      → ((Contains (under keys old.sent) (record { response = response; number = n; octets = a })) ⊎ (IsSentNow turn old new keys (record { response = response; number = n; octets = a })))
      → ((Contains (under keys old.sent) (record { response = response; number = n; octets = b })) ⊎ (IsSentNow turn old new keys (record { response = response; number = n; octets = b })))
      → a ≡ b
  once_by n a b true one other (inl first) (inl second) = sound.once.response n a b first second
  once_by n a b false one other (inl first) (inl second) = sound.once.request n a b first second
  once_by n a b true one other (inr now) second = (sound_now now.serial now.ledger now.holds).once.response n a b one other
  once_by n a b false one other (inr now) second = (sound_now now.serial now.ledger now.holds).once.request n a b one other
  once_by n a b true one other (inl first) (inr now) = (sound_now now.serial now.ledger now.holds).once.response n a b one other
  once_by n a b false one other (inl first) (inr now) = (sound_now now.serial now.ledger now.holds).once.request n a b one other

  none_held : times keys new.made ≡ 0 → (serial : ℕ) (l : Ledger) → ¬ Holds new keys serial l
  none_held none serial l holds =
      let all = times_new in
      elim (was_or_comes serial l holds (old.ledgers serial) refl) [
        | inl was ↦ (sound.unmade (omega (arith, none, all))).held serial was.ledger was.holds
        | inr now ↦ (let more = one_more serial now.1 in absurd (omega (arith, none, more)))
      ]

  none_sent : times keys new.made ≡ 0 → (entry : Entry) → ¬ Contains (under keys new.sent) entry
  none_sent none entry there =
      let all = times_new in
      elim (sent_or_now entry there) [
        | inl before ↦ (sound.unmade (omega (arith, none, all))).sent entry before
        | inr now ↦ none_held none now.serial now.ledger now.holds
      ]

  pub turn_sound : IsSoundParty keys new others
  turn_sound = record {
    unmade = λ none. record { held = none_held none; sent = none_sent none };
    alone = alone_now;
    once = record {
      request = λ n a b one other. once_by n a b false one other (sent_or_now (request_of n a) one) (sent_or_now (request_of n b) other);
      response = λ n a b one other. once_by n a b true one other (sent_or_now (response_of n a) one) (sent_or_now (response_of n b) other);
    };
    holds = λ serial l holds. (sound_now serial l holds).holds;
  }

-- ---- what the peer sent till later

pub party_later : (keys : KeyRecord) (p : Party) (others later : List Entry) → AllIn others later → IsSoundParty keys p others → IsSoundParty keys p later
party_later keys p others later all sound = record {
  unmade = sound.unmade;
  alone = sound.alone;
  once = sound.once;
  holds = λ serial l holds. (sound_later (end_of (Some l) 1 (under keys p.sent)) others later all (record { unmade = λ none. absurd (omega arith); once = sound.once; holds = sound.holds serial l holds })).holds;
}

pub turn_sends : (keys : KeyRecord) (turn : Turn) (old new : Party) → TakesTurn turn old new → AllIn (under keys old.sent) (under keys new.sent)
turn_sends keys turn old new takes entry there =
    subst (λ (es : List Entry). Contains es entry) (sym (ap (under keys) takes.sent ∙ under_append keys old.sent turn.sent))
    (Contains-append_left (under keys old.sent) (under keys turn.sent) entry there)

-- ---- two parties

new_party_sound : (keys : KeyRecord) (p : Party) (others : List Entry) → IsNewParty p → IsSoundParty keys p others
new_party_sound keys p others new =
    let nothing : (entry : Entry) → ¬ Contains (under keys p.sent) entry = (λ entry there. none_there entry (subst (λ (ms : List Marked). Contains (under keys ms) entry) new.sent there)) in
    let none : (serial : ℕ) (l : Ledger) → ¬ Holds p keys serial l = (λ serial l holds. some_none l (sym (new.none serial) ∙ holds.there)) in
    record {
      unmade = λ is. record { held = none; sent = nothing };
      alone = λ s t l m one other. absurd (none s l one);
      once = nothing_once (under keys p.sent) nothing;
      holds = λ serial l holds. absurd (none serial l holds);
    }

pub new_parties_sound : (keys : KeyRecord) (parties : Parties) → IsNewParty parties.one → IsNewParty parties.other → AreSoundParties keys parties
new_parties_sound keys parties one other = record {
  one = new_party_sound keys parties.one (under keys parties.other.sent) one;
  other = new_party_sound keys parties.other (under keys parties.one.sent) other;
}

pub sound_at_one : (keys : KeyRecord) (turn : Turn) (old new : Parties) → AreSoundParties keys old → TakesTurn turn old.one new.one → new.other ≡ old.other
    → IsGenuineTurn keys turn new.one (under keys old.other.sent) → times keys new.one.made ≤ 1 → AreSoundParties keys new
sound_at_one keys turn old new sound takes same genuine once = record {
  one = subst (λ (p : Party). IsSoundParty keys new.one (under keys p.sent)) (sym same) (turn_sound keys turn old.one new.one takes (under keys old.other.sent) sound.one genuine once);
  other = subst (λ (p : Party). IsSoundParty keys p (under keys new.one.sent)) (sym same)
      (party_later keys old.other (under keys old.one.sent) (under keys new.one.sent) (turn_sends keys turn old.one new.one takes) sound.other);
}

pub sound_at_other : (keys : KeyRecord) (turn : Turn) (old new : Parties) → AreSoundParties keys old → TakesTurn turn old.other new.other → new.one ≡ old.one
    → IsGenuineTurn keys turn new.other (under keys old.one.sent) → times keys new.other.made ≤ 1 → AreSoundParties keys new
sound_at_other keys turn old new sound takes same genuine once = record {
  one = subst (λ (p : Party). IsSoundParty keys p (under keys new.other.sent)) (sym same)
      (party_later keys old.one (under keys old.other.sent) (under keys new.other.sent) (turn_sends keys turn old.other new.other takes) sound.one);
  other = subst (λ (p : Party). IsSoundParty keys new.other (under keys p.sent)) (sym same) (turn_sound keys turn old.other new.other takes (under keys old.one.sent) sound.other genuine once);
}

-- ---- in each direction

pub direction_under : (keys : KeyRecord) (parties : Parties) (asking answering : Ledger) → AreSoundParties keys parties → AreHeldUnder keys parties asking answering → Direction asking answering
direction_under keys parties asking answering sound held = elim held.held [
  | inl is ↦ record {
    sent = under keys parties.one.sent;
    others = under keys parties.other.sent;
    roles = held.roles;
    one = sound.one.holds held.asks asking is.0;
    other = sound.other.holds held.answers answering is.1;
  }
  | inr is ↦ record {
    sent = under keys parties.other.sent;
    others = under keys parties.one.sent;
    roles = held.roles;
    one = sound.other.holds held.asks asking is.0;
    other = sound.one.holds held.answers answering is.1;
  }
]

pub issued_under : (keys : KeyRecord) (parties : Parties) (asking answering : Ledger) → AreSoundParties keys parties → AreHeldUnder keys parties asking answering → AreIssuedAndInEffect asking answering
issued_under keys parties asking answering sound held =
    let d = direction_under keys parties asking answering sound held in
    issued_and_in_effect asking answering d.sent d.others d.roles d.one d.other

pub windows_under : (keys : KeyRecord) (parties : Parties) (asking answering : Ledger) → AreSoundParties keys parties → AreHeldUnder keys parties asking answering → AreWithinWindows asking answering
windows_under keys parties asking answering sound held =
    let d = direction_under keys parties asking answering sound held in
    within_windows asking answering d.sent d.others d.roles d.one d.other

pub in_step_under : (keys : KeyRecord) (parties : Parties) (asking answering : Ledger) → AreSoundParties keys parties → AreHeldUnder keys parties asking answering
    → asking.window ≡ 1 → AreInStep asking answering
in_step_under keys parties asking answering sound held window =
    let d = direction_under keys parties asking answering sound held in
    in_step asking answering d.sent d.others d.roles d.one d.other window
