-- Of each request that was processed the response is kept, as long as the peer may ask for it again.
use Rattle.std.proofs.Common.{◌≡◌, ◌≢◌, ◌⊎◌, ◌+◌, ◌≤◌, inl, inr, ℕ, Bool, true, false, List, [], ◌∷◌, Option, Some, None, refl, ap, subst, sym, ◌∙◌, ◌||◌}
use Rattle.std.proofs.lemmas.Bool.{true≢false, ne_eqb}
use Rattle.std.proofs.lemmas.Bool.Decides.{eqb_tells}
use Rattle.std.specs.Cmp.{nat_cmp_total, unsigned_tied}
use Rattle.std.specs.FinMap as map
use Rattle.std.specs.FinSet as set
use Rattle.std.specs.List.{AllByRecursion}
use Rattle.std.specs.Option.{option_map}
use Rattle.std.specs.Ordering.{nat_cmp}
use Rattle.std.specs.Prelude.{option_and_then}
use Rattle.policy.specs.declared.entry.Entry.{Entry}
use Rattle.suite.specs.declared.key_record.KeyRecord.{KeyRecord}
use Rattle.exchange.specs.declared.headers.Role.{Role}
use Rattle.exchange.specs.declared.headers.Role.TheVariants.{Initiator, Responder}
use Rattle.sadb.specs.Database.{Database, IsSoundTable}
use Rattle.requests.specs.Incoming.{IsLeftBehind, IsPassed, PeerRequests}
use Rattle.requests.specs.Numbers.{HasNumber, NumberSet}
use Rattle.association.specs.Phases.{keys_in}
use Rattle.association.specs.declared.phase.Association.{Association}
use Rattle.association.specs.declared.phase.Phase.{Phase}
use Rattle.association.specs.declared.phase.Phase.TheVariants as phase
use Rattle.effects.specs.Moves.{first_ledger, ledger, ledger_of, Close, Count, Issue, Lead, Ledger, Make, Move, Moves, Remove, TakeEffect}
use Rattle.effects.specs.Requests.{is_concluded}
use Rattle.effects.specs.Taking.{Meaning}
use Rattle.ike.specs.LawsOfOutputs.{KeysStay}
use Rattle.ike.specs.LawsOfRequests.{NumbersTakeEffectByTheirDatagramAlone, RequestsFollowThoseBefore, TheConcludedStaysConcluded, WhatIsHeldIsSound}
use Rattle.ike.specs.LawsOfSteps.{StepsKeepTheirLaws}
use Rattle.ike.specs.Machines.{association_of, Held, Machine}
use Rattle.ike.specs.Moves.{ledger_at, ComesFor, MoveComes, Tells}
use Rattle.ike.specs.Soundness.{IsSoundMachine}
use Rattle.ike.specs.Steps.{is_tick, InputView, Message, Order, Secret, Start, Steps, Tick}
use Rattle.ike.specs.declared.output.Stepped.{Stepped}
use Rattle.gateway.specs.Staying.{HasReply, RepliesAreKept}

-- what is known of a step
pub record ReplyFacts : Type 0 where
  pub laws : StepsKeepTheirLaws
  pub stay : KeysStay
  pub follows : RequestsFollowThoseBefore
  pub concluded : TheConcludedStaysConcluded
  pub alone : NumbersTakeEffectByTheirDatagramAlone
  pub soundly : WhatIsHeldIsSound

none_some : {T : Type 0} (x : T) → None ≡ Some x → ⊥
none_some x e = cc

same_some : {T : Type 0} (x y : T) → Some x ≡ Some y → x ≡ y
same_some x y e = cc

in_none : (n : ℕ) → set.contains {R = nat_cmp} set.empty n ≡ true → ⊥
in_none n is = true≢false (sym is ∙ set.contains-empty nat_cmp n)

beside : (numbers : NumberSet) (k n : ℕ) → n ≢ k → set.contains (set.insert numbers k) n ≡ set.contains numbers n
beside numbers k n apart = set.contains-insert nat_cmp_total numbers k n ∙ ap (λ b. b || set.contains numbers n) (unsigned_tied n k ∙ ne_eqb n k apart)

alone_in : (n : ℕ) → set.contains {R = nat_cmp} (set.insert set.empty 0) n ≡ true → n ≡ 0
alone_in n is = elim (eqb_tells n 0) [
  | inl (_, same) ↦ same
  | inr (_, apart) ↦ absurd (in_none n (sym (beside set.empty 0 n apart) ∙ is))
]

-- ---- an IKE SA that comes to keys

-- nothing is in effect but IKE_SA_INIT at the responder
record BeginsSo (l : Ledger) : Type 0 where
  pub only : (n : ℕ) → HasNumber l.in_effect n → (l.role ≡ Responder) × (n ≡ 0)

abbrev BeginIfAny : Option Ledger → Type 0
BeginIfAny None = Unit {0}
BeginIfAny (Some l) = BeginsSo l

first_begins : (keys : KeyRecord) (r : Role) (l : Ledger) → l ≡ first_ledger keys l.role → l.role ≡ r → BeginsSo l
first_begins keys Initiator l is role = record {
  only = λ n there. absurd (in_none n (sym (ap (λ (x : Ledger). set.contains x.in_effect n) (is ∙ ap (first_ledger keys) role)) ∙ there));
}
first_begins keys Responder l is role = record {
  only = λ n there. (role, alone_in n (sym (ap (λ (x : Ledger). set.contains x.in_effect n) (is ∙ ap (first_ledger keys) role)) ∙ there));
}

begins_on : (old new : Ledger) → new.in_effect ≡ old.in_effect → new.role ≡ old.role → BeginsSo old → BeginsSo new
begins_on old new same role begins = record {
  only = λ n there.
      let was = begins.only n (sym (ap (λ (s : NumberSet). set.contains s n) same) ∙ there) in
      (role ∙ was.0, was.1);
}

-- what comes from a peer asks for keys that stood before
keyed_before : (meaning : Meaning) (given : InputView) (old : Held) (serial : ℕ) (response : Bool) (number : ℕ) → ComesFor meaning given old serial response number → ledger_at old serial ≡ None → ⊥
keyed_before meaning (Message from octets fresh) old serial response number comes none =
    none_some (ledger_of comes.association comes.comes.keys)
    (sym none ∙ ap (λ (o : Option Association). option_and_then ledger o) comes.there ∙ ap (option_map (ledger_of comes.association)) comes.comes.keyed)
keyed_before meaning (Start ike place fresh) old serial response number comes none = absurd comes.comes
keyed_before meaning (Order what fresh) old serial response number comes none = absurd comes.comes
keyed_before meaning (Secret secret) old serial response number comes none = absurd comes.comes
keyed_before meaning (Tick moment) old serial response number comes none = absurd comes.comes

module _ (meaning : Meaning) (given : InputView) (held : Held) (serial : ℕ) (none : ledger_at held serial ≡ None) where
  begun : (m : Move) (old new : Option Ledger) → BeginIfAny old → Moves m old new → MoveComes meaning given held serial m → BeginIfAny new
  begun (Make keys) None (Some new) begins is comes = first_begins keys new.role new is.content refl
  begun (Make keys) None None begins is comes = absurd is
  begun (Make keys) (Some l) new begins is comes = absurd is
  begun (Issue number octets) (Some l) (Some new) begins is comes = begins_on l new (ap (λ (x : Ledger). x.in_effect) is.content) (ap (λ (x : Ledger). x.role) is.content) begins
  begun (Issue number octets) (Some l) None begins is comes = absurd is
  begun (Issue number octets) None new begins is comes = absurd is
  begun (Count number) old new begins is comes = absurd (keyed_before meaning given held serial true number comes none)
  begun (TakeEffect number reply) old new begins is comes = absurd (keyed_before meaning given held serial false number comes none)
  begun Close (Some l) (Some new) begins is comes = begins_on l new (ap (λ (x : Ledger). x.in_effect) is.content) (ap (λ (x : Ledger). x.role) is.content) begins
  begun Close (Some l) None begins is comes = absurd is
  begun Close None new begins is comes = absurd is
  begun Remove (Some l) None begins is comes = tt
  begun Remove (Some l) (Some new) begins is comes = absurd is
  begun Remove None new begins is comes = absurd is

  all_begun : (ms : List Move) (old new : Option Ledger) → BeginIfAny old → Lead ms old new → AllByRecursion (MoveComes meaning given held serial) ms → BeginIfAny new
  all_begun [] old new begins lead comes = subst BeginIfAny (sym lead) begins
  all_begun (m ∷ others) old new begins lead comes = all_begun others lead.0 new (begun m old lead.0 begins lead.1 comes.0) lead.2 comes.1

-- ---- the role stays

abbrev HasRole : InputView → Role → Option Ledger → Type 0
HasRole given r None = is_tick given ≡ true
HasRole given r (Some l) = l.role ≡ r

both : (b : Bool) → b ≡ true → b ≡ false → ⊥
both true one other = cc
both false one other = cc

module _ (given : InputView) (stepped : Stepped) (serial : ℕ) (r : Role) where
  role_moved : (m : Move) (old new : Option Ledger) → HasRole given r old → Moves m old new → Tells given stepped serial m → HasRole given r new
  role_moved (Make keys) None (Some new) has is told = absurd (both (is_tick given) has told.1)
  role_moved (Make keys) None None has is told = absurd is
  role_moved (Make keys) (Some l) new has is told = absurd is
  role_moved (Issue number octets) (Some l) (Some new) has is told = ap (λ (x : Ledger). x.role) is.content ∙ has
  role_moved (Issue number octets) (Some l) None has is told = absurd is
  role_moved (Issue number octets) None new has is told = absurd is
  role_moved (Count number) (Some l) (Some new) has is told = ap (λ (x : Ledger). x.role) is.content ∙ has
  role_moved (Count number) (Some l) None has is told = absurd is
  role_moved (Count number) None new has is told = absurd is
  role_moved (TakeEffect number reply) (Some l) (Some new) has is told = ap (λ (x : Ledger). x.role) is.content ∙ has
  role_moved (TakeEffect number reply) (Some l) None has is told = absurd is
  role_moved (TakeEffect number reply) None new has is told = absurd is
  role_moved Close (Some l) (Some new) has is told = ap (λ (x : Ledger). x.role) is.content ∙ has
  role_moved Close (Some l) None has is told = absurd is
  role_moved Close None new has is told = absurd is
  role_moved Remove (Some l) None has is told = told
  role_moved Remove (Some l) (Some new) has is told = absurd is
  role_moved Remove None new has is told = absurd is

  role_led : (ms : List Move) (old new : Option Ledger) → HasRole given r old → Lead ms old new → AllByRecursion (Tells given stepped serial) ms → HasRole given r new
  role_led [] old new has lead told = subst (HasRole given r) (sym lead) has
  role_led (m ∷ others) old new has lead told = role_led others lead.0 new (role_moved m old lead.0 has lead.1 told.0) lead.2 told.1

-- ---- one step

ledger_with_keys : (held : Held) (serial : ℕ) (a : Association) (keys : KeyRecord) → association_of serial held.associations ≡ Some a → keys_in a.phase ≡ Some keys → ledger_at held serial ≡ Some (ledger_of a keys)
ledger_with_keys held serial a keys there are =
    ap (λ (o : Option Association). option_and_then ledger o) there ∙ ap (option_map (ledger_of a)) are

no_ledger : (held : Held) (serial : ℕ) → association_of serial held.associations ≡ None → ledger_at held serial ≡ None
no_ledger held serial none = ap (λ (o : Option Association). option_and_then ledger o) none

keyless : (held : Held) (serial : ℕ) (a : Association) → association_of serial held.associations ≡ Some a → keys_in a.phase ≡ None → ledger_at held serial ≡ None
keyless held serial a there none = ap (λ (o : Option Association). option_and_then ledger o) there ∙ ap (option_map (ledger_of a)) none

module _ (facts : ReplyFacts) (meaning : Meaning) (entries : List Entry) (given : InputView) (old : Machine) (table : Database) (stepped : Stepped) (new : Machine) (new_table : Database)
    (sound_table : IsSoundTable table) (sound : IsSoundMachine old table) (steps : Steps meaning entries given old table stepped new new_table) (were : RepliesAreKept old.held)
    (serial : ℕ) (b : Association) (keys : KeyRecord) (number : ℕ) (there : association_of serial new.held.associations ≡ Some b) (are : keys_in b.phase ≡ Some keys)
    (in_effect : HasNumber b.incoming.in_effect number) (not_left : ¬ IsLeftBehind b.incoming number) (not_first : b.role ≡ Responder → number ≢ 0) where
  -- it had no keys before
  from_none : ledger_at old.held serial ≡ None → HasReply b number
  from_none none =
      let m = (facts.laws meaning entries given old table stepped new new_table sound_table sound steps).moves serial in
      let lead : Lead m.moves None (Some (ledger_of b keys)) =
      subst (λ (o : Option Ledger). Lead m.moves o (Some (ledger_of b keys))) none
      (subst (λ (o : Option Ledger). Lead m.moves (ledger_at old.held serial) o) (ledger_with_keys new.held serial b keys there are) m.lead)
      in
      let begins : BeginsSo (ledger_of b keys) = all_begun meaning given old.held serial none m.moves None (Some (ledger_of b keys)) tt lead m.came in
      let first = begins.only number in_effect in
      absurd (not_first first.0 first.1)

  -- it had keys, and its window stayed as wide
  kept_on : (a : Association) (own : KeyRecord) → association_of serial old.held.associations ≡ Some a → keys_in a.phase ≡ Some own → HasNumber a.incoming.in_effect number → b.role ≡ a.role
      → b.incoming.size ≡ a.incoming.size → HasReply b number
  kept_on a own stood had was role size =
      let follows = facts.follows meaning entries given old table stepped new new_table serial a b sound steps (record { before = stood; after = there }) in
      let not_passed : ¬ IsPassed b.incoming.in_effect a.incoming.size number = λ passed. not_left (subst (λ (n : ℕ). IsPassed b.incoming.in_effect n number) (sym size) passed) in
      let stays : ¬ IsLeftBehind a.incoming number = λ left. not_passed (record { later = left.later; in_effect = follows.in_effect left.later left.in_effect; far = left.far }) in
      let reply = were.each serial a own number stood had was stays (λ is. not_first (role ∙ is)) in
      record { reply = reply.reply; kept = follows.remembered number reply.reply was reply.kept not_passed }

  concluded_on : (a : Association) (own : KeyRecord) → association_of serial old.held.associations ≡ Some a → keys_in a.phase ≡ Some own → HasNumber a.incoming.in_effect number → b.role ≡ a.role
      → is_concluded a.phase ≡ true → HasReply b number
  concluded_on a own stood had was role concluded =
      kept_on a own stood had was role (facts.concluded meaning entries given old table stepped new new_table serial a b sound steps (record { before = stood; after = there }) concluded).size

  by_phase : (p : Phase) (a : Association) (own : KeyRecord) → association_of serial old.held.associations ≡ Some a → keys_in a.phase ≡ Some own → HasNumber a.incoming.in_effect number → b.role ≡ a.role
      → a.phase ≡ p → HasReply b number
  by_phase (phase.InitSent sent) a own stood had was role is =
      let none = (facts.soundly old table serial a sound stood).took_none (inl (record { sent = sent; is = is })) in
      absurd (in_none number (sym (ap (λ (r : PeerRequests). set.contains r.in_effect number) none.incoming) ∙ was))
  by_phase (phase.AuthSent sent) a own stood had was role is =
      let none = (facts.soundly old table serial a sound stood).took_none (inr (record { sent = sent; is = is })) in
      absurd (in_none number (sym (ap (λ (r : PeerRequests). set.contains r.in_effect number) none.incoming) ∙ was))
  by_phase (phase.HalfOpen opened) a own stood had was role is =
      let first = (facts.soundly old table serial a sound stood).took_first (record { opened = opened; is = is }) in
      absurd (not_first (role ∙ first.role) (alone_in number (sym (ap (λ (r : PeerRequests). set.contains r.in_effect number) first.incoming) ∙ was)))
  by_phase (phase.Established keys) a own stood had was role is = concluded_on a own stood had was role (ap is_concluded is)
  by_phase (phase.Closed keys at) a own stood had was role is = concluded_on a own stood had was role (ap is_concluded is)

  -- it had keys, under which the request was processed already
  from_before : (a : Association) (own : KeyRecord) → association_of serial old.held.associations ≡ Some a → keys_in a.phase ≡ Some own → HasNumber a.incoming.in_effect number → HasReply b number
  from_before a own stood had was =
      let m = (facts.laws meaning entries given old table stepped new new_table sound_table sound steps).moves serial in
      let lead : Lead m.moves (Some (ledger_of a own)) (Some (ledger_of b keys)) =
      subst (λ (o : Option Ledger). Lead m.moves o (Some (ledger_of b keys))) (ledger_with_keys old.held serial a own stood had)
      (subst (λ (o : Option Ledger). Lead m.moves (ledger_at old.held serial) o) (ledger_with_keys new.held serial b keys there are) m.lead)
      in
      let role : b.role ≡ a.role = role_led given stepped serial a.role m.moves (Some (ledger_of a own)) (Some (ledger_of b keys)) refl lead m.told in
      by_phase a.phase a own stood had was role refl

  -- or it comes into effect now
  replied : (a : Association) (own : KeyRecord) → association_of serial old.held.associations ≡ Some a → keys_in a.phase ≡ Some own → (v : Bool) → set.contains a.incoming.in_effect number ≡ v → HasReply b number
  replied a own stood had true was = from_before a own stood had was
  replied a own stood had false lacks =
      let answered = (facts.alone meaning entries given old table stepped new new_table serial a b number sound steps (record { before = stood; after = there }) (record { before = lacks; after = in_effect })).1 in
      record { reply = answered.reply; kept = answered.kept }

  by_keys : (a : Association) → association_of serial old.held.associations ≡ Some a → (o : Option KeyRecord) → keys_in a.phase ≡ o → HasReply b number
  by_keys a stood None none = from_none (keyless old.held serial a stood none)
  by_keys a stood (Some own) had = replied a own stood had (set.contains a.incoming.in_effect number) refl

  by_held : (o : Option Association) → association_of serial old.held.associations ≡ o → HasReply b number
  by_held None none = from_none (no_ledger old.held serial none)
  by_held (Some a) stood = by_keys a stood (keys_in a.phase) refl

pub replies_after : (facts : ReplyFacts) (meaning : Meaning) (entries : List Entry) (given : InputView) (old : Machine) (table : Database) (stepped : Stepped) (new : Machine) (new_table : Database)
    → IsSoundTable table → IsSoundMachine old table → Steps meaning entries given old table stepped new new_table → RepliesAreKept old.held → RepliesAreKept new.held
replies_after facts meaning entries given old table stepped new new_table sound_table sound steps were = record {
  each = λ serial b keys number there are in_effect not_left not_first.
      by_held facts meaning entries given old table stepped new new_table sound_table sound steps were serial b keys number there are in_effect not_left not_first (association_of serial old.held.associations) refl;
}
