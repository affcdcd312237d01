-- What is stored of an end, and the ledgers of what it holds.
use Rattle.std.proofs.Common.{◌≡◌, ◌⊎◌, ◌++◌, ◌∷◌, ℕ, Bool, List, [], Option, Some, None, Contains, map, ap, subst, refl, sym, ◌∙◌, arith, inl, inr}
use Rattle.std.specs.Prelude.{flat_map, option_and_then}
use Rattle.std.specs.Option.{option_map, option_to_list}
use Rattle.std.proofs.lemmas.Grind.{flat_map-append}
use Rattle.std.proofs.lemmas.List.Elements.{Contains-append_cases, Contains-append_left, Contains-append_right, Contains-push, Contains-push_cases}
use Rattle.base.specs.Octets.{Octets}
use Rattle.suite.specs.declared.key_record.KeyRecord.{KeyRecord}
use Rattle.association.specs.Phases.{keys_in}
use Rattle.association.specs.declared.phase.Association.{Association}
use Rattle.moments.specs.declared.resent.Resent.{Resent}
use Rattle.effects.specs.Moves.{ledger, ledger_of, Ledger}
use Rattle.ike.specs.Machines.{association_of, keys_of_serial, Held, Machine}
use Rattle.ike.specs.Moves.{ledger_at}
use Rattle.ike.specs.declared.output.Mark as ike
use Rattle.lockstep.specs.Ends.{Entry}
use Rattle.lockstep.specs.Parties.{keys_come, Coming, Marked}
use Rattle.gateway.specs.Outputs.{OutputView, Repeat, Reply, Request, Sealed}
use Rattle.gateway.specs.States.{State}
use Rattle.gateway.specs.WorldParties.{made_at, made_of, marked_by, only_at, sent_at, sent_of}
use Rattle.gateway.specs.Worlds.{again_as, datagram_of, keyed_by, keyed_with, other_end, requests_in, sent_by, sent_once}
use Rattle.gateway.specs.declared.world.stored.Datagram.{Datagram}
use Rattle.gateway.specs.declared.world.stored.End.{End}
use Rattle.gateway.specs.declared.world.stored.End.TheVariants.{A, B}
use Rattle.gateway.specs.declared.world.stored.Keyed.{Keyed}
use Rattle.gateway.specs.declared.world.stored.Protection.{Protection}
use Rattle.gateway.specs.declared.world.stored.Protection.TheVariants as mark

-- ---- lists

pub none_there : {X : Type 0} (x : X) → Contains [] x → ⊥
none_there {X} x there = (let less = there.1 in absurd (omega arith))

pub at_head : {X : Type 0} (x : X) (xs : List X) → Contains (x ∷ xs) x
at_head {X} x xs = Contains-append_left (x ∷ []) xs x (Contains-push [] x)

pub further_on : {X : Type 0} (y : X) (xs : List X) (x : X) → Contains xs x → Contains (y ∷ xs) x
further_on {X} y xs x there = Contains-append_right (y ∷ []) xs x there

pub single : {X : Type 0} (y x : X) → Contains (y ∷ []) x → y ≡ x
single {X} y x there = elim (Contains-push_cases [] y x there) [
  | inl none ↦ absurd (none_there x none)
  | inr same ↦ same
]

pub at_head_or_further : {X : Type 0} (y : X) (xs : List X) (x : X) → Contains (y ∷ xs) x → (y ≡ x) ⊎ (Contains xs x)
at_head_or_further {X} y xs x there = elim (Contains-append_cases (y ∷ []) xs x there) [
  | inl here ↦ inl (single y x here)
  | inr further ↦ inr further
]

record InSome {X Y : Type 0} (f : X → List Y) (xs : List X) (y : Y) : Type 0 where
  item : X
  there : Contains xs item
  within : Contains (f item) y

in_flat : {X Y : Type 0} (f : X → List Y) (xs : List X) (y : Y) → Contains (flat_map f xs) y → InSome f xs y
in_flat {X} {Y} f [] y there = absurd (none_there y there)
in_flat {X} {Y} f (x ∷ xs) y there = elim (Contains-append_cases (f x) (flat_map f xs) y there) [
  | inl here ↦ record { item = x; there = at_head x xs; within = here }
  | inr further ↦ (let rest = in_flat f xs y further in record { item = rest.item; there = further_on x xs rest.item rest.there; within = rest.within })
]

flat_in : {X Y : Type 0} (f : X → List Y) (xs : List X) (x : X) (y : Y) → Contains xs x → Contains (f x) y → Contains (flat_map f xs) y
flat_in {X} {Y} f [] x y there within = absurd (none_there x there)
flat_in {X} {Y} f (a ∷ xs) x y there within = elim (at_head_or_further a xs x there) [
  | inl same ↦ Contains-append_left (f a) (flat_map f xs) y (subst (λ (z : X). Contains (f z) y) (sym same) within)
  | inr further ↦ Contains-append_right (f a) (flat_map f xs) y (flat_in f xs x y further within)
]

pub record MappedFrom {X Y : Type 0} (f : X → Y) (xs : List X) (y : Y) : Type 0 where
  pub item : X
  pub there : Contains xs item
  pub is : f item ≡ y

pub from_map : {X Y : Type 0} (f : X → Y) (xs : List X) (y : Y) → Contains (map f xs) y → MappedFrom f xs y
from_map {X} {Y} f [] y there = absurd (none_there y there)
from_map {X} {Y} f (x ∷ xs) y there = elim (at_head_or_further (f x) (map f xs) y there) [
  | inl same ↦ record { item = x; there = at_head x xs; is = same }
  | inr further ↦ (let rest = from_map f xs y further in record { item = rest.item; there = further_on x xs rest.item rest.there; is = rest.is })
]

-- ---- what is stored under keys

abbrev pub marked : KeyRecord → Entry → Marked
marked keys entry = record { keys = keys; entry = entry }

abbrev pub as_stored : End → KeyRecord → Entry → Datagram
as_stored end keys entry = datagram_of end (mark.Ike keys entry.response entry.number) entry.octets

marked_is : (end : End) (keys : KeyRecord) (response : Bool) (number : ℕ) (octets : Octets) (m : Marked)
    → Contains (record { keys = keys; entry = record { response = response; number = number; octets = octets } } ∷ []) m
    → datagram_of end (mark.Ike keys response number) octets ≡ as_stored end m.keys m.entry
marked_is end keys response number octets m there =
    ap (λ (x : Marked). as_stored end x.keys x.entry) (single (record { keys = keys; entry = record { response = response; number = number; octets = octets } }) m there)

of_is : (end other : End) (by : Protection) (octets : Octets) (m : Marked) → Contains (only_at end other (marked_by by octets)) m → datagram_of other by octets ≡ as_stored end m.keys m.entry
of_is A A mark.Plain octets m there = absurd (none_there m there)
of_is A A (mark.Ike keys response number) octets m there = marked_is A keys response number octets m there
of_is A A (mark.Esp by number) octets m there = absurd (none_there m there)
of_is B B mark.Plain octets m there = absurd (none_there m there)
of_is B B (mark.Ike keys response number) octets m there = marked_is B keys response number octets m there
of_is B B (mark.Esp by number) octets m there = absurd (none_there m there)
of_is A B by octets m there = absurd (none_there m there)
of_is B A by octets m there = absurd (none_there m there)

pub sent_there : (end : End) (ds : List Datagram) (keys : KeyRecord) (entry : Entry) → Contains (sent_at end ds) (marked keys entry) → Contains ds (as_stored end keys entry)
sent_there end ds keys entry there =
    let some = in_flat (sent_of end) ds (marked keys entry) there in
    subst (λ (d : Datagram). Contains ds d) (of_is end some.item.end some.item.mark some.item.octets (marked keys entry) some.within) some.there

own_marked : (end : End) (m : Marked) → Contains (only_at end end (m ∷ [])) m
own_marked A m = at_head m []
own_marked B m = at_head m []

pub there_sent : (end : End) (ds : List Datagram) (keys : KeyRecord) (entry : Entry) → Contains ds (as_stored end keys entry) → Contains (sent_at end ds) (marked keys entry)
there_sent end ds keys entry there = flat_in (sent_of end) ds (as_stored end keys entry) (marked keys entry) there (own_marked end (marked keys entry))

-- ---- what a step stores is of its end alone

only_other : {X : Type 0} (end : End) (xs : List X) → only_at (other_end end) end xs ≡ []
only_other {X} A xs = refl
only_other {X} B xs = refl

others_datagram : (end : End) (by : Protection) (octets : Octets) → sent_at (other_end end) (datagram_of end by octets ∷ []) ≡ []
others_datagram end by octets = ap (λ (xs : List Marked). xs ++ []) (only_other end (marked_by by octets))

others_again : (end : End) (machine : Machine) (requests : List Resent) → sent_at (other_end end) (map (again_as end machine) requests) ≡ []
others_again end machine [] = refl
others_again end machine (r ∷ requests) =
    ap (λ (xs : List Marked). xs ++ sent_at (other_end end) (map (again_as end machine) requests)) (only_other end (marked_by (again_as end machine r).mark r.octets))
    ∙ others_again end machine requests

others_once : {C : Type 0} (end : End) (s : OutputView) (sent : Option ike.Mark) (gateway : State C) → sent_at (other_end end) (sent_once end s sent gateway) ≡ []
others_once {C} end (Reply octets closed) sent gateway = others_datagram end _ octets
others_once {C} end (Repeat octets) sent gateway = others_datagram end _ octets
others_once {C} end (Request serial octets) sent gateway = others_datagram end _ octets
others_once {C} end (Sealed child number octets) sent gateway = others_datagram end _ octets
others_once {C} end _ sent gateway = refl

pub sent_appended : (end : End) (ds es : List Datagram) → sent_at end (ds ++ es) ≡ sent_at end ds ++ sent_at end es
sent_appended end ds es = flat_map-append (sent_of end) ds es

pub others_sent : {C : Type 0} (end : End) (s : OutputView) (sent : Option ike.Mark) (gateway : State C) → sent_at (other_end end) (sent_by end s sent gateway) ≡ []
others_sent {C} end s sent gateway =
    sent_appended (other_end end) (sent_once end s sent gateway) (map (again_as end gateway.machine) (requests_in s))
    ∙ ap (λ (xs : List Marked). xs ++ sent_at (other_end end) (map (again_as end gateway.machine) (requests_in s))) (others_once end s sent gateway)
    ∙ others_again end gateway.machine (requests_in s)

abbrev pub coming_with : ℕ → Option KeyRecord → Option Coming
coming_with serial None = None
coming_with serial (Some keys) = Some (record { serial = serial; keys = keys })

-- the keys that come by a step
abbrev pub coming_by : Option ℕ → Machine → Option Coming
coming_by None machine = None
coming_by (Some serial) machine = coming_with serial (keys_of_serial serial machine.held.associations)

pub made_appended : (end : End) (ks js : List Keyed) → made_at end (ks ++ js) ≡ made_at end ks ++ made_at end js
made_appended end ks js = flat_map-append (made_of end) ks js

made_with : (end : End) (serial : ℕ) (keys : Option KeyRecord) → made_at end (option_to_list (keyed_with end keys)) ≡ keys_come (coming_with serial keys)
made_with A serial None = refl
made_with B serial None = refl
made_with A serial (Some keys) = refl
made_with B serial (Some keys) = refl

pub own_made : (end : End) (keyed : Option ℕ) (machine : Machine) → made_at end (option_to_list (keyed_by end keyed machine)) ≡ keys_come (coming_by keyed machine)
own_made end None machine = refl
own_made end (Some serial) machine = made_with end serial (keys_of_serial serial machine.held.associations)

others_made_with : (end : End) (keys : Option KeyRecord) → made_at (other_end end) (option_to_list (keyed_with end keys)) ≡ []
others_made_with A None = refl
others_made_with B None = refl
others_made_with A (Some keys) = refl
others_made_with B (Some keys) = refl

pub others_made : (end : End) (keyed : Option ℕ) (machine : Machine) → made_at (other_end end) (option_to_list (keyed_by end keyed machine)) ≡ []
others_made end None machine = refl
others_made end (Some serial) machine = others_made_with end (keys_of_serial serial machine.held.associations)

-- ---- ledgers

pub some_is : {T : Type 0} (x y : T) → Some x ≡ Some y → x ≡ y
some_is {T} x y is = cc

pub none_some : {T : Type 0} (x : T) → None ≡ Some x → ⊥
none_some {T} x is = cc

pub ledger_there : (held : Held) (serial : ℕ) (a : Association) (keys : KeyRecord) → association_of serial held.associations ≡ Some a → keys_in a.phase ≡ Some keys
    → ledger_at held serial ≡ Some (ledger_of a keys)
ledger_there held serial a keys there keyed =
    ap (λ (o : Option Association). option_and_then ledger o) there ∙ ap (λ (k : Option KeyRecord). option_map (ledger_of a) k) keyed

-- an IKE SA that has a ledger, and its keys
pub record HasLedger (held : Held) (serial : ℕ) (l : Ledger) : Type 0 where
  pub association : Association
  pub there : association_of serial held.associations ≡ Some association
  pub keyed : keys_in association.phase ≡ Some l.keys

keyed_by_ledger : (a : Association) (keys : Option KeyRecord) (l : Ledger) → option_map (ledger_of a) keys ≡ Some l → keys ≡ Some l.keys
keyed_by_ledger a None l is = absurd (none_some l is)
keyed_by_ledger a (Some keys) l is = ap (λ (x : Ledger). Some x.keys) (some_is (ledger_of a keys) l is)

has_ledger_by : (held : Held) (serial : ℕ) (l : Ledger) (o : Option Association) → association_of serial held.associations ≡ o → option_and_then ledger o ≡ Some l → HasLedger held serial l
has_ledger_by held serial l None found is = absurd (none_some l is)
has_ledger_by held serial l (Some a) found is = record { association = a; there = found; keyed = keyed_by_ledger a (keys_in a.phase) l is }

pub has_ledger : (held : Held) (serial : ℕ) (l : Ledger) → ledger_at held serial ≡ Some l → HasLedger held serial l
has_ledger held serial l is = has_ledger_by held serial l (association_of serial held.associations) refl is

pub ledger_keys : (held : Held) (serial : ℕ) (l : Ledger) → ledger_at held serial ≡ Some l → keys_of_serial serial held.associations ≡ Some l.keys
ledger_keys held serial l is =
    let has = has_ledger held serial l is in
    ap (λ (o : Option Association). option_and_then (λ a. keys_in a.phase) o) has.there ∙ has.keyed
