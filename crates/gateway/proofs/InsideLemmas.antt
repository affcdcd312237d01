-- What is asked for and made lies inside the policy.
use Rattle.std.proofs.Common.{◌≡◌, ◌≢◌, ◌⊎◌, ℕ, zero, suc, ◌++◌, ◌∷◌, [], Bool, true, false, cond, List, Option, Some, None, Result, Ok, Err, max, refl, ap, subst, sym, ◌∙◌, inl, inr}
use Rattle.std.proofs.lemmas.Bool.{eq-eqb, ne_eqb}
use Rattle.std.proofs.lemmas.Bool.Decides.{eqb_tells}
use Rattle.std.specs.Cmp.{nat_cmp_total, unsigned_tied}
use Rattle.std.specs.FinMap as map
use Rattle.std.specs.List.{slice_get}
use Rattle.std.specs.Ordering.{nat_cmp}
use Rattle.std.specs.Prelude.{slice_set}
use Rattle.base.specs.Octets.{Octets}
use Rattle.base.specs.declared.selector.Selector.{Selector}
use Rattle.wire.specs.declared.message.Message.{Message}
use Rattle.suite.specs.declared.key_record.KeyRecord.{KeyRecord}
use Rattle.policy.specs.Decisions.{local_side, remote_side}
use Rattle.policy.specs.Narrowing.{AnswersOffer, LieInSide, LieInsidePolicy}
use Rattle.policy.specs.Points.{HoldsPoint}
use Rattle.policy.specs.declared.entry.Action.{Action}
use Rattle.policy.specs.declared.entry.Action.TheVariants as action
use Rattle.policy.specs.declared.entry.Entry.{Entry}
use Rattle.requests.specs.Outgoing.{none_issued, OwnRequests}
use Rattle.sadb.specs.Database.{Database}
use Rattle.sadb.specs.declared.pair.Pair.{Pair}
use Rattle.sa_init.specs.Cookies.{CookieSecrets}
use Rattle.association.specs.AskedChildren.{asked_of, AskedChildView}
use Rattle.association.specs.Finding.{place_meant}
use Rattle.association.specs.Issuing.{new_request, IssuesNext}
use Rattle.association.specs.Purposes.{asks_for_child}
use Rattle.association.specs.declared.fault.MessageFault.{MessageFault}
use Rattle.association.specs.declared.phase.Association.{Association}
use Rattle.association.specs.declared.phase.Phase.{Phase}
use Rattle.association.specs.declared.phase.Phase.TheVariants as phase
use Rattle.association.specs.declared.phase.Request.{Request}
use Rattle.association.specs.declared.purpose.FurtherChild.{FurtherChild}
use Rattle.association.specs.declared.purpose.Purpose.{Purpose}
use Rattle.association.specs.declared.purpose.Purpose.TheVariants.{Begin, CreateChild}
use Rattle.children.specs.Accepting.{KeepsToRequest}
use Rattle.informational.specs.declared.ordering.Order.{Order}
use Rattle.initial.specs.Answering.{IsHalfOpen}
use Rattle.initial.specs.Beginning.{begun}
use Rattle.setup.specs.Configs.{Setup}
use Rattle.moments.specs.Holding.{HoldSome, HoldsOn}
use Rattle.moments.specs.Ticking.{Ticks}
use Rattle.moments.specs.declared.ticking.Ticked.{Ticked}
use Rattle.create_child.specs.Asking.{wanted}
use Rattle.effects.specs.Children.{first_asked, MadeBy}
use Rattle.effects.specs.LawsOfPayloads.{NoMessageAsksForAFurtherChild, NoOtherOrderAsksForAFurtherChild, TheFirstChildIsTheOneAskedFor}
use Rattle.effects.specs.Requests.{IsSoundlyHeld}
use Rattle.effects.specs.Taking.{Meaning}
use Rattle.effects.specs.declared.taking.Effect.{Effect}
use Rattle.effects.specs.declared.taking.Effect.TheVariants as effect
use Rattle.ike.specs.Asking.{AsksFor, AsksThat}
use Rattle.ike.specs.Children.{MakesChildOf}
use Rattle.ike.specs.Machines.{association_of, has_serial, setup_at, Held, Machine}
use Rattle.ike.specs.Orders as order
use Rattle.ike.specs.Receiving.{is_initial_request, is_sound_initial, with_next, TakesDatagram, TakesFound, TakesRead}
use Rattle.ike.specs.Soundness.{IsSoundMachine}
use Rattle.ike.specs.Starting.{child_by, if_protects, protecting, protecting_entry, Starts}
use Rattle.ike.specs.Steps.{InputView, Steps}
use Rattle.ike.specs.Steps as input
use Rattle.ike.specs.declared.output.MadeChild.{MadeChild}
use Rattle.ike.specs.declared.output.Stepped.{Stepped}
use Rattle.gateway.specs.Inside.{AsksInside, IsAskedInside}
use Rattle.gateway.proofs.StrangerLemmas.{sound_adds, Adds}

-- what is known of a message, of a command and of a tick
pub record InsideFacts : Type 0 where
  pub first : TheFirstChildIsTheOneAskedFor
  pub further : NoMessageAsksForAFurtherChild
  pub ordered : NoOtherOrderAsksForAFurtherChild
  pub held : (now : ℕ) (old : List Association) (table : Database) (ticked : Ticked) (new : List Association) (new_table : Database) → Ticks now old table ticked new new_table → HoldSome now old new

none_some : {T : Type 0} (x : T) → None ≡ Some x → ⊥
none_some x e = cc

same_some : {T : Type 0} (x y : T) → Some x ≡ Some y → x ≡ y
same_some x y e = cc

-- ---- what lies inside a side

alone : (side s : Selector) (k : ℕ) → slice_get (side ∷ []) k ≡ Some s → side ≡ s
alone side s zero there = same_some side s there
alone side s (suc k) there = absurd (none_some s there)

pub side_inside : (side : Selector) → LieInSide (side ∷ []) side
side_inside side k s there p holds = subst (λ (t : Selector). HoldsPoint t p) (sym (alone side s k there)) holds

answer_inside : (answer : List Selector) (asked side : Selector) → AnswersOffer answer (asked ∷ []) → LieInSide (asked ∷ []) side → LieInSide answer side
answer_inside answer asked side answers inside k s there p holds =
    let lies = answers.each k s there in
    inside lies.place lies.selector lies.there p (lies.inside p holds)

-- the whole of a side
whole_inside : (asked side : Selector) → asked ≡ side → LieInSide (asked ∷ []) side
whole_inside asked side same = subst (λ (s : Selector). LieInSide (s ∷ []) side) (sym same) (side_inside side)

kept_inside : (entries : List Entry) (child : AskedChildView) (pair : Pair) → IsAskedInside entries child → KeepsToRequest (asked_of child) pair → LieInsidePolicy entries pair.remote pair.local
kept_inside entries child pair inside keeps = record {
  place = inside.place;
  entry = inside.entry;
  there = inside.there;
  protects = inside.protects;
  side_i = answer_inside pair.remote child.remote (remote_side inside.entry) keeps.remote (whole_inside child.remote (remote_side inside.entry) inside.remote);
  side_r = answer_inside pair.local child.local (local_side inside.entry) keeps.local (whole_inside child.local (local_side inside.entry) inside.local);
}

-- ---- an entry that protects

record Protects (entries : List Entry) (place : ℕ) (entry : Entry) : Type 0 where
  pub there : slice_get entries place ≡ Some entry
  pub protects : entry.action ≡ action.Protect

protects_as : (a : Action) (e entry : Entry) → if_protects a e ≡ Some entry → (e ≡ entry) × (a ≡ action.Protect)
protects_as action.Protect e entry is = (same_some e entry is, refl)
protects_as action.Bypass e entry is = absurd (none_some entry is)
protects_as action.Discard e entry is = absurd (none_some entry is)

protects_by : (entries : List Entry) (place : ℕ) (entry : Entry) (o : Option Entry) → slice_get entries place ≡ o → protecting o ≡ Some entry → Protects entries place entry
protects_by entries place entry None there is = absurd (none_some entry is)
protects_by entries place entry (Some e) there is =
    let by = protects_as e.action e entry is in
    record { there = there ∙ ap (λ (x : Entry). Some x) by.0; protects = sym (ap (λ (x : Entry). x.action) by.0) ∙ by.1 }

protects_of : (entries : List Entry) (place : ℕ) (entry : Entry) → protecting_entry entries place ≡ Some entry → Protects entries place entry
protects_of entries place entry is = protects_by entries place entry (slice_get entries place) refl is

sides_inside : (entries : List Entry) (place : ℕ) (entry : Entry) (child : AskedChildView) → protecting_entry entries place ≡ Some entry → child.remote ≡ remote_side entry → child.local ≡ local_side entry
    → IsAskedInside entries child
sides_inside entries place entry child is remote local =
    let by = protects_of entries place entry is in
    record { place = place; entry = entry; there = by.there; protects = by.protects; remote = remote; local = local }

-- ---- lists of which one item is replaced, or that grow by one

same_item : {A : Type 0} (x y : A) → Some x ≡ Some y → y ≡ x
same_item x y e = cc

replaced : (xs : List Association) (i : ℕ) (y : Association) (k : ℕ) (b : Association) → slice_get (slice_set xs i y) k ≡ Some b → (b ≡ y) ⊎ (slice_get xs k ≡ Some b)
replaced [] i y k b is = absurd cc
replaced (x ∷ xs) zero y zero b is = inl (same_item y b is)
replaced (x ∷ xs) zero y (suc k) b is = inr is
replaced (x ∷ xs) (suc i) y zero b is = inr is
replaced (x ∷ xs) (suc i) y (suc k) b is = replaced xs i y k b is

grown : (xs : List Association) (y : Association) (k : ℕ) (b : Association) → slice_get (xs ++ y ∷ []) k ≡ Some b → (b ≡ y) ⊎ (slice_get xs k ≡ Some b)
grown [] y zero b is = inl (same_item y b is)
grown [] y (suc k) b is = absurd cc
grown (x ∷ xs) y zero b is = inr is
grown (x ∷ xs) y (suc k) b is = grown xs y k b is

record StandsAt (xs : List Association) (a : Association) : Type 0 where
  pub place : ℕ
  pub there : slice_get xs place ≡ Some a

stands_later : (x : Association) (xs : List Association) (a : Association) → StandsAt xs a → StandsAt (x ∷ xs) a
stands_later x xs a is = record { place = suc is.place; there = is.there }

picked_at : (b : Bool) (x : Association) (xs : List Association) (a : Association) (rest : Option Association) → cond b (Some x) rest ≡ Some a → (rest ≡ Some a → StandsAt xs a) → StandsAt (x ∷ xs) a
picked_at true x xs a rest is later = record { place = 0; there = is }
picked_at false x xs a rest is later = stands_later x xs a (later is)

-- who is found by its serial stands at a place
found_at : (serial : ℕ) (xs : List Association) (a : Association) → association_of serial xs ≡ Some a → StandsAt xs a
found_at serial [] a is = absurd (none_some a is)
found_at serial (x ∷ xs) a is = picked_at (has_serial serial x) x xs a (association_of serial xs) is (found_at serial xs a)

-- ---- requests that are issued

abbrev Outstanding : Type 0
Outstanding = map.FinMap nat_cmp Request

abbrev choice : Option Request → Option Request → Bool → Option Request
choice here there b = cond b here there

inserted_here : (m : Outstanding) (k q : ℕ) (v : Request) → q ≡ k → map.get (map.insert m k v) q ≡ Some v
inserted_here m k q v same = map.get-insert nat_cmp_total m k v q ∙ ap (choice (Some v) (map.get m q)) (unsigned_tied q k ∙ eq-eqb q k same)

inserted_apart : (m : Outstanding) (k q : ℕ) (v : Request) → q ≢ k → map.get (map.insert m k v) q ≡ map.get m q
inserted_apart m k q v apart = map.get-insert nat_cmp_total m k v q ∙ ap (choice (Some v) (map.get m q)) (unsigned_tied q k ∙ ne_eqb q k apart)

-- it is the new one, or was outstanding
issued_one : (old : OwnRequests Request) (r : Request) (new : OwnRequests Request) (number : ℕ) (request : Request) → IssuesNext old r new → map.get new.outstanding number ≡ Some request
    → (r ≡ request) ⊎ (map.get old.outstanding number ≡ Some request)
issued_one old r new number request is there =
    let ready = ap (λ (o : OwnRequests Request). o.outstanding) is.prepared.content in
    let now : map.get (map.insert is.ready.outstanding old.next r) number ≡ Some request = sym (ap (λ (o : OwnRequests Request). map.get o.outstanding number) is.issued.content) ∙ there in
    elim (eqb_tells number old.next) [
      | inl (yes_it_is, here) ↦ inl (same_some r request (sym (inserted_here is.ready.outstanding old.next number r here) ∙ now))
      | inr (no_it_is_not, apart) ↦ inr (sym (ap (λ (m : Outstanding). map.get m number) ready) ∙ sym (inserted_apart is.ready.outstanding old.next number r apart) ∙ now)
    ]

-- ---- one IKE SA

established_asks : (keys : KeyRecord) (child : AskedChildView) → first_asked (phase.Established keys) ≡ Some child → ⊥
established_asks keys child is = none_some child is

asks_child : (p : Purpose) (further : FurtherChild) → p ≡ CreateChild further → asks_for_child p ≡ true
asks_child p further is = ap asks_for_child is

begin_asks : (octets : Octets) (moment : ℕ) (request : Request) (further : FurtherChild) → new_request octets Begin moment ≡ request → request.purpose ≡ CreateChild further → ⊥
begin_asks octets moment request further is asked =
    let clash : false ≡ true = ap (λ (r : Request). asks_for_child r.purpose) is ∙ ap asks_for_child asked in
    cc

begun_inside : (entries : List Entry) (a : Association) (child : AskedChildView) (octets : Octets) (moment : ℕ) → IsAskedInside entries child → first_asked a.phase ≡ Some child
    → IssuesNext none_issued (new_request octets Begin moment) a.outgoing → AsksInside entries a
begun_inside entries a child octets moment inside asked issued = record {
  first = λ other is. subst (λ (c : AskedChildView). IsAskedInside entries c) (same_some child other (sym asked ∙ is)) inside;
  further = λ number request further there is. elim (issued_one none_issued (new_request octets Begin moment) a.outgoing number request issued there) [
    | inl same ↦ absurd (begin_asks octets moment request further same is)
    | inr before ↦ absurd (none_some request (sym (map.get-empty nat_cmp number) ∙ before))
  ];
}

-- the child that a command asks for by an entry
further_inside : (entries : List Entry) (entry : Entry) (request : Request) (further : FurtherChild) (setup : Setup) (octets : Octets) (spi : ℕ)
    → new_request octets (CreateChild (wanted setup spi (local_side entry) (remote_side entry))) setup.moment ≡ request → request.purpose ≡ CreateChild further
    → IsAskedInside entries (wanted setup spi (local_side entry) (remote_side entry)).child → IsAskedInside entries further.child
further_inside entries entry request further setup octets spi same asked inside =
    let is : CreateChild (wanted setup spi (local_side entry) (remote_side entry)) ≡ CreateChild further = ap (λ (r : Request). r.purpose) same ∙ asked in
    let child : wanted setup spi (local_side entry) (remote_side entry) ≡ further = cc in
    subst (λ (f : FurtherChild). IsAskedInside entries f.child) child inside

-- who asks for nothing
quiet_inside : (entries : List Entry) (a : Association) → first_asked a.phase ≡ None → a.outgoing ≡ none_issued → AsksInside entries a
quiet_inside entries a none issued = record {
  first = λ child is. absurd (none_some child (sym none ∙ is));
  further = λ number request further there is. absurd (none_some request (sym (map.get-empty nat_cmp number) ∙ sym (ap (λ (o : OwnRequests Request). map.get o.outstanding number) issued) ∙ there));
}

-- a request more is issued at one that is established
ordered_inside : (entries : List Entry) (a b : Association) (keys : KeyRecord) → a.phase ≡ phase.Established keys → b.phase ≡ a.phase
    → ((number : ℕ) (request : Request) (further : FurtherChild) → map.get b.outgoing.outstanding number ≡ Some request → request.purpose ≡ CreateChild further
    → IsAskedInside entries further.child ⊎ (map.get a.outgoing.outstanding number ≡ Some request))
    → AsksInside entries a → AsksInside entries b
ordered_inside entries a b keys was same new inside = record {
  first = λ child is. absurd (established_asks keys child (sym (ap first_asked (same ∙ was)) ∙ is));
  further = λ number request further there is. elim (new number request further there is) [
    | inl now ↦ now
    | inr before ↦ inside.further number request further before is
  ];
}

held_inside : (entries : List Entry) (now : ℕ) (a b : Association) → HoldsOn now a b → AsksInside entries a → AsksInside entries b
held_inside entries now a b on inside = record {
  first = λ child is. elim on.phase [
    | inl stays ↦ inside.first child (sym (ap first_asked stays.1) ∙ is)
    | inr closes ↦ absurd (none_some child (sym (ap (λ (x : Association). first_asked x.phase) closes.content) ∙ is))
  ];
  further = λ number request further there is.
      let was = on.requests number request there in
      inside.further number was.was further was.there (sym was.purpose ∙ is);
}

-- ---- all of them

abbrev pub AllAsk : List Entry → Held → Type 0
AllAsk entries held = (place : ℕ) (a : Association) → slice_get held.associations place ≡ Some a → AsksInside entries a

same_held : (entries : List Entry) (old new : Held) → new ≡ old → AllAsk entries old → AllAsk entries new
same_held entries old new same all = subst (λ (h : Held). AllAsk entries h) (sym same) all

set_held : (entries : List Entry) (old : Held) (place : ℕ) (b : Association) (new : Held) → new ≡ record old { associations = slice_set old.associations place b } → AsksInside entries b → AllAsk entries old → AllAsk entries new
set_held entries old place b new content inside all k a there =
    elim (replaced old.associations place b k a (sym (ap (λ (h : Held). slice_get h.associations k) content) ∙ there)) [
      | inl is ↦ subst (λ (x : Association). AsksInside entries x) (sym is) inside
      | inr stood ↦ all k a stood
    ]

more_held : (entries : List Entry) (old : Held) (b : Association) (new : Held) → new ≡ with_next old b → AsksInside entries b → AllAsk entries old → AllAsk entries new
more_held entries old b new content inside all k a there =
    elim (grown old.associations b k a (sym (ap (λ (h : Held). slice_get h.associations k) content) ∙ there)) [
      | inl is ↦ subst (λ (x : Association). AsksInside entries x) (sym is) inside
      | inr stood ↦ all k a stood
    ]

half_open_asks : (p : Phase) → IsHalfOpen p → first_asked p ≡ None
half_open_asks p is = ap first_asked is.is

adds_inside : (entries : List Entry) (old new : Held) → Adds old new → AllAsk entries old → AllAsk entries new
adds_inside entries old new (inl same) all = same_held entries old new same all
adds_inside entries old new (inr adds) all =
    more_held entries old adds.association new adds.content (quiet_inside entries adds.association (half_open_asks adds.association.phase adds.half_open) adds.outgoing) all

module _ (facts : InsideFacts) (meaning : Meaning) (setup : Setup) (old : Held) (table : Database)
    (soundly : (place : ℕ) (a : Association) → slice_get old.associations place ≡ Some a → IsSoundlyHeld a) (all : AllAsk setup.entries old) where
  found_asks : (octets : Octets) (m : Message) (found : Result ℕ MessageFault) (stepped : Stepped) (new : Held) (new_table : Database) → TakesFound found meaning setup octets m old table stepped new new_table → AllAsk setup.entries new
  found_asks octets m (Ok place) stepped new new_table is =
      let a = is.association in
      let inside = all place a is.there in
      set_held setup.entries old place is.changed new is.content
      (record {
        first = λ child asked. inside.first child (facts.first meaning setup a table octets m is.effect is.changed new_table child asked is.takes);
        further = λ number request further there asked.
            inside.further number request further
            (facts.further meaning setup a table octets m is.effect is.changed new_table number request (soundly place a is.there) there (asks_child request.purpose further asked) is.takes) asked;
      }) all
  found_asks octets m (Err fault) stepped new new_table is = same_held setup.entries old new is.0.unchanged all

  read_asks : (cookies : CookieSecrets) (from octets : Octets) (m : Message) (b : Bool) (stepped : Stepped) (new : Held) (new_table : Database)
      → TakesRead b meaning setup cookies from octets m old table stepped new new_table → AllAsk setup.entries new
  read_asks cookies from octets m true stepped new new_table is =
      adds_inside setup.entries old new (sound_adds (is_sound_initial m.header) meaning setup cookies from octets m old stepped new is.0) all
  read_asks cookies from octets m false stepped new new_table is = found_asks octets m (place_meant m.header old.associations) stepped new new_table is

  datagram_asks : (cookies : CookieSecrets) (from octets : Octets) (stepped : Stepped) (new : Held) (new_table : Database) → TakesDatagram meaning setup cookies from octets old table stepped new new_table → AllAsk setup.entries new
  datagram_asks cookies from octets stepped new new_table (inl fails) = same_held setup.entries old new fails.passed.unchanged all
  datagram_asks cookies from octets stepped new new_table (inr reads) =
      read_asks cookies from octets reads.message (is_initial_request reads.message.header) stepped new new_table reads.done

  -- a command asks for what the entry has that it names
  start_asks : (ike : Option ℕ) (place : ℕ) (stepped : Stepped) (new : Held) (new_table : Database) → Starts meaning setup ike place old table stepped new new_table → AllAsk setup.entries new
  start_asks None place stepped new new_table is =
      let inside = sides_inside setup.entries place is.entry (child_by is.entry is.done.spi setup.config.extended) is.allowed.protects refl refl in
      more_held setup.entries old (begun old.next is.beginning _) new is.done.content
      (begun_inside setup.entries (begun old.next is.beginning _) _ is.beginning.octets setup.moment inside refl is.begins.issued) all
  start_asks (Some ike) place stepped new new_table is =
      let at = is.asks.asks in
      let f = is.asks.further in
      let inside = sides_inside setup.entries place is.entry (wanted setup f.spi (local_side is.entry) (remote_side is.entry)).child is.protects refl refl in
      set_held setup.entries old at.place at.changed new at.content
      (ordered_inside setup.entries at.association at.changed f.keys f.established (ap (λ (x : Association). x.phase) f.content)
      (λ number request further there asked.
      elim (issued_one at.association.outgoing _ f.outgoing number request f.issued (sym (ap (λ (x : Association). map.get x.outgoing.outstanding number) f.content) ∙ there)) [
        | inl same ↦ inl (further_inside setup.entries is.entry request further setup at.octets f.spi same asked inside)
        | inr before ↦ inr before
      ])
      (all at.place at.association at.there)) all

  that_asks : (ike : ℕ) (what : Order) (stepped : Stepped) (new : Held) (new_table : Database) → AsksThat meaning.body_of setup ike what old table stepped new new_table → AllAsk setup.entries new
  that_asks ike what stepped new new_table is =
      let at = is.asks in
      let o = is.ordered in
      set_held setup.entries old at.place at.changed new at.content
      (ordered_inside setup.entries at.association at.changed o.keys o.established (ap (λ (x : Association). x.phase) o.content)
      (λ number request further there asked.
      inr (facts.ordered meaning.body_of setup what at.association at.octets at.changed number request o there (asks_child request.purpose further asked)))
      (all at.place at.association at.there)) all

  order_asks : (what : order.OrderView) (stepped : Stepped) (new : Held) (new_table : Database) → AsksFor meaning.body_of setup what old table stepped new new_table → AllAsk setup.entries new
  order_asks (order.Probe ike) stepped new new_table is = that_asks ike _ stepped new new_table is
  order_asks (order.DeleteChild child) stepped new new_table is = that_asks is.pair.ike _ stepped new new_table is.asks
  order_asks (order.DeleteIke ike) stepped new new_table is = that_asks ike _ stepped new new_table is

-- ---- a tick

record Origin (now : ℕ) (old : List Association) (b : Association) : Type 0 where
  pub place : ℕ
  pub was : Association
  pub there : slice_get old place ≡ Some was
  pub on : HoldsOn now was b

origin_later : (now : ℕ) (a : Association) (rest : List Association) (b : Association) → Origin now rest b → Origin now (a ∷ rest) b
origin_later now a rest b is = record { place = suc is.place; was = is.was; there = is.there; on = is.on }

nothing_there : (place : ℕ) (b : Association) (new : List Association) → new ≡ [] → slice_get new place ≡ Some b → ⊥
nothing_there place b new none there = let nothing : slice_get [] place ≡ Some b = subst (λ xs. slice_get xs place ≡ Some b) none there in cc

origin : (now : ℕ) (old new : List Association) (place : ℕ) (b : Association) → HoldSome now old new → slice_get new place ≡ Some b → Origin now old b
origin now [] new place b some there = absurd (nothing_there place b new some there)
origin now (a ∷ rest) new place b (inl some) there = origin_later now a rest b (origin now rest new place b some there)
origin now (a ∷ rest) [] place b (inr some) there = absurd some
origin now (a ∷ rest) (x ∷ others) zero b (inr some) there =
    record { place = 0; was = a; there = refl; on = subst (λ (y : Association). HoldsOn now a y) (same_some x b there) some.0 }
origin now (a ∷ rest) (x ∷ others) (suc place) b (inr some) there = origin_later now a rest b (origin now rest others place b some.1 there)

-- After a step of the machine all asks lie inside.
pub step_asks : (facts : InsideFacts) (meaning : Meaning) (entries : List Entry) (given : InputView) (old : Machine) (table : Database) (stepped : Stepped) (new : Machine) (new_table : Database)
    → IsSoundMachine old table → Steps meaning entries given old table stepped new new_table → AllAsk entries old.held → AllAsk entries new.held
step_asks facts meaning entries (input.Message from octets fresh) old table stepped new new_table sound is all =
    datagram_asks facts meaning (setup_at old entries fresh) old.held table (λ place a there. (sound.held.each place a there).soundly) all old.cookies from octets stepped new.held new_table is.1
step_asks facts meaning entries (input.Start ike place fresh) old table stepped new new_table sound is all =
    start_asks facts meaning (setup_at old entries fresh) old.held table (λ at a there. (sound.held.each at a there).soundly) all ike place stepped new.held new_table is.1
step_asks facts meaning entries (input.Order what fresh) old table stepped new new_table sound is all =
    order_asks facts meaning (setup_at old entries fresh) old.held table (λ at a there. (sound.held.each at a there).soundly) all what stepped new.held new_table is.1
step_asks facts meaning entries (input.Secret secret) old table stepped new new_table sound is all = same_held entries old.held new.held (ap (λ (m : Machine). m.held) is.content) all
step_asks facts meaning entries (input.Tick moment) old table stepped new new_table sound is all = λ place b there.
    let now = max old.moment moment in
    let from = origin now old.held.associations new.held.associations place b (facts.held now old.held.associations table is.takes.ticked new.held.associations new_table is.takes.ticks) there in
    held_inside entries now from.was b from.on (all from.place from.was from.there)

-- ---- a Child SA that is made

made_inside : (meaning : Meaning) (setup : Setup) (a : Association) (octets : Octets) (m : Message) (e : Effect) (keys : KeyRecord) (pair : Pair) → AsksInside setup.entries a → MadeBy meaning setup a octets m e keys pair
    → LieInsidePolicy setup.entries pair.remote pair.local
made_inside meaning setup a octets m (effect.Refused fault) keys pair inside is = absurd is
made_inside meaning setup a octets m (effect.Repeated said) keys pair inside is = absurd is
made_inside meaning setup a octets m (effect.Replied answered) keys pair inside is = is.1.is.protected
made_inside meaning setup a octets m (effect.Again next) keys pair inside is = absurd is
made_inside meaning setup a octets m (effect.AsksAuth next) keys pair inside is = absurd is
made_inside meaning setup a octets m (effect.Counted ended) keys pair inside is = elim is [
  | inl first ↦ kept_inside setup.entries first.sent.child pair (inside.first first.sent.child (ap first_asked first.was)) first.is.keeps
  | inr other ↦ kept_inside setup.entries other.further.child pair (inside.further m.header.id other.request other.further other.outstanding other.asked) other.is.keeps
]

-- A Child SA that a datagram makes lies inside the policy.
pub child_inside : (meaning : Meaning) (setup : Setup) (octets : Octets) (old : Held) (table : Database) (stepped : Stepped) (made : MadeChild) (new : Held) (new_table : Database) → AllAsk setup.entries old
    → (is : MakesChildOf meaning setup octets old table stepped made new new_table) → LieInsidePolicy setup.entries is.makes.pair.remote is.makes.pair.local
child_inside meaning setup octets old table stepped made new new_table all is =
    let at = found_at made.ike old.associations is.was is.stood in
    made_inside meaning setup is.was octets is.message is.effect is.makes.keys is.makes.pair (all at.place is.was at.there) is.makes.made
