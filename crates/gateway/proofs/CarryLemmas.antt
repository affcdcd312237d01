-- Over a list of events a world accounts for its Child SAs and its pairs, and what is delivered at one end
-- the other sealed.
use Rattle.std.proofs.Common.{◌≡◌, ◌≤◌, ◌++◌, ℕ, take, zero, suc, Bool, true, false, List, [], ◌∷◌, Some, Contains, inl, inr, refl, sym, ap, subst, ◌∙◌, arith}
use Rattle.std.specs.Prelude.{flat_map, length, slice_get}
use Rattle.std.proofs.Math.Seq.{take-length}
use Rattle.std.proofs.lemmas.List.Elements.{Contains-append_left}
use Rattle.base.specs.Octets.{Octets}
use Rattle.policy.specs.Decisions.{Covers}
use Rattle.base.specs.declared.selector.Selector.{Selector}
use Rattle.policy.specs.declared.entry.Action.TheVariants as action
use Rattle.policy.specs.declared.entry.Entry.{Entry}
use Rattle.policy.specs.declared.flow.Flow.{Flow}
use Rattle.policy.specs.declared.policy.Direction.TheVariants as direction
use Rattle.suite.specs.declared.key_record.KeyRecord.{KeyRecord}
use Rattle.suite.specs.declared.keys.Keys.{Keys}
use Rattle.wire.specs.declared.payload.Payload.{Payload}
use Rattle.esp.specs.Packet.{IsContents}
use Rattle.esp.specs.declared.sa.Sa as esp
use Rattle.sadb.specs.Database.{pair_at, Database, HasInbound, IsSoundTable}
use Rattle.sadb.specs.Mirrors.{Mirrors}
use Rattle.sadb.specs.declared.pair.Pair.{Pair}
use Rattle.association.specs.Receiving.{Opening}
use Rattle.association.specs.declared.phase.Association.{Association}
use Rattle.effects.specs.Children.{exchange_of_child, First}
use Rattle.effects.specs.Taking.{Meaning}
use Rattle.traffic.specs.Due.{IsDueAtPair}
use Rattle.traffic.specs.Outcomes.{Outcome}
use Rattle.traffic.specs.Outcomes as traffic
use Rattle.traffic.specs.Receiving.{IsAddressedTo, Receives, TakesNumberAt}
use Rattle.traffic.specs.Sending.{IsDecided, Sends}
use Rattle.ike.specs.Payloads.{OpensToItself}
use Rattle.gateway.specs.Exchanges.{HoldOneRecord}
use Rattle.gateway.specs.Inputs.{Event, Input}
use Rattle.gateway.specs.Inputs as input
use Rattle.gateway.specs.Outputs.{Up}
use Rattle.gateway.specs.Packets.{PacketsAreDelivered}
use Rattle.ike.specs.Machines.{association_of}
use Rattle.gateway.specs.Runs.{Runs}
use Rattle.gateway.specs.States.{association_in, IsSoundState, State}
use Rattle.gateway.specs.Steps.{DoesInput}
use Rattle.gateway.specs.WorldChildren.{AccountsForChildren, AreEndsOfOneChild, AsksForItsChildren, ChildrenMirror, IsStoredOf, MirrorEachOther, SentRequest, WasAnsweredFor, WasAskedFor, WasMade}
use Rattle.gateway.specs.BothEnds.{ChildrenAgree, IsWhollySound, PromisesOfBothEnds, KeepsBothEnds}
use Rattle.gateway.specs.WorldHistories.{passage_at, passages_at, Happening, IsWorldTrail}
use Rattle.gateway.specs.WorldPackets.{AccountsForPairs, HasOneSender, HasSentPacket, HasStored, HoldsPairOf, IsJudgedAt, PairsMirror, WasSealedByOther}
use Rattle.gateway.specs.WorldParties.{HasSent, HoldsUnder, IsNeverMadeTwice, IsSoundUnder}
use Rattle.gateway.specs.WorldPromises.{IsUnforged, StaysSound}
use Rattle.gateway.specs.WorldRuns.{CallsWorldAs, HappensAs, IsLater}
use Rattle.gateway.specs.WorldWindows.{window_at, AccountsForWindows, WindowsFit}
use Rattle.gateway.specs.Worlds.{datagram_of, gateway_at, if_at, new_world, other_end, simplex_of, HoldsNothing, Stored, TakesEvent, WorldState}
use Rattle.gateway.specs.declared.output.Output.{Output}
use Rattle.gateway.specs.declared.world.stored.Child.{Child}
use Rattle.gateway.specs.declared.world.stored.End.{End}
use Rattle.gateway.specs.declared.world.stored.End.TheVariants.{A, B}
use Rattle.gateway.specs.declared.world.stored.Protection.TheVariants as mark
use Rattle.gateway.specs.declared.world.stored.Simplex.{Simplex}
use Rattle.gateway.proofs.ChildLemmas.{gateway_here, known_after, ChildLaws, ShareCipher}
use Rattle.gateway.proofs.DeliveryLemmas.{came_up, goes_up, packets_kept, told_outcome}
use Rattle.gateway.proofs.MirrorLemmas.{children_mirror, MirrorLaws}
use Rattle.gateway.proofs.MoveLemmas.{TurnLaws}
use Rattle.gateway.proofs.PairLemmas.{accounts_after, PairLaws}
use Rattle.gateway.proofs.PartyLemmas.{none_some, none_there, some_is}
use Rattle.gateway.proofs.SoundWorldLemmas.{event_later, still_sent, trail_later, world_calls_joined, world_told}
use Rattle.gateway.proofs.WorldHistoryLemmas.{trail_at}
use Rattle.gateway.proofs.WorldLemmas.{later_same}
use Rattle.gateway.proofs.OriginLemmas.{sealed_before}

-- ---- what is stored later

more_children : (now last : Stored) (child : Child) → IsLater now last → Contains now.children child → Contains last.children child
more_children now last child later there = subst (λ (cs : List Child). Contains cs child) (sym later.children) (Contains-append_left now.children later.more.children child there)

module _ (body_of : Keys → Octets → Octets → Octets → Octets) (plain_of : Opening) (now last : Stored) (later : IsLater now last) where
  later_sent : (end : End) (keys : KeyRecord) (response : Bool) (number : ℕ) (octets : Octets) → HasSent end keys response number octets now → HasSent end keys response number octets last
  later_sent end keys response number octets sent = still_sent end keys response number octets now last later sent

  later_request : (keys : KeyRecord) (end : End) (exchange number : ℕ) (payloads : List Payload) → SentRequest body_of keys end exchange number payloads now → SentRequest body_of keys end exchange number payloads last
  later_request keys end exchange number payloads is = record { octets = is.octets; sent = later_sent end keys false number is.octets is.sent; sealed = is.sealed }

  later_asked : (child : Child) → WasAskedFor body_of plain_of child now → WasAskedFor body_of plain_of child last
  later_asked child is = record {
    kind = is.kind;
    request = is.request;
    requested = later_sent child.end child.keys false child.number is.request is.requested;
    asks = is.asks;
    sealed = is.sealed;
    proposal = is.proposal;
    offers = is.offers;
    response = is.response;
    responded = later_sent (other_end child.end) child.keys true child.number is.response is.responded;
    answers = is.answers;
    opened = is.opened;
    pair = is.pair;
    stored_of = is.stored_of;
    is = is.is;
  }

  later_answered : (child : Child) → WasAnsweredFor body_of plain_of child now → WasAnsweredFor body_of plain_of child last
  later_answered child is = record {
    kind = is.kind;
    request = is.request;
    requested = later_sent (other_end child.end) child.keys false child.number is.request is.requested;
    asks = is.asks;
    opened = is.opened;
    response = is.response;
    responded = later_sent child.end child.keys true child.number is.response is.responded;
    answers = is.answers;
    sealed = is.sealed;
    pair = is.pair;
    stored_of = is.stored_of;
    is = is.is;
  }

  later_made : (asked : Bool) (child : Child) → WasMade asked body_of plain_of child now → WasMade asked body_of plain_of child last
  later_made true child made = later_asked child made
  later_made false child made = later_answered child made

  later_asks : (keys : KeyRecord) (end : End) (a : Association) → AsksForItsChildren body_of keys end a now → AsksForItsChildren body_of keys end a last
  later_asks keys end a is = record {
    first = λ sent waits. let asks = is.first sent waits in (asks.0, asks.1, later_request keys end (exchange_of_child First) 1 asks.0 asks.2);
    further = λ number request further outstanding asked. later_request keys end _ number _ (is.further number request further outstanding asked);
  }

  later_known : {C : Type 0} (keys : KeyRecord) (w : WorldState C) → AccountsForChildren body_of plain_of keys w now → AccountsForChildren body_of plain_of keys w last
  later_known {C} keys w is = record {
    asks = λ end a holds. later_asks keys end a (is.asks end a holds);
    made = λ child there under. later_made child.asked child (is.made child there under);
  }

-- ---- over a list of events

module _ {C : Type 0} (turns : TurnLaws) (kin : ChildLaws) (meaning_of : C → Meaning) (body_of : Keys → Octets → Octets → Octets → Octets) (plain_of : Opening) (shares : ShareCipher meaning_of body_of plain_of) (keys : KeyRecord) where
  known_trail : (hs : List (Happening C)) (old new : WorldState C) → IsWorldTrail meaning_of old hs new → IsUnforged meaning_of keys hs new.stored
      → AccountsForChildren body_of plain_of keys old new.stored → AccountsForChildren body_of plain_of keys new new.stored
  known_trail [] old new trail unforged known = subst (λ (w : WorldState C). AccountsForChildren body_of plain_of keys w new.stored) (sym trail) known
  known_trail (h ∷ hs) old new trail unforged known =
      known_trail hs h.after new trail.2 (λ place g response number octets there comes. unforged (suc place) g response number octets there comes)
      (known_after turns kin meaning_of body_of plain_of shares keys h trail.1 new.stored (trail_later meaning_of hs h.after new trail.2)
      (λ response number octets comes. unforged 0 h response number octets refl comes)
      (subst (λ (w : WorldState C). AccountsForChildren body_of plain_of keys w new.stored) (sym trail.0) known))

module _ {C : Type 0} (laws : PairLaws) (meaning_of : C → Meaning) where
  -- an event of a list, before which the world accounts for its pairs
  pub record EventAt (h : Happening C) (new : WorldState C) : Type 0 where
    pub takes : TakesEvent meaning_of h.event h.before h.said h.after
    pub accounts : AccountsForPairs h.before
    pub later : IsLater h.after.stored new.stored

  event_at : (hs : List (Happening C)) (old new : WorldState C) (place : ℕ) (h : Happening C) → IsWorldTrail meaning_of old hs new → AccountsForPairs old → slice_get hs place ≡ Some h → EventAt h new
  event_at [] old new place h trail known there = absurd cc
  event_at (g ∷ hs) old new zero h trail known there =
      let same : g ≡ h = some_is g h there in
      subst (λ (x : Happening C). EventAt x new) same (record {
        takes = trail.1;
        accounts = subst (λ (w : WorldState C). AccountsForPairs w) (sym trail.0) known;
        later = trail_later meaning_of hs g.after new trail.2;
      })
  event_at (g ∷ hs) old new (suc place) h trail known there =
      event_at hs g.after new place h trail.2 (accounts_after laws meaning_of g trail.1 (subst (λ (w : WorldState C). AccountsForPairs w) (sym trail.0) known)) there

  accounts_trail : (hs : List (Happening C)) (old new : WorldState C) → IsWorldTrail meaning_of old hs new → AccountsForPairs old → AccountsForPairs new
  accounts_trail [] old new trail known = subst (λ (w : WorldState C). AccountsForPairs w) (sym trail) known
  accounts_trail (h ∷ hs) old new trail known =
      accounts_trail hs h.after new trail.2 (accounts_after laws meaning_of h trail.1 (subst (λ (w : WorldState C). AccountsForPairs w) (sym trail.0) known))

-- ---- pairs that both ends hold

simplex_same : (a b : esp.Sa) → simplex_of a ≡ simplex_of b → a ≡ b
simplex_same a b is =
    let spi = ap (λ (s : Simplex). s.spi) is in
    let key = ap (λ (s : Simplex). s.key) is in
    let extended = ap (λ (s : Simplex). s.extended) is in
    (λ i. record { spi = spi i; key = key i; extended = extended i })

pairs_mirror : (one other : Child) (p q : Pair) → MirrorEachOther one other → IsStoredOf one p → IsStoredOf other q → Mirrors p q
pairs_mirror one other p q is first second = record {
  inward = simplex_same p.inbound.association q.outbound.association (sym first.inbound ∙ is.inward ∙ second.outbound);
  outward = simplex_same p.outbound.association q.inbound.association (sym first.outbound ∙ is.outward ∙ second.inbound);
  extension = sym (ap (λ (s : Simplex). s.extended) first.inbound) ∙ is.extension ∙ ap (λ (s : Simplex). s.extended) first.outbound;
  local = sym first.local ∙ is.local ∙ second.remote;
  remote = sym first.remote ∙ is.remote ∙ second.local;
}

other_way : (p q : Pair) → Mirrors p q → Mirrors q p
other_way p q is = record {
  inward = sym is.outward;
  outward = sym is.inward;
  extension = sym (ap (λ (a : esp.Sa). a.extended) is.outward) ∙ sym is.extension ∙ ap (λ (a : esp.Sa). a.extended) is.inward;
  local = sym is.remote;
  remote = sym is.local;
}

held_mirror : {C : Type 0} (keys : KeyRecord) (now : WorldState C) (last : WorldState C) → IsLater now.stored last.stored → AccountsForPairs now → ChildrenMirror keys last → PairsMirror keys now
held_mirror {C} keys now last later known mirror asked answered one other first second under of_one p q =
    pairs_mirror asked answered one other (mirror asked answered (more_children now.stored last.stored asked later first) (more_children now.stored last.stored answered later second) under of_one)
    (known.same asked one first p) (known.same answered other second q)

-- ---- what is delivered

-- what is known of packets
pub record CarryLaws : Type 0 where
  pub up : (old new : Database) (packet inner : Octets) (child number : ℕ) → Receives old packet (traffic.Up child number inner) new → TakesNumberAt old packet child number new
  pub handed : (near near_new far far_new : Database) (policy : List Entry) (packet octets : Octets) (child number : ℕ) (pair mirror : Pair) (outcome : Outcome) → pair_at near.pairs child ≡ Some pair
      → Sends near policy packet (traffic.Sealed child number octets) near_new → Mirrors pair mirror → IsSoundTable far → IsDueAtPair far mirror octets number → Receives far octets outcome far_new
      → outcome ≡ traffic.Up mirror.serial number packet

one_packet : (child other number under : ℕ) (one two : Octets) → traffic.Up child number one ≡ traffic.Up other under two → one ≡ two
one_packet child other number under one two is = cc

covered_by : (child : Child) (pair : Pair) (flow : Flow) → IsStoredOf child pair → Covers pair.local pair.remote flow → Covers child.local child.remote flow
covered_by child pair flow is covers =
    subst (λ (ss : List Selector). Covers ss child.remote flow) (sym is.local) (subst (λ (ss : List Selector). Covers pair.local ss flow) (sym is.remote) covers)

module _ {C : Type 0} (laws : PairLaws) (carry : CarryLaws) (meaning_of : C → Meaning) (h : Happening C) (new : WorldState C) (at : EventAt laws meaning_of h new) where
  abbrev e : End
  e = h.event.end

  abbrev was : State C
  was = gateway_at e h.before

  here : gateway_at e h.after ≡ at.takes.gateway
  here = ap (λ (w : WorldState C). gateway_at e w) at.takes.content ∙ gateway_here e at.takes.gateway _ h.before

  -- a packet that is delivered came to a pair, which judged it
  record GoesUp (serial number : ℕ) (packet : Octets) : Type 0 where
    octets : Octets
    given : h.event.input ≡ input.Esp octets
    receives : Receives was.table octets (traffic.Up serial number packet) at.takes.gateway.table
    takes : TakesNumberAt was.table octets serial number at.takes.gateway.table

  goes_up_so : (serial number : ℕ) (packet : Octets) → h.said ≡ Up serial number packet → GoesUp serial number packet
  goes_up_so serial number packet said =
      let does = at.takes.traces.does in
      let came = came_up (meaning_of was.caller) was.entries h.event.input was.machine was.table h.said at.takes.trace at.takes.gateway.machine at.takes.gateway.table does (ap goes_up said) in
      let by = subst (λ (g : Input). DoesInput (meaning_of was.caller) was.entries g was.machine was.table h.said at.takes.trace at.takes.gateway.machine at.takes.gateway.table) came.is does in
      let outcome : by.1.outcome ≡ traffic.Up serial number packet = told_outcome h.said by.1.outcome (traffic.Up serial number packet) by.1.output said in
      let receives = subst (λ (o : Outcome). Receives was.table came.octets o at.takes.gateway.table) outcome by.1.receives in
      record { octets = came.octets; given = came.is; receives = receives; takes = carry.up was.table at.takes.gateway.table came.octets packet serial number receives }

  pub up_stored : (serial number : ℕ) (packet : Octets) → h.said ≡ Up serial number packet → HasStored e serial h.before.stored
  up_stored serial number packet said =
      let up = goes_up_so serial number packet said in
      at.accounts.stored e serial up.takes.pair (subst (λ (k : ℕ). pair_at was.table.pairs k ≡ Some up.takes.pair) (sym up.takes.child_is) up.takes.addressed.inbound.there)

  module _ (last : WorldState C) (known : AccountsForPairs last) (later : IsLater h.before.stored last.stored) (child : Child) (there : Contains last.stored.children child) (end_is : e ≡ child.end) where
    abbrev far : State C
    far = gateway_at child.end h.before

    far_is : was ≡ far
    far_is = ap (λ (x : End). gateway_at x h.before) end_is

    pub carried_over : (number : ℕ) (packet : Octets) → h.said ≡ Up child.serial number packet
        → ((octets : Octets) → IsJudgedAt child number octets h → HasSentPacket (other_end child.end) child.inbound.spi child.inbound.key number octets last.stored)
        → HasOneSender child last.stored → ((other : Child) → Contains last.stored.children other → AreEndsOfOneChild child other → MirrorEachOther child other)
        → WasSealedByOther child number packet h last
    carried_over number packet said unforged alone mirror =
        let up = goes_up_so child.serial number packet said in
        let pair = up.takes.pair in
        let stands : pair_at was.table.pairs child.serial ≡ Some pair = subst (λ (k : ℕ). pair_at was.table.pairs k ≡ Some pair) (sym up.takes.child_is) up.takes.addressed.inbound.there in
        let stored = at.accounts.stored e child.serial pair stands in
        let same : stored.child ≡ child = known.alone stored.child child (more_children h.before.stored last.stored stored.child later stored.there) there (stored.end_is ∙ end_is) stored.serial_is in
        let own : Contains h.before.stored.children child = subst (λ (c : Child). Contains h.before.stored.children c) same stored.there in
        let held : HoldsPairOf child pair h.before = subst (λ (s : State C). pair_at s.table.pairs child.serial ≡ Some pair) far_is stands in
        let of : IsStoredOf child pair = at.accounts.same child pair own held in
        let judged : IsJudgedAt child number up.octets h = record {
          end_is = end_is;
          given = up.given;
          pair = pair;
          addressed = subst (λ (s : State C). IsAddressedTo s.table up.octets pair) far_is up.takes.addressed;
          own = sym up.takes.child_is;
          judged = up.takes.judged;
        } in
        let sent = unforged up.octets judged in
        let sealed = known.sealed (other_end child.end) sent.by number up.octets sent.sent in
        let other = sealed.child in
        let spi : other.outbound.spi ≡ child.inbound.spi = ap (λ (s : Simplex). s.spi) sealed.by_is ∙ sent.spi_is in
        let key : other.outbound.key ≡ child.inbound.key = ap (λ (s : Simplex). s.key) sealed.by_is ∙ sent.key_is in
        let of_one = alone other sealed.there sealed.end_is spi key in
        let mirrored = mirror other sealed.there of_one in
        let near = sealed.sealed in
        let both : Mirrors near.pair pair = other_way pair near.pair (pairs_mirror child other pair near.pair mirrored of near.stored_of) in
        let due : IsDueAtPair was.table pair up.octets number = record {
          found = record {
            there = up.takes.addressed.inbound.there;
            its_own = refl;
            only = λ serial has. up.takes.addressed.inbound.only serial (subst (λ (k : ℕ). HasInbound was.table.pairs k serial) up.takes.addressed.inbound.its_own has);
          };
          number_is = up.takes.judged.number;
          in_reach = up.takes.judged.in_reach;
          new = up.takes.judged.new;
        } in
        let handed = carry.handed near.table near.table_after was.table at.takes.gateway.table _ sealed.packet up.octets other.serial number near.pair pair (traffic.Up child.serial number packet)
        near.stood near.sends both at.takes.sound.table due up.receives in
        let packet_is : packet ≡ sealed.packet = one_packet child.serial pair.serial number number packet sealed.packet handed in
        let protects = near.sends in
        record {
          other = other;
          there = sealed.there;
          of_one = of_one;
          octets = up.octets;
          sent = subst (λ (s : Simplex). Contains last.stored.sent (datagram_of other.end (mark.Esp s number) up.octets)) (sym sealed.by_is)
              (subst (λ (x : End). Contains last.stored.sent (datagram_of x (mark.Esp sent.by number) up.octets)) (sym sealed.end_is) sent.sent);
          came = up.given;
          next = up.receives.next;
          carried = subst (λ (p : Octets). IsContents up.octets up.receives.next p) (sym up.receives.verdict_is.0) up.receives.opened.opened.contents;
          flow = protects.flow;
          protected = subst (λ (x : End). IsDecided (gateway_at x last).entries direction.Outward packet protects.flow action.Protect) (sym sealed.end_is)
              (subst (λ (p : Octets). IsDecided (gateway_at (other_end child.end) last).entries direction.Outward p protects.flow action.Protect) (sym packet_is) protects.decided);
          covered = covered_by other near.pair protects.flow near.stored_of
              (subst (λ (p : Pair). Covers p.local p.remote protects.flow) (some_is _ near.pair (sym protects.protects.carrier.carries.there ∙ near.stood)) protects.protects.carrier.carries.covered);
        }

-- ---- no number twice

-- one more, where both ends are one
abbrev pub one_more : End → End → ℕ → ℕ
one_more A A count = suc count
one_more B B count = suc count
one_more A B count = count
one_more B A count = count

-- how many events of this end stand before a place
abbrev pub count_at : {C : Type 0} → End → List (Happening C) → ℕ → ℕ
count_at {C} end [] place = 0
count_at {C} end (h ∷ hs) zero = 0
count_at {C} end (h ∷ hs) (suc place) = one_more end h.event.end (count_at end hs place)

first_of : {X : Type 0} (one other : End) → one ≡ other → (x : X) (xs : List X) → slice_get (if_at one other x xs) 0 ≡ Some x
first_of {X} A A same x xs = refl
first_of {X} B B same x xs = refl
first_of {X} A B same x xs = absurd cc
first_of {X} B A same x xs = absurd cc

later_of : {X : Type 0} (one other : End) (x : X) (xs : List X) (k : ℕ) → slice_get (if_at one other x xs) (one_more one other k) ≡ slice_get xs k
later_of {X} A A x xs k = refl
later_of {X} B B x xs k = refl
later_of {X} A B x xs k = refl
later_of {X} B A x xs k = refl

counted : (one other : End) → one ≡ other → (k : ℕ) → one_more one other k ≡ suc k
counted A A same k = refl
counted B B same k = refl
counted A B same k = absurd cc
counted B A same k = absurd cc

one_less : (one other : End) (j k : ℕ) → one_more one other j ≡ one_more one other k → j ≡ k
one_less A A j k same = omega (arith, same)
one_less B B j k same = omega (arith, same)
one_less A B j k same = same
one_less B A j k same = same

passage_there : {C : Type 0} (end : End) (hs : List (Happening C)) (place : ℕ) (h : Happening C) → slice_get hs place ≡ Some h → end ≡ h.event.end
    → slice_get (passages_at end hs) (count_at end hs place) ≡ Some (passage_at end h)
passage_there {C} end [] place h there own = absurd cc
passage_there {C} end (g ∷ hs) zero h there own =
    let same : g ≡ h = some_is g h there in
    first_of end g.event.end (own ∙ ap (λ (x : Happening C). x.event.end) (sym same)) (passage_at end g) (passages_at end hs) ∙ ap (λ (x : Happening C). Some (passage_at end x)) same
passage_there {C} end (g ∷ hs) (suc place) h there own =
    later_of end g.event.end (passage_at end g) (passages_at end hs) (count_at end hs place) ∙ passage_there end hs place h there own

same_place : {C : Type 0} (end : End) (hs : List (Happening C)) (place other : ℕ) (h g : Happening C) → slice_get hs place ≡ Some h → slice_get hs other ≡ Some g → end ≡ h.event.end → end ≡ g.event.end
    → count_at end hs place ≡ count_at end hs other → place ≡ other
same_place {C} end [] place other h g there too own also as_many = absurd cc
same_place {C} end (x ∷ hs) zero zero h g there too own also as_many = refl
same_place {C} end (x ∷ hs) zero (suc other) h g there too own also as_many =
    let one = counted end x.event.end (own ∙ ap (λ (y : Happening C). y.event.end) (sym (some_is x h there))) (count_at end hs other) in
    absurd (omega (arith, as_many, one))
same_place {C} end (x ∷ hs) (suc place) zero h g there too own also as_many =
    let one = counted end x.event.end (also ∙ ap (λ (y : Happening C). y.event.end) (sym (some_is x g too))) (count_at end hs place) in
    absurd (omega (arith, as_many, one))
same_place {C} end (x ∷ hs) (suc place) (suc other) h g there too own also as_many =
    ap suc (same_place end hs place other h g there too own also (one_less end x.event.end (count_at end hs place) (count_at end hs other) as_many))

-- ---- all of it

module _ {C : Type 0} (turns : TurnLaws) (kin : ChildLaws) (mirrors : MirrorLaws) (laws : PairLaws) (carry : CarryLaws) (meaning_of : C → Meaning) (body_of : Keys → Octets → Octets → Octets → Octets) (plain_of : Opening)
    (shares : ShareCipher meaning_of body_of plain_of) (opens : OpensToItself body_of plain_of) (hs : List (Happening C)) (old new : WorldState C) (trail : IsWorldTrail meaning_of old hs new) (sound : StaysSound meaning_of hs old new)
    (windows : (keys : KeyRecord) → IsSoundUnder keys old → AccountsForWindows body_of plain_of keys old old.stored → IsUnforged meaning_of keys hs new.stored → IsNeverMadeTwice keys new.stored → AccountsForWindows body_of plain_of keys new new.stored)
    (fit : (keys : KeyRecord) → AccountsForWindows body_of plain_of keys new new.stored → WindowsFit keys new) where
  stays_so : (keys : KeyRecord) → IsWhollySound body_of plain_of keys old → IsUnforged meaning_of keys hs new.stored → IsNeverMadeTwice keys new.stored → IsWhollySound body_of plain_of keys new
  stays_so keys known unforged once = record {
    sound = sound.stays keys known.sound unforged once;
    windows = windows keys known.sound known.windows unforged once;
    children = known_trail turns kin meaning_of body_of plain_of shares keys hs old new trail unforged (later_known body_of plain_of old.stored new.stored (trail_later meaning_of hs old new trail) keys old known.children);
    pairs = accounts_trail laws meaning_of hs old new trail known.pairs;
  }

  agree_so : (keys : KeyRecord) → IsWhollySound body_of plain_of keys old → IsUnforged meaning_of keys hs new.stored → IsNeverMadeTwice keys new.stored → ChildrenAgree keys hs new
  agree_so keys known unforged once =
      let now = stays_so keys known unforged once in
      let mirror : ChildrenMirror keys new = children_mirror mirrors body_of plain_of opens keys new (sound.agree keys now.sound) now.children in
      record {
        mirror = mirror;
        held = held_mirror keys new new (later_same new.stored new.stored refl) now.pairs mirror;
        held_then = λ place h there.
            let at = event_at laws meaning_of hs old new place h trail known.pairs there in
            held_mirror keys h.after new at.later (accounts_after laws meaning_of h at.takes at.accounts) mirror;
        carried = λ child there under unforged_to alone place number packet h at_place end said.
            let at = event_at laws meaning_of hs old new place h trail known.pairs at_place in
            carried_over laws carry meaning_of h new at new now.pairs (event_later meaning_of h new.stored at.takes at.later) child there end number packet said
            (λ octets judged. unforged_to place number octets h at_place judged) alone
            (λ other stands of_one. both_ways child other there stands under of_one mirror);
      } where
        both_ways : (child other : Child) → Contains new.stored.children child → Contains new.stored.children other → child.keys ≡ keys → AreEndsOfOneChild child other → ChildrenMirror keys new → MirrorEachOther child other
        both_ways child other first second under (inl one) mirror = mirror child other first second under one
        both_ways child other first second under (inr one) mirror =
            let is = mirror other child second first (sym one.keys ∙ under) one in
            record {
              inward = sym is.outward;
              outward = sym is.inward;
              extension = sym (ap (λ (s : Simplex). s.extended) is.outward) ∙ sym is.extension ∙ ap (λ (s : Simplex). s.extended) is.inward;
              local = sym is.remote;
              remote = sym is.local;
            }

  packets_at : (end : End) → PacketsAreDelivered (passages_at end hs)
  packets_at end = packets_kept laws.deliveries meaning_of (gateway_at end old) (gateway_at end new) (passages_at end hs) (trail_at meaning_of end hs old new trail)

  once_so : (place other serial number : ℕ) (one two : Octets) (h g : Happening C) → slice_get hs place ≡ Some h → slice_get hs other ≡ Some g → h.event.end ≡ g.event.end
      → h.said ≡ Up serial number one → g.said ≡ Up serial number two → place ≡ other
  once_so place other serial number one two h g first second ends said also =
      let end = h.event.end in
      let at_first = passage_there end hs place h first refl in
      let at_second = passage_there end hs other g second ends in
      let packets = packets_at end in
      same_place end hs place other h g first second refl ends
      (packets.once (count_at end hs place) (count_at end hs other) serial number (passage_at end h) (passage_at end g) at_first at_second
      (packets.up (count_at end hs place) serial number one (passage_at end h) at_first said)
      (packets.up (count_at end hs other) serial number two (passage_at end g) at_second also))

  pub both_ends_promises : HoldOneRecord hs new → PromisesOfBothEnds body_of plain_of meaning_of hs old new
  both_ends_promises one_record = record {
    stays = stays_so;
    windows = λ keys known. fit keys known.windows;
    agree = agree_so;
    pairs = λ known place h there. let at = event_at laws meaning_of hs old new place h trail known there in accounts_after laws meaning_of h at.takes at.accounts;
    stored = λ known place serial number packet h there said. up_stored laws carry meaning_of h new (event_at laws meaning_of hs old new place h trail known there) serial number packet said;
    once = once_so;
    one_record = one_record;
  }

-- ---- a new world

no_pair : {C : Type 0} (s : State C) (serial : ℕ) (pair : Pair) → HoldsNothing s → IsSoundTable s.table → pair_at s.table.pairs serial ≡ Some pair → ⊥
no_pair {C} s serial pair none sound there =
    let given = sound.spi_given serial pair.inbound.association.spi (record { pair = pair; there = there; its_own = refl }) in
    let nothing = none.given in
    absurd (omega (arith, given.from_start, given.before_next, nothing))

pub new_wholly_sound : {C : Type 0} (body_of : Keys → Octets → Octets → Octets → Octets) (plain_of : Opening) (keys : KeyRecord) (a b : State C) → HoldsNothing a → HoldsNothing b → IsSoundState a → IsSoundState b
    → IsSoundUnder keys (new_world a b) → IsWhollySound body_of plain_of keys (new_world a b)
new_wholly_sound {C} body_of plain_of keys a b first second one other sound = record {
  sound = sound;
  windows = record {
    least = least;
    tells = λ end response number octets sent. absurd (none_there (datagram_of end (mark.Ike keys response number) octets) sent);
    counts = λ end x holds. absurd (none_held end x holds);
  };
  children = record {
    asks = λ end x holds. absurd (none_held end x holds);
    made = λ child there under. absurd (none_there child there);
  };
  pairs = record {
    stored = λ end serial pair there. absurd (none_stands end serial pair there);
    same = λ child pair there held. absurd (none_there child there);
    given = λ child there. absurd (none_there child there);
    alone = λ x y there too ends serials. absurd (none_there x there);
    sealed = λ end by number octets sent. absurd (none_there (datagram_of end (mark.Esp by number) octets) sent);
  };
} where
  none_of : (s : State C) (x : Association) (serial : ℕ) → HoldsNothing s → association_in s serial ≡ Some x → ⊥
  none_of s x serial none there = none_some x (sym (ap (λ (xs : List Association). association_of serial xs) none.associations) ∙ there)

  none_held : (end : End) (x : Association) → HoldsUnder keys end (new_world a b) x → ⊥
  none_held A x holds = none_of a x holds.serial first holds.there
  none_held B x holds = none_of b x holds.serial second holds.there

  none_stands : (end : End) (serial : ℕ) (pair : Pair) → pair_at (gateway_at end (new_world a b)).table.pairs serial ≡ Some pair → ⊥
  none_stands A serial pair there = no_pair a serial pair first one.table there
  none_stands B serial pair there = no_pair b serial pair second other.table there

  least : (end : End) → 1 ≤ window_at end (new_world a b)
  least A = one.machine.config.window.least
  least B = other.machine.config.window.least

-- ---- a run

pub keeps_both_ends : {C : Type 0} (meaning_of : C → Meaning) (body_of : Keys → Octets → Octets → Octets → Octets) (plain_of : Opening)
    → ((hs : List (Happening C)) (old new : WorldState C) → IsWorldTrail meaning_of old hs new → PromisesOfBothEnds body_of plain_of meaning_of hs old new)
    → (count : ℕ) (events : List Event) (old : WorldState C) (before outputs : List Output) (new : WorldState C) (after : List Output) → after ≡ before ++ outputs
    → Runs (HappensAs meaning_of) (take count events) outputs old new → KeepsBothEnds body_of plain_of meaning_of events old before new after
keeps_both_ends {C} meaning_of body_of plain_of law count events old before outputs new after appended run =
    let told = world_told meaning_of (take count events) outputs old new run in
    record {
      count = count;
      outputs = outputs;
      appended = appended;
      happenings = told.happenings;
      history = told.history;
      each = λ others history. law others old new history.trail;
      origin = λ others history. record {
        each = λ keys child place number packet h sound there unforged end said.
            sealed_before body_of plain_of meaning_of law keys child old new others place number packet h history.trail sound there unforged end said;
      };
    }

-- ---- calls in a row

pub calls_keep_both_ends : {C : Type 0} (meaning_of : C → Meaning) (body_of : Keys → Octets → Octets → Octets → Octets) (plain_of : Opening)
    → ((hs : List (Happening C)) (old new : WorldState C) → IsWorldTrail meaning_of old hs new → PromisesOfBothEnds body_of plain_of meaning_of hs old new)
    → (lists : List (List Event)) (outputs : List (List Output)) (old new : WorldState C) → Runs (CallsWorldAs meaning_of) lists outputs old new
    → KeepsBothEnds body_of plain_of meaning_of (flat_map (λ (events : List Event). events) lists) old [] new (flat_map (λ (list : List Output). list) outputs)
calls_keep_both_ends {C} meaning_of body_of plain_of law lists outputs old new calls =
    let events : List Event = flat_map (λ (es : List Event). es) lists in
    let said : List Output = flat_map (λ (list : List Output). list) outputs in
    keeps_both_ends meaning_of body_of plain_of law (length events) events old [] said new said refl
    (subst (λ (es : List Event). Runs (HappensAs meaning_of) es said old new) (sym (take-length events)) (world_calls_joined meaning_of lists outputs old new calls))
