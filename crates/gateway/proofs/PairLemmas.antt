-- An event keeps what a world knows of its pairs.
use Rattle.std.proofs.Common.{◌≡◌, ◌⊎◌, ◌<◌, ◌≤◌, ℕ, List, [], ◌∷◌, Option, Some, None, IsSome, Contains, map, inl, inr, refl, sym, ap, subst, ◌∙◌, arith}
use Rattle.std.specs.Option.{option_to_list}
use Rattle.std.proofs.lemmas.List.Elements.{Contains-append_cases, Contains-append_left, Contains-append_right}
use Rattle.base.specs.Octets.{Octets}
use Rattle.policy.specs.declared.entry.Entry.{Entry}
use Rattle.suite.specs.declared.key_record.KeyRecord.{KeyRecord}
use Rattle.flows.specs.Staying.{NoneComes}
use Rattle.sadb.specs.Database.{pair_at, Database, IsSoundTable}
use Rattle.sadb.specs.Following.{Follows}
use Rattle.sadb.specs.declared.pair.Pair.{Pair}
use Rattle.effects.specs.Taking.{Meaning}
use Rattle.ike.specs.Machines.{keys_of_serial, Machine}
use Rattle.ike.specs.Soundness.{IsSoundMachine}
use Rattle.ike.specs.Steps as ike
use Rattle.ike.specs.Orders as orders
use Rattle.ike.specs.declared.output.IkeOutput.{IkeOutput}
use Rattle.ike.specs.declared.output.IkeOutput.TheVariants as output
use Rattle.ike.specs.declared.output.MadeChild.{MadeChild}
use Rattle.ike.specs.declared.output.Mark as marks
use Rattle.ike.specs.declared.output.Stepped.{Stepped}
use Rattle.ike.specs.declared.output.Trace.{Trace}
use Rattle.traffic.specs.Admitting.{Admits}
use Rattle.traffic.specs.Outcomes.{Outcome}
use Rattle.traffic.specs.Outcomes as traffic
use Rattle.traffic.specs.Receiving.{Receives}
use Rattle.traffic.specs.Sending.{Sends}
use Rattle.gateway.specs.Inputs.{Input}
use Rattle.gateway.specs.Inputs as input
use Rattle.gateway.specs.Outputs.{view_of_ike, view_of_outcome, OutputView, Refused, Repeat, Reply, Request, Sealed}
use Rattle.gateway.specs.States.{State}
use Rattle.gateway.specs.Steps.{DoesInput, SendsPacket, StepsIke}
use Rattle.gateway.specs.WorldChildren.{IsStoredOf}
use Rattle.gateway.specs.WorldHistories.{Happening}
use Rattle.gateway.specs.WorldPackets.{AccountsForPairs, HasStored, HoldsPairOf, HoldsSomePairOf, WasSealedAt}
use Rattle.gateway.specs.Worlds.{again_as, child_by, child_with, datagram_of, esp_mark, gateway_at, ike_mark, mark_by, mark_under, other_end, requests_in, sent_by, sent_once, simplex_of, storing, Stored, TakesEvent, WorldState}
use Rattle.gateway.specs.declared.fault.Reason.{Reason}
use Rattle.gateway.specs.declared.fault.Reason.TheVariants as reason
use Rattle.gateway.specs.declared.world.stored.Child.{Child}
use Rattle.gateway.specs.declared.world.stored.Datagram.{Datagram}
use Rattle.gateway.specs.declared.world.stored.End.{End}
use Rattle.gateway.specs.declared.world.stored.End.TheVariants.{A, B}
use Rattle.gateway.specs.declared.world.stored.Protection.TheVariants as mark
use Rattle.gateway.specs.declared.world.stored.Simplex.{Simplex}
use Rattle.gateway.proofs.ChildLemmas.{child_there, gateway_here, gateway_there}
use Rattle.gateway.proofs.DeliveryLemmas.{ike_windows, DeliveryFacts}
use Rattle.gateway.proofs.PartyLemmas.{at_head, from_map, none_some, none_there, single, some_is}
use Rattle.gateway.proofs.SoundWorldLemmas.{each_end}
use Rattle.gateway.proofs.ToldLemmas.{child_stored, TraceLaw}
use Rattle.gateway.proofs.WorldLemmas.{stored_at}

-- what is known of tables
pub record PairLaws : Type 0 where
  pub traces : TraceLaw
  pub deliveries : DeliveryFacts
  pub received : (old new : Database) (packet : Octets) (outcome : Outcome) → IsSoundTable old → Receives old packet outcome new → Follows old new
  pub sent : (old new : Database) (policy : List Entry) (packet : Octets) (outcome : Outcome) → IsSoundTable old → Sends old policy packet outcome new → Follows old new
  pub none_received : (old new : Database) (packet : Octets) (outcome : Outcome) → Receives old packet outcome new → NoneComes old.pairs new.pairs
  pub none_sent : (old new : Database) (policy : List Entry) (packet : Octets) (outcome : Outcome) → Sends old policy packet outcome new → NoneComes old.pairs new.pairs

-- ---- what a step leaves of a table's pairs

-- the SA pair stood before, with the same SAs and selectors
record StoodSo (old : Database) (serial : ℕ) (pair : Pair) : Type 0 where
  was : Pair
  there : pair_at old.pairs serial ≡ Some was
  inbound : pair.inbound.association ≡ was.inbound.association
  outbound : pair.outbound.association ≡ was.outbound.association
  local : pair.local ≡ was.local
  remote : pair.remote ≡ was.remote

-- or it came, and the trace names it
record CameNow (old : Database) (child : Option MadeChild) (serial : ℕ) : Type 0 where
  made : MadeChild
  named : child ≡ Some made
  serial_is : made.serial ≡ serial
  in_order : made.serial ≡ old.next

record LeavesPairs (old : Database) (child : Option MadeChild) (new : Database) : Type 0 where
  next : old.next ≤ new.next
  named : (made : MadeChild) → child ≡ Some made → made.serial ≡ old.next
  each : (serial : ℕ) (pair : Pair) → pair_at new.pairs serial ≡ Some pair → StoodSo old serial pair ⊎ CameNow old child serial

stood_same : (old new : Database) (serial : ℕ) (pair : Pair) → new.pairs ≡ old.pairs → pair_at new.pairs serial ≡ Some pair → StoodSo old serial pair
stood_same old new serial pair same there =
    record { was = pair; there = ap (λ p. pair_at p serial) (sym same) ∙ there; inbound = refl; outbound = refl; local = refl; remote = refl }

unnamed : (old : Database) (child : Option MadeChild) → child ≡ None → (made : MadeChild) → child ≡ Some made → made.serial ≡ old.next
unnamed old child none made is = absurd (none_some made (sym none ∙ is))

leaves_same : (old new : Database) (child : Option MadeChild) → child ≡ None → new.next ≡ old.next → new.pairs ≡ old.pairs → LeavesPairs old child new
leaves_same old new child none next same = record { next = omega (arith, next); named = unnamed old child none; each = λ serial pair there. inl (stood_same old new serial pair same there) }

leaves_following : (old new : Database) (child : Option MadeChild) → child ≡ None → IsSoundTable old → Follows old new → NoneComes old.pairs new.pairs → LeavesPairs old child new
leaves_following old new child unmade sound follows none = record {
  next = follows.next;
  named = unnamed old child unmade;
  each = λ serial pair there.
      let was = none serial pair there in
      let given = sound.serial_given serial was.was was.there in
      let same = follows.old_pairs serial pair there given.1 in
      inl (record { was = same.was; there = same.there; inbound = same.same.inbound; outbound = same.same.outbound; local = same.same.local; remote = same.same.remote });
}

module _ (laws : PairLaws) where
  traced_pairs : (meaning : Meaning) (entries : List Entry) (view : ike.InputView) (old : Machine) (table : Database) (stepped : Stepped) (new : Machine) (new_table : Database)
      → IsSoundTable table → IsSoundMachine old table → ike.Steps meaning entries view old table stepped new new_table → LeavesPairs table stepped.trace.child new_table
  traced_pairs meaning entries view old table stepped new new_table st sm steps =
      let traced = laws.traces.traced meaning entries view old table stepped new new_table st sm steps in
      record {
        next = (ike_windows laws.deliveries meaning entries view old table stepped new new_table st steps).next;
        named = λ made named. (traced.child made named).in_order;
        each = λ serial pair there. elim (traced.pairs serial pair there) [
          | inl same ↦ inl (record { was = pair; there = same; inbound = refl; outbound = refl; local = refl; remote = refl })
          | inr (inl names) ↦ inr (record { made = names.made; named = names.named; serial_is = names.same; in_order = (traced.child names.made names.named).in_order })
          | inr (inr became) ↦ inl (record {
            was = became.was;
            there = became.stood;
            inbound = ap (λ (p : Pair). p.inbound.association) became.is;
            outbound = ap (λ (p : Pair). p.outbound.association) became.is;
            local = ap (λ (p : Pair). p.local) became.is;
            remote = ap (λ (p : Pair). p.remote) became.is;
          })
        ];
      }

  ike_pairs : (meaning : Meaning) (entries : List Entry) (view : ike.InputView) (old : Machine) (table : Database) (s : OutputView) (trace : Trace) (new : Machine) (new_table : Database)
      → IsSoundTable table → IsSoundMachine old table → StepsIke meaning entries view old table s trace new new_table → LeavesPairs table trace.child new_table
  ike_pairs meaning entries view old table s trace new new_table st sm (inl is) =
      subst (λ (t : Trace). LeavesPairs table t.child new_table) (sym is.traced) (traced_pairs meaning entries view old table is.stepped new new_table st sm is.steps)
  ike_pairs meaning entries view old table s trace new new_table st sm (inr is) =
      leaves_same table new_table trace.child (ap (λ (t : Trace). t.child) is.traced) (ap (λ (d : Database). d.next) is.pairs.content) (ap (λ (d : Database). d.pairs) is.pairs.content)

  sends_pairs : (entries : List Entry) (table : Database) (packet : Octets) (s : OutputView) (child : Option MadeChild) (new_table : Database) → child ≡ None → IsSoundTable table → SendsPacket entries table packet s new_table → LeavesPairs table child new_table
  sends_pairs entries table packet s child new_table none st (inl is) =
      leaves_following table new_table child none st (laws.sent table new_table entries packet is.outcome st is.sends) (laws.none_sent table new_table entries packet is.outcome is.sends)
  sends_pairs entries table packet s child new_table none st (inr is) = leaves_same table new_table child none (ap (λ (d : Database). d.next) is.unchanged) (ap (λ (d : Database). d.pairs) is.unchanged)

  step_pairs : (meaning : Meaning) (entries : List Entry) (given : Input) (old : Machine) (table : Database) (s : OutputView) (trace : Trace) (new : Machine) (new_table : Database)
      → IsSoundTable table → IsSoundMachine old table → DoesInput meaning entries given old table s trace new new_table → LeavesPairs table trace.child new_table
  step_pairs meaning entries (input.Ike from octets fresh) old table s trace new new_table st sm is = ike_pairs meaning entries (ike.Message from octets fresh) old table s trace new new_table st sm is
  step_pairs meaning entries (input.Start serial entry fresh) old table s trace new new_table st sm is = ike_pairs meaning entries (ike.Start serial entry fresh) old table s trace new new_table st sm is
  step_pairs meaning entries (input.Probe serial fresh) old table s trace new new_table st sm is = ike_pairs meaning entries (ike.Order (orders.Probe serial) fresh) old table s trace new new_table st sm is
  step_pairs meaning entries (input.DeleteChild serial fresh) old table s trace new new_table st sm is = ike_pairs meaning entries (ike.Order (orders.DeleteChild serial) fresh) old table s trace new new_table st sm is
  step_pairs meaning entries (input.DeleteIke serial fresh) old table s trace new new_table st sm is = ike_pairs meaning entries (ike.Order (orders.DeleteIke serial) fresh) old table s trace new new_table st sm is
  step_pairs meaning entries (input.Secret secret) old table s trace new new_table st sm is = ike_pairs meaning entries (ike.Secret secret) old table s trace new new_table st sm is
  step_pairs meaning entries (input.Tick moment) old table s trace new new_table st sm is = ike_pairs meaning entries (ike.Tick moment) old table s trace new new_table st sm is
  step_pairs meaning entries (input.Esp octets) old table s trace new new_table st sm is =
      leaves_following table new_table trace.child (ap (λ (t : Trace). t.child) is.0.traced) st (laws.received table new_table octets is.1.outcome st is.1.receives) (laws.none_received table new_table octets is.1.outcome is.1.receives)
  step_pairs meaning entries (input.Outward packet) old table s trace new new_table st sm is = sends_pairs entries table packet s trace.child new_table (ap (λ (t : Trace). t.child) is.0.traced) st is.1
  step_pairs meaning entries (input.Inward packet) old table s trace new new_table st sm is =
      leaves_same table new_table trace.child (ap (λ (t : Trace). t.child) is.0.traced) (ap (λ (d : Database). d.next) is.2) (ap (λ (d : Database). d.pairs) is.2)

-- ---- what was sealed

-- the step sealed a packet on its way out
record SealedNow (entries : List Entry) (table : Database) (child number : ℕ) (octets : Octets) (new_table : Database) : Type 0 where
  packet : Octets
  sends : Sends table entries packet (traffic.Sealed child number octets) new_table

ike_never : (o : IkeOutput) (child number : ℕ) (octets : Octets) → view_of_ike o ≡ Sealed child number octets → ⊥
ike_never (output.Reply reply closed) child number octets is = cc
ike_never (output.Repeat reply) child number octets is = cc
ike_never (output.Request serial next) child number octets is = cc
ike_never (output.Counted serial made closed) child number octets is = cc
ike_never (output.Ticked ticked) child number octets is = cc
ike_never output.Done child number octets is = cc
ike_never (output.Dropped why) child number octets is = cc

outcome_sealed : (o : Outcome) (child number : ℕ) (octets : Octets) → view_of_outcome o ≡ Sealed child number octets → o ≡ traffic.Sealed child number octets
outcome_sealed (traffic.Sealed by under packet) child number octets is =
    let by_is : by ≡ child = cc in
    let under_is : under ≡ number = cc in
    let packet_is : packet ≡ octets = cc in
    (λ i. traffic.Sealed (by_is i) (under_is i) (packet_is i))
outcome_sealed (traffic.Up by under packet) child number octets is = absurd cc
outcome_sealed (traffic.Dummy by under) child number octets is = absurd cc
outcome_sealed (traffic.Clear packet) child number octets is = absurd cc
outcome_sealed traffic.Discarded child number octets is = absurd cc
outcome_sealed (traffic.Dropped fault) child number octets is = absurd cc

refused_not : (why : Reason) (child number : ℕ) (octets : Octets) → Refused why ≡ Sealed child number octets → ⊥
refused_not why child number octets is = cc

ike_not : (meaning : Meaning) (entries : List Entry) (view : ike.InputView) (old : Machine) (table : Database) (s : OutputView) (trace : Trace) (new : Machine) (new_table : Database) (child number : ℕ) (octets : Octets)
    → StepsIke meaning entries view old table s trace new new_table → s ≡ Sealed child number octets → SealedNow entries table child number octets new_table
ike_not meaning entries view old table s trace new new_table child number octets (inl is) said = absurd (ike_never is.stepped.output child number octets (sym is.output ∙ said))
ike_not meaning entries view old table s trace new new_table child number octets (inr is) said = absurd (refused_not (reason.Ike is.fault) child number octets (sym is.output ∙ said))

sealed_now : (meaning : Meaning) (entries : List Entry) (given : Input) (old : Machine) (table : Database) (s : OutputView) (trace : Trace) (new : Machine) (new_table : Database) (child number : ℕ) (octets : Octets)
    → DoesInput meaning entries given old table s trace new new_table → s ≡ Sealed child number octets → SealedNow entries table child number octets new_table
sealed_now meaning entries (input.Ike from datagram fresh) old table s trace new new_table child number octets is said = ike_not meaning entries (ike.Message from datagram fresh) old table s trace new new_table child number octets is said
sealed_now meaning entries (input.Start serial entry fresh) old table s trace new new_table child number octets is said = ike_not meaning entries (ike.Start serial entry fresh) old table s trace new new_table child number octets is said
sealed_now meaning entries (input.Probe serial fresh) old table s trace new new_table child number octets is said = ike_not meaning entries (ike.Order (orders.Probe serial) fresh) old table s trace new new_table child number octets is said
sealed_now meaning entries (input.DeleteChild serial fresh) old table s trace new new_table child number octets is said = ike_not meaning entries (ike.Order (orders.DeleteChild serial) fresh) old table s trace new new_table child number octets is said
sealed_now meaning entries (input.DeleteIke serial fresh) old table s trace new new_table child number octets is said = ike_not meaning entries (ike.Order (orders.DeleteIke serial) fresh) old table s trace new new_table child number octets is said
sealed_now meaning entries (input.Secret secret) old table s trace new new_table child number octets is said = ike_not meaning entries (ike.Secret secret) old table s trace new new_table child number octets is said
sealed_now meaning entries (input.Tick moment) old table s trace new new_table child number octets is said = ike_not meaning entries (ike.Tick moment) old table s trace new new_table child number octets is said
sealed_now meaning entries (input.Esp packet) old table s trace new new_table child number octets is said =
    absurd (subst (λ (o : Outcome). Receives table packet o new_table) (outcome_sealed is.1.outcome child number octets (sym is.1.output ∙ said)) is.1.receives)
sealed_now meaning entries (input.Outward packet) old table s trace new new_table child number octets is said = elim is.1 [
  | inl sends ↦ record { packet = packet; sends = subst (λ (o : Outcome). Sends table entries packet o new_table) (outcome_sealed sends.outcome child number octets (sym sends.output ∙ said)) sends.sends }
  | inr lacks ↦ absurd (refused_not reason.Memory child number octets (sym lacks.output ∙ said))
]
sealed_now meaning entries (input.Inward packet) old table s trace new new_table child number octets is said =
    absurd (subst (λ (o : Outcome). Admits entries packet o) (outcome_sealed is.1.outcome child number octets (sym is.1.output ∙ said)) is.1.admits)

-- a datagram marked so is one that the step sealed
record MarkedNow {C : Type 0} (end at : End) (s : OutputView) (gateway : State C) (by : Simplex) (number : ℕ) (octets : Octets) : Type 0 where
  end_is : end ≡ at
  child : ℕ
  said : s ≡ Sealed child number octets
  pair : Pair
  stands : pair_at gateway.table.pairs child ≡ Some pair
  by_is : simplex_of pair.outbound.association ≡ by

never_esp : (m : marks.Mark) (o : Option KeyRecord) (by : Simplex) (number : ℕ) → mark_under m o ≡ mark.Esp by number → ⊥
never_esp m None by number is = cc
never_esp m (Some keys) by number is = cc

ike_never_esp : (machine : Machine) (o : Option marks.Mark) (by : Simplex) (number : ℕ) → ike_mark machine o ≡ mark.Esp by number → ⊥
ike_never_esp machine None by number is = cc
ike_never_esp machine (Some m) by number is = never_esp m (keys_of_serial m.ike machine.held.associations) by number is

not_ike : {C : Type 0} (end at : End) (s : OutputView) (gateway : State C) (by : Simplex) (number : ℕ) (octets sent : Octets) (o : Option marks.Mark)
    → Contains (datagram_of at (ike_mark gateway.machine o) sent ∷ []) (datagram_of end (mark.Esp by number) octets) → MarkedNow end at s gateway by number octets
not_ike {C} end at s gateway by number octets sent o there =
    let same = single (datagram_of at (ike_mark gateway.machine o) sent) (datagram_of end (mark.Esp by number) octets) there in
    absurd (ike_never_esp gateway.machine o by number (ap (λ (d : Datagram). d.mark) same))

record MarkedBy (number : ℕ) (o : Option Pair) (by : Simplex) (under : ℕ) : Type 0 where
  pair : Pair
  is : o ≡ Some pair
  by_is : simplex_of pair.outbound.association ≡ by
  number_is : number ≡ under

marked_by_pair : (number : ℕ) (o : Option Pair) (by : Simplex) (under : ℕ) → mark_by number o ≡ mark.Esp by under → MarkedBy number o by under
marked_by_pair number None by under is = absurd cc
marked_by_pair number (Some pair) by under is = record { pair = pair; is = refl; by_is = cc; number_is = cc }

marked_once : {C : Type 0} (end at : End) (s : OutputView) (sent : Option marks.Mark) (gateway : State C) (by : Simplex) (number : ℕ) (octets : Octets)
    → Contains (sent_once at s sent gateway) (datagram_of end (mark.Esp by number) octets) → MarkedNow end at s gateway by number octets
marked_once {C} end at (Reply reply closed) sent gateway by number octets there = not_ike end at (Reply reply closed) gateway by number octets reply sent there
marked_once {C} end at (Repeat reply) sent gateway by number octets there = not_ike end at (Repeat reply) gateway by number octets reply sent there
marked_once {C} end at (Request serial next) sent gateway by number octets there = not_ike end at (Request serial next) gateway by number octets next sent there
marked_once {C} end at (Sealed child under packet) sent gateway by number octets there =
    let same = single (datagram_of at (esp_mark gateway.table child under) packet) (datagram_of end (mark.Esp by number) octets) there in
    let is = marked_by_pair under (pair_at gateway.table.pairs child) by number (ap (λ (d : Datagram). d.mark) same) in
    let octets_is : packet ≡ octets = ap (λ (d : Datagram). d.octets) same in
    record {
      end_is = sym (ap (λ (d : Datagram). d.end) same);
      child = child;
      said = (λ i. Sealed child (is.number_is i) (octets_is i));
      pair = is.pair;
      stands = is.is;
      by_is = is.by_is;
    }
marked_once {C} end at _ sent gateway by number octets there = absurd (none_there (datagram_of end (mark.Esp by number) octets) there)

marked_now : {C : Type 0} (end at : End) (s : OutputView) (sent : Option marks.Mark) (gateway : State C) (by : Simplex) (number : ℕ) (octets : Octets)
    → Contains (sent_by at s sent gateway) (datagram_of end (mark.Esp by number) octets) → MarkedNow end at s gateway by number octets
marked_now {C} end at s sent gateway by number octets there =
    elim (Contains-append_cases (sent_once at s sent gateway) (map (again_as at gateway.machine) (requests_in s)) (datagram_of end (mark.Esp by number) octets) there) [
      | inl once ↦ marked_once end at s sent gateway by number octets once
      | inr again ↦
          let from = from_map (again_as at gateway.machine) (requests_in s) (datagram_of end (mark.Esp by number) octets) again in
          absurd (ike_never_esp gateway.machine _ by number (ap (λ (d : Datagram). d.mark) from.is))
    ]

-- ---- a Child SA that is stored

record IsShapedSo (end : End) (made : MadeChild) (pair : Option Pair) (child : Child) : Type 0 where
  end_is : child.end ≡ end
  serial_is : child.serial ≡ made.serial
  by : Pair
  stands : pair ≡ Some by
  stored_of : IsStoredOf child by

shaped_so : (end : End) (made : MadeChild) (keys : Option KeyRecord) (pair : Option Pair) (child : Child) → child_with end made keys pair ≡ Some child → IsShapedSo end made pair child
shaped_so end made None pair child is = absurd (none_some child is)
shaped_so end made (Some keys) None child is = absurd (none_some child is)
shaped_so end made (Some keys) (Some by) child is =
    let same = some_is _ child is in
    subst (λ (c : Child). IsShapedSo end made (Some by) c) same
    (record { end_is = refl; serial_is = refl; by = by; stands = refl; stored_of = record { inbound = refl; outbound = refl; local = refl; remote = refl } })

some_child : (o : Option Child) → IsSome o → (child : Child) × (o ≡ Some child)
some_child None is = absurd cc
some_child (Some child) is = (child, refl)

end_cases : (e end : End) → (end ≡ e) ⊎ (end ≡ other_end e)
end_cases A A = inl refl
end_cases B B = inl refl
end_cases A B = inr refl
end_cases B A = inr refl

apart : (e : End) → e ≡ other_end e → ⊥
apart A is = cc
apart B is = cc

still_of : (child : Child) (was pair : Pair) → pair.inbound.association ≡ was.inbound.association → pair.outbound.association ≡ was.outbound.association → pair.local ≡ was.local → pair.remote ≡ was.remote
    → IsStoredOf child was → IsStoredOf child pair
still_of child was pair inbound outbound local remote is = record {
  inbound = is.inbound ∙ ap simplex_of (sym inbound);
  outbound = is.outbound ∙ ap simplex_of (sym outbound);
  local = is.local ∙ sym local;
  remote = is.remote ∙ sym remote;
}

module _ {C : Type 0} (laws : PairLaws) (meaning_of : C → Meaning) (h : Happening C) (t : TakesEvent meaning_of h.event h.before h.said h.after) (known : AccountsForPairs h.before) where
  abbrev e : End
  e = h.event.end

  abbrev was : State C
  was = gateway_at e h.before

  abbrev meaning : Meaning
  meaning = meaning_of was.caller

  abbrev now : Stored
  now = storing e h.said t.trace t.gateway h.before.stored

  here : gateway_at e h.after ≡ t.gateway
  here = ap (λ (w : WorldState C). gateway_at e w) t.content ∙ gateway_here e t.gateway now h.before

  there : gateway_at (other_end e) h.after ≡ gateway_at (other_end e) h.before
  there = ap (λ (w : WorldState C). gateway_at (other_end e) w) t.content ∙ gateway_there e t.gateway now h.before

  stored_now : h.after.stored ≡ now
  stored_now = ap (λ (w : WorldState C). w.stored) t.content ∙ stored_at e t.gateway now h.before

  leaves : LeavesPairs was.table t.trace.child t.gateway.table
  leaves = step_pairs laws meaning was.entries h.event.input was.machine was.table h.said t.trace t.gateway.machine t.gateway.table t.sound.table t.sound.machine t.traces.does

  -- what was stored, and the Child SA of this step
  abbrev IsNew : Child → Type 0
  IsNew child = child_by e t.trace.child t.gateway ≡ Some child

  old_child : (child : Child) → Contains h.before.stored.children child → Contains h.after.stored.children child
  old_child child stood =
      subst (λ (s : Stored). Contains s.children child) (sym stored_now) (Contains-append_left h.before.stored.children (option_to_list (child_by e t.trace.child t.gateway)) child stood)

  cases : (child : Child) → Contains h.after.stored.children child → Contains h.before.stored.children child ⊎ IsNew child
  cases child stands = elim (Contains-append_cases h.before.stored.children (option_to_list (child_by e t.trace.child t.gateway)) child (subst (λ (s : Stored). Contains s.children child) stored_now stands)) [
    | inl old ↦ inl old
    | inr new ↦ inr (child_there child (child_by e t.trace.child t.gateway) new)
  ]

  record IsNewSo (child : Child) : Type 0 where
    made : MadeChild
    named : t.trace.child ≡ Some made
    shaped : IsShapedSo e made (pair_at t.gateway.table.pairs made.serial) child

  new_so : (child : Child) → IsNew child → IsNewSo child
  new_so child is = of t.trace.child refl is where
    of : (o : Option MadeChild) → t.trace.child ≡ o → child_by e o t.gateway ≡ Some child → IsNewSo child
    of None named is = absurd (none_some child is)
    of (Some made) named is = record {
      made = made;
      named = named;
      shaped = shaped_so e made (keys_of_serial made.ike t.gateway.machine.held.associations) (pair_at t.gateway.table.pairs made.serial) child is;
    }

  -- a Child SA that was stored of this end has a serial that was given
  given_before : (child : Child) → Contains h.before.stored.children child → child.end ≡ e → child.serial < was.table.next
  given_before child stood end = elim (known.given child stood) [
    | inl less ↦ subst (λ (x : End). child.serial < (gateway_at x h.before).table.next) end less
    | inr holds ↦ (t.sound.table.serial_given child.serial holds.pair (subst (λ (x : End). pair_at (gateway_at x h.before).table.pairs child.serial ≡ Some holds.pair) end holds.held)).1
  ]

  -- the Child SA of this step has the next one
  new_serial : (child : Child) → IsNewSo child → child.serial ≡ was.table.next
  new_serial child is = is.shaped.serial_is ∙ leaves.named is.made is.named

  new_not_old : (one other : Child) → Contains h.before.stored.children one → one.end ≡ e → IsNewSo other → one.serial ≡ other.serial → ⊥
  new_not_old one other stood end is same = (
      let less = given_before one stood end in
      let next = new_serial other is in
      absurd (omega (arith, less, next, same)))

  -- ---- of each pair a Child SA is stored

  more_stored : (end : End) (serial : ℕ) → HasStored end serial h.before.stored → HasStored end serial h.after.stored
  more_stored end serial is = record { child = is.child; there = old_child is.child is.there; end_is = is.end_is; serial_is = is.serial_is }

  new_stored : (made : MadeChild) → t.trace.child ≡ Some made → HasStored e made.serial h.after.stored
  new_stored made named =
      let found = some_child (child_by e t.trace.child t.gateway) (child_stored laws.traces meaning h.event.input h.said t.trace e made was t.gateway t.sound.table t.sound.machine t.traces named) in
      let is = new_so found.0 found.1 in
      let same : is.made ≡ made = some_is is.made made (sym is.named ∙ named) in
      record {
        child = found.0;
        there = subst (λ (s : Stored). Contains s.children found.0) (sym stored_now)
            (Contains-append_right h.before.stored.children (option_to_list (child_by e t.trace.child t.gateway)) found.0
            (subst (λ (o : Option Child). Contains (option_to_list o) found.0) (sym found.1) (at_head found.0 [])));
        end_is = is.shaped.end_is;
        serial_is = is.shaped.serial_is ∙ ap (λ (m : MadeChild). m.serial) same;
      }

  stored_here : (serial : ℕ) (pair : Pair) → pair_at (gateway_at e h.after).table.pairs serial ≡ Some pair → HasStored e serial h.after.stored
  stored_here serial pair stands = elim (leaves.each serial pair (subst (λ (s : State C). pair_at s.table.pairs serial ≡ Some pair) here stands)) [
    | inl stood ↦ more_stored e serial (known.stored e serial stood.was stood.there)
    | inr came ↦ subst (λ (k : ℕ). HasStored e k h.after.stored) came.serial_is (new_stored came.made came.named)
  ]

  stored_there : (serial : ℕ) (pair : Pair) → pair_at (gateway_at (other_end e) h.after).table.pairs serial ≡ Some pair → HasStored (other_end e) serial h.after.stored
  stored_there serial pair stands =
      more_stored (other_end e) serial (known.stored (other_end e) serial pair (subst (λ (s : State C). pair_at s.table.pairs serial ≡ Some pair) there stands))

  -- ---- it has the pair's SPIs, keys and selectors

  same_old : (child : Child) (pair : Pair) → Contains h.before.stored.children child → HoldsPairOf child pair h.after → IsStoredOf child pair
  same_old child pair stood stands = elim (end_cases e child.end) [
    | inl own ↦ elim (leaves.each child.serial pair (subst (λ (s : State C). pair_at s.table.pairs child.serial ≡ Some pair) here (subst (λ (x : End). pair_at (gateway_at x h.after).table.pairs child.serial ≡ Some pair) own stands))) [
      | inl before ↦ still_of child before.was pair before.inbound before.outbound before.local before.remote
          (known.same child before.was stood (subst (λ (x : End). pair_at (gateway_at x h.before).table.pairs child.serial ≡ Some before.was) (sym own) before.there))
      | inr came ↦ absurd (
          let less = given_before child stood own in
          omega (arith, less, came.in_order, came.serial_is))
    ]
    | inr other ↦ known.same child pair stood
        (subst (λ (x : End). pair_at (gateway_at x h.before).table.pairs child.serial ≡ Some pair) (sym other)
        (subst (λ (s : State C). pair_at s.table.pairs child.serial ≡ Some pair) there (subst (λ (x : End). pair_at (gateway_at x h.after).table.pairs child.serial ≡ Some pair) other stands)))
  ]

  stands_new : (child : Child) (pair : Pair) → (is : IsNewSo child) → HoldsPairOf child pair h.after → pair_at t.gateway.table.pairs is.made.serial ≡ Some pair
  stands_new child pair is stands =
      subst (λ (k : ℕ). pair_at t.gateway.table.pairs k ≡ Some pair) is.shaped.serial_is
      (subst (λ (s : State C). pair_at s.table.pairs child.serial ≡ Some pair) here (subst (λ (x : End). pair_at (gateway_at x h.after).table.pairs child.serial ≡ Some pair) is.shaped.end_is stands))

  same_new : (child : Child) (pair : Pair) → IsNewSo child → HoldsPairOf child pair h.after → IsStoredOf child pair
  same_new child pair is stands =
      subst (λ (p : Pair). IsStoredOf child p) (some_is is.shaped.by pair (sym is.shaped.stands ∙ stands_new child pair is stands)) is.shaped.stored_of

  same_after : (child : Child) (pair : Pair) → Contains h.after.stored.children child → HoldsPairOf child pair h.after → IsStoredOf child pair
  same_after child pair stands held = elim (cases child stands) [
    | inl old ↦ same_old child pair old held
    | inr new ↦ same_new child pair (new_so child new) held
  ]

  -- ---- its serial was given

  abbrev IsGiven : Child → Type 0
  IsGiven child = (child.serial < (gateway_at child.end h.after).table.next) ⊎ HoldsSomePairOf child h.after

  given_old : (child : Child) → Contains h.before.stored.children child → IsGiven child
  given_old child stood = elim (end_cases e child.end) [
    | inl own ↦ inl (
        let less = given_before child stood own in
        let up = leaves.next in
        let later : child.serial < t.gateway.table.next = omega (arith, less, up) in
        subst (λ (x : End). child.serial < (gateway_at x h.after).table.next) (sym own) (subst (λ (s : State C). child.serial < s.table.next) (sym here) later))
    | inr other ↦ elim (known.given child stood) [
      | inl less ↦ inl (subst (λ (x : End). child.serial < (gateway_at x h.after).table.next) (sym other)
          (subst (λ (s : State C). child.serial < s.table.next) (sym there) (subst (λ (x : End). child.serial < (gateway_at x h.before).table.next) other less)))
      | inr holds ↦ inr (record {
        pair = holds.pair;
        held = subst (λ (x : End). pair_at (gateway_at x h.after).table.pairs child.serial ≡ Some holds.pair) (sym other)
            (subst (λ (s : State C). pair_at s.table.pairs child.serial ≡ Some holds.pair) (sym there)
            (subst (λ (x : End). pair_at (gateway_at x h.before).table.pairs child.serial ≡ Some holds.pair) other holds.held));
      })
    ]
  ]

  given_new : (child : Child) → IsNewSo child → IsGiven child
  given_new child is = inr (record {
    pair = is.shaped.by;
    held = subst (λ (x : End). pair_at (gateway_at x h.after).table.pairs child.serial ≡ Some is.shaped.by) (sym is.shaped.end_is)
        (subst (λ (s : State C). pair_at s.table.pairs child.serial ≡ Some is.shaped.by) (sym here)
        (subst (λ (k : ℕ). pair_at t.gateway.table.pairs k ≡ Some is.shaped.by) (sym is.shaped.serial_is) is.shaped.stands));
  })

  given_after : (child : Child) → Contains h.after.stored.children child → IsGiven child
  given_after child stands = elim (cases child stands) [ inl old ↦ given_old child old | inr new ↦ given_new child (new_so child new) ]

  -- ---- a serial names one Child SA

  alone_after : (one other : Child) → Contains h.after.stored.children one → Contains h.after.stored.children other → one.end ≡ other.end → one.serial ≡ other.serial → one ≡ other
  alone_after one other first second ends serials = elim (cases one first) [
    | inl old ↦ elim (cases other second) [
      | inl also ↦ known.alone one other old also ends serials
      | inr new ↦ absurd (let is = new_so other new in new_not_old one other old (ends ∙ is.shaped.end_is) is serials)
    ]
    | inr new ↦ elim (cases other second) [
      | inl also ↦ absurd (let is = new_so one new in new_not_old other one also (sym ends ∙ is.shaped.end_is) is (sym serials))
      | inr also ↦ some_is one other (sym new ∙ also)
    ]
  ]

  -- ---- each packet was sealed by a pair of a Child SA

  entries_same : t.gateway.entries ≡ was.entries
  entries_same = ap (λ (s : State C). s.entries) t.traces.kept

  sealed_old : (end : End) (by : Simplex) (number : ℕ) (octets : Octets) → WasSealedAt (gateway_at end h.before).entries end by number octets h.before.stored → WasSealedAt (gateway_at end h.after).entries end by number octets h.after.stored
  sealed_old end by number octets is =
      let policy : (gateway_at end h.before).entries ≡ (gateway_at end h.after).entries =
      each_end (λ x. (gateway_at x h.before).entries ≡ (gateway_at x h.after).entries) e
      (sym entries_same ∙ sym (ap (λ (s : State C). s.entries) here))
      (sym (ap (λ (s : State C). s.entries) there)) end in
      subst (λ (p : List Entry). WasSealedAt p end by number octets h.after.stored) policy
      (record { child = is.child; there = old_child is.child is.there; end_is = is.end_is; by_is = is.by_is; packet = is.packet; sealed = is.sealed })

  sealed_new : (end : End) (by : Simplex) (number : ℕ) (octets : Octets) → MarkedNow end e h.said t.gateway by number octets → WasSealedAt (gateway_at end h.after).entries end by number octets h.after.stored
  sealed_new end by number octets is =
      let sends = sealed_now meaning was.entries h.event.input was.machine was.table h.said t.trace t.gateway.machine t.gateway.table is.child number octets t.traces.does is.said in
      let stood : StoodSo was.table is.child is.pair = elim (leaves.each is.child is.pair is.stands) [
        | inl stood ↦ stood
        | inr came ↦ absurd (
            let carrier = sends.sends.protects.carrier.carries in
            let less = (t.sound.table.serial_given is.child carrier.pair carrier.there).1 in
            omega (arith, less, came.in_order, came.serial_is))
      ] in
      let found = known.stored e is.child stood.was stood.there in
      let own : pair_at (gateway_at found.child.end h.before).table.pairs found.child.serial ≡ Some stood.was =
      subst (λ (x : End). pair_at (gateway_at x h.before).table.pairs found.child.serial ≡ Some stood.was) (sym found.end_is)
      (subst (λ (k : ℕ). pair_at was.table.pairs k ≡ Some stood.was) (sym found.serial_is) stood.there) in
      let of = known.same found.child stood.was found.there own in
      let policy : was.entries ≡ (gateway_at end h.after).entries =
      sym entries_same ∙ sym (ap (λ (s : State C). s.entries) here) ∙ ap (λ (x : End). (gateway_at x h.after).entries) (sym is.end_is) in
      subst (λ (p : List Entry). WasSealedAt p end by number octets h.after.stored) policy (record {
        child = found.child;
        there = old_child found.child found.there;
        end_is = found.end_is ∙ sym is.end_is;
        by_is = of.outbound ∙ ap simplex_of (sym stood.outbound) ∙ is.by_is;
        packet = sends.packet;
        sealed = record {
          table = was.table;
          pair = stood.was;
          stood = subst (λ (k : ℕ). pair_at was.table.pairs k ≡ Some stood.was) (sym found.serial_is) stood.there;
          stored_of = of;
          table_after = t.gateway.table;
          sends = subst (λ (k : ℕ). Sends was.table was.entries sends.packet (traffic.Sealed k number octets) t.gateway.table) (sym found.serial_is) sends.sends;
        };
      })

  sealed_after : (end : End) (by : Simplex) (number : ℕ) (octets : Octets) → Contains h.after.stored.sent (datagram_of end (mark.Esp by number) octets) → WasSealedAt (gateway_at end h.after).entries end by number octets h.after.stored
  sealed_after end by number octets sent =
      elim (Contains-append_cases h.before.stored.sent (sent_by e h.said t.trace.sent t.gateway) (datagram_of end (mark.Esp by number) octets)
      (subst (λ (s : Stored). Contains s.sent (datagram_of end (mark.Esp by number) octets)) stored_now sent)) [
        | inl old ↦ sealed_old end by number octets (known.sealed end by number octets old)
        | inr new ↦ sealed_new end by number octets (marked_now end e h.said t.trace.sent t.gateway by number octets new)
      ]

  pub accounts_after : AccountsForPairs h.after
  accounts_after = record {
    stored = each_end (λ end. (serial : ℕ) (pair : Pair) → pair_at (gateway_at end h.after).table.pairs serial ≡ Some pair → HasStored end serial h.after.stored) e stored_here stored_there;
    same = same_after;
    given = given_after;
    alone = alone_after;
    sealed = sealed_after;
  }
