-- The first packet between two ends of a Child SA: one seals it, and it goes up at the other. So it is
-- whatever other pairs both hold.
use Rattle.std.proofs.Common.{◌≡◌, ◌+◌, ◌%◌, ◌^◌, ◌<◌, inl, inr, ℕ, Bool, false, true, cond, List, [], Some, ap, arith, refl, subst, sym, ◌∙◌}
use Rattle.std.proofs.lemmas.Bool.{eq-eqb, true≢false}
use Rattle.std.proofs.lemmas.Nat.{pow_below}
use Rattle.std.specs.Cmp.{nat_cmp_total, unsigned_tied}
use Rattle.std.specs.FinMap as map
use Rattle.std.specs.FinSet as set
use Rattle.std.specs.Ordering.{nat_cmp}
use Rattle.base.specs.Addresses.{family_of}
use Rattle.base.specs.Octets.{Octets}
use Rattle.replay.specs.Window.{unused_window, IsBlockCount}
use Rattle.esp.specs.Judging.{low_half, IsNumber}
use Rattle.esp.specs.Packet.{number_limit, IsPacket}
use Rattle.esp.specs.Sealing.{HasNumber, Seals}
use Rattle.esp.specs.declared.fault.EspFault.TheVariants.{Exhausted}
use Rattle.esp.proofs.PacketLemmas.{packet_low_half}
use Rattle.exchange.specs.Headers.{other_role}
use Rattle.exchange.specs.declared.headers.Role.{Role}
use Rattle.exchange.specs.declared.headers.Role.TheVariants.{Initiator, Responder}
use Rattle.policy.specs.Decisions.{Covers}
use Rattle.policy.specs.declared.entry.Action.TheVariants.{Protect}
use Rattle.policy.specs.declared.entry.Entry.{Entry}
use Rattle.policy.specs.declared.flow.Flow.{Flow}
use Rattle.policy.specs.declared.policy.Direction.TheVariants.{Outward}
use Rattle.sadb.specs.Database.{pair_at, Database, IsOutbound, IsSoundTable, PairMap, SealsAt}
use Rattle.sadb.specs.Mirrors.{Mirrors}
use Rattle.sadb.specs.declared.pair.Pair.{Pair}
use Rattle.association.specs.declared.phase.Association.{Association}
use Rattle.children.specs.Pairs.{local_of, remote_of}
use Rattle.children.specs.Terms.{Terms}
use Rattle.setup.specs.declared.config.Config.{Config}
use Rattle.effects.specs.Taking.{Meaning}
use Rattle.traffic.specs.Due.{IsDueAtPair}
use Rattle.traffic.specs.NextHeaders.{next_header_of}
use Rattle.traffic.specs.Outcomes.{Outcome}
use Rattle.traffic.specs.Outcomes as traffic
use Rattle.traffic.specs.Receiving.{Receives}
use Rattle.traffic.specs.Sending.{IsDecided, Protects, Sends}
use Rattle.traffic.specs.declared.fault.PacketFault.TheVariants.{Esp, Inner, OutsideSelectors, UnknownAssociation}
use Rattle.gateway.specs.Histories.{IsPassage, Passage}
use Rattle.gateway.specs.Inputs.{Input}
use Rattle.gateway.specs.Inputs as input
use Rattle.gateway.specs.LawsOfPackets.{TheProtectedGoesSealed}
use Rattle.gateway.specs.Outputs.{view_of_outcome, wants_memory, Sealed}
use Rattle.gateway.specs.States.{State}
use Rattle.gateway.specs.Steps.{GoesSealed, ReceivesPacket, Steps}
use Rattle.laws_opening.specs.Opened.{Opening, Side}
use Rattle.laws_coming_up.specs.ComingUp.{pair_on, table_with, IsUp}
use Rattle.laws_coming_up.specs.ComingUpBeside.{adding, becoming, installing, pair_in, Meeting}
use Rattle.laws_coming_up.specs.Carrying.{GoesThrough, HoldsItsPair, IsToGoOut}
use Rattle.laws_coming_up.specs.CarryingBeside.{Arrives, GoesThroughBeside, HoldsNewPair, IsToGoOutBeside}
use Rattle.laws_coming_up.proofs.NewGatewayLemmas.{meeting_of}

-- the laws of lower crates that this goes by
abbrev pub OneCarrier : Type 0
OneCarrier = (pairs : PairMap) (flow : Flow) (a b : ℕ) → IsOutbound pairs flow a → IsOutbound pairs flow b → a ≡ b

abbrev pub HandsUpLaw : Type 0
HandsUpLaw = (near near_new far far_new : Database) (policy : List Entry) (packet octets : Octets) (child number : ℕ) (pair mirror : Pair) (outcome : Outcome)
    → pair_at near.pairs child ≡ Some pair → Sends near policy packet (traffic.Sealed child number octets) near_new → Mirrors pair mirror
    → IsSoundTable far → IsDueAtPair far mirror octets number → Receives far octets outcome far_new → outcome ≡ traffic.Up mirror.serial number packet

same_pair : (a b : Pair) → Some a ≡ Some b → a ≡ b
same_pair a b is = cc

-- ---- the pair of an end

-- as its table has it
abbrev held_pair : Role → Config → Meeting → ℕ → ℕ → Terms → Pair
held_pair role config d ike serial terms = record (pair_in role config d ike terms) { serial = serial }

mirrored : (role : Role) (own other : Config) (d : Meeting) (ike serial far_ike far_serial : ℕ) (terms : Terms)
    → Mirrors (held_pair role own d ike serial terms) (held_pair (other_role role) other d far_ike far_serial terms)
mirrored Initiator own other d ike serial far_ike far_serial terms = record { inward = refl; outward = refl; extension = refl; local = refl; remote = refl }
mirrored Responder own other d ike serial far_ike far_serial terms = record { inward = refl; outward = refl; extension = refl; local = refl; remote = refl }

number_left : (extended : Bool) → 1 < number_limit extended
number_left true = omega arith
number_left false = omega arith

-- it carries what the terms cover, and no pair has a greater serial
outbound : (table : Database) → IsSoundTable table → (role : Role) (config : Config) (d : Meeting) (ike serial : ℕ) (terms : Terms) (flow : Flow)
    → pair_at table.pairs serial ≡ Some (held_pair role config d ike serial terms) → table.next ≡ serial + 1
    → Covers (local_of role terms) (remote_of role terms) flow → IsOutbound table.pairs flow serial
outbound table sound role config d ike serial terms flow there last covered = record {
  carries = record { pair = held_pair role config d ike serial terms; there = there; live = refl; covered = covered };
  greatest = λ other above carries.
      let given = sound.serial_given other carries.pair carries.there in
      let below = given.1 in
      absurd (omega (arith, above, below, last));
}

-- ---- the end that seals

-- what is sealed as the first packet
record SealsFirst (serial : ℕ) (outcome : Outcome) : Type 0 where
  octets : Octets
  is : outcome ≡ traffic.Sealed serial 1 octets

module _ (one : OneCarrier) (old : Database) (flow : Flow) (packet : Octets) (serial : ℕ) (pair : Pair) (held : pair_at old.pairs serial ≡ Some pair)
    (carries : IsOutbound old.pairs flow serial) (first : pair.outbound.last ≡ 0) (left : HasNumber pair.outbound) where
  sealed_by : (child number : ℕ) (octets : Octets) (new : Database) → Protects old flow packet (traffic.Sealed child number octets) new
      → SealsFirst serial (traffic.Sealed child number octets)
  sealed_by child number octets new is =
      let child_is : child ≡ serial = one old.pairs flow child serial is.carrier carries in
      let found : pair_at old.pairs child ≡ Some is.sealed.pair = is.sealed.changed.there in
      let same : is.sealed.pair ≡ pair = same_pair is.sealed.pair pair (sym found ∙ ap (pair_at old.pairs) child_is ∙ held) in
      let number_is : number ≡ pair.outbound.last + 1 = is.sealed.sealed.number ∙ ap (λ (p : Pair). p.outbound.last + 1) same in
      let is_first : number ≡ 1 = omega (arith, number_is, first) in
      record { octets = octets; is = λ i. traffic.Sealed (child_is i) (is_first i) octets }

  not_exhausted : (new : Database) → Protects old flow packet (traffic.Dropped (Esp Exhausted)) new → ⊥
  not_exhausted new is =
      let child_is : is.0.child ≡ serial = one old.pairs flow is.0.child serial is.0.carrier carries in
      let same : is.0.refused.pair ≡ pair = same_pair is.0.refused.pair pair (sym is.0.refused.there ∙ ap (pair_at old.pairs) child_is ∙ held) in
      is.0.refused.refused (subst (λ (p : Pair). HasNumber p.outbound) (sym same) left)

  seals_it : (outcome : Outcome) (new : Database) → Protects old flow packet outcome new → SealsFirst serial outcome
  seals_it (traffic.Sealed child number octets) new is = sealed_by child number octets new is
  seals_it (traffic.Dropped UnknownAssociation) new is = absurd (is.0 serial carries.carries)
  seals_it (traffic.Dropped (Esp Exhausted)) new is = absurd (not_exhausted new is)
  seals_it (traffic.Dropped (Esp fault)) new is = absurd is
  seals_it (traffic.Dropped (Inner fault)) new is = absurd is
  seals_it (traffic.Dropped OutsideSelectors) new is = absurd is
  seals_it (traffic.Clear octets) new is = absurd is
  seals_it traffic.Discarded new is = absurd is
  seals_it (traffic.Up child number inner) new is = absurd is
  seals_it (traffic.Dummy child number) new is = absurd is

-- the packet goes out so
record GoesOut {C : Type 0} (serial : ℕ) (flow : Flow) (packet : Octets) (u : Passage C) : Type 0 where
  octets : Octets
  said : u.said ≡ Sealed serial 1 octets
  protects : Protects u.before.table flow packet (traffic.Sealed serial 1 octets) u.after.table

module _ {C : Type 0} (one : OneCarrier) (law : TheProtectedGoesSealed C) (meaning_of : C → Meaning) (role : Role) (d : Meeting) (ike serial : ℕ) (terms : Terms)
    (packet : Octets) (u : Passage C) (is : IsPassage meaning_of u) (holds : HoldsNewPair role d ike serial terms u.before) (goes : IsToGoOutBeside role terms packet u) where
  abbrev pair : Pair
  pair = held_pair role u.before.machine.config d ike serial terms

  either : GoesSealed goes.flow packet u.before u.said u.after → GoesOut serial goes.flow packet u
  either (inl s) =
      let carries = outbound u.before.table is.sound.table role u.before.machine.config d ike serial terms goes.flow holds.there holds.last goes.covered in
      let seals = seals_it one u.before.table goes.flow packet serial pair holds.there carries refl (number_left terms.extended) s.0 u.after.table s.1 in
      record {
        octets = seals.octets;
        said = s.2 ∙ ap view_of_outcome seals.is;
        protects = subst (λ (x : Outcome). Protects u.before.table goes.flow packet x u.after.table) seals.is s.1;
      }
  either (inr refused) = absurd (true≢false (sym (ap wants_memory refused) ∙ goes.memory))

  goes_out : GoesOut serial goes.flow packet u
  goes_out =
      let meaning = meaning_of u.before.caller in
      let steps : Steps meaning (input.Outward packet) u.before u.said u.after = subst (λ (g : Input). Steps meaning g u.before u.said u.after) goes.given is.steps in
      either (law meaning packet goes.flow u.said u.before u.after goes.protected steps)

-- ---- the number of what was sealed

low_half_is : (near near_new : Database) (policy : List Entry) (packet octets : Octets) (serial : ℕ) (pair : Pair) → pair_at near.pairs serial ≡ Some pair
    → Sends near policy packet (traffic.Sealed serial 1 octets) near_new → low_half octets ≡ 1 % 2 ^ 32
low_half_is near near_new policy packet octets serial pair held sends =
    let next : ℕ = next_header_of (family_of sends.flow.source) in
    let sealed : SealsAt near serial next packet [] 1 near_new octets = sends.protects.sealed in
    let same : sealed.pair ≡ pair = same_pair sealed.pair pair (sym sealed.changed.there ∙ held) in
    let seals : Seals pair.outbound next packet [] 1 sealed.outbound octets =
    subst (λ (p : Pair). Seals p.outbound next packet [] 1 sealed.outbound octets) same sealed.sealed in
    let is : IsPacket pair.outbound.association 1 next packet seals.shortest.p seals.packet = seals.shortest.packet in
    ap low_half seals.appended ∙ packet_low_half pair.outbound.association 1 next packet seals.shortest.p seals.packet is

few_blocks : (blocks : ℕ) → IsBlockCount blocks → blocks < 256
few_blocks blocks (k, least, most, is) = let below = pow_below k 8 (omega (arith, most)) in omega (arith, below, is)

-- it is the first of an unused window
number_is : (extended : Bool) (blocks low : ℕ) → blocks < 256 → low ≡ 1 % 2 ^ 32 → IsNumber extended (unused_window blocks) low 1
number_is false blocks low few is = (omega (arith, is), omega arith)
number_is true blocks low few is = record {
  low_half = sym is;
  from_the_edge = omega arith;
  one_cycle = omega (arith, few);
  not_zero = omega arith;
  fits = omega arith;
}

-- ---- the end at which it comes

module _ (table : Database) (sound : IsSoundTable table) (role : Role) (config : Config) (d : Meeting) (ike serial : ℕ) (terms : Terms)
    (there : pair_at table.pairs serial ≡ Some (held_pair role config d ike serial terms)) (octets : Octets) where
  abbrev mirror : Pair
  mirror = held_pair role config d ike serial terms

  due : IsBlockCount config.blocks → low_half octets ≡ 1 % 2 ^ 32 → IsDueAtPair table mirror octets 1
  due blocks low = record {
    found = record {
      there = there;
      its_own = refl;
      only = λ other has. sound.apart other serial mirror.inbound.association.spi has (record { pair = mirror; there = there; its_own = refl });
    };
    number_is = number_is terms.extended config.blocks (low_half octets) (few_blocks config.blocks blocks) low;
    in_reach = omega arith;
    new = set.contains-empty nat_cmp 1;
  }

-- ---- both

module _ {C : Type 0} (one : OneCarrier) (law : TheProtectedGoesSealed C) (hands_up : HandsUpLaw) (meaning_of : C → Meaning) (role : Role) (d : Meeting) (ike serial far_ike far_serial : ℕ)
    (terms : Terms) (packet : Octets) (u v : Passage C) (is : IsPassage meaning_of u) (holds : HoldsNewPair role d ike serial terms u.before)
    (goes : IsToGoOutBeside role terms packet u) (comes : IsPassage meaning_of v) (holds_too : HoldsNewPair (other_role role) d far_ike far_serial terms v.before)
    (arrives : Arrives serial u v) where
  pub goes_through_beside : GoesThroughBeside packet serial far_serial u v
  goes_through_beside =
      let out = goes_out one law meaning_of role d ike serial terms packet u is holds goes in
      let own = u.before.machine.config in
      let other = v.before.machine.config in
      let near = u.before.table in
      let far = v.before.table in
      let pair : Pair = held_pair role own d ike serial terms in
      let mirror : Pair = held_pair (other_role role) other d far_ike far_serial terms in
      let sends : Sends near u.before.entries packet (traffic.Sealed serial 1 out.octets) u.after.table =
      record { flow = goes.flow; decided = goes.protected; protects = out.protects } in
      let steps : Steps (meaning_of v.before.caller) (input.Esp out.octets) v.before v.said v.after =
      subst (λ (g : Input). Steps (meaning_of v.before.caller) g v.before v.said v.after) (arrives out.octets out.said) comes.steps in
      let came : ReceivesPacket far out.octets v.said v.after.table = steps.traces.does.1 in
      let low = low_half_is near u.after.table u.before.entries packet out.octets serial pair holds.there sends in
      let up = hands_up near u.after.table far v.after.table u.before.entries packet out.octets serial 1 pair mirror came.outcome
      holds.there sends (mirrored role own other d ike serial far_ike far_serial terms) comes.sound.table
      (due far comes.sound.table (other_role role) other d far_ike far_serial terms holds_too.there out.octets comes.sound.machine.config.blocks low) came.receives in
      record { octets = out.octets; sealed = out.said; up = came.output ∙ ap view_of_outcome up }

-- ---- ends as IKE_AUTH left them

put_there : (pairs : PairMap) (n : ℕ) (pair : Pair) → pair_at (map.insert pairs n pair) n ≡ Some pair
put_there pairs n pair = map.get-insert nat_cmp_total pairs n pair n ∙ ap (λ (b : Bool). cond b (Some pair) (map.get pairs n)) (unsigned_tied n n ∙ eq-eqb n n refl)

-- the responder, and the initiator
pub added_is_new : {C : Type 0} (role : Role) (d : Meeting) (terms : Terms) (s left now : State C) (ike place : ℕ) (a : Association) (room : ℕ)
    → left ≡ becoming s place a (adding s.table (pair_in role s.machine.config d ike terms) room) → now ≡ left → HoldsNewPair role d ike s.table.next terms now
added_is_new {C} role d terms s left now ike place a room is then =
    subst (λ (x : State C). HoldsNewPair role d ike s.table.next terms x) (sym (then ∙ is))
    (record { there = put_there s.table.pairs s.table.next (held_pair role s.machine.config d ike s.table.next terms); last = refl })

pub installed_is_new : {C : Type 0} (role : Role) (d : Meeting) (terms : Terms) (s left now : State C) (ike place : ℕ) (a : Association) (spi room : ℕ)
    → left ≡ becoming s place a (installing s.table spi (pair_in role s.machine.config d ike terms) room) → now ≡ left
    → HoldsNewPair role d ike s.table.next terms now
installed_is_new {C} role d terms s left now ike place a spi room is then =
    subst (λ (x : State C). HoldsNewPair role d ike s.table.next terms x) (sym (then ∙ is))
    (record { there = put_there s.table.pairs s.table.next (held_pair role s.machine.config d ike s.table.next terms); last = refl })

-- ---- so it is of ends that were new

abbrev none_held : PairMap
none_held = map.empty

holds_new : {C : Type 0} (role : Role) (own other asker : Side) (a : C) (o : Opening) (terms : Terms) (s : State C) → HoldsItsPair role own other a o terms s
    → HoldsNewPair role (meeting_of asker o) 1 1 terms s
holds_new {C} role own other asker a o terms s holds =
    subst (λ (x : State C). HoldsNewPair role (meeting_of asker o) 1 1 terms x) (sym holds.up.state)
    (record { there = put_there none_held 1 (held_pair role own.config (meeting_of asker o) 1 1 terms); last = refl })

module _ {C : Type 0} (one : OneCarrier) (law : TheProtectedGoesSealed C) (hands_up : HandsUpLaw) (meaning_of : C → Meaning) (role : Role) (own other : Side) (a b : C) (o : Opening)
    (terms : Terms) (packet : Octets) (u v : Passage C) (is : IsPassage meaning_of u) (holds : HoldsItsPair role own other a o terms u.before)
    (goes : IsToGoOut role own terms packet u) (comes : IsPassage meaning_of v) (holds_too : HoldsItsPair (other_role role) other own b o terms v.before)
    (arrives : (octets : Octets) → u.said ≡ Sealed 1 1 octets → v.given ≡ input.Esp octets) where
  pub goes_through : GoesThrough packet u v
  goes_through =
      let protected : IsDecided u.before.entries Outward packet goes.flow Protect =
      subst (λ (s : State C). IsDecided s.entries Outward packet goes.flow Protect) (sym holds.up.state) goes.protected in
      let g = goes_through_beside one law hands_up meaning_of role (meeting_of own o) 1 1 1 1 terms packet u v is (holds_new role own other own a o terms u.before holds)
      (record { given = goes.given; flow = goes.flow; protected = protected; covered = goes.covered; memory = goes.memory }) comes
      (holds_new (other_role role) other own own b o terms v.before holds_too) arrives in
      record { octets = g.octets; sealed = g.sealed; up = g.up }

-- an end that is as IKE_AUTH left it holds its pair
pub holds_still : {C : Type 0} (role : Role) (own other : Side) (caller : C) (o : Opening) (terms : Terms) (room : ℕ) (left s : State C)
    → IsUp role own other caller o (table_with own.start (pair_on role own o terms) room) left → s ≡ left → HoldsItsPair role own other caller o terms s
holds_still {C} role own other caller o terms room left s up is =
    subst (λ (x : State C). HoldsItsPair role own other caller o terms x) (sym is) (record { room = room; up = up })
