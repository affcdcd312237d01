-- Every run keeps what is promised of SPIs: the table after each step follows the one before.
use Rattle.std.proofs.Common.{◌≡◌, ◌⊎◌, ◌≤◌, inl, inr, ℕ, zero, suc, ◌∷◌, [], false, List, Some, ap, refl, subst, sym, arith}
use Rattle.std.specs.List.{slice_get}
use Rattle.base.specs.Octets.{Octets}
use Rattle.policy.specs.declared.entry.Entry.{Entry}
use Rattle.sadb.specs.Database.{pair_at, Database, HasInbound, IsAsBefore, IsSoundTable, Marks}
use Rattle.sadb.specs.Following.{Follows, IsLaterWindow, IsSamePair}
use Rattle.sadb.specs.declared.pair.Pair.{Pair}
use Rattle.association.specs.declared.phase.Association.{Association}
use Rattle.informational.specs.Ordering.{MarksFor}
use Rattle.informational.specs.declared.ordering.Order.{Order}
use Rattle.informational.specs.declared.ordering.Order.TheVariants as order
use Rattle.moments.specs.Holding.{LeavesFewer}
use Rattle.moments.specs.Ticking.{Ticks}
use Rattle.moments.specs.declared.ticking.Ticked.{Ticked}
use Rattle.effects.specs.Taking.{Meaning}
use Rattle.ike.specs.Asking.{AsksFor}
use Rattle.ike.specs.Machines.{setup_at, Held, Machine}
use Rattle.ike.specs.Orders.{OrderView}
use Rattle.ike.specs.Orders as orders
use Rattle.ike.specs.Pairs.{ChangesOne}
use Rattle.ike.specs.Steps as ike
use Rattle.ike.specs.declared.output.Stepped.{Stepped}
use Rattle.ike.specs.declared.output.Trace.{Trace}
use Rattle.setup.specs.Configs.{Setup}
use Rattle.suite.specs.declared.keys.Keys.{Keys}
use Rattle.traffic.specs.Outcomes.{Outcome}
use Rattle.traffic.specs.Receiving.{Receives}
use Rattle.traffic.specs.Sending.{Sends}
use Rattle.gateway.specs.Histories.{IsPassage, IsTrail, Passage}
use Rattle.gateway.specs.Inputs.{Input}
use Rattle.gateway.specs.Inputs as input
use Rattle.gateway.specs.Outputs.{OutputView}
use Rattle.gateway.specs.Spis.{AnSpiNamesOnePair}
use Rattle.gateway.specs.States.{State}
use Rattle.gateway.specs.Steps.{DoesInput, SendsPacket, StepsIke}
use Rattle.gateway.proofs.GivingLemmas.{datagram_gives, start_gives, tick_gives, Gives}

-- what is known of tables that follow, and of steps
pub record SpiFacts : Type 0 where
  pub one : (a c : Database) (spi serial later : ℕ) → IsSoundTable a → Follows a c → HasInbound a.pairs spi serial → HasInbound c.pairs spi later → later ≡ serial
  pub transitive : (a b c : Database) → Follows a b → Follows b c → Follows a c
  pub preparing : (old new : Database) → IsSoundTable old → IsAsBefore old new → Follows old new
  pub marking : (old new : Database) (serial : ℕ) → IsSoundTable old → Marks old serial new → Follows old new
  pub received : (old new : Database) (packet : Octets) (outcome : Outcome) → IsSoundTable old → Receives old packet outcome new → Follows old new
  pub sent : (old new : Database) (policy : List Entry) (packet : Octets) (outcome : Outcome) → IsSoundTable old → Sends old policy packet outcome new → Follows old new
  pub changed : (meaning : Meaning) (entries : List Entry) (view : ike.InputView) (old : Machine) (table : Database) (stepped : Stepped) (new : Machine) (new_table : Database) → ike.is_tick view ≡ false
      → ike.Steps meaning entries view old table stepped new new_table → ChangesOne old.held new.held table new_table
  pub fewer : (now : ℕ) (old : List Association) (table : Database) (ticked : Ticked) (new : List Association) (new_table : Database) → Ticks now old table ticked new new_table → LeavesFewer table new_table

-- ---- a table that follows, by what becomes of the SPIs that are given

same_window : (p : Pair) → IsLaterWindow p.inbound.window p.inbound.window
same_window p = record { size = refl; spent = λ n spent. spent }

same_pair : (p : Pair) → IsSamePair p p
same_pair p = record {
  serial = refl;
  ike = refl;
  inbound = refl;
  outbound = refl;
  local = refl;
  remote = refl;
  state = λ deleting. deleting;
  last = omega arith;
  window = same_window p;
}

follows_by : (old new : Database) → IsSoundTable old → old.next ≤ new.next
    → ((serial : ℕ) (pair : Pair) → pair_at new.pairs serial ≡ Some pair → (pair_at old.pairs serial ≡ Some pair) ⊎ (serial ≡ old.next))
    → Gives old new → Follows old new
follows_by old new sound next each is = record {
  start = is.start;
  given = is.given;
  next = next;
  reserved = is.reserved;
  old_pairs = λ serial pair there below. elim (each serial pair there) [
    | inl before ↦ record { was = pair; there = before; same = same_pair pair }
    | inr comes ↦ absurd (omega (arith, comes, below))
  ];
  new_pairs = λ serial pair there above. elim (is.pairs serial pair there) [
    | inl before ↦ absurd (let below = (sound.serial_given serial pair before).1 in omega (arith, below, above))
    | inr may ↦ may
  ];
}

module _ (facts : SpiFacts) where
  same_follows : (old new : Database) → IsSoundTable old → new ≡ old → Follows old new
  same_follows old new sound same = subst (λ (d : Database). Follows old d) (sym same) (facts.preparing old old sound (record { content = refl; room = omega arith }))

  -- ---- a step of the machine

  one_follows : (old new : Machine) (table new_table : Database) → IsSoundTable table → ChangesOne old.held new.held table new_table → Gives table new_table → Follows table new_table
  one_follows old new table new_table sound is gives = elim is.pairs [
    | inl leaves ↦ follows_by table new_table sound leaves.next
        (λ serial pair there. elim (leaves.each serial pair there) [ inl before ↦ inl before | inr comes ↦ inr comes.in_order ]) gives
    | inr marks ↦ facts.marking table new_table marks.serial sound marks.marked
  ]

  marked_follows : (o : Order) (table new_table : Database) → IsSoundTable table → MarksFor o table new_table → Follows table new_table
  marked_follows order.Probe table new_table sound is = same_follows table new_table sound is
  marked_follows (order.DeleteChild child spi) table new_table sound is = facts.marking table new_table child sound is
  marked_follows order.DeleteAssociation table new_table sound is = same_follows table new_table sound is

  order_follows : (body_of : Keys → Octets → Octets → Octets → Octets) (setup : Setup) (what : OrderView) (old : Held) (table : Database) (stepped : Stepped) (new : Held) (new_table : Database)
      → IsSoundTable table → AsksFor body_of setup what old table stepped new new_table → Follows table new_table
  order_follows body_of setup (orders.Probe ike) old table stepped new new_table sound is = marked_follows order.Probe table new_table sound is.marked
  order_follows body_of setup (orders.DeleteChild serial) old table stepped new new_table sound is =
      marked_follows (order.DeleteChild serial is.pair.inbound.association.spi) table new_table sound is.asks.marked
  order_follows body_of setup (orders.DeleteIke ike) old table stepped new new_table sound is = marked_follows order.DeleteAssociation table new_table sound is.marked

  ike_follows : (meaning : Meaning) (entries : List Entry) (view : ike.InputView) (old : Machine) (table : Database) (stepped : Stepped) (new : Machine) (new_table : Database) → IsSoundTable table
      → ike.Steps meaning entries view old table stepped new new_table → Follows table new_table
  ike_follows meaning entries (ike.Message from octets fresh) old table stepped new new_table sound is =
      one_follows old new table new_table sound (facts.changed meaning entries (ike.Message from octets fresh) old table stepped new new_table refl is)
      (datagram_gives meaning (setup_at old entries fresh) old.cookies from octets old.held table stepped new.held new_table is.1)
  ike_follows meaning entries (ike.Start serial place fresh) old table stepped new new_table sound is =
      one_follows old new table new_table sound (facts.changed meaning entries (ike.Start serial place fresh) old table stepped new new_table refl is)
      (start_gives meaning (setup_at old entries fresh) serial place old.held table stepped new.held new_table is.1)
  ike_follows meaning entries (ike.Order what fresh) old table stepped new new_table sound is =
      order_follows meaning.body_of (setup_at old entries fresh) what old.held table stepped new.held new_table sound is.1
  ike_follows meaning entries (ike.Secret secret) old table stepped new new_table sound is = same_follows table new_table sound is.unchanged
  ike_follows meaning entries (ike.Tick moment) old table stepped new new_table sound is =
      let fewer = facts.fewer _ old.held.associations table is.takes.ticked new.held.associations new_table is.takes.ticks in
      follows_by table new_table sound (let same = fewer.next in omega (arith, same)) (λ serial pair there. inl (fewer.each serial pair there))
      (tick_gives _ old.held.associations table is.takes.ticked.requests is.takes.ticked.closed new.held.associations new_table is.takes.ticks)

  -- ---- a step of the gateway

  steps_follow : (meaning : Meaning) (entries : List Entry) (view : ike.InputView) (old : Machine) (table : Database) (s : OutputView) (trace : Trace) (new : Machine) (new_table : Database) → IsSoundTable table
      → StepsIke meaning entries view old table s trace new new_table → Follows table new_table
  steps_follow meaning entries view old table s trace new new_table sound (inl is) = ike_follows meaning entries view old table is.stepped new new_table sound is.steps
  steps_follow meaning entries view old table s trace new new_table sound (inr is) = facts.preparing table new_table sound is.pairs

  sends_follow : (entries : List Entry) (table : Database) (packet : Octets) (s : OutputView) (new_table : Database) → IsSoundTable table → SendsPacket entries table packet s new_table → Follows table new_table
  sends_follow entries table packet s new_table sound (inl is) = facts.sent table new_table entries packet is.outcome sound is.sends
  sends_follow entries table packet s new_table sound (inr is) = same_follows table new_table sound is.unchanged

  input_follows : (meaning : Meaning) (entries : List Entry) (given : Input) (old : Machine) (table : Database) (s : OutputView) (trace : Trace) (new : Machine) (new_table : Database) → IsSoundTable table
      → DoesInput meaning entries given old table s trace new new_table → Follows table new_table
  input_follows meaning entries (input.Ike from octets fresh) old table s trace new new_table sound is = steps_follow meaning entries (ike.Message from octets fresh) old table s trace new new_table sound is
  input_follows meaning entries (input.Start serial place fresh) old table s trace new new_table sound is = steps_follow meaning entries (ike.Start serial place fresh) old table s trace new new_table sound is
  input_follows meaning entries (input.Probe serial fresh) old table s trace new new_table sound is =
      steps_follow meaning entries (ike.Order (orders.Probe serial) fresh) old table s trace new new_table sound is
  input_follows meaning entries (input.DeleteChild serial fresh) old table s trace new new_table sound is =
      steps_follow meaning entries (ike.Order (orders.DeleteChild serial) fresh) old table s trace new new_table sound is
  input_follows meaning entries (input.DeleteIke serial fresh) old table s trace new new_table sound is =
      steps_follow meaning entries (ike.Order (orders.DeleteIke serial) fresh) old table s trace new new_table sound is
  input_follows meaning entries (input.Secret secret) old table s trace new new_table sound is = steps_follow meaning entries (ike.Secret secret) old table s trace new new_table sound is
  input_follows meaning entries (input.Tick moment) old table s trace new new_table sound is = steps_follow meaning entries (ike.Tick moment) old table s trace new new_table sound is
  input_follows meaning entries (input.Esp octets) old table s trace new new_table sound is = facts.received table new_table octets is.1.outcome sound is.1.receives
  input_follows meaning entries (input.Outward packet) old table s trace new new_table sound is = sends_follow entries table packet s new_table sound is.1
  input_follows meaning entries (input.Inward packet) old table s trace new new_table sound is = same_follows table new_table sound is.2

  -- ---- over a list

  module _ {C : Type 0} (meaning_of : C → Meaning) where
    passage_follows : (p : Passage C) → IsPassage meaning_of p → Follows p.before.table p.after.table
    passage_follows p is =
        input_follows (meaning_of p.before.caller) p.before.entries p.given p.before.machine p.before.table p.said is.steps.trace p.after.machine p.after.table is.sound.table is.steps.traces.does

    as_table : (a b : State C) (d : Database) → a ≡ b → Follows a.table d → Follows b.table d
    as_table a b d same is = subst (λ (s : State C). Follows s.table d) same is

    to_table : (d : Database) (a b : State C) → a ≡ b → Follows d a.table → Follows d b.table
    to_table d a b same is = subst (λ (s : State C). Follows d s.table) same is

    -- from the first step on
    on_follows : (p : Passage C) (ps : List (Passage C)) (old new : State C) → IsTrail meaning_of old (p ∷ ps) new → Follows old.table new.table
    on_follows p [] old new trail = as_table p.before old new.table trail.0 (to_table p.before.table p.after new (sym trail.2) (passage_follows p trail.1))
    on_follows p (q ∷ ps) old new trail =
        as_table p.before old new.table trail.0 (facts.transitive p.before.table p.after.table new.table (passage_follows p trail.1) (on_follows q ps p.after new trail.2))

    all_follow : (ps : List (Passage C)) (old new : State C) → IsTrail meaning_of old ps new → IsSoundTable old.table → Follows old.table new.table
    all_follow [] old new trail sound = same_follows old.table new.table sound (ap (λ (s : State C). s.table) trail)
    all_follow (p ∷ ps) old new trail sound = on_follows p ps old new trail

    same_passage : (p q : Passage C) → Some p ≡ Some q → p ≡ q
    same_passage p q is = cc

    -- up to a step
    up_follows : (ps : List (Passage C)) (old new : State C) (place : ℕ) (q : Passage C) → IsTrail meaning_of old ps new → slice_get ps place ≡ Some q → Follows old.table q.before.table
    up_follows [] old new place q trail there = absurd cc
    up_follows (p ∷ ps) old new zero q trail there =
        subst (λ (x : Passage C). Follows old.table x.before.table) (same_passage p q there)
        (as_table p.before old p.before.table trail.0 (same_follows p.before.table p.before.table trail.1.sound.table refl))
    up_follows (p ∷ ps) old new (suc place) q trail there =
        as_table p.before old q.before.table trail.0
        (facts.transitive p.before.table p.after.table q.before.table (passage_follows p trail.1) (up_follows ps p.after new place q trail.2 there))

    -- from a step on
    rest_follows : (ps : List (Passage C)) (old new : State C) (place : ℕ) (q : Passage C) → IsTrail meaning_of old ps new → slice_get ps place ≡ Some q → Follows q.before.table new.table
    rest_follows [] old new place q trail there = absurd cc
    rest_follows (p ∷ ps) old new zero q trail there =
        subst (λ (x : Passage C). Follows x.before.table new.table) (same_passage p q there) (as_table old p.before new.table (sym trail.0) (on_follows p ps old new trail))
    rest_follows (p ∷ ps) old new (suc place) q trail there = rest_follows ps p.after new place q trail.2 there

    -- from one to another
    between_follows : (ps : List (Passage C)) (old new : State C) (place later : ℕ) (p q : Passage C) → IsTrail meaning_of old ps new → place ≤ later
        → slice_get ps place ≡ Some p → slice_get ps later ≡ Some q → Follows p.before.table q.before.table
    between_follows [] old new place later p q trail least there after = absurd cc
    between_follows (r ∷ ps) old new zero later p q trail least there after =
        subst (λ (x : Passage C). Follows x.before.table q.before.table) (same_passage r p there)
        (as_table old r.before q.before.table (sym trail.0) (up_follows (r ∷ ps) old new later q trail after))
    between_follows (r ∷ ps) old new (suc place) zero p q trail least there after = absurd (omega (arith, least))
    between_follows (r ∷ ps) old new (suc place) (suc later) p q trail least there after =
        between_follows ps r.after new place later p q trail.2 (omega (arith, least)) there after

    sound_at : (ps : List (Passage C)) (old new : State C) (place : ℕ) (q : Passage C) → IsTrail meaning_of old ps new → slice_get ps place ≡ Some q → IsSoundTable q.before.table
    sound_at [] old new place q trail there = absurd cc
    sound_at (p ∷ ps) old new zero q trail there = subst (λ (x : Passage C). IsSoundTable x.before.table) (same_passage p q there) trail.1.sound.table
    sound_at (p ∷ ps) old new (suc place) q trail there = sound_at ps p.after new place q trail.2 there

    sound_first : (ps : List (Passage C)) (old new : State C) (place : ℕ) (q : Passage C) → IsTrail meaning_of old ps new → slice_get ps place ≡ Some q → IsSoundTable old.table
    sound_first [] old new place q trail there = absurd cc
    sound_first (p ∷ ps) old new place q trail there = subst (λ (s : State C). IsSoundTable s.table) trail.0 trail.1.sound.table

    pub spis_kept : (old new : State C) (ps : List (Passage C)) → IsTrail meaning_of old ps new → AnSpiNamesOnePair old ps new
    spis_kept old new ps trail = record {
      between = λ place later spi serial other p q least there after has has_other.
          facts.one p.before.table q.before.table spi serial other (sound_at ps old new place p trail there)
          (between_follows ps old new place later p q trail least there after) has has_other;
      last = λ place spi serial other p there has has_other.
          facts.one p.before.table new.table spi serial other (sound_at ps old new place p trail there) (rest_follows ps old new place p trail there) has has_other;
      begun = λ place spi serial other p there has has_other.
          facts.one old.table p.before.table spi serial other (sound_first ps old new place p trail there) (up_follows ps old new place p trail there) has has_other;
      whole = λ spi serial other sound has has_other. facts.one old.table new.table spi serial other sound (all_follow ps old new trail sound) has has_other;
      steps = λ place later p q least there after. between_follows ps old new place later p q trail least there after;
      rest = λ place p there. rest_follows ps old new place p trail there;
      follows = λ sound. all_follow ps old new trail sound;
    }
