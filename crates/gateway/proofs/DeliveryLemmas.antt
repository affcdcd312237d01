-- Every run keeps what is promised of ESP packets.
use Rattle.std.proofs.Common.{◌≡◌, ◌<◌, ◌≤◌, inl, inr, ℕ, ◌∷◌, [], Bool, true, false, List, Option, Some, None, ap, refl, subst, sym, ◌∙◌, arith}
use Rattle.std.specs.Prelude.{slice_get}
use Rattle.std.specs.FinMap as numbers
use Rattle.std.specs.FinSet as set
use Rattle.std.specs.Option.{option_map}
use Rattle.std.specs.Ordering.{nat_cmp}
use Rattle.std.proofs.lemmas.Option.{slice_get-map}
use Rattle.base.specs.Octets.{Octets}
use Rattle.policy.specs.declared.entry.Entry.{Entry}
use Rattle.sadb.specs.Database.{Database, IsAsBefore, IsSoundTable, Marks, pair_at}
use Rattle.sadb.specs.declared.pair.Pair.{Pair}
use Rattle.association.specs.declared.phase.Association.{Association}
use Rattle.moments.specs.Holding.{LeavesFewer}
use Rattle.moments.specs.Ticking.{Ticks}
use Rattle.moments.specs.declared.ticking.Ticked.{Ticked}
use Rattle.effects.specs.Pairs.{ComesNext, LeavesPairs}
use Rattle.effects.specs.Taking.{Meaning}
use Rattle.ike.specs.Machines.{Machine}
use Rattle.ike.specs.Pairs.{ChangesOne}
use Rattle.ike.specs.Steps as ike
use Rattle.ike.specs.Orders as orders
use Rattle.ike.specs.declared.output.IkeOutput.{IkeOutput}
use Rattle.ike.specs.declared.output.IkeOutput.TheVariants as made
use Rattle.ike.specs.declared.output.Stepped.{Stepped}
use Rattle.ike.specs.declared.output.Trace.{Trace}
use Rattle.traffic.specs.Admitting.{Admits}
use Rattle.traffic.specs.Outcomes as traffic
use Rattle.traffic.specs.Outcomes.{Outcome}
use Rattle.traffic.specs.Receiving.{Receives, TakesNumberAt}
use Rattle.traffic.specs.Sending.{Sends}
use Rattle.deliveries.specs.Arrivals.{Unforged}
use Rattle.deliveries.specs.Numbers.{IsJudgedAs}
use Rattle.deliveries.specs.Passages as tables
use Rattle.deliveries.specs.Passages.{BringsUnused, ComesUnused, Leads, LeavesWindows, Reception}
use Rattle.deliveries.specs.Promises.{PacketsAreJudged}
use Rattle.gateway.specs.Histories.{IsPassage, IsTrail, Passage}
use Rattle.gateway.specs.Inputs.{Input}
use Rattle.gateway.specs.Inputs as input
use Rattle.gateway.specs.Outputs.{view_of_ike, view_of_outcome, wants_memory, Dummy, OutputView, Up}
use Rattle.gateway.specs.Packets.{outcome_of_said, reception_of, table_passage, table_passages, JudgesOne, PacketsAreDelivered, SaysDue, TakesPacket, TurnsAway}
use Rattle.gateway.specs.States.{State}
use Rattle.gateway.specs.Steps.{DoesInput, SendsPacket, StepsIke}
use Rattle.gateway.proofs.HistoryLemmas.{at_place}

-- what is known of a step of the machine, and of a table
pub record DeliveryFacts : Type 0 where
  pub changed : (meaning : Meaning) (entries : List Entry) (view : ike.InputView) (old : Machine) (table : Database) (stepped : Stepped) (new : Machine) (new_table : Database) → ike.is_tick view ≡ false
      → ike.Steps meaning entries view old table stepped new new_table → ChangesOne old.held new.held table new_table
  pub fewer : (now : ℕ) (old : List Association) (table : Database) (ticked : Ticked) (new : List Association) (new_table : Database) → Ticks now old table ticked new new_table → LeavesFewer table new_table
  pub judged : (old new : Database) (passages : List tables.Passage) → tables.IsTrail old passages new → PacketsAreJudged passages
  pub unchanged : (d : Database) → IsSoundTable d → LeavesWindows d d
  pub bringing : (old new : Database) → IsSoundTable old → BringsUnused old new → LeavesWindows old new
  pub preparing : (old new : Database) → IsSoundTable old → IsAsBefore old new → LeavesWindows old new
  pub marking : (old new : Database) (serial : ℕ) → IsSoundTable old → Marks old serial new → LeavesWindows old new
  pub sending : (old new : Database) (policy : List Entry) (packet : Octets) (outcome : Outcome) → IsSoundTable old → Sends old policy packet outcome new → LeavesWindows old new
  pub up : (old new : Database) (packet inner : Octets) (child number : ℕ) → Receives old packet (traffic.Up child number inner) new → TakesNumberAt old packet child number new
  pub dummy : (old new : Database) (packet : Octets) (child number : ℕ) → Receives old packet (traffic.Dummy child number) new → TakesNumberAt old packet child number new

-- ---- what a step of the machine leaves of the windows

comes_unused : (old : Database) (ike serial : ℕ) (pair : Pair) → ComesNext old ike serial pair → ComesUnused old serial pair
comes_unused old ike serial pair is = record {
  new = omega (arith, is.in_order);
  unused = λ n. ap (λ w. set.contains w.taken n) is.unused.window ∙ set.contains-empty nat_cmp n;
}

brings_pairs : (old : Database) (ike : ℕ) (new : Database) → LeavesPairs old ike new → BringsUnused old new
brings_pairs old ike new is = record {
  next = is.next;
  each = λ serial pair there. elim (is.each serial pair there) [ inl same ↦ inl same | inr comes ↦ inr (comes_unused old ike serial pair comes) ];
}

brings_none : (old new : Database) → LeavesFewer old new → BringsUnused old new
brings_none old new is = record { next = omega (arith, is.next); each = λ serial pair there. inl (is.each serial pair there) }

-- the packets of a table are told back by what is said of them
outcome_back : (o : Outcome) → outcome_of_said (view_of_outcome o) ≡ Some o
outcome_back (traffic.Up child number packet) = refl
outcome_back (traffic.Dummy child number) = refl
outcome_back (traffic.Sealed child number octets) = refl
outcome_back (traffic.Clear packet) = refl
outcome_back traffic.Discarded = refl
outcome_back (traffic.Dropped fault) = refl

reception_is : (octets : Octets) (s : OutputView) (o : Outcome) → s ≡ view_of_outcome o → reception_of (input.Esp octets) s ≡ Some (record { packet = octets; outcome = o })
reception_is octets s o is =
    ap (λ (x : Option Outcome). option_map (λ (outcome : Outcome). record { packet = octets; outcome = outcome }) x) (ap outcome_of_said is ∙ outcome_back o)

module _ (facts : DeliveryFacts) where
  changes_windows : (table new_table : Database) (old new : Machine) → IsSoundTable table → ChangesOne old.held new.held table new_table → LeavesWindows table new_table
  changes_windows table new_table old new sound is = elim is.pairs [
    | inl leaves ↦ facts.bringing table new_table sound (brings_pairs table is.serial new_table leaves)
    | inr marks ↦ facts.marking table new_table marks.serial sound marks.marked
  ]

  pub ike_windows : (meaning : Meaning) (entries : List Entry) (view : ike.InputView) (old : Machine) (table : Database) (stepped : Stepped) (new : Machine) (new_table : Database) → IsSoundTable table
      → ike.Steps meaning entries view old table stepped new new_table → LeavesWindows table new_table
  ike_windows meaning entries (ike.Message from octets fresh) old table stepped new new_table sound is =
      changes_windows table new_table old new sound (facts.changed meaning entries (ike.Message from octets fresh) old table stepped new new_table refl is)
  ike_windows meaning entries (ike.Start serial entry fresh) old table stepped new new_table sound is =
      changes_windows table new_table old new sound (facts.changed meaning entries (ike.Start serial entry fresh) old table stepped new new_table refl is)
  ike_windows meaning entries (ike.Order what fresh) old table stepped new new_table sound is =
      changes_windows table new_table old new sound (facts.changed meaning entries (ike.Order what fresh) old table stepped new new_table refl is)
  ike_windows meaning entries (ike.Secret secret) old table stepped new new_table sound is =
      changes_windows table new_table old new sound (facts.changed meaning entries (ike.Secret secret) old table stepped new new_table refl is)
  ike_windows meaning entries (ike.Tick moment) old table stepped new new_table sound is =
      facts.bringing table new_table sound (brings_none table new_table (facts.fewer _ old.held.associations table is.takes.ticked new.held.associations new_table is.takes.ticks))

  steps_windows : (meaning : Meaning) (entries : List Entry) (view : ike.InputView) (old : Machine) (table : Database) (s : OutputView) (trace : Trace) (new : Machine) (new_table : Database) → IsSoundTable table
      → StepsIke meaning entries view old table s trace new new_table → LeavesWindows table new_table
  steps_windows meaning entries view old table s trace new new_table sound (inl is) = ike_windows meaning entries view old table is.stepped new new_table sound is.steps
  steps_windows meaning entries view old table s trace new new_table sound (inr is) = facts.preparing table new_table sound is.pairs

  same_windows : (table new_table : Database) → IsSoundTable table → new_table ≡ table → LeavesWindows table new_table
  same_windows table new_table sound same = subst (λ (d : Database). LeavesWindows table d) (sym same) (facts.unchanged table sound)

  sends_windows : (entries : List Entry) (table : Database) (packet : Octets) (s : OutputView) (new_table : Database) → IsSoundTable table → SendsPacket entries table packet s new_table → LeavesWindows table new_table
  sends_windows entries table packet s new_table sound (inl is) = facts.sending table new_table entries packet is.outcome sound is.sends
  sends_windows entries table packet s new_table sound (inr is) = same_windows table new_table sound is.unchanged

  -- ---- a step of the gateway is one of its table

  leads : (meaning : Meaning) (entries : List Entry) (given : Input) (old : Machine) (table : Database) (s : OutputView) (trace : Trace) (new : Machine) (new_table : Database) → IsSoundTable table
      → DoesInput meaning entries given old table s trace new new_table → Leads table (reception_of given s) new_table
  leads meaning entries (input.Ike from octets fresh) old table s trace new new_table sound is = steps_windows meaning entries (ike.Message from octets fresh) old table s trace new new_table sound is
  leads meaning entries (input.Start serial entry fresh) old table s trace new new_table sound is = steps_windows meaning entries (ike.Start serial entry fresh) old table s trace new new_table sound is
  leads meaning entries (input.Probe serial fresh) old table s trace new new_table sound is = steps_windows meaning entries (ike.Order (orders.Probe serial) fresh) old table s trace new new_table sound is
  leads meaning entries (input.DeleteChild serial fresh) old table s trace new new_table sound is =
      steps_windows meaning entries (ike.Order (orders.DeleteChild serial) fresh) old table s trace new new_table sound is
  leads meaning entries (input.DeleteIke serial fresh) old table s trace new new_table sound is = steps_windows meaning entries (ike.Order (orders.DeleteIke serial) fresh) old table s trace new new_table sound is
  leads meaning entries (input.Secret secret) old table s trace new new_table sound is = steps_windows meaning entries (ike.Secret secret) old table s trace new new_table sound is
  leads meaning entries (input.Tick moment) old table s trace new new_table sound is = steps_windows meaning entries (ike.Tick moment) old table s trace new new_table sound is
  leads meaning entries (input.Esp octets) old table s trace new new_table sound is =
      subst (λ (r : Option Reception). Leads table r new_table) (sym (reception_is octets s is.1.outcome is.1.output)) is.1.receives
  leads meaning entries (input.Outward packet) old table s trace new new_table sound is = sends_windows entries table packet s new_table sound is.1
  leads meaning entries (input.Inward packet) old table s trace new new_table sound is = same_windows table new_table sound is.2

  table_step : {C : Type 0} (meaning_of : C → Meaning) (p : Passage C) → IsPassage meaning_of p → tables.IsPassage (table_passage p)
  table_step {C} meaning_of p is = record {
    sound = is.sound.table;
    leads = leads (meaning_of p.before.caller) p.before.entries p.given p.before.machine p.before.table p.said is.steps.trace p.after.machine p.after.table is.sound.table is.steps.traces.does;
  }

  table_trail : {C : Type 0} (meaning_of : C → Meaning) (old : State C) (ps : List (Passage C)) (new : State C) → IsTrail meaning_of old ps new → tables.IsTrail old.table (table_passages ps) new.table
  table_trail {C} meaning_of old [] new trail = ap (λ (s : State C). s.table) trail
  table_trail {C} meaning_of old (p ∷ ps) new trail = (ap (λ (s : State C). s.table) trail.0, table_step meaning_of p trail.1, table_trail meaning_of p.after ps new trail.2)

-- ---- in the words of the gateway

asks_none : (o : Outcome) → wants_memory (view_of_outcome o) ≡ false
asks_none (traffic.Up child number packet) = refl
asks_none (traffic.Dummy child number) = refl
asks_none (traffic.Sealed child number octets) = refl
asks_none (traffic.Clear packet) = refl
asks_none traffic.Discarded = refl
asks_none (traffic.Dropped fault) = refl

-- a packet that came, and what became of it
pub record Came {C : Type 0} (octets : Octets) (p : Passage C) : Type 0 where
  pub outcome : Outcome
  pub receives : Receives p.before.table octets outcome p.after.table
  pub said : p.said ≡ view_of_outcome outcome
  pub kept : p.after ≡ record p.before { table = p.after.table }

pub came : {C : Type 0} (meaning_of : C → Meaning) (octets : Octets) (p : Passage C) → IsPassage meaning_of p → p.given ≡ input.Esp octets → Came octets p
came {C} meaning_of octets p is given =
    let does : DoesInput (meaning_of p.before.caller) p.before.entries (input.Esp octets) p.before.machine p.before.table p.said is.steps.trace p.after.machine p.after.table =
    subst (λ (g : Input). DoesInput (meaning_of p.before.caller) p.before.entries g p.before.machine p.before.table p.said is.steps.trace p.after.machine p.after.table) given is.steps.traces.does in
    record {
      outcome = does.1.outcome;
      receives = does.1.receives;
      said = does.1.output;
      kept = is.steps.traces.kept ∙ ap (λ (m : Machine). record p.before { machine = m; table = p.after.table }) does.0.machine;
    }

takes_packet : {C : Type 0} (octets : Octets) (p : Passage C) → p.given ≡ input.Esp octets → Came octets p → TakesPacket octets p
takes_packet {C} octets p given c = record {
  outcome = c.outcome;
  said = c.said;
  received = ap (λ (g : Input). reception_of g p.said) given ∙ reception_is octets p.said c.outcome c.said;
  memory = ap wants_memory c.said ∙ asks_none c.outcome;
  kept = c.kept;
}

-- what is received is an ESP packet
packet_of : (octets : Octets) (o : Option Outcome) (r : Reception) → option_map (λ (outcome : Outcome). record { packet = octets; outcome = outcome }) o ≡ Some r → octets ≡ r.packet
packet_of octets None r is = absurd cc
packet_of octets (Some outcome) r is = cc

nothing_came : (r : Reception) (A : Type 0) → None ≡ Some r → A
nothing_came r A is = absurd cc

received_given : (given : Input) (s : OutputView) (r : Reception) → reception_of given s ≡ Some r → given ≡ input.Esp r.packet
received_given (input.Ike from octets fresh) s r is = nothing_came r _ is
received_given (input.Start serial entry fresh) s r is = nothing_came r _ is
received_given (input.Probe serial fresh) s r is = nothing_came r _ is
received_given (input.DeleteChild serial fresh) s r is = nothing_came r _ is
received_given (input.DeleteIke serial fresh) s r is = nothing_came r _ is
received_given (input.Secret secret) s r is = nothing_came r _ is
received_given (input.Tick moment) s r is = nothing_came r _ is
received_given (input.Esp octets) s r is = ap input.Esp (packet_of octets (outcome_of_said s) r is)
received_given (input.Outward packet) s r is = nothing_came r _ is
received_given (input.Inward packet) s r is = nothing_came r _ is

-- this is said of packets that came alone
abbrev pub goes_up : OutputView → Bool
goes_up (Up child number packet) = true
goes_up (Dummy child number) = true
goes_up _ = false

ike_up : (o : IkeOutput) → goes_up (view_of_ike o) ≡ false
ike_up (made.Reply octets closed) = refl
ike_up (made.Repeat octets) = refl
ike_up (made.Request serial octets) = refl
ike_up (made.Counted serial child closed) = refl
ike_up (made.Ticked ticked) = refl
ike_up made.Done = refl
ike_up (made.Dropped fault) = refl

sent_up : (old : Database) (policy : List Entry) (packet : Octets) (o : Outcome) (new : Database) → Sends old policy packet o new → goes_up (view_of_outcome o) ≡ false
sent_up old policy packet (traffic.Up child number inner) new is = absurd is
sent_up old policy packet (traffic.Dummy child number) new is = absurd is
sent_up old policy packet (traffic.Sealed child number octets) new is = refl
sent_up old policy packet (traffic.Clear octets) new is = refl
sent_up old policy packet traffic.Discarded new is = refl
sent_up old policy packet (traffic.Dropped fault) new is = refl

admitted_up : (policy : List Entry) (packet : Octets) (o : Outcome) → Admits policy packet o → goes_up (view_of_outcome o) ≡ false
admitted_up policy packet (traffic.Up child number inner) is = absurd is
admitted_up policy packet (traffic.Dummy child number) is = absurd is
admitted_up policy packet (traffic.Sealed child number octets) is = refl
admitted_up policy packet (traffic.Clear octets) is = refl
admitted_up policy packet traffic.Discarded is = refl
admitted_up policy packet (traffic.Dropped fault) is = refl

steps_up : (meaning : Meaning) (entries : List Entry) (view : ike.InputView) (old : Machine) (table : Database) (s : OutputView) (trace : Trace) (new : Machine) (new_table : Database)
    → StepsIke meaning entries view old table s trace new new_table → goes_up s ≡ false
steps_up meaning entries view old table s trace new new_table (inl is) = ap goes_up is.output ∙ ike_up is.stepped.output
steps_up meaning entries view old table s trace new new_table (inr is) = ap goes_up is.output

sends_up : (entries : List Entry) (table : Database) (packet : Octets) (s : OutputView) (new_table : Database) → SendsPacket entries table packet s new_table → goes_up s ≡ false
sends_up entries table packet s new_table (inl is) = ap goes_up is.output ∙ sent_up table entries packet is.outcome new_table is.sends
sends_up entries table packet s new_table (inr is) = ap goes_up is.output

pub record IsPacket (given : Input) : Type 0 where
  pub octets : Octets
  pub is : given ≡ input.Esp octets

neither : (b : Bool) (A : Type 0) → b ≡ true → b ≡ false → A
neither b A one other = absurd cc

pub came_up : (meaning : Meaning) (entries : List Entry) (given : Input) (old : Machine) (table : Database) (s : OutputView) (trace : Trace) (new : Machine) (new_table : Database)
    → DoesInput meaning entries given old table s trace new new_table → goes_up s ≡ true → IsPacket given
came_up meaning entries (input.Ike from octets fresh) old table s trace new new_table is up = neither (goes_up s) _ up (steps_up meaning entries (ike.Message from octets fresh) old table s trace new new_table is)
came_up meaning entries (input.Start serial entry fresh) old table s trace new new_table is up = neither (goes_up s) _ up (steps_up meaning entries (ike.Start serial entry fresh) old table s trace new new_table is)
came_up meaning entries (input.Probe serial fresh) old table s trace new new_table is up = neither (goes_up s) _ up (steps_up meaning entries (ike.Order (orders.Probe serial) fresh) old table s trace new new_table is)
came_up meaning entries (input.DeleteChild serial fresh) old table s trace new new_table is up =
    neither (goes_up s) _ up (steps_up meaning entries (ike.Order (orders.DeleteChild serial) fresh) old table s trace new new_table is)
came_up meaning entries (input.DeleteIke serial fresh) old table s trace new new_table is up =
    neither (goes_up s) _ up (steps_up meaning entries (ike.Order (orders.DeleteIke serial) fresh) old table s trace new new_table is)
came_up meaning entries (input.Secret secret) old table s trace new new_table is up = neither (goes_up s) _ up (steps_up meaning entries (ike.Secret secret) old table s trace new new_table is)
came_up meaning entries (input.Tick moment) old table s trace new new_table is up = neither (goes_up s) _ up (steps_up meaning entries (ike.Tick moment) old table s trace new new_table is)
came_up meaning entries (input.Esp octets) old table s trace new new_table is up = record { octets = octets; is = refl }
came_up meaning entries (input.Outward packet) old table s trace new new_table is up = neither (goes_up s) _ up (sends_up entries table packet s new_table is.1)
came_up meaning entries (input.Inward packet) old table s trace new new_table is up =
    neither (goes_up s) _ up (ap goes_up is.1.output ∙ admitted_up entries packet is.1.outcome is.1.admits)

one_outcome : (a b : Outcome) → Some a ≡ Some b → a ≡ b
one_outcome a b is = cc

-- what is said tells the outcome
pub told_outcome : (s : OutputView) (a b : Outcome) → s ≡ view_of_outcome a → s ≡ view_of_outcome b → a ≡ b
told_outcome s a b one other = one_outcome a b (sym (outcome_back a) ∙ ap outcome_of_said (sym one ∙ other) ∙ outcome_back b)

there_too : {C : Type 0} (ps : List (Passage C)) (place : ℕ) (p : Passage C) → slice_get ps place ≡ Some p → slice_get (table_passages ps) place ≡ Some (table_passage p)
there_too {C} ps place p there = slice_get-map table_passage ps place ∙ ap (option_map table_passage) there

module _ {C : Type 0} (facts : DeliveryFacts) (meaning_of : C → Meaning) where
  to_gateway : (child number : ℕ) (p : Passage C) → IsPassage meaning_of p → IsJudgedAs child number (table_passage p) → JudgesOne child number p
  to_gateway child number p is j =
      let given = received_given p.given p.said j.reception j.received in
      record { octets = j.reception.packet; judges = record { given = given; takes = j.takes; kept = (came meaning_of j.reception.packet p is given).kept } }

  to_table : (child number : ℕ) (p : Passage C) → IsPassage meaning_of p → JudgesOne child number p → IsJudgedAs child number (table_passage p)
  to_table child number p is one =
      let t = takes_packet one.octets p one.judges.given (came meaning_of one.octets p is one.judges.given) in
      record { reception = record { packet = one.octets; outcome = t.outcome }; received = t.received; takes = one.judges.takes }

  judged_up : (child number : ℕ) (p : Passage C) (outcome : Outcome) → IsPassage meaning_of p → p.said ≡ view_of_outcome outcome → goes_up (view_of_outcome outcome) ≡ true
      → ((octets : Octets) → Receives p.before.table octets outcome p.after.table → TakesNumberAt p.before.table octets child number p.after.table) → JudgesOne child number p
  judged_up child number p outcome is said up takes =
      let packet = came_up (meaning_of p.before.caller) p.before.entries p.given p.before.machine p.before.table p.said is.steps.trace p.after.machine p.after.table is.steps.traces.does (ap goes_up said ∙ up) in
      let c = came meaning_of packet.octets p is packet.is in
      record {
        octets = packet.octets;
        judges = record {
          given = packet.is;
          takes = takes packet.octets (subst (λ (o : Outcome). Receives p.before.table packet.octets o p.after.table) (told_outcome p.said c.outcome outcome c.said said) c.receives);
          kept = c.kept;
        };
      }

  module _ (old new : State C) (ps : List (Passage C)) (trail : IsTrail meaning_of old ps new) where
    passage_at : (place : ℕ) (p : Passage C) → slice_get ps place ≡ Some p → IsPassage meaning_of p
    passage_at place p there = (at_place meaning_of old new ps place p trail there).passage

    all_judged : PacketsAreJudged (table_passages ps)
    all_judged = facts.judged old.table new.table (table_passages ps) (table_trail facts meaning_of old ps new trail)

    takes_at : (place : ℕ) (octets : Octets) (p : Passage C) → slice_get ps place ≡ Some p → p.given ≡ input.Esp octets → TakesPacket octets p
    takes_at place octets p there given = takes_packet octets p given (came meaning_of octets p (passage_at place p there) given)

    answered : (place child number : ℕ) (p : Passage C) (octets : Octets) (pair : Pair) → slice_get ps place ≡ Some p → p.given ≡ input.Esp octets → IsJudgedAs child number (table_passage p)
        → pair_at p.before.table.pairs child ≡ Some pair → SaysDue child number pair octets p.said
    answered place child number p octets pair there given j stands =
        let t = takes_at place octets p there given in
        record {
          outcome = t.outcome;
          said = t.said;
          due = (all_judged.children child).answered place number (table_passage p) (record { packet = octets; outcome = t.outcome }) pair (there_too ps place p there) j t.received stands;
        }

    otherwise : (place : ℕ) (octets : Octets) (p : Passage C) → slice_get ps place ≡ Some p → p.given ≡ input.Esp octets → ((child number : ℕ) → ¬ JudgesOne child number p) → TurnsAway p
    otherwise place octets p there given none =
        let t = takes_at place octets p there given in
        let away = all_judged.otherwise place (table_passage p) (record { packet = octets; outcome = t.outcome }) (there_too ps place p there) t.received
        (λ child number j. none child number (to_gateway child number p (passage_at place p there) j)) in
        record {
          fault = away.fault;
          said = t.said ∙ ap view_of_outcome away.dropped;
          before_judging = away.before_judging;
          unchanged = t.kept ∙ ap (λ (d : Database). record p.before { table = d }) away.unchanged;
        }

    as_sent : (child : ℕ) (sent : numbers.FinMap nat_cmp Octets) → Unforged child (table_passages ps) (all_judged.children child).numbers sent → (place number : ℕ) (octets : Octets) (p : Passage C) (pair : Pair)
        → slice_get ps place ≡ Some p → JudgesOne child number p → pair_at p.before.table.pairs child ≡ Some pair → numbers.get sent number ≡ Some octets → SaysDue child number pair octets p.said
    as_sent child sent unforged place number octets p pair there one stands sent_so =
        let t = takes_at place one.octets p there one.judges.given in
        record {
          outcome = t.outcome;
          said = t.said;
          due = (all_judged.children child).as_sent sent unforged place number (table_passage p) (record { packet = one.octets; outcome = t.outcome }) pair octets (there_too ps place p there)
              (to_table child number p (passage_at place p there) one) t.received stands sent_so;
        }

    gone : (first place child number : ℕ) (p q : Passage C) → first ≤ place → slice_get ps first ≡ Some p → slice_get ps place ≡ Some q → child < p.before.table.next
        → pair_at p.before.table.pairs child ≡ None → ¬ JudgesOne child number q
    gone first place child number p q order at_first at_place below none one =
        (all_judged.children child).gone first place number (table_passage p) (table_passage q) order (there_too ps first p at_first) (there_too ps place q at_place) below none
        (to_table child number q (passage_at place q at_place) one)

    pub packets_kept : PacketsAreDelivered ps
    packets_kept = record {
      packet = takes_at;
      judged = all_judged;
      judges = λ place child number p there. (to_gateway child number p (passage_at place p there), to_table child number p (passage_at place p there));
      once = λ place other child number p q there too one two.
          (all_judged.children child).once place other number (table_passage p) (table_passage q) (there_too ps place p there) (there_too ps other q too)
          (to_table child number p (passage_at place p there) one) (to_table child number q (passage_at other q too) two);
      answered = λ place child number octets p pair there j stands.
          answered place child number p octets pair there j.given (to_table child number p (passage_at place p there) (record { octets = octets; judges = j })) stands;
      up = λ place child number inner p there said.
          judged_up child number p (traffic.Up child number inner) (passage_at place p there) said refl (λ octets is. facts.up p.before.table p.after.table octets inner child number is);
      dummy = λ place child number p there said.
          judged_up child number p (traffic.Dummy child number) (passage_at place p there) said refl (λ octets is. facts.dummy p.before.table p.after.table octets child number is);
      otherwise = otherwise;
      at_first = λ child sent unforged place number p there.
          let both = (all_judged.children child).exactly_at_first sent unforged place number (table_passage p) (there_too ps place p there) in
          (λ one. both.0 (to_table child number p (passage_at place p there) one), λ first. to_gateway child number p (passage_at place p there) (both.1 first));
      gone = gone;
      as_sent = as_sent;
    }
