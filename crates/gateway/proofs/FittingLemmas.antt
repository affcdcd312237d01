-- What a step sends and makes fits the memory that is kept for it.
use Rattle.std.proofs.Common.{◌≡◌, ◌≤◌, ℕ, true, false, All, List, Option, Some, None, length, refl, sym, subst, inl, inr, arith}
use Rattle.base.specs.Octets.{Octets}
use Rattle.wire.specs.Numbers.{MESSAGE_LIMIT}
use Rattle.esp.specs.declared.sa.Sa.{Sa}
use Rattle.esp.specs.Sealing.{FitsPacket, IsShortestPacket}
use Rattle.esp.specs.Worked.{IsOpenable}
use Rattle.policy.specs.declared.entry.Entry.{Entry}
use Rattle.sadb.specs.Database.{pair_at, Database, IsSoundTable, PairMap}
use Rattle.sadb.specs.declared.pair.Pair.{Pair}
use Rattle.children.specs.Pairs.{HasFewSelectors}
use Rattle.effects.specs.Taking.{Meaning}
use Rattle.ike.specs.Machines.{Machine}
use Rattle.ike.specs.Outputs.{no_trace, octets_in}
use Rattle.ike.specs.Soundness.{IsSoundMachine}
use Rattle.ike.specs.Steps as ike
use Rattle.ike.specs.Orders as orders
use Rattle.ike.specs.declared.output.IkeOutput.{IkeOutput}
use Rattle.ike.specs.declared.output.IkeOutput.TheVariants as made
use Rattle.ike.specs.declared.output.MadeChild.{MadeChild}
use Rattle.ike.specs.declared.output.Stepped.{Stepped}
use Rattle.ike.specs.declared.output.Trace.{Trace}
use Rattle.moments.specs.Due.{outstanding_count}
use Rattle.moments.specs.declared.resent.Resent.{Resent}
use Rattle.moments.specs.declared.ticking.Ticked.{Ticked}
use Rattle.traffic.specs.Admitting.{Admits}
use Rattle.traffic.specs.Outcomes as traffic
use Rattle.traffic.specs.Receiving.{Receives}
use Rattle.traffic.specs.Sending.{Sends}
use Rattle.gateway.specs.Inputs.{Input}
use Rattle.gateway.specs.Inputs as input
use Rattle.gateway.specs.Outputs.{view_of_ike, view_of_outcome, FewAgain, FewSelectors, FitsChild, FitsDatagram, OutputView}
use Rattle.gateway.specs.States.{State}
use Rattle.gateway.specs.Storing.{again_by}
use Rattle.gateway.specs.Steps.{DoesInput, SendsPacket, StepsIke, Traces}

-- what the crates below say
pub record SentLaws : Type 0 where
  pub short : (meaning : Meaning) (entries : List Entry) (given : ike.InputView) (old : Machine) (table : Database) (stepped : Stepped) (new : Machine) (new_table : Database) (octets : Octets)
      → IsSoundMachine old table → ike.Steps meaning entries given old table stepped new new_table → octets_in stepped.output ≡ Some octets → length octets ≤ MESSAGE_LIMIT
  pub again : (meaning : Meaning) (entries : List Entry) (given : ike.InputView) (old : Machine) (table : Database) (stepped : Stepped) (new : Machine) (new_table : Database) (ticked : Ticked)
      → IsSoundMachine old table → ike.Steps meaning entries given old table stepped new new_table → stepped.output ≡ made.Ticked ticked → All (λ (r : Resent). length r.octets ≤ MESSAGE_LIMIT) ticked.requests
  pub openable : (a : Sa) (n next : ℕ) (payload b : List ℕ) → IsShortestPacket a n next payload b → FitsPacket payload → IsOpenable a n next payload b

said_fits : (output : IkeOutput) → ((octets : Octets) → octets_in output ≡ Some octets → length octets ≤ MESSAGE_LIMIT)
    → ((ticked : Ticked) → output ≡ made.Ticked ticked → All (λ (r : Resent). length r.octets ≤ MESSAGE_LIMIT) ticked.requests) → FitsDatagram (view_of_ike output)
said_fits (made.Reply octets closed) short again = let few = short octets refl in omega arith
said_fits (made.Repeat octets) short again = let few = short octets refl in omega arith
said_fits (made.Request serial octets) short again = let few = short octets refl in omega arith
said_fits (made.Counted serial child closed) short again = tt
said_fits (made.Ticked ticked) short again = again ticked refl
said_fits made.Done short again = tt
said_fits (made.Dropped fault) short again = tt

by_ike_fits : (laws : SentLaws) (meaning : Meaning) (entries : List Entry) (given : ike.InputView) (old : Machine) (table : Database) (s : OutputView) (trace : Trace) (new : Machine) (new_table : Database)
    → IsSoundMachine old table → StepsIke meaning entries given old table s trace new new_table → FitsDatagram s
by_ike_fits laws meaning entries given old table s trace new new_table sound (inl a) =
    subst FitsDatagram (sym a.output) (said_fits a.stepped.output (λ octets is. laws.short meaning entries given old table a.stepped new new_table octets sound a.steps is)
    (λ ticked is. laws.again meaning entries given old table a.stepped new new_table ticked sound a.steps is))
by_ike_fits laws meaning entries given old table s trace new new_table sound (inr r) = subst FitsDatagram (sym r.output) tt

received_fits : (old : Database) (packet : Octets) (outcome : traffic.Outcome) (new : Database) → Receives old packet outcome new → FitsDatagram (view_of_outcome outcome)
received_fits old packet (traffic.Up child number inner) new is = tt
received_fits old packet (traffic.Dummy child number) new is = tt
received_fits old packet (traffic.Sealed child number octets) new is = absurd is
received_fits old packet (traffic.Clear octets) new is = absurd is
received_fits old packet traffic.Discarded new is = absurd is
received_fits old packet (traffic.Dropped fault) new is = tt

packet_fits : (laws : SentLaws) (a : Sa) (n next : ℕ) (payload packet octets : List ℕ) → octets ≡ packet → IsShortestPacket a n next payload packet → FitsPacket payload → length octets ≤ 16664
packet_fits laws a n next payload packet octets same shortest fits =
    subst (λ (b : List ℕ). length b ≤ 16664) (sym same) (laws.openable a n next payload packet shortest fits).whole.most

sent_fits : (laws : SentLaws) (entries : List Entry) (old : Database) (packet : Octets) (outcome : traffic.Outcome) (new : Database) → Sends old entries packet outcome new → FitsDatagram (view_of_outcome outcome)
sent_fits laws entries old packet (traffic.Up child number inner) new is = tt
sent_fits laws entries old packet (traffic.Dummy child number) new is = tt
sent_fits laws entries old packet (traffic.Sealed child number octets) new is =
    let seals = is.protects.sealed.sealed in
    packet_fits laws is.protects.sealed.pair.outbound.association number _ packet seals.packet octets seals.appended seals.shortest seals.fits
sent_fits laws entries old packet (traffic.Clear octets) new is = tt
sent_fits laws entries old packet traffic.Discarded new is = tt
sent_fits laws entries old packet (traffic.Dropped fault) new is = tt

sends_fit : (laws : SentLaws) (entries : List Entry) (old : Database) (packet : Octets) (s : OutputView) (new : Database) → SendsPacket entries old packet s new → FitsDatagram s
sends_fit laws entries old packet s new (inl m) = subst FitsDatagram (sym m.output) (sent_fits laws entries old packet m.outcome new m.sends)
sends_fit laws entries old packet s new (inr m) = subst FitsDatagram (sym m.output) tt

admitted_fits : (entries : List Entry) (packet : Octets) (outcome : traffic.Outcome) → Admits entries packet outcome → FitsDatagram (view_of_outcome outcome)
admitted_fits entries packet (traffic.Up child number inner) is = tt
admitted_fits entries packet (traffic.Dummy child number) is = tt
admitted_fits entries packet (traffic.Sealed child number octets) is = absurd is
admitted_fits entries packet (traffic.Clear octets) is = tt
admitted_fits entries packet traffic.Discarded is = tt
admitted_fits entries packet (traffic.Dropped fault) is = tt

input_fits : (laws : SentLaws) (meaning : Meaning) (entries : List Entry) (given : Input) (old : Machine) (table : Database) (s : OutputView) (trace : Trace) (new : Machine) (new_table : Database)
    → IsSoundMachine old table → DoesInput meaning entries given old table s trace new new_table → FitsDatagram s
input_fits laws meaning entries (input.Ike from octets fresh) old table s trace new new_table sound is = by_ike_fits laws meaning entries (ike.Message from octets fresh) old table s trace new new_table sound is
input_fits laws meaning entries (input.Start serial entry fresh) old table s trace new new_table sound is = by_ike_fits laws meaning entries (ike.Start serial entry fresh) old table s trace new new_table sound is
input_fits laws meaning entries (input.Probe serial fresh) old table s trace new new_table sound is = by_ike_fits laws meaning entries (ike.Order (orders.Probe serial) fresh) old table s trace new new_table sound is
input_fits laws meaning entries (input.DeleteChild serial fresh) old table s trace new new_table sound is = by_ike_fits laws meaning entries (ike.Order (orders.DeleteChild serial) fresh) old table s trace new new_table sound is
input_fits laws meaning entries (input.DeleteIke serial fresh) old table s trace new new_table sound is = by_ike_fits laws meaning entries (ike.Order (orders.DeleteIke serial) fresh) old table s trace new new_table sound is
input_fits laws meaning entries (input.Secret secret) old table s trace new new_table sound is = by_ike_fits laws meaning entries (ike.Secret secret) old table s trace new new_table sound is
input_fits laws meaning entries (input.Tick moment) old table s trace new new_table sound is = by_ike_fits laws meaning entries (ike.Tick moment) old table s trace new new_table sound is
input_fits laws meaning entries (input.Esp octets) old table s trace new new_table sound is =
    subst FitsDatagram (sym is.1.output) (received_fits table octets is.1.outcome new_table is.1.receives)
input_fits laws meaning entries (input.Outward packet) old table s trace new new_table sound is = sends_fit laws entries table packet s new_table is.1
input_fits laws meaning entries (input.Inward packet) old table s trace new new_table sound is =
    subst FitsDatagram (sym is.1.output) (admitted_fits entries packet is.1.outcome is.1.admits)

pub step_fits : {C : Type 0} (laws : SentLaws) (meaning : Meaning) (given : Input) (s : OutputView) (trace : Trace) (old new : State C)
    → IsSoundMachine old.machine old.table → Traces meaning given old s trace new → FitsDatagram s
step_fits {C} laws meaning given s trace old new sound is = input_fits laws meaning old.entries given old.machine old.table s trace new.machine new.table sound is.does

-- what the machine of IKE says of requests that go out again
abbrev pub AgainLaw : Type 0
AgainLaw =
    (meaning : Meaning) (entries : List Entry) (given : ike.InputView) (old : Machine) (table : Database) (stepped : Stepped) (new : Machine) (new_table : Database) (ticked : Ticked)
    → ike.Steps meaning entries given old table stepped new new_table → stepped.output ≡ made.Ticked ticked → (ike.is_tick given ≡ true) × (length ticked.requests ≤ outstanding_count old.held.associations)

few_said : (output : IkeOutput) (most : ℕ) → ((ticked : Ticked) → output ≡ made.Ticked ticked → length ticked.requests ≤ most) → FewAgain (view_of_ike output) most
few_said (made.Reply octets closed) most few = tt
few_said (made.Repeat octets) most few = tt
few_said (made.Request serial octets) most few = tt
few_said (made.Counted serial child closed) most few = tt
few_said (made.Ticked ticked) most few = few ticked refl
few_said made.Done most few = tt
few_said (made.Dropped fault) most few = tt

few_by_ike : (law : AgainLaw) (meaning : Meaning) (entries : List Entry) (given : ike.InputView) (old : Machine) (table : Database) (s : OutputView) (trace : Trace) (new : Machine) (new_table : Database) (most : ℕ)
    → ((count : ℕ) → ike.is_tick given ≡ true → count ≤ outstanding_count old.held.associations → count ≤ most) → StepsIke meaning entries given old table s trace new new_table → FewAgain s most
few_by_ike law meaning entries given old table s trace new new_table most bound (inl a) =
    subst (λ (x : OutputView). FewAgain x most) (sym a.output)
    (few_said a.stepped.output most (λ ticked is.
    let few = law meaning entries given old table a.stepped new new_table ticked a.steps is in
    bound (length ticked.requests) few.0 few.1))
few_by_ike law meaning entries given old table s trace new new_table most bound (inr r) = subst (λ (x : OutputView). FewAgain x most) (sym r.output) tt

no_tick : (count most held : ℕ) → false ≡ true → count ≤ held → count ≤ most
no_tick count most held e less = absurd cc

few_of_outcome : (outcome : traffic.Outcome) (most : ℕ) → FewAgain (view_of_outcome outcome) most
few_of_outcome (traffic.Up child number inner) most = tt
few_of_outcome (traffic.Dummy child number) most = tt
few_of_outcome (traffic.Sealed child number octets) most = tt
few_of_outcome (traffic.Clear octets) most = tt
few_of_outcome traffic.Discarded most = tt
few_of_outcome (traffic.Dropped fault) most = tt

few_sent : (entries : List Entry) (old : Database) (packet : Octets) (s : OutputView) (new : Database) (most : ℕ) → SendsPacket entries old packet s new → FewAgain s most
few_sent entries old packet s new most (inl m) = subst (λ (x : OutputView). FewAgain x most) (sym m.output) (few_of_outcome m.outcome most)
few_sent entries old packet s new most (inr m) = subst (λ (x : OutputView). FewAgain x most) (sym m.output) tt

input_few : (law : AgainLaw) (meaning : Meaning) (entries : List Entry) (given : Input) (old : Machine) (table : Database) (s : OutputView) (trace : Trace) (new : Machine) (new_table : Database)
    → DoesInput meaning entries given old table s trace new new_table → FewAgain s (again_by given old)
input_few law meaning entries (input.Ike from octets fresh) old table s trace new new_table is =
    few_by_ike law meaning entries (ike.Message from octets fresh) old table s trace new new_table 0 (λ n e less. no_tick n 0 (outstanding_count old.held.associations) e less) is
input_few law meaning entries (input.Start serial entry fresh) old table s trace new new_table is =
    few_by_ike law meaning entries (ike.Start serial entry fresh) old table s trace new new_table 0 (λ n e less. no_tick n 0 (outstanding_count old.held.associations) e less) is
input_few law meaning entries (input.Probe serial fresh) old table s trace new new_table is =
    few_by_ike law meaning entries (ike.Order (orders.Probe serial) fresh) old table s trace new new_table 0 (λ n e less. no_tick n 0 (outstanding_count old.held.associations) e less) is
input_few law meaning entries (input.DeleteChild serial fresh) old table s trace new new_table is =
    few_by_ike law meaning entries (ike.Order (orders.DeleteChild serial) fresh) old table s trace new new_table 0 (λ n e less. no_tick n 0 (outstanding_count old.held.associations) e less) is
input_few law meaning entries (input.DeleteIke serial fresh) old table s trace new new_table is =
    few_by_ike law meaning entries (ike.Order (orders.DeleteIke serial) fresh) old table s trace new new_table 0 (λ n e less. no_tick n 0 (outstanding_count old.held.associations) e less) is
input_few law meaning entries (input.Secret secret) old table s trace new new_table is =
    few_by_ike law meaning entries (ike.Secret secret) old table s trace new new_table 0 (λ n e less. no_tick n 0 (outstanding_count old.held.associations) e less) is
input_few law meaning entries (input.Tick moment) old table s trace new new_table is =
    few_by_ike law meaning entries (ike.Tick moment) old table s trace new new_table (outstanding_count old.held.associations) (λ n e less. less) is
input_few law meaning entries (input.Esp octets) old table s trace new new_table is = subst (λ (x : OutputView). FewAgain x 0) (sym is.1.output) (few_of_outcome is.1.outcome 0)
input_few law meaning entries (input.Outward packet) old table s trace new new_table is = few_sent entries table packet s new_table 0 is.1
input_few law meaning entries (input.Inward packet) old table s trace new new_table is = subst (λ (x : OutputView). FewAgain x 0) (sym is.1.output) (few_of_outcome is.1.outcome 0)

pub step_few : {C : Type 0} (law : AgainLaw) (meaning : Meaning) (given : Input) (s : OutputView) (trace : Trace) (old new : State C) → Traces meaning given old s trace new → FewAgain s (again_by given old.machine)
step_few {C} law meaning given s trace old new is = input_few law meaning old.entries given old.machine old.table s trace new.machine new.table is.does

-- what the machine of IKE says of the Child SA that a step made
pub record MadeLaws : Type 0 where
  pub few : (meaning : Meaning) (entries : List Entry) (given : ike.InputView) (old : Machine) (table : Database) (stepped : Stepped) (new : Machine) (new_table : Database) (child : MadeChild) (pair : Pair)
      → IsSoundTable table → IsSoundMachine old table → ike.Steps meaning entries given old table stepped new new_table → stepped.trace.child ≡ Some child → pair_at new_table.pairs child.serial ≡ Some pair → HasFewSelectors pair

few_in : (o : Option Pair) → ((pair : Pair) → o ≡ Some pair → HasFewSelectors pair) → FewSelectors o
few_in None few = tt
few_in (Some pair) few = few pair refl

made_fits : (child : Option MadeChild) (pairs : PairMap) → ((m : MadeChild) → child ≡ Some m → FewSelectors (pair_at pairs m.serial)) → FitsChild child pairs
made_fits None pairs few = tt
made_fits (Some m) pairs few = few m refl

none_fits : (trace : Trace) (pairs : PairMap) → trace ≡ no_trace → FitsChild trace.child pairs
none_fits trace pairs is = subst (λ (t : Trace). FitsChild t.child pairs) (sym is) tt

by_ike_made : (laws : MadeLaws) (meaning : Meaning) (entries : List Entry) (given : ike.InputView) (old : Machine) (table : Database) (s : OutputView) (trace : Trace) (new : Machine) (new_table : Database)
    → IsSoundTable table → IsSoundMachine old table → StepsIke meaning entries given old table s trace new new_table → FitsChild trace.child new_table.pairs
by_ike_made laws meaning entries given old table s trace new new_table sound_table sound (inl a) =
    subst (λ (t : Trace). FitsChild t.child new_table.pairs) (sym a.traced)
    (made_fits a.stepped.trace.child new_table.pairs (λ child is. few_in (pair_at new_table.pairs child.serial) (λ pair there. laws.few meaning entries given old table a.stepped new new_table child pair sound_table sound a.steps is there)))
by_ike_made laws meaning entries given old table s trace new new_table sound_table sound (inr r) = none_fits trace new_table.pairs r.traced

input_made : (laws : MadeLaws) (meaning : Meaning) (entries : List Entry) (given : Input) (old : Machine) (table : Database) (s : OutputView) (trace : Trace) (new : Machine) (new_table : Database)
    → IsSoundTable table → IsSoundMachine old table → DoesInput meaning entries given old table s trace new new_table → FitsChild trace.child new_table.pairs
input_made laws meaning entries (input.Ike from octets fresh) old table s trace new new_table st sm is = by_ike_made laws meaning entries (ike.Message from octets fresh) old table s trace new new_table st sm is
input_made laws meaning entries (input.Start serial entry fresh) old table s trace new new_table st sm is = by_ike_made laws meaning entries (ike.Start serial entry fresh) old table s trace new new_table st sm is
input_made laws meaning entries (input.Probe serial fresh) old table s trace new new_table st sm is = by_ike_made laws meaning entries (ike.Order (orders.Probe serial) fresh) old table s trace new new_table st sm is
input_made laws meaning entries (input.DeleteChild serial fresh) old table s trace new new_table st sm is = by_ike_made laws meaning entries (ike.Order (orders.DeleteChild serial) fresh) old table s trace new new_table st sm is
input_made laws meaning entries (input.DeleteIke serial fresh) old table s trace new new_table st sm is = by_ike_made laws meaning entries (ike.Order (orders.DeleteIke serial) fresh) old table s trace new new_table st sm is
input_made laws meaning entries (input.Secret secret) old table s trace new new_table st sm is = by_ike_made laws meaning entries (ike.Secret secret) old table s trace new new_table st sm is
input_made laws meaning entries (input.Tick moment) old table s trace new new_table st sm is = by_ike_made laws meaning entries (ike.Tick moment) old table s trace new new_table st sm is
input_made laws meaning entries (input.Esp octets) old table s trace new new_table st sm is = none_fits trace new_table.pairs is.0.traced
input_made laws meaning entries (input.Outward packet) old table s trace new new_table st sm is = none_fits trace new_table.pairs is.0.traced
input_made laws meaning entries (input.Inward packet) old table s trace new new_table st sm is = none_fits trace new_table.pairs is.0.traced

pub step_made : {C : Type 0} (laws : MadeLaws) (meaning : Meaning) (given : Input) (s : OutputView) (trace : Trace) (old new : State C)
    → IsSoundTable old.table → IsSoundMachine old.machine old.table → Traces meaning given old s trace new → FitsChild trace.child new.table.pairs
step_made {C} laws meaning given s trace old new st sm is = input_made laws meaning old.entries given old.machine old.table s trace new.machine new.table st sm is.does
