-- What a step of a gateway does to each of its IKE SAs, as moves.
use Rattle.std.proofs.Common.{◌≡◌, ◌⊎◌, ◌≤◌, ◌∷◌, ℕ, Bool, true, false, List, [], Option, Some, None, Contains, length, ap, subst, refl, sym, ◌∙◌, arith, inl, inr}
use Rattle.std.specs.Prelude.{option_and_then}
use Rattle.std.specs.List.{AllByRecursion}
use Rattle.std.proofs.lemmas.List.Elements.{All-contains, All-from_recursion, Contains-append_left, Contains-append_right}
use Rattle.base.specs.Octets.{Octets}
use Rattle.policy.specs.declared.entry.Entry as policy
use Rattle.suite.specs.declared.key_record.KeyRecord.{KeyRecord}
use Rattle.sadb.specs.Database.{Database, IsSoundTable}
use Rattle.association.specs.Phases.{keys_in}
use Rattle.association.specs.declared.phase.Association.{Association}
use Rattle.moments.specs.declared.resent.Resent.{Resent}
use Rattle.effects.specs.Moves.{Close, Count, Issue, Lead, Make, Move, Remove, TakeEffect}
use Rattle.effects.specs.Taking.{Meaning}
use Rattle.ike.specs.Machines.{association_of, keys_of_serial, Held, Machine}
use Rattle.ike.specs.Moves.{ledger_at, ComesFor, IsSentBy, MoveComes, MovesAt, Tells}
use Rattle.ike.specs.Outputs.{no_trace, octets_in}
use Rattle.ike.specs.Soundness.{IsSoundMachine}
use Rattle.ike.specs.Steps as ike
use Rattle.ike.specs.Orders as orders
use Rattle.ike.specs.declared.output.IkeOutput.{IkeOutput}
use Rattle.ike.specs.declared.output.IkeOutput.TheVariants as output
use Rattle.ike.specs.declared.output.Mark as marks
use Rattle.ike.specs.declared.output.Stepped.{Stepped}
use Rattle.ike.specs.declared.output.Trace.{Trace}
use Rattle.lockstep.specs.Ends.{request_of, response_of, sent_in, Entry, GoesOutAgain}
use Rattle.lockstep.specs.Ends as ends
use Rattle.lockstep.specs.Histories.{AreGenuine, HasRequest, HasResponse}
use Rattle.gateway.specs.Inputs.{Input}
use Rattle.gateway.specs.Inputs as input
use Rattle.gateway.specs.Outputs.{view_of_ike, wants_memory, OutputView, Refused, Repeat, Reply, Request, Ticked}
use Rattle.gateway.specs.Requests.{for_ike}
use Rattle.gateway.specs.States.{State}
use Rattle.gateway.specs.Steps.{DoesInput, StepsIke}
use Rattle.gateway.specs.declared.fault.Reason.{Reason}
use Rattle.gateway.specs.declared.fault.Reason.TheVariants as reason
use Rattle.gateway.proofs.HistoryLemmas.{answered, does_way, elsewhere, refused, IkeWay, IsOfPacket}
use Rattle.gateway.proofs.PartyLemmas.{at_head, at_head_or_further, further_on, none_some, none_there}
use Rattle.gateway.proofs.ToldLemmas.{none_told, ticked_by, AgainLaw, TraceLaw}

-- ---- what moves send

-- a request that is issued, or a reply by which one is processed
abbrev SentBy : List Move → Entry → Type 0
SentBy moves entry =
    ((entry.response ≡ false) × Contains moves (Issue entry.number entry.octets)) ⊎ ((entry.response ≡ true) × Contains moves (TakeEffect entry.number entry.octets))

sent_later : (move : Move) (moves : List Move) (entry : Entry) → SentBy moves entry → SentBy (move ∷ moves) entry
sent_later move moves entry (inl is) = inl (is.0, further_on move moves (Issue entry.number entry.octets) is.1)
sent_later move moves entry (inr is) = inr (is.0, further_on move moves (TakeEffect entry.number entry.octets) is.1)

sent_cases : (moves : List Move) (entry : Entry) → Contains (sent_in moves) entry → SentBy moves entry
sent_cases [] entry there = absurd (none_there entry there)
sent_cases (Make keys ∷ moves) entry there = sent_later (Make keys) moves entry (sent_cases moves entry there)
sent_cases (Issue number octets ∷ moves) entry there = elim (at_head_or_further (request_of number octets) (sent_in moves) entry there) [
  | inl same ↦ subst (λ (e : Entry). SentBy (Issue number octets ∷ moves) e) same (inl (refl, at_head (Issue number octets) moves))
  | inr further ↦ sent_later (Issue number octets) moves entry (sent_cases moves entry further)
]
sent_cases (Count number ∷ moves) entry there = sent_later (Count number) moves entry (sent_cases moves entry there)
sent_cases (TakeEffect number reply ∷ moves) entry there = elim (at_head_or_further (response_of number reply) (sent_in moves) entry there) [
  | inl same ↦ subst (λ (e : Entry). SentBy (TakeEffect number reply ∷ moves) e) same (inr (refl, at_head (TakeEffect number reply) moves))
  | inr further ↦ sent_later (TakeEffect number reply) moves entry (sent_cases moves entry further)
]
sent_cases (Close ∷ moves) entry there = sent_later Close moves entry (sent_cases moves entry there)
sent_cases (Remove ∷ moves) entry there = sent_later Remove moves entry (sent_cases moves entry there)

sent_among : (moves : List Move) (move : Move) (entry : Entry) → Contains moves move → Contains (ends.sent_by move) entry → Contains (sent_in moves) entry
sent_among [] move entry there by = absurd (none_there move there)
sent_among (m ∷ moves) move entry there by = elim (at_head_or_further m moves move there) [
  | inl same ↦ Contains-append_left (ends.sent_by m) (sent_in moves) entry (subst (λ (x : Move). Contains (ends.sent_by x) entry) (sym same) by)
  | inr further ↦ Contains-append_right (ends.sent_by m) (sent_in moves) entry (sent_among moves move entry further by)
]

-- ---- what moves take

abbrev pub HasTaken : List Entry → Bool → ℕ → Type 0
HasTaken others true number = HasResponse others number
HasTaken others false number = HasRequest others number

moves_genuine : (others : List Entry) (meaning : Meaning) (view : ike.InputView) (old : Held) (serial : ℕ) (moves : List Move) → AllByRecursion (MoveComes meaning view old serial) moves
    → ((response : Bool) (number : ℕ) → ComesFor meaning view old serial response number → HasTaken others response number) → AreGenuine others moves
moves_genuine others meaning view old serial [] came all = tt
moves_genuine others meaning view old serial (Make keys ∷ moves) came all = (tt, moves_genuine others meaning view old serial moves came.1 all)
moves_genuine others meaning view old serial (Issue number octets ∷ moves) came all = (tt, moves_genuine others meaning view old serial moves came.1 all)
moves_genuine others meaning view old serial (Count number ∷ moves) came all = (all true number came.0, moves_genuine others meaning view old serial moves came.1 all)
moves_genuine others meaning view old serial (TakeEffect number reply ∷ moves) came all = (all false number came.0, moves_genuine others meaning view old serial moves came.1 all)
moves_genuine others meaning view old serial (Close ∷ moves) came all = (tt, moves_genuine others meaning view old serial moves came.1 all)
moves_genuine others meaning view old serial (Remove ∷ moves) came all = (tt, moves_genuine others meaning view old serial moves came.1 all)

-- ---- what a step says

-- a message of IKE, but for requests that go out again
abbrev pub said_octets : OutputView → Option Octets
said_octets (Reply octets closed) = Some octets
said_octets (Repeat octets) = Some octets
said_octets (Request serial octets) = Some octets
said_octets _ = None

pub octets_same : (o : IkeOutput) → said_octets (view_of_ike o) ≡ octets_in o
octets_same (output.Reply octets closed) = refl
octets_same (output.Repeat octets) = refl
octets_same (output.Request serial octets) = refl
octets_same (output.Counted serial child closed) = refl
octets_same (output.Ticked ticked) = refl
octets_same output.Done = refl
octets_same (output.Dropped why) = refl

-- what the machine answers is no want of memory
pub wants_none : (o : IkeOutput) → wants_memory (view_of_ike o) ≡ false
wants_none (output.Reply octets closed) = refl
wants_none (output.Repeat octets) = refl
wants_none (output.Request serial octets) = refl
wants_none (output.Counted serial child closed) = refl
wants_none (output.Ticked ticked) = refl
wants_none output.Done = refl
wants_none (output.Dropped why) = refl

-- the message goes out by this step, and its trace names it
pub record GoesOut (s : OutputView) (trace : Trace) (serial : ℕ) (entry : Entry) : Type 0 where
  pub octets : said_octets s ≡ Some entry.octets
  pub marked : trace.sent ≡ Some (record { ike = serial; response = entry.response; number = entry.number })

abbrev pub entry_of : marks.Mark → Octets → Entry
entry_of m octets = record { response = m.response; number = m.number; octets = octets }

-- the peer's message comes to the IKE SA with this serial
abbrev pub ComesHere : Meaning → Option ike.InputView → Held → ℕ → Bool → ℕ → Type 0
ComesHere meaning None old serial response number = ⊥
ComesHere meaning (Some view) old serial response number = ComesFor meaning view old serial response number

-- the moves of one IKE SA by a step of a gateway
pub record EndMoves (meaning : Meaning) (given : Option ike.InputView) (old : Held) (s : OutputView) (trace : Trace) (new : Held) (serial : ℕ) : Type 0 where
  pub moves : List Move
  pub few : length moves ≤ 2
  pub lead : Lead moves (ledger_at old serial) (ledger_at new serial)
  pub come : (keys : KeyRecord) → Contains moves (Make keys) → trace.keyed ≡ Some serial
  pub goes_out : (entry : Entry) → Contains (sent_in moves) entry → GoesOut s trace serial entry
  pub sent : (m : marks.Mark) (octets : Octets) → trace.sent ≡ Some m → m.ike ≡ serial → said_octets s ≡ Some octets
      → (Contains (sent_in moves) (entry_of m octets)) ⊎ (GoesOutAgain (ledger_at old serial) (entry_of m octets))
  pub again : (requests : List Resent) (closed : List ℕ) (r : Resent) → s ≡ Ticked requests closed → Contains requests r → r.ike ≡ serial → r.encrypted ≡ true
      → GoesOutAgain (ledger_at old serial) (request_of r.number r.octets)
  pub genuine : (others : List Entry) → ((response : Bool) (number : ℕ) → wants_memory s ≡ false → ComesHere meaning given old serial response number → HasTaken others response number) → AreGenuine others moves

-- ---- by a step of the machine of IKE

module _ (meaning : Meaning) (view : ike.InputView) (old : Held) (stepped : Stepped) (new : Held) (serial : ℕ) (is : MovesAt meaning view old stepped new serial) where
  told_of : (move : Move) → Contains is.moves move → Tells view stepped serial move
  told_of move there = All-contains (Tells view stepped serial) is.moves move (All-from_recursion (Tells view stepped serial) is.moves is.told) there

  said_is : (octets : Octets) → octets_in stepped.output ≡ Some octets → said_octets (view_of_ike stepped.output) ≡ Some octets
  said_is octets out = octets_same stepped.output ∙ out

  goes_out_by : (entry : Entry) → SentBy is.moves entry → GoesOut (view_of_ike stepped.output) stepped.trace serial entry
  goes_out_by entry (inl issued) =
      let told = told_of (Issue entry.number entry.octets) issued.1 in
      record {
        octets = said_is entry.octets (ap octets_in told.0);
        marked = told.1 ∙ ap (λ (b : Bool). Some (record { ike = serial; response = b; number = entry.number })) (sym issued.0);
      }
  goes_out_by entry (inr taken) =
      let told = told_of (TakeEffect entry.number entry.octets) taken.1 in
      record {
        octets = said_is entry.octets (ap octets_in told.1);
        marked = told.2 ∙ ap (λ (b : Bool). Some (record { ike = serial; response = b; number = entry.number })) (sym taken.0);
      }

  sent_or_again : (m : marks.Mark) (octets : Octets) → IsSentBy is.moves (ledger_at old serial) stepped.output m octets
      → (Contains (sent_in is.moves) (entry_of m octets)) ⊎ (GoesOutAgain (ledger_at old serial) (entry_of m octets))
  sent_or_again m octets (inl issued) = inl (
      subst (λ (b : Bool). Contains (sent_in is.moves) (record { response = b; number = m.number; octets = octets })) (sym issued.0)
      (sent_among is.moves (Issue m.number octets) (request_of m.number octets) issued.1 (at_head (request_of m.number octets) [])))
  sent_or_again m octets (inr (response, inl taken)) = inl (
      subst (λ (b : Bool). Contains (sent_in is.moves) (record { response = b; number = m.number; octets = octets })) (sym response)
      (sent_among is.moves (TakeEffect m.number octets) (response_of m.number octets) taken (at_head (response_of m.number octets) [])))
  sent_or_again m octets (inr (response, inr repeats)) = inr (
      subst (λ (b : Bool). GoesOutAgain (ledger_at old serial) (record { response = b; number = m.number; octets = octets })) (sym response) repeats.kept)

  ike_moves : EndMoves meaning (Some view) old (view_of_ike stepped.output) stepped.trace new serial
  ike_moves = record {
    moves = is.moves;
    few = is.few;
    lead = is.lead;
    come = λ keys there. (told_of (Make keys) there).0;
    goes_out = λ entry there. goes_out_by entry (sent_cases is.moves entry there);
    sent = λ m octets named same out. sent_or_again m octets (is.no_more.sent m octets named same (sym (octets_same stepped.output) ∙ out));
    again = λ requests closed r said there same sealed.
        let t = ticked_by stepped.output requests closed said in
        is.no_more.again t.ticked r t.is (subst (λ (xs : List Resent). Contains xs r) (sym t.requests_are) there) same sealed;
    genuine = λ others all. moves_genuine others meaning view old serial is.moves is.came (λ response number comes. all response number (wants_none stepped.output) comes);
  }

-- ---- by any other step

still_moves : (meaning : Meaning) (given : Option ike.InputView) (old : Held) (s : OutputView) (trace : Trace) (new : Held) (serial : ℕ) → new ≡ old → trace ≡ no_trace
    → ((requests : List Resent) (closed : List ℕ) → s ≡ Ticked requests closed → ⊥) → EndMoves meaning given old s trace new serial
still_moves meaning given old s trace new serial same named never = record {
  moves = [];
  few = omega arith;
  lead = ap (λ (held : Held). ledger_at held serial) same;
  come = λ keys there. absurd (none_there (Make keys) there);
  goes_out = λ entry there. absurd (none_there entry there);
  sent = λ m octets is same out. absurd (none_told trace.sent m (ap (λ (t : Trace). t.sent) named) is);
  again = λ requests closed r said there same sealed. absurd (never requests closed said);
  genuine = λ others all. tt;
}

-- what is known of a step of the machine
pub record TurnLaws : Type 0 where
  pub moves : (meaning : Meaning) (entries : List policy.Entry) (view : ike.InputView) (old : Machine) (table : Database) (stepped : Stepped) (new : Machine) (new_table : Database) (serial : ℕ)
      → IsSoundMachine old table → ike.Steps meaning entries view old table stepped new new_table → MovesAt meaning view old.held stepped new.held serial
  pub traces : TraceLaw
  pub again : AgainLaw
  pub keys : (meaning : Meaning) (entries : List policy.Entry) (view : ike.InputView) (old : Machine) (table : Database) (stepped : Stepped) (new : Machine) (new_table : Database) (serial : ℕ) (keys : KeyRecord) (a : Association)
      → IsSoundTable table → IsSoundMachine old table → ike.Steps meaning entries view old table stepped new new_table
      → keys_of_serial serial old.held.associations ≡ Some keys → association_of serial new.held.associations ≡ Some a → keys_in a.phase ≡ Some keys

refused_never : (why : Reason) (requests : List Resent) (closed : List ℕ) → Refused why ≡ Ticked requests closed → ⊥
refused_never why requests closed is = cc

ike_step_moves : TurnLaws → (meaning : Meaning) (entries : List policy.Entry) (view : ike.InputView) (old : Machine) (table : Database) (s : OutputView) (trace : Trace) (new : Machine) (new_table : Database) (serial : ℕ)
    → IsSoundMachine old table → StepsIke meaning entries view old table s trace new new_table → EndMoves meaning (Some view) old.held s trace new.held serial
ike_step_moves laws meaning entries view old table s trace new new_table serial sound (inl a) =
    subst (λ (x : OutputView). EndMoves meaning (Some view) old.held x trace new.held serial) (sym a.output)
    (subst (λ (t : Trace). EndMoves meaning (Some view) old.held (view_of_ike a.stepped.output) t new.held serial) (sym a.traced)
    (ike_moves meaning view old.held a.stepped new.held serial (laws.moves meaning entries view old table a.stepped new new_table serial sound a.steps)))
ike_step_moves laws meaning entries view old table s trace new new_table serial sound (inr r) =
    still_moves meaning (Some view) old.held s trace new.held serial (ap (λ (m : Machine). m.held) r.machine) r.traced (λ requests closed said. refused_never (reason.Ike r.fault) requests closed (sym r.output ∙ said))

never_ticked : {C : Type 0} (meaning : Meaning) (given : Option ike.InputView) (old : State C) (s : OutputView) (new : State C) (requests : List Resent) (closed : List ℕ) → given ≡ None → IkeWay meaning given old s new
    → s ≡ Ticked requests closed → ⊥
never_ticked {C} meaning given old s new requests closed none (answered a) said = none_some a.view (sym none ∙ a.is)
never_ticked {C} meaning given old s new requests closed none (refused r) said = none_some r.view (sym none ∙ r.is)
never_ticked {C} meaning given old s new requests closed none (elsewhere e) said = subst (λ (x : OutputView). IsOfPacket x) said e.said

packet_moves : {C : Type 0} (meaning : Meaning) (given : Input) (old new : State C) (s : OutputView) (trace : Trace) (serial : ℕ) → for_ike given ≡ None → new.machine ≡ old.machine → trace ≡ no_trace
    → IkeWay meaning (for_ike given) old s new → EndMoves meaning (for_ike given) old.machine.held s trace new.machine.held serial
packet_moves {C} meaning given old new s trace serial none same named way =
    still_moves meaning (for_ike given) old.machine.held s trace new.machine.held serial (ap (λ (m : Machine). m.held) same) named (λ requests closed said. never_ticked meaning (for_ike given) old s new requests closed none way said)

pub input_moves : {C : Type 0} → TurnLaws → (meaning : Meaning) (given : Input) (old new : State C) (s : OutputView) (trace : Trace) (serial : ℕ)
    → IsSoundMachine old.machine old.table → DoesInput meaning old.entries given old.machine old.table s trace new.machine new.table
    → EndMoves meaning (for_ike given) old.machine.held s trace new.machine.held serial
input_moves {C} laws meaning (input.Ike from octets fresh) old new s trace serial sound is =
    ike_step_moves laws meaning old.entries (ike.Message from octets fresh) old.machine old.table s trace new.machine new.table serial sound is
input_moves {C} laws meaning (input.Start what place fresh) old new s trace serial sound is =
    ike_step_moves laws meaning old.entries (ike.Start what place fresh) old.machine old.table s trace new.machine new.table serial sound is
input_moves {C} laws meaning (input.Probe asked fresh) old new s trace serial sound is =
    ike_step_moves laws meaning old.entries (ike.Order (orders.Probe asked) fresh) old.machine old.table s trace new.machine new.table serial sound is
input_moves {C} laws meaning (input.DeleteChild asked fresh) old new s trace serial sound is =
    ike_step_moves laws meaning old.entries (ike.Order (orders.DeleteChild asked) fresh) old.machine old.table s trace new.machine new.table serial sound is
input_moves {C} laws meaning (input.DeleteIke asked fresh) old new s trace serial sound is =
    ike_step_moves laws meaning old.entries (ike.Order (orders.DeleteIke asked) fresh) old.machine old.table s trace new.machine new.table serial sound is
input_moves {C} laws meaning (input.Secret secret) old new s trace serial sound is =
    ike_step_moves laws meaning old.entries (ike.Secret secret) old.machine old.table s trace new.machine new.table serial sound is
input_moves {C} laws meaning (input.Tick moment) old new s trace serial sound is =
    ike_step_moves laws meaning old.entries (ike.Tick moment) old.machine old.table s trace new.machine new.table serial sound is
input_moves {C} laws meaning (input.Esp octets) old new s trace serial sound is =
    packet_moves meaning (input.Esp octets) old new s trace serial refl is.0.machine is.0.traced (does_way meaning (input.Esp octets) old s trace new is)
input_moves {C} laws meaning (input.Outward packet) old new s trace serial sound is =
    packet_moves meaning (input.Outward packet) old new s trace serial refl is.0.machine is.0.traced (does_way meaning (input.Outward packet) old s trace new is)
input_moves {C} laws meaning (input.Inward packet) old new s trace serial sound is =
    packet_moves meaning (input.Inward packet) old new s trace serial refl is.0.machine is.0.traced (does_way meaning (input.Inward packet) old s trace new is)

same_keyed : {C : Type 0} (old new : State C) (serial : ℕ) (keys : KeyRecord) (a : Association) → new.machine ≡ old.machine → keys_of_serial serial old.machine.held.associations ≡ Some keys
    → association_of serial new.machine.held.associations ≡ Some a → keys_in a.phase ≡ Some keys
same_keyed {C} old new serial keys a same was there =
    ap (λ (o : Option Association). option_and_then (λ x. keys_in x.phase) o) (sym there) ∙ ap (λ (m : Machine). keys_of_serial serial m.held.associations) same ∙ was

-- keys stay, whatever comes
pub way_keys : {C : Type 0} → TurnLaws → (meaning : Meaning) (given : Option ike.InputView) (old : State C) (s : OutputView) (new : State C) (serial : ℕ) (keys : KeyRecord) (a : Association)
    → IsSoundTable old.table → IsSoundMachine old.machine old.table → IkeWay meaning given old s new → keys_of_serial serial old.machine.held.associations ≡ Some keys
    → association_of serial new.machine.held.associations ≡ Some a → keys_in a.phase ≡ Some keys
way_keys {C} laws meaning given old s new serial keys a st sm (answered w) was there = laws.keys meaning old.entries w.view old.machine old.table w.stepped new.machine new.table serial keys a st sm w.steps was there
way_keys {C} laws meaning given old s new serial keys a st sm (refused w) was there = same_keyed old new serial keys a w.same was there
way_keys {C} laws meaning given old s new serial keys a st sm (elsewhere w) was there = same_keyed old new serial keys a w.same was there
