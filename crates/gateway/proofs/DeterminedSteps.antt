-- A step of a gateway does one thing, where memory is wanted by nothing; and so does a run.
use Rattle.std.proofs.Common.{◌≡◌, inl, inr, Bool, true, false, List, [], ◌∷◌, refl, sym, ap, subst, ◌∙◌}
use Rattle.std.specs.Prelude.{map}
use Rattle.std.specs.List.{AllByRecursion}
use Rattle.base.specs.Octets.{Octets}
use Rattle.policy.specs.declared.entry.Entry.{Entry}
use Rattle.sadb.specs.Contents.{table_content}
use Rattle.sadb.specs.Database.{Database, IsAsBefore}
use Rattle.effects.specs.Taking.{Meaning}
use Rattle.ike.specs.Contents.{machine_content}
use Rattle.ike.specs.Faults.{is_want_of_memory}
use Rattle.ike.specs.Lengths.{HoldWholeKeys, IsTold}
use Rattle.ike.specs.Machines.{Machine}
use Rattle.ike.specs.Steps as ike
use Rattle.ike.specs.Orders as orders
use Rattle.ike.specs.declared.fault.IkeFault.{IkeFault}
use Rattle.ike.specs.declared.output.Stepped.{Stepped}
use Rattle.ike.specs.declared.output.Trace.{Trace}
use Rattle.traffic.specs.Admitting.{Admits}
use Rattle.traffic.specs.Outcomes.{Outcome}
use Rattle.traffic.specs.Receiving.{Receives}
use Rattle.traffic.specs.Sending.{Sends}
use Rattle.gateway.specs.Contents.{state_content}
use Rattle.gateway.specs.Inputs.{Input}
use Rattle.gateway.specs.Inputs as input
use Rattle.gateway.specs.Lengths.{IsGiven}
use Rattle.gateway.specs.Outputs.{wants_memory, output_view, view_of_ike, view_of_outcome, Refused, OutputView}
use Rattle.gateway.specs.Runs.{Runs, StepsAs}
use Rattle.gateway.specs.States.{State}
use Rattle.gateway.specs.Steps.{AdmitsPacket, AnswersIke, DoesInput, LeavesIke, ReceivesPacket, RefusesIke, SendsPacket, Steps, StepsIke, Traces}
use Rattle.gateway.specs.declared.fault.Reason.TheVariants as reason
use Rattle.gateway.specs.declared.output.Output.{Output}

-- what the machine of IKE says of its steps
pub record IkeLaws : Type 0 where
  pub steps : (meaning : Meaning) (entries : List Entry) (given : ike.InputView) (old other a b : Machine) (table another a_table b_table : Database) (one two : Stepped)
      → IsTold meaning given → HoldWholeKeys old.held → machine_content old ≡ machine_content other → table_content table ≡ table_content another
      → ike.Steps meaning entries given old table one a a_table → ike.Steps meaning entries given other another two b b_table
      → (one ≡ two) × (machine_content a ≡ machine_content b) × (table_content a_table ≡ table_content b_table)
  pub steps_or_refusals : (meaning : Meaning) (entries : List Entry) (given : ike.InputView) (old other new : Machine) (table another new_table : Database) (stepped : Stepped) (why : IkeFault)
      → machine_content old ≡ machine_content other → table_content table ≡ table_content another
      → ike.Steps meaning entries given old table stepped new new_table → ike.Refuses meaning entries given other another why → is_want_of_memory why ≡ true
  pub refusals : (meaning : Meaning) (entries : List Entry) (given : ike.InputView) (old other : Machine) (table another : Database) (one two : IkeFault)
      → machine_content old ≡ machine_content other → table_content table ≡ table_content another → is_want_of_memory one ≡ false → is_want_of_memory two ≡ false
      → ike.Refuses meaning entries given old table one → ike.Refuses meaning entries given other another two → one ≡ two
  pub whole : (meaning : Meaning) (entries : List Entry) (given : ike.InputView) (old : Machine) (table : Database) (stepped : Stepped) (new : Machine) (new_table : Database)
      → HoldWholeKeys old.held → ike.Steps meaning entries given old table stepped new new_table → HoldWholeKeys new.held

-- what the path of packets says of outcomes
pub record PacketLaws : Type 0 where
  pub received : (old new other : Database) (packet : Octets) (one another : Outcome) → Receives old packet one new → Receives old packet another other → (one ≡ another) × (new ≡ other)
  pub sent : (old new other : Database) (policy : List Entry) (packet : Octets) (one another : Outcome) → Sends old policy packet one new → Sends old policy packet another other → (one ≡ another) × (new ≡ other)
  pub admitted : (policy : List Entry) (packet : Octets) (one another : Outcome) → Admits policy packet one → Admits policy packet another → one ≡ another
  pub received_here : (old other new : Database) (packet : Octets) (outcome : Outcome) → table_content old ≡ table_content other → Receives old packet outcome new → Receives other packet outcome (record new { room = other.room })
  pub sent_here : (old other new : Database) (policy : List Entry) (packet : Octets) (outcome : Outcome) → table_content old ≡ table_content other → Sends old policy packet outcome new → Sends other policy packet outcome (record new { room = other.room })

pub record Laws : Type 0 where
  pub ike : IkeLaws
  pub packets : PacketLaws
  pub prepared : (old new : Database) → IsAsBefore old new → table_content new ≡ table_content old

-- what is said and told, and what is held
pub record SameDoing (one two : OutputView) (trace other : Trace) (a b : Machine) (a_table b_table : Database) : Type 0 where
  pub said_is : one ≡ two
  pub traced : trace ≡ other
  pub machine : machine_content a ≡ machine_content b
  pub table : table_content a_table ≡ table_content b_table

clash : (b : Bool) → b ≡ true → b ≡ false → ⊥
clash true one other = cc
clash false one other = cc

module _ (laws : Laws) (meaning : Meaning) (entries : List Entry) (old other : Machine) (table another : Database) (same : machine_content old ≡ machine_content other) (alike : table_content table ≡ table_content another)
    (one two : OutputView) (trace mark : Trace) (a b : Machine) (a_table b_table : Database) (first : wants_memory one ≡ false) (second : wants_memory two ≡ false) where
  -- ---- the machine of IKE

  both_answer : (given : ike.InputView) → IsTold meaning given → HoldWholeKeys old.held → AnswersIke meaning entries given old table one trace a a_table → AnswersIke meaning entries given other another two mark b b_table
      → SameDoing one two trace mark a b a_table b_table
  both_answer given told whole is also =
      let end = laws.ike.steps meaning entries given old other a b table another a_table b_table is.stepped also.stepped told whole same alike is.steps also.steps in
      record {
        said_is = is.output ∙ ap (λ (s : Stepped). view_of_ike s.output) end.0 ∙ sym also.output;
        traced = is.traced ∙ ap (λ (s : Stepped). s.trace) end.0 ∙ sym also.traced;
        machine = end.1;
        table = end.2;
      }

  answered_or_refused : (given : ike.InputView) → AnswersIke meaning entries given old table one trace a a_table → RefusesIke meaning entries given other another two mark b b_table → ⊥
  answered_or_refused given is also =
      clash (wants_memory two)
      (ap wants_memory also.output ∙ laws.ike.steps_or_refusals meaning entries given old other a table another a_table is.stepped also.fault same alike is.steps also.refuses) second

  refused_or_answered : (given : ike.InputView) → RefusesIke meaning entries given old table one trace a a_table → AnswersIke meaning entries given other another two mark b b_table → ⊥
  refused_or_answered given is also =
      clash (wants_memory one)
      (ap wants_memory is.output ∙ laws.ike.steps_or_refusals meaning entries given other old b another table b_table also.stepped is.fault (sym same) (sym alike) also.steps is.refuses) first

  both_refuse : (given : ike.InputView) → RefusesIke meaning entries given old table one trace a a_table → RefusesIke meaning entries given other another two mark b b_table → SameDoing one two trace mark a b a_table b_table
  both_refuse given is also =
      let fault : is.fault ≡ also.fault =
      laws.ike.refusals meaning entries given old other table another is.fault also.fault same alike (sym (ap wants_memory is.output) ∙ first) (sym (ap wants_memory also.output) ∙ second) is.refuses also.refuses in
      record {
        said_is = is.output ∙ ap (λ (f : IkeFault). Refused (reason.Ike f)) fault ∙ sym also.output;
        traced = is.traced ∙ sym also.traced;
        machine = ap machine_content is.machine ∙ same ∙ sym (ap machine_content also.machine);
        table = laws.prepared table a_table is.pairs ∙ alike ∙ sym (laws.prepared another b_table also.pairs);
      }

  one_ike : (given : ike.InputView) → IsTold meaning given → HoldWholeKeys old.held → StepsIke meaning entries given old table one trace a a_table → StepsIke meaning entries given other another two mark b b_table
      → SameDoing one two trace mark a b a_table b_table
  one_ike given told whole (inl is) (inl also) = both_answer given told whole is also
  one_ike given told whole (inl is) (inr also) = absurd (answered_or_refused given is also)
  one_ike given told whole (inr is) (inl also) = absurd (refused_or_answered given is also)
  one_ike given told whole (inr is) (inr also) = both_refuse given is also

  -- ---- packets

  left_alone : LeavesIke old trace a → LeavesIke other mark b → one ≡ two → table_content a_table ≡ table_content b_table → SameDoing one two trace mark a b a_table b_table
  left_alone is also says tables = record {
    said_is = says;
    traced = is.traced ∙ sym also.traced;
    machine = ap machine_content is.machine ∙ same ∙ sym (ap machine_content also.machine);
    table = tables;
  }

  one_arrival : (packet : Octets) → LeavesIke old trace a × ReceivesPacket table packet one a_table → LeavesIke other mark b × ReceivesPacket another packet two b_table → SameDoing one two trace mark a b a_table b_table
  one_arrival packet is also =
      let here = laws.packets.received_here another table b_table packet also.1.outcome (sym alike) also.1.receives in
      let end = laws.packets.received table a_table (record b_table { room = table.room }) packet is.1.outcome also.1.outcome is.1.receives here in
      left_alone is.0 also.0 (is.1.output ∙ ap view_of_outcome end.0 ∙ sym also.1.output) (ap table_content end.1)

  one_departure : (packet : Octets) → LeavesIke old trace a × SendsPacket entries table packet one a_table → LeavesIke other mark b × SendsPacket entries another packet two b_table → SameDoing one two trace mark a b a_table b_table
  one_departure packet is also = elim is.1 [
    | inl sends ↦ elim also.1 [
      | inl too ↦
          let here = laws.packets.sent_here another table b_table entries packet too.outcome (sym alike) too.sends in
          let end = laws.packets.sent table a_table (record b_table { room = table.room }) entries packet sends.outcome too.outcome sends.sends here in
          left_alone is.0 also.0 (sends.output ∙ ap view_of_outcome end.0 ∙ sym too.output) (ap table_content end.1)
      | inr lacks ↦ absurd (clash (wants_memory two) (ap wants_memory lacks.output) second)
    ]
    | inr lacks ↦ absurd (clash (wants_memory one) (ap wants_memory lacks.output) first)
  ]

  one_entry : (packet : Octets) → LeavesIke old trace a × AdmitsPacket entries packet one × (a_table ≡ table) → LeavesIke other mark b × AdmitsPacket entries packet two × (b_table ≡ another) → SameDoing one two trace mark a b a_table b_table
  one_entry packet is also =
      let outcome = laws.packets.admitted entries packet is.1.outcome also.1.outcome is.1.admits also.1.admits in
      left_alone is.0 also.0 (is.1.output ∙ ap view_of_outcome outcome ∙ sym also.1.output) (ap table_content is.2 ∙ alike ∙ sym (ap table_content also.2))

  one_doing : (given : Input) → IsGiven meaning given → HoldWholeKeys old.held → DoesInput meaning entries given old table one trace a a_table → DoesInput meaning entries given other another two mark b b_table
      → SameDoing one two trace mark a b a_table b_table
  one_doing (input.Ike from octets fresh) told whole is also = one_ike (ike.Message from octets fresh) told whole is also
  one_doing (input.Start serial entry fresh) told whole is also = one_ike (ike.Start serial entry fresh) told whole is also
  one_doing (input.Probe serial fresh) told whole is also = one_ike (ike.Order (orders.Probe serial) fresh) told whole is also
  one_doing (input.DeleteChild serial fresh) told whole is also = one_ike (ike.Order (orders.DeleteChild serial) fresh) told whole is also
  one_doing (input.DeleteIke serial fresh) told whole is also = one_ike (ike.Order (orders.DeleteIke serial) fresh) told whole is also
  one_doing (input.Secret secret) told whole is also = one_ike (ike.Secret secret) tt whole is also
  one_doing (input.Tick moment) told whole is also = one_ike (ike.Tick moment) tt whole is also
  one_doing (input.Esp octets) told whole is also = one_arrival octets is also
  one_doing (input.Outward packet) told whole is also = one_departure packet is also
  one_doing (input.Inward packet) told whole is also = one_entry packet is also

-- ---- steps

-- with the machine and the table of now
kept_rest : {C : Type 0} (old other a b : State C) → state_content old ≡ state_content other → a ≡ record old { machine = a.machine; table = a.table } → b ≡ record other { machine = b.machine; table = b.table }
    → machine_content a.machine ≡ machine_content b.machine → table_content a.table ≡ table_content b.table → state_content a ≡ state_content b
kept_rest {C} old other a b same is also machine table =
    ap state_content is
    ∙ ap (λ (s : State C). record s { machine = machine_content a.machine; table = table_content a.table }) same
    ∙ ap (λ (m : Machine). record (state_content other) { machine = m; table = table_content a.table }) machine
    ∙ ap (λ (t : Database). record (state_content other) { machine = machine_content b.machine; table = t }) table
    ∙ sym (ap state_content also)

pub one_trace : {C : Type 0} → Laws → (meaning : Meaning) (given : Input) (old other a b : State C) (one two : OutputView) (trace mark : Trace)
    → IsGiven meaning given → HoldWholeKeys old.machine.held → state_content old ≡ state_content other → wants_memory one ≡ false → wants_memory two ≡ false
    → Traces meaning given old one trace a → Traces meaning given other two mark b → (one ≡ two) × (trace ≡ mark) × (state_content a ≡ state_content b)
one_trace {C} laws meaning given old other a b one two trace mark told whole same first second is also =
    let does : DoesInput meaning old.entries given other.machine other.table two mark b.machine b.table =
    subst (λ (es : List Entry). DoesInput meaning es given other.machine other.table two mark b.machine b.table) (sym (ap (λ (s : State C). s.entries) same)) also.does in
    let end = one_doing laws meaning old.entries old.machine other.machine old.table other.table (ap (λ (s : State C). s.machine) same) (ap (λ (s : State C). s.table) same) one two trace mark a.machine b.machine a.table b.table first second
    given told whole is.does does in
    (end.said_is, end.traced, kept_rest old other a b same is.kept also.kept end.machine end.table)

pub one_step : {C : Type 0} → Laws → (meaning : Meaning) (given : Input) (old other a b : State C) (one two : OutputView)
    → IsGiven meaning given → HoldWholeKeys old.machine.held → state_content old ≡ state_content other → wants_memory one ≡ false → wants_memory two ≡ false
    → Steps meaning given old one a → Steps meaning given other two b → (one ≡ two) × (state_content a ≡ state_content b)
one_step {C} laws meaning given old other a b one two told whole same first second is also =
    let end = one_trace laws meaning given old other a b one two is.trace also.trace told whole same first second is.traces also.traces in
    (end.0, end.2)

-- ---- keys

machine_whole : (old new : Machine) → new ≡ old → HoldWholeKeys old.held → HoldWholeKeys new.held
machine_whole old new same whole = subst (λ (m : Machine). HoldWholeKeys m.held) (sym same) whole

ike_whole : IkeLaws → (meaning : Meaning) (entries : List Entry) (given : ike.InputView) (old : Machine) (table : Database) (s : OutputView) (trace : Trace) (new : Machine) (new_table : Database) → HoldWholeKeys old.held
    → StepsIke meaning entries given old table s trace new new_table → HoldWholeKeys new.held
ike_whole laws meaning entries given old table s trace new new_table whole (inl is) = laws.whole meaning entries given old table is.stepped new new_table whole is.steps
ike_whole laws meaning entries given old table s trace new new_table whole (inr is) = machine_whole old new is.machine whole

done_whole : IkeLaws → (meaning : Meaning) (entries : List Entry) (given : Input) (old : Machine) (table : Database) (s : OutputView) (trace : Trace) (new : Machine) (new_table : Database) → HoldWholeKeys old.held
    → DoesInput meaning entries given old table s trace new new_table → HoldWholeKeys new.held
done_whole laws meaning entries (input.Ike from octets fresh) old table s trace new new_table whole is = ike_whole laws meaning entries (ike.Message from octets fresh) old table s trace new new_table whole is
done_whole laws meaning entries (input.Start serial entry fresh) old table s trace new new_table whole is = ike_whole laws meaning entries (ike.Start serial entry fresh) old table s trace new new_table whole is
done_whole laws meaning entries (input.Probe serial fresh) old table s trace new new_table whole is = ike_whole laws meaning entries (ike.Order (orders.Probe serial) fresh) old table s trace new new_table whole is
done_whole laws meaning entries (input.DeleteChild serial fresh) old table s trace new new_table whole is = ike_whole laws meaning entries (ike.Order (orders.DeleteChild serial) fresh) old table s trace new new_table whole is
done_whole laws meaning entries (input.DeleteIke serial fresh) old table s trace new new_table whole is = ike_whole laws meaning entries (ike.Order (orders.DeleteIke serial) fresh) old table s trace new new_table whole is
done_whole laws meaning entries (input.Secret secret) old table s trace new new_table whole is = ike_whole laws meaning entries (ike.Secret secret) old table s trace new new_table whole is
done_whole laws meaning entries (input.Tick moment) old table s trace new new_table whole is = ike_whole laws meaning entries (ike.Tick moment) old table s trace new new_table whole is
done_whole laws meaning entries (input.Esp octets) old table s trace new new_table whole is = machine_whole old new is.0.machine whole
done_whole laws meaning entries (input.Outward packet) old table s trace new new_table whole is = machine_whole old new is.0.machine whole
done_whole laws meaning entries (input.Inward packet) old table s trace new new_table whole is = machine_whole old new is.0.machine whole

pub step_whole : {C : Type 0} → IkeLaws → (meaning : Meaning) (given : Input) (old : State C) (s : OutputView) (new : State C) → HoldWholeKeys old.machine.held → Steps meaning given old s new → HoldWholeKeys new.machine.held
step_whole {C} laws meaning given old s new whole is = done_whole laws meaning old.entries given old.machine old.table s is.trace new.machine new.table whole is.traces.does

-- ---- runs

abbrev pub HadMemory : Output → Type 0
HadMemory o = wants_memory (output_view o) ≡ false

said_next : (o p : Output) (os ps : List Output) → output_view o ≡ output_view p → map output_view os ≡ map output_view ps → map output_view (o ∷ os) ≡ map output_view (p ∷ ps)
said_next o p os ps one others = ap (λ (s : OutputView). s ∷ map output_view os) one ∙ ap (λ (l : List OutputView). output_view p ∷ l) others

pub one_run : {C : Type 0} → Laws → (meaning_of : C → Meaning) (meaning : Meaning) (is : List Input) (os ps : List Output) (old other a b : State C) → meaning_of old.caller ≡ meaning
    → AllByRecursion (IsGiven meaning) is → AllByRecursion HadMemory os → AllByRecursion HadMemory ps → HoldWholeKeys old.machine.held → state_content old ≡ state_content other
    → Runs (StepsAs meaning_of) is os old a → Runs (StepsAs meaning_of) is ps other b → (map output_view os ≡ map output_view ps) × (state_content a ≡ state_content b)
one_run {C} laws meaning_of meaning [] [] [] old other a b meant told first second whole same run also = (refl, ap state_content run ∙ same ∙ sym (ap state_content also))
one_run {C} laws meaning_of meaning [] [] (p ∷ ps) old other a b meant told first second whole same run also = absurd also
one_run {C} laws meaning_of meaning [] (o ∷ os) ps old other a b meant told first second whole same run also = absurd run
one_run {C} laws meaning_of meaning (i ∷ is) [] ps old other a b meant told first second whole same run also = absurd run
one_run {C} laws meaning_of meaning (i ∷ is) (o ∷ os) [] old other a b meant told first second whole same run also = absurd also
one_run {C} laws meaning_of meaning (i ∷ is) (o ∷ os) (p ∷ ps) old other a b meant told first second whole same run also =
    let callers : old.caller ≡ other.caller = ap (λ (s : State C). s.caller) same in
    let mine : Steps meaning i old (output_view o) run.0 = subst (λ (m : Meaning). Steps m i old (output_view o) run.0) meant run.1.steps in
    let theirs : Steps meaning i other (output_view p) also.0 = subst (λ (m : Meaning). Steps m i other (output_view p) also.0) (ap meaning_of (sym callers) ∙ meant) also.1.steps in
    let stays : run.0.caller ≡ old.caller = ap (λ (s : State C). s.caller) mine.traces.kept in
    let here = one_step laws meaning i old other run.0 also.0 (output_view o) (output_view p) told.0 whole same first.0 second.0 mine theirs in
    let rest = one_run laws meaning_of meaning is os ps run.0 also.0 a b (ap meaning_of stays ∙ meant) told.1 first.1 second.1 (step_whole laws.ike meaning i old (output_view o) run.0 whole mine) here.1 run.2 also.2 in
    (said_next o p os ps here.0 rest.0, rest.1)
