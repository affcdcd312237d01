-- A step that has nothing to do with some half-open IKE SAs is one of the gateway without them.
use Rattle.std.proofs.Common.{◌≡◌, inl, inr, ℕ, ◌≤◌, Bool, false, List, Some, None, ap, refl, sym, ◌∙◌, subst, max}
use Rattle.base.specs.Octets.{Octets}
use Rattle.policy.specs.declared.entry.Entry.{Entry}
use Rattle.sadb.specs.Database.{Database}
use Rattle.effects.specs.Taking.{Meaning}
use Rattle.traffic.specs.Outcomes as traffic
use Rattle.ike.specs.Faults as ike_fault
use Rattle.ike.specs.Machines.{setup_at, Machine}
use Rattle.ike.specs.Orders as orders
use Rattle.ike.specs.Soundness.{AreSound}
use Rattle.ike.specs.Steps as ike
use Rattle.ike.specs.Ticking.{RefusesMoment}
use Rattle.ike.specs.declared.fault.IkeFault.{IkeFault}
use Rattle.ike.specs.declared.fault.IkeFault.TheVariants as fault
use Rattle.ike.specs.declared.output.IkeOutput.{IkeOutput}
use Rattle.ike.specs.declared.output.IkeOutput.TheVariants as output
use Rattle.ike.specs.declared.output.Stepped.{Stepped}
use Rattle.ike.specs.declared.output.Trace.{Trace}
use Rattle.gateway.specs.Inputs.{Input}
use Rattle.gateway.specs.Inputs as input
use Rattle.gateway.specs.Outputs.{view_of_ike, view_of_outcome, wants_memory, OutputView}
use Rattle.gateway.specs.States.{IsSoundState, State}
use Rattle.gateway.specs.Steps.{DoesInput, LeavesIke, SendsPacket, StepsIke, Traces}
use Rattle.gateway.specs.Others.{machine_without, said_without, state_without, AreHalfOpen, HaveNoPairs, IsApart}
use Rattle.gateway.proofs.TickRemoval.{ticked_without, ticks_left, AreIdle}
use Rattle.gateway.proofs.DatagramRemoval.{datagram_left, refused_left, stepped_without, IsClearOf, RemovalLaws}
use Rattle.gateway.proofs.CommandRemoval.{order_left, order_refused_left, start_left, start_refused_left, IsOfOthers, IsStartOfOthers}

said_of_ike : (strange : ℕ → Bool) (o : IkeOutput) → said_without strange (view_of_ike o) ≡ view_of_ike (stepped_without strange (record { output = o; trace = record { sent = None; keyed = None; child = None; declined = None } })).output
said_of_ike strange (output.Reply octets closed) = refl
said_of_ike strange (output.Repeat octets) = refl
said_of_ike strange (output.Request ike octets) = refl
said_of_ike strange (output.Counted ike child closed) = refl
said_of_ike strange (output.Ticked ticked) = refl
said_of_ike strange output.Done = refl
said_of_ike strange (output.Dropped why) = refl

said_of_packet : (strange : ℕ → Bool) (o : traffic.Outcome) → said_without strange (view_of_outcome o) ≡ view_of_outcome o
said_of_packet strange (traffic.Up child number packet) = refl
said_of_packet strange (traffic.Dummy child number) = refl
said_of_packet strange (traffic.Sealed child number octets) = refl
said_of_packet strange (traffic.Clear packet) = refl
said_of_packet strange traffic.Discarded = refl
said_of_packet strange (traffic.Dropped why) = refl

module _ (strange : ℕ → Bool) (old : Machine) (table : Database) where
  -- what is held without them
  abbrev left : Machine
  left = machine_without strange old

  secret_refused_left : (reason : IkeFault) → ike.RefusesSecret old reason → ike.RefusesSecret left reason
  secret_refused_left (fault.Unread f) is = is
  secret_refused_left (fault.Message f) is = is
  secret_refused_left fault.Unprotected is = is
  secret_refused_left fault.Crowded is = is
  secret_refused_left fault.TableFull is = is
  secret_refused_left fault.SpisSpent is = is
  secret_refused_left fault.HalfOpenFull is = is
  secret_refused_left fault.Busy is = is
  secret_refused_left fault.NumbersSpent is = is
  secret_refused_left fault.BadFresh is = is
  secret_refused_left (fault.Memory f) is = is

  tick_refused_left : (now : ℕ) (reason : IkeFault) → ike_fault.is_want_of_memory reason ≡ false → RefusesMoment now old.held.associations reason → RefusesMoment now left.held.associations reason
  tick_refused_left now (fault.Unread f) other is = is
  tick_refused_left now (fault.Message f) other is = is
  tick_refused_left now fault.Unprotected other is = is
  tick_refused_left now fault.Crowded other is = is
  tick_refused_left now fault.TableFull other is = is
  tick_refused_left now fault.SpisSpent other is = is
  tick_refused_left now fault.HalfOpenFull other is = is
  tick_refused_left now fault.Busy other is = is
  tick_refused_left now fault.NumbersSpent other is = is
  tick_refused_left now fault.BadFresh other is = is
  tick_refused_left now (fault.Memory f) other is = absurd cc

  module _ (laws : RemovalLaws) (half : AreHalfOpen strange old.held) (given_before : (n : ℕ) → old.held.next ≤ n → strange n ≡ false) (meaning : Meaning) (entries : List Entry) where
    -- the input has nothing to do with them
    abbrev IsClear : ike.InputView → Type 0
    IsClear (ike.Message from octets fresh) = IsClearOf strange old.held fresh.spi old.cookies from octets
    IsClear (ike.Start serial place fresh) = IsStartOfOthers strange old.held serial fresh
    IsClear (ike.Order what fresh) = IsOfOthers strange table what
    IsClear (ike.Secret secret) = Unit {0}
    IsClear (ike.Tick moment) = AreIdle strange old.held.associations

    abbrev StepsLeft : ike.InputView → Stepped → Machine → Database → Type 0
    StepsLeft given stepped new new_table = ike.Steps meaning entries given left table (stepped_without strange stepped) (machine_without strange new) new_table × AreHalfOpen strange new.held

    step_left : (given : ike.InputView) (stepped : Stepped) (new : Machine) (new_table : Database) → IsClear given → ike.Steps meaning entries given old table stepped new new_table → StepsLeft given stepped new new_table
    step_left (ike.Message from octets fresh) stepped new new_table clear is =
        let done = datagram_left strange laws meaning (setup_at old entries fresh) old.held half given_before old.cookies from octets clear table stepped new.held new_table is.1 in
        ((ap (machine_without strange) is.0, done.0), done.1)
    step_left (ike.Start serial place fresh) stepped new new_table clear is =
        let done = start_left strange old.held half given_before meaning (setup_at old entries fresh) serial place table stepped new.held new_table clear is.1 in
        ((ap (machine_without strange) is.0, done.0), done.1)
    step_left (ike.Order what fresh) stepped new new_table clear is =
        let done = order_left strange old.held half meaning.body_of (setup_at old entries fresh) what table stepped new.held new_table clear is.1 in
        ((ap (machine_without strange) is.0, done.0), done.1)
    step_left (ike.Secret secret) stepped new new_table clear is = (
      record { left = is.left; said = ap (stepped_without strange) is.said; content = ap (machine_without strange) is.content; unchanged = is.unchanged },
      subst (λ (m : Machine). AreHalfOpen strange m.held) (sym is.content) half,
    )
    step_left (ike.Tick moment) stepped new new_table clear is =
        let done = ticks_left strange (max old.moment moment) old.held.associations table is.takes.ticked new.held.associations new_table clear is.takes.ticks in (
          record {
            takes = record { ticked = ticked_without strange is.takes.ticked; ticks = done.0; said = ap (stepped_without strange) is.takes.said; next = is.takes.next };
            content = ap (machine_without strange) is.content;
          },
          done.1,
        )

    refusal_left : (given : ike.InputView) (reason : IkeFault) → ike_fault.is_want_of_memory reason ≡ false → IsClear given → ike.Refuses meaning entries given old table reason → ike.Refuses meaning entries given left table reason
    refusal_left (ike.Message from octets fresh) reason other clear is =
        refused_left strange laws meaning (setup_at old entries fresh) old.held half given_before old.cookies from octets clear table reason other is
    refusal_left (ike.Start serial place fresh) reason other clear is = start_refused_left strange old.held entries fresh serial place table reason clear is
    refusal_left (ike.Order what fresh) reason other clear is = order_refused_left strange old.held half meaning.body_of (setup_at old entries fresh) what table reason clear is
    refusal_left (ike.Secret secret) reason other clear is = secret_refused_left reason is
    refusal_left (ike.Tick moment) reason other clear is = tick_refused_left (max old.moment moment) reason other is

    ike_left : (given : ike.InputView) (said : OutputView) (trace : Trace) (new : Machine) (new_table : Database) → IsClear given → wants_memory said ≡ false → StepsIke meaning entries given old table said trace new new_table
        → StepsIke meaning entries given left table (said_without strange said) trace (machine_without strange new) new_table × AreHalfOpen strange new.held
    ike_left given said trace new new_table clear enough (inl is) =
        let done = step_left given is.stepped new new_table clear is.steps in
        (inl (record { stepped = stepped_without strange is.stepped; steps = done.0; output = ap (said_without strange) is.output ∙ said_of_ike strange is.stepped.output; traced = is.traced }), done.1)
    ike_left given said trace new new_table clear enough (inr is) = (
      inr (record {
        fault = is.fault;
        refuses = refusal_left given is.fault (sym (ap wants_memory is.output) ∙ enough) clear is.refuses;
        output = ap (said_without strange) is.output;
        traced = is.traced;
        machine = ap (machine_without strange) is.machine;
        pairs = is.pairs;
      }),
      subst (λ (m : Machine). AreHalfOpen strange m.held) (sym is.machine) half,
    )

    still_left : (trace : Trace) (new : Machine) → LeavesIke old trace new → LeavesIke left trace (machine_without strange new) × AreHalfOpen strange new.held
    still_left trace new is = (
      record { machine = ap (machine_without strange) is.machine; traced = is.traced },
      subst (λ (m : Machine). AreHalfOpen strange m.held) (sym is.machine) half,
    )

    sent_left : (packet : Octets) (said : OutputView) (new_table : Database) → SendsPacket entries table packet said new_table → SendsPacket entries table packet (said_without strange said) new_table
    sent_left packet said new_table (inl is) = inl (record { outcome = is.outcome; sends = is.sends; output = ap (said_without strange) is.output ∙ said_of_packet strange is.outcome })
    sent_left packet said new_table (inr is) = inr (record { sealable = is.sealable; output = ap (said_without strange) is.output; unchanged = is.unchanged })

-- nothing is outstanding of those that are half open
all_idle : (strange : ℕ → Bool) (machine : Machine) (table : Database) → AreSound machine.held table → AreHalfOpen strange machine.held → AreIdle strange machine.held.associations
all_idle strange machine table sound half place a there out = record { half = half place a there out; waits = (sound.each place a there).soundly.waits }

module _ {C : Type 0} (laws : RemovalLaws) (strange : ℕ → Bool) (meaning : Meaning) (old : State C) (sound : IsSoundState old) (half : AreHalfOpen strange old.machine.held) (none : HaveNoPairs strange old.table) (given_before : (n : ℕ) → old.machine.held.next ≤ n → strange n ≡ false) where
  abbrev DoesLeft : Input → OutputView → Trace → Machine → Database → Type 0
  DoesLeft given said trace new new_table = DoesInput meaning old.entries given (machine_without strange old.machine) old.table (said_without strange said) trace (machine_without strange new) new_table × AreHalfOpen strange new.held

  input_left : (given : Input) (said : OutputView) (trace : Trace) (new : Machine) (new_table : Database) → IsApart strange old given → wants_memory said ≡ false → DoesInput meaning old.entries given old.machine old.table said trace new new_table
      → DoesLeft given said trace new new_table
  input_left (input.Ike from octets fresh) said trace new new_table apart enough is =
      let clear : IsClearOf strange old.machine.held fresh.spi old.machine.cookies from octets = record {
        unnamed = λ m spelled place a there out. apart.unnamed m place a spelled there out;
        unasked = apart.unasked;
        heard = apart.heard;
        room = apart.room;
        spi = apart.spi;
      } in
      ike_left strange old.machine old.table laws half given_before meaning old.entries (ike.Message from octets fresh) said trace new new_table clear enough is
  input_left (input.Start None entry fresh) said trace new new_table apart enough is =
      ike_left strange old.machine old.table laws half given_before meaning old.entries (ike.Start None entry fresh) said trace new new_table (apart.room, apart.spi) enough is
  input_left (input.Start (Some serial) entry fresh) said trace new new_table apart enough is =
      ike_left strange old.machine old.table laws half given_before meaning old.entries (ike.Start (Some serial) entry fresh) said trace new new_table apart enough is
  input_left (input.Probe serial fresh) said trace new new_table apart enough is =
      ike_left strange old.machine old.table laws half given_before meaning old.entries (ike.Order (orders.Probe serial) fresh) said trace new new_table apart enough is
  input_left (input.DeleteChild child fresh) said trace new new_table apart enough is =
      ike_left strange old.machine old.table laws half given_before meaning old.entries (ike.Order (orders.DeleteChild child) fresh) said trace new new_table none enough is
  input_left (input.DeleteIke serial fresh) said trace new new_table apart enough is =
      ike_left strange old.machine old.table laws half given_before meaning old.entries (ike.Order (orders.DeleteIke serial) fresh) said trace new new_table apart enough is
  input_left (input.Secret secret) said trace new new_table apart enough is =
      ike_left strange old.machine old.table laws half given_before meaning old.entries (ike.Secret secret) said trace new new_table tt enough is
  input_left (input.Tick moment) said trace new new_table apart enough is =
      ike_left strange old.machine old.table laws half given_before meaning old.entries (ike.Tick moment) said trace new new_table (all_idle strange old.machine old.table sound.machine.held half) enough is
  input_left (input.Esp octets) said trace new new_table apart enough is =
      let still = still_left strange old.machine old.table laws half given_before meaning old.entries trace new is.0 in
      ((still.0, record { outcome = is.1.outcome; receives = is.1.receives; output = ap (said_without strange) is.1.output ∙ said_of_packet strange is.1.outcome }), still.1)
  input_left (input.Outward packet) said trace new new_table apart enough is =
      let still = still_left strange old.machine old.table laws half given_before meaning old.entries trace new is.0 in
      ((still.0, sent_left strange old.machine old.table laws half given_before meaning old.entries packet said new_table is.1), still.1)
  input_left (input.Inward packet) said trace new new_table apart enough is =
      let still = still_left strange old.machine old.table laws half given_before meaning old.entries trace new is.0 in
      ((still.0, record { outcome = is.1.outcome; admits = is.1.admits; output = ap (said_without strange) is.1.output ∙ said_of_packet strange is.1.outcome }, is.2), still.1)

  -- the gateway without them takes the same step, and they stay half open
  pub removed_traces : (given : Input) (said : OutputView) (trace : Trace) (new : State C) → IsApart strange old given → wants_memory said ≡ false → Traces meaning given old said trace new
      → Traces meaning given (state_without strange old) (said_without strange said) trace (state_without strange new) × AreHalfOpen strange new.machine.held
  removed_traces given said trace new apart enough is =
      let done = input_left given said trace new.machine new.table apart enough is.does in
      (record { kept = ap (state_without strange) is.kept; does = done.0 }, done.1)
