-- What is told of an output.
use Rattle.std.specs.Prelude.{ℕ, Option, None, Some, length}
use Rattle.ike.specs.declared.output.Trace.{Trace}
use Rattle.gateway.specs.Faults.{code_of_reason}
use Rattle.gateway.specs.Outputs.{OutputView}
use Rattle.gateway.specs.Outputs as view
use Rattle.gateway.specs.declared.fault.Reason.{Reason}
use Rattle.sukperin.specs.declared.hosted.Left.{Left}
use Rattle.sukperin.specs.declared.hosted.Left.TheVariants as left
use Rattle.sukperin.specs.declared.output.SukOutput.{SukOutput}
use Rattle.sukperin.specs.declared.refusal.Refusal.{Refusal}
use Rattle.sukperin.specs.Codes.{code_of_refusal}

-- 0 names nothing
abbrev pub serial_of : Option ℕ → ℕ
serial_of None = 0
serial_of (Some serial) = serial

-- the IKE SA under whose keys a message was sent
abbrev pub ike_in : Trace → ℕ
ike_in trace = elim trace.sent [ None ↦ 0 | Some mark ↦ mark.ike ]

-- the Child SA that was made
abbrev pub child_in : Trace → ℕ
child_in trace = elim trace.child [ None ↦ 0 | Some child ↦ child.serial ]

abbrev pub of_kind : ℕ → SukOutput
of_kind kind = record {
  kind = kind;
  code = 0;
  ike = 0;
  child = 0;
  closed = 0;
  keyed = 0;
  messages = 0;
  closings = 0;
  number = 0;
  offset = 0;
  length = 0;
}

-- a packet of a list that the library refuses by itself
abbrev pub refused_alone : Refusal → SukOutput
refused_alone why = record (of_kind 13) { code = code_of_refusal why }

abbrev pub with_code : ℕ → Reason → SukOutput
with_code kind why = record (of_kind kind) { code = code_of_reason why }

-- what is told of an output and the trace of its step
abbrev pub told_of : OutputView → Trace → SukOutput
told_of (view.Reply octets closed) trace =
    record (of_kind 1) {
      ike = ike_in trace;
      child = child_in trace;
      closed = serial_of closed;
      keyed = serial_of trace.keyed;
      messages = 1;
      length = length octets;
    }
told_of (view.Repeat octets) trace = record (of_kind 2) { ike = ike_in trace; messages = 1; length = length octets }
told_of (view.Request serial octets) trace =
    record (of_kind 3) { ike = serial; keyed = serial_of trace.keyed; messages = 1; length = length octets }
told_of (view.Counted serial child closed) trace =
    record (of_kind 4) { ike = serial; child = serial_of child; closed = serial_of closed; keyed = serial_of trace.keyed }
told_of (view.Ticked requests closed) trace = record (of_kind 5) { messages = length requests; closings = length closed }
told_of view.Done trace = of_kind 6
told_of (view.Up child number packet) trace =
    record (of_kind 7) { child = child; number = number; offset = 8; length = length packet }
told_of (view.Dummy child number) trace = record (of_kind 8) { child = child; number = number }
told_of (view.Sealed child number octets) trace = record (of_kind 9) { child = child; number = number; length = length octets }
told_of (view.Clear packet) trace = record (of_kind 10) { length = length packet }
told_of view.Discarded trace = of_kind 11
told_of (view.Dropped why) trace = with_code 12 why
told_of (view.Refused why) trace = with_code 13 why

-- what is left of an output until the next input
abbrev pub left_of : OutputView → Left
left_of (view.Reply octets closed) = left.Message 0 octets
left_of (view.Repeat octets) = left.Message 0 octets
left_of (view.Request serial octets) = left.Message serial octets
left_of (view.Ticked requests closed) = left.Ticked requests closed
left_of _ = left.Nothing
