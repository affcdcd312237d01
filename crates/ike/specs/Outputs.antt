-- What comes of a step: its output, which messages were sent under which keys, which keys and which Child SA
-- were made, and by which notification the peer declined what was asked.
use Rattle.std.specs.Prelude.{ℕ, Bool, true, false, Option, Some, None}
use Rattle.base.specs.Octets.{Octets}
use Rattle.effects.specs.declared.taking.Effect.{Effect}
use Rattle.effects.specs.declared.taking.Effect.TheVariants as effect
use Rattle.ike.specs.declared.fault.IkeFault.{IkeFault}
use Rattle.ike.specs.declared.fault.IkeFault.TheVariants as fault
use Rattle.ike.specs.declared.output.IkeOutput.{IkeOutput}
use Rattle.ike.specs.declared.output.IkeOutput.TheVariants.{Reply, Repeat, Request, Counted, Ticked, Done, Dropped}
use Rattle.ike.specs.declared.output.MadeChild.{MadeChild}
use Rattle.ike.specs.declared.output.Mark.{Mark}
use Rattle.ike.specs.declared.output.Stepped.{Stepped}
use Rattle.ike.specs.declared.output.Trace.{Trace}
use Rattle.association.specs.Outcomes.{closed_by, made_by}

-- the octets that are sent, but for requests that a `Tick` retransmits
abbrev pub octets_in : IkeOutput → Option Octets
octets_in (Reply octets closed) = Some octets
octets_in (Repeat octets) = Some octets
octets_in (Request ike octets) = Some octets
octets_in (Counted ike child closed) = None
octets_in (Ticked ticked) = None
octets_in Done = None
octets_in (Dropped f) = None

abbrev pub no_trace : Trace
no_trace = record { sent = None; keyed = None; child = None; declined = None }

abbrev pub plain_step : IkeOutput → Stepped
plain_step output = record { output = output; trace = no_trace }

abbrev pub passed_over : IkeFault → Stepped
passed_over f = plain_step (Dropped f)

abbrev pub closed_serial : ℕ → Bool → Option ℕ
closed_serial ike true = Some ike
closed_serial ike false = None

-- the Child SA that a request with this Message ID asked for, at this end or at the other
abbrev pub child_of : ℕ → ℕ → Bool → Option ℕ → Option MadeChild
child_of ike number asked (Some serial) = Some (record { serial = serial; ike = ike; number = number; asked = asked })
child_of ike number asked None = None

abbrev pub reply_mark : ℕ → ℕ → Option Mark
reply_mark ike number = Some (record { ike = ike; response = true; number = number })

abbrev pub request_mark : ℕ → ℕ → Option Mark
request_mark ike number = Some (record { ike = ike; response = false; number = number })

-- what a message with this Message ID did to the IKE SA with this serial
abbrev pub stepped_of : ℕ → ℕ → Effect → Stepped
stepped_of ike number (effect.Refused f) = passed_over (fault.Message f)
stepped_of ike number (effect.Repeated octets) = record {
  output = Repeat octets;
  trace = record { sent = reply_mark ike number; keyed = None; child = None; declined = None };
}
stepped_of ike number (effect.Replied answered) = record {
  output = Reply answered.octets (closed_serial ike (closed_by answered.fate));
  trace = record { sent = reply_mark ike number; keyed = None; child = child_of ike number false (made_by answered.fate); declined = None };
}
stepped_of ike number (effect.Again octets) = plain_step (Request ike octets)
stepped_of ike number (effect.AsksAuth octets) = record {
  output = Request ike octets;
  trace = record { sent = request_mark ike 1; keyed = Some ike; child = None; declined = None };
}
stepped_of ike number (effect.Counted ended) = record {
  output = Counted ike (made_by ended.fate) (closed_serial ike (closed_by ended.fate));
  trace = record { sent = None; keyed = None; child = child_of ike number true (made_by ended.fate); declined = ended.declined };
}

-- a request under keys is sent for the first time
abbrev pub asking_step : ℕ → ℕ → Octets → Stepped
asking_step ike number octets = record { output = Request ike octets; trace = record { sent = request_mark ike number; keyed = None; child = None; declined = None } }

abbrev pub half_open_step : ℕ → Octets → Stepped
half_open_step ike octets = record { output = Reply octets None; trace = record { sent = None; keyed = Some ike; child = None; declined = None } }

-- the output for a datagram that is dropped, or that is a retransmission
abbrev pub IsQuiet : IkeOutput → Type 0
IsQuiet (Dropped f) = Unit {0}
IsQuiet (Repeat octets) = Unit {0}
IsQuiet _ = ⊥
