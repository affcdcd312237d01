-- Packets on their way out.
use Rattle.std.proofs.Common.{◌≡◌, ℕ, ◌+◌, ◌≤◌, List, Option, None, Some, length, refl, sym, subst, arith, inl, inr, zero-le, true≢false}
use Rattle.std.specs.Prelude.{IsNone}
use Rattle.base.specs.Octets.{Octets}
use Rattle.effects.specs.Taking.{Meaning}
use Rattle.gateway.specs.Inputs.{Outward}
use Rattle.gateway.specs.Outputs.{OutputView, view_of_outcome}
use Rattle.gateway.specs.States.{State}
use Rattle.gateway.specs.Steps.{SendsPacket, Traces}
use Rattle.ike.specs.declared.output.Trace.{Trace}
use Rattle.policy.specs.declared.entry.Entry.{Entry}
use Rattle.sadb.specs.Database.{Database}
use Rattle.traffic.specs.Outcomes.{Outcome}
use Rattle.traffic.specs.Outcomes as outcomes
use Rattle.traffic.specs.Sending.{Sends}
use Rattle.sukperin.specs.Outward.{SendsIf, sealed_in}
use Rattle.sukperin.specs.declared.end.End.{End}
use Rattle.sukperin.specs.declared.end.End.TheVariants.{Gateway, Receiver, Sender}
use Rattle.sukperin.specs.declared.hosted.Hosted.{Hosted}
use Rattle.sukperin.specs.declared.output.SukOutput.{SukOutput}
use Rattle.sukperin.proofs.AssociationLemmas.{length_sealed}

-- ---- how long an ESP packet is

outcome_fits : (entries : List Entry) (old new : Database) (packet : Octets) (outcome : Outcome) → Sends old entries packet outcome new → length (sealed_in (view_of_outcome outcome)) ≤ length packet + 29
outcome_fits entries old new packet (outcomes.Sealed child number octets) sends =
    let s = sends.protects.sealed in
    length_sealed s.pair.outbound s.outbound _ number packet octets s.sealed
outcome_fits entries old new packet (outcomes.Up child number inner) sends = absurd sends
outcome_fits entries old new packet (outcomes.Dummy child number) sends = absurd sends
outcome_fits entries old new packet (outcomes.Clear octets) sends = omega arith
outcome_fits entries old new packet outcomes.Discarded sends = omega arith
outcome_fits entries old new packet (outcomes.Dropped fault) sends = omega arith

said_fits : (entries : List Entry) (old new : Database) (packet : Octets) (said : OutputView) → SendsPacket entries old packet said new → length (sealed_in said) ≤ length packet + 29
said_fits entries old new packet said (inl sent) =
    subst (λ (s : OutputView). length (sealed_in s) ≤ length packet + 29) (sym sent.output) (outcome_fits entries old new packet sent.outcome sent.sends)
said_fits entries old new packet said (inr lacks) =
    subst (λ (s : OutputView). length (sealed_in s) ≤ length packet + 29) (sym lacks.output) zero-le

-- an ESP packet is the packet that goes out by it and at most 29 octets more
pub sealed_fits : {C : Type 0} (meaning : Meaning) (packet : Octets) (said : OutputView) (trace : Trace) (old new : State C) → Traces meaning (Outward packet) old said trace new
    → length (sealed_in said) ≤ length packet + 29
sealed_fits {C} meaning packet said trace old new t = said_fits old.entries old.table new.table packet said t.does.1

-- ---- what a call answers

-- an end that is no gateway
pub sends_nothing : (packet room : Octets) (end : End) (code : ℕ) (told : SukOutput) → ((hosted : Hosted) → end ≡ Gateway hosted → ⊥) → code ≡ 101
    → SendsIf packet room (Some end) code (Some end) told told room
sends_nothing packet room (Sender end) code told other is = (is, refl, refl, refl)
sends_nothing packet room (Receiver end) code told other is = (is, refl, refl, refl)
sends_nothing packet room (Gateway hosted) code told other is = absurd (other hosted refl)

-- no end
pub sends_none : (packet room : Octets) (state after : Option End) (code : ℕ) (told : SukOutput) → state ≡ None → after ≡ None → code ≡ 101
    → SendsIf packet room state code after told told room
sends_none packet room state after code told none left is =
    subst (λ (s : Option End). SendsIf packet room s code after told told room) (sym none) (is, left, refl, refl)

-- an end that is put back
pub sends_of : (packet room filled : Octets) (state after : Option End) (end new : End) (code : ℕ) (before told : SukOutput) → state ≡ Some end → after ≡ Some new
    → SendsIf packet room (Some end) code (Some new) before told filled → SendsIf packet room state code after before told filled
sends_of packet room filled state after end new code before told was is done =
    subst (λ (s : Option End). SendsIf packet room s code after before told filled) (sym was)
    (subst (λ (s : Option End). SendsIf packet room (Some end) code s before told filled) (sym is) done)

pub none_is : (state : Option End) → IsNone state → state ≡ None
none_is None h = refl
none_is (Some end) h = absurd (true≢false h)
