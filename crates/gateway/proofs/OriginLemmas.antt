-- What goes up had been sealed before it came.
use Rattle.std.proofs.Common.{◌≡◌, ◌++◌, ℕ, List, Option, Some, None, Contains, ap, refl, subst, ◌∙◌}
use Rattle.std.proofs.lemmas.List.{append-nil}
use Rattle.std.specs.List.{slice_get}
use Rattle.std.specs.Option.{option_to_list}
use Rattle.base.specs.Octets.{Octets}
use Rattle.suite.specs.declared.key_record.KeyRecord.{KeyRecord}
use Rattle.suite.specs.declared.keys.Keys.{Keys}
use Rattle.policy.specs.declared.entry.Action.TheVariants.{Protect}
use Rattle.policy.specs.declared.entry.Entry.{Entry}
use Rattle.policy.specs.declared.policy.Direction.TheVariants.{Outward}
use Rattle.traffic.specs.Sending.{IsDecided}
use Rattle.association.specs.Receiving.{Opening}
use Rattle.effects.specs.Taking.{Meaning}
use Rattle.ike.specs.declared.output.MadeChild.{MadeChild}
use Rattle.ike.specs.declared.output.Trace.{Trace}
use Rattle.gateway.specs.BothEnds.{IsWhollySound}
use Rattle.gateway.specs.Inputs.{Input}
use Rattle.gateway.specs.Inputs as input
use Rattle.gateway.specs.LawsOfBothEnds.{BothEndsKeepTheirPromises}
use Rattle.gateway.specs.Outputs.{OutputView, Up}
use Rattle.gateway.specs.States.{State}
use Rattle.gateway.specs.Steps.{DoesInput, Traces}
use Rattle.gateway.specs.WorldHistories.{Happening, IsWorldTrail}
use Rattle.gateway.specs.WorldPackets.{WasSealedByOther}
use Rattle.gateway.specs.Worlds.{child_by, datagram_of, gateway_at, other_end, sent_by, storing, with_gateway, Stored, TakesEvent, WorldState}
use Rattle.gateway.specs.declared.world.stored.Child.{Child}
use Rattle.gateway.specs.declared.world.stored.Datagram.{Datagram}
use Rattle.gateway.specs.declared.world.stored.End.{End}
use Rattle.gateway.specs.declared.world.stored.End.TheVariants.{A, B}
use Rattle.gateway.specs.declared.world.stored.Protection.TheVariants as mark
use Rattle.gateway.specs.Origin.{IsUnforgedUpTo}
use Rattle.gateway.proofs.FrontLemmas.{front, front_early, front_last, front_trail, grows_by_it, grows_from, its_step, stored_by_it}

-- ---- what a step stores that delivers a packet: nothing

nothing_sent : {C : Type 0} (end : End) (said : OutputView) (trace : Trace) (gateway : State C) (old : Stored) (serial number : ℕ) (packet : Octets) → said ≡ Up serial number packet
    → (storing end said trace gateway old).sent ≡ old.sent
nothing_sent {C} end said trace gateway old serial number packet is =
    ap (λ (s : OutputView). old.sent ++ sent_by end s trace.sent gateway) is ∙ append-nil old.sent

untold : {C : Type 0} (meaning : Meaning) (octets : Octets) (given : Input) (old : State C) (said : OutputView) (trace : Trace) (new : State C) → given ≡ input.Esp octets → Traces meaning given old said trace new → trace.child ≡ None
untold {C} meaning octets given old said trace new is traces =
    let does : DoesInput meaning old.entries (input.Esp octets) old.machine old.table said trace new.machine new.table =
    subst (λ (i : Input). DoesInput meaning old.entries i old.machine old.table said trace new.machine new.table) is traces.does in
    ap (λ (t : Trace). t.child) does.0.traced

nothing_made : {C : Type 0} (end : End) (said : OutputView) (trace : Trace) (gateway : State C) (old : Stored) → trace.child ≡ None → (storing end said trace gateway old).children ≡ old.children
nothing_made {C} end said trace gateway old is =
    ap (λ (made : Option MadeChild). old.children ++ option_to_list (child_by end made gateway)) is ∙ append-nil old.children

-- ---- no step changes a policy

entries_there : {C : Type 0} (at end : End) (gateway : State C) (stored : Stored) (w : WorldState C) → gateway.entries ≡ (gateway_at at w).entries → (gateway_at end (with_gateway at gateway stored w)).entries ≡ (gateway_at end w).entries
entries_there {C} A A gateway stored w same = same
entries_there {C} A B gateway stored w same = refl
entries_there {C} B A gateway stored w same = refl
entries_there {C} B B gateway stored w same = same

entries_stay : {C : Type 0} (meaning_of : C → Meaning) (h : Happening C) (end : End) → TakesEvent meaning_of h.event h.before h.said h.after → (gateway_at end h.after).entries ≡ (gateway_at end h.before).entries
entries_stay {C} meaning_of h end takes =
    ap (λ (w : WorldState C). (gateway_at end w).entries) takes.content
    ∙ entries_there h.event.end end takes.gateway (storing h.event.end h.said takes.trace takes.gateway h.before.stored) h.before (ap (λ (s : State C). s.entries) takes.traces.kept)

-- ---- from after the step to before it

module _ {C : Type 0} (meaning_of : C → Meaning) (h : Happening C) (takes : TakesEvent meaning_of h.event h.before h.said h.after) (child : Child) (number : ℕ) (packet : Octets) (said : h.said ≡ Up child.serial number packet) where
  sent_before : h.after.stored.sent ≡ h.before.stored.sent
  sent_before = ap (λ (s : Stored). s.sent) (stored_by_it meaning_of h takes) ∙ nothing_sent h.event.end h.said takes.trace takes.gateway h.before.stored child.serial number packet said

  children_before : (octets : Octets) → h.event.input ≡ input.Esp octets → h.after.stored.children ≡ h.before.stored.children
  children_before octets came =
      ap (λ (s : Stored). s.children) (stored_by_it meaning_of h takes)
      ∙ nothing_made h.event.end h.said takes.trace takes.gateway h.before.stored
      (untold (meaning_of (gateway_at h.event.end h.before).caller) octets h.event.input (gateway_at h.event.end h.before) h.said takes.trace takes.gateway came takes.traces)

  before_it : WasSealedByOther child number packet h h.after → WasSealedByOther child number packet h h.before
  before_it was = record {
    other = was.other;
    there = subst (λ (cs : List Child). Contains cs was.other) (children_before was.octets was.came) was.there;
    of_one = was.of_one;
    octets = was.octets;
    sent = subst (λ (ds : List Datagram). Contains ds (datagram_of was.other.end (mark.Esp was.other.outbound number) was.octets)) sent_before was.sent;
    came = was.came;
    next = was.next;
    carried = was.carried;
    flow = was.flow;
    protected = subst (λ (es : List Entry). IsDecided es Outward packet was.flow Protect) (entries_stay meaning_of h was.other.end takes) was.protected;
    covered = was.covered;
  }

pub sealed_before : {C : Type 0} (body_of : Keys → Octets → Octets → Octets → Octets) (plain_of : Opening) (meaning_of : C → Meaning) → BothEndsKeepTheirPromises C body_of plain_of meaning_of
    → (keys : KeyRecord) (child : Child) (old new : WorldState C) (happenings : List (Happening C)) (place number : ℕ) (packet : Octets) (h : Happening C) → IsWorldTrail meaning_of old happenings new
    → IsWhollySound body_of plain_of keys old → slice_get happenings place ≡ Some h → IsUnforgedUpTo meaning_of keys child happenings place h → h.event.end ≡ child.end → h.said ≡ Up child.serial number packet
    → WasSealedByOther child number packet h h.before
sealed_before {C} body_of plain_of meaning_of promises keys child old new happenings place number packet h trail sound there unforged end said =
    let takes = its_step meaning_of happenings old new place h trail there in
    let first : IsWorldTrail meaning_of old (front place happenings) h.after = front_trail meaning_of happenings old new place h trail there in
    let all = promises (front place happenings) old h.after first in
    let agree = all.agree keys sound
    (λ early g response n octets found comes.
    let is = front_early happenings place early g found in
    (grows_from meaning_of (front place happenings) old h.after early g first found).sent (datagram_of (other_end g.event.end) (mark.Ike keys response n) octets) (unforged.messages early g response n octets is.soon is.there comes))
    unforged.once in
    let carried = agree.carried child ((grows_by_it meaning_of h takes).children child unforged.made) unforged.keyed
    (λ early n octets g found judged.
    let is = front_early happenings place early g found in
    let had = unforged.packets early n octets g is.soon is.there judged in
    record { by = had.by; spi_is = had.spi_is; key_is = had.key_is; sent = (grows_from meaning_of (front place happenings) old h.after early g first found).sent (datagram_of (other_end child.end) (mark.Esp had.by n) octets) had.sent })
    unforged.one_sender in
    before_it meaning_of h takes child number packet said (carried place number packet h (front_last happenings place h there) end said)
