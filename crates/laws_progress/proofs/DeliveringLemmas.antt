-- What was sealed at one step of a world and comes at another.
use Rattle.std.proofs.Common.{◌≡◌, ◌↔◌, ◌^◌, ◌+◌, ◌<◌, ◌≤◌, true, ℕ, zero, suc, List, [], ◌∷◌, Some, inl, inr, refl, sym, ap, ◌∙◌, subst}
use Rattle.std.specs.List.{slice_get}
use Rattle.base.specs.Octets.{Octets}
use Rattle.policy.specs.declared.entry.Entry.{Entry}
use Rattle.sadb.specs.Database.{Database}
use Rattle.sadb.specs.declared.pair.Pair.{Pair}
use Rattle.effects.specs.Taking.{Meaning}
use Rattle.traffic.specs.Outcomes.{Outcome}
use Rattle.traffic.specs.Outcomes as traffic
use Rattle.traffic.specs.Sending.{Sends}
use Rattle.gateway.specs.Inputs.{Event, Input}
use Rattle.gateway.specs.Inputs as input
use Rattle.gateway.specs.Outputs.{view_of_outcome, OutputView, Sealed, Up}
use Rattle.gateway.specs.Packets.{outcome_of_said}
use Rattle.gateway.specs.Steps.{DoesInput, ReceivesPacket, SendsPacket}
use Rattle.gateway.specs.WorldHistories.{Happening, IsWorldTrail}
use Rattle.gateway.specs.Worlds.{gateway_at, TakesEvent, WorldState}
use Rattle.laws_progress.specs.Delivering.{ComesTo, MayBeAccepted, WasSealedFor}
use Rattle.laws_progress.proofs.CrossingLemmas.{above_may, crosses, sealed_so, HandsUpLaw}

-- ---- the steps of a list

same_step : {C : Type 0} (g h : Happening C) → Some g ≡ Some h → g ≡ h
same_step {C} g h is = cc

pub step_at : {C : Type 0} (meaning_of : C → Meaning) (hs : List (Happening C)) (old new : WorldState C) → IsWorldTrail meaning_of old hs new
    → (place : ℕ) (h : Happening C) → slice_get hs place ≡ Some h → TakesEvent meaning_of h.event h.before h.said h.after
step_at {C} meaning_of [] old new trail place h there = absurd cc
step_at {C} meaning_of (x ∷ hs) old new trail zero h there =
    subst (λ (y : Happening C). TakesEvent meaning_of y.event y.before y.said y.after) (same_step x h there) trail.1
step_at {C} meaning_of (x ∷ hs) old new trail (suc place) h there = step_at meaning_of hs x.after new trail.2 place h there

-- ---- what is said tells the outcome

outcome_back : (o : Outcome) → outcome_of_said (view_of_outcome o) ≡ Some o
outcome_back (traffic.Up child number packet) = refl
outcome_back (traffic.Dummy child number) = refl
outcome_back (traffic.Sealed child number octets) = refl
outcome_back (traffic.Clear packet) = refl
outcome_back traffic.Discarded = refl
outcome_back (traffic.Dropped fault) = refl

one_outcome : (a b : Outcome) → Some a ≡ Some b → a ≡ b
one_outcome a b is = cc

told : (a b : Outcome) → view_of_outcome a ≡ view_of_outcome b → a ≡ b
told a b is = one_outcome a b (sym (outcome_back a) ∙ ap outcome_of_said is ∙ outcome_back b)

-- ---- a step that seals

sends_it : (entries : List Entry) (old : Database) (packet octets : Octets) (said : OutputView) (child number : ℕ) (new : Database)
    → SendsPacket entries old packet said new → said ≡ Sealed child number octets → Sends old entries packet (traffic.Sealed child number octets) new
sends_it entries old packet octets said child number new (inl is) says =
    subst (λ (o : Outcome). Sends old entries packet o new) (told is.outcome (traffic.Sealed child number octets) (sym is.output ∙ says)) is.sends
sends_it entries old packet octets said child number new (inr is) says = absurd (let both = sym is.output ∙ says in cc)

module _ {C : Type 0} (meaning_of : C → Meaning) (h : Happening C) (takes : TakesEvent meaning_of h.event h.before h.said h.after) where
  pub seals : (child number : ℕ) (packet octets : Octets) → h.event.input ≡ input.Outward packet → h.said ≡ Sealed child number octets
      → Sends (gateway_at h.event.end h.before).table (gateway_at h.event.end h.before).entries packet (traffic.Sealed child number octets) takes.gateway.table
  seals child number packet octets given says =
      let before = gateway_at h.event.end h.before in
      let does : DoesInput (meaning_of before.caller) before.entries (input.Outward packet) before.machine before.table h.said takes.trace takes.gateway.machine takes.gateway.table =
      subst (λ (i : Input). DoesInput (meaning_of before.caller) before.entries i before.machine before.table h.said takes.trace takes.gateway.machine takes.gateway.table) given takes.traces.does in
      sends_it before.entries before.table packet octets h.said child number takes.gateway.table does.1 says

  -- ---- a step at which an ESP packet comes

  pub receives : (octets : Octets) → h.event.input ≡ input.Esp octets → ReceivesPacket (gateway_at h.event.end h.before).table octets h.said takes.gateway.table
  receives octets given =
      let before = gateway_at h.event.end h.before in
      let does : DoesInput (meaning_of before.caller) before.entries (input.Esp octets) before.machine before.table h.said takes.trace takes.gateway.machine takes.gateway.table =
      subst (λ (i : Input). DoesInput (meaning_of before.caller) before.entries i before.machine before.table h.said takes.trace takes.gateway.machine takes.gateway.table) given takes.traces.does in
      does.1

-- a number that was sealed is not 0
pub sealed_positive : {C : Type 0} (meaning_of : C → Meaning) (happenings : List (Happening C)) (old new : WorldState C) → IsWorldTrail meaning_of old happenings new
    → (number : ℕ) (packet octets : Octets) (mirror : Pair) → WasSealedFor mirror number packet octets happenings → 1 ≤ number
sealed_positive {C} meaning_of happenings old new trail number packet octets mirror was =
    let near = was.happening in
    let takes = step_at meaning_of happenings old new trail was.place near was.there in
    let sends = seals meaning_of near takes was.child number packet octets was.sealed.given was.sealed.said in
    (sealed_so (gateway_at near.event.end near.before).table takes.gateway.table (gateway_at near.event.end near.before).entries packet octets was.child number was.pair was.sealed.stood sends).positive

-- ---- both steps

module _ {C : Type 0} (law : HandsUpLaw) (meaning_of : C → Meaning) (happenings : List (Happening C)) (old new : WorldState C) (trail : IsWorldTrail meaning_of old happenings new) where
  pub goes_up : (later number : ℕ) (packet octets : Octets) (mirror : Pair) (h : Happening C) → slice_get happenings later ≡ Some h
      → WasSealedFor mirror number packet octets happenings → ComesTo mirror octets h
      → (h.said ≡ Up mirror.serial number packet) ↔ MayBeAccepted mirror.inbound.association.extended mirror.inbound.window number
  goes_up later number packet octets mirror h there was comes =
      let near = was.happening in
      let near_takes = step_at meaning_of happenings old new trail was.place near was.there in
      let far_takes = step_at meaning_of happenings old new trail later h there in
      let sends = seals meaning_of near near_takes was.child number packet octets was.sealed.given was.sealed.said in
      let came = receives meaning_of h far_takes octets comes.given in
      let either = crosses law (gateway_at near.event.end near.before).table near_takes.gateway.table (gateway_at h.event.end h.before).table far_takes.gateway.table
      (gateway_at near.event.end near.before).entries packet octets was.child number was.pair mirror came.outcome was.sealed.stood sends was.mirrors far_takes.sound.table comes.held came.receives in (
        λ says. either.0 (told came.outcome (traffic.Up mirror.serial number packet) (sym came.output ∙ says)),
        λ may. came.output ∙ ap view_of_outcome (either.1 may),
      )

  pub above_goes_up : (later number : ℕ) (packet octets : Octets) (mirror : Pair) (h : Happening C) → slice_get happenings later ≡ Some h
      → WasSealedFor mirror number packet octets happenings → ComesTo mirror octets h
      → mirror.inbound.window.top < number → (mirror.inbound.association.extended ≡ true → number + mirror.inbound.window.size ≤ mirror.inbound.window.top + 2 ^ 32)
      → h.said ≡ Up mirror.serial number packet
  above_goes_up later number packet octets mirror h there was comes above recovered =
      let far_takes = step_at meaning_of happenings old new trail later h there in
      let sound = far_takes.sound.table.window mirror.serial mirror comes.held in
      (goes_up later number packet octets mirror h there was comes).1 (above_may mirror.inbound.association.extended mirror.inbound.window number sound above recovered)
