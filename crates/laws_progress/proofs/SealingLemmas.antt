-- What the policy protects is sealed by the pair that carries it, unless memory runs out.
use Rattle.std.proofs.Common.{◌≡◌, ◌⊎◌, ℕ, ◌+◌, Some, inl, inr, sym, ap, ◌∙◌, subst}
use Rattle.base.specs.Octets.{Octets}
use Rattle.esp.specs.Sealing.{HasNumber}
use Rattle.esp.specs.declared.fault.EspFault.TheVariants.{Exhausted}
use Rattle.policy.specs.declared.flow.Flow.{Flow}
use Rattle.sadb.specs.Database.{pair_at, Database, IsOutbound, PairMap}
use Rattle.sadb.specs.declared.pair.Pair.{Pair}
use Rattle.effects.specs.Taking.{Meaning}
use Rattle.traffic.specs.Outcomes.{Outcome}
use Rattle.traffic.specs.Outcomes as traffic
use Rattle.traffic.specs.Sending.{Protects}
use Rattle.traffic.specs.declared.fault.PacketFault.TheVariants.{Esp, Inner, OutsideSelectors, UnknownAssociation}
use Rattle.gateway.specs.Inputs.{Input}
use Rattle.gateway.specs.LawsOfPackets.{TheProtectedGoesSealed}
use Rattle.gateway.specs.Outputs.{view_of_outcome, Refused}
use Rattle.gateway.specs.Steps.{GoesSealed, Steps}
use Rattle.gateway.specs.WorldHistories.{Happening}
use Rattle.gateway.specs.Worlds.{gateway_at, TakesEvent}
use Rattle.gateway.specs.declared.fault.Reason.TheVariants as reason
use Rattle.laws_progress.specs.Delivering.{IsToGoBy, SealsItsNext}

-- of the pairs that carry a flow one is used
abbrev pub OneCarrier : Type 0
OneCarrier = (pairs : PairMap) (flow : Flow) (a b : ℕ) → IsOutbound pairs flow a → IsOutbound pairs flow b → a ≡ b

same_pair : (a b : Pair) → Some a ≡ Some b → a ≡ b
same_pair a b is = cc

record Seals (old : Database) (pair : Pair) (outcome : Outcome) : Type 0 where
  octets : Octets
  is : outcome ≡ traffic.Sealed pair.serial (pair.outbound.last + 1) octets

module _ (one : OneCarrier) (old : Database) (flow : Flow) (packet : Octets) (pair : Pair) (held : pair_at old.pairs pair.serial ≡ Some pair)
    (carries : IsOutbound old.pairs flow pair.serial) (left : HasNumber pair.outbound) where
  sealed_by : (child number : ℕ) (octets : Octets) (new : Database) → Protects old flow packet (traffic.Sealed child number octets) new → Seals old pair (traffic.Sealed child number octets)
  sealed_by child number octets new is =
      let serial : child ≡ pair.serial = one old.pairs flow child pair.serial is.carrier carries in
      let there : pair_at old.pairs child ≡ Some is.sealed.pair = is.sealed.changed.there in
      let same : is.sealed.pair ≡ pair = same_pair is.sealed.pair pair (sym there ∙ ap (pair_at old.pairs) serial ∙ held) in
      let number_is : number ≡ pair.outbound.last + 1 = is.sealed.sealed.number ∙ ap (λ (p : Pair). p.outbound.last + 1) same in
      record { octets = octets; is = λ i. traffic.Sealed (serial i) (number_is i) octets }

  not_exhausted : (new : Database) → Protects old flow packet (traffic.Dropped (Esp Exhausted)) new → ⊥
  not_exhausted new is =
      let serial : is.0.child ≡ pair.serial = one old.pairs flow is.0.child pair.serial is.0.carrier carries in
      let same : is.0.refused.pair ≡ pair = same_pair is.0.refused.pair pair (sym is.0.refused.there ∙ ap (pair_at old.pairs) serial ∙ held) in
      is.0.refused.refused (subst (λ (p : Pair). HasNumber p.outbound) (sym same) left)

  seals_it : (outcome : Outcome) (new : Database) → Protects old flow packet outcome new → Seals old pair outcome
  seals_it (traffic.Sealed child number octets) new is = sealed_by child number octets new is
  seals_it (traffic.Dropped UnknownAssociation) new is = absurd (is.0 pair.serial carries.carries)
  seals_it (traffic.Dropped (Esp Exhausted)) new is = absurd (not_exhausted new is)
  seals_it (traffic.Dropped (Esp fault)) new is = absurd is
  seals_it (traffic.Dropped (Inner fault)) new is = absurd is
  seals_it (traffic.Dropped OutsideSelectors) new is = absurd is
  seals_it (traffic.Clear octets) new is = absurd is
  seals_it traffic.Discarded new is = absurd is
  seals_it (traffic.Up child number inner) new is = absurd is
  seals_it (traffic.Dummy child number) new is = absurd is

module _ {C : Type 0} (one : OneCarrier) (law : TheProtectedGoesSealed C) (meaning_of : C → Meaning) (h : Happening C) (takes : TakesEvent meaning_of h.event h.before h.said h.after)
    (pair : Pair) (packet : Octets) (goes : IsToGoBy pair packet h) where
  sealed_or_not : GoesSealed goes.flow packet (gateway_at h.event.end h.before) h.said takes.gateway → SealsItsNext pair packet h ⊎ (h.said ≡ Refused reason.Memory)
  sealed_or_not (inl is) =
      let seals : Seals (gateway_at h.event.end h.before).table pair is.0 = seals_it one (gateway_at h.event.end h.before).table goes.flow packet pair goes.held goes.carries goes.number_left is.0 takes.gateway.table is.1 in
      inl (record { octets = seals.octets; sealed = record { given = goes.given; said = is.2 ∙ ap view_of_outcome seals.is; stood = goes.held } })
  sealed_or_not (inr is) = inr is

  pub is_sealed : SealsItsNext pair packet h ⊎ (h.said ≡ Refused reason.Memory)
  is_sealed =
      let before = gateway_at h.event.end h.before in
      let steps : Steps (meaning_of before.caller) h.event.input before h.said takes.gateway = record { trace = takes.trace; traces = takes.traces } in
      sealed_or_not (law (meaning_of before.caller) packet goes.flow h.said before takes.gateway goes.protected
      (subst (λ (i : Input). Steps (meaning_of before.caller) i before h.said takes.gateway) goes.given steps))
