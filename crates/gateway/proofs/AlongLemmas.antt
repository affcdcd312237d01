-- What an IKE SA of an end is along a history of a world.
use Rattle.std.proofs.Common.{◌≡◌, ◌<◌, ◌∷◌, inl, inr, ℕ, zero, suc, List, [], Option, Some, None, slice_get, refl, sym, ap, subst, ◌∙◌, arith}
use Rattle.policy.specs.declared.entry.Entry.{Entry}
use Rattle.sadb.specs.Database.{Database, IsSoundTable}
use Rattle.association.specs.declared.phase.Association.{Association}
use Rattle.effects.specs.Taking.{Meaning}
use Rattle.ike.specs.Machines.{association_of, Machine}
use Rattle.ike.specs.Soundness.{IsSoundMachine}
use Rattle.ike.specs.Steps as ike
use Rattle.ike.specs.declared.output.Stepped.{Stepped}
use Rattle.gateway.specs.States.{association_in, State}
use Rattle.gateway.specs.WorldHistories.{Happening, IsWorldTrail}
use Rattle.gateway.specs.Worlds.{gateway_at, other_end, TakesEvent, WorldState}
use Rattle.gateway.specs.declared.world.stored.End.{End}
use Rattle.gateway.specs.declared.world.stored.End.TheVariants.{A, B}
use Rattle.gateway.proofs.ChildLemmas.{gateway_here, gateway_there, way_of}
use Rattle.ike.specs.Before.{How}
use Rattle.gateway.proofs.BeforeLemmas.{step_previous, StepLaws}

-- ---- places of a history

same_happening : {C : Type 0} (h g : Happening C) → Some h ≡ Some g → h ≡ g
same_happening {C} h g is = cc

-- each of what took place is a step
pub each_step : {C : Type 0} (meaning_of : C → Meaning) (hs : List (Happening C)) (old new : WorldState C) → IsWorldTrail meaning_of old hs new
    → (place : ℕ) (h : Happening C) → slice_get hs place ≡ Some h → TakesEvent meaning_of h.event h.before h.said h.after
each_step {C} meaning_of [] old new trail place h there = absurd cc
each_step {C} meaning_of (x ∷ hs) old new trail zero h there =
    subst (λ (y : Happening C). TakesEvent meaning_of y.event y.before y.said y.after) (same_happening x h there) trail.1
each_step {C} meaning_of (x ∷ hs) old new trail (suc place) h there = each_step meaning_of hs x.after new trail.2 place h there

-- what takes place behind an event, and before one
pub record Behind {C : Type 0} (meaning_of : C → Meaning) (from to : WorldState C) : Type 0 where
  pub happenings : List (Happening C)
  pub trail : IsWorldTrail meaning_of from happenings to

pub behind : {C : Type 0} (meaning_of : C → Meaning) (hs : List (Happening C)) (old new : WorldState C) → IsWorldTrail meaning_of old hs new → (place : ℕ) (h : Happening C) → slice_get hs place ≡ Some h → Behind meaning_of h.after new
behind {C} meaning_of [] old new trail place h there = absurd cc
behind {C} meaning_of (x ∷ hs) old new trail zero h there = subst (λ (y : Happening C). Behind meaning_of y.after new) (same_happening x h there) (record { happenings = hs; trail = trail.2 })
behind {C} meaning_of (x ∷ hs) old new trail (suc place) h there = behind meaning_of hs x.after new trail.2 place h there

pub ahead : {C : Type 0} (meaning_of : C → Meaning) (hs : List (Happening C)) (old new : WorldState C) → IsWorldTrail meaning_of old hs new → (place : ℕ) (h : Happening C) → slice_get hs place ≡ Some h → Behind meaning_of old h.before
ahead {C} meaning_of [] old new trail place h there = absurd cc
ahead {C} meaning_of (x ∷ hs) old new trail zero h there =
    subst (λ (y : Happening C). Behind meaning_of old y.before) (same_happening x h there) (record { happenings = []; trail = trail.0 })
ahead {C} meaning_of (x ∷ hs) old new trail (suc place) h there =
    let rest = ahead meaning_of hs x.after new trail.2 place h there in
    record { happenings = x ∷ rest.happenings; trail = (trail.0, trail.1, rest.trail) }

pub between : {C : Type 0} (meaning_of : C → Meaning) (hs : List (Happening C)) (old new : WorldState C) → IsWorldTrail meaning_of old hs new → (place later : ℕ) (h g : Happening C)
    → place < later → slice_get hs place ≡ Some h → slice_get hs later ≡ Some g → Behind meaning_of h.after g.before
between {C} meaning_of [] old new trail place later h g less here there = absurd cc
between {C} meaning_of (x ∷ hs) old new trail place zero h g less here there = absurd (omega (arith, less))
between {C} meaning_of (x ∷ hs) old new trail zero (suc later) h g less here there =
    subst (λ (y : Happening C). Behind meaning_of y.after g.before) (same_happening x h here) (ahead meaning_of hs x.after new trail.2 later g there)
between {C} meaning_of (x ∷ hs) old new trail (suc place) (suc later) h g less here there = between meaning_of hs x.after new trail.2 place later h g (omega (arith, less)) here there

-- ---- an event at an end

pub after_here : {C : Type 0} (meaning_of : C → Meaning) (h : Happening C) (t : TakesEvent meaning_of h.event h.before h.said h.after) → gateway_at h.event.end h.after ≡ t.gateway
after_here {C} meaning_of h t = ap (λ (w : WorldState C). gateway_at h.event.end w) t.content ∙ gateway_here h.event.end t.gateway _ h.before

pub after_there : {C : Type 0} (meaning_of : C → Meaning) (h : Happening C) (t : TakesEvent meaning_of h.event h.before h.said h.after) → gateway_at (other_end h.event.end) h.after ≡ gateway_at (other_end h.event.end) h.before
after_there {C} meaning_of h t = ap (λ (w : WorldState C). gateway_at (other_end h.event.end) w) t.content ∙ gateway_there h.event.end t.gateway _ h.before

-- of both ends, where it is of the one at which an event takes place, and of the other
pub each_end : (P : End → Type 0) (end : End) → P end → P (other_end end) → (e : End) → P e
each_end P A here there A = here
each_end P A here there B = there
each_end P B here there B = here
each_end P B here there A = there

-- ---- what holds of an IKE SA at each step holds along a history

module _ {C : Type 0} (laws : StepLaws) (meaning_of : C → Meaning) (serial : ℕ) (P : Association → Type 0)
    (stays : (meaning : Meaning) (entries : List Entry) (view : ike.InputView) (old : Machine) (table : Database) (stepped : Stepped) (new : Machine) (new_table : Database) (was is : Association)
    → IsSoundTable table → IsSoundMachine old table → ike.Steps meaning entries view old table stepped new new_table
    → association_of serial old.held.associations ≡ Some was → association_of serial new.held.associations ≡ Some is → How meaning entries view old table new.held new_table was is → P was → P is) where
  -- its serial was given, and where it is held this holds of it
  pub record Keeps (s : State C) : Type 0 where
    pub given : serial < s.machine.held.next
    pub each : (a : Association) → association_in s serial ≡ Some a → P a

  kept_here : (h : Happening C) (t : TakesEvent meaning_of h.event h.before h.said h.after) → Keeps (gateway_at h.event.end h.before) → Keeps t.gateway
  kept_here h t keeps =
      let was = gateway_at h.event.end h.before in
      let meaning = meaning_of was.caller in
      elim (way_of meaning h.event.input was h.said t.trace t.gateway t.traces.does) [
        | inl w ↦ record {
          given = (let before = keeps.given in let grows = laws.rising meaning was.entries w.view was.machine was.table w.stepped t.gateway.machine t.gateway.table w.steps in omega (arith, before, grows));
          each = λ a there.
              let before = step_previous laws meaning was.entries w.view was.machine was.table w.stepped t.gateway.machine t.gateway.table t.sound.machine w.steps serial a keeps.given there in
              stays meaning was.entries w.view was.machine was.table w.stepped t.gateway.machine t.gateway.table before.was a t.sound.table t.sound.machine w.steps before.stood there before.how
              (keeps.each before.was before.stood);
        }
        | inr still ↦ record {
          given = (let same = ap (λ (m : Machine). m.held.next) still.machine in let before = keeps.given in omega (arith, same, before));
          each = λ a there. keeps.each a (ap (λ (m : Machine). association_of serial m.held.associations) (sym still.machine) ∙ there);
        }
      ]

  kept_event : (end : End) (h : Happening C) (t : TakesEvent meaning_of h.event h.before h.said h.after) → Keeps (gateway_at end h.before) → Keeps (gateway_at end h.after)
  kept_event end h t =
      each_end (λ e. Keeps (gateway_at e h.before) → Keeps (gateway_at e h.after)) h.event.end
      (λ keeps. subst Keeps (sym (after_here meaning_of h t)) (kept_here h t keeps))
      (λ keeps. subst Keeps (sym (after_there meaning_of h t)) keeps) end

  pub kept_along : (end : End) (hs : List (Happening C)) (old new : WorldState C) → IsWorldTrail meaning_of old hs new → Keeps (gateway_at end old) → Keeps (gateway_at end new)
  kept_along end [] old new trail keeps = subst (λ (w : WorldState C). Keeps (gateway_at end w)) (sym trail) keeps
  kept_along end (h ∷ hs) old new trail keeps =
      kept_along end hs h.after new trail.2 (kept_event end h trail.1 (subst (λ (w : WorldState C). Keeps (gateway_at end w)) (sym trail.0) keeps))
