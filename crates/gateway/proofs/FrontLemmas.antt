-- A history up to one of its steps.
use Rattle.std.proofs.Common.{◌≡◌, ◌∷◌, ◌≤◌, ℕ, [], List, Some, Contains, ap, arith, refl, subst, suc, sym, zero, ◌∙◌}
use Rattle.std.proofs.lemmas.List.Elements.{Contains-append_left}
use Rattle.std.proofs.lemmas.Option.{none-some, same_Some}
use Rattle.std.specs.List.{slice_get}
use Rattle.effects.specs.Taking.{Meaning}
use Rattle.gateway.specs.States.{State}
use Rattle.gateway.specs.WorldHistories.{Happening, IsWorldTrail}
use Rattle.gateway.specs.Worlds.{storing, with_gateway, Stored, TakesEvent, WorldState}
use Rattle.gateway.specs.declared.world.stored.Child.{Child}
use Rattle.gateway.specs.declared.world.stored.Datagram.{Datagram}
use Rattle.gateway.specs.declared.world.stored.End.{End}
use Rattle.gateway.specs.declared.world.stored.End.TheVariants.{A, B}

-- the first steps, as many as this place has before it, and the one there
abbrev pub front : {C : Type 0} → ℕ → List (Happening C) → List (Happening C)
front {C} place [] = []
front {C} zero (h ∷ hs) = h ∷ []
front {C} (suc place) (h ∷ hs) = h ∷ front place hs

stored_there : {C : Type 0} (end : End) (gateway : State C) (stored : Stored) (w : WorldState C) → (with_gateway end gateway stored w).stored ≡ stored
stored_there {C} A gateway stored w = refl
stored_there {C} B gateway stored w = refl

pub stored_by_it : {C : Type 0} (meaning_of : C → Meaning) (h : Happening C) (takes : TakesEvent meaning_of h.event h.before h.said h.after)
    → h.after.stored ≡ storing h.event.end h.said takes.trace takes.gateway h.before.stored
stored_by_it {C} meaning_of h takes =
    ap (λ (w : WorldState C). w.stored) takes.content ∙ stored_there h.event.end takes.gateway (storing h.event.end h.said takes.trace takes.gateway h.before.stored) h.before

-- nothing that is stored is lost
pub record Grows (old new : Stored) : Type 0 where
  pub sent : (d : Datagram) → Contains old.sent d → Contains new.sent d
  pub children : (c : Child) → Contains old.children c → Contains new.children c

grows_still : (s : Stored) → Grows s s
grows_still s = record { sent = λ d there. there; children = λ c there. there }

grows_then : (a b c : Stored) → Grows a b → Grows b c → Grows a c
grows_then a b c first then = record { sent = λ d there. then.sent d (first.sent d there); children = λ x there. then.children x (first.children x there) }

pub grows_by_it : {C : Type 0} (meaning_of : C → Meaning) (h : Happening C) → TakesEvent meaning_of h.event h.before h.said h.after → Grows h.before.stored h.after.stored
grows_by_it {C} meaning_of h takes =
    subst (λ (s : Stored). Grows h.before.stored s) (sym (stored_by_it meaning_of h takes)) (record {
      sent = λ d there. Contains-append_left h.before.stored.sent _ d there;
      children = λ c there. Contains-append_left h.before.stored.children _ c there;
    })

module _ {C : Type 0} (meaning_of : C → Meaning) where
  grows_all : (hs : List (Happening C)) (old new : WorldState C) → IsWorldTrail meaning_of old hs new → Grows old.stored new.stored
  grows_all [] old new trail = subst (λ (w : WorldState C). Grows old.stored w.stored) (sym trail) (grows_still old.stored)
  grows_all (h ∷ hs) old new trail =
      subst (λ (w : WorldState C). Grows w.stored new.stored) trail.0
      (grows_then h.before.stored h.after.stored new.stored (grows_by_it meaning_of h trail.1) (grows_all hs h.after new trail.2))

  -- what was stored before one of these steps is stored after the last one
  pub grows_from : (hs : List (Happening C)) (old new : WorldState C) (place : ℕ) (h : Happening C) → IsWorldTrail meaning_of old hs new → slice_get hs place ≡ Some h → Grows h.before.stored new.stored
  grows_from [] old new place h trail there = absurd (none-some h there)
  grows_from (x ∷ xs) old new zero h trail there =
      subst (λ (y : Happening C). Grows y.before.stored new.stored) (same_Some x h there)
      (grows_then x.before.stored x.after.stored new.stored (grows_by_it meaning_of x trail.1) (grows_all xs x.after new trail.2))
  grows_from (x ∷ xs) old new (suc place) h trail there = grows_from xs x.after new place h trail.2 there

  pub its_step : (hs : List (Happening C)) (old new : WorldState C) (place : ℕ) (h : Happening C) → IsWorldTrail meaning_of old hs new → slice_get hs place ≡ Some h → TakesEvent meaning_of h.event h.before h.said h.after
  its_step [] old new place h trail there = absurd (none-some h there)
  its_step (x ∷ xs) old new zero h trail there = subst (λ (y : Happening C). TakesEvent meaning_of y.event y.before y.said y.after) (same_Some x h there) trail.1
  its_step (x ∷ xs) old new (suc place) h trail there = its_step xs x.after new place h trail.2 there

  pub front_trail : (hs : List (Happening C)) (old new : WorldState C) (place : ℕ) (h : Happening C) → IsWorldTrail meaning_of old hs new → slice_get hs place ≡ Some h → IsWorldTrail meaning_of old (front place hs) h.after
  front_trail [] old new place h trail there = absurd (none-some h there)
  front_trail (x ∷ xs) old new zero h trail there = (trail.0, trail.1, ap (λ (y : Happening C). y.after) (sym (same_Some x h there)))
  front_trail (x ∷ xs) old new (suc place) h trail there = (trail.0, trail.1, front_trail xs x.after new place h trail.2 there)

pub front_last : {C : Type 0} (hs : List (Happening C)) (place : ℕ) (h : Happening C) → slice_get hs place ≡ Some h → slice_get (front place hs) place ≡ Some h
front_last {C} [] place h there = absurd (none-some h there)
front_last {C} (x ∷ xs) zero h there = there
front_last {C} (x ∷ xs) (suc place) h there = front_last xs place h there

-- each step of the front is one of the whole, and not behind the last
pub record IsEarly {C : Type 0} (hs : List (Happening C)) (place early : ℕ) (g : Happening C) : Type 0 where
  pub soon : early ≤ place
  pub there : slice_get hs early ≡ Some g

pub front_early : {C : Type 0} (hs : List (Happening C)) (place early : ℕ) (g : Happening C) → slice_get (front place hs) early ≡ Some g → IsEarly hs place early g
front_early {C} [] place early g there = absurd (none-some g there)
front_early {C} (x ∷ xs) zero zero g there = record { soon = omega arith; there = there }
front_early {C} (x ∷ xs) zero (suc early) g there = absurd (none-some g there)
front_early {C} (x ∷ xs) (suc place) zero g there = record { soon = omega arith; there = there }
front_early {C} (x ∷ xs) (suc place) (suc early) g there =
    let rest = front_early xs place early g there in
    record { soon = (let less = rest.soon in omega (arith, less)); there = rest.there }
