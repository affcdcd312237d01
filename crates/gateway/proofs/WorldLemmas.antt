-- How the ends of a world run apart, and that what is stored stays.
use Rattle.std.proofs.Common.{◌≡◌, ◌++◌, ◌∷◌, [], ℕ, List, take, refl, sym, ap, ◌∙◌, subst, append_assoc}
use Rattle.std.proofs.lemmas.List.{append-nil}
use Rattle.effects.specs.Taking.{Meaning}
use Rattle.ike.specs.declared.output.Trace.{Trace}
use Rattle.gateway.specs.Inputs.{Event, Input}
use Rattle.gateway.specs.Outputs.{output_view, OutputView}
use Rattle.gateway.specs.Promises.{KeepsPromises}
use Rattle.gateway.specs.Requests.{for_ike}
use Rattle.gateway.specs.Runs.{Runs, StepsAs}
use Rattle.gateway.specs.States.{IsSoundState, State}
use Rattle.gateway.specs.Steps.{Traces}
use Rattle.gateway.specs.Storing.{TakesAt}
use Rattle.gateway.specs.WorldPromises.{KeepsWorldPromises}
use Rattle.gateway.specs.WorldRuns.{inputs_at, outputs_at, HappensAs, IsLater, PlaysFirst}
use Rattle.gateway.specs.Worlds.{gateway_at, if_at, storing, with_gateway, IsFreshlyGiven, Stored, TakesEvent, WorldState}
use Rattle.gateway.specs.declared.output.Output.{Output}
use Rattle.gateway.specs.declared.world.stored.End.{End}
use Rattle.gateway.specs.declared.world.stored.End.TheVariants.{A, B}
use Rattle.gateway.proofs.WorldHistoryLemmas.{history_at}

-- an event in front of a run: a step of this end, or none
in_front : {C : Type 0} (meaning_of : C → Meaning) (end place : End) (input : Input) (o : Output) (is : List Input) (os : List Output) (old between : WorldState C) (new gateway : State C) (trace : Trace) (stored : Stored)
    → IsSoundState (gateway_at place old) → Traces (meaning_of (gateway_at place old).caller) input (gateway_at place old) (output_view o) trace gateway
    → between ≡ with_gateway place gateway stored old
    → Runs (StepsAs meaning_of) is os (gateway_at end between) new
    → Runs (StepsAs meaning_of) (if_at end place input is) (if_at end place o os) (gateway_at end old) new
in_front {C} meaning_of A A input o is os old between new gateway trace stored sound traces same run =
    (gateway, record { sound = sound; steps = record { trace = trace; traces = traces } }, subst (λ (w : WorldState C). Runs (StepsAs meaning_of) is os w.a new) same run)
in_front {C} meaning_of B B input o is os old between new gateway trace stored sound traces same run =
    (gateway, record { sound = sound; steps = record { trace = trace; traces = traces } }, subst (λ (w : WorldState C). Runs (StepsAs meaning_of) is os w.b new) same run)
in_front {C} meaning_of A B input o is os old between new gateway trace stored sound traces same run =
    subst (λ (w : WorldState C). Runs (StepsAs meaning_of) is os w.a new) same run
in_front {C} meaning_of B A input o is os old between new gateway trace stored sound traces same run =
    subst (λ (w : WorldState C). Runs (StepsAs meaning_of) is os w.b new) same run

pub apart : {C : Type 0} (meaning_of : C → Meaning) (end : End) (es : List Event) (os : List Output) (old new : WorldState C)
    → Runs (HappensAs meaning_of) es os old new
    → Runs (StepsAs meaning_of) (inputs_at end es) (outputs_at end es os) (gateway_at end old) (gateway_at end new)
apart {C} meaning_of end [] [] old new run = ap (λ (w : WorldState C). gateway_at end w) run
apart {C} meaning_of end (e ∷ es) (o ∷ os) old new run =
    in_front meaning_of end e.end e.input o (inputs_at end es) (outputs_at end es os) old run.0 (gateway_at end new) run.1.gateway run.1.trace _ run.1.sound run.1.traces run.1.content
    (apart meaning_of end es os run.0 new run.2)
apart {C} meaning_of end [] (o ∷ os) old new run = absurd run
apart {C} meaning_of end (e ∷ es) [] old new run = absurd run

pub stored_at : {C : Type 0} (place : End) (gateway : State C) (stored : Stored) (old : WorldState C) → (with_gateway place gateway stored old).stored ≡ stored
stored_at {C} A gateway stored old = refl
stored_at {C} B gateway stored old = refl

longer : {X : Type 0} (old between new front behind : List X) → between ≡ old ++ front → new ≡ between ++ behind → new ≡ old ++ (front ++ behind)
longer {X} old between new front behind first second = second ∙ ap (λ (xs : List X). xs ++ behind) first ∙ append_assoc old front behind

pub later_more : (old between new more : Stored) → between.sent ≡ old.sent ++ more.sent → between.keyed ≡ old.keyed ++ more.keyed → between.children ≡ old.children ++ more.children
    → IsLater between new → IsLater old new
later_more old between new more sent keyed children later = record {
  more = record { sent = more.sent ++ later.more.sent; keyed = more.keyed ++ later.more.keyed; children = more.children ++ later.more.children };
  sent = longer old.sent between.sent new.sent more.sent later.more.sent sent later.sent;
  keyed = longer old.keyed between.keyed new.keyed more.keyed later.more.keyed keyed later.keyed;
  children = longer old.children between.children new.children more.children later.more.children children later.children;
}

pub later_same : (old new : Stored) → new ≡ old → IsLater old new
later_same old new same = record {
  more = record { sent = []; keyed = []; children = [] };
  sent = ap (λ (s : Stored). s.sent) same ∙ sym (append-nil old.sent);
  keyed = ap (λ (s : Stored). s.keyed) same ∙ sym (append-nil old.keyed);
  children = ap (λ (s : Stored). s.children) same ∙ sym (append-nil old.children);
}

pub stays_stored : {C : Type 0} (meaning_of : C → Meaning) (es : List Event) (os : List Output) (old new : WorldState C)
    → Runs (HappensAs meaning_of) es os old new → IsLater old.stored new.stored
stays_stored {C} meaning_of [] [] old new run = later_same old.stored new.stored (ap (λ (w : WorldState C). w.stored) run)
stays_stored {C} meaning_of (e ∷ es) (o ∷ os) old new run =
    let stored = ap (λ (w : WorldState C). w.stored) run.1.content ∙ stored_at e.end run.1.gateway (storing e.end (output_view o) run.1.trace run.1.gateway old.stored) old in
    later_more old.stored run.0.stored new.stored _ (ap (λ (s : Stored). s.sent) stored) (ap (λ (s : Stored). s.keyed) stored) (ap (λ (s : Stored). s.children) stored)
    (stays_stored meaning_of es os run.0 new run.2)
stays_stored {C} meaning_of [] (o ∷ os) old new run = absurd run
stays_stored {C} meaning_of (e ∷ es) [] old new run = absurd run

-- a step of the gateway of A, after room was made, is what happens at A
pub taken_at_a : {C : Type 0} (meaning_of : C → Meaning) (event : Event) (old : WorldState C) (a b : State C) (before ready : Stored) (s : OutputView) (gateway : State C) (after : Stored)
    → event.end ≡ A → IsFreshlyGiven (for_ike event.input) → IsSoundState a → record { a = a; b = b; stored = before } ≡ old → ready ≡ before → TakesAt (meaning_of a.caller) A event.input a ready s gateway after
    → TakesEvent meaning_of event old s (record { a = gateway; b = b; stored = after })
taken_at_a {C} meaning_of event old a b before ready s gateway after at_a fresh sound was same t =
    let content : record { a = gateway; b = b; stored = after } ≡ with_gateway A gateway (storing A s t.trace gateway before) (record { a = a; b = b; stored = before }) =
    ap (λ (st : Stored). record { a = gateway; b = b; stored = st }) (t.stores ∙ ap (λ (st : Stored). storing A s t.trace gateway st) same) in
    record {
      sound = subst (λ (x : End). IsSoundState (gateway_at x old)) (sym at_a) (subst (λ (w : WorldState C). IsSoundState w.a) was sound);
      fresh = fresh;
      trace = t.trace;
      gateway = gateway;
      traces = subst (λ (e : End). Traces (meaning_of (gateway_at e old).caller) event.input (gateway_at e old) s t.trace gateway) (sym at_a)
          (subst (λ (w : WorldState C). Traces (meaning_of w.a.caller) event.input w.a s t.trace gateway) was t.traces);
      content = subst (λ (e : End). record { a = gateway; b = b; stored = after } ≡ with_gateway e gateway (storing e s t.trace gateway old.stored) old) (sym at_a)
          (subst (λ (w : WorldState C). record { a = gateway; b = b; stored = after } ≡ with_gateway A gateway (storing A s t.trace gateway w.stored) w) was content);
    }

-- and so it is at B
pub taken_at_b : {C : Type 0} (meaning_of : C → Meaning) (event : Event) (old : WorldState C) (a b : State C) (before ready : Stored) (s : OutputView) (gateway : State C) (after : Stored)
    → event.end ≡ B → IsFreshlyGiven (for_ike event.input) → IsSoundState b → record { a = a; b = b; stored = before } ≡ old → ready ≡ before → TakesAt (meaning_of b.caller) B event.input b ready s gateway after
    → TakesEvent meaning_of event old s (record { a = a; b = gateway; stored = after })
taken_at_b {C} meaning_of event old a b before ready s gateway after at_b fresh sound was same t =
    let content : record { a = a; b = gateway; stored = after } ≡ with_gateway B gateway (storing B s t.trace gateway before) (record { a = a; b = b; stored = before }) =
    ap (λ (st : Stored). record { a = a; b = gateway; stored = st }) (t.stores ∙ ap (λ (st : Stored). storing B s t.trace gateway st) same) in
    record {
      sound = subst (λ (x : End). IsSoundState (gateway_at x old)) (sym at_b) (subst (λ (w : WorldState C). IsSoundState w.b) was sound);
      fresh = fresh;
      trace = t.trace;
      gateway = gateway;
      traces = subst (λ (e : End). Traces (meaning_of (gateway_at e old).caller) event.input (gateway_at e old) s t.trace gateway) (sym at_b)
          (subst (λ (w : WorldState C). Traces (meaning_of w.b.caller) event.input w.b s t.trace gateway) was t.traces);
      content = subst (λ (e : End). record { a = a; b = gateway; stored = after } ≡ with_gateway e gateway (storing e s t.trace gateway old.stored) old) (sym at_b)
          (subst (λ (w : WorldState C). record { a = a; b = gateway; stored = after } ≡ with_gateway B gateway (storing B s t.trace gateway w.stored) w) was content);
    }

-- what is known of a run
abbrev pub PromisesLaw : Type 0 → Type 0
PromisesLaw C = (meaning_of : C → Meaning) (is : List Input) (os : List Output) (old new : State C) → Runs (StepsAs meaning_of) is os old new → KeepsPromises meaning_of is os old new

abbrev pub WorldPromisesLaw : Type 0 → Type 0
WorldPromisesLaw C = (meaning_of : C → Meaning) (es : List Event) (os : List Output) (old new : WorldState C) → Runs (HappensAs meaning_of) es os old new → KeepsWorldPromises meaning_of es os old new

-- a run of a world says all of it
pub plays : {C : Type 0} → PromisesLaw C → WorldPromisesLaw C → (meaning_of : C → Meaning) (count : ℕ) (events : List Event) (old : WorldState C) (before outputs : List Output) (new : WorldState C) (after : List Output)
    → after ≡ before ++ outputs → Runs (HappensAs meaning_of) (take count events) outputs old new → PlaysFirst meaning_of count events old before new after
plays {C} law both meaning_of count events old before outputs new after appended run = record {
  outputs = outputs;
  appended = appended;
  runs = run;
  ends = λ end. apart meaning_of end (take count events) outputs old new run;
  histories = λ happenings history end. history_at meaning_of end (take count events) outputs old new happenings history;
  promises = λ end. law meaning_of (inputs_at end (take count events)) (outputs_at end (take count events) outputs) (gateway_at end old) (gateway_at end new)
      (apart meaning_of end (take count events) outputs old new run);
  together = both meaning_of (take count events) outputs old new run;
  stored = stays_stored meaning_of (take count events) outputs old new run;
}
