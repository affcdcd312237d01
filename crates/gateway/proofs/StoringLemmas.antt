-- Steps of which nothing is stored.
use Rattle.std.proofs.Common.{◌≡◌, ◌++◌, [], true, List, refl, sym, ap, ◌∙◌, subst, inl, inr}
use Rattle.std.proofs.lemmas.List.{append-nil}
use Rattle.base.specs.Octets.{Octets}
use Rattle.policy.specs.declared.entry.Entry.{Entry}
use Rattle.sadb.specs.Database.{Database}
use Rattle.effects.specs.Taking.{Meaning}
use Rattle.ike.specs.Outputs.{no_trace}
use Rattle.ike.specs.declared.output.Stepped.{Stepped}
use Rattle.ike.specs.declared.output.Trace.{Trace}
use Rattle.traffic.specs.Admitting.{Admits}
use Rattle.traffic.specs.Outcomes.{Outcome, Up, Dummy, Sealed, Clear, Discarded, Dropped}
use Rattle.traffic.specs.Receiving.{Receives}
use Rattle.gateway.specs.Inputs.{Input}
use Rattle.gateway.specs.Inputs as input
use Rattle.gateway.specs.Outputs.{OutputView, view_of_ike, view_of_outcome}
use Rattle.gateway.specs.Outputs as outputs
use Rattle.gateway.specs.States.{State}
use Rattle.gateway.specs.Steps.{Traces}
use Rattle.gateway.specs.Storing.{TakesAt}
use Rattle.gateway.specs.WorldRuns.{sends_nothing}
use Rattle.gateway.specs.Worlds.{sent_by, storing, Stored}
use Rattle.gateway.specs.declared.world.stored.Child.{Child}
use Rattle.gateway.specs.declared.world.stored.Datagram.{Datagram}
use Rattle.gateway.specs.declared.world.stored.End.{End}
use Rattle.gateway.specs.declared.world.stored.Keyed.{Keyed}

unsent_received : {C : Type 0} (end : End) (old new : Database) (packet : Octets) (outcome : Outcome) (gateway : State C)
    → Receives old packet outcome new → sent_by end (view_of_outcome outcome) no_trace.sent gateway ≡ []
unsent_received {C} end old new packet (Up child number inner) gateway receives = refl
unsent_received {C} end old new packet (Dummy child number) gateway receives = refl
unsent_received {C} end old new packet (Dropped fault) gateway receives = refl
unsent_received {C} end old new packet (Sealed child number octets) gateway receives = absurd receives
unsent_received {C} end old new packet (Clear octets) gateway receives = absurd receives
unsent_received {C} end old new packet Discarded gateway receives = absurd receives

unsent_admitted : {C : Type 0} (end : End) (policy : List Entry) (packet : Octets) (outcome : Outcome) (gateway : State C)
    → Admits policy packet outcome → sent_by end (view_of_outcome outcome) no_trace.sent gateway ≡ []
unsent_admitted {C} end policy packet (Clear octets) gateway admits = refl
unsent_admitted {C} end policy packet Discarded gateway admits = refl
unsent_admitted {C} end policy packet (Dropped fault) gateway admits = refl
unsent_admitted {C} end policy packet (Sealed child number octets) gateway admits = absurd admits
unsent_admitted {C} end policy packet (Up child number inner) gateway admits = absurd admits
unsent_admitted {C} end policy packet (Dummy child number) gateway admits = absurd admits

-- without a trace, and with nothing sent, what is stored stays as it is
stays : {C : Type 0} (end : End) (said : OutputView) (gateway : State C) (stored : Stored)
    → sent_by end said no_trace.sent gateway ≡ [] → stored ≡ storing end said no_trace gateway stored
stays {C} end said gateway stored nothing =
    let sent : stored.sent ≡ stored.sent ++ sent_by end said no_trace.sent gateway =
    sym (append-nil stored.sent) ∙ ap (λ (more : List Datagram). stored.sent ++ more) (sym nothing)
    in
    ap (λ (sent : List Datagram). record { sent = sent; keyed = stored.keyed; children = stored.children }) sent
    ∙ ap (λ (keyed : List Keyed). record { sent = stored.sent ++ sent_by end said no_trace.sent gateway; keyed = keyed; children = stored.children }) (sym (append-nil stored.keyed))
    ∙ ap (λ (children : List Child). record { sent = stored.sent ++ sent_by end said no_trace.sent gateway; keyed = stored.keyed ++ []; children = children }) (sym (append-nil stored.children))

unstored : {C : Type 0} (meaning : Meaning) (end : End) (given : Input) (old : State C) (said view : OutputView) (trace : Trace) (new : State C) (stored : Stored)
    → Traces meaning given old said trace new → said ≡ view → trace ≡ no_trace → sent_by end view no_trace.sent new ≡ []
    → TakesAt meaning end given old stored said new stored
unstored {C} meaning end given old said view trace new stored traces is_said is_trace nothing = record {
  trace = trace;
  traces = traces;
  stores = subst (λ (t : Trace). stored ≡ storing end said t new stored) (sym is_trace)
      (subst (λ (s : OutputView). stored ≡ storing end s no_trace new stored) (sym is_said) (stays end view new stored nothing));
}

pub takes_unstored : {C : Type 0} (meaning : Meaning) (given : Input) (old : State C) (said : OutputView) (trace : Trace) (new : State C)
    → sends_nothing given ≡ true → Traces meaning given old said trace new
    → (end : End) (stored : Stored) → TakesAt meaning end given old stored said new stored
takes_unstored {C} meaning (input.Esp octets) old said trace new quiet t end stored =
    let packet = t.does.1 in
    unstored meaning end (input.Esp octets) old said (view_of_outcome packet.outcome) trace new stored t packet.output t.does.0.traced
    (unsent_received end old.table new.table octets packet.outcome new packet.receives)
takes_unstored {C} meaning (input.Inward packet) old said trace new quiet t end stored =
    let admitted = t.does.1 in
    unstored meaning end (input.Inward packet) old said (view_of_outcome admitted.outcome) trace new stored t admitted.output t.does.0.traced
    (unsent_admitted end old.entries packet admitted.outcome new admitted.admits)
takes_unstored {C} meaning (input.Secret secret) old said trace new quiet t end stored =
    elim t.does [
      | inl answers ↦
          unstored meaning end (input.Secret secret) old said outputs.Done trace new stored t
          (answers.output ∙ ap (λ (s : Stepped). view_of_ike s.output) answers.steps.said)
          (answers.traced ∙ ap (λ (s : Stepped). s.trace) answers.steps.said) refl
      | inr refuses ↦ unstored meaning end (input.Secret secret) old said _ trace new stored t refuses.output refuses.traced refl
    ]
takes_unstored {C} meaning (input.Ike from octets fresh) old said trace new quiet t end stored = absurd (cc)
takes_unstored {C} meaning (input.Outward packet) old said trace new quiet t end stored = absurd (cc)
takes_unstored {C} meaning (input.Start ike entry fresh) old said trace new quiet t end stored = absurd (cc)
takes_unstored {C} meaning (input.Probe ike fresh) old said trace new quiet t end stored = absurd (cc)
takes_unstored {C} meaning (input.DeleteChild child fresh) old said trace new quiet t end stored = absurd (cc)
takes_unstored {C} meaning (input.DeleteIke ike fresh) old said trace new quiet t end stored = absurd (cc)
takes_unstored {C} meaning (input.Tick moment) old said trace new quiet t end stored = absurd (cc)
