use Rattle.std.proofs.Common.{◌≡◌, ◌||◌, ℕ, Bool, Option, true, false, ap, refl, subst, sym, ◌∙◌}
use Rattle.association.specs.Outcomes.{childless, unless_made}
use Rattle.association.specs.Purposes.{asks_to_end}
use Rattle.association.specs.declared.outcome.Fate.{Fate}
use Rattle.association.specs.Issuing.{with_outgoing}
use Rattle.informational.specs.Counting.{gone_with, is_ended}
use Rattle.informational.specs.Orders.{ClosesIf}
use Rattle.informational.proofs.counting.count.Goals.{then-rejected, else-rejected}
use Rattle.informational.proofs.counting.count.Goals as goal

-- without a Child SA each error declines
unless_childless : (closed : Bool) (error : Option ℕ) → unless_made (childless closed) error ≡ error
unless_childless true error = refl
unless_childless false error = refl

pub returns-clause-counted : goal.returns-clause-counted
returns-clause-counted g c =
    let told = c.in_ok-told.ensures in
    let asked = c.count-request.result.purpose in
    let a = with_outgoing c.args.association.now c.count-request.new.self in
    let closed : c.if-rejected.closed ≡ is_ended told.payloads asked = elim c.if-rejected.branch [
      | then-rejected w ↦ w.closed-is ∙ w.if-rejected.true ∙ ap (λ b. b || asks_to_end asked) (sym w.if-rejected.true ∙ told.told)
      | else-rejected w ↦ w.closed-is ∙ w.asks_to_end-closed.ensures ∙ ap (λ b. b || asks_to_end asked) (sym w.if-rejected.false ∙ told.told)
    ] in (
      record { keys = c.in-Established.field-0; is = c.in-Established.is },
      record {
        payloads = told.payloads;
        read = told.read;
        request = c.count-request.result;
        outgoing = c.count-request.new.self;
        counted = c.count-request.ensures;
        fate = c.childless.ensures ∙ ap childless closed;
        declined = record {
          error = c.in_ok-told.told.error;
          told = record { payloads = told.payloads; read = told.read; told = told.error_is };
          due = sym (ap (λ (f : Fate). unless_made f c.in_ok-told.told.error) c.childless.ensures ∙ unless_childless c.if-rejected.closed c.in_ok-told.told.error);
        };
        concluded = subst (λ b. ClosesIf b (gone_with c.args.table.now.pairs c.args.association.now.serial asked) a c.args.table.now c.args.setup.now.moment c.conclude.new.association c.conclude.new.table)
            closed c.conclude.ensures;
      },
    )

pub conclude-requires : goal.conclude-requires
conclude-requires g c =
    c.spis_stay_held.ensures.counting c.args.association.now c.args.table.now c.args.number c.count-request.result c.count-request.new.self c.count-request.ensures c.requires.reserved
