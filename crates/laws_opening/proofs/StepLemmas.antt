-- What steps of these gateways have in common.
use Rattle.std.proofs.Common.{◌≡◌, ◌≢◌, ◌+◌, ◌||◌, inl, inr, ℕ, Bool, true, false, cond, Some, List, [], ap, refl, subst, sym, ◌∙◌}
use Rattle.std.proofs.lemmas.Bool.{true≢false, eq-eqb, ne_eqb}
use Rattle.std.specs.Cmp.{nat_cmp_total, unsigned_tied}
use Rattle.std.specs.FinMap as map
use Rattle.std.specs.Ordering.{nat_cmp}
use Rattle.policy.specs.declared.entry.Entry.{Entry}
use Rattle.sadb.specs.Database.{Database}
use Rattle.requests.specs.Outgoing.{OwnRequests}
use Rattle.association.specs.Issuing.{IssuesNext}
use Rattle.association.specs.declared.phase.Request.{Request}
use Rattle.effects.specs.Taking.{Meaning}
use Rattle.ike.specs.Faults.{is_want_of_memory}
use Rattle.ike.specs.Machines.{is_bad_spi, Machine}
use Rattle.ike.specs.Steps as ike
use Rattle.ike.specs.declared.fault.IkeFault.{IkeFault}
use Rattle.ike.specs.declared.output.Stepped.{Stepped}
use Rattle.ike.specs.declared.output.Trace.{Trace}
use Rattle.gateway.specs.Histories.{IsPassage, Passage}
use Rattle.gateway.specs.Inputs.{Input}
use Rattle.gateway.specs.Outputs.{view_of_ike, wants_memory, OutputView}
use Rattle.gateway.specs.States.{State}
use Rattle.gateway.specs.Steps.{AnswersIke, Steps, StepsIke}
use Rattle.laws_opening.specs.Opened.{after}

-- the step, from this gateway and with this input
pub step_from : {C : Type 0} (meaning_of : C → Meaning) (p : Passage C) (state : State C) (given : Input) → IsPassage meaning_of p → p.before ≡ state
    → p.given ≡ given → Steps (meaning_of state.caller) given state p.said p.after
step_from {C} meaning_of p state given is was came =
    subst (λ (x : Input). Steps (meaning_of state.caller) x state p.said p.after) came
    (subst (λ (x : State C). Steps (meaning_of x.caller) p.given x p.said p.after) was is.steps)

-- where it could be refused for memory alone, and wasn't, it is answered
pub answered : {meaning : Meaning} {entries : List Entry} {given : ike.InputView} {old new : Machine} {table new_table : Database} {said : OutputView} {trace : Trace}
    → StepsIke meaning entries given old table said trace new new_table → wants_memory said ≡ false
    → ((fault : IkeFault) → ike.Refuses meaning entries given old table fault → is_want_of_memory fault ≡ true)
    → AnswersIke meaning entries given old table said trace new new_table
answered (inl answers) memory only = answers
answered (inr refuses) memory only =
    absurd (true≢false (sym (only refuses.fault refuses.refuses) ∙ sym (ap wants_memory refuses.output) ∙ memory))

-- what the machine says is what the gateway says
pub said_is : (said : OutputView) (stepped is : Stepped) → said ≡ view_of_ike stepped.output → stepped ≡ is → said ≡ view_of_ike is.output
said_is said stepped is output same = output ∙ ap (λ (s : Stepped). view_of_ike s.output) same

-- what a step changes is the machine and the table
pub leads_to : {C : Type 0} (old new : State C) (machine : Machine) (table : Database) → new ≡ record old { machine = new.machine; table = new.table }
    → new.machine ≡ machine → new.table ≡ table → new ≡ record old { machine = machine; table = table }
leads_to {C} old new machine table kept machine_is table_is = kept ∙ (λ i. record old { machine = machine_is i; table = table_is i })

-- an SPI that isn't 0 can be that of a first IKE SA
pub usable : (spi : ℕ) → spi ≢ 0 → is_bad_spi spi [] ≡ false
usable spi named = ap (λ (b : Bool). b || false) (ne_eqb spi 0 named)

-- what an issued request leaves, but for room
pub issued_is : (old new : OwnRequests Request) (request : Request) → IssuesNext old request new → new ≡ after old request new.room
issued_is old new request issued =
    issued.issued.content
    ∙ ap (λ (ready : OwnRequests Request). record ready { next = ready.next + 1; outstanding = map.insert ready.outstanding old.next request; room = new.room })
    issued.prepared.content

-- and the first of all waits for its answer
abbrev none_out : map.FinMap nat_cmp Request
none_out = map.empty

pub first_waits : (request : Request) → map.get (map.insert none_out 0 request) 0 ≡ Some request
first_waits request =
    map.get-insert nat_cmp_total none_out 0 request 0 ∙ ap (λ (b : Bool). cond b (Some request) (map.get none_out 0)) (unsigned_tied 0 0 ∙ eq-eqb 0 0 refl)
