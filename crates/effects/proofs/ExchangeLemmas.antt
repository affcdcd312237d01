-- Which exchange a message has, by what it does.
use Rattle.std.proofs.Common.{◌≡◌, ◌≢◌, ◌==◌, ◌||◌, inl, inr, ℕ, Bool, true, false, Some, Result, Ok, Err, IfErr, ap, refl, subst, sym, ◌∙◌}
use Rattle.std.specs.Result.{IsErrAnd}
use Rattle.std.specs.FinMap as map
use Rattle.std.proofs.lemmas.Bool.{eqb-true}
use Rattle.wire.specs.Numbers.{CREATE_CHILD_SA, IKE_AUTH, INFORMATIONAL}
use Rattle.wire.specs.declared.message.Message.{Message}
use Rattle.suite.specs.declared.key_record.KeyRecord.{KeyRecord}
use Rattle.children.specs.declared.fault.MemoryFault.{MemoryFault}
use Rattle.children.specs.declared.fault.MemoryFault.TheVariants as child
use Rattle.association.specs.Purposes.{exchange_of}
use Rattle.association.specs.Receiving.{admits, IsAwaited}
use Rattle.association.specs.declared.phase.Association.{Association}
use Rattle.association.specs.declared.phase.AuthSent.{AuthSent}
use Rattle.association.specs.declared.phase.HalfOpen.{HalfOpen}
use Rattle.association.specs.declared.phase.Phase.{Phase}
use Rattle.association.specs.declared.phase.Phase.TheVariants as phase
use Rattle.association.specs.declared.phase.Request.{Request}
use Rattle.association.specs.declared.purpose.FurtherChild.{FurtherChild}
use Rattle.association.specs.declared.purpose.Purpose.TheVariants.{CreateChild, Identify}
use Rattle.sadb.specs.Database.{Database}
use Rattle.effects.specs.Taking.{CanWantIn, IsForChild}
use Rattle.effects.specs.Waiting.{SuitPhase}
use Rattle.effects.proofs.RequestLemmas.{yes_no}

pub auth_exchange : (p : Phase) (opened : HalfOpen) (exchange : ℕ) → p ≡ phase.HalfOpen opened → admits p exchange ≡ true → exchange ≡ IKE_AUTH
auth_exchange p opened exchange was is = eqb-true exchange IKE_AUTH (sym (ap (λ (q : Phase). admits q exchange) was) ∙ is)

but_other : (a b : Bool) → (a || b) ≡ true → b ≡ false → a ≡ true
but_other true b is other = refl
but_other false b is other = absurd (yes_no b is other)

pub further_exchange : (p : Phase) (keys : KeyRecord) (exchange : ℕ) → p ≡ phase.Established keys → admits p exchange ≡ true → (exchange == INFORMATIONAL) ≡ false → exchange ≡ CREATE_CHILD_SA
further_exchange p keys exchange was is other =
    eqb-true exchange CREATE_CHILD_SA (but_other (exchange == CREATE_CHILD_SA) (exchange == INFORMATIONAL) (sym (ap (λ (q : Phase). admits q exchange) was) ∙ is) other)

same_request : (one other : Request) → Some one ≡ Some other → one ≡ other
same_request one other is = cc

pub asked_exchange : (old : Association) (request : Request) (further : FurtherChild) (m : Message) → map.get old.outgoing.outstanding m.header.id ≡ Some request → request.purpose ≡ CreateChild further → IsAwaited old m
    → m.header.exchange ≡ CREATE_CHILD_SA
asked_exchange old request further m there asked due =
    sym (eqb-true (exchange_of due.request.purpose) m.header.exchange due.exchange_is)
    ∙ ap (λ (r : Request). exchange_of r.purpose) (same_request due.request request (sym due.outstanding ∙ there)) ∙ ap exchange_of asked

-- who waits for the response to IKE_AUTH asked for nothing else
pub identity_asked : (old : Association) (sent : AuthSent) (number : ℕ) (request : Request) → old.phase ≡ phase.AuthSent sent → SuitPhase old.phase old.outgoing.outstanding
    → map.get old.outgoing.outstanding number ≡ Some request → request.purpose ≡ Identify
identity_asked old sent number request was waits there = (subst (λ (p : Phase). SuitPhase p old.outgoing.outstanding) was waits number request there).1

pub identity_exchange : (old : Association) (sent : AuthSent) (m : Message) → old.phase ≡ phase.AuthSent sent → IsAwaited old m → SuitPhase old.phase old.outgoing.outstanding → m.header.exchange ≡ IKE_AUTH
identity_exchange old sent m was due waits =
    sym (eqb-true (exchange_of due.request.purpose) m.header.exchange due.exchange_is)
    ∙ ap exchange_of (identity_asked old sent m.header.id due.request was waits due.outstanding)

-- by what a Child SA takes at the end that asked for it
pub wants_asked : (p : Phase) (exchange : ℕ) (d : Database) (f : MemoryFault) → IsForChild p true exchange → f ≢ child.Table → CanWantIn p true exchange d f
wants_asked p exchange d child.Message kind other = inl refl
wants_asked p exchange d child.Window kind other = inr (kind, tt)
wants_asked p exchange d child.Narrowing kind other = inr (kind, tt)
wants_asked p exchange d child.Table kind other = absurd (other refl)

-- what an error is, and what follows of it
pub err_and : {T E : Type 0} (r : Result T E) (P Q : E → Type 0) → IsErrAnd r P → ((e : E) → P e → Q e) → IfErr r Q
err_and {T} {E} (Ok x) P Q is more = tt
err_and {T} {E} (Err e) P Q is more = more e is
