-- What a response does, by the call that matched it.
use Rattle.std.proofs.Common.{arith, ◌≡◌, ◌≢◌, inl, inr, ℕ, Bool, true, false, Option, Some, None, ap, refl, subst, sym, ◌∙◌}
use Rattle.std.proofs.lemmas.Bool.{eqb-true}
use Rattle.wire.specs.Numbers.{CREATE_CHILD_SA, IKE_AUTH, IKE_SA_INIT, INFORMATIONAL}
use Rattle.base.specs.Octets.{Octets}
use Rattle.wire.specs.declared.message.Message.{Message}
use Rattle.exchange.specs.declared.sealed.Plain.{Plain}
use Rattle.sadb.specs.Database.{Database}
use Rattle.children.specs.declared.fault.MemoryFault.{MemoryFault}
use Rattle.children.specs.declared.fault.MemoryFault.TheVariants as child
use Rattle.association.specs.Phases.{IsEstablished}
use Rattle.association.specs.Purposes.{asks_for_child, exchange_of, sought_of, AsksForNoFurtherChild, SeeksAt}
use Rattle.association.specs.Receiving.{IsAwaited}
use Rattle.association.specs.declared.fault.MessageFault.TheVariants.{WrongPhase}
use Rattle.association.specs.declared.outcome.Ended.{Ended}
use Rattle.association.specs.declared.phase.Association.{Association}
use Rattle.association.specs.declared.phase.Phase.{Phase}
use Rattle.association.specs.declared.phase.Phase.TheVariants as phase
use Rattle.association.specs.declared.phase.Request.{Request}
use Rattle.association.specs.declared.purpose.Purpose.{Purpose}
use Rattle.association.specs.declared.purpose.Purpose.TheVariants as purpose
use Rattle.association.specs.declared.purpose.Sought.{Sought}
use Rattle.association.specs.declared.purpose.Sought.TheVariants as sought
use Rattle.children.specs.declared.asking.Asked.{Asked}
use Rattle.setup.specs.Configs.{Setup}
use Rattle.initial.specs.Ending.{EndsWhereSent, IsAuthSent}
use Rattle.informational.specs.Counting.{CountsWhereEstablished}
use Rattle.create_child.specs.Concluding.{CanWantForAnswer}
use Rattle.create_child.specs.Counting.{CountsWhereAwaited}
use Rattle.effects.specs.Taking.{asked_further, counted_by, has_asked, CanWantIn, DoesAnswer, DoesResponse, Meaning}
use Rattle.effects.specs.Waiting.{IsAskedLater, MayBeOutstanding, SuitPhase}
use Rattle.effects.specs.declared.taking.Effect.{Effect}
use Rattle.effects.specs.declared.taking.Effect.TheVariants as effect
use Rattle.effects.proofs.ExchangeLemmas.{identity_exchange, wants_asked}

awaited_exchange : (old : Association) (m : Message) (due : IsAwaited old m) → exchange_of due.request.purpose ≡ m.header.exchange
awaited_exchange old m due = eqb-true (exchange_of due.request.purpose) m.header.exchange due.exchange_is

not_further : (asked : Purpose) → exchange_of asked ≢ CREATE_CHILD_SA → asks_for_child asked ≡ false
not_further purpose.Begin other = refl
not_further purpose.Identify other = refl
not_further (purpose.CreateChild further) other = absurd (other refl)
not_further purpose.Probe other = refl
not_further (purpose.DeleteChild child) other = refl
not_further purpose.DeleteAssociation other = refl

same_request : (one other : Request) → Some one ≡ Some other → one ≡ other
same_request one other is = cc

-- which exchange a response has, by what its request asked for
seeks_identity : (asked : Purpose) → sought.Identity ≡ sought_of asked → exchange_of asked ≡ IKE_AUTH
seeks_identity purpose.Identify is = refl
seeks_identity purpose.Begin is = absurd (cc)
seeks_identity (purpose.CreateChild further) is = absurd (cc)
seeks_identity purpose.Probe is = absurd (cc)
seeks_identity (purpose.DeleteChild child) is = absurd (cc)
seeks_identity purpose.DeleteAssociation is = absurd (cc)

seeks_child : (wanted : Asked) (nonce : Octets) (asked : Purpose) → sought.Child wanted nonce ≡ sought_of asked → exchange_of asked ≡ CREATE_CHILD_SA
seeks_child wanted nonce (purpose.CreateChild further) is = refl
seeks_child wanted nonce purpose.Identify is = absurd (cc)
seeks_child wanted nonce purpose.Begin is = absurd (cc)
seeks_child wanted nonce purpose.Probe is = absurd (cc)
seeks_child wanted nonce (purpose.DeleteChild child) is = absurd (cc)
seeks_child wanted nonce purpose.DeleteAssociation is = absurd (cc)

seeks_other : (asked : Purpose) → sought.Other ≡ sought_of asked → (exchange_of asked ≢ IKE_AUTH) × (exchange_of asked ≢ CREATE_CHILD_SA)
seeks_other purpose.Begin is = ((λ same. omega (arith, same)), (λ same. omega (arith, same)))
seeks_other purpose.Probe is = ((λ same. omega (arith, same)), (λ same. omega (arith, same)))
seeks_other (purpose.DeleteChild child) is = ((λ same. omega (arith, same)), (λ same. omega (arith, same)))
seeks_other purpose.DeleteAssociation is = ((λ same. omega (arith, same)), (λ same. omega (arith, same)))
seeks_other purpose.Identify is = absurd (cc)
seeks_other (purpose.CreateChild further) is = absurd (cc)

-- it is the request that waits
seeks_there : (old : Association) (m : Message) (seeks : Sought) (due : IsAwaited old m) → SeeksAt old.outgoing m.header.id seeks → seeks ≡ sought_of due.request.purpose
seeks_there old m seeks due at = at.is ∙ ap (λ (r : Request). sought_of r.purpose) (same_request at.request due.request (sym at.outstanding ∙ due.outstanding))

pub sought_auth : (old : Association) (m : Message) → IsAwaited old m → SeeksAt old.outgoing m.header.id sought.Identity → m.header.exchange ≡ IKE_AUTH
sought_auth old m due at = sym (awaited_exchange old m due) ∙ seeks_identity due.request.purpose (seeks_there old m sought.Identity due at)

pub sought_child : (wanted : Asked) (nonce : Octets) (old : Association) (m : Message) → IsAwaited old m → SeeksAt old.outgoing m.header.id (sought.Child wanted nonce) → m.header.exchange ≡ CREATE_CHILD_SA
sought_child wanted nonce old m due at =
    sym (awaited_exchange old m due) ∙ seeks_child wanted nonce due.request.purpose (seeks_there old m (sought.Child wanted nonce) due at)

pub sought_other : (old : Association) (m : Message) → IsAwaited old m → SeeksAt old.outgoing m.header.id sought.Other
    → (m.header.exchange ≢ IKE_AUTH) × (m.header.exchange ≢ CREATE_CHILD_SA)
sought_other old m due at =
    let apart = seeks_other due.request.purpose (seeks_there old m sought.Other due at) in
    ((λ same. apart.0 (awaited_exchange old m due ∙ same)), (λ same. apart.1 (awaited_exchange old m due ∙ same)))

pub sought_no_auth : (wanted : Asked) (nonce : Octets) (old : Association) (m : Message) → IsAwaited old m → SeeksAt old.outgoing m.header.id (sought.Child wanted nonce) → m.header.exchange ≢ IKE_AUTH
sought_no_auth wanted nonce old m due at = λ same. let e : CREATE_CHILD_SA ≡ IKE_AUTH = sym (sought_child wanted nonce old m due at) ∙ same in omega arith

pub sought_no_child : (old : Association) (m : Message) → IsAwaited old m → SeeksAt old.outgoing m.header.id sought.Identity → m.header.exchange ≢ CREATE_CHILD_SA
sought_no_child old m due at = λ same. let e : IKE_AUTH ≡ CREATE_CHILD_SA = sym (sought_auth old m due at) ∙ same in omega arith

-- the request that waits is the one whose exchange the response has
pub asks_none : (old : Association) (m : Message) → IsAwaited old m → m.header.exchange ≢ CREATE_CHILD_SA → AsksForNoFurtherChild old.outgoing m.header.id
asks_none old m due other = λ request there.
    ap (λ (r : Request). asks_for_child r.purpose) (same_request request due.request (sym there ∙ due.outstanding))
    ∙ not_further due.request.purpose (λ same. other (sym (awaited_exchange old m due) ∙ same))

-- what waits at an established IKE SA is not that of IKE_AUTH
later : (asked : Purpose) (exchange : ℕ) → exchange_of asked ≡ exchange → exchange ≡ IKE_AUTH → IsAskedLater asked → ⊥
later asked exchange same auth (inl is) = let e : INFORMATIONAL ≡ IKE_AUTH = sym is ∙ same ∙ auth in omega arith
later asked exchange same auth (inr is) = let e : CREATE_CHILD_SA ≡ IKE_AUTH = sym is ∙ same ∙ auth in omega arith

not_established : (old : Association) (m : Message) → IsAwaited old m → SuitPhase old.phase old.outgoing.outstanding → m.header.exchange ≡ IKE_AUTH → ¬ IsEstablished old.phase
not_established old m due waits auth is =
    later due.request.purpose m.header.exchange (awaited_exchange old m due) auth
    (subst (λ (p : Phase). SuitPhase p old.outgoing.outstanding) is.is waits m.header.id due.request due.outstanding)

not_sent : (old : Association) (m : Message) → IsAwaited old m → SuitPhase old.phase old.outgoing.outstanding → m.header.exchange ≢ IKE_AUTH → ¬ IsAuthSent old.phase
not_sent old m due waits other is = other (identity_exchange old is.sent m is.is due waits)

-- what belongs to no phase that waits is dropped
passed_over : (meaning : Meaning) (setup : Setup) (p : Phase) (old : Association) (table : Database) (number : ℕ) (plain : Plain) (new : Association) (new_table : Database)
    → ¬ IsAuthSent p → ¬ IsEstablished p → new ≡ old → new_table ≡ table → DoesResponse meaning setup p old table number plain (effect.Refused WrongPhase) new new_table
passed_over meaning setup (phase.InitSent sent) old table number plain new new_table not_sent not_established same same_table = (refl, record { association = same; pairs = same_table })
passed_over meaning setup (phase.AuthSent sent) old table number plain new new_table not_sent not_established same same_table = absurd (not_sent (record { sent = sent; is = refl }))
passed_over meaning setup (phase.HalfOpen opened) old table number plain new new_table not_sent not_established same same_table = (refl, record { association = same; pairs = same_table })
passed_over meaning setup (phase.Established keys) old table number plain new new_table not_sent not_established same same_table = absurd (not_established (record { keys = keys; is = refl }))
passed_over meaning setup (phase.Closed keys at) old table number plain new new_table not_sent not_established same same_table = (refl, record { association = same; pairs = same_table })

-- who waits for what, by the exchange of a response
sent_since : (p : Phase) (number : ℕ) (asked : Purpose) → MayBeOutstanding p number asked → exchange_of asked ≡ IKE_AUTH → IsAuthSent p
sent_since (phase.InitSent sent) number asked is same = let e : IKE_SA_INIT ≡ IKE_AUTH = sym (ap exchange_of is.1) ∙ same in absurd (omega arith)
sent_since (phase.AuthSent sent) number asked is same = record { sent = sent; is = refl }
sent_since (phase.HalfOpen opened) number asked is same = absurd is
sent_since (phase.Established keys) number asked is same = absurd (later asked IKE_AUTH same refl is)
sent_since (phase.Closed keys at) number asked is same = absurd is

established_since : (p : Phase) (number : ℕ) (asked : Purpose) → MayBeOutstanding p number asked → exchange_of asked ≡ CREATE_CHILD_SA → IsEstablished p
established_since (phase.InitSent sent) number asked is same = let e : IKE_SA_INIT ≡ CREATE_CHILD_SA = sym (ap exchange_of is.1) ∙ same in absurd (omega arith)
established_since (phase.AuthSent sent) number asked is same = let e : IKE_AUTH ≡ CREATE_CHILD_SA = sym (ap exchange_of is.1) ∙ same in absurd (omega arith)
established_since (phase.HalfOpen opened) number asked is same = absurd is
established_since (phase.Established keys) number asked is same = record { keys = keys; is = refl }
established_since (phase.Closed keys at) number asked is same = absurd is

pub auth_wants : (old : Association) (m : Message) (d : Database) (f : MemoryFault) → IsAwaited old m → SuitPhase old.phase old.outgoing.outstanding → m.header.exchange ≡ IKE_AUTH → f ≢ child.Table
    → CanWantIn old.phase true m.header.exchange d f
auth_wants old m d f due waits auth other =
    wants_asked old.phase m.header.exchange d f
    (inl (record {
      awaited = sent_since old.phase m.header.id due.request.purpose (waits m.header.id due.request due.outstanding) (awaited_exchange old m due ∙ auth);
      exchange_is = auth;
    })) other

-- what there may be no memory for as an answer is concluded on is no place in the table
pub no_place : (asked : Asked) (plain : Plain) (f : MemoryFault) → CanWantForAnswer asked plain f → f ≢ child.Table
no_place asked plain child.Message wants same = absurd (cc)
no_place asked plain child.Window wants same = absurd (cc)
no_place asked plain child.Narrowing wants same = absurd (cc)
no_place asked plain child.Table wants same = absurd wants

pub further_wants : (old : Association) (m : Message) (d : Database) (f : MemoryFault) → IsAwaited old m → SuitPhase old.phase old.outgoing.outstanding → m.header.exchange ≡ CREATE_CHILD_SA → f ≢ child.Table
    → CanWantIn old.phase true m.header.exchange d f
further_wants old m d f due waits same other =
    wants_asked old.phase m.header.exchange d f
    (inr (record {
      established = established_since old.phase m.header.id due.request.purpose (waits m.header.id due.request due.outstanding) (awaited_exchange old m due ∙ same);
      exchange_is = same;
    })) other

pub auth_ended : (meaning : Meaning) (setup : Setup) (old : Association) (table : Database) (m : Message) (plain : Plain) (ended : Option Ended) (new : Association) (new_table : Database)
    → IsAwaited old m → SuitPhase old.phase old.outgoing.outstanding → m.header.exchange ≡ IKE_AUTH → EndsWhereSent meaning.accepts setup old table m.header.id plain ended new new_table
    → DoesResponse meaning setup old.phase old table m.header.id plain (counted_by ended) new new_table
auth_ended meaning setup old table m plain (Some ended) new new_table due waits auth is =
    subst (λ (p : Phase). DoesResponse meaning setup p old table m.header.id plain (effect.Counted ended) new new_table) (sym is.was) is
auth_ended meaning setup old table m plain None new new_table due waits auth is =
    passed_over meaning setup old.phase old table m.header.id plain new new_table is.0 (not_established old m due waits auth) is.1 is.2

answers_at : (meaning : Meaning) (setup : Setup) (p : Phase) (old : Association) (table : Database) (number : ℕ) (plain : Plain) (e : Effect) (new : Association) (new_table : Database) (asked : Bool)
    → IsEstablished p → asked_further old number ≡ asked → DoesAnswer asked setup old table number plain e new new_table → DoesResponse meaning setup p old table number plain e new new_table
answers_at meaning setup p old table number plain e new new_table asked established told is =
    subst (λ (q : Phase). DoesResponse meaning setup q old table number plain e new new_table) (sym established.is)
    (subst (λ (b : Bool). DoesAnswer b setup old table number plain e new new_table) (sym told) is)

pub further_counted : (meaning : Meaning) (setup : Setup) (old : Association) (table : Database) (m : Message) (plain : Plain) (ended : Option Ended) (new : Association) (new_table : Database)
    → IsAwaited old m → SuitPhase old.phase old.outgoing.outstanding → m.header.exchange ≢ IKE_AUTH → m.header.exchange ≡ CREATE_CHILD_SA
    → CountsWhereAwaited setup old table m.header.id plain ended new new_table
    → DoesResponse meaning setup old.phase old table m.header.id plain (counted_by ended) new new_table
further_counted meaning setup old table m plain (Some ended) new new_table due waits other same is =
    answers_at meaning setup old.phase old table m.header.id plain (effect.Counted ended) new new_table true (record { keys = is.keys; is = is.established })
    (ap has_asked is.counted.there ∙ ap asks_for_child is.asked) is
further_counted meaning setup old table m plain None new new_table due waits other same is =
    passed_over meaning setup old.phase old table m.header.id plain new new_table (not_sent old m due waits other) is.0 is.1 is.2

pub informing_counted : (meaning : Meaning) (setup : Setup) (old : Association) (table : Database) (m : Message) (plain : Plain) (ended : Option Ended) (new : Association) (new_table : Database)
    → IsAwaited old m → SuitPhase old.phase old.outgoing.outstanding → m.header.exchange ≢ IKE_AUTH → m.header.exchange ≢ CREATE_CHILD_SA
    → CountsWhereEstablished setup old table m.header.id plain ended new new_table
    → DoesResponse meaning setup old.phase old table m.header.id plain (counted_by ended) new new_table
informing_counted meaning setup old table m plain (Some ended) new new_table due waits other different is =
    answers_at meaning setup old.phase old table m.header.id plain (effect.Counted ended) new new_table false is.0
    (ap has_asked is.1.counted.there ∙ asks_none old m due different is.1.request is.1.counted.there) is.1
informing_counted meaning setup old table m plain None new new_table due waits other different is =
    passed_over meaning setup old.phase old table m.header.id plain new new_table (not_sent old m due waits other) is.0 is.1 is.2
