-- What stands in the messages of IKE_AUTH and CREATE_CHILD_SA: the payloads of the Child SA, and no other SA.
use Rattle.std.proofs.Common.{◌≡◌, ◌++◌, ◌∷◌, [], ℕ, zero, suc, Bool, true, false, if◌then◌else◌, Contains, List, nat_lt, ap, refl, sym, ◌∙◌, arith}
use Rattle.base.specs.Octets.{Octets}
use Rattle.wire.specs.declared.payload.Payload.{Payload}
use Rattle.wire.specs.declared.payload.Payload.TheVariants.{Sa}
use Rattle.wire.specs.declared.proposal.Proposal.{Proposal}
use Rattle.exchange.specs.Children.{child_payloads}
use Rattle.exchange.specs.Notices.{payload_of_notice}
use Rattle.exchange.specs.declared.child.ChildPayloads.{ChildPayloads}
use Rattle.exchange.specs.declared.headers.Role.{Role}
use Rattle.exchange.specs.declared.headers.Role.TheVariants.{Initiator, Responder}
use Rattle.exchange.specs.declared.notices.Notice.{Notice}
use Rattle.auth.specs.Answers.{auth_answer}
use Rattle.auth.specs.Proofs.{proved_identity, ProvingView}
use Rattle.auth.specs.Requests.{auth_request}
use Rattle.auth.specs.Windows.{window_payload, WINDOW_LEAST}
use Rattle.exchange.specs.declared.child.ChildAnswer.TheVariants as answered
use Rattle.auth.specs.declared.identity.Identity.{Identity}
use Rattle.children.specs.Asking.{HasChildPayloads}
use Rattle.further.specs.Payloads.{further_payloads}

abbrev pub told_if : Bool → ℕ → List Payload
told_if told window = if told then window_payload window ∷ [] else []

told_has : (told : Bool) (role : Role) (own_method : ℕ) (proof_of : Octets → Octets) (own : Identity) (what : ProvingView) (child : ChildPayloads) (window : ℕ)
    → HasChildPayloads (proved_identity role own_method proof_of own what ++ child_payloads child ++ told_if told window) child
told_has true Initiator own_method proof_of own what child window = record { sa = refl; ts_i = refl; ts_r = refl }
told_has true Responder own_method proof_of own what child window = record { sa = refl; ts_i = refl; ts_r = refl }
told_has false Initiator own_method proof_of own what child window = record { sa = refl; ts_i = refl; ts_r = refl }
told_has false Responder own_method proof_of own what child window = record { sa = refl; ts_i = refl; ts_r = refl }

pub request_has : (own_method : ℕ) (proof_of : Octets → Octets) (own : Identity) (what : ProvingView) (child : ChildPayloads) (window : ℕ)
    → HasChildPayloads (auth_request own_method proof_of own what child window) child
request_has own_method proof_of own what child window = told_has (nat_lt WINDOW_LEAST window) Initiator own_method proof_of own what child window

pub answer_has : (own_method : ℕ) (proof_of : Octets → Octets) (own : Identity) (what : ProvingView) (child : ChildPayloads) (window : ℕ)
    → HasChildPayloads (auth_answer own_method proof_of own what (answered.Payloads child) window) child
answer_has own_method proof_of own what child window = told_has (nat_lt WINDOW_LEAST window) Responder own_method proof_of own what child window

-- ---- an SA in an answer

abbrev pub is_sa : Payload → Bool
is_sa (Sa offered) = true
is_sa _ = false

false_true : false ≡ true → ⊥
false_true e = cc

none_is : (p : Payload) (proposals : List Proposal) → is_sa p ≡ false → p ≡ Sa proposals → ⊥
none_is p proposals other e = false_true (sym other ∙ ap is_sa e)

same_sa : (a b : List Proposal) → Sa a ≡ Sa b → a ≡ b
same_sa a b e = cc

told_sa : (told : Bool) (own_method : ℕ) (proof_of : Octets → Octets) (own : Identity) (what : ProvingView) (child : ChildPayloads) (window : ℕ) (proposals : List Proposal)
    → Contains (proved_identity Responder own_method proof_of own what ++ child_payloads child ++ told_if told window) (Sa proposals) → child.proposals ≡ proposals
told_sa told own_method proof_of own what child window proposals (zero, below, at) = absurd (none_is _ proposals refl at)
told_sa told own_method proof_of own what child window proposals (suc zero, below, at) = absurd (none_is _ proposals refl at)
told_sa told own_method proof_of own what child window proposals (suc (suc zero), below, at) = same_sa child.proposals proposals at
told_sa told own_method proof_of own what child window proposals (suc (suc (suc zero)), below, at) = absurd (none_is _ proposals refl at)
told_sa told own_method proof_of own what child window proposals (suc (suc (suc (suc zero))), below, at) = absurd (none_is _ proposals refl at)
told_sa true own_method proof_of own what child window proposals (suc (suc (suc (suc (suc zero)))), below, at) = absurd (none_is _ proposals refl at)
told_sa true own_method proof_of own what child window proposals (suc (suc (suc (suc (suc (suc k))))), below, at) = absurd (omega (arith, below))
told_sa false own_method proof_of own what child window proposals (suc (suc (suc (suc (suc k)))), below, at) = absurd (omega (arith, below))

-- an answer that makes a Child SA has the child's
pub answer_sa : (own_method : ℕ) (proof_of : Octets → Octets) (own : Identity) (what : ProvingView) (child : ChildPayloads) (window : ℕ) (proposals : List Proposal)
    → Contains (auth_answer own_method proof_of own what (answered.Payloads child) window) (Sa proposals) → child.proposals ≡ proposals
answer_sa own_method proof_of own what child window proposals has = told_sa (nat_lt WINDOW_LEAST window) own_method proof_of own what child window proposals has

told_without : (told : Bool) (own_method : ℕ) (proof_of : Octets → Octets) (own : Identity) (what : ProvingView) (notice : Notice) (window : ℕ) (proposals : List Proposal)
    → Contains (proved_identity Responder own_method proof_of own what ++ payload_of_notice notice ∷ [] ++ told_if told window) (Sa proposals) → ⊥
told_without told own_method proof_of own what notice window proposals (zero, below, at) = none_is _ proposals refl at
told_without told own_method proof_of own what notice window proposals (suc zero, below, at) = none_is _ proposals refl at
told_without told own_method proof_of own what notice window proposals (suc (suc zero), below, at) = none_is _ proposals refl at
told_without true own_method proof_of own what notice window proposals (suc (suc (suc zero)), below, at) = none_is _ proposals refl at
told_without true own_method proof_of own what notice window proposals (suc (suc (suc (suc k))), below, at) = absurd (omega (arith, below))
told_without false own_method proof_of own what notice window proposals (suc (suc (suc k)), below, at) = absurd (omega (arith, below))

-- one that makes no Child SA has none
pub answer_without : (own_method : ℕ) (proof_of : Octets → Octets) (own : Identity) (what : ProvingView) (notice : Notice) (window : ℕ) (proposals : List Proposal)
    → Contains (auth_answer own_method proof_of own what (answered.Notice notice) window) (Sa proposals) → ⊥
answer_without own_method proof_of own what notice window proposals has = told_without (nat_lt WINDOW_LEAST window) own_method proof_of own what notice window proposals has

pub notice_without : (notice : Notice) (proposals : List Proposal) → Contains (payload_of_notice notice ∷ []) (Sa proposals) → ⊥
notice_without notice proposals (zero, below, at) = none_is _ proposals refl at
notice_without notice proposals (suc k, below, at) = absurd (omega (arith, below))

-- so has an answer that makes an additional Child SA
pub further_sa : (child : ChildPayloads) (nonce : Octets) (proposals : List Proposal) → Contains (further_payloads child nonce) (Sa proposals) → child.proposals ≡ proposals
further_sa child nonce proposals (zero, below, at) = same_sa child.proposals proposals at
further_sa child nonce proposals (suc zero, below, at) = absurd (none_is _ proposals refl at)
further_sa child nonce proposals (suc (suc zero), below, at) = absurd (none_is _ proposals refl at)
further_sa child nonce proposals (suc (suc (suc zero)), below, at) = absurd (none_is _ proposals refl at)
further_sa child nonce proposals (suc (suc (suc (suc k))), below, at) = absurd (omega (arith, below))
