-- The payloads of IKE_AUTH: none of them is encrypted again, and those that count are found (RFC 7296 section
-- 1.2).
use Rattle.std.proofs.Common.{◌≡◌, ◌++◌, ◌∷◌, ℕ, Bool, true, false, List, [], None, arith, refl}
use Rattle.std.specs.Prelude.{if◌then◌else◌, nat_lt}
use Rattle.std.specs.List.{AllByRecursion}
use Rattle.base.specs.Octets.{Octets}
use Rattle.wire.specs.Payloads.{IsClear}
use Rattle.wire.specs.declared.payload.Payload.{Payload}
use Rattle.exchange.specs.Children.{answering_payloads, child_payloads}
use Rattle.exchange.specs.Counting.{only_sa}
use Rattle.exchange.specs.declared.child.ChildAnswer.{ChildAnswer}
use Rattle.exchange.specs.declared.child.ChildAnswer.TheVariants as answered
use Rattle.exchange.specs.declared.child.ChildPayloads.{ChildPayloads}
use Rattle.exchange.specs.declared.headers.Role.TheVariants.{Responder}
use Rattle.exchange.specs.declared.notices.Notice.{Notice}
use Rattle.auth.specs.Answers.{auth_answer}
use Rattle.auth.specs.Proofs.{proved_identity, ProvingView}
use Rattle.auth.specs.Requests.{auth_request}
use Rattle.auth.specs.Windows.{window_payload}
use Rattle.auth.specs.declared.identity.Identity.{Identity}
use Rattle.children.specs.Asking.{HasChildPayloads}

-- a window is told, or not
abbrev notices : Bool → ℕ → List Payload
notices told window = if told then window_payload window ∷ [] else []

clear_notices : (told : Bool) (window : ℕ) → AllByRecursion IsClear (notices told window)
clear_notices true window = (λ is. absurd (omega (arith, is)), tt)
clear_notices false window = tt

module _ (own_method : ℕ) (proof_of : Octets → Octets) (own : Identity) (what : ProvingView) where
  -- ---- the request

  pub request_clear : (child : ChildPayloads) (window : ℕ) → AllByRecursion IsClear (auth_request own_method proof_of own what child window)
  request_clear child window = (
    λ is. absurd (omega (arith, is)),
    (
      λ is. absurd (omega (arith, is)),
      (
        λ is. absurd (omega (arith, is)),
        (λ is. absurd (omega (arith, is)), (λ is. absurd (omega (arith, is)), clear_notices (nat_lt 1 window) window)),
      ),
    ),
  )

  -- ---- the answer

  pub answer_clear : (answer : ChildAnswer) (window : ℕ) → AllByRecursion IsClear (auth_answer own_method proof_of own what answer window)
  answer_clear (answered.Payloads child) window = (
    λ is. absurd (omega (arith, is)),
    (
      λ is. absurd (omega (arith, is)),
      (
        λ is. absurd (omega (arith, is)),
        (λ is. absurd (omega (arith, is)), (λ is. absurd (omega (arith, is)), clear_notices (nat_lt 1 window) window)),
      ),
    ),
  )
  answer_clear (answered.Notice notice) window =
      (λ is. absurd (omega (arith, is)), (λ is. absurd (omega (arith, is)), (λ is. absurd (omega (arith, is)), clear_notices (nat_lt 1 window) window)))

  has_with : (child : ChildPayloads) (told : Bool) (window : ℕ)
      → HasChildPayloads (proved_identity Responder own_method proof_of own what ++ child_payloads child ++ notices told window) child
  has_with child true window = record { sa = refl; ts_i = refl; ts_r = refl }
  has_with child false window = record { sa = refl; ts_i = refl; ts_r = refl }

  pub has_child : (child : ChildPayloads) (window : ℕ) → HasChildPayloads (auth_answer own_method proof_of own what (answered.Payloads child) window) child
  has_child child window = has_with child (nat_lt 1 window) window

  none_with : (notice : Notice) (told : Bool) (window : ℕ)
      → only_sa (proved_identity Responder own_method proof_of own what ++ answering_payloads (answered.Notice notice) ++ notices told window) ≡ None
  none_with notice true window = refl
  none_with notice false window = refl

  pub has_no_child : (notice : Notice) (window : ℕ) → only_sa (auth_answer own_method proof_of own what (answered.Notice notice) window) ≡ None
  has_no_child notice window = none_with notice (nat_lt 1 window) window
