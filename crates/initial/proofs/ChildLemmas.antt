-- What an initiator's Child SA is, by the two ways in which it is said.
use Rattle.std.proofs.Common.{◌≡◌, ℕ, List, Option, Some, None, MatchOption, subst}
use Rattle.wire.specs.declared.payload.Payload.{Payload}
use Rattle.sadb.specs.declared.pair.Pair.{Pair}
use Rattle.association.specs.AskedChildren.{asked_of}
use Rattle.association.specs.declared.phase.AuthSent.{AuthSent}
use Rattle.children.specs.Accepting.{IsAcceptedChild, IsUnacceptable}
use Rattle.children.specs.declared.asking.Asked.{Asked}
use Rattle.children.specs.declared.setting.Setting.{Setting}
use Rattle.setup.specs.Configs.{first_setting, Setup}
use Rattle.initial.specs.Ending.{IsFirstChild}

pub first_child : (setup : Setup) (ike : ℕ) (sent : AuthSent) (payloads : List Payload) (asked : Asked) (setting : Setting) (pair : Option Pair)
    → asked ≡ asked_of sent.child → setting ≡ first_setting setup.config ike sent.keys
    → MatchOption pair (IsUnacceptable asked payloads) (IsAcceptedChild setting asked payloads)
    → IsFirstChild setup ike sent payloads pair
first_child setup ike sent payloads asked setting None same_asked same_setting none = subst (λ a. IsUnacceptable a payloads) same_asked none
first_child setup ike sent payloads asked setting (Some pair) same_asked same_setting some =
    subst (λ s. IsAcceptedChild s (asked_of sent.child) payloads pair) same_setting
    (subst (λ a. IsAcceptedChild setting a payloads pair) same_asked some)
