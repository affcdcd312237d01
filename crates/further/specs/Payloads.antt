-- The payloads of CREATE_CHILD_SA for an additional Child SA (RFC 7296 section 1.3.1), without the key
-- exchange that is optional there.
use Rattle.std.specs.Prelude.{List, [], ◌∷◌}
use Rattle.base.specs.Octets.{Octets}
use Rattle.wire.specs.declared.payload.Payload.{Payload}
use Rattle.wire.specs.declared.payload.Payload.TheVariants.{Sa, Nonce, TsI, TsR}
use Rattle.exchange.specs.declared.child.ChildPayloads.{ChildPayloads}

-- SA, the sender's nonce, TSi and TSr, in a request as in the answer that makes the Child SA
abbrev pub further_payloads : ChildPayloads → Octets → List Payload
further_payloads child nonce = Sa child.proposals ∷ Nonce nonce ∷ TsI child.ts_i ∷ TsR child.ts_r ∷ []
