-- The payloads of a Child SA (RFC 7296 sections 1.2 and 1.3.1).
use Rattle.std.specs.Prelude.{List, [], ◌∷◌}
use Rattle.wire.specs.declared.payload.Payload.{Payload}
use Rattle.wire.specs.declared.payload.Payload.TheVariants.{Sa, TsI, TsR}
use Rattle.wire.specs.Sizes.{FitsFields}
use Rattle.exchange.specs.Notices.{payload_of_notice}
use Rattle.exchange.specs.declared.child.ChildAnswer.{ChildAnswer}
use Rattle.exchange.specs.declared.child.ChildAnswer.TheVariants as answered
use Rattle.exchange.specs.declared.child.ChildOffer.{ChildOffer}
use Rattle.exchange.specs.declared.child.ChildPayloads.{ChildPayloads}

-- the three payloads, in the order in which they are sent
abbrev pub child_payloads : ChildPayloads → List Payload
child_payloads child = Sa child.proposals ∷ TsI child.ts_i ∷ TsR child.ts_r ∷ []

-- what is offered, as plain data
abbrev pub offered : ChildOffer → ChildPayloads
offered offer = record { proposals = offer.proposals.now; ts_i = offer.ts_i.now; ts_r = offer.ts_r.now }

-- what answers the Child SA: its payloads, or the notification that refuses it (section 1.2)
abbrev pub answering_payloads : ChildAnswer → List Payload
answering_payloads (answered.Payloads child) = child_payloads child
answering_payloads (answered.Notice notice) = payload_of_notice notice ∷ []

-- what is offered was read, so its answer can be sent
pub record CanBeAnswered (offer : ChildPayloads) : Type 0 where
  pub proposals : FitsFields (Sa offer.proposals)
  pub ts_i : FitsFields (TsI offer.ts_i)
  pub ts_r : FitsFields (TsR offer.ts_r)
