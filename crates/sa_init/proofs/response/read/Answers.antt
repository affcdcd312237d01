use Rattle.sa_init.specs.Parts.{parts_view}
use Rattle.sa_init.proofs.response.read.Goals as goal

pub returns-in_default-accepted_parts-clause-read : goal.returns-in_default-accepted_parts-clause-read
returns-in_default-accepted_parts-clause-read g c =
    (c.in_default.ensures, λ keys gives. c.in_default-accepted_parts.ensures gives.parts gives.acceptance)

pub ike_keys-requires-clause-nonce_r : goal.ike_keys-requires-clause-nonce_r
ike_keys-requires-clause-nonce_r g c =
    c.spelled_parts_fit.ensures.nonce c.args.message.now (parts_view c.in-Some-accepted_parts.parts) c.requires c.in-Some-accepted_parts.ensures.complete
