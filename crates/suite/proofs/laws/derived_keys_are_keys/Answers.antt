use Rattle.suite.proofs.KeyLemmas.{initiator_whole, responder_whole, IsMaterial}
use Rattle.suite.proofs.laws.derived_keys_are_keys.Goals as goal

pub returns-clause-initiator : goal.returns-clause-initiator
returns-clause-initiator c =
    let is : IsMaterial = record { long = c.key_material_is_octets.ensures.length; octets = c.key_material_is_octets.ensures.octets } in
    initiator_whole is

pub returns-clause-responder : goal.returns-clause-responder
returns-clause-responder c =
    let is : IsMaterial = record { long = c.key_material_is_octets.ensures.length; octets = c.key_material_is_octets.ensures.octets } in
    responder_whole is
