use Rattle.ike.proofs.OpenLemmas.{opens_so, OpenLaws}
use Rattle.ike.proofs.laws.sealing.what_is_sealed_opens_to_itself.Goals as goal

pub returns : goal.returns
returns g c =
    let laws : OpenLaws g.S.Sealer.body_of g.S.Sealer.plain_of = record {
      spells = c.plain_spellings_are_spellings.ensures.message;
      one_message = c.octets_spell_one_message.ensures.message;
      plain_chain = c.octets_spell_one_message.ensures.plain_chain;
      again = g.met.S.Sealer.opens_again;
    } in
    opens_so g.S.Sealer.body_of g.S.Sealer.plain_of laws
