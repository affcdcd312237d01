use Rattle.effects.proofs.DeterminedEffects.{one_effect}
use Rattle.effects.proofs.laws.determined.effects_are_determined.Goals as goal

pub returns : goal.returns
returns c =
    let own = c.later_outgoing_are_determined.ensures in
    let peer = c.later_incoming_are_determined.ensures in
    let tables = c.later_tables_are_determined.ensures in
    let children = c.children_are_determined.ensures in
    one_effect (record {
      messages = record {
        spelling = c.plain_spellings_are_determined.ensures.message;
        chain = c.octets_spell_one_message.ensures.chain;
        sealing = c.sealed_messages_are_determined.ensures;
      };
      keys = record { initiator = c.derived_keys_are_keys.ensures.initiator; responder = c.derived_keys_are_keys.ensures.responder };
      init = record { response = c.answers_are_determined.ensures.response; answer = c.answers_are_determined.ensures.answer };
      auth = record {
        judgement = c.judgements_are_determined.ensures;
        response = c.answers_are_determined-2.ensures.response;
        answered = children.answered;
        accepted = c.answers_are_determined-2.ensures.accepted;
        acceptable = children.acceptable;
      };
      incoming = record { prepared = peer.prepared; taken = peer.taken };
      outgoing = record { prepared = own.prepared; issued = own.issued; counted = own.counted; replaced = own.replaced };
      tables = record {
        prepared = tables.prepared;
        released = tables.released;
        installed = tables.installed;
        added = children.added;
        gone = c.removals_are_determined.ensures;
        ended = c.endings_are_determined.ensures;
      };
      further = record { decided = c.further_children_are_determined.ensures.decided; concluded = c.further_children_are_determined.ensures.concluded };
      receptions = record { one = c.receptions_are_determined.ensures; by_content = c.receptions_go_by_content.ensures };
    })
