use Rattle.std.proofs.Common.{refl}
use Rattle.effects.specs.Taking.{meaning_of}
use Rattle.gateway.proofs.ExchangeLemmas.{RecordLaws}
use Rattle.gateway.proofs.PartnerLemmas.{has_asker, PartnerLaws}
use Rattle.gateway.proofs.laws.partners.an_established_responder_has_a_partner.Goals as goal

pub returns : goal.returns
returns g c =
    let meant = meaning_of g.C.Sealer g.C.Agreement g.C.Proof in
    let records : RecordLaws = record {
      steps = record {
        came = c.each_association_was_there_or_came.ensures.each;
        rising = c.each_association_was_there_or_came.ensures.rising;
        tells = c.first_requests_tell_what_is_held.ensures;
        sound_at = c.each_association_is_sound.ensures.sound;
        itself = c.associations_stay_themselves.ensures;
      };
      sound = c.soundness_stays.ensures;
      keys = c.traces_name_what_is_held.ensures.keys;
      request = c.first_messages_introduce_their_senders.ensures.request;
      answer = c.first_messages_introduce_their_senders.ensures.answer;
      one_sender = c.first_messages_introduce_their_senders.ensures.one;
      initiator = c.keys_come_by_what_is_read.ensures.initiator;
      responder = c.keys_come_by_what_is_read.ensures.responder;
      waits = c.who_waits_keeps_its_offer.ensures;
    } in
    let laws : PartnerLaws = record {
      records = records;
      traced = c.traces_name_what_is_held.ensures.traced;
      waits = c.children_are_made_of_their_messages.ensures.waits;
      read = c.who_asks_has_read.ensures.read;
      waited = c.who_asks_has_read.ensures.waited;
      half = c.who_is_half_open_was_so.ensures;
      proved = c.the_established_proved_themselves.ensures;
      one_message = c.octets_spell_one_message.ensures.message;
      parts = c.what_is_proved_tells_its_parts.ensures;
    } in
    λ hs old new trail begins unforged alike place serial h end keys there established.
    has_asker laws meant g.C.Agreement.public_value (λ caller. refl) hs old new trail begins unforged place h there end serial keys established alike
