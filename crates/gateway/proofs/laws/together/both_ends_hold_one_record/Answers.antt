use Rattle.std.proofs.Common.{refl}
use Rattle.effects.specs.Taking.{asker_of, meaning_of}
use Rattle.gateway.proofs.ExchangeLemmas.{hold_one, RecordLaws}
use Rattle.gateway.proofs.laws.together.both_ends_hold_one_record.Goals as goal

pub returns : goal.returns
returns g c =
    let meant = meaning_of g.C.Sealer g.C.Agreement g.C.Proof in
    let laws : RecordLaws = record {
      steps = record {
        came = c.each_association_was_there_or_came.ensures.each;
        rising = c.each_association_was_there_or_came.ensures.rising;
        tells = c.first_requests_tell_what_is_held.ensures;
        sound_at = c.each_association_is_sound.ensures.sound;
        itself = c.associations_stay_themselves.ensures;
      };
      sound = c.soundness_stays.ensures;
      keys = c.traces_name_what_is_held.ensures.keys;
      request = c.first_messages_introduce_their_senders.ensures.request;
      answer = c.first_messages_introduce_their_senders.ensures.answer;
      one_sender = c.first_messages_introduce_their_senders.ensures.one;
      initiator = c.keys_come_by_what_is_read.ensures.initiator;
      responder = c.keys_come_by_what_is_read.ensures.responder;
      waits = c.who_waits_keeps_its_offer.ensures;
    } in
    λ hs old new trail end asking answering e one other holds also.
    hold_one laws meant g.C.Agreement.public_value (λ caller. refl) hs old new trail
    (λ caller answerer. c.both_ends_make_one_record.ensures (asker_of (meant caller)) (meant answerer).cipher (meant answerer).group) end asking answering e one other holds also
