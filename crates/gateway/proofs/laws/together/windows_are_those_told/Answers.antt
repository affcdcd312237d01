use Rattle.std.proofs.Common.{refl}
use Rattle.gateway.proofs.ChildLemmas.{ChildLaws}
use Rattle.gateway.proofs.MoveLemmas.{TurnLaws}
use Rattle.ike.specs.Payloads.{OpensToItself}
use Rattle.gateway.proofs.SoundWorldLemmas.{PartyLaws}
use Rattle.gateway.proofs.WindowWorldLemmas.{windows_fit, windows_stay, PeersLaws, SealingLaws}
use Rattle.gateway.proofs.laws.together.windows_are_those_told.Goals as goal

pub returns-clause-stays : goal.returns-clause-stays
returns-clause-stays g c =
    let turns : TurnLaws = record {
      moves = c.steps_are_moves.ensures;
      traces = record { traced = c.traces_name_what_is_held.ensures.traced };
      again = c.traces_name_what_is_held.ensures.again;
      keys = c.traces_name_what_is_held.ensures.keys;
    } in
    let parties : PartyLaws = record {
      kept = c.each_party_stays_sound.ensures.kept;
      later = c.each_party_stays_sound.ensures.later;
      told = c.what_was_sent_under_keys_is_told.ensures.there;
      appended = c.what_was_sent_under_keys_is_told.ensures.later;
      counted = c.what_was_sent_under_keys_is_told.ensures.counted;
    } in
    let kin : ChildLaws = record {
      made = c.children_are_made_of_their_messages.ensures.made;
      asked = c.children_are_made_of_their_messages.ensures.asked;
      waits = c.children_are_made_of_their_messages.ensures.waits;
      asked_further = c.children_are_made_of_their_messages.ensures.asked_further;
      waits_further = c.children_are_made_of_their_messages.ensures.waits_further;
      sound = c.keys_stay_whole.ensures.sound;
      whole = c.keys_stay_whole.ensures.stepped;
      one_message = c.octets_spell_one_message.ensures.message;
      first = c.what_goes_out_under_keys_is_sealed.ensures.first;
      each_sound = c.each_association_is_sound.ensures.sound;
      each_whole = c.each_association_is_sound.ensures.whole;
    } in
    let windows : SealingLaws = record {
      sealed = c.what_goes_out_under_keys_is_sealed.ensures.sealed;
      taken = c.what_is_told_was_taken.ensures;
      bounds = c.windows_are_read_again.ensures.bounds;
    } in
    let peers : PeersLaws = record {
      peers = c.requests_are_remembered.ensures.peers;
      serial = λ meaning setup old table octets m effect new new_table takes. (c.associations_stay_themselves.ensures meaning setup old table octets m effect new new_table takes).serial;
    } in
    λ keys happenings old new trail sound known unforged once.
    windows_stay turns parties kin windows peers _ g.C.Sealer.body_of g.C.Sealer.plain_of (record { body = λ caller. refl; plain = λ caller. refl }) keys happenings old new trail unforged once sound known

pub returns-clause-fit : goal.returns-clause-fit
returns-clause-fit g c =
    let opens : OpensToItself g.C.Sealer.body_of g.C.Sealer.plain_of = c.what_is_sealed_opens_to_itself.ensures in
    λ keys world known. windows_fit g.C.Sealer.body_of g.C.Sealer.plain_of opens keys world known
