use Rattle.ike.proofs.AgainLemmas.{step_again_keyed}
use Rattle.ike.proofs.ClearLemmas.{step_clear}
use Rattle.ike.proofs.TraceLemmas.{step_keys, step_traced}
use Rattle.ike.proofs.laws.outputs.traces_name_what_is_held.Goals as goal

pub returns-clause-traced : goal.returns-clause-traced
returns-clause-traced c =
    step_traced (record {
      trace = record {
        itself = c.associations_stay_themselves.ensures;
        keyed = c.keys_stay.ensures.keyed;
        stay = c.keys_stay.ensures.stay;
        made = c.children_are_made_of_their_messages.ensures.made;
        asks = c.children_are_made_of_their_messages.ensures.asked;
        waits = c.children_are_made_of_their_messages.ensures.waits;
        sound = c.soundness_stays.ensures;
      };
      come = c.keys_stay.ensures.come;
      none = c.keys_stay.ensures.none;
      told = c.pairs_that_come_are_told.ensures;
    }) (record { held = c.some_are_held_on.ensures.held; pairs = c.some_are_held_on.ensures.pairs })

pub returns-clause-keys : goal.returns-clause-keys
returns-clause-keys c =
    step_keys (record {
      itself = c.associations_stay_themselves.ensures;
      keyed = c.keys_stay.ensures.keyed;
      stay = c.keys_stay.ensures.stay;
      made = c.children_are_made_of_their_messages.ensures.made;
      asks = c.children_are_made_of_their_messages.ensures.asked;
      waits = c.children_are_made_of_their_messages.ensures.waits;
      sound = c.soundness_stays.ensures;
    }) c.some_are_held_on.ensures.held

pub returns-clause-again : goal.returns-clause-again
returns-clause-again c =
    step_again_keyed (record {
      again = c.what_goes_out_again_is_outstanding.ensures;
      closed = λ now old table ticked new new_table is. (c.what_comes_is_due.ensures now old table ticked new new_table is).1;
      sent = λ now old table ticked new new_table is. (c.what_comes_is_due.ensures now old table ticked new new_table is).0;
      waits = c.what_goes_out_again_is_kept.ensures.request;
    }) c.soundness_stays.ensures

pub returns-clause-clear : goal.returns-clause-clear
returns-clause-clear c = step_clear (record { itself = c.associations_stay_themselves.ensures; again = c.keys_stay.ensures.again })
