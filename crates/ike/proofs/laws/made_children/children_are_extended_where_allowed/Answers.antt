use Rattle.ike.specs.Machines.{setup_at}
use Rattle.ike.proofs.AllowedLemmas.{child_allowed}
use Rattle.ike.proofs.laws.made_children.children_are_extended_where_allowed.Goals as goal

pub returns : goal.returns
returns c = λ meaning entries from octets fresh old table stepped new new_table made pair sound_table sound is named there is_extended.
    child_allowed meaning (setup_at old entries fresh) octets old.held table stepped made new.held new_table pair sound.asks
    (c.children_are_made_of_their_messages.ensures.made meaning entries from octets fresh old table stepped made new new_table sound_table sound is named) there is_extended
