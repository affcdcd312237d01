use Rattle.gateway.proofs.KeylessLemmas.{first_requests_add}
use Rattle.gateway.proofs.KeylessLemmas as lemma
use Rattle.gateway.proofs.StrangerLemmas.{StrangerFacts}
use Rattle.gateway.proofs.laws.strangers.strangers_change_nothing.Goals as goal

pub returns : goal.returns
returns g c =
    let facts : StrangerFacts = record {
      effective = c.receptions_say_why.ensures.effective;
      answering = c.receptions_say_why.ensures.answering;
      initial = c.receptions_say_why.ensures.initial;
      quiet = c.what_is_quiet_changes_nothing.ensures;
      itself = c.associations_stay_themselves.ensures;
    } in
    record {
      strange = λ meaning_of p is strange. lemma.strangers_change_nothing facts meaning_of p is strange;
      first = λ meaning_of from octets fresh p is given initial. first_requests_add c.octets_spell_one_message.ensures.message meaning_of from octets fresh p is given initial;
      answer = λ meaning_of from octets fresh p is given sealed first. lemma.keyless_change facts meaning_of from octets fresh p is given sealed first;
    }
