use Rattle.gateway.proofs.AuthenticationLemmas.{all_proved}
use Rattle.gateway.proofs.laws.runs.the_established_of_new_gateways_proved_themselves.Goals as goal

pub returns : goal.returns
returns g c = λ meaning_of config entries start caller new inputs outputs passages place serial keys p history there is.
    all_proved (record { proved = c.the_established_proved_themselves.ensures; keys = c.traces_name_what_is_held.ensures.keys }) meaning_of config entries start caller new passages history.trail place serial keys p there is
