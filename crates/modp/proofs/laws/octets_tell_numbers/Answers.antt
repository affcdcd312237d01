use Rattle.modp.proofs.OctetLemmas.{octets_number-number_octets, octets_again, length-number_octets, element_again}
use Rattle.modp.proofs.laws.octets_tell_numbers.Goals as goal

pub returns : goal.returns
returns c = record { number = octets_number-number_octets; octets = octets_again; length = length-number_octets; element = element_again }
