-- What an end holds of all its IKE SAs, without spare capacity for more responses and requests.
use Rattle.std.specs.Prelude.{map}
use Rattle.association.specs.Contents.{association_content}
use Rattle.ike.specs.Machines.{Held, Machine}

abbrev pub held_content : Held → Held
held_content held = record held { associations = map association_content held.associations }

abbrev pub machine_content : Machine → Machine
machine_content machine = record machine { held = held_content machine.held }
