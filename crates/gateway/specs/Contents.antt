-- What a gateway holds, without its spare capacity.
use Rattle.sadb.specs.Contents.{table_content}
use Rattle.ike.specs.Contents.{machine_content}
use Rattle.gateway.specs.States.{State}

abbrev pub state_content : {C : Type 0} → State C → State C
state_content s = record s { machine = machine_content s.machine; table = table_content s.table }
