use Rattle.std.proofs.Common.{arith}
use Rattle.wire.specs.Reading.{message_of}
use Rattle.base.proofs.OctetLemmas.{octets_from}
use Rattle.wire.proofs.MessageReading.{message_again, fault_message}
use Rattle.wire.proofs.Promises.{fault_told, message_found, message_refused, message_wanted, only_unless}
use Rattle.wire.proofs.message.decode_message.Goals as goal

pub returns-clause-found : goal.returns-clause-found
returns-clause-found c = message_found c.args.octets.now c.read_message.result (octets_from c.args.octets.now (λ i. omega (arith, c.type_inv.octets i))) c.read_message.ensures.read

pub returns-clause-only : goal.returns-clause-only
returns-clause-only c = λ m s. only_unless c.read_message.result (message_of c.args.octets.now) m c.read_message.ensures.read (message_again m c.args.octets.now s)

pub returns-clause-refused : goal.returns-clause-refused
returns-clause-refused c = message_refused c.args.octets.now c.read_message.result (octets_from c.args.octets.now (λ i. omega (arith, c.type_inv.octets i))) c.read_message.ensures.read

pub returns-clause-first_fault : goal.returns-clause-first_fault
returns-clause-first_fault c = λ f h. fault_told c.read_message.result (message_of c.args.octets.now) f c.read_message.ensures.read c.read_message.ensures.allowed (fault_message c.args.octets.now f (octets_from c.args.octets.now (λ i. omega (arith, c.type_inv.octets i))) h)

pub returns-clause-wanted : goal.returns-clause-wanted
returns-clause-wanted c = message_wanted c.args.octets.now c.read_message.result (octets_from c.args.octets.now (λ i. omega (arith, c.type_inv.octets i))) c.read_message.ensures.allowed
