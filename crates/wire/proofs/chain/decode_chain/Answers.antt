use Rattle.std.proofs.Common.{arith}
use Rattle.base.proofs.OctetLemmas.{octets_from}
use Rattle.wire.proofs.Promises.{chain_found, chain_only, chain_refused, chain_first_fault, chain_wanted}
use Rattle.wire.proofs.chain.decode_chain.Goals as goal

pub returns-clause-found : goal.returns-clause-found
returns-clause-found c = chain_found c.args.first c.args.octets.now c.read_all.result (omega arith) (octets_from c.args.octets.now (λ i. omega (arith, c.type_inv.octets i))) c.read_all.ensures.read

pub returns-clause-only : goal.returns-clause-only
returns-clause-only c = λ ps s. chain_only c.args.first c.args.octets.now c.read_all.result ps c.read_all.ensures.read s

pub returns-clause-refused : goal.returns-clause-refused
returns-clause-refused c = chain_refused c.args.first c.args.octets.now c.read_all.result (omega arith) (octets_from c.args.octets.now (λ i. omega (arith, c.type_inv.octets i))) c.read_all.ensures.read

pub returns-clause-first_fault : goal.returns-clause-first_fault
returns-clause-first_fault c = λ f h. chain_first_fault c.args.first c.args.octets.now c.read_all.result f (omega arith) (octets_from c.args.octets.now (λ i. omega (arith, c.type_inv.octets i))) c.read_all.ensures.read c.read_all.ensures.allowed h

pub returns-clause-wanted : goal.returns-clause-wanted
returns-clause-wanted c = chain_wanted c.args.first c.args.octets.now c.read_all.result (omega arith) (octets_from c.args.octets.now (λ i. omega (arith, c.type_inv.octets i))) c.read_all.ensures.allowed
