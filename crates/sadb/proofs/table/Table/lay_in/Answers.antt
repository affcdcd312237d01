use Rattle.std.proofs.Common.{◌≡◌, [], length, take}
use Rattle.esp.specs.Laying.{packet_size}
use Rattle.sadb.specs.Laying.{finished_at}
use Rattle.sadb.proofs.TableLemmas.{sealed_in, seals_at}
use Rattle.sadb.proofs.table.Table.lay_in.Goals as goal

pub invariant_of-self : goal.invariant_of-self
invariant_of-self c =
    sealed_in (c.lay_in.new.room ≡ c.args.room.now) c.self.inside.places c.self.inside.pairs c.lay_in.new.self c.args.serial c.args.next c.args.payload.now []
    (λ number. finished_at c.lay_in.new.self.pairs c.args.serial number (take (packet_size (length c.args.payload.now)) c.lay_in.new.room)) c.lay_in.result c.self.invariant c.lay_in.ensures.rest c.lay_in.ensures.sealed c.lay_in.ensures.refused

pub returns-clause-sealed : goal.returns-clause-sealed
returns-clause-sealed c =
    seals_at c.args.self.now c.self.inside.places c.self.inside.pairs c.lay_in.new.self c.args.serial c.args.next c.args.payload.now []
    (λ number. finished_at c.lay_in.new.self.pairs c.args.serial number (take (packet_size (length c.args.payload.now)) c.lay_in.new.room)) c.lay_in.result c.self.view_is c.lay_in.ensures.rest c.lay_in.ensures.sealed
