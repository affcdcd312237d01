use Rattle.std.proofs.Common.{sym, subst}
use Rattle.gateway.specs.BothEnds.{IsWhollySound}
use Rattle.gateway.specs.Worlds.{Stored}
use Rattle.gateway.proofs.world.World.new.Goals as goal

pub returns-clause-wholly : goal.returns-clause-wholly
returns-clause-wholly g c = λ body_of plain_of keys.
    subst (λ (s : Stored). IsWhollySound body_of plain_of keys (record { a = c.args.a; b = c.args.b; stored = s })) (sym c.new.ensures)
    (c.new_worlds_are_wholly_sound.ensures body_of plain_of keys c.args.a c.args.b c.requires.a c.requires.b (record { machine = c.invariants_hold.ensures.machine; table = c.invariants_hold.ensures.table; timely = c.invariants_hold.ensures.timely; reservations = c.invariants_hold.ensures.reservations })
    (record { machine = c.invariants_hold-2.ensures.machine; table = c.invariants_hold-2.ensures.table; timely = c.invariants_hold-2.ensures.timely; reservations = c.invariants_hold-2.ensures.reservations }))
