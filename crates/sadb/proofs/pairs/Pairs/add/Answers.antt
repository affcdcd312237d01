use Rattle.std.proofs.Common.{◌+◌, Some, length, ap, arith, refl}
use Rattle.sadb.specs.Storage.{PairsBySerial}
use Rattle.std.proofs.lemmas.List.{length_push}
use Rattle.sadb.proofs.PairsLemmas.{added_fresh, added_by_serial, added_shown, same_by_serial}
use Rattle.sadb.proofs.pairs.Pairs.add.Goals as goal

pub invariant_of-self : goal.invariant_of-self
invariant_of-self c =
    added_by_serial c.self.inside.keys.items c.push_reserved.new.self.items c.self.inside.slab c.insert_reserved-key.new.self c.args.self.now.pairs (c.len.result + 1) c.insert_reserved-key.result _
    c.self.invariant (ap (λ (s : PairsBySerial). s.pairs) c.self.view_is) c.insert_reserved-key.ensures.was_vacant c.insert_reserved-key.ensures.updates c.push_reserved.ensures.items (omega arith) refl c.window_is_sound.ensures c.insert_reserved-key.ensures.len

pub returns-clause-new_serial : goal.returns-clause-new_serial
returns-clause-new_serial c =
    added_fresh c.self.inside.keys.items c.push_reserved.new.self.items c.self.inside.slab c.insert_reserved-key.new.self c.args.self.now.pairs (c.len.result + 1) c.insert_reserved-key.result _
    c.self.invariant (ap (λ (s : PairsBySerial). s.pairs) c.self.view_is) c.insert_reserved-key.ensures.was_vacant c.insert_reserved-key.ensures.updates c.push_reserved.ensures.items (omega arith)

pub returns-clause-content : goal.returns-clause-content
returns-clause-content c =
    same_by_serial _ _
    (omega (arith, ap length c.push_reserved.ensures.items, length_push c.self.inside.keys.items (Some c.insert_reserved-key.result), ap (λ (s : PairsBySerial). s.next) c.self.view_is))
    (added_shown c.self.inside.keys.items c.push_reserved.new.self.items c.self.inside.slab c.insert_reserved-key.new.self c.args.self.now.pairs (c.len.result + 1) c.insert_reserved-key.result _
    c.self.invariant (ap (λ (s : PairsBySerial). s.pairs) c.self.view_is) c.insert_reserved-key.ensures.was_vacant c.insert_reserved-key.ensures.updates c.push_reserved.ensures.items (omega arith))
    refl

pub returns-clause-room : goal.returns-clause-room
returns-clause-room c =
    omega (arith, ap length c.push_reserved.ensures.items, length_push c.self.inside.keys.items (Some c.insert_reserved-key.result), ap (λ (s : PairsBySerial). s.room) c.self.view_is)
