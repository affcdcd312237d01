use Rattle.std.proofs.Common.{rules, ◌≡◌, ℕ, [], List, vec_len, get_or, arith}
use Rattle.std.proofs.lemmas.List.{length-map}
use Rattle.esp.specs.Sealing.{payloads_of, Seals}
use Rattle.esp.proofs.LayingLemmas.{octets_at}
use Rattle.esp.proofs.GroupLemmas.{refused_at, seals_one_more, wants_memory}
use Rattle.esp.proofs.outbound.Outbound.seal_each.Goals as goal

pub returns-in-Err-clause-room : goal.returns-in-Err-clause-room
returns-in-Err-clause-room c =
    let i = c.loop-done.invariant in
    let same : vec_len c.seal.new.out ≡ vec_len c.loop-done.out = search rules in
    record {
      memory = wants_memory c.args.payloads.now c.loop-done.done (record { ref_ptr = (0, 0); now = [] }) _ _ _ _ c.in-Err.fault
          c.loop-done-test.true i.capacity i.room c.in-Err.ensures.room;
      kept = omega (arith, i.capacity, c.seal.ensures.capacity);
      growth = omega (arith, i.room, same);
    }

pub loop-done-preserved : goal.loop-done-preserved
loop-done-preserved c =
    let i = c.loop-done.invariant in
    let k = c.loop-done.done in
    let ps = c.args.payloads.now in
    let here = octets_at ps k (record { ref_ptr = (0, 0); now = [] }) c.loop-done-test.true in
    let n = c.in_default.field-0 in
    let one : Seals c.loop-done.self c.args.next (get_or (payloads_of ps) k []) c.loop-done.out.items n c.seal.new.self c.seal.new.out.items =
    refused_at ps k (record { ref_ptr = (0, 0); now = [] }) (λ (p : List ℕ). Seals c.loop-done.self c.args.next p c.loop-done.out.items n c.seal.new.self c.seal.new.out.items)
    c.loop-done-test.true c.in_default.ensures.sealed
    in
    record {
      first = seals_one_more k n c.args.self.now c.args.next (payloads_of ps) c.args.out.now.items c.loop-done.out.items c.seal.new.out.items c.loop-done.self c.seal.new.self i.first
          (omega (arith, c.loop-done-test.true, length-map ps (λ p. p.now))) one;
      capacity = omega (arith, i.capacity, c.seal.ensures.capacity);
      room = omega (arith, i.room, c.seal.ensures.growth, here);
    }
