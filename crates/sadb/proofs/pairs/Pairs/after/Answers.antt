use Rattle.std.proofs.Common.{◌≡◌, ◌<◌, ℕ, IsSome, [], sym, ap, ◌∙◌, arith, subst, min, is_some}
use Rattle.std.specs.Option.{unwrap_or}
use Rattle.std.specs.FinMap as map
use Rattle.sadb.specs.Database.{IsAfter}
use Rattle.sadb.specs.Storage.{PairsBySerial}
use Rattle.sadb.proofs.PairsLemmas.{sound_serial, each_copied, Walk, NotBelow, walk_begins, walk_finds, walk_goes_on, lower_keeps, lower_is_one, none_after, first_after}
use Rattle.sadb.proofs.pairs.Pairs.after.Goals as goal

pub loop-pair-init : goal.loop-pair-init
loop-pair-init c = record {
  can_next = tt;
  is_finite = tt;
  walk = walk_begins c.self.inside.keys.items c.self.inside.slab c.args.self.now.pairs c.self.invariant (ap (λ (s : PairsBySerial). s.pairs) c.self.view_is) c.into_iter-pair-iterator.result _ _ (c.into_iter-pair-iterator.ensures.into_iter_gives ∙ c.iter-pair-items.ensures.rest);
  first = λ first is. absurd (cc);
}

pub loop-pair-preserved-then-serial-pair : goal.loop-pair-preserved-then-serial-pair
loop-pair-preserved-then-serial-pair c =
    let min_is : min (unwrap_or c.loop-pair.first c.in-Some.pair.now.serial) c.in-Some.pair.now.serial ≡ c.min.result = ap (λ (n : ℕ). min n c.in-Some.pair.now.serial) (sym c.unwrap_or.ensures) ∙ sym c.min.ensures in
    record {
      can_next = tt;
      is_finite = tt;
      walk = walk_goes_on c.args.self.now.pairs _ c.loop-pair.pair-iterator c.next.new.self c.in-Some.field-0-0 c.in-Some.pair.now _ _ (λ serial there. (sound_serial c.self.inside.keys.items c.self.inside.slab c.args.self.now.pairs (ap (λ (s : PairsBySerial). s.pairs) c.self.view_is) c.self.invariant) serial c.in-Some.pair.now there) c.in-Some.ensures.steps (λ n counted. omega (arith, lower_keeps c.loop-pair.first c.in-Some.pair.now.serial n counted, min_is)) (λ above. omega arith) c.loop-pair.invariant.walk;
      first = λ first is.
          (let same : c.min.result ≡ first = cc in
          let there = walk_finds c.args.self.now.pairs _ c.loop-pair.pair-iterator c.next.new.self c.in-Some.field-0-0 c.in-Some.pair.now _ c.in-Some.ensures.steps c.loop-pair.invariant.walk in
          subst (λ (n : ℕ). (c.args.serial < n) × IsSome (map.get c.args.self.now.pairs n)) (min_is ∙ same)
          (lower_is_one (λ n. (c.args.serial < n) × IsSome (map.get c.args.self.now.pairs n)) c.loop-pair.first c.in-Some.pair.now.serial c.loop-pair.invariant.first (c.if-serial-pair.true, ap is_some there)));
    }

pub loop-pair-preserved : goal.loop-pair-preserved
loop-pair-preserved c = record {
  can_next = tt;
  is_finite = tt;
  walk = walk_goes_on c.args.self.now.pairs _ c.loop-pair.pair-iterator c.next.new.self c.in-Some.field-0-0 c.in-Some.pair.now _ _ (λ serial there. (sound_serial c.self.inside.keys.items c.self.inside.slab c.args.self.now.pairs (ap (λ (s : PairsBySerial). s.pairs) c.self.view_is) c.self.invariant) serial c.in-Some.pair.now there) c.in-Some.ensures.steps (λ n counted. counted) (λ above. absurd (omega arith)) c.loop-pair.invariant.walk;
  first = c.loop-pair.invariant.first;
}

pub returns-in_err-first-clause-none : goal.returns-in_err-first-clause-none
returns-in_err-first-clause-none c =
    let walk : Walk c.args.self.now.pairs [] (λ pair. c.args.serial < pair.serial) (NotBelow c.loop-pair.first) = subst (λ left. Walk c.args.self.now.pairs left (λ pair. c.args.serial < pair.serial) (NotBelow c.loop-pair.first)) c.in-None.ensures.steps.0 c.loop-pair.invariant.walk in
    rw c.from_residual.ensures (none_after c.args.self.now.pairs (sound_serial c.self.inside.keys.items c.self.inside.slab c.args.self.now.pairs (ap (λ (s : PairsBySerial). s.pairs) c.self.view_is) c.self.invariant) c.args.serial c.loop-pair.first walk c.in_err-first.was)

pub returns-clause-some : goal.returns-clause-some
returns-clause-some c =
    let walk : Walk c.args.self.now.pairs [] (λ pair. c.args.serial < pair.serial) (NotBelow c.loop-pair.first) = subst (λ left. Walk c.args.self.now.pairs left (λ pair. c.args.serial < pair.serial) (NotBelow c.loop-pair.first)) c.in-None.ensures.steps.0 c.loop-pair.invariant.walk in
    each_copied (IsAfter c.args.self.now.pairs c.args.serial) c.get.result
    (λ pair is. first_after c.args.self.now.pairs (sound_serial c.self.inside.keys.items c.self.inside.slab c.args.self.now.pairs (ap (λ (s : PairsBySerial). s.pairs) c.self.view_is) c.self.invariant) c.args.serial c.loop-pair.first walk c.in_ok-first.field-0 pair c.in_ok-first.was (c.loop-pair.invariant.first c.in_ok-first.field-0 c.in_ok-first.was).0 (sym c.get.ensures.value ∙ is))
