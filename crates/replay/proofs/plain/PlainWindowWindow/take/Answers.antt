use Rattle.std.proofs.Common.{rules, ◌≡◌, ◌++◌, ◌∷◌, []}
use Rattle.replay.proofs.WindowFacts.{fresh, takes_sound}
use Rattle.replay.proofs.PlainLemmas.{takes_inside, takes_above, once_more, once_kept}
use Rattle.replay.proofs.plain.PlainWindowWindow.take.Goals as goal

pub invariant_of-self-then-n-self : goal.invariant_of-self-then-n-self
invariant_of-self-then-n-self c =
    let e : c.push.new.self.items ≡ c.args.self.now.taken.items ++ c.args.n ∷ [] = search rules in
    let is_fresh = fresh _ _ c.requires in
    record {
      sound = rw (c.forget_below.ensures, e) (takes_sound _ _ _ c.args.self.now.sound is_fresh c.ranges.n.fits (takes_above _ _ _ _ c.args.self.now.sound c.if-n-self.true));
      each_once = rw (c.forget_below.ensures, e) (once_kept _ _ (once_more _ _ c.args.self.now.each_once is_fresh.not_taken));
    }

pub invariant_of-self-else-n-self : goal.invariant_of-self-else-n-self
invariant_of-self-else-n-self c =
    let e : c.push.new.self.items ≡ c.args.self.now.taken.items ++ c.args.n ∷ [] = search rules in
    let is_fresh = fresh _ _ c.requires in
    record {
      sound = rw e (takes_sound _ _ _ c.args.self.now.sound is_fresh c.ranges.n.fits (takes_inside _ _ _ _ c.args.self.now.sound is_fresh c.if-n-self.false));
      each_once = rw e (once_more _ _ c.args.self.now.each_once is_fresh.not_taken);
    }

pub returns-then-n-self-clause-taken : goal.returns-then-n-self-clause-taken
returns-then-n-self-clause-taken c =
    let e : c.push.new.self.items ≡ c.args.self.now.taken.items ++ c.args.n ∷ [] = search rules in
    rw (c.forget_below.ensures, e) (takes_above _ _ _ _ c.args.self.now.sound c.if-n-self.true)

pub returns-else-n-self-clause-taken : goal.returns-else-n-self-clause-taken
returns-else-n-self-clause-taken c =
    let e : c.push.new.self.items ≡ c.args.self.now.taken.items ++ c.args.n ∷ [] = search rules in
    rw e (takes_inside _ _ _ _ c.args.self.now.sound (fresh _ _ c.requires) c.if-n-self.false)
