-- what a set of SPIs holds with one more, and without one
use Rattle.std.proofs.Common.{◌≡◌, ◌≢◌, ℕ, true, not, ◌&&◌, ◌||◌, ap, ◌∙◌}
use Rattle.std.proofs.lemmas.Bool.{eq-eqb, ne_eqb}
use Rattle.std.specs.Ordering.{nat_cmp}
use Rattle.std.specs.Cmp.{nat_cmp_total, unsigned_tied}
use Rattle.std.specs.FinSet as set

pub member_here : (s : set.FinSet nat_cmp) (k q : ℕ) → q ≡ k → set.contains (set.insert s k) q ≡ true
member_here s k q same = set.contains-insert nat_cmp_total s k q ∙ ap (λ b. b || set.contains s q) (unsigned_tied q k ∙ eq-eqb q k same)

pub gone_apart : (s : set.FinSet nat_cmp) (k q : ℕ) → q ≢ k → set.contains (set.remove s k) q ≡ set.contains s q
gone_apart s k q apart = set.contains-remove nat_cmp_total s k q ∙ ap (λ b. not b && set.contains s q) (unsigned_tied q k ∙ ne_eqb q k apart)
