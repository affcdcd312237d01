-- That a list spelled out has octets alone is computed.
use Rattle.std.proofs.Common.{◌≡◌, ◌&&◌, ◌∷◌, Bool, true, false, [], ltb, refl, sym}
use Rattle.std.proofs.lemmas.Bool.{true≢false, ltb-true}
use Rattle.base.specs.Octets.{AreOctets, Octets}

and_left : (a b : Bool) → (a && b) ≡ true → a ≡ true
and_left true b is = refl
and_left false b is = is

and_right : (a b : Bool) → (a && b) ≡ true → b ≡ true
and_right true b is = is
and_right false b is = absurd (true≢false (sym is))

abbrev pub are_octets : Octets → Bool
are_octets [] = true
are_octets (o ∷ os) = ltb o 256 && are_octets os

pub octets_if : (os : Octets) → are_octets os ≡ true → AreOctets os
octets_if [] is = tt
octets_if (o ∷ os) is = (ltb-true o 256 (and_left (ltb o 256) (are_octets os) is), octets_if os (and_right (ltb o 256) (are_octets os) is))
