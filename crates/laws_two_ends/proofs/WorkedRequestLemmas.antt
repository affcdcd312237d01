-- The worked run of a request is one, and its premises hold.
use Rattle.std.proofs.Common.{◌≡◌, ◌≢◌, ◌+◌, ◌<◌, ◌||◌, ◌&&◌, inl, inr, ℕ, Bool, true, false, [], ◌∷◌, Some, None, ltb, ap, arith, refl, sym, ◌∙◌}
use Rattle.std.proofs.lemmas.Bool.{true≢false, eq-eqb, ltb-true, ne_eqb}
use Rattle.std.proofs.lemmas.Bool.Decides.{eqb_tells}
use Rattle.std.specs.Cmp.{nat_cmp_total, unsigned_tied}
use Rattle.std.specs.FinMap as map
use Rattle.std.specs.FinSet as set
use Rattle.std.specs.Ordering.{nat_cmp}
use Rattle.base.specs.Octets.{AreOctets, IsOctet, Octets}
use Rattle.wire.specs.Messages.{Spells}
use Rattle.wire.specs.Payloads.{SpellsPayloads}
use Rattle.wire.specs.declared.message.Message.{Message}
use Rattle.wire.specs.declared.payload.Payload.TheVariants.{Sealed}
use Rattle.requests.specs.Numbers.{HasNumber, IsGap, LacksNumber, NumberSet}
use Rattle.association.specs.declared.phase.Association.{Association}
use Rattle.association.specs.declared.phase.Request.{Request}
use Rattle.laws_two_ends.specs.WorkedRequests.{first_taken, one_more_taken, worked_reply, worked_request}

-- ---- numbers

-- the set has those below a bound, and no others
pub record IsUpTo (numbers : NumberSet) (end : ℕ) : Type 0 where
  pub has : (n : ℕ) → n < end → HasNumber numbers n
  pub only : (n : ℕ) → HasNumber numbers n → n < end

pub none_there : (n : ℕ) → HasNumber set.empty n → ⊥
none_there n is = true≢false (sym is ∙ set.contains-empty nat_cmp n)

in_it : (numbers : NumberSet) (k n : ℕ) → n ≡ k → HasNumber (set.insert numbers k) n
in_it numbers k n same = set.contains-insert nat_cmp_total numbers k n ∙ ap (λ b. b || set.contains numbers n) (unsigned_tied n k ∙ eq-eqb n k same)

beside : (numbers : NumberSet) (k n : ℕ) → n ≢ k → set.contains (set.insert numbers k) n ≡ set.contains numbers n
beside numbers k n apart = set.contains-insert nat_cmp_total numbers k n ∙ ap (λ b. b || set.contains numbers n) (unsigned_tied n k ∙ ne_eqb n k apart)

none_yet : IsUpTo set.empty 0
none_yet = record { has = λ n less. absurd (omega (arith, less)); only = λ n is. absurd (none_there n is) }

one_more : (numbers : NumberSet) (end : ℕ) → IsUpTo numbers end → IsUpTo (set.insert numbers end) (end + 1)
one_more numbers end are = record {
  has = λ n less. elim (eqb_tells n end) [
    | inl (_, same) ↦ in_it numbers end n same
    | inr (_, apart) ↦ beside numbers end n apart ∙ are.has n (omega arith)
  ];
  only = λ n is. elim (eqb_tells n end) [
    | inl (_, same) ↦ omega arith
    | inr (_, apart) ↦ let less = are.only n (sym (beside numbers end n apart) ∙ is) in omega arith
  ];
}

pub lacks_if_not : (numbers : NumberSet) (n : ℕ) → (HasNumber numbers n → ⊥) → LacksNumber numbers n
lacks_if_not numbers n not =
    elim (set.contains numbers n) as (λ b. ((b ≡ true) → ⊥) → b ≡ false) [ true ↦ λ h. absurd (h refl) | false ↦ λ h. refl ] not

pub gap_of : (numbers : NumberSet) (end : ℕ) → IsUpTo numbers end → IsGap numbers end
gap_of numbers end are = record {
  missing = lacks_if_not numbers end (λ is. let less = are.only end is in absurd (omega arith));
  below = are.has;
}

pub first_two : IsUpTo first_taken.in_effect 2
first_two = one_more (set.insert set.empty 0) 1 (one_more set.empty 0 none_yet)

pub first_three : IsUpTo one_more_taken.in_effect 3
first_three = one_more first_taken.in_effect 2 first_two

-- ---- the replies that are kept

pub no_reply : (n : ℕ) (octets : Octets) → map.get first_taken.kept n ≡ Some octets → ⊥
no_reply n octets is = let none : map.get first_taken.kept n ≡ None = map.get-empty nat_cmp n in cc

-- ---- the octets

and_left : (a b : Bool) → (a && b) ≡ true → a ≡ true
and_left true b is = refl
and_left false b is = is

and_right : (a b : Bool) → (a && b) ≡ true → b ≡ true
and_right true b is = is
and_right false b is = absurd (true≢false (sym is))

abbrev are_octets : Octets → Bool
are_octets [] = true
are_octets (o ∷ os) = ltb o 256 && are_octets os

octets_if : (os : Octets) → are_octets os ≡ true → AreOctets os
octets_if [] is = tt
octets_if (o ∷ os) is = (ltb-true o 256 (and_left (ltb o 256) (are_octets os) is), octets_if os (and_right (ltb o 256) (are_octets os) is))

abbrev lone_header : Octets
lone_header = 0 ∷ 0 ∷ 0 ∷ 4 ∷ []

lone_chain : (Free : ℕ → Type 0) → Free 0 → SpellsPayloads Free 46 (Sealed 0 [] ∷ []) lone_header
lone_chain Free free = (
  refl,
  0,
  record {
    front = lone_header;
    rest = [];
    joined = refl;
    first = record { second = 0; body = []; part = record { spelled = refl; fits = omega arith }; header = (refl, free); inside = refl };
    others = (refl, refl);
  },
)

abbrev pub asked : Message
asked = record {
  header = record { spi_i = 1; spi_r = 2; minor = 0; exchange = 37; flags = record { initiator = true; version = false; response = false }; id = 2 };
  payloads = Sealed 0 [] ∷ [];
}

abbrev pub answered : Message
answered = record {
  header = record { spi_i = 1; spi_r = 2; minor = 0; exchange = 37; flags = record { initiator = false; version = false; response = true }; id = 2 };
  payloads = Sealed 0 [] ∷ [];
}

pub asked_spelled : Spells asked worked_request
asked_spelled = record {
  first = 46;
  header = 0 ∷ 0 ∷ 0 ∷ 0 ∷ 0 ∷ 0 ∷ 0 ∷ 1 ∷ 0 ∷ 0 ∷ 0 ∷ 0 ∷ 0 ∷ 0 ∷ 0 ∷ 2 ∷ 46 ∷ 0x20 ∷ 37 ∷ 0x08 ∷ 0 ∷ 0 ∷ 0 ∷ 2 ∷ [];
  payloads = lone_header;
  whole = refl;
  head = record {
    flags = 8;
    has_flags = record { low = 0; high = 0; value = refl; low_bits = omega arith; high_bits = omega arith; free = (omega arith, omega arith) };
    spelled = refl;
    spi_i = omega arith;
    spi_r = omega arith;
    minor = omega arith;
    id = omega arith;
  };
  chain = lone_chain IsOctet (omega arith);
  limit = omega arith;
  octets = octets_if worked_request refl;
}

-- the reply, as who reads it spells it
pub answer_spelled : Spells answered worked_reply
answer_spelled = record {
  first = 46;
  header = 0 ∷ 0 ∷ 0 ∷ 0 ∷ 0 ∷ 0 ∷ 0 ∷ 1 ∷ 0 ∷ 0 ∷ 0 ∷ 0 ∷ 0 ∷ 0 ∷ 0 ∷ 2 ∷ 46 ∷ 0x20 ∷ 37 ∷ 0x20 ∷ 0 ∷ 0 ∷ 0 ∷ 2 ∷ [];
  payloads = lone_header;
  whole = refl;
  head = record {
    flags = 32;
    has_flags = record { low = 0; high = 0; value = refl; low_bits = omega arith; high_bits = omega arith; free = (omega arith, omega arith) };
    spelled = refl;
    spi_i = omega arith;
    spi_r = omega arith;
    minor = omega arith;
    id = omega arith;
  };
  chain = lone_chain IsOctet (omega arith);
  limit = omega arith;
  octets = octets_if worked_reply refl;
}

-- ---- gateways that are sound

pub none_asked : (number : ℕ) (request : Request) → map.get {R = nat_cmp} (map.empty {X = Request}) number ≡ Some request → ⊥
none_asked number request is = let none : map.get {R = nat_cmp} (map.empty {X = Request}) number ≡ None = map.get-empty nat_cmp number in cc

pub same_association : (one other : Association) → Some one ≡ Some other → one ≡ other
same_association one other is = cc
