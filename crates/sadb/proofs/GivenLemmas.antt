-- Each change of the SPIs given: what holds of them still, and what they show then.
use Rattle.std.proofs.Common.{◌≡◌, ◌+◌, ◌-◌, ◌<◌, ◌≤◌, ◌++◌, ◌∷◌, [], ℕ, List, length, true, false, cond, None, arith, sym, ap, ◌∙◌, refl, inl, inr, subst, slice_set, IsSome}
use Rattle.std.proofs.lemmas.Bool.{true≢false}
use Rattle.std.proofs.lemmas.Bool.Decides.{leb_tells}
use Rattle.std.proofs.lemmas.List.{length-set, length_push}
use Rattle.std.specs.Ordering.{nat_cmp}
use Rattle.std.specs.Cmp.{nat_cmp_total}
use Rattle.std.specs.FinMap as map
use Rattle.std.specs.FinSet as set
use Rattle.sadb.specs.declared.places.Place.{Place}
use Rattle.sadb.specs.declared.places.Place.TheVariants.{Reserved, Held, Gone}
use Rattle.sadb.specs.Database.{IsStart}
use Rattle.sadb.specs.Storage.{GivenSpis, AreGiven, is_reserved, serial_at, place_at, shown_reserved, shown_serials}
use Rattle.sadb.proofs.PlacesLemmas.{HasPlace, serial_in, reserved_at_place, serial_at_place, reserved_is_free, serial_shown, back_and_forth, pushed_reserved, pushed_new, pushed_serials, set_reserved, kept_reserved, set_serial, cleared_serial, kept_serials}
use Rattle.sadb.proofs.NumberedLemmas.{numbered_below}

abbrev pub given_of : ℕ → List Place → ℕ → GivenSpis
given_of start places capacity = record {
  start = start;
  given = length places;
  reserved = shown_reserved start places;
  serials = shown_serials start places;
  room = capacity - length places;
}

pub removed_len : (s : set.FinSet nat_cmp) (k : ℕ) → set.contains s k ≡ true → set.len (set.remove s k) ≡ set.len s - 1
removed_len s k is = set.len-remove nat_cmp_total s k ∙ ap (λ b. cond b (set.len s - 1) (set.len s)) is

pub inserted_len : (s : set.FinSet nat_cmp) (k : ℕ) → set.contains s k ≡ false → set.len (set.insert s k) ≡ set.len s + 1
inserted_len s k is = set.len-insert nat_cmp_total s k ∙ ap (λ b. cond b (set.len s) (set.len s + 1)) is

-- what has a member is not empty
pub some_member : (s : set.FinSet nat_cmp) (k : ℕ) → set.contains s k ≡ true → 1 ≤ set.len s
some_member s k is =
    elim (leb_tells 1 (set.len s)) [
      | inl (_, some) ↦ some
      | inr (_, none) ↦
          absurd (true≢false (sym is ∙ ap (λ t. set.contains t k) (set.empty_of_len s (omega arith)) ∙ set.contains-empty nat_cmp k))
    ]

held_is_not_reserved : (place : Place) → IsSome (serial_at place) → is_reserved place ≡ false
held_is_not_reserved Reserved is = cc
held_is_not_reserved (Held other) is = refl
held_is_not_reserved Gone is = refl

-- an SPI that an SA pair has, given up
pub record Freed (now : GivenSpis) (start : ℕ) (places : List Place) (capacity reserved spi : ℕ) : Type 0 where
  pub place : HasPlace start places spi
  pub sound : AreGiven start (slice_set places (spi - start) Gone) reserved
  pub shown : given_of start (slice_set places (spi - start) Gone) capacity ≡ record now { serials = map.remove now.serials spi }

freed_shown : (start : ℕ) (places : List Place) (capacity reserved spi : ℕ) → AreGiven start places reserved → IsSome (map.get (shown_serials start places) spi) → Freed (given_of start places capacity) start places capacity reserved spi
freed_shown start places capacity reserved spi sound there =
    let place = serial_at_place start places spi there in
    let same_spi : start + (spi - start) ≡ spi = back_and_forth start spi place.from_start in
    let held : IsSome (serial_in places (spi - start)) = subst IsSome (ap (map.get (shown_serials start places)) (sym same_spi) ∙ serial_shown start places (spi - start)) there in
    let same_len : length (slice_set places (spi - start) Gone) ≡ length places = length-set places (spi - start) Gone in
    let same_reserved : shown_reserved start (slice_set places (spi - start) Gone) ≡ shown_reserved start places =
    kept_reserved start places (spi - start) place.inside Gone (sym (held_is_not_reserved (place_at places (spi - start)) held)) in
    let gone : shown_serials start (slice_set places (spi - start) Gone) ≡ map.remove (shown_serials start places) spi =
    cleared_serial start places (spi - start) place.inside Gone refl ∙ ap (map.remove (shown_serials start places)) same_spi in
    record {
      place = place;
      sound = record {
        begins = sound.begins;
        few = let few = sound.few in omega arith;
        within = let within = sound.within in omega arith;
        counted = sound.counted ∙ ap set.len (sym same_reserved);
      };
      shown = λ i. record { start = start; given = same_len i; reserved = same_reserved i; serials = gone i; room = capacity - same_len i };
    }

pub freed : (now : GivenSpis) (start : ℕ) (places : List Place) (capacity reserved spi : ℕ) → given_of start places capacity ≡ now → AreGiven start places reserved → IsSome (map.get now.serials spi) → Freed now start places capacity reserved spi
freed now start places capacity reserved spi is sound =
    subst (λ x. IsSome (map.get x.serials spi) → Freed x start places capacity reserved spi) is (freed_shown start places capacity reserved spi sound)

-- a reserved SPI, given up
pub record Released (now : GivenSpis) (start : ℕ) (places : List Place) (capacity reserved spi : ℕ) : Type 0 where
  pub place : HasPlace start places spi
  pub some : 1 ≤ reserved
  pub sound : AreGiven start (slice_set places (spi - start) Gone) (reserved - 1)
  pub shown : given_of start (slice_set places (spi - start) Gone) capacity ≡ record now { reserved = set.remove now.reserved spi }

released_shown : (start : ℕ) (places : List Place) (capacity reserved spi : ℕ) → AreGiven start places reserved → set.contains (shown_reserved start places) spi ≡ true → Released (given_of start places capacity) start places capacity reserved spi
released_shown start places capacity reserved spi sound there =
    let both = reserved_at_place start places spi there in
    let place : HasPlace start places spi = both.1 in
    let same_spi : start + (spi - start) ≡ spi = back_and_forth start spi place.from_start in
    let counted = sound.counted in
    let some : 1 ≤ set.len (shown_reserved start places) = some_member (shown_reserved start places) spi there in
    let same_len : length (slice_set places (spi - start) Gone) ≡ length places = length-set places (spi - start) Gone in
    let none : serial_in places (spi - start) ≡ None =
    sym (serial_shown start places (spi - start)) ∙ ap (map.get (shown_serials start places)) same_spi ∙ reserved_is_free start places spi there in
    let gone : shown_reserved start (slice_set places (spi - start) Gone) ≡ set.remove (shown_reserved start places) spi =
    set_reserved start places (spi - start) place.inside Gone refl ∙ ap (set.remove (shown_reserved start places)) same_spi in
    let same_serials : shown_serials start (slice_set places (spi - start) Gone) ≡ shown_serials start places =
    kept_serials start places (spi - start) place.inside Gone (sym none) in
    record {
      place = place;
      some = omega arith;
      sound = record {
        begins = sound.begins;
        few = let few = sound.few in omega arith;
        within = let within = sound.within in omega arith;
        counted = ap (λ n. n - 1) counted ∙ sym (ap set.len gone ∙ removed_len (shown_reserved start places) spi there);
      };
      shown = λ i. record { start = start; given = same_len i; reserved = gone i; serials = same_serials i; room = capacity - same_len i };
    }

pub released : (now : GivenSpis) (start : ℕ) (places : List Place) (capacity reserved spi : ℕ) → given_of start places capacity ≡ now → AreGiven start places reserved → set.contains now.reserved spi ≡ true → Released now start places capacity reserved spi
released now start places capacity reserved spi is sound =
    subst (λ x. set.contains x.reserved spi ≡ true → Released x start places capacity reserved spi) is (released_shown start places capacity reserved spi sound)

-- a reserved SPI, which an SA pair has from then on
pub record Taken (now : GivenSpis) (start : ℕ) (places : List Place) (capacity reserved spi serial : ℕ) : Type 0 where
  pub place : HasPlace start places spi
  pub some : 1 ≤ reserved
  pub sound : AreGiven start (slice_set places (spi - start) (Held serial)) (reserved - 1)
  pub shown : given_of start (slice_set places (spi - start) (Held serial)) capacity ≡ record now { reserved = set.remove now.reserved spi; serials = map.insert now.serials spi serial }
  pub new_serial : map.get now.serials spi ≡ None

taken_shown : (start : ℕ) (places : List Place) (capacity reserved spi serial : ℕ) → AreGiven start places reserved → set.contains (shown_reserved start places) spi ≡ true → Taken (given_of start places capacity) start places capacity reserved spi serial
taken_shown start places capacity reserved spi serial sound there =
    let both = reserved_at_place start places spi there in
    let place : HasPlace start places spi = both.1 in
    let same_spi : start + (spi - start) ≡ spi = back_and_forth start spi place.from_start in
    let counted = sound.counted in
    let some : 1 ≤ set.len (shown_reserved start places) = some_member (shown_reserved start places) spi there in
    let same_len : length (slice_set places (spi - start) (Held serial)) ≡ length places = length-set places (spi - start) (Held serial) in
    let gone : shown_reserved start (slice_set places (spi - start) (Held serial)) ≡ set.remove (shown_reserved start places) spi =
    set_reserved start places (spi - start) place.inside (Held serial) refl ∙ ap (set.remove (shown_reserved start places)) same_spi in
    let held : shown_serials start (slice_set places (spi - start) (Held serial)) ≡ map.insert (shown_serials start places) spi serial =
    set_serial start places (spi - start) place.inside (Held serial) serial refl ∙ ap (λ key. map.insert (shown_serials start places) key serial) same_spi in
    record {
      place = place;
      some = omega arith;
      sound = record {
        begins = sound.begins;
        few = let few = sound.few in omega arith;
        within = let within = sound.within in omega arith;
        counted = ap (λ n. n - 1) counted ∙ sym (ap set.len gone ∙ removed_len (shown_reserved start places) spi there);
      };
      shown = λ i. record { start = start; given = same_len i; reserved = gone i; serials = held i; room = capacity - same_len i };
      new_serial = reserved_is_free start places spi there;
    }

pub taken : (now : GivenSpis) (start : ℕ) (places : List Place) (capacity reserved spi serial : ℕ) → given_of start places capacity ≡ now → AreGiven start places reserved → set.contains now.reserved spi ≡ true → Taken now start places capacity reserved spi serial
taken now start places capacity reserved spi serial is sound =
    subst (λ x. set.contains x.reserved spi ≡ true → Taken x start places capacity reserved spi serial) is (taken_shown start places capacity reserved spi serial sound)

-- one more SPI, reserved, in places of this new capacity
pub record Given (now : GivenSpis) (start : ℕ) (places : List Place) (capacity reserved : ℕ) : Type 0 where
  pub few : reserved ≤ 65536
  pub sound : AreGiven start (places ++ Reserved ∷ []) (reserved + 1)
  pub new_spi : set.contains now.reserved (now.start + now.given) ≡ false
  pub shown : given_of start (places ++ Reserved ∷ []) capacity ≡ record now { given = now.given + 1; reserved = set.insert now.reserved (now.start + now.given); room = capacity - length (places ++ Reserved ∷ []) }
  pub room : now.room ≤ (capacity - length (places ++ Reserved ∷ [])) + 1

given_shown : (start : ℕ) (places : List Place) (before capacity reserved : ℕ) → before ≤ capacity → AreGiven start places reserved → length places < 65536 → Given (given_of start places before) start places capacity reserved
given_shown start places before capacity reserved grown sound unspent =
    let longer : length (places ++ Reserved ∷ []) ≡ length places + 1 = length_push places Reserved in
    let within = sound.within in
    record {
      few = omega arith;
      sound = record {
        begins = sound.begins;
        few = omega arith;
        within = omega arith;
        counted = ap (λ n. n + 1) sound.counted ∙ sym (ap set.len (pushed_reserved start places) ∙ inserted_len (shown_reserved start places) (start + length places) (pushed_new start places));
      };
      new_spi = pushed_new start places;
      shown = λ i. record { start = start; given = longer i; reserved = pushed_reserved start places i; serials = pushed_serials start places i; room = capacity - length (places ++ Reserved ∷ []) };
      room = omega arith;
    }

pub given : (now : GivenSpis) (start : ℕ) (places : List Place) (before capacity reserved : ℕ) → before ≤ capacity → given_of start places before ≡ now → AreGiven start places reserved → now.given < 65536 → Given now start places capacity reserved
given now start places before capacity reserved grown is sound =
    subst (λ x. x.given < 65536 → Given x start places capacity reserved) is (given_shown start places before capacity reserved grown sound)

-- what holds of the SPIs given
pub record Sound (now : GivenSpis) : Type 0 where
  pub start : IsStart now.start
  pub reserved : (spi : ℕ) → set.contains now.reserved spi ≡ true → (now.start ≤ spi) × (spi < now.start + now.given) × (map.get now.serials spi ≡ None)
  pub held : (spi : ℕ) → IsSome (map.get now.serials spi) → (now.start ≤ spi) × (spi < now.start + now.given)

upward : (start : ℕ) (places : List Place) (spi : ℕ) → HasPlace start places spi → spi < start + length places
upward start places spi place = let from = place.from_start in let inside = place.inside in omega arith

sound_shown : (start : ℕ) (places : List Place) (capacity reserved : ℕ) → AreGiven start places reserved → Sound (given_of start places capacity)
sound_shown start places capacity reserved sound =
    record {
      start = sound.begins;
      reserved = λ spi is. (let place : HasPlace start places spi = (reserved_at_place start places spi is).1 in (place.from_start, upward start places spi place, reserved_is_free start places spi is));
      held = λ spi is. (let place : HasPlace start places spi = serial_at_place start places spi is in (place.from_start, upward start places spi place));
    }

pub holds : (now : GivenSpis) (start : ℕ) (places : List Place) (capacity reserved : ℕ) → given_of start places capacity ≡ now → AreGiven start places reserved → Sound now
holds now start places capacity reserved is sound = subst Sound is (sound_shown start places capacity reserved sound)

-- what the SPIs given show of one, by where it lies
pub shown_at : (now : GivenSpis) (start : ℕ) (places : List Place) (capacity spi : ℕ) → given_of start places capacity ≡ now → start ≤ spi → map.get now.serials spi ≡ serial_at (place_at places (spi - start))
shown_at now start places capacity spi is upward =
    subst (λ x. map.get x.serials spi ≡ serial_at (place_at places (spi - start))) is
    (ap (map.get (shown_serials start places)) (sym (back_and_forth start spi upward)) ∙ serial_shown start places (spi - start))

pub shown_below : (now : GivenSpis) (start : ℕ) (places : List Place) (capacity spi : ℕ) → given_of start places capacity ≡ now → spi < start → map.get now.serials spi ≡ None
shown_below now start places capacity spi is below =
    subst (λ x. map.get x.serials spi ≡ None) is (numbered_below start (serial_in places) (length places) spi below)

pub none_given : (start : ℕ) → IsStart start → AreGiven start [] 0
none_given start begins = record { begins = begins; few = omega arith; within = omega arith; counted = sym (set.len-empty nat_cmp) }
