-- What a list of places shows of the SPIs given, and how that changes.
use Rattle.std.proofs.Common.{◌≡◌, ◌≢◌, ◌+◌, ◌-◌, ◌<◌, ◌≤◌, ◌++◌, ◌∷◌, [], ℕ, List, length, Bool, true, false, Option, Some, None, arith, sym, ap, ◌∙◌, refl, inl, inr, slice_set, IsSome}
use Rattle.std.proofs.lemmas.Bool.{true≢false}
use Rattle.std.proofs.lemmas.Bool.Decides.{eqb_tells, leb_tells}
use Rattle.std.proofs.lemmas.List.{get_or_past, get_or-set_same, get_or-set_other, get_or_append_left, get_or_push, length_push}
use Rattle.std.specs.FinMap as map
use Rattle.std.specs.FinSet as set
use Rattle.sadb.specs.declared.places.Place.{Place}
use Rattle.sadb.specs.declared.places.Place.TheVariants.{Reserved, Held, Gone}
use Rattle.sadb.specs.Storage.{place_at, is_reserved, serial_at, shown_reserved, shown_serials}
use Rattle.sadb.proofs.NumberedLemmas.{EndsAt, StopsAt, numbered_at, numbered_below, numbered_same, numbered_inserts, numbered_removes, passing_at, passing_below, passing_same, passing_inserts, passing_removes}

abbrev pub reserved_in : List Place → ℕ → Bool
reserved_in places i = is_reserved (place_at places i)

abbrev pub serial_in : List Place → ℕ → Option ℕ
serial_in places i = serial_at (place_at places i)

pub reserved_stops : (places : List Place) → StopsAt (reserved_in places) (length places)
reserved_stops places j outside = ap is_reserved (get_or_past places j Gone outside)

pub serials_end : (places : List Place) → EndsAt (serial_in places) (length places)
serials_end places j outside = ap serial_at (get_or_past places j Gone outside)

-- what stands at a place is what is shown of its SPI
pub reserved_shown : (start : ℕ) (places : List Place) (i : ℕ) → set.contains (shown_reserved start places) (start + i) ≡ reserved_in places i
reserved_shown start places i = passing_at start (reserved_in places) (length places) (reserved_stops places) i

pub serial_shown : (start : ℕ) (places : List Place) (i : ℕ) → map.get (shown_serials start places) (start + i) ≡ serial_in places i
serial_shown start places i = numbered_at start (serial_in places) (length places) (serials_end places) i

-- an SPI that is reserved, or an SA pair's, has a place
pub record HasPlace (start : ℕ) (places : List Place) (spi : ℕ) : Type 0 where
  pub from_start : start ≤ spi
  pub inside : spi - start < length places

place_of_reserved : (places : List Place) (i : ℕ) → reserved_in places i ≡ true → i < length places
place_of_reserved places i is =
    elim (leb_tells (length places) i) [
      | inl (_, outside) ↦ absurd (true≢false (sym is ∙ reserved_stops places i outside))
      | inr (_, inside) ↦ omega arith
    ]

pub back_and_forth : (start spi : ℕ) → start ≤ spi → start + (spi - start) ≡ spi
back_and_forth start spi upward = omega arith

pub reserved_at_place : (start : ℕ) (places : List Place) (spi : ℕ) → set.contains (shown_reserved start places) spi ≡ true → reserved_in places (spi - start) ≡ true × HasPlace start places spi
reserved_at_place start places spi is =
    elim (leb_tells start spi) [
      | inl (_, upward) ↦
          (let here : reserved_in places (spi - start) ≡ true =
          sym (reserved_shown start places (spi - start)) ∙ ap (set.contains (shown_reserved start places)) (back_and_forth start spi upward) ∙ is
          in (here, record { from_start = upward; inside = place_of_reserved places (spi - start) here }))
      | inr (_, downward) ↦ absurd (true≢false (sym is ∙ passing_below start (reserved_in places) (length places) spi (omega arith)))
    ]

some_is_not_none : (o : Option ℕ) → IsSome o → o ≡ None → ⊥
some_is_not_none None is none = cc
some_is_not_none (Some x) is none = cc

pub serial_at_place : (start : ℕ) (places : List Place) (spi : ℕ) → IsSome (map.get (shown_serials start places) spi) → HasPlace start places spi
serial_at_place start places spi is =
    elim (leb_tells start spi) [
      | inl (_, upward) ↦
          elim (leb_tells (length places) (spi - start)) [
            | inl (_, outside) ↦
                absurd (some_is_not_none _ is
                (ap (map.get (shown_serials start places)) (sym (back_and_forth start spi upward)) ∙ serial_shown start places (spi - start) ∙ serials_end places (spi - start) outside))
            | inr (_, inside) ↦ record { from_start = upward; inside = omega arith }
          ]
      | inr (_, downward) ↦ absurd (some_is_not_none _ is (numbered_below start (serial_in places) (length places) spi (omega arith)))
    ]

serial_of_reserved : (place : Place) → is_reserved place ≡ true → serial_at place ≡ None
serial_of_reserved Reserved is = refl
serial_of_reserved (Held serial) is = cc
serial_of_reserved Gone is = cc

-- a reserved SPI is no SA pair's
pub reserved_is_free : (start : ℕ) (places : List Place) (spi : ℕ) → set.contains (shown_reserved start places) spi ≡ true → map.get (shown_serials start places) spi ≡ None
reserved_is_free start places spi is =
    let both = reserved_at_place start places spi is in
    ap (map.get (shown_serials start places)) (sym (back_and_forth start spi both.1.from_start)) ∙ serial_shown start places (spi - start)
    ∙ serial_of_reserved (place_at places (spi - start)) both.0

-- one more SPI is reserved
module _ (start : ℕ) (places : List Place) where
  pushed_apart : (i : ℕ) → i ≢ length places → place_at (places ++ Reserved ∷ []) i ≡ place_at places i
  pushed_apart i apart =
      elim (leb_tells (length places) i) [
        | inl (_, outside) ↦ get_or_past (places ++ Reserved ∷ []) i Gone (let longer = length_push places Reserved in omega arith) ∙ sym (get_or_past places i Gone outside)
        | inr (_, inside) ↦ get_or_append_left places (Reserved ∷ []) Gone i (omega arith)
      ]

  pub pushed_reserved : shown_reserved start (places ++ Reserved ∷ []) ≡ set.insert (shown_reserved start places) (start + length places)
  pushed_reserved =
      passing_inserts start (reserved_in places) (reserved_in (places ++ Reserved ∷ [])) (length places) (length (places ++ Reserved ∷ [])) (reserved_stops places) (reserved_stops (places ++ Reserved ∷ []))
      (length places) (ap is_reserved (get_or_push places Reserved Gone (length places) refl)) (λ i apart. ap is_reserved (pushed_apart i apart))

  pub pushed_new : set.contains (shown_reserved start places) (start + length places) ≡ false
  pushed_new = reserved_shown start places (length places) ∙ reserved_stops places (length places) (omega arith)

  pushed_serial : (i : ℕ) → serial_in (places ++ Reserved ∷ []) i ≡ serial_in places i
  pushed_serial i =
      elim (eqb_tells i (length places)) [
        | inl (_, same) ↦ ap serial_at (get_or_push places Reserved Gone i (sym same)) ∙ sym (serials_end places i (omega arith))
        | inr (_, apart) ↦ ap serial_at (pushed_apart i apart)
      ]

  pub pushed_serials : shown_serials start (places ++ Reserved ∷ []) ≡ shown_serials start places
  pushed_serials =
      numbered_same start (serial_in places) (serial_in (places ++ Reserved ∷ [])) (length places) (length (places ++ Reserved ∷ [])) (serials_end places) (serials_end (places ++ Reserved ∷ [])) pushed_serial

-- another thing comes of an SPI
module _ (start : ℕ) (places : List Place) (i : ℕ) (inside : i < length places) (place : Place) where
  pub set_reserved : is_reserved place ≡ false → shown_reserved start (slice_set places i place) ≡ set.remove (shown_reserved start places) (start + i)
  set_reserved not =
      passing_removes start (reserved_in places) (reserved_in (slice_set places i place)) (length places) (length (slice_set places i place)) (reserved_stops places) (reserved_stops (slice_set places i place))
      i (ap is_reserved (get_or-set_same places i place Gone inside) ∙ not) (λ j apart. ap is_reserved (get_or-set_other places i j place Gone apart))

  pub kept_reserved : is_reserved place ≡ reserved_in places i → shown_reserved start (slice_set places i place) ≡ shown_reserved start places
  kept_reserved same =
      passing_same start (reserved_in places) (reserved_in (slice_set places i place)) (length places) (length (slice_set places i place)) (reserved_stops places) (reserved_stops (slice_set places i place))
      (λ j. elim (eqb_tells j i) [
        | inl (_, here) ↦ ap (reserved_in (slice_set places i place)) here ∙ ap is_reserved (get_or-set_same places i place Gone inside) ∙ same ∙ ap (reserved_in places) (sym here)
        | inr (_, apart) ↦ ap is_reserved (get_or-set_other places i j place Gone apart)
      ])

  pub set_serial : (serial : ℕ) → serial_at place ≡ Some serial → shown_serials start (slice_set places i place) ≡ map.insert (shown_serials start places) (start + i) serial
  set_serial serial is =
      numbered_inserts start (serial_in places) (serial_in (slice_set places i place)) (length places) (length (slice_set places i place)) (serials_end places) (serials_end (slice_set places i place))
      i serial (ap serial_at (get_or-set_same places i place Gone inside) ∙ is) (λ j apart. ap serial_at (get_or-set_other places i j place Gone apart))

  pub cleared_serial : serial_at place ≡ None → shown_serials start (slice_set places i place) ≡ map.remove (shown_serials start places) (start + i)
  cleared_serial none =
      numbered_removes start (serial_in places) (serial_in (slice_set places i place)) (length places) (length (slice_set places i place)) (serials_end places) (serials_end (slice_set places i place))
      i (ap serial_at (get_or-set_same places i place Gone inside) ∙ none) (λ j apart. ap serial_at (get_or-set_other places i j place Gone apart))

  pub kept_serials : serial_at place ≡ serial_in places i → shown_serials start (slice_set places i place) ≡ shown_serials start places
  kept_serials same =
      numbered_same start (serial_in places) (serial_in (slice_set places i place)) (length places) (length (slice_set places i place)) (serials_end places) (serials_end (slice_set places i place))
      (λ j. elim (eqb_tells j i) [
        | inl (_, here) ↦ ap (serial_in (slice_set places i place)) here ∙ ap serial_at (get_or-set_same places i place Gone inside) ∙ same ∙ ap (serial_in places) (sym here)
        | inr (_, apart) ↦ ap serial_at (get_or-set_other places i j place Gone apart)
      ])
