-- What is judged of a request, each where nothing before it applies.
use Rattle.std.proofs.Common.{◌≡◌, ◌<◌, ◌≤◌, ◌↔◌, ℕ, List, Bool, true, false, Option, Some, None, sym, ap, ◌∙◌, refl, if◌then◌else◌, nat_lt}
use Rattle.std.proofs.lemmas.Bool.{le-ltb, lt-ltb, ltb-false, ltb-true}
use Rattle.wire.specs.declared.payload.Payload.{Payload}
use Rattle.exchange.specs.Counting.{unknown_critical}
use Rattle.exchange.specs.Deletions.{count_of_spis, deletes_association, esp_spis}
use Rattle.sadb.specs.Database.{PairMap}
use Rattle.deletions.specs.Deciding.{verdict_by, verdict_of}
use Rattle.deletions.specs.Naming.{deleted_by, named_limit}
use Rattle.deletions.specs.declared.deciding.Verdict.{Verdict}
use Rattle.deletions.specs.declared.deciding.Verdict.TheVariants as verdict
use Rattle.deletions.specs.declared.naming.DeletedPairs.{DeletedPairs}

-- by what is asked of the payloads
abbrev judged : Option ℕ → Bool → Bool → DeletedPairs → Verdict
judged critical over closing found = verdict_by critical (if over then verdict.BadSyntax else (if closing then verdict.Closes else verdict.Deletes found))

told_unsupported : (critical : Option ℕ) (over closing : Bool) (found : DeletedPairs) (kind : ℕ) → judged critical over closing found ≡ verdict.Unsupported kind → critical ≡ Some kind
told_unsupported (Some k) over closing found kind is = (let same : k ≡ kind = cc in ap Some same)
told_unsupported None true closing found kind is = absurd (cc)
told_unsupported None false true found kind is = absurd (cc)
told_unsupported None false false found kind is = absurd (cc)

told_bad : (critical : Option ℕ) (over closing : Bool) (found : DeletedPairs) → judged critical over closing found ≡ verdict.BadSyntax → (critical ≡ None) × (over ≡ true)
told_bad (Some k) over closing found is = absurd (cc)
told_bad None true closing found is = (refl, refl)
told_bad None false true found is = absurd (cc)
told_bad None false false found is = absurd (cc)

told_closes : (critical : Option ℕ) (over closing : Bool) (found : DeletedPairs) → judged critical over closing found ≡ verdict.Closes → (critical ≡ None) × (over ≡ false) × (closing ≡ true)
told_closes (Some k) over closing found is = absurd (cc)
told_closes None true closing found is = absurd (cc)
told_closes None false true found is = (refl, refl, refl)
told_closes None false false found is = absurd (cc)

told_deletes : (critical : Option ℕ) (over closing : Bool) (found other : DeletedPairs) → judged critical over closing found ≡ verdict.Deletes other
    → (critical ≡ None) × (over ≡ false) × (closing ≡ false) × (other ≡ found)
told_deletes (Some k) over closing found other is = absurd (cc)
told_deletes None true closing found other is = absurd (cc)
told_deletes None false true found other is = absurd (cc)
told_deletes None false false found other is = (let same : other ≡ found = cc in (refl, refl, refl, same))

module _ (pairs : PairMap) (ike : ℕ) where
  abbrev is_over : List Payload → Bool
  is_over payloads = nat_lt named_limit (count_of_spis payloads)

  abbrev found_in : List Payload → DeletedPairs
  found_in payloads = deleted_by pairs ike (esp_spis payloads)

  pub unsupported : (kind : ℕ) (payloads : List Payload) → (verdict_of pairs ike payloads ≡ verdict.Unsupported kind) ↔ (unknown_critical payloads ≡ Some kind)
  unsupported kind payloads = (
    told_unsupported (unknown_critical payloads) (is_over payloads) (deletes_association payloads) (found_in payloads) kind,
    λ is. ap (λ (o : Option ℕ). judged o (is_over payloads) (deletes_association payloads) (found_in payloads)) is,
  )

  pub bad_syntax : (payloads : List Payload) → (verdict_of pairs ike payloads ≡ verdict.BadSyntax) ↔ ((unknown_critical payloads ≡ None) × (named_limit < count_of_spis payloads))
  bad_syntax payloads = (
    λ is.
        let told = told_bad (unknown_critical payloads) (is_over payloads) (deletes_association payloads) (found_in payloads) is in
        (told.0, ltb-true named_limit (count_of_spis payloads) told.1),
    λ both.
        ap (λ (o : Option ℕ). judged o (is_over payloads) (deletes_association payloads) (found_in payloads)) both.0
        ∙ ap (λ b. judged None b (deletes_association payloads) (found_in payloads)) (lt-ltb named_limit (count_of_spis payloads) both.1),
  )

  within : (payloads : List Payload) → unknown_critical payloads ≡ None → count_of_spis payloads ≤ named_limit
      → verdict_of pairs ike payloads ≡ judged None false (deletes_association payloads) (found_in payloads)
  within payloads none few =
      ap (λ (o : Option ℕ). judged o (is_over payloads) (deletes_association payloads) (found_in payloads)) none
      ∙ ap (λ b. judged None b (deletes_association payloads) (found_in payloads)) (le-ltb named_limit (count_of_spis payloads) few)

  pub closes : (payloads : List Payload) → (verdict_of pairs ike payloads ≡ verdict.Closes)
      ↔ ((unknown_critical payloads ≡ None) × (count_of_spis payloads ≤ named_limit) × (deletes_association payloads ≡ true))
  closes payloads = (
    λ is.
        let told = told_closes (unknown_critical payloads) (is_over payloads) (deletes_association payloads) (found_in payloads) is in
        (told.0, ltb-false named_limit (count_of_spis payloads) told.1, told.2),
    λ all. within payloads all.0 all.1 ∙ ap (λ b. judged None false b (found_in payloads)) all.2,
  )

  pub deletes : (payloads : List Payload) (found : DeletedPairs) → (verdict_of pairs ike payloads ≡ verdict.Deletes found)
      ↔ ((unknown_critical payloads ≡ None) × (count_of_spis payloads ≤ named_limit) × (deletes_association payloads ≡ false) × (found ≡ deleted_by pairs ike (esp_spis payloads)))
  deletes payloads found = (
    λ is.
        let told = told_deletes (unknown_critical payloads) (is_over payloads) (deletes_association payloads) (found_in payloads) found is in
        (told.0, ltb-false named_limit (count_of_spis payloads) told.1, told.2, told.3),
    λ all. within payloads all.0 all.1 ∙ ap (λ b. judged None false b (found_in payloads)) all.2 ∙ ap (λ (n : DeletedPairs). verdict.Deletes n) (sym all.3),
  )
