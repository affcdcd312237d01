-- A message within the limit deletes no more SA pairs than it may name, and what is made of it is sound.
use Rattle.std.proofs.Common.{◌≡◌, ◌≤◌, ◌∷◌, [], ℕ, List, Bool, true, false, Option, Some, None, IfOk, Ok, Err, Result, length, arith, sym, ap, ◌∙◌, refl, subst, if◌then◌else◌, nat_lt}
use Rattle.std.proofs.lemmas.Bool.{ltb-false}
use Rattle.std.proofs.lemmas.List.{length-append}
use Rattle.std.proofs.lemmas.List.Sums.{sum_by-cons}
use Rattle.wire.specs.Numbers.{ESP_PROTOCOL}
use Rattle.wire.specs.declared.payload.Payload.{Payload}
use Rattle.exchange.specs.Counting.{unknown_critical}
use Rattle.exchange.specs.Deletions.{count_of_spis, deletes_association, esp_spis, is_deletion, spis_in}
use Rattle.exchange.specs.declared.sealed.Plain.{Plain}
use Rattle.sadb.specs.Database.{PairMap}
use Rattle.wire.specs.Payloads.{SpellsChain}
use Rattle.base.specs.Octets.{Octets}
use Rattle.exchange.specs.Chains.{IsRead}
use Rattle.deletions.specs.Deciding.{deletions_in, verdict_by, verdict_of, verdict_on, within_limit, IsSoundVerdict, IsVerdictOn}
use Rattle.deletions.specs.Naming.{deleted_by, named_limit}
use Rattle.deletions.specs.declared.deciding.Verdict.{Verdict}
use Rattle.deletions.specs.declared.deciding.Verdict.TheVariants as verdict
use Rattle.deletions.proofs.NamingLemmas.{are_live_pairs}

esp_of_one : (b : Bool) (spis : List ℕ) → length (if b then spis else []) ≤ length spis
esp_of_one true spis = omega arith
esp_of_one false spis = omega arith

esp_counted : (payloads : List Payload) → length (esp_spis payloads) ≤ count_of_spis payloads
esp_counted [] = omega arith
esp_counted (p ∷ ps) =
    let rest = esp_counted ps in
    let first = esp_of_one (is_deletion ESP_PROTOCOL p) (spis_in p) in
    omega (arith, sum_by-cons (λ (q : Payload). length (spis_in q)) p ps, length-append (if is_deletion ESP_PROTOCOL p then spis_in p else []) (esp_spis ps))

module _ (pairs : PairMap) (ike : ℕ) where
  sound_if : (b : Bool) (payloads : List Payload) → count_of_spis payloads ≤ named_limit
      → IsSoundVerdict pairs ike (if b then verdict.Closes else verdict.Deletes (deleted_by pairs ike (esp_spis payloads)))
  sound_if true payloads few = tt
  sound_if false payloads few =
      let counted = esp_counted payloads in
      are_live_pairs ike pairs (esp_spis payloads) (omega arith)

  sound_within : (b : Bool) (payloads : List Payload) → nat_lt named_limit (count_of_spis payloads) ≡ b
      → IsSoundVerdict pairs ike (if b then verdict.BadSyntax else deletions_in pairs ike payloads)
  sound_within true payloads is = tt
  sound_within false payloads is = sound_if (deletes_association payloads) payloads (ltb-false named_limit (count_of_spis payloads) is)

  sound_by : (critical : Option ℕ) (understood : Verdict) → IsSoundVerdict pairs ike understood → IsSoundVerdict pairs ike (verdict_by critical understood)
  sound_by None understood sound = sound
  sound_by (Some kind) understood sound = tt

  sound_of : (payloads : List Payload) → IsSoundVerdict pairs ike (verdict_of pairs ike payloads)
  sound_of payloads =
      sound_by (unknown_critical payloads) (within_limit pairs ike payloads) (sound_within (nat_lt named_limit (count_of_spis payloads)) payloads refl)

  pub sound_result : {E : Type 0} (payloads : List Payload) (r : Result Verdict E) → IfOk r (λ made. made ≡ verdict_of pairs ike payloads) → IfOk r (IsSoundVerdict pairs ike)
  sound_result payloads (Ok made) is = subst (IsSoundVerdict pairs ike) (sym is) (sound_of payloads)
  sound_result payloads (Err e) is = tt

  -- octets are read in one way
  one_read : ((first : ℕ) (ps qs : List Payload) (b : Octets) → SpellsChain first ps b → SpellsChain first qs b → ps ≡ qs) → (plain : Plain) (p q : Option (List Payload))
      → IsRead plain p → IsRead plain q → p ≡ q
  one_read chain plain None None is also = refl
  one_read chain plain None (Some qs) is also = absurd (is qs also)
  one_read chain plain (Some ps) None is also = absurd (also ps is)
  one_read chain plain (Some ps) (Some qs) is also = ap Some (chain plain.first ps qs plain.octets is also)

  pub one_verdict : ((first : ℕ) (ps qs : List Payload) (b : Octets) → SpellsChain first ps b → SpellsChain first qs b → ps ≡ qs) → (plain : Plain) (a b : Verdict)
      → IsVerdictOn pairs ike plain a → IsVerdictOn pairs ike plain b → a ≡ b
  one_verdict chain plain a b is also = is.due ∙ ap (verdict_on pairs ike) (one_read chain plain is.payloads also.payloads is.read also.read) ∙ sym also.due
