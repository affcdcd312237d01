-- What becomes of an IKE SA that is closed.
use Rattle.std.proofs.Common.{◌≡◌, ◌+◌, ◌<◌, ◌≤◌, ◌∷◌, [], ℕ, zero, suc, List, Bool, true, false, cond, not, Option, Some, None, length, ap, arith, refl, subst, sym, ◌∙◌, inl, inr}
use Rattle.std.proofs.lemmas.Bool.{both_ways, eqb-true, le-leb, lt-leb}
use Rattle.std.proofs.lemmas.List.Folds.{find_at}
use Rattle.std.proofs.lemmas.Option.{none-some, same_Some}
use Rattle.std.specs.FinMap as numbers
use Rattle.std.specs.List.{position_or_len, slice_get, AllZip}
use Rattle.suite.specs.declared.key_record.KeyRecord.{KeyRecord}
use Rattle.requests.proofs.OrderLemmas.{any_found}
use Rattle.association.specs.Phases.{keys_in}
use Rattle.association.specs.declared.phase.Association.{Association}
use Rattle.association.specs.declared.phase.Phase.{Phase}
use Rattle.association.specs.declared.phase.Phase.TheVariants as phase
use Rattle.effects.specs.Waiting.{SuitPhase}
use Rattle.moments.specs.Due.{has_failed, held_of, is_over, is_unanswered, outstanding_of, CLOSED_TIME}
use Rattle.moments.specs.Held.{StaysItself}
use Rattle.ike.specs.Machines.{association_of, has_serial}
use Rattle.ike.specs.Soundness.{AreSound}
use Rattle.gateway.specs.Histories.{Passage}
use Rattle.laws_recovery.specs.Removing.{ClosedAfter, ClosedBefore, IsRemoved}
use Rattle.laws_recovery.specs.Waiting.{IsGivenUp}
use Rattle.laws_recovery.proofs.CountingLemmas.{sound_found}
use Rattle.laws_recovery.proofs.WaitingLemmas.{fails, over_phase, same_one, stays_held, suits_at, zipped, Brought}

-- ---- lists

none_cons : (now serial : ℕ) (over here : Bool) (x : Association) (held : List Association) → is_over now x.phase ≡ over → has_serial serial x ≡ here → (x.serial ≡ serial → is_over now x.phase ≡ true)
    → association_of serial held ≡ None → association_of serial (cond (not over) (x ∷ held) held) ≡ None
none_cons now serial true here x held its named only rest = rest
none_cons now serial false true x held its named only rest = absurd (both_ways (is_over now x.phase) its (only (eqb-true x.serial serial named)))
none_cons now serial false false x held its named only rest = ap (λ b. cond b (Some x) (association_of serial held)) named ∙ rest

-- none is found where all that have the serial are over
none_held : (now serial : ℕ) (xs : List Association) → ((place : ℕ) (x : Association) → slice_get xs place ≡ Some x → x.serial ≡ serial → is_over now x.phase ≡ true) → association_of serial (held_of now xs) ≡ None
none_held now serial [] only = refl
none_held now serial (x ∷ xs) only =
    none_cons now serial (is_over now x.phase) (has_serial serial x) x (held_of now xs) refl refl (only zero x refl) (none_held now serial xs (λ place y at. only (suc place) y at))

none_zip_cons : (serial : ℕ) (here : Bool) (x y : Association) (found others : Option Association) → has_serial serial x ≡ here → y.serial ≡ x.serial → cond here (Some x) found ≡ None
    → (found ≡ None → others ≡ None) → cond (has_serial serial y) (Some y) others ≡ None
none_zip_cons serial true x y found others named same is rest = absurd (none-some x (sym is))
none_zip_cons serial false x y found others named same is rest =
    ap (λ b. cond b (Some y) others) (ap (λ n. has_serial serial (record y { serial = n })) same ∙ named) ∙ rest is

none_zipped : (now serial : ℕ) (closed : List ℕ) (xs ys : List Association) → AllZip (StaysItself now closed) xs ys → association_of serial xs ≡ None → association_of serial ys ≡ None
none_zipped now serial closed [] [] zip none = refl
none_zipped now serial closed [] (y ∷ ys) zip none = absurd zip
none_zipped now serial closed (x ∷ xs) [] zip none = absurd zip
none_zipped now serial closed (x ∷ xs) (y ∷ ys) zip none =
    none_zip_cons serial (has_serial serial x) x y (association_of serial xs) (association_of serial ys) refl zip.0.serial none (none_zipped now serial closed xs ys zip.1)

same_length : (now : ℕ) (closed : List ℕ) (xs ys : List Association) → AllZip (StaysItself now closed) xs ys → length ys ≡ length xs
same_length now closed [] [] zip = refl
same_length now closed [] (y ∷ ys) zip = absurd zip
same_length now closed (x ∷ xs) [] zip = absurd zip
same_length now closed (x ∷ xs) (y ∷ ys) zip = ap suc (same_length now closed xs ys zip.1)

few_cons : (over : Bool) (x : Association) (xs held : List Association) → length held ≤ length xs → length (cond (not over) (x ∷ held) held) ≤ length (x ∷ xs)
few_cons true x xs held few = omega (arith, few)
few_cons false x xs held few = omega (arith, few)

few_held : (now : ℕ) (xs : List Association) → length (held_of now xs) ≤ length xs
few_held now [] = omega arith
few_held now (x ∷ xs) = few_cons (is_over now x.phase) x xs (held_of now xs) (few_held now xs)

over_cons : (over : Bool) (x : Association) (xs held : List Association) → over ≡ true → length held ≤ length xs → length (cond (not over) (x ∷ held) held) < length (x ∷ xs)
over_cons true x xs held is few = omega (arith, few)
over_cons false x xs held is few = absurd cc

fewer_cons : (over : Bool) (x : Association) (xs held : List Association) → length held < length xs → length (cond (not over) (x ∷ held) held) < length (x ∷ xs)
fewer_cons true x xs held few = omega (arith, few)
fewer_cons false x xs held few = omega (arith, few)

fewer_held : (now : ℕ) (xs : List Association) (place : ℕ) (a : Association) → slice_get xs place ≡ Some a → is_over now a.phase ≡ true → length (held_of now xs) < length xs
fewer_held now [] place a there over = absurd (none-some a there)
fewer_held now (x ∷ xs) zero a there over =
    over_cons (is_over now x.phase) x xs (held_of now xs) (ap (λ (y : Association). is_over now y.phase) (same_Some x a there) ∙ over) (few_held now xs)
fewer_held now (x ∷ xs) (suc place) a there over = fewer_cons (is_over now x.phase) x xs (held_of now xs) (fewer_held now xs place a there over)

-- ---- an IKE SA that is closed

over_by : (now at : ℕ) (keys : Option KeyRecord) (p : Phase) → p ≡ phase.Closed keys at → at + CLOSED_TIME ≤ now → is_over now p ≡ true
over_by now at keys p is late = ap (is_over now) is ∙ le-leb (at + CLOSED_TIME) now late

not_over_by : (now at : ℕ) (keys : Option KeyRecord) (p : Phase) → p ≡ phase.Closed keys at → now < at + CLOSED_TIME → is_over now p ≡ false
not_over_by now at keys p is early = ap (is_over now) is ∙ lt-leb (at + CLOSED_TIME) now early

-- nothing of it waits, so none of its requests fails
never_fails : (now : ℕ) (a : Association) (keys : Option KeyRecord) (at : ℕ) → SuitPhase a.phase a.outgoing.outstanding → a.phase ≡ phase.Closed keys at → has_failed now a ≡ true → ⊥
never_fails now a keys at suits is failed =
    let passing = any_found (is_unanswered now) (outstanding_of a) (numbers.entries_sorted a.outgoing.outstanding) failed in
    subst (λ (p : Phase). SuitPhase p a.outgoing.outstanding) is suits passing.number passing.value (numbers.get-entries a.outgoing.outstanding passing.number ∙ passing.there)

module _ {C : Type 0} (now serial : ℕ) (p : Passage C) (b : Brought now p) (sound : AreSound p.before.machine.held p.before.table) where
  suits : (a : Association) → association_of serial p.before.machine.held.associations ≡ Some a → SuitPhase a.phase a.outgoing.outstanding
  suits a there =
      (sound.each (position_or_len (has_serial serial) p.before.machine.held.associations) a (sym (find_at (has_serial serial) p.before.machine.held.associations) ∙ there)).soundly.waits

  -- it is closed with the tick at which it is given up
  pub closed : IsGivenUp serial now p → (keys : Option KeyRecord) × ClosedAfter serial keys now p
  closed up =
      let a = up.waits.association in
      let failed = fails now p.before.machine.held p.before.table b.ticked p.after.machine.held p.after.table b.due sound serial up.number up.request up.waits up.over in
      let alive = over_phase now a.phase a.outgoing.outstanding up.number up.request (suits_at p.before.machine.held p.before.table serial up.number up.request sound up.waits) up.waits.waits in
      let z = zipped now serial b.ticked.closed (held_of now p.before.machine.held.associations) p.after.machine.held.associations a b.due.held
      (stays_held now serial p.before.machine.held.associations a alive up.waits.there) in
      elim z.stays.stays [
        | inl (answered, _) ↦ absurd (both_ways (has_failed now a) answered failed)
        | inr (over, _) ↦ (keys_in a.phase, record { association = z.held; there = z.there; is = ap (λ (x : Association). x.phase) over.content })
      ]

  -- it stays so until its time is over
  pub stays : (keys : Option KeyRecord) (at : ℕ) → ClosedBefore serial keys at p → now < at + CLOSED_TIME → ClosedAfter serial keys at p
  stays keys at stands early =
      let a = stands.association in
      let z = zipped now serial b.ticked.closed (held_of now p.before.machine.held.associations) p.after.machine.held.associations a b.due.held
      (stays_held now serial p.before.machine.held.associations a (not_over_by now at keys a.phase stands.is early) stands.there) in
      elim z.stays.stays [
        | inl (_, again) ↦ record { association = z.held; there = z.there; is = ap (λ (x : Association). x.phase) again.content ∙ stands.is }
        | inr (over, _) ↦ absurd (never_fails now a keys at (suits a stands.there) stands.is over.failed)
      ]

  -- and then it is removed
  pub removed : (keys : Option KeyRecord) (at : ℕ) → ClosedBefore serial keys at p → at + CLOSED_TIME ≤ now → IsRemoved serial p
  removed keys at stands late =
      let a = stands.association in
      let xs = p.before.machine.held.associations in
      let over = over_by now at keys a.phase stands.is late in
      record {
        gone = none_zipped now serial b.ticked.closed (held_of now xs) p.after.machine.held.associations b.due.held
            (none_held now serial xs (λ place x there named.
            let same : x ≡ a = same_one x a (sym (sound_found p.before.machine.held p.before.table place x sound there) ∙ ap (λ (n : ℕ). association_of n xs) named ∙ stands.there) in
            ap (λ (y : Association). is_over now y.phase) same ∙ over));
        fewer =
            let many = same_length now b.ticked.closed (held_of now xs) p.after.machine.held.associations b.due.held in
            let less = fewer_held now xs (position_or_len (has_serial serial) xs) a (sym (find_at (has_serial serial) xs) ∙ stands.there) over in
            omega (arith, many, less);
      }
