-- What is due of one IKE SA, Message ID by Message ID.
use Rattle.std.proofs.Common.{◌≡◌, ◌≢◌, ◌+◌, ◌-◌, ◌^◌, ◌<◌, ℕ, List, map, Bool, true, false, cond, Option, Some, None, arith, sym, ap, ◌∙◌, refl, inl, inr, Result, Ok, Err, OnErr, slice_index_or, length, ◌∷◌, [], subst}
use Rattle.std.proofs.lemmas.Bool.Decides.{eqb_tells, leb_tells}
use Rattle.std.specs.List.{filter}
use Rattle.std.specs.Option.{option_map}
use Rattle.std.specs.FinMap as numbers
use Rattle.requests.specs.Outgoing.{IsAbove, IsNextOutstanding, OwnRequests, is_above}
use Rattle.association.specs.declared.phase.Association.{Association}
use Rattle.association.specs.declared.phase.Request.{Request}
use Rattle.moments.specs.Due.{after_sending, closed_by, due_of, has_failed, is_due, is_over, resent, sent_by, SendsAgain, SomethingComes}
use Rattle.moments.specs.Passing.{RestartsAt}
use Rattle.moments.specs.declared.resent.Resent.{Resent}
use Rattle.requests.proofs.EntryLemmas.{inserted_apart, inserted_here}
use Rattle.requests.proofs.OrderLemmas.{above_later, above_told, above_true, not_above}

-- how many Message IDs of 32 bits lie above one, or above none
abbrev pub numbers_left : Option ℕ → ℕ
numbers_left None = 2 ^ 32 + 1
numbers_left (Some low) = 2 ^ 32 - low

pub fewer_left : (low : Option ℕ) (n : ℕ) → IsAbove low n → n < 2 ^ 32 → numbers_left (Some n) < numbers_left low
fewer_left None n above fits = omega arith
fewer_left (Some m) n above fits = omega arith

abbrev pub due_among : ℕ → Association → List (ℕ × Request) → List Resent
due_among now a es = map (resent a) (filter (λ e. is_due now e.1) es)

-- what stands under a Message ID when those up to another one were gone through
abbrev pub up_to : Option ℕ → ℕ → ℕ → Option Request → Option Request
up_to low now n r = cond (is_above low n) r (option_map (after_sending now) r)

pub record SendsUpTo (low : Option ℕ) (now : ℕ) (old new : Association) : Type 0 where
  pub each : (n : ℕ) → numbers.get new.outgoing.outstanding n ≡ up_to low now n (numbers.get old.outgoing.outstanding n)
  pub content : new ≡ record old { outgoing = record old.outgoing { outstanding = new.outgoing.outstanding } }

pub none_yet : (now : ℕ) (a : Association) → SendsUpTo None now a a
none_yet now a = record { each = λ n. refl; content = refl }

abbrev told : ℕ → Option Request → Bool → Option Request
told now r b = cond b r (option_map (after_sending now) r)

-- a Message ID that is not the next one stays as it is, or as it is made already
same_apart : (low : Option ℕ) (now n q : ℕ) (r : Option Request) → IsAbove low n → q ≢ n → (IsAbove low q → q < n → r ≡ None) → up_to low now q r ≡ up_to (Some n) now q r
same_apart low now n q r above apart none =
    elim (leb_tells (n + 1) q) [
      | inl (_, more) ↦ ap (told now r) (above_true low q (above_later low n q above (omega arith)) ∙ sym (above_true (Some n) q (omega arith)))
      | inr (_, less) ↦
          (let past : is_above (Some n) q ≡ false = not_above (Some n) q (λ more. omega arith) in
          elim (is_above low q) as (λ b. is_above low q ≡ b → told now r b ≡ up_to (Some n) now q r) [
            | true ↦ λ its. (let gone : r ≡ None = none (above_told low q its) (omega arith) in
                gone ∙ sym (ap (up_to (Some n) now q) gone ∙ ap (told now None) past))
            | false ↦ λ its. sym (ap (told now r) past)
          ] refl)
    ]

missing_before : (low : Option ℕ) (now : ℕ) (first old : Association) (q : ℕ) → SendsUpTo low now first old → IsAbove low q → numbers.get old.outgoing.outstanding q ≡ None → numbers.get first.outgoing.outstanding q ≡ None
missing_before low now first old q so_far above none =
    sym (so_far.each q ∙ ap (told now (numbers.get first.outgoing.outstanding q)) (above_true low q above)) ∙ none

pub restarted : (low : Option ℕ) (now : ℕ) (first old new : Association) (n : ℕ) (r : Request) → SendsUpTo low now first old → IsNextOutstanding old.outgoing low n r
    → RestartsAt now old.outgoing n new.outgoing → new ≡ record old { outgoing = new.outgoing } → SendsUpTo (Some n) now first new
restarted low now first old new n r so_far next is content =
    let outgoing : new.outgoing ≡ record old.outgoing { outstanding = numbers.insert old.outgoing.outstanding n (after_sending now is.request) } = is.replaced.content in
    let stands : (q : ℕ) → numbers.get new.outgoing.outstanding q ≡ numbers.get (numbers.insert old.outgoing.outstanding n (after_sending now is.request)) q =
    λ q. ap (λ (o : OwnRequests Request). numbers.get o.outstanding q) outgoing in
    record {
      each = λ q. elim (eqb_tells q n) [
        | inl (_, same) ↦
            (let before : numbers.get first.outgoing.outstanding q ≡ Some is.request =
            sym (so_far.each q ∙ ap (told now (numbers.get first.outgoing.outstanding q)) (above_true low q (subst (IsAbove low) (sym same) next.above)))
            ∙ ap (numbers.get old.outgoing.outstanding) same ∙ is.replaced.there in
            stands q ∙ inserted_here old.outgoing.outstanding n q (after_sending now is.request) same
            ∙ sym (ap (up_to (Some n) now q) before ∙ ap (told now (Some is.request)) (not_above (Some n) q (λ less. omega arith))))
        | inr (_, apart) ↦ stands q ∙ inserted_apart old.outgoing.outstanding n q (after_sending now is.request) apart ∙ so_far.each q
            ∙ same_apart low now n q (numbers.get first.outgoing.outstanding q) next.above apart (λ above less. missing_before low now first old q so_far above (next.least q above less))
      ];
      content = content ∙ ap (λ (o : OwnRequests Request). record old { outgoing = o }) outgoing
          ∙ ap (λ (a : Association). record a { outgoing = record a.outgoing { outstanding = numbers.insert old.outgoing.outstanding n (after_sending now is.request) } }) so_far.content
          ∙ ap (λ (o : OwnRequests Request). record first { outgoing = record first.outgoing { outstanding = o.outstanding } }) (sym outgoing);
    }

pub all_sent : (low : Option ℕ) (now : ℕ) (first old : Association) → SendsUpTo low now first old → ((k : ℕ) → IsAbove low k → numbers.get old.outgoing.outstanding k ≡ None) → SendsAgain now first old
all_sent low now first old so_far none =
    record {
      each = λ q. so_far.each q
          ∙ elim (is_above low q) as (λ b. is_above low q ≡ b → told now (numbers.get first.outgoing.outstanding q) b ≡ option_map (after_sending now) (numbers.get first.outgoing.outstanding q)) [
            | true ↦ λ its. (let gone = missing_before low now first old q so_far (above_told low q its) (none q (above_told low q its)) in
                gone ∙ sym (ap (option_map (after_sending now)) gone))
            | false ↦ λ its. refl
          ] refl;
      content = so_far.content;
    }

-- ---- what takes memory

pub on_refusal : {A B P : Type 0} (r : Result A B) → P → OnErr r P
on_refusal (Ok x) p = tt
on_refusal (Err e) p = p

pub one_sends : (now place : ℕ) (associations : List Association) (a : Association) → place < length associations → a ≡ slice_index_or associations place a → is_over now a.phase ≡ false → has_failed now a ≡ false → due_of now a ≢ []
    → SomethingComes now associations
one_sends now place associations a inside is held not_gone some =
    record {
      association = a;
      held = (place, inside, sym is);
      comes = λ none. some (sym (λ i. sent_by (held i) (not_gone i) now a) ∙ none.0);
    }

pub one_closes : (now place : ℕ) (associations : List Association) (a : Association) → place < length associations → a ≡ slice_index_or associations place a → is_over now a.phase ≡ false → has_failed now a ≡ true → SomethingComes now associations
one_closes now place associations a inside is held gone =
    record {
      association = a;
      held = (place, inside, sym is);
      comes = λ none. (let one : a.serial ∷ [] ≡ [] = sym (λ i. closed_by (held i) (gone i) a) ∙ none.1 in absurd cc);
    }
