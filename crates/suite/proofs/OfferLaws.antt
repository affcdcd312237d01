-- What is offered is acceptable, and what is answered is an answer: case by case of what is wanted.
use Rattle.std.proofs.Common.{◌≡◌, ℕ, zero, suc, ◌<◌, Bool, true, false, List, [], ◌∷◌, slice_get, Option, Some, All, Any, Contains, refl, sym, ap, subst, ◌∙◌, arith}
use Rattle.std.proofs.lemmas.List.Elements.{All-cons}
use Rattle.wire.specs.declared.proposal.Proposal.{Proposal}
use Rattle.wire.specs.declared.proposal.Transform.{Transform}
use Rattle.suite.specs.declared.choice.Chosen.{Chosen}
use Rattle.suite.specs.declared.choice.Wanted.{Wanted}
use Rattle.suite.specs.declared.choice.Wanted.TheVariants.{Ike, Esp}
use Rattle.suite.specs.Choice.{acceptable_transforms, key_length_attribute, kinds, sequence_numbers, without_attributes, ChoosesNumbers, HasSpi, IsAcceptableProposal, IsAcceptableTransform, IsChosenProposal, IsFirstAcceptable}
use Rattle.suite.proofs.OfferLemmas.{one_item}
use Rattle.suite.specs.Offers.{answer_of, answered_transforms, count_of_kind, offer_of, offered_transforms, AcceptsAnswer, IsAcceptableAnswer}

All-nil : {X : Type 0} (P : X → Type 0) → All P []
All-nil P = λ k d below. absurd (omega arith)

all_3 : {X : Type 0} (P : X → Type 0) (a b c : X) → P a → P b → P c → All P (a ∷ b ∷ c ∷ [])
all_3 P a b c pa pb pc = All-cons P a (b ∷ c ∷ []) pa (All-cons P b (c ∷ []) pb (All-cons P c [] pc (All-nil P)))

all_4 : {X : Type 0} (P : X → Type 0) (a b c d : X) → P a → P b → P c → P d → All P (a ∷ b ∷ c ∷ d ∷ [])
all_4 P a b c d pa pb pc pd = All-cons P a (b ∷ c ∷ d ∷ []) pa (all_3 P b c d pb pc pd)

ike_acceptable : (encr group : ℕ) (key_length : Option ℕ) (number : ℕ) →
    IsAcceptableProposal (Ike encr key_length group) (record { number = number; protocol = 1; spi = []; transforms = acceptable_transforms (Ike encr key_length group) })
ike_acceptable encr group key_length number =
    let w = Ike encr key_length group in
    let e : Transform = record { kind = 1; id = encr; attributes = key_length_attribute key_length } in
    let p = without_attributes 2 5 in
    let i = without_attributes 3 12 in
    let g = without_attributes 4 group in
    let ts = e ∷ p ∷ i ∷ g ∷ [] in
    record {
      protocol = refl;
      spi = refl;
      no_other = all_4 (λ (t : Transform). Contains (kinds w) t.kind) e p i g (0, omega arith, refl) (1, omega arith, refl) (2, omega arith, refl) (3, omega arith, refl);
      each = all_4 (λ (kind : ℕ). Any (IsAcceptableTransform w kind) ts) 1 2 3 4
          (0, e, omega arith, refl, (refl, (0, omega arith, refl)))
          (1, p, omega arith, refl, (refl, (1, omega arith, refl)))
          (2, i, omega arith, refl, (refl, (2, omega arith, refl)))
          (3, g, omega arith, refl, (refl, (3, omega arith, refl)));
    }

kind_of_numbers : (extended : Bool) → (sequence_numbers extended).kind ≡ 5
kind_of_numbers false = refl
kind_of_numbers true = refl

-- the sequence numbers of one length are acceptable where they are wanted
numbers_acceptable : (allowed extended : Bool) → (extended ≡ true → allowed ≡ true) → Contains (acceptable_transforms (Esp allowed)) (sequence_numbers extended)
numbers_acceptable allowed false wanted = (2, omega arith, refl)
numbers_acceptable true true wanted = (3, omega arith, refl)
numbers_acceptable false true wanted = let no = wanted refl in cc

esp_acceptable : (allowed extended : Bool) (spi : List ℕ) (number : ℕ) → HasSpi (Esp allowed) spi → (extended ≡ true → allowed ≡ true) →
    IsAcceptableProposal (Esp allowed) (record { number = number; protocol = 3; spi = spi; transforms = without_attributes 1 11 ∷ without_attributes 3 12 ∷ sequence_numbers extended ∷ [] })
esp_acceptable allowed extended spi number form wanted =
    let w = Esp allowed in
    let a = without_attributes 1 11 in
    let b = without_attributes 3 12 in
    let n = sequence_numbers extended in
    let ts = a ∷ b ∷ n ∷ [] in
    let five = kind_of_numbers extended in
    record {
      protocol = refl;
      spi = form;
      no_other = all_3 (λ (t : Transform). Contains (kinds w) t.kind) a b n (0, omega arith, refl) (1, omega arith, refl) (subst (λ (k : ℕ). Contains (kinds w) k) (sym five) (2, omega arith, refl));
      each = all_3 (λ (kind : ℕ). Any (IsAcceptableTransform w kind) ts) 1 3 5
          (0, a, omega arith, refl, (refl, (0, omega arith, refl)))
          (1, b, omega arith, refl, (refl, (1, omega arith, refl)))
          (2, n, omega arith, refl, (five, numbers_acceptable allowed extended wanted));
    }

both_acceptable : (allowed : Bool) (spi : List ℕ) → HasSpi (Esp allowed) spi → IsAcceptableProposal (Esp allowed) (offer_of (Esp true) spi)
both_acceptable allowed spi form =
    let w = Esp allowed in
    let a = without_attributes 1 11 in
    let b = without_attributes 3 12 in
    let m = sequence_numbers true in
    let n = sequence_numbers false in
    let ts = a ∷ b ∷ m ∷ n ∷ [] in
    record {
      protocol = refl;
      spi = form;
      no_other = all_4 (λ (t : Transform). Contains (kinds w) t.kind) a b m n (0, omega arith, refl) (1, omega arith, refl) (2, omega arith, refl) (2, omega arith, refl);
      each = all_3 (λ (kind : ℕ). Any (IsAcceptableTransform w kind) ts) 1 3 5
          (0, a, omega arith, refl, (refl, (0, omega arith, refl)))
          (1, b, omega arith, refl, (refl, (1, omega arith, refl)))
          (3, n, omega arith, refl, (refl, (2, omega arith, refl)));
    }

pub offer_acceptable : (wanted : Wanted) (spi : List ℕ) → HasSpi wanted spi → IsAcceptableProposal wanted (offer_of wanted spi)
offer_acceptable (Ike encr key_length group) spi form = subst (λ (x : List ℕ). IsAcceptableProposal (Ike encr key_length group) (offer_of (Ike encr key_length group) x)) (sym form) (ike_acceptable encr group key_length 1)
offer_acceptable (Esp false) spi form = esp_acceptable false false spi 1 form (λ e. cc)
offer_acceptable (Esp true) spi form = both_acceptable true spi form

-- for a Child SA, also where one end alone allows extended sequence numbers
pub child_offer_acceptable : (ours theirs : Bool) (spi : List ℕ) → HasSpi (Esp ours) spi → IsAcceptableProposal (Esp theirs) (offer_of (Esp ours) spi)
child_offer_acceptable false theirs spi form = esp_acceptable theirs false spi 1 form (λ e. cc)
child_offer_acceptable true theirs spi form = both_acceptable theirs spi form

-- extended sequence numbers are acceptable only where they are wanted
wanted_if : (allowed extended : Bool) → Contains (acceptable_transforms (Esp allowed)) (sequence_numbers extended) → extended ≡ true → allowed ≡ true
wanted_if true extended has is = refl
wanted_if false false has is = cc
wanted_if false true (zero, within, at) is = absurd (let k : 1 ≡ 5 = ap (λ (t : Transform). t.kind) at in omega arith)
wanted_if false true (suc zero, within, at) is = absurd (let k : 3 ≡ 5 = ap (λ (t : Transform). t.kind) at in omega arith)
wanted_if false true (suc (suc zero), within, at) is = absurd (let k : 0 ≡ 1 = ap (λ (t : Transform). t.id) at in omega arith)
wanted_if false true (suc (suc (suc k)), within, at) is = absurd (omega (arith, within))

esp_answer : (allowed extended : Bool) (spi : List ℕ) (number : ℕ) → HasSpi (Esp allowed) spi → (extended ≡ true → allowed ≡ true) → number ≡ 1 →
    IsAcceptableAnswer (Esp allowed) (record { number = number; protocol = 3; spi = spi; transforms = answered_transforms (Esp allowed) extended })
esp_answer allowed false spi number form wanted one = record { acceptable = esp_acceptable allowed false spi number form wanted; number = one; one_each = all_3 (λ (kind : ℕ). count_of_kind (answered_transforms (Esp allowed) false) kind ≡ 1) 1 3 5 refl refl refl }
esp_answer allowed true spi number form wanted one = record { acceptable = esp_acceptable allowed true spi number form wanted; number = one; one_each = all_3 (λ (kind : ℕ). count_of_kind (answered_transforms (Esp allowed) true) kind ≡ 1) 1 3 5 refl refl refl }

pub answer_is : (wanted : Wanted) (proposals : List Proposal) (chosen : Chosen) (spi : List ℕ) → HasSpi wanted spi → IsChosenProposal wanted proposals chosen → chosen.number ≡ 1 → IsAcceptableAnswer wanted (answer_of wanted chosen spi)
answer_is (Ike encr key_length group) proposals chosen spi form found one =
    subst (λ (x : List ℕ). IsAcceptableAnswer (Ike encr key_length group) (answer_of (Ike encr key_length group) chosen x)) (sym form)
    (record { acceptable = ike_acceptable encr group key_length chosen.number; number = one; one_each = all_4 (λ (kind : ℕ). count_of_kind (acceptable_transforms (Ike encr key_length group)) kind ≡ 1) 1 2 3 4 refl refl refl refl })
answer_is (Esp allowed) proposals chosen spi form found one = esp_answer allowed chosen.extended spi chosen.number form (wanted_if allowed chosen.extended found.numbers.acceptable.1) one

numbers_first : (allowed extended : Bool) → Contains (acceptable_transforms (Esp allowed)) (sequence_numbers extended) → ChoosesNumbers (Esp allowed) (answered_transforms (Esp allowed) extended) extended
numbers_first allowed extended has = record { place = 2; here = refl; acceptable = (kind_of_numbers extended, has); first = before } where
  before : (k : ℕ) (other : Transform) → k < 2 → slice_get (answered_transforms (Esp allowed) extended) k ≡ Some other → ¬ IsAcceptableTransform (Esp allowed) 5 other
  before zero other below at is = absurd (let same : without_attributes 1 11 ≡ other = cc in let k : 1 ≡ 5 = ap (λ (t : Transform). t.kind) same ∙ is.0 in omega arith)
  before (suc zero) other below at is = absurd (let same : without_attributes 3 12 ≡ other = cc in let k : 3 ≡ 5 = ap (λ (t : Transform). t.kind) same ∙ is.0 in omega arith)
  before (suc (suc k)) other below at is = absurd (omega (arith, below))

pub numbers_kept : (wanted : Wanted) (proposals : List Proposal) (chosen : Chosen) (spi : List ℕ) → IsChosenProposal wanted proposals chosen → ChoosesNumbers wanted (answer_of wanted chosen spi).transforms chosen.extended
numbers_kept (Ike encr key_length group) proposals chosen spi found = found.numbers
numbers_kept (Esp allowed) proposals chosen spi found = numbers_first allowed chosen.extended found.numbers.acceptable.1

abbrev cipher : ℕ → Option ℕ → Transform
cipher e k = record { kind = 1; id = e; attributes = key_length_attribute k }

cipher_of : (e g : ℕ) (k : Option ℕ) (t : Transform) → Contains (acceptable_transforms (Ike e k g)) t → t.kind ≡ 1 → cipher e k ≡ t
cipher_of e g k t (zero, below, at) is = at
cipher_of e g k t (suc zero, below, at) is = absurd (let x : 2 ≡ 1 = ap (λ (t : Transform). t.kind) at ∙ is in omega arith)
cipher_of e g k t (suc (suc zero), below, at) is = absurd (let x : 3 ≡ 1 = ap (λ (t : Transform). t.kind) at ∙ is in omega arith)
cipher_of e g k t (suc (suc (suc zero)), below, at) is = absurd (let x : 4 ≡ 1 = ap (λ (t : Transform). t.kind) at ∙ is in omega arith)
cipher_of e g k t (suc (suc (suc (suc j))), below, at) is = absurd (omega (arith, below))

group_of : (e g : ℕ) (k : Option ℕ) (t : Transform) → Contains (acceptable_transforms (Ike e k g)) t → t.kind ≡ 4 → without_attributes 4 g ≡ t
group_of e g k t (zero, below, at) is = absurd (let x : 1 ≡ 4 = ap (λ (t : Transform). t.kind) at ∙ is in omega arith)
group_of e g k t (suc zero, below, at) is = absurd (let x : 2 ≡ 4 = ap (λ (t : Transform). t.kind) at ∙ is in omega arith)
group_of e g k t (suc (suc zero), below, at) is = absurd (let x : 3 ≡ 4 = ap (λ (t : Transform). t.kind) at ∙ is in omega arith)
group_of e g k t (suc (suc (suc zero)), below, at) is = at
group_of e g k t (suc (suc (suc (suc j))), below, at) is = absurd (omega (arith, below))

same_cipher : (e g e' g' : ℕ) (k k' : Option ℕ) → Any (IsAcceptableTransform (Ike e' k' g') 1) (acceptable_transforms (Ike e k g))
    → cipher e k ≡ cipher e' k'
same_cipher e g e' g' k k' (j, t, below, at, (is, has)) = cipher_of e g k t (j, below, at) is ∙ sym (cipher_of e' g' k' t has is)

same_group : (e g e' g' : ℕ) (k k' : Option ℕ) → Any (IsAcceptableTransform (Ike e' k' g') 4) (acceptable_transforms (Ike e k g)) → without_attributes 4 g ≡ without_attributes 4 g'
same_group e g e' g' k k' (j, t, below, at, (is, has)) = group_of e g k t (j, below, at) is ∙ sym (group_of e' g' k' t has is)

-- extended sequence numbers are found among what is offered only where they are offered
offered_if : (allowed extended : Bool) (place : ℕ) → slice_get (offered_transforms (Esp allowed)) place ≡ Some (sequence_numbers extended) → extended ≡ true → allowed ≡ true
offered_if true extended place at is = refl
offered_if false false place at is = cc
offered_if false true zero at is = absurd (let e : without_attributes 1 11 ≡ sequence_numbers true = cc in let k : 1 ≡ 5 = ap (λ (t : Transform). t.kind) e in omega arith)
offered_if false true (suc zero) at is = absurd (let e : without_attributes 3 12 ≡ sequence_numbers true = cc in let k : 3 ≡ 5 = ap (λ (t : Transform). t.kind) e in omega arith)
offered_if false true (suc (suc zero)) at is = absurd (let e : sequence_numbers false ≡ sequence_numbers true = cc in let k : 0 ≡ 1 = ap (λ (t : Transform). t.id) e in omega arith)
offered_if false true (suc (suc (suc place))) at is = cc

one_found : (ours theirs : Wanted) (spi : List ℕ) (chosen : Chosen) (found : IsChosenProposal theirs (offer_of ours spi ∷ []) chosen) → found.proposal ≡ offer_of ours spi
one_found ours theirs spi chosen found = sym (one_item (offer_of ours spi) chosen.place found.proposal found.here)

found_acceptable : (ours theirs : Wanted) (spi : List ℕ) (chosen : Chosen) → IsChosenProposal theirs (offer_of ours spi ∷ []) chosen → IsAcceptableProposal theirs (offer_of ours spi)
found_acceptable ours theirs spi chosen found = subst (λ (p : Proposal). IsAcceptableProposal theirs p) (one_found ours theirs spi chosen found) found.acceptable

found_one : (ours theirs : Wanted) (spi : List ℕ) (chosen : Chosen) → IsChosenProposal theirs (offer_of ours spi ∷ []) chosen → chosen.number ≡ 1
found_one ours theirs spi chosen found = found.number ∙ ap (λ (p : Proposal). p.number) (one_found ours theirs spi chosen found)

found_numbers : (ours theirs : Wanted) (spi : List ℕ) (chosen : Chosen) → IsChosenProposal theirs (offer_of ours spi ∷ []) chosen → ChoosesNumbers theirs (offered_transforms ours) chosen.extended
found_numbers ours theirs spi chosen found = subst (λ (p : Proposal). ChoosesNumbers theirs p.transforms chosen.extended) (one_found ours theirs spi chosen found) found.numbers

list_4 : (a b c d e f : Transform) → a ≡ e → d ≡ f → a ∷ b ∷ c ∷ d ∷ [] ≡ e ∷ b ∷ c ∷ f ∷ []
list_4 a b c d e f is too = cc

ike_answer : (encr group : ℕ) (key_length : Option ℕ) (number : ℕ) (spi : List ℕ) → spi ≡ [] → number ≡ 1 → IsAcceptableAnswer (Ike encr key_length group) (record { number = number; protocol = 1; spi = spi; transforms = acceptable_transforms (Ike encr key_length group) })
ike_answer encr group key_length number spi form one =
    subst (λ (x : List ℕ). IsAcceptableAnswer (Ike encr key_length group) (record { number = number; protocol = 1; spi = x; transforms = acceptable_transforms (Ike encr key_length group) })) (sym form)
    (record { acceptable = ike_acceptable encr group key_length number; number = one; one_each = all_4 (λ (kind : ℕ). count_of_kind (acceptable_transforms (Ike encr key_length group)) kind ≡ 1) 1 2 3 4 refl refl refl refl })

same_ike : (e g e' g' : ℕ) (k k' : Option ℕ) (spi : List ℕ) → IsAcceptableProposal (Ike e' k' g') (offer_of (Ike e k g) spi) → acceptable_transforms (Ike e k g) ≡ acceptable_transforms (Ike e' k' g')
same_ike e g e' g' k k' spi is =
    list_4 _ (without_attributes 2 5) (without_attributes 3 12) _ _ _ (same_cipher e g e' g' k k' (is.each 0 1 (omega arith))) (same_group e g e' g' k k' (is.each 3 4 (omega arith)))

pub answer_agreed : (ours theirs : Wanted) (spi answer : List ℕ) (chosen : Chosen) → HasSpi ours answer → IsChosenProposal theirs (offer_of ours spi ∷ []) chosen → IsAcceptableAnswer ours (answer_of theirs chosen answer)
answer_agreed (Ike e k g) (Ike e' k' g') spi answer chosen form found =
    subst (λ (ts : List Transform). IsAcceptableAnswer (Ike e k g) (record { number = chosen.number; protocol = 1; spi = answer; transforms = ts }))
    (same_ike e g e' g' k k' spi (found_acceptable (Ike e k g) (Ike e' k' g') spi chosen found))
    (ike_answer e g k chosen.number answer form (found_one (Ike e k g) (Ike e' k' g') spi chosen found))
answer_agreed (Ike e k g) (Esp b) spi answer chosen form found = absurd (let x : 1 ≡ 3 = (found_acceptable (Ike e k g) (Esp b) spi chosen found).protocol in omega arith)
answer_agreed (Esp a) (Ike e' k' g') spi answer chosen form found = absurd (let x : 3 ≡ 1 = (found_acceptable (Esp a) (Ike e' k' g') spi chosen found).protocol in omega arith)
answer_agreed (Esp a) (Esp b) spi answer chosen form found =
    let numbers = found_numbers (Esp a) (Esp b) spi chosen found in
    esp_answer a chosen.extended answer chosen.number form (offered_if a chosen.extended numbers.place numbers.here) (found_one (Esp a) (Esp b) spi chosen found)

pub numbers_agreed : (ours theirs : Wanted) (spi answer : List ℕ) (chosen : Chosen) → IsChosenProposal theirs (offer_of ours spi ∷ []) chosen → ChoosesNumbers ours (answer_of theirs chosen answer).transforms chosen.extended
numbers_agreed (Ike e k g) (Ike e' k' g') spi answer chosen found = found.numbers
numbers_agreed (Ike e k g) (Esp b) spi answer chosen found = absurd (let x : 1 ≡ 3 = (found_acceptable (Ike e k g) (Esp b) spi chosen found).protocol in omega arith)
numbers_agreed (Esp a) (Ike e' k' g') spi answer chosen found = absurd (let x : 3 ≡ 1 = (found_acceptable (Esp a) (Ike e' k' g') spi chosen found).protocol in omega arith)
numbers_agreed (Esp a) (Esp b) spi answer chosen found =
    let numbers = found_numbers (Esp a) (Esp b) spi chosen found in
    numbers_first a chosen.extended (numbers_acceptable a chosen.extended (offered_if a chosen.extended numbers.place numbers.here))

first_place : (p : Proposal) (place : ℕ) (q : Proposal) → slice_get (p ∷ []) place ≡ Some q → place ≡ 0
first_place p zero q e = refl
first_place p (suc place) q e = cc

pub answer_accepted : (ours theirs : Wanted) (spi answer : List ℕ) (chosen : Chosen) → HasSpi ours answer → IsChosenProposal theirs (offer_of ours spi ∷ []) chosen → AcceptsAnswer ours (answer_of theirs chosen answer ∷ []) chosen
answer_accepted ours theirs spi answer chosen form found =
    let it = answer_of theirs chosen answer in
    let is = answer_agreed ours theirs spi answer chosen form found in
    let alone : chosen.place ≡ 0 = first_place (offer_of ours spi) chosen.place found.proposal found.here in
    record {
      proposal = it;
      alone = refl;
      answer = is;
      choice = record {
        proposal = it;
        here = subst (λ (k : ℕ). slice_get (it ∷ []) k ≡ Some it) (sym alone) refl;
        acceptable = is.acceptable;
        first = λ k other below at. absurd (omega (arith, below, alone));
        number = refl;
        numbers = numbers_agreed ours theirs spi answer chosen found;
      };
    }

prf_of : (e g : ℕ) (k : Option ℕ) (t : Transform) → Contains (acceptable_transforms (Ike e k g)) t → t.kind ≡ 2 → without_attributes 2 5 ≡ t
prf_of e g k t (zero, below, at) is = absurd (let x : 1 ≡ 2 = ap (λ (t : Transform). t.kind) at ∙ is in omega arith)
prf_of e g k t (suc zero, below, at) is = at
prf_of e g k t (suc (suc zero), below, at) is = absurd (let x : 3 ≡ 2 = ap (λ (t : Transform). t.kind) at ∙ is in omega arith)
prf_of e g k t (suc (suc (suc zero)), below, at) is = absurd (let x : 4 ≡ 2 = ap (λ (t : Transform). t.kind) at ∙ is in omega arith)
prf_of e g k t (suc (suc (suc (suc j))), below, at) is = absurd (omega (arith, below))

integ_of : (e g : ℕ) (k : Option ℕ) (t : Transform) → Contains (acceptable_transforms (Ike e k g)) t → t.kind ≡ 3 → without_attributes 3 12 ≡ t
integ_of e g k t (zero, below, at) is = absurd (let x : 1 ≡ 3 = ap (λ (t : Transform). t.kind) at ∙ is in omega arith)
integ_of e g k t (suc zero, below, at) is = absurd (let x : 2 ≡ 3 = ap (λ (t : Transform). t.kind) at ∙ is in omega arith)
integ_of e g k t (suc (suc zero), below, at) is = at
integ_of e g k t (suc (suc (suc zero)), below, at) is = absurd (let x : 4 ≡ 3 = ap (λ (t : Transform). t.kind) at ∙ is in omega arith)
integ_of e g k t (suc (suc (suc (suc j))), below, at) is = absurd (omega (arith, below))

esp_cipher_of : (a : Bool) (t : Transform) → Contains (acceptable_transforms (Esp a)) t → t.kind ≡ 1 → without_attributes 1 11 ≡ t
esp_cipher_of a t (zero, below, at) is = at
esp_cipher_of a t (suc zero, below, at) is = absurd (let x : 3 ≡ 1 = ap (λ (t : Transform). t.kind) at ∙ is in omega arith)
esp_cipher_of a t (suc (suc zero), below, at) is = absurd (let x : 5 ≡ 1 = ap (λ (t : Transform). t.kind) at ∙ is in omega arith)
esp_cipher_of true t (suc (suc (suc zero)), below, at) is = absurd (let x : 5 ≡ 1 = ap (λ (t : Transform). t.kind) at ∙ is in omega arith)
esp_cipher_of false t (suc (suc (suc zero)), below, at) is = absurd (omega (arith, below))
esp_cipher_of true t (suc (suc (suc (suc j))), below, at) is = absurd (omega (arith, below))
esp_cipher_of false t (suc (suc (suc (suc j))), below, at) is = absurd (omega (arith, below))

esp_integ_of : (a : Bool) (t : Transform) → Contains (acceptable_transforms (Esp a)) t → t.kind ≡ 3 → without_attributes 3 12 ≡ t
esp_integ_of a t (zero, below, at) is = absurd (let x : 1 ≡ 3 = ap (λ (t : Transform). t.kind) at ∙ is in omega arith)
esp_integ_of a t (suc zero, below, at) is = at
esp_integ_of a t (suc (suc zero), below, at) is = absurd (let x : 5 ≡ 3 = ap (λ (t : Transform). t.kind) at ∙ is in omega arith)
esp_integ_of true t (suc (suc (suc zero)), below, at) is = absurd (let x : 5 ≡ 3 = ap (λ (t : Transform). t.kind) at ∙ is in omega arith)
esp_integ_of false t (suc (suc (suc zero)), below, at) is = absurd (omega (arith, below))
esp_integ_of true t (suc (suc (suc (suc j))), below, at) is = absurd (omega (arith, below))
esp_integ_of false t (suc (suc (suc (suc j))), below, at) is = absurd (omega (arith, below))

deeper : (u : Transform) (us : List Transform) (t : Transform) → Contains us t → Contains (u ∷ us) t
deeper u us t (k, below, at) = (suc k, omega (arith, below), at)

found_at : (ts : List Transform) (place : ℕ) (t : Transform) → slice_get ts place ≡ Some t → Contains ts t
found_at [] zero t is = cc
found_at [] (suc place) t is = cc
found_at (u ∷ us) zero t is = (0, omega arith, cc)
found_at (u ∷ us) (suc place) t is = deeper u us t (found_at us place t is)

-- what is found of a type is among the transforms
there : (w : Wanted) (kind : ℕ) (x : Transform) (ts : List Transform) → ((t : Transform) → Contains (acceptable_transforms w) t → t.kind ≡ kind → x ≡ t) → Any (IsAcceptableTransform w kind) ts → Contains ts x
there w kind x ts alike (j, t, below, at, (is, has)) = subst (λ (y : Transform). Contains ts y) (sym (alike t has is)) (j, below, at)

pub answer_taken : (wanted : Wanted) (proposals : List Proposal) (chosen : Chosen) (spi : List ℕ) (found : IsChosenProposal wanted proposals chosen) → All (λ t. Contains found.proposal.transforms t) (answer_of wanted chosen spi).transforms
answer_taken (Ike e k g) proposals chosen spi found =
    let w = Ike e k g in
    let ts = found.proposal.transforms in
    all_4 (λ (t : Transform). Contains ts t) (cipher e k) (without_attributes 2 5) (without_attributes 3 12) (without_attributes 4 g)
    (there w 1 (cipher e k) ts (cipher_of e g k) (found.acceptable.each 0 1 (omega arith)))
    (there w 2 (without_attributes 2 5) ts (prf_of e g k) (found.acceptable.each 1 2 (omega arith)))
    (there w 3 (without_attributes 3 12) ts (integ_of e g k) (found.acceptable.each 2 3 (omega arith)))
    (there w 4 (without_attributes 4 g) ts (group_of e g k) (found.acceptable.each 3 4 (omega arith)))
answer_taken (Esp a) proposals chosen spi found =
    let w = Esp a in
    let ts = found.proposal.transforms in
    let numbers : IsFirstAcceptable w 5 ts (sequence_numbers chosen.extended) = found.numbers in
    all_3 (λ (t : Transform). Contains ts t) (without_attributes 1 11) (without_attributes 3 12) (sequence_numbers chosen.extended)
    (there w 1 (without_attributes 1 11) ts (esp_cipher_of a) (found.acceptable.each 0 1 (omega arith)))
    (there w 3 (without_attributes 3 12) ts (esp_integ_of a) (found.acceptable.each 1 3 (omega arith)))
    (found_at ts numbers.place (sequence_numbers chosen.extended) numbers.here)
