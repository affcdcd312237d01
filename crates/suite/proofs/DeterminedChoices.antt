-- One proposal is chosen of a list, if any, and one choice made of it.
use Rattle.std.proofs.Common.{◌≡◌, ◌<◌, ℕ, Bool, true, false, List, Some, slice_get, inl, inr, refl, sym, ap, subst, ◌∙◌, arith}
use Rattle.std.proofs.lemmas.Bool.{cases_order}
use Rattle.wire.specs.declared.proposal.Proposal.{Proposal}
use Rattle.wire.specs.declared.proposal.Transform.{Transform}
use Rattle.suite.specs.Choice.{sequence_numbers, ChoosesNumbers, IsChosenProposal, IsFirstAcceptable}
use Rattle.suite.specs.declared.choice.Chosen.{Chosen}
use Rattle.suite.specs.declared.choice.Wanted.{Wanted}
use Rattle.suite.specs.declared.choice.Wanted.TheVariants.{Ike, Esp}

-- two places of which neither is before the other
one_place : (a b : ℕ) → ¬ (a < b) → ¬ (b < a) → a ≡ b
one_place a b one two =
    elim (cases_order a b) [
      | inl same ↦ same
      | inr apart ↦ elim apart [
        | inl below ↦ absurd (one below)
        | inr above ↦ absurd (two above)
      ]
    ]

same_item : {X : Type 0} (xs : List X) (k l : ℕ) (x y : X) → slice_get xs k ≡ Some x → slice_get xs l ≡ Some y → k ≡ l → x ≡ y
same_item xs k l x y here there same = cc

one_first : (w : Wanted) (kind : ℕ) (ts : List Transform) (s t : Transform) → IsFirstAcceptable w kind ts s → IsFirstAcceptable w kind ts t → s ≡ t
one_first w kind ts s t x y =
    same_item ts x.place y.place s t x.here y.here
    (one_place x.place y.place (λ below. y.first x.place s below x.here x.acceptable) (λ below. x.first y.place t below y.here y.acceptable))

same_numbers : (a b : Bool) → sequence_numbers a ≡ sequence_numbers b → a ≡ b
same_numbers true true is = refl
same_numbers false false is = refl
same_numbers true false is = absurd (let k : 1 ≡ 0 = ap (λ (t : Transform). t.id) is in omega arith)
same_numbers false true is = absurd (let k : 0 ≡ 1 = ap (λ (t : Transform). t.id) is in omega arith)

one_extension : (w : Wanted) (ts : List Transform) (a b : Bool) → ChoosesNumbers w ts a → ChoosesNumbers w ts b → a ≡ b
one_extension (Ike encr key_length group) ts a b x y = x ∙ sym y
one_extension (Esp allowed) ts a b x y = same_numbers a b (one_first (Esp allowed) 5 ts (sequence_numbers a) (sequence_numbers b) x y)

pub one_choice : (w : Wanted) (ps : List Proposal) (a b : Chosen) → IsChosenProposal w ps a → IsChosenProposal w ps b → a ≡ b
one_choice w ps a b x y =
    let place : a.place ≡ b.place =
    one_place a.place b.place (λ below. y.first a.place x.proposal below x.here x.acceptable) (λ below. x.first b.place y.proposal below y.here y.acceptable) in
    let same : x.proposal ≡ y.proposal = same_item ps a.place b.place x.proposal y.proposal x.here y.here place in
    let number : a.number ≡ b.number = x.number ∙ ap (λ (p : Proposal). p.number) same ∙ sym y.number in
    let numbers = subst (λ (p : Proposal). ChoosesNumbers w p.transforms b.extended) (sym same) y.numbers in
    let extended : a.extended ≡ b.extended = one_extension w x.proposal.transforms a.extended b.extended x.numbers numbers in
    (λ i. record { place = place i; number = number i; extended = extended i })
