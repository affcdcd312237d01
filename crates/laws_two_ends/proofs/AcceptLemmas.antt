-- The worked offer is accepted, and so is the answer to it.
use Rattle.std.proofs.Common.{◌≡◌, ℕ, ◌∷◌, [], All, Any, Contains, arith, refl}
use Rattle.std.specs.Prelude.{false}
use Rattle.std.proofs.lemmas.List.Elements.{All-cons}
use Rattle.wire.specs.declared.proposal.Transform.{Transform}
use Rattle.suite.specs.Choice.{kinds, without_attributes, IsAcceptableProposal, IsAcceptableTransform, IsChosenProposal}
use Rattle.suite.specs.Offers.{count_of_kind, AcceptsAnswer}
use Rattle.suite.specs.declared.choice.Chosen.{Chosen}
use Rattle.suite.specs.declared.choice.Wanted.{Wanted}
use Rattle.sa_init.specs.Messages.{ike_wanted}
use Rattle.laws_two_ends.specs.WorkedRecords.{worked_asker}
use Rattle.laws_two_ends.proofs.InitLemmas.{init_proposal}

all_4 : {X : Type 0} (P : X → Type 0) (a b c d : X) → P a → P b → P c → P d → All P (a ∷ b ∷ c ∷ d ∷ [])
all_4 P a b c d pa pb pc pd =
    All-cons P a (b ∷ c ∷ d ∷ []) pa (All-cons P b (c ∷ d ∷ []) pb (All-cons P c (d ∷ []) pc (All-cons P d [] pd (λ k d below. absurd (omega arith)))))

abbrev wanted : Wanted
wanted = ike_wanted worked_asker.cipher worked_asker.group

abbrev encryption : Transform
encryption = without_attributes 1 11

abbrev pseudorandom : Transform
pseudorandom = without_attributes 2 5

abbrev integrity : Transform
integrity = without_attributes 3 12

abbrev group : Transform
group = without_attributes 4 1

acceptable : IsAcceptableProposal wanted init_proposal
acceptable = record {
  protocol = refl;
  spi = refl;
  no_other = all_4 (λ (t : Transform). Contains (kinds wanted) t.kind) encryption pseudorandom integrity group (0, omega arith, refl) (1, omega arith, refl) (2, omega arith, refl) (3, omega arith, refl);
  each = all_4 (λ (kind : ℕ). Any (IsAcceptableTransform wanted kind) init_proposal.transforms) 1 2 3 4
      (0, encryption, omega arith, refl, (refl, (0, omega arith, refl)))
      (1, pseudorandom, omega arith, refl, (refl, (1, omega arith, refl)))
      (2, integrity, omega arith, refl, (refl, (2, omega arith, refl)))
      (3, group, omega arith, refl, (refl, (3, omega arith, refl)));
}

abbrev pub worked_chosen : Chosen
worked_chosen = record { place = 0; number = 1; extended = false }

pub chosen_is : IsChosenProposal wanted (init_proposal ∷ []) worked_chosen
chosen_is = record {
  proposal = init_proposal;
  here = refl;
  acceptable = acceptable;
  first = λ k other below. absurd (omega (arith, below));
  number = refl;
  numbers = refl;
}

pub answer_accepted : AcceptsAnswer wanted (init_proposal ∷ []) worked_chosen
answer_accepted = record {
  proposal = init_proposal;
  alone = refl;
  answer = record {
    acceptable = acceptable;
    number = refl;
    one_each = all_4 (λ (kind : ℕ). count_of_kind init_proposal.transforms kind ≡ 1) 1 2 3 4 refl refl refl refl;
  };
  choice = chosen_is;
}
