-- Where no Child SAs are stored but both ends of one, no other sends to either.
use Rattle.std.proofs.Common.{◌≡◌, ◌⊎◌, ◌∷◌, inl, inr, [], Contains, ap, subst, ◌∙◌}
use Rattle.gateway.specs.WorldChildren.{AreEndsOfOneChild, AreOfOneRequest}
use Rattle.gateway.specs.WorldPackets.{HasOneSender}
use Rattle.gateway.specs.Worlds.{other_end, Stored}
use Rattle.gateway.specs.declared.world.stored.Child.{Child}
use Rattle.gateway.specs.declared.world.stored.End.{End}
use Rattle.gateway.specs.declared.world.stored.End.TheVariants.{A, B}
use Rattle.gateway.proofs.PartyLemmas.{at_head_or_further, single}

not_its_other : (end : End) → end ≡ other_end end → ⊥
not_its_other A is = cc
not_its_other B is = cc

pub one_of_two : (first second child : Child) → Contains (first ∷ second ∷ []) child → (first ≡ child) ⊎ (second ≡ child)
one_of_two first second child there = elim (at_head_or_further first (second ∷ []) child there) [
  | inl here ↦ inl here
  | inr beyond ↦ inr (single second child beyond)
]

module _ (asked answered : Child) (of_one : AreOfOneRequest asked answered) (stored : Stored)
    (one_of : (child : Child) → Contains stored.children child → (answered ≡ child) ⊎ (asked ≡ child)) where
  pub one_sender : HasOneSender answered stored
  one_sender other there end_is spi_is key_is = elim (one_of other there) [
    | inl same ↦ absurd (not_its_other answered.end (ap (λ (c : Child). c.end) same ∙ end_is))
    | inr same ↦ subst (λ (c : Child). AreEndsOfOneChild answered c) same (inr of_one)
  ]

  pub one_sender_back : HasOneSender asked stored
  one_sender_back other there end_is spi_is key_is = elim (one_of other there) [
    | inl same ↦ subst (λ (c : Child). AreEndsOfOneChild asked c) same (inl of_one)
    | inr same ↦ absurd (not_its_other asked.end (ap (λ (c : Child). c.end) same ∙ end_is))
  ]
