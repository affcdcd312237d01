use Rattle.suite.proofs.ChoiceLemmas.{esp_numbers_are_in, ike_integrity, ike_integrity_is_in}
use Rattle.suite.proofs.choice.Wanted.allows.Goals as goal

pub returns-in-3 : goal.returns-in-3
returns-in-3 c =
    rw c.in-Ike.is (
      λ yes. ike_integrity_is_in _ _ _ _ c.in-3.is (c.is_plain-in-3.ensures.0 yes),
      λ has. c.is_plain-in-3.ensures.1 (ike_integrity _ _ _ _ c.in-3.is has),
    )

pub returns-then-is_plain : goal.returns-then-is_plain
returns-then-is_plain c =
    rw c.in-Esp.is (λ yes. esp_numbers_are_in _ _ c.in-5.is (c.is_plain-in-5.ensures.0 yes), λ _. c.if-is_plain.true)
