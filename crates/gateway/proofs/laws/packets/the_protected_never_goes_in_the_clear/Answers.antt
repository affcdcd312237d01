use Rattle.gateway.proofs.LawLemmas.{clear_inward, clear_outward, protected_goes_sealed}
use Rattle.gateway.proofs.laws.packets.the_protected_never_goes_in_the_clear.Goals as goal

pub returns-clause-outward : goal.returns-clause-outward
returns-clause-outward g c =
    λ meaning packet octets flow action old new decided s.
    c.only_the_bypassed_goes_in_the_clear.ensures.outward old.table new.table old.entries packet flow action octets decided
    (clear_outward meaning packet octets old new s)

pub returns-clause-inward : goal.returns-clause-inward
returns-clause-inward g c =
    λ meaning packet octets flow action old new decided s.
    c.only_the_bypassed_goes_in_the_clear.ensures.inward old.entries packet flow action octets decided
    (clear_inward meaning packet octets old new s)

pub returns-clause-protected : goal.returns-clause-protected
returns-clause-protected g c = λ meaning packet flow said old new decided s. protected_goes_sealed c.only_the_bypassed_goes_in_the_clear.ensures.protected meaning packet flow said old new decided s
