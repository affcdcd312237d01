use Rattle.std.proofs.Common.{◌≡◌, ◌-◌, ℕ, subst, inl, inr, arith}
use Rattle.std.proofs.lemmas.Bool.{cases_lt}
use Rattle.sadb.specs.Database.{Carries}
use Rattle.sadb.proofs.AssociationLemmas.{not_both}
use Rattle.sadb.proofs.pairs.Pairs.outbound.Goals as goal

pub returns-then-carries_by-clause-some : goal.returns-then-carries_by-clause-some
returns-then-carries_by-clause-some c = record {
  carries = c.carries_by.ensures.0 c.if-carries_by.true;
  greatest = λ other above. c.loop-serial.invariant other (omega (arith, above));
}

pub loop-serial-preserved : goal.loop-serial-preserved
loop-serial-preserved c = λ other from carries.
    elim (cases_lt (c.loop-serial.serial - 1) other) [
      | inl above ↦ c.loop-serial.invariant other (omega (arith, above)) carries
      | inr at ↦
          (let same : other ≡ c.loop-serial.serial - 1 = omega (arith, from) in
          not_both c.carries_by.result c.if-carries_by.false
          (c.carries_by.ensures.1 (subst (λ (n : ℕ). Carries c.args.self.now.pairs c.args.flow.now n) same carries)))
    ]
