use Rattle.std.proofs.Common.{◌≡◌, ap, subst, sym, ◌∙◌, inl, inr}
use Rattle.association.specs.Closing.{GivesUpSpi}
use Rattle.association.specs.Phases.{keys_in, spi_in}
use Rattle.association.specs.declared.phase.Association.{Association}
use Rattle.association.specs.declared.phase.Phase.TheVariants.{Closed}
use Rattle.association.proofs.GivingUpLemmas.{both_given_up, released_told}
use Rattle.association.proofs.phase.Association.close.Goals as goal

pub give_up_spi-requires : goal.give_up_spi-requires
give_up_spi-requires c = λ spi its. c.requires.reserved spi (inl (sym (c.ended-keys.ensures.spi ∙ ap spi_in c.replace.ensures.value) ∙ its))

pub give_up_requests-requires-clause-reserved : goal.give_up_requests-requires-clause-reserved
give_up_requests-requires-clause-reserved c = λ spi awaits.
    let same : c.ended-keys.result.1 ≡ spi_in c.args.self.now.phase = c.ended-keys.ensures.spi ∙ ap spi_in c.replace.ensures.value in
    (released_told c.ended-keys.result.1 c.args.table.now c.give_up_spi.new.table c.give_up_spi.ensures spi).1
    (c.requires.reserved spi (inr awaits), λ its. c.requires.first spi (sym same ∙ its) awaits)

pub give_up_requests-requires-clause-one : goal.give_up_requests-requires-clause-one
give_up_requests-requires-clause-one c = c.requires.one

-- What stood in the phase's place is taken apart.
pub returns : goal.returns
returns c =
    let old : Association = c.args.self.now in
    let was : c.replace.result ≡ old.phase = c.replace.ensures.value in
    let keys : c.ended-keys.result.0 ≡ keys_in old.phase = c.ended-keys.ensures.keys ∙ ap keys_in was in
    let spi : c.ended-keys.result.1 ≡ spi_in old.phase = c.ended-keys.ensures.spi ∙ ap spi_in was in
    record {
      between = c.give_up_requests.new.table;
      released = both_given_up (spi_in old.phase) old.outgoing c.args.table.now c.give_up_spi.new.table c.give_up_requests.new.table
          (subst (λ s. GivesUpSpi s c.args.table.now c.give_up_spi.new.table) spi c.give_up_spi.ensures) c.give_up_requests.ensures.spis;
      removed = c.remove_all_of.ensures;
      requests = c.give_up_requests.ensures.requests;
      content = ap (λ k. record old { outgoing = c.give_up_requests.new.requests; phase = Closed k c.args.moment }) keys;
    }
