use Rattle.std.proofs.Common.{◌≡◌, false, true, ℕ, subst, sym}
use Rattle.std.specs.FinSet as set
use Rattle.std.specs.Ordering.{nat_cmp}
use Rattle.sadb.specs.Database.{Database, IsReserved}
use Rattle.ike.specs.Machines.{Machine}
use Rattle.ike.specs.Moments.{IsTimely}
use Rattle.ike.specs.Soundness.{AreReservationsHeld}
use Rattle.gateway.proofs.StayingLemmas.{begins_so}
use Rattle.gateway.proofs.machine.Gateway.new.Goals as goal

none_reserved : (spi : ℕ) → set.contains {R = nat_cmp} set.empty spi ≡ true → ⊥
none_reserved spi is = let none : set.contains {R = nat_cmp} set.empty spi ≡ false = set.contains-empty nat_cmp spi in cc

pub invariant_of-result : goal.invariant_of-result
invariant_of-result g c =
    let none : (spi : ℕ) → IsReserved c.new-2.result spi → set.contains {R = nat_cmp} set.empty spi ≡ true = λ spi there. subst (λ (d : Database). IsReserved d spi) c.new-2.ensures there in (
      c.new.ensures.sound c.new-2.result,
      subst (λ (m : Machine). IsTimely m) (sym c.new.ensures.content) (c.what_is_due_comes_in_time.ensures.first c.args.config),
      subst (λ (m : Machine). AreReservationsHeld m.held c.new-2.result) (sym c.new.ensures.content)
          (c.no_spi_is_lost.ensures.begun c.args.config c.new-2.result (λ spi there. none_reserved spi (none spi there))),
      c.answers_stay_right.ensures.none c.args.policy c.new-2.result.pairs c.new-3.result c.new-3.ensures,
      begins_so c.args.config (record { machine = c.new.result; table = c.new-2.result; entries = c.args.policy; caller = c.args.caller }) c.args.start c.new.ensures.content c.new-2.ensures,
    )
