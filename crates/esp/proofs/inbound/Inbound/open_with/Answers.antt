use Rattle.std.proofs.Common.{rules, ◌≡◌, ◌-◌, ◌+◌, sym, ◌∙◌, arith, take, drop, subst, ℕ}
use Rattle.esp.specs.Packet.{IsContents}
use Rattle.esp.proofs.OpeningLemmas.{on_err, on_ok, is_intact, judged, takes_number, unchanged}
use Rattle.esp.proofs.inbound.Inbound.open_with.Goals as goal

pub returns-then-is_err-clause-refused : goal.returns-then-is_err-clause-refused
returns-then-is_err-clause-refused g c =
    let right = is_intact c.self.inside.association _ c.args.self.now c.in_ok-number.number c.args.packet.now c.value_with-value.result c.self.view_is
    (c.is_check_value.ensures.0 c.if-not-is_check_value.false) c.value_with-value.ensures in
    let j = judged c.args.self.now c.args.packet.now c.in_ok-number.number c.requires.mine (λ i. search rules) c.in_ok-number.ensures.fresh right in
    let refused = on_err c.take.result _ (sym c.is_err.ensures.value ∙ c.if-is_err.true) c.take.ensures.refused in
    (refused.1, (c.in_ok-number.number, j), unchanged c.self.inside.association _ _ c.args.self.now c.self.view_is refused.0)

pub returns-in_default-clause-refused : goal.returns-in_default-clause-refused
returns-in_default-clause-refused g c =
    let right = is_intact c.self.inside.association _ c.args.self.now c.in_ok-number.number c.args.packet.now c.value_with-value.result c.self.view_is
    (c.is_check_value.ensures.0 c.if-not-is_check_value.false) c.value_with-value.ensures in
    let j = judged c.args.self.now c.args.packet.now c.in_ok-number.number c.requires.mine (λ i. search rules) c.in_ok-number.ensures.fresh right in
    let takes = on_ok c.take.result _ (sym c.is_err.ensures.value ∙ c.if-is_err.false) c.take.ensures.taken in (
      c.in_ok-number.number,
      record {
        judged = j;
        taken = takes_number c.self.inside.association _ _ c.args.self.now c.in_ok-number.number c.self.view_is takes;
        contents = c.in_default.ensures.none;
      },
    )

pub returns-clause-up : goal.returns-clause-up
returns-clause-up g c =
    let right = is_intact c.self.inside.association _ c.args.self.now c.in_ok-number.number c.args.packet.now c.value_with-value.result c.self.view_is
    (c.is_check_value.ensures.0 c.if-not-is_check_value.false) c.value_with-value.ensures in
    let j = judged c.args.self.now c.args.packet.now c.in_ok-number.number c.requires.mine (λ i. search rules) c.in_ok-number.ensures.fresh right in
    let takes = on_ok c.take.result _ (sym c.is_err.ensures.value ∙ c.if-is_err.false) c.take.ensures.taken in
    let same : c.in-Some.length ≡ 8 + c.in-Some.length - 8 = omega arith in
    record {
      judged = j;
      taken = takes_number c.self.inside.association _ _ c.args.self.now c.in_ok-number.number c.self.view_is takes;
      contents = subst (λ (k : ℕ). IsContents c.args.packet.now c.in-Some.next (take k (drop 8 c.args.packet.now))) same c.in-Some.ensures.found.1;
    }
