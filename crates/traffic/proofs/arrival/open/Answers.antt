use Rattle.std.proofs.Common.{◌∙◌, ap, sym, subst, inr, inl, Ok}
use Rattle.std.specs.Option.{option_copied}
use Rattle.traffic.specs.Receiving.{IsRejected, IsUnopened, IsVerdictAt}
use Rattle.traffic.specs.Verdicts.{verdict_of}
use Rattle.traffic.proofs.ReceivingLemmas.{is_there, pair_stays, not_opened, opened_so, passed_on}
use Rattle.traffic.proofs.arrival.open.Goals as goal

pub returns-in_err-opened : goal.returns-in_err-opened
returns-in_err-opened c =
    passed_on c.args.table.now c.args.packet.now c.open_ahead.new.self _ c.from_residual-in_err-opened.result
    c.from_residual-in_err-opened.ensures.0 c.from_residual-in_err-opened.ensures.1
    (λ fault is. inr (inl (subst (λ f. IsUnopened c.args.table.now c.args.packet.now f c.open_ahead.new.self) (sym is)
    (not_opened c.args.table.now c.in_ok-child.field-0.now c.args.packet.now c.in_err-opened.field-0.0 c.open_ahead.new.self
    c.in_ok-child.ensures.found c.in_err-opened.ensures.refused c.in_err-opened.ensures.unchanged))))

pub unwrap-pair-requires : goal.unwrap-pair-requires
unwrap-pair-requires c =
    let stays = pair_stays c.args.table.now c.in_ok-child.field-0.now c.args.packet.now _ _ _ c.open_ahead.new.self c.in_ok-child.ensures.found c.in_ok-opened.ensures.up in
    is_there c.get.result stays.pair (c.get.ensures ∙ stays.there)

pub returns-in_err-packet : goal.returns-in_err-packet
returns-in_err-packet c =
    passed_on c.args.table.now c.args.packet.now c.open_ahead.new.self _ c.from_residual-in_err-packet.result
    c.from_residual-in_err-packet.ensures.0 c.from_residual-in_err-packet.ensures.1
    (λ fault is. inr (inr (subst (λ f. IsRejected c.args.table.now c.args.packet.now f c.open_ahead.new.self) (sym is) (record {
      child = c.in_ok-child.field-0.now.serial;
      number = c.in_ok-opened.opened.number;
      opened = opened_so c.args.table.now c.in_ok-child.field-0.now c.args.packet.now _ c.in_ok-opened.opened.next c.in_ok-opened.opened.payload.now c.open_ahead.new.self _
          c.in_ok-child.ensures.found c.in_ok-opened.ensures.up
          (subst (λ r. IsVerdictAt c.open_ahead.new.self c.in_ok-child.field-0.now.serial c.in_ok-opened.opened.next c.in_ok-opened.opened.payload.now (verdict_of r))
          c.in_err-packet.was (record { pair = c.unwrap-pair.result.now; there = sym c.get.ensures ∙ ap option_copied c.unwrap-pair.ensures; verdict_is = c.judge.ensures }));
    }))))

pub returns-in-Some : goal.returns-in-Some
returns-in-Some c =
    opened_so c.args.table.now c.in_ok-child.field-0.now c.args.packet.now _ c.in_ok-opened.opened.next c.in_ok-opened.opened.payload.now c.open_ahead.new.self _
    c.in_ok-child.ensures.found c.in_ok-opened.ensures.up
    (subst (λ r. IsVerdictAt c.open_ahead.new.self c.in_ok-child.field-0.now.serial c.in_ok-opened.opened.next c.in_ok-opened.opened.payload.now (verdict_of r))
    (c.in_ok-packet.was ∙ ap Ok c.in-Some.is) (record { pair = c.unwrap-pair.result.now; there = sym c.get.ensures ∙ ap option_copied c.unwrap-pair.ensures; verdict_is = c.judge.ensures }))

pub returns-in-None : goal.returns-in-None
returns-in-None c =
    opened_so c.args.table.now c.in_ok-child.field-0.now c.args.packet.now _ c.in_ok-opened.opened.next c.in_ok-opened.opened.payload.now c.open_ahead.new.self _
    c.in_ok-child.ensures.found c.in_ok-opened.ensures.up
    (subst (λ r. IsVerdictAt c.open_ahead.new.self c.in_ok-child.field-0.now.serial c.in_ok-opened.opened.next c.in_ok-opened.opened.payload.now (verdict_of r))
    (c.in_ok-packet.was ∙ ap Ok c.in-None.is) (record { pair = c.unwrap-pair.result.now; there = sym c.get.ensures ∙ ap option_copied c.unwrap-pair.ensures; verdict_is = c.judge.ensures }))
