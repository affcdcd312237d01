use Rattle.std.proofs.Common.{◌≡◌, ℕ, ◌-◌, ◌++◌, ◌∷◌, [], List, length, Result, Ok, Err, refl, subst, sym, ap, ◌∙◌}
use Rattle.std.specs.Prelude.{IsOk}
use Rattle.std.proofs.lemmas.Result.{err_from_is_err_and}
use Rattle.wire.specs.declared.fault.WireFault.{WireFault}
use Rattle.wire.specs.declared.fault.WireFault.TheVariants.{BadChain}
use Rattle.wire.specs.declared.payload.Payload.{Payload}
use Rattle.wire.specs.Reading.{payload_at, chain_at, link_of, Linked}
use Rattle.wire.proofs.Links.{ChainSoFar, chain_goes_on, chain_exits, chain_ends, chain_trails, payload_shrinks}
use Rattle.wire.proofs.checking.check_chain.Goals as goal

pub returns-in_err-next : goal.returns-in_err-next
returns-in_err-next c =
    let p = err_from_is_err_and c.from_residual.result c.from_residual.ensures.1 in
    let at_end = subst (λ (e : ℕ). payload_at c.args.encrypted e c.loop-next.next c.loop-next.reader.rest.now ≡ Err c.in_err-next.field-0.0) c.loop-next.invariant.0 c.in_err-next.ensures.passed.0 in
    rw (p.1, p.2) (
      chain_exits c.in_err-next.field-0.0 (λ (x : Linked). x) (λ x. x) c.args.encrypted c.args.reader.end c.loop-next.invariant.1 c.loop-next.next c.loop-next.reader.rest.now (chain_at c.args.encrypted c.args.reader.end (length c.args.reader.rest.now) c.args.first c.args.reader.rest.now) c.loop-next-test.true (λ _. at_end) c.loop-next.invariant.2 c.in_err-next.ensures.passed.1,
      c.in_err-next.ensures.passed.1,
    )

pub loop-next-smaller : goal.loop-next-smaller
loop-next-smaller c = payload_shrinks c.args.encrypted c.loop-next.reader.end c.loop-next.next c.loop-next.reader.rest.now (link_of c.in_ok-next.ensures.passed.0 c.in_ok-next.next c.pass_payload.new.reader.rest.now) c.in_ok-next.ensures.passed.1

pub loop-next-preserved : goal.loop-next-preserved
loop-next-preserved c =
    let passed = c.in_ok-next.ensures.passed in
    let at_end = subst (λ (e : ℕ). payload_at c.args.encrypted e c.loop-next.next c.loop-next.reader.rest.now ≡ Ok (link_of passed.0 c.in_ok-next.next c.pass_payload.new.reader.rest.now)) c.loop-next.invariant.0 passed.1 in (
      c.pass_payload.ensures.end ∙ c.loop-next.invariant.0,
      c.loop-next.invariant.1 ++ passed.0 ∷ [],
      chain_goes_on c.args.encrypted c.args.reader.end c.loop-next.invariant.1 c.loop-next.next c.loop-next.reader.rest.now (chain_at c.args.encrypted c.args.reader.end (length c.args.reader.rest.now) c.args.first c.args.reader.rest.now) passed.0 c.in_ok-next.next c.pass_payload.new.reader.rest.now c.loop-next-test.true at_end c.loop-next.invariant.2,
    )

pub returns-then-is_empty : goal.returns-then-is_empty
returns-then-is_empty c =
    let at = subst (λ (n : ℕ). ChainSoFar c.args.encrypted c.args.reader.end c.loop-next.invariant.1 n c.loop-next.reader.rest.now (chain_at c.args.encrypted c.args.reader.end (length c.args.reader.rest.now) c.args.first c.args.reader.rest.now)) c.loop-next-test.false c.loop-next.invariant.2 in
    subst (λ (r : Result (List Payload) WireFault). IsOk r) (sym (chain_ends c.args.encrypted c.args.reader.end c.loop-next.invariant.1 c.loop-next.reader.rest.now (chain_at c.args.encrypted c.args.reader.end (length c.args.reader.rest.now) c.args.first c.args.reader.rest.now) (sym c.is_empty.ensures ∙ c.if-is_empty.true) at)) refl

pub returns-else-is_empty : goal.returns-else-is_empty
returns-else-is_empty c =
    let at = subst (λ (n : ℕ). ChainSoFar c.args.encrypted c.args.reader.end c.loop-next.invariant.1 n c.loop-next.reader.rest.now (chain_at c.args.encrypted c.args.reader.end (length c.args.reader.rest.now) c.args.first c.args.reader.rest.now)) c.loop-next-test.false c.loop-next.invariant.2 in (
      chain_trails c.args.encrypted c.args.reader.end c.loop-next.invariant.1 c.loop-next.reader.rest.now (chain_at c.args.encrypted c.args.reader.end (length c.args.reader.rest.now) c.args.first c.args.reader.rest.now) (sym c.is_empty.ensures ∙ c.if-is_empty.false) at
          ∙ ap (λ (place : ℕ). Err (BadChain place)) (sym (c.offset.ensures ∙ ap (λ (e : ℕ). e - length c.loop-next.reader.rest.now) c.loop-next.invariant.0)),
      λ e. cc,
    )
