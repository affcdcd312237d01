use Rattle.std.proofs.Common.{◌≡◌, ◌≢◌, ℕ, ◌-◌, length, Ok, Err, subst, sym, ap, ◌∙◌}
use Rattle.std.proofs.lemmas.Result.{err_from_is_err_and}
use Rattle.wire.specs.declared.fault.WireFault.TheVariants.{BadChain, Memory}
use Rattle.wire.specs.Reading.{payload_at, chain_at, link_of, Linked}
use Rattle.wire.proofs.Links.{ChainSoFar, chain_goes_on, chain_exits, chain_ends, chain_trails, payload_shrinks}
use Rattle.wire.proofs.chain.read_chain.Goals as goal

pub returns-in_err-payload-clause-read : goal.returns-in_err-payload-clause-read
returns-in_err-payload-clause-read c =
    let p = err_from_is_err_and c.from_residual-in_err-payload.result c.from_residual-in_err-payload.ensures.1 in
    let at_end = subst (λ (e : ℕ). c.in_err-payload.field-0.0 ≢ Memory → payload_at c.args.encrypted e c.loop-next.next c.loop-next.reader.rest.now ≡ Err c.in_err-payload.field-0.0) c.loop-next.invariant.0 c.in_err-payload.ensures.read in
    rw (p.1, p.2) (chain_exits c.in_err-payload.field-0.0 (λ (x : Linked). x) (λ x. x) c.args.encrypted c.args.reader.end c.loop-next.payloads c.loop-next.next c.loop-next.reader.rest.now (chain_at c.args.encrypted c.args.reader.end (length c.args.reader.rest.now) c.args.first c.args.reader.rest.now) c.loop-next-test.true at_end c.loop-next.invariant.3)

pub loop-next-smaller : goal.loop-next-smaller
loop-next-smaller c = payload_shrinks c.args.encrypted c.loop-next.reader.end c.loop-next.next c.loop-next.reader.rest.now (link_of c.in_ok-payload.payload c.in_ok-payload.behind c.read_payload.new.reader.rest.now) c.in_ok-payload.ensures.read

pub loop-next-preserved : goal.loop-next-preserved
loop-next-preserved c =
    let at_end = subst (λ (e : ℕ). payload_at c.args.encrypted e c.loop-next.next c.loop-next.reader.rest.now ≡ Ok (link_of c.in_ok-payload.payload c.in_ok-payload.behind c.read_payload.new.reader.rest.now)) c.loop-next.invariant.0 c.in_ok-payload.ensures.read in (
      c.read_payload.ensures.end ∙ c.loop-next.invariant.0,
      c.loop-next.invariant.1,
      λ none. absurd (c.loop-next-test.true (c.loop-next.invariant.2 none)),
      rw c.in_ok-push.ensures.ok (chain_goes_on c.args.encrypted c.args.reader.end c.loop-next.payloads c.loop-next.next c.loop-next.reader.rest.now (chain_at c.args.encrypted c.args.reader.end (length c.args.reader.rest.now) c.args.first c.args.reader.rest.now) c.in_ok-payload.payload c.in_ok-payload.behind c.read_payload.new.reader.rest.now c.loop-next-test.true at_end c.loop-next.invariant.3),
    )

pub returns-then-is_empty-clause-read : goal.returns-then-is_empty-clause-read
returns-then-is_empty-clause-read c =
    chain_ends c.args.encrypted c.args.reader.end c.loop-next.payloads c.loop-next.reader.rest.now (chain_at c.args.encrypted c.args.reader.end (length c.args.reader.rest.now) c.args.first c.args.reader.rest.now) (sym c.is_empty.ensures ∙ c.if-is_empty.true) (subst (λ (n : ℕ). ChainSoFar c.args.encrypted c.args.reader.end c.loop-next.payloads n c.loop-next.reader.rest.now (chain_at c.args.encrypted c.args.reader.end (length c.args.reader.rest.now) c.args.first c.args.reader.rest.now)) c.loop-next-test.false c.loop-next.invariant.3)

pub returns-else-is_empty-clause-read : goal.returns-else-is_empty-clause-read
returns-else-is_empty-clause-read c =
    λ _. chain_trails c.args.encrypted c.args.reader.end c.loop-next.payloads c.loop-next.reader.rest.now (chain_at c.args.encrypted c.args.reader.end (length c.args.reader.rest.now) c.args.first c.args.reader.rest.now) (sym c.is_empty.ensures ∙ c.if-is_empty.false) (subst (λ (n : ℕ). ChainSoFar c.args.encrypted c.args.reader.end c.loop-next.payloads n c.loop-next.reader.rest.now (chain_at c.args.encrypted c.args.reader.end (length c.args.reader.rest.now) c.args.first c.args.reader.rest.now)) c.loop-next-test.false c.loop-next.invariant.3)
    ∙ ap (λ (at : ℕ). Err (BadChain at)) (sym (c.offset.ensures ∙ ap (λ (e : ℕ). e - length c.loop-next.reader.rest.now) c.loop-next.invariant.0))
