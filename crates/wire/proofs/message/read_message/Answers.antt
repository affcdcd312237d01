use Rattle.std.proofs.Common.{◌≡◌, List, ℕ, true, Some, Err, length, slice_index, sym, ap, subst, ◌∙◌, arith}
use Rattle.std.proofs.lemmas.Result.{err_from_is_err_and}
use Rattle.std.specs.Prelude.{IsOk}
use Rattle.wire.specs.Reading.{chain_at, head_at}
use Rattle.wire.specs.declared.message.Message.{Message}
use Rattle.wire.specs.declared.fault.WireFault.{WireFault}
use Rattle.wire.specs.declared.fault.WireFault.TheVariants.{Memory}
use Rattle.wire.proofs.Links.{err_is}
use Rattle.wire.proofs.MessageReading.{first_from, message_allowed}
use Rattle.wire.proofs.message.read_message.Goals as goal

pub returns-in_err-payloads-clause-allowed : goal.returns-in_err-payloads-clause-allowed
returns-in_err-payloads-clause-allowed c = λ memory.
    let p = err_from_is_err_and c.from_residual.result c.from_residual.ensures.1 in
    let is : p.0 ≡ Memory = err_is {A = Message} p.0 Memory (sym p.1 ∙ memory) in
    let rest : c.read_head.new.reader.end ≡ length c.args.octets.now = omega arith in
    message_allowed c.args.octets.now c.in-Ok.head c.read_head.new.reader.rest.now (omega arith) (omega arith)
    (subst (λ (xs : List ℕ). head_at xs ≡ Some (c.in-Ok.head, c.read_head.new.reader.rest.now)) c.new-reader.ensures.rest c.in-Ok.ensures.read) c.if-head-octets.false c.if-head-ne-MAJOR_VERSION.false
    (subst (λ (e : ℕ). IsOk (chain_at true e (length c.read_head.new.reader.rest.now) c.in-Ok.head.first c.read_head.new.reader.rest.now)) rest (c.in_err-payloads.ensures.allowed (ap (λ (f : WireFault). Err f) (sym p.2 ∙ is))))

pub returns-in_err-payloads-clause-idle : goal.returns-in_err-payloads-clause-idle
returns-in_err-payloads-clause-idle c = λ none memory.
    let first : slice_index c.args.octets.now 16 ≡ c.in-Ok.head.first =
    first_from c.args.octets.now c.in-Ok.head c.read_head.new.reader.rest.now (omega arith) (subst (λ (xs : List ℕ). head_at xs ≡ Some (c.in-Ok.head, c.read_head.new.reader.rest.now)) c.new-reader.ensures.rest c.in-Ok.ensures.read) in
    let p = err_from_is_err_and c.from_residual.result c.from_residual.ensures.1 in
    let is : p.0 ≡ Memory = err_is {A = Message} p.0 Memory (sym p.1 ∙ memory) in
    c.in_err-payloads.ensures.reached (ap (λ (f : WireFault). Err f) (sym p.2 ∙ is)) (sym first ∙ none)
