use Rattle.std.proofs.Common.{◌≡◌, ◌≢◌, ℕ, List, Some, Ok, Err, ap, sym, subst, ◌∙◌, arith}
use Rattle.std.proofs.lemmas.Result.{err_from_is_err_and}
use Rattle.wire.specs.declared.payload.Payload.{Payload}
use Rattle.wire.specs.declared.fault.WireFault.TheVariants.{Memory}
use Rattle.wire.specs.Writing.{Fails, header_onto, first_type, payloads_onto}
use Rattle.wire.proofs.Encoding.{encoded_late, head_exits, payloads_exit, encoded_long, encoded_ok, whole_room}
use Rattle.wire.proofs.message.octets_of.Goals as goal

pub returns-then-message-ge16-clause-read : goal.returns-then-message-ge16-clause-read
returns-then-message-ge16-clause-read c = λ _. encoded_late c.args.message.now c.if-message-ge16.true

pub returns-in-Err-clause-read : goal.returns-in-Err-clause-read
returns-in-Err-clause-read c =
    let m = c.args.message.now in
    let first_is : c.first_type.result ≡ first_type m.payloads = c.first_type.ensures ∙ ap first_type c.as_slice-payloads.ensures in
    let made = subst (λ (xs : List ℕ). Fails c.in-Err.unwritten (header_onto m.header (first_type m.payloads) xs)) c.new-octets.ensures.items (subst (λ (n : ℕ). Fails c.in-Err.unwritten (header_onto m.header n c.new-octets.result.items)) first_is c.in-Err.ensures.write) in
    head_exits m c.in-Err.unwritten c.or.result c.if-message-ge16.false c.or.ensures.spelled c.or.ensures.memory made

pub returns-in_err-write_payloads-clause-read : goal.returns-in_err-write_payloads-clause-read
returns-in_err-write_payloads-clause-read c =
    let p = err_from_is_err_and c.from_residual.result c.from_residual.ensures.1 in
    let m = c.args.message.now in
    let first_is : c.first_type.result ≡ first_type m.payloads = c.first_type.ensures ∙ ap first_type c.as_slice-payloads.ensures in
    let made = subst (λ (xs : List ℕ). header_onto m.header (first_type m.payloads) xs ≡ Some c.write_header.new.out.items) c.new-octets.ensures.items (subst (λ (n : ℕ). header_onto m.header n c.new-octets.result.items ≡ Some c.write_header.new.out.items) first_is c.in-Ok.ensures.write) in
    let f = c.in_err-write_payloads.field-0.0 in
    let refused = subst (λ (ps : List Payload). f ≢ Memory → payloads_onto ps c.write_header.new.out.items ≡ Err f) c.as_slice-payloads.ensures c.in_err-write_payloads.ensures in
    rw (p.1, p.2) (payloads_exit m c.write_header.new.out.items f c.if-message-ge16.false made refused)

pub returns-then-len-gt-MESSAGE_LIMIT-clause-read : goal.returns-then-len-gt-MESSAGE_LIMIT-clause-read
returns-then-len-gt-MESSAGE_LIMIT-clause-read c = λ _.
    let m = c.args.message.now in
    let first_is : c.first_type.result ≡ first_type m.payloads = c.first_type.ensures ∙ ap first_type c.as_slice-payloads.ensures in
    let made = subst (λ (xs : List ℕ). header_onto m.header (first_type m.payloads) xs ≡ Some c.write_header.new.out.items) c.new-octets.ensures.items (subst (λ (n : ℕ). header_onto m.header n c.new-octets.result.items ≡ Some c.write_header.new.out.items) first_is c.in-Ok.ensures.write) in
    let whole = subst (λ (ps : List Payload). payloads_onto ps c.write_header.new.out.items ≡ Ok c.write_payloads.new.out.items) c.as_slice-payloads.ensures c.in_ok-write_payloads.ensures in
    encoded_long m c.write_header.new.out.items c.write_payloads.new.out.items c.if-message-ge16.false made whole (omega (arith, c.write_payloads.new.out.ok.0))

pub set_length-requires-clause-header : goal.set_length-requires-clause-header
set_length-requires-clause-header c =
    let m = c.args.message.now in
    let first_is : c.first_type.result ≡ first_type m.payloads = c.first_type.ensures ∙ ap first_type c.as_slice-payloads.ensures in
    let made = subst (λ (xs : List ℕ). header_onto m.header (first_type m.payloads) xs ≡ Some c.write_header.new.out.items) c.new-octets.ensures.items (subst (λ (n : ℕ). header_onto m.header n c.new-octets.result.items ≡ Some c.write_header.new.out.items) first_is c.in-Ok.ensures.write) in
    let whole = subst (λ (ps : List Payload). payloads_onto ps c.write_header.new.out.items ≡ Ok c.write_payloads.new.out.items) c.as_slice-payloads.ensures c.in_ok-write_payloads.ensures in
    whole_room m c.write_header.new.out.items c.write_payloads.new.out.items c.if-message-ge16.false made whole

pub returns-clause-read : goal.returns-clause-read
returns-clause-read c =
    let m = c.args.message.now in
    let first_is : c.first_type.result ≡ first_type m.payloads = c.first_type.ensures ∙ ap first_type c.as_slice-payloads.ensures in
    let made = subst (λ (xs : List ℕ). header_onto m.header (first_type m.payloads) xs ≡ Some c.write_header.new.out.items) c.new-octets.ensures.items (subst (λ (n : ℕ). header_onto m.header n c.new-octets.result.items ≡ Some c.write_header.new.out.items) first_is c.in-Ok.ensures.write) in
    let whole = subst (λ (ps : List Payload). payloads_onto ps c.write_header.new.out.items ≡ Ok c.write_payloads.new.out.items) c.as_slice-payloads.ensures c.in_ok-write_payloads.ensures in
    encoded_ok m c.write_header.new.out.items c.write_payloads.new.out.items c.if-message-ge16.false made whole (omega (arith, c.write_payloads.new.out.ok.0)) ∙ ap (λ (xs : List ℕ). Ok xs) (sym c.set_length.ensures)
