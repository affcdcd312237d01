use Rattle.std.proofs.Common.{◌≡◌, ℕ, List, ◌++◌, ap, subst, ◌∙◌, arith}
use Rattle.base.specs.Octets.{AreOctets}
use Rattle.base.proofs.OctetLemmas.{octets_within, octets_back}
use Rattle.std.proofs.lemmas.Result.{err_from_is_err_and}
use Rattle.wire.proofs.Encoding.{encoded_fault, encoded_unspelled, refused_unless, encoded_no_fault, encoded_plain, plain_is_spelled}
use Rattle.wire.proofs.message.encode_message.Goals as goal

pub returns-in_err-octets-clause-refused : goal.returns-in_err-octets-clause-refused
returns-in_err-octets-clause-refused c =
    let p = err_from_is_err_and c.from_residual.result c.from_residual.ensures.1 in
    rw (p.1, p.2) (λ other. encoded_fault c.args.message.now c.in_err-octets.field-0.0 c.octets_of.ensures.fits (c.in_err-octets.ensures.read other))

pub returns-in_err-octets-clause-unspelled : goal.returns-in_err-octets-clause-unspelled
returns-in_err-octets-clause-unspelled c =
    let p = err_from_is_err_and c.from_residual.result c.from_residual.ensures.1 in
    rw (p.1, p.2) (λ other. encoded_unspelled c.args.message.now c.in_err-octets.field-0.0 c.octets_of.ensures.fits (c.in_err-octets.ensures.read other))

pub returns-in_err-octets-clause-first_fault : goal.returns-in_err-octets-clause-first_fault
returns-in_err-octets-clause-first_fault c =
    let p = err_from_is_err_and c.from_residual.result c.from_residual.ensures.1 in
    rw (p.1, p.2) (λ f h. refused_unless c.args.message.now c.in_err-octets.field-0.0 f c.octets_of.ensures.fits c.in_err-octets.ensures.read h)

pub returns-clause-ok : goal.returns-clause-ok
returns-clause-ok c =
    let m = c.args.message.now in
    let old = c.args.out.now.items in
    let new = c.extend_from_slice.new.self.items in
    let b = c.in_ok-octets.octets.items in
    let whole : new ≡ old ++ b = c.in_ok-extend_from_slice.ensures.items ∙ ap (λ (ys : List ℕ). old ++ ys) c.deref.ensures.value in
    let all : AreOctets new = octets_within new (λ i lt. omega (arith, c.type_inv.out i 0 lt)) in
    let octets : AreOctets b = octets_back old b (subst AreOctets whole all) in
    let plain = encoded_plain m b c.octets_of.ensures.fits c.in_ok-octets.ensures.read octets in
    record { octets = b; appended = whole; content = (plain, plain_is_spelled m b plain) }

pub returns-clause-first_fault : goal.returns-clause-first_fault
returns-clause-first_fault c = λ f h. absurd (encoded_no_fault c.args.message.now c.in_ok-octets.octets.items f c.octets_of.ensures.fits c.in_ok-octets.ensures.read h)
