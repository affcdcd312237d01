use Rattle.std.proofs.Common.{◌≡◌, ◌++◌, ℕ, List, Option, Some, length, sym, ap, ◌∙◌, subst, arith}
use Rattle.suite.specs.Sealing.{AreSealable, Opens}
use Rattle.base.proofs.OctetLemmas.{octets_from_fits, octets_from}
use Rattle.test_message_calls.proofs.tests.of_caller.sealed_and_opened.Goals as goal

pub returns : goal.returns
returns g c =
    let keys = c.args.keys.now in
    let head = c.args.head.now in
    let plain = c.args.plain.now in
    let fresh = c.args.fresh.now in
    let sealable : AreSealable keys head plain fresh =
    record {
      keyed = c.as_slices.ensures.keys;
      head_octets = octets_from_fits head c.type_inv.head;
      plain_octets = octets_from_fits plain c.type_inv.plain;
      fresh_octets = octets_from fresh c.fits-fresh;
      fresh_long = omega arith;
    }
    in
    let body : c.seal.new.out.items ≡ g.S.Sealer.body_of keys head plain fresh =
    c.in_ok-seal.ensures.appended ∙ ap (λ (xs : List ℕ). xs ++ g.S.Sealer.body_of keys head plain fresh) c.requires.empty in
    let told : c.sealed_len-told.result ≡ g.S.Sealer.sealed_size (length plain) = c.sealed_len-told.ensures in
    let bound = (g.met.S.Sealer.size_bounded (length plain)).1 in
    let opens : g.S.Sealer.plain_of keys head c.as_slice.result.now ≡ Some plain =
    ap (λ (xs : List ℕ). g.S.Sealer.plain_of keys head xs) (c.as_slice.ensures.value ∙ body) ∙ g.met.S.Sealer.opens_again keys head plain fresh sealable in
    let P : Option (List ℕ) → Type 0 = λ o. Opens o c.in_ok-open.field-0 c.args.opened.now.items c.open.new.out.items in
    ((subst P opens c.in_ok-open.ensures.answered).1, ap length body ∙ g.met.S.Sealer.length_told keys head plain fresh sealable ∙ sym told, omega arith)
