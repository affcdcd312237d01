use Rattle.std.proofs.Common.{rules, ◌≡◌, ◌≢◌, ◌<◌, ◌≤◌, ◌+◌, ◌-◌, ◌++◌, List, ℕ, length, refl, arith, subst}
use Rattle.base.specs.Octets.{AreOctets}
use Rattle.wire.specs.declared.fault.WireFault.TheVariants.{Memory, TooLong}
use Rattle.base.proofs.OctetLemmas.{octets_from, octets_within, octets_back}
use Rattle.exchange.specs.Sealed.{sealed_octets}
use Rattle.exchange.proofs.SealedLemmas.{is_sealed, sendable_encodes, sendable_fits}
use Rattle.exchange.proofs.sealed.seal_message.Goals as goal

pub returns-in_err-encode_message-clause-memory : goal.returns-in_err-encode_message-clause-memory
returns-in_err-encode_message-clause-memory g c sendable =
    let is : c.in_err-encode_message.field-0.0 ≡ Memory = sendable_encodes c.plain_spellings_are_spellings.ensures.message c.args.message.now c.in_err-encode_message.field-0.0 sendable c.in_err-encode_message.ensures.unspelled in
    search rules

pub returns-in_err-whole-clause-memory : goal.returns-in_err-whole-clause-memory
returns-in_err-whole-clause-memory g c sendable =
    let clear = c.in_ok-encode_message.ensures.ok.octets in
    let s = c.in_ok-encode_message.ensures.ok.content.0 in
    let clear_is : c.deref.result.now ≡ clear = search rules in
    let size = g.S.Sealer.sealed_size (length clear - 28) in
    let is : c.in_err-whole.field-0.0 ≡ Memory = sendable_fits c.plain_spellings_are_spellings.ensures.message c.spellings_have_their_size.ensures.message c.args.message.now c.in_err-whole.field-0.0 clear size s sendable (g.met.S.Sealer.size_bounded (length clear - 28)).1
    (subst (λ (x : List ℕ). c.in_err-whole.field-0.0 ≢ Memory → (c.in_err-whole.field-0.0 ≡ TooLong) × (3000 < 32 + g.S.Sealer.sealed_size (length x - 28))) clear_is c.in_err-whole.ensures.refused) in
    search rules

pub returns-clause-sealed : goal.returns-clause-sealed
returns-clause-sealed g c =
    let old = c.args.out.now.items in
    let new = c.extend_from_slice.new.self.items in
    let whole = c.in_ok-whole.whole.items in
    let clear = c.in_ok-encode_message.ensures.ok.octets in
    let s = c.in_ok-encode_message.ensures.ok.content.0 in
    let clear_is : c.deref.result.now ≡ clear = search rules in
    let appended : new ≡ old ++ whole = search rules in
    let all : AreOctets new = octets_within new (λ i lt. omega (arith, c.type_inv.out i 0 lt)) in
    let octets : AreOctets whole = octets_back old whole (subst AreOctets appended all) in
    let fresh_octets : AreOctets c.args.fresh.now = octets_from c.args.fresh.now (λ i. omega (arith, c.fits-fresh i)) in
    record {
      octets = whole;
      appended = appended;
      content = is_sealed g.S.Sealer.body_of g.S.Sealer.sealed_size g.met.S.Sealer.length_told c.args.keys.now c.args.fresh.now c.args.message.now clear whole s c.as_slices.ensures.keys fresh_octets c.told-fresh
          (subst (λ (x : List ℕ). 32 + g.S.Sealer.sealed_size (length x - 28) ≤ 3000) clear_is (c.in_ok-whole.ensures.short refl))
          (subst (λ (x : List ℕ). whole ≡ sealed_octets g.S.Sealer.body_of g.S.Sealer.sealed_size c.args.keys.now c.args.fresh.now x) clear_is c.in_ok-whole.ensures.made)
          octets;
    }
