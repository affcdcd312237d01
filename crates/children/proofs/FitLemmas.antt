-- The payloads of a Child SA can be written, and are short.
use Rattle.std.proofs.Common.{◌≡◌, ◌<◌, ◌≤◌, ◌+◌, ◌*◌, ◌^◌, ℕ, zero, suc, Bool, true, false, List, [], ◌∷◌, length, slice_get, Some, refl, sym, ap, subst, ◌∙◌, arith}
use Rattle.std.specs.List.{AllByRecursion, sum_by}
use Rattle.std.proofs.lemmas.List.Sums.{sum_by-cons}
use Rattle.byteorder.specs.Endian.{big_bytes}
use Rattle.byteorder.specs.Numbers.{length-bytes_high_first}
use Rattle.base.specs.declared.address.Range.{Range}
use Rattle.base.specs.declared.address.Range.TheVariants as range
use Rattle.base.specs.declared.selector.Selector.{Selector}
use Rattle.wire.specs.Sizes.{proposal_size, range_size, selector_size, transform_size, FitsFields, FitsProposal, FitsSelector, FitsSelectors, FitsTransform}
use Rattle.wire.specs.Proposals.{AreNumbered, NumberedFrom}
use Rattle.wire.specs.declared.payload.Payload.TheVariants.{Sa}
use Rattle.wire.specs.declared.proposal.Proposal.{Proposal}
use Rattle.wire.specs.declared.proposal.Transform.{Transform}
use Rattle.suite.specs.Choice.{without_attributes}
use Rattle.suite.specs.declared.choice.Wanted.TheVariants.{Esp}
use Rattle.suite.specs.Offers.{answered_transforms, offered_transforms}
use Rattle.exchange.specs.declared.child.ChildPayloads.{ChildPayloads}
use Rattle.policy.specs.Narrowing.{AreSendable, IsNarrowing, IsSendableSelector}
use Rattle.policy.specs.declared.entry.Entry.{Entry}
use Rattle.sadb.specs.Database.{Database}
use Rattle.children.specs.Asking.{child_request, FitMessages}
use Rattle.children.specs.Responding.{IsMadeChild}
use Rattle.children.specs.declared.asking.Asked.{Asked}
use Rattle.children.specs.declared.responding.Made.{Made}
use Rattle.children.specs.declared.setting.Setting.{Setting}
use Rattle.children.proofs.ListLemmas.{octets_of, one_item}

selector_fits : (s : Selector) → IsSendableSelector s → FitsSelector s
selector_fits s x = record {
  protocol = omega (arith, x.fields.protocol);
  ports = x.ports;
  port = x.fields.end_port;
  addresses = x.addresses;
  fits = x.fields.addresses;
}

each_fits : (ss : List Selector) → ((k : ℕ) (s : Selector) → slice_get ss k ≡ Some s → IsSendableSelector s) → AllByRecursion FitsSelector ss
each_fits [] each = tt
each_fits (s ∷ ss) each = (selector_fits s (each 0 s refl), each_fits ss (λ k t is. each (suc k) t is))

selectors_fit : (ss : List Selector) → AreSendable ss → FitsSelectors ss
selectors_fit ss x = record { some = x.some; few = x.few; each = each_fits ss x.each }

range_short : (r : Range) → range_size r ≤ 32
range_short (range.V4 start end) = omega arith
range_short (range.V6 start end) = omega arith

selectors_short : (ss : List Selector) → sum_by selector_size ss ≤ 40 * length ss
selectors_short [] = omega arith
selectors_short (s ∷ ss) =
    let one = range_short s.addresses in
    let rest = selectors_short ss in
    let whole = sum_by-cons selector_size s ss in
    omega arith

abbrev esp_proposal : ℕ → ℕ → List Transform → Proposal
esp_proposal number spi transforms = record { number = number; protocol = 3; spi = big_bytes 4 spi; transforms = transforms }

-- transforms for a Child SA: at most four, without attributes
record AreFew (ts : List Transform) : Type 0 where
  some : 1 ≤ length ts
  few : length ts ≤ 4
  each : AllByRecursion FitsTransform ts
  short : sum_by transform_size ts ≤ 32

plain_fits : (kind id : ℕ) → kind < 256 → id < 2 ^ 16 → FitsTransform (without_attributes kind id)
plain_fits kind id small fits = record { kind = small; id = fits; attributes = tt }

answered_few : (allowed extended : Bool) → AreFew (answered_transforms (Esp allowed) extended)
answered_few allowed true = record {
  some = omega arith;
  few = omega arith;
  each = (plain_fits 1 11 (omega arith) (omega arith), (plain_fits 3 12 (omega arith) (omega arith), (plain_fits 5 1 (omega arith) (omega arith), tt)));
  short = omega arith;
}
answered_few allowed false = record {
  some = omega arith;
  few = omega arith;
  each = (plain_fits 1 11 (omega arith) (omega arith), (plain_fits 3 12 (omega arith) (omega arith), (plain_fits 5 0 (omega arith) (omega arith), tt)));
  short = omega arith;
}

offered_few : (extended : Bool) → AreFew (offered_transforms (Esp extended))
offered_few true = record {
  some = omega arith;
  few = omega arith;
  each = (plain_fits 1 11 (omega arith) (omega arith), (plain_fits 3 12 (omega arith) (omega arith), (plain_fits 5 1 (omega arith) (omega arith), (plain_fits 5 0 (omega arith) (omega arith), tt))));
  short = omega arith;
}
offered_few false = record {
  some = omega arith;
  few = omega arith;
  each = (plain_fits 1 11 (omega arith) (omega arith), (plain_fits 3 12 (omega arith) (omega arith), (plain_fits 5 0 (omega arith) (omega arith), tt)));
  short = omega arith;
}

proposal_fits : (number spi : ℕ) (ts : List Transform) → number < 256 → AreFew ts → FitsProposal (esp_proposal number spi ts)
proposal_fits number spi ts small x = record {
  number = small;
  protocol = omega arith;
  spi = octets_of 4 spi;
  short = omega (arith, length-bytes_high_first 4 spi);
  some = x.some;
  few = omega (arith, x.few);
  transforms = x.each;
}

proposal_short : (number spi : ℕ) (ts : List Transform) → AreFew ts → proposal_size (esp_proposal number spi ts) ≤ 44
proposal_short number spi ts x = omega (arith, x.short, length-bytes_high_first 4 spi)

payloads_fit : (number spi : ℕ) (ts : List Transform) (i r : List Selector) → 1 ≤ number → number < 256 → AreFew ts → AreSendable i → AreSendable r
    → FitMessages (record { proposals = esp_proposal number spi ts ∷ []; ts_i = i; ts_r = r })
payloads_fit number spi ts i r one small x sends_i sends_r =
    let sa = proposal_short number spi ts x in
    let size_i = selectors_short i in
    let size_r = selectors_short r in
    let few_i = sends_i.few in
    let few_r = sends_r.few in
    record {
      fields = ((one, (proposal_fits number spi ts small x, tt)), (selectors_fit i sends_i, (selectors_fit r sends_r, tt)));
      short = omega arith;
    }

lone_sendable : (s : Selector) → IsSendableSelector s → AreSendable (s ∷ [])
lone_sendable s sends = record {
  some = omega arith;
  few = omega arith;
  each = λ k t is. subst (λ (x : Selector). IsSendableSelector x) (one_item s k t is) sends;
}

pub request_fits : (asked : Asked) → IsSendableSelector asked.local → IsSendableSelector asked.remote → FitMessages (child_request asked)
request_fits asked sends_i sends_r =
    payloads_fit 1 asked.spi (offered_transforms (Esp asked.extended)) (asked.local ∷ []) (asked.remote ∷ []) (omega arith) (omega arith) (offered_few asked.extended)
    (lone_sendable asked.local sends_i) (lone_sendable asked.remote sends_r)

numbered_from : (n : ℕ) (ps : List Proposal) (place : ℕ) (p : Proposal) → NumberedFrom n ps → slice_get ps place ≡ Some p → n ≤ p.number
numbered_from n [] zero p numbered is = cc
numbered_from n [] (suc place) p numbered is = cc
numbered_from n (q ∷ ps) zero p numbered is =
    let same : q ≡ p = cc in
    let number : p.number ≡ n = ap (λ (x : Proposal). x.number) (sym same) ∙ numbered.0 in
    omega arith
numbered_from n (q ∷ ps) (suc place) p numbered is =
    let above : n + 1 ≤ p.number = numbered_from (n + 1) ps place p numbered.1 is in
    omega arith

numbered_at : (ps : List Proposal) (place : ℕ) (p : Proposal) → AreNumbered ps → slice_get ps place ≡ Some p → 1 ≤ p.number
numbered_at [] place p numbered is = absurd numbered
numbered_at (q ∷ []) place p numbered is = subst (λ (x : Proposal). 1 ≤ x.number) (one_item q place p is) numbered
numbered_at (q ∷ r ∷ ps) place p numbered is = numbered_from 1 (q ∷ r ∷ ps) place p numbered is

fits_at : (ps : List Proposal) (place : ℕ) (p : Proposal) → AllByRecursion FitsProposal ps → slice_get ps place ≡ Some p → FitsProposal p
fits_at [] zero p fits is = cc
fits_at [] (suc place) p fits is = cc
fits_at (q ∷ ps) zero p fits is =
    let same : q ≡ p = cc in
    subst (λ (x : Proposal). FitsProposal x) same fits.0
fits_at (q ∷ ps) (suc place) p fits is = fits_at ps place p fits.1 is

abbrev pub AnswersAreSendable : Type 0
AnswersAreSendable = (entries : List Entry) (i r answer_i answer_r : List Selector) → length i ≤ 16 → length r ≤ 16 → IsNarrowing entries i r answer_i answer_r
    → AreSendable answer_i × AreSendable answer_r

pub response_fits : AnswersAreSendable → (setting : Setting) (extended : Bool) (entries : List Entry) (table : Database) (offer : ChildPayloads) (made : Made)
    → FitsFields (Sa offer.proposals) → length offer.ts_i ≤ 16 → length offer.ts_r ≤ 16 → IsMadeChild setting extended entries table offer made → FitMessages made.payloads
response_fits sendable setting extended entries table offer made proposals few_i few_r m =
    let sends = sendable entries offer.ts_i offer.ts_r m.terms.ts_i m.terms.ts_r few_i few_r m.due.narrowed in
    let one : 1 ≤ m.chosen.number = subst (λ (n : ℕ). 1 ≤ n) (sym m.due.choice.number) (numbered_at offer.proposals m.chosen.place m.due.choice.proposal proposals.0 m.due.choice.here) in
    let small : m.chosen.number < 256 = subst (λ (n : ℕ). n < 256) (sym m.due.choice.number) (fits_at offer.proposals m.chosen.place m.due.choice.proposal proposals.1 m.due.choice.here).number in
    subst (λ (x : Made). FitMessages x.payloads) (sym m.whole)
    (payloads_fit m.chosen.number m.terms.spi_r (answered_transforms (Esp extended) m.chosen.extended) m.terms.ts_i m.terms.ts_r one small (answered_few extended m.chosen.extended) sends.0 sends.1)
