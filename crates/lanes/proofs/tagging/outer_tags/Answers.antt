use Rattle.std.proofs.Common.{◌≡◌, ℕ, List, ◌++◌, ◌-◌, ◌+◌, ◌<◌, ◌^◌, slice_index, ap, ◌∙◌, sym, arith, subst}
use Rattle.sha2.specs.Sha256.{digest_bytes, hash_after, padding}
use Rattle.lanes.specs.Lane.{lane}
use Rattle.lanes.specs.Padding.{after_a_block}
use Rattle.lanes.proofs.TaggingLemmas.{has_a_block, hash_after-below, tag-is}
use Rattle.lanes.proofs.tagging.outer_tags.Goals as goal

pub returns : goal.returns
returns c = λ j fits key octets inner count states digest_is whole.
    let digest = lane j c.args.digests.now in
    let some = has_a_block octets count whole in
    let last : count ≡ (count - 1) + 1 = omega arith in
    let state_is : digest ≡ hash_after inner (after_a_block octets) ((count - 1) + 1) = digest_is ∙ ap (hash_after inner (after_a_block octets)) last in
    let below : (k : ℕ) → slice_index digest k < 2 ^ 32 = λ k.
    subst (λ (s : List ℕ). slice_index s k < 2 ^ 32) (sym state_is) (hash_after-below inner (after_a_block octets) (count - 1) k) in
    tag-is key octets inner (lane j c.args.outer) digest _ count states digest_is whole
    (c.compress.ensures j fits (digest_bytes digest 8 ++ padding 96) (c.outer_words.ensures j fits below))
