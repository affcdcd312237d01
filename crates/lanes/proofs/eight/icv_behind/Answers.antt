use Rattle.std.proofs.Common.{◌≡◌, ℕ, ◌/◌, ◌+◌, ◌-◌, List, [], ◌∷◌, length, slice_index, slice_index_or, take, refl, ap, ◌∙◌, arith}
use Rattle.sha2.specs.Sha256.{hash_after}
use Rattle.mac.specs.Hmac.{hmac_block, icv_sha256, pad_with}
use Rattle.lanes.specs.Key.{state_behind}
use Rattle.lanes.specs.Padding.{after_a_block}
use Rattle.lanes.specs.Stream.{inner_digest}
use Rattle.lanes.specs.Task.{message_of}
use Rattle.lanes.proofs.LaneLemmas.{each_lane}
use Rattle.lanes.proofs.TaggingLemmas.{has_a_block, length-hash_after, whole_after}
use Rattle.lanes.proofs.eight.icv_behind.Goals as goal

pub returns : goal.returns
unfolding icv_sha256
returns c = λ j fits task given.
    let digests = c.args.digests.now in
    let row = λ (k : ℕ). slice_index_or digests (slice_index c.args.places.now k) [] in
    let rows : List (List ℕ) = row 0 ∷ row 1 ∷ row 2 ∷ row 3 ∷ row 4 ∷ row 5 ∷ row 6 ∷ row 7 ∷ [] in
    let row_is : slice_index_or rows j [] ≡ row j = each_lane (λ j. slice_index_or rows j [] ≡ row j) refl refl refl refl refl refl refl refl j fits in
    let octets = message_of task in
    let count : ℕ = length (after_a_block octets) / 64 in
    let inner = state_behind (pad_with 0x36 (hmac_block task.key.now)) in
    let whole = whole_after octets in
    let some = has_a_block octets count whole in
    let last : count ≡ (count - 1) + 1 = omega arith in
    let digest_is : slice_index_or rows j [] ≡ inner_digest task = row_is ∙ c.requires.digests j fits task given in
    let long : length (slice_index_or rows j []) ≡ 8 = ap length (digest_is ∙ ap (hash_after inner (after_a_block octets)) last) ∙ length-hash_after inner (after_a_block octets) (count - 1) in
    c.values.ensures j fits
    ∙ ap (λ (l : List ℕ). take 16 l) (c.outer_tags.ensures j fits task.key.now octets inner count
    (record { inner_pad = refl; outer_pad = c.outer_states.ensures j fits task given }) (c.states_in_lanes-inner.ensures j fits long ∙ digest_is) whole)
