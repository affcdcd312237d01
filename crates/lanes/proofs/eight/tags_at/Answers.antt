use Rattle.std.proofs.Common.{◌≡◌, ℕ, List, [], ◌∷◌, Some, slice_get, slice_index, take, refl, ap, arith}
use Rattle.sha2.specs.Sha256.{digest_bytes}
use Rattle.mac.specs.Hmac.{hmac_sha256, icv_sha256}
use Rattle.lanes.specs.Lane.{IsLane, lane}
use Rattle.lanes.specs.Message.{HasBlocks}
use Rattle.lanes.specs.Padding.{after_a_block}
use Rattle.lanes.specs.Task.{message_of}
use Rattle.lanes.specs.declared.message.Message.{Message}
use Rattle.lanes.specs.declared.task.Task.{Task}
use Rattle.lanes.proofs.LaneLemmas.{each_lane}
use Rattle.lanes.proofs.eight.tags_at.Goals as goal

pub returns : goal.returns
unfolding icv_sha256
returns c = λ j fits task given.
    let messages : List Message = c.message.result ∷ c.message-2.result ∷ c.message-3.result ∷ c.message-4.result ∷ c.message-5.result ∷ c.message-6.result ∷ c.message-7.result ∷ c.message-8.result ∷ [] in
    let at = λ (k : ℕ) (m : Message) (within : IsLane k) (here : slice_get messages k ≡ Some m)
    (has : (task : Task) → slice_get c.args.tasks.now (slice_index c.args.places.now k) ≡ Some task → HasBlocks m (after_a_block (message_of task)))
    (task : Task) (given : slice_get c.args.tasks.now (slice_index c.args.places.now k) ≡ Some task).
    c.tags.ensures k within m task.key.now (message_of task) here (has task given)
    (record { inner_pad = c.inner_states.ensures k within task given; outer_pad = c.outer_states.ensures k within task given }) in
    let all = each_lane (λ j. (task : Task) → slice_get c.args.tasks.now (slice_index c.args.places.now j) ≡ Some task
    → digest_bytes (lane j c.tags.result) 8 ≡ hmac_sha256 task.key.now (message_of task))
    (at 0 c.message.result (omega arith) refl c.message.ensures)
    (at 1 c.message-2.result (omega arith) refl c.message-2.ensures)
    (at 2 c.message-3.result (omega arith) refl c.message-3.ensures)
    (at 3 c.message-4.result (omega arith) refl c.message-4.ensures)
    (at 4 c.message-5.result (omega arith) refl c.message-5.ensures)
    (at 5 c.message-6.result (omega arith) refl c.message-6.ensures)
    (at 6 c.message-7.result (omega arith) refl c.message-7.ensures)
    (at 7 c.message-8.result (omega arith) refl c.message-8.ensures) in
    ap (λ (l : List ℕ). take 16 l) (all j fits task given)
