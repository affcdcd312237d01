use Rattle.std.proofs.Common.{◌≡◌, ℕ, [], ◌∷◌, Some, slice_get, slice_index, subst}
use Rattle.std.proofs.lemmas.Option.{get_or_from_slice_get}
use Rattle.lanes.specs.Message.{HasBlocks}
use Rattle.lanes.specs.Padding.{after_a_block}
use Rattle.lanes.specs.Task.{message_of}
use Rattle.lanes.specs.declared.message.Message.{Message}
use Rattle.lanes.specs.declared.task.Task.{Task}
use Rattle.lanes.proofs.LaneLemmas.{each_lane}
use Rattle.lanes.proofs.eight.messages_at.Goals as goal

pub returns : goal.returns
returns c =
    let messages = c.message.result ∷ c.message-2.result ∷ c.message-3.result ∷ c.message-4.result ∷ c.message-5.result ∷ c.message-6.result ∷ c.message-7.result ∷ c.message-8.result ∷ [] in
    let P = λ (j : ℕ). (m : Message) → slice_get messages j ≡ Some m → (task : Task) → slice_get c.args.tasks.now (slice_index c.args.places.now j) ≡ Some task → HasBlocks m (after_a_block (message_of task)) in
    let at = λ (j : ℕ) (made : Message) (here : (m : Message) → slice_get messages j ≡ Some m → made ≡ m)
    (has : (task : Task) → slice_get c.args.tasks.now (slice_index c.args.places.now j) ≡ Some task → HasBlocks made (after_a_block (message_of task)))
    (m : Message) (given : slice_get messages j ≡ Some m) (task : Task) (there : slice_get c.args.tasks.now (slice_index c.args.places.now j) ≡ Some task).
    subst (λ (m : Message). HasBlocks m (after_a_block (message_of task))) (here m given) (has task there) in
    each_lane P
    (at 0 c.message.result (λ m given. get_or_from_slice_get messages 0 m m given) c.message.ensures)
    (at 1 c.message-2.result (λ m given. get_or_from_slice_get messages 1 m m given) c.message-2.ensures)
    (at 2 c.message-3.result (λ m given. get_or_from_slice_get messages 2 m m given) c.message-3.ensures)
    (at 3 c.message-4.result (λ m given. get_or_from_slice_get messages 3 m m given) c.message-4.ensures)
    (at 4 c.message-5.result (λ m given. get_or_from_slice_get messages 4 m m given) c.message-5.ensures)
    (at 5 c.message-6.result (λ m given. get_or_from_slice_get messages 5 m m given) c.message-6.ensures)
    (at 6 c.message-7.result (λ m given. get_or_from_slice_get messages 6 m m given) c.message-7.ensures)
    (at 7 c.message-8.result (λ m given. get_or_from_slice_get messages 7 m m given) c.message-8.ensures)
