-- One message after another in a lane.
use Rattle.std.proofs.Common.{◌≡◌, ℕ, zero, suc, ◌+◌, ◌-◌, ◌/◌, ◌^◌, ◌<◌, ◌≤◌, List, [], ◌∷◌, Some, length, min, slice_get, slice_index, slice_set, refl, sym, ap, ◌∙◌, subst, inl, inr, arith}
use Rattle.std.proofs.lemmas.Bool.{cases_eq, cases_lt}
use Rattle.std.proofs.lemmas.List.{get_or-set_same, get_or-set_other}
use Rattle.std.proofs.lemmas.Option.{get_or_from_slice_get, slice_get_cases, slice_get_within}
use Rattle.mac.specs.Hmac.{hmac_block, pad_with}
use Rattle.sha2.specs.Sha256.{hash_after}
use Rattle.lanes.specs.Absorbing.{Advances}
use Rattle.lanes.specs.Key.{state_behind}
use Rattle.lanes.specs.Lane.{IsLane, lane}
use Rattle.lanes.specs.Message.{HasBlocks}
use Rattle.lanes.specs.Padding.{after_a_block}
use Rattle.lanes.specs.Stream.{AreBegun, AreInLanes, DigestsWritten, HasDigest, InLane, inner_after, inner_digest}
use Rattle.lanes.specs.Task.{FitsALane, message_of}
use Rattle.lanes.specs.declared.message.Message.{Message}
use Rattle.lanes.specs.declared.task.Task.{Task}

-- ---- an element put into a list

pub slice_get-set_same : {X : Type 0} (xs : List X) (i : ℕ) (v x : X) → i < length xs → slice_get (slice_set xs i v) i ≡ Some x → v ≡ x
slice_get-set_same [] i v x within given = absurd (omega arith)
slice_get-set_same (y ∷ ys) zero v x within given = get_or_from_slice_get (v ∷ ys) 0 x v given
slice_get-set_same (y ∷ ys) (suc i) v x within given = slice_get-set_same ys i v x (omega arith) given

pub slice_get-set_other : {X : Type 0} (xs : List X) (i k : ℕ) (v : X) → (k ≡ i → ⊥) → slice_get (slice_set xs i v) k ≡ slice_get xs k
slice_get-set_other [] i k v other = refl
slice_get-set_other (y ∷ ys) zero zero v other = absurd (other refl)
slice_get-set_other (y ∷ ys) zero (suc k) v other = refl
slice_get-set_other (y ∷ ys) (suc i) zero v other = refl
slice_get-set_other (y ∷ ys) (suc i) (suc k) v other = slice_get-set_other ys i k v (λ same. other (ap suc same))

-- ---- digests

pub digest_put : (tasks : List Task) (digests : List (List ℕ)) (place : ℕ) (digest : List ℕ) → place < length digests
    → ((task : Task) → slice_get tasks place ≡ Some task → digest ≡ inner_digest task) → HasDigest tasks (slice_set digests place digest) place
digest_put tasks digests place digest within is task given = get_or-set_same digests place digest [] within ∙ is task given

pub digest_kept : (tasks : List Task) (digests : List (List ℕ)) (place other : ℕ) (digest : List ℕ) → place < length digests
    → ((task : Task) → slice_get tasks place ≡ Some task → digest ≡ inner_digest task) → HasDigest tasks digests other → HasDigest tasks (slice_set digests place digest) other
digest_kept tasks digests place other digest within is has = elim (cases_eq other place) [
  | inl same ↦ subst (HasDigest tasks (slice_set digests place digest)) (sym same) (digest_put tasks digests place digest within is)
  | inr apart ↦ (λ task given. get_or-set_other digests place other digest [] apart ∙ has task given)
]

-- one more digest is written
pub digests_next : (tasks : List Task) (before after : List (List ℕ)) (places : List ℕ) (j : ℕ) (digest : List ℕ) → DigestsWritten tasks before after places j
    → slice_index places j < length after → ((task : Task) → slice_get tasks (slice_index places j) ≡ Some task → digest ≡ inner_digest task)
    → DigestsWritten tasks before (slice_set after (slice_index places j) digest) places (j + 1)
digests_next tasks before after places j digest written within is = record {
  done = λ k below. elim (cases_eq k j) [
    | inl same ↦ subst (λ n. HasDigest tasks (slice_set after (slice_index places j) digest) (slice_index places n)) (sym same) (digest_put tasks after (slice_index places j) digest within is)
    | inr apart ↦ digest_kept tasks after (slice_index places j) (slice_index places k) digest within is (written.done k (omega arith))
  ];
  kept = λ place has. digest_kept tasks after (slice_index places j) place digest within is (written.kept place has);
}

-- ---- the lane that ends first

-- every lane has as many blocks yet as that which has the fewest
pub common_is : (tasks : List Task) (places : List ℕ) (messages : List Message) (taken : List ℕ) (state : List (List ℕ)) (left : List ℕ) (first : ℕ) →
    AreInLanes tasks places messages taken state → length messages ≡ 8
    → ((k : ℕ) → IsLane k → (m : Message) → slice_get messages k ≡ Some m → slice_index left k ≡ m.count - slice_index taken k)
    → ((k : ℕ) → IsLane k → slice_index left first ≤ slice_index left k)
    → (k : ℕ) (m : Message) → slice_get messages k ≡ Some m → slice_index taken k + slice_index left first ≤ m.count
common_is tasks places messages taken state left first held long left_is least k m given =
    let there = slice_get_within messages k m given in
    let fits : IsLane k = omega arith in
    let within = (held k fits m given).within in
    let some = left_is k fits m given in
    let fewer = least k fits in
    omega arith

pub sums_fit : (messages : List Message) (taken : List ℕ) (count : ℕ) → length messages ≡ 8
    → ((k : ℕ) (m : Message) → slice_get messages k ≡ Some m → slice_index taken k + count ≤ m.count) → (j : ℕ) → IsLane j → slice_index taken j + count < 2 ^ 64
sums_fit messages taken count long common j fits = elim ((slice_get_cases messages j).1) [
  | inl found ↦ (let room = common j found.0 found.2 in let few = found.0.few in omega arith)
  | inr past ↦ absurd (omega (arith, past.0))
]

-- ---- a lane that has ended

pub ended-is : (tasks : List Task) (places : List ℕ) (messages : List Message) (taken : List ℕ) (state ended : List (List ℕ)) (j count : ℕ) (m : Message) →
    AreInLanes tasks places messages taken state → IsLane j → slice_get messages j ≡ Some m → Advances messages taken state 0 ended count → m.count ≤ slice_index taken j + count
    → (task : Task) → slice_get tasks (slice_index places j) ≡ Some task → lane j ended ≡ inner_digest task
ended-is tasks places messages taken state ended j count m held fits given advances over task at =
    let now = held j fits m given in
    let octets = after_a_block (message_of task) in
    let has = now.blocks task at in
    let start = state_behind (pad_with 0x36 (hmac_block task.key.now)) in
    let within = now.within in
    let first : slice_index taken j ≡ min (slice_index taken j + 0) m.count = omega arith in
    let last : min (slice_index taken j + count) m.count ≡ length octets / 64 = omega (arith, has.whole) in
    advances j fits m octets start given has (now.hashed task at ∙ ap (hash_after start octets) first) ∙ ap (hash_after start octets) last

-- the lane that ends first has ended
pub first_ended : (tasks : List Task) (places : List ℕ) (messages : List Message) (taken : List ℕ) (state : List (List ℕ)) (left : List ℕ) (ended : List (List ℕ)) (j : ℕ) →
    AreInLanes tasks places messages taken state → length messages ≡ 8 → IsLane j
    → ((k : ℕ) → IsLane k → (m : Message) → slice_get messages k ≡ Some m → slice_index left k ≡ m.count - slice_index taken k)
    → Advances messages taken state 0 ended (slice_index left j)
    → (task : Task) → slice_get tasks (slice_index places j) ≡ Some task → lane j ended ≡ inner_digest task
first_ended tasks places messages taken state left ended j held long fits left_is advances task at = elim ((slice_get_cases messages j).1) [
  | inl found ↦ (let some = left_is j fits found.0 found.2 in ended-is tasks places messages taken state ended j (slice_index left j) found.0 held fits found.2 advances (omega arith) task at)
  | inr past ↦ absurd (omega (arith, past.0))
]

-- a lane that has taken the blocks that it had yet has ended
pub rest_ended : (tasks : List Task) (places : List ℕ) (messages : List Message) (taken : List ℕ) (state ended : List (List ℕ)) (j : ℕ) →
    AreInLanes tasks places messages taken state → length messages ≡ 8 → IsLane j
    → ((m : Message) (octets start : List ℕ) → slice_get messages j ≡ Some m → HasBlocks m octets → lane j state ≡ hash_after start octets (min (slice_index taken j) m.count)
    → lane j ended ≡ hash_after start octets m.count)
    → (task : Task) → slice_get tasks (slice_index places j) ≡ Some task → lane j ended ≡ inner_digest task
rest_ended tasks places messages taken state ended j held long fits rest task at = elim ((slice_get_cases messages j).1) [
  | inl found ↦
      let m = found.0 in
      let now = held j fits m found.2 in
      let has = now.blocks task at in
      let within = now.within in
      let first : slice_index taken j ≡ min (slice_index taken j) m.count = omega arith in
      let last : m.count ≡ length (after_a_block (message_of task)) / 64 = omega (arith, has.whole) in
      rest m (after_a_block (message_of task)) (state_behind (pad_with 0x36 (hmac_block task.key.now))) found.2 has (now.hashed task at ∙ ap (inner_after task) first)
      ∙ ap (inner_after task) last
  | inr past ↦ absurd (omega (arith, past.0))
]

-- ---- a lane that begins another message, while the others go on

pub turn-is : (tasks : List Task) (places : List ℕ) (messages : List Message) (taken sums : List ℕ) (state ended begun : List (List ℕ)) (j place count : ℕ) (new : Message) →
    AreInLanes tasks places messages taken state → IsLane j → length places ≡ 8 → length messages ≡ 8 → length sums ≡ 8
    → Advances messages taken state 0 ended count → ((k : ℕ) (m : Message) → slice_get messages k ≡ Some m → slice_index taken k + count ≤ m.count)
    → ((k : ℕ) → IsLane k → slice_index sums k ≡ slice_index taken k + count)
    → ((task : Task) → slice_get tasks place ≡ Some task → HasBlocks new (after_a_block (message_of task)))
    → ((task : Task) → slice_get tasks place ≡ Some task → lane j begun ≡ state_behind (pad_with 0x36 (hmac_block task.key.now)))
    → ((k : ℕ) → (k ≡ j → ⊥) → lane k begun ≡ lane k ended)
    → AreInLanes tasks (slice_set places j place) (slice_set messages j new) (slice_set sums j 0) begun
unfolding hash_after
turn-is tasks places messages taken sums state ended begun j place count new held in_lane long long_messages long_sums advances common sums_are blocks here others k fits m given = elim (cases_eq k j) [
  | inl same ↦
      let place_is : slice_index (slice_set places j place) k ≡ place = ap (slice_index (slice_set places j place)) same ∙ get_or-set_same places j place 0 (omega arith) in
      let none : slice_index (slice_set sums j 0) k ≡ 0 = ap (slice_index (slice_set sums j 0)) same ∙ get_or-set_same sums j 0 0 (omega arith) in
      let m_is : new ≡ m = slice_get-set_same messages j new m (omega arith) (ap (slice_get (slice_set messages j new)) (sym same) ∙ given) in
      record {
        within = omega arith;
        blocks = λ task at. subst (λ (m : Message). HasBlocks m (after_a_block (message_of task))) m_is (blocks task (ap (slice_get tasks) (sym place_is) ∙ at));
        hashed = λ task at. ap (λ (n : ℕ). lane n begun) same ∙ here task (ap (slice_get tasks) (sym place_is) ∙ at) ∙ ap (inner_after task) (sym none);
      }
  | inr apart ↦
      let place_is : slice_index (slice_set places j place) k ≡ slice_index places k = get_or-set_other places j k place 0 apart in
      let sum_is : slice_index (slice_set sums j 0) k ≡ slice_index taken k + count = get_or-set_other sums j k 0 0 apart ∙ sums_are k fits in
      let there : slice_get messages k ≡ Some m = sym (slice_get-set_other messages j k new apart) ∙ given in
      let now = held k fits m there in
      let room = common k m there in
      let within = now.within in
      let first : slice_index taken k ≡ min (slice_index taken k + 0) m.count = omega arith in
      let last : min (slice_index taken k + count) m.count ≡ slice_index (slice_set sums j 0) k = omega arith in
      let at_place = λ (task : Task) (at : slice_get tasks (slice_index (slice_set places j place) k) ≡ Some task). ap (slice_get tasks) (sym place_is) ∙ at in
      record {
        within = omega arith;
        blocks = λ task at. now.blocks task (at_place task at);
        hashed = λ task at. others k apart
            ∙ advances k fits m (after_a_block (message_of task)) (state_behind (pad_with 0x36 (hmac_block task.key.now))) there (now.blocks task (at_place task at))
            (now.hashed task (at_place task at) ∙ ap (inner_after task) first)
            ∙ ap (inner_after task) last;
      }
]

-- ---- the queue

-- a lane at its first message
pub first-is : (tasks : List Task) (place : ℕ) (m : Message) (taken : ℕ) (state : List ℕ) → taken ≡ 0
    → ((task : Task) → slice_get tasks place ≡ Some task → HasBlocks m (after_a_block (message_of task)))
    → ((task : Task) → slice_get tasks place ≡ Some task → state ≡ state_behind (pad_with 0x36 (hmac_block task.key.now)))
    → InLane tasks place m taken state
unfolding hash_after
first-is tasks place m taken state none has is = record {
  within = omega arith;
  blocks = has;
  hashed = λ task at. is task at ∙ ap (inner_after task) (sym none);
}

-- eight places of a queue, of which each fits a lane
pub eight_fit : (tasks : List Task) (queue places : List ℕ) (start : ℕ) → start < length queue → ((k : ℕ) → k < length queue → FitsALane tasks (slice_index queue k))
    → ((j : ℕ) → IsLane j → start + j < length queue → slice_index places j ≡ slice_index queue (start + j))
    → ((j : ℕ) → IsLane j → length queue ≤ start + j → slice_index places j ≡ slice_index queue start)
    → (j : ℕ) → IsLane j → FitsALane tasks (slice_index places j)
eight_fit tasks queue places start some fit next left j fits = elim (cases_lt (start + j) (length queue)) [
  | inl more ↦ subst (FitsALane tasks) (sym (next j fits more)) (fit (start + j) more)
  | inr past ↦ subst (FitsALane tasks) (sym (left j fits past)) (fit start some)
]

pub fit_put : (tasks : List Task) (places : List ℕ) (place j : ℕ) → j < length places → FitsALane tasks place
    → ((k : ℕ) → IsLane k → FitsALane tasks (slice_index places k)) → (k : ℕ) → IsLane k → FitsALane tasks (slice_index (slice_set places j place) k)
fit_put tasks places place j within fit all k fits = elim (cases_eq k j) [
  | inl same ↦ subst (FitsALane tasks) (sym (ap (slice_index (slice_set places j place)) same ∙ get_or-set_same places j place 0 within)) fit
  | inr apart ↦ subst (FitsALane tasks) (sym (get_or-set_other places j k place 0 apart)) (all k fits)
]

pub begun_next : (tasks : List Task) (queue places : List ℕ) (digests : List (List ℕ)) (next j : ℕ) (digest : List ℕ) → AreBegun tasks queue next digests places
    → IsLane j → length places ≡ 8 → slice_index places j < length digests
    → ((task : Task) → slice_get tasks (slice_index places j) ≡ Some task → digest ≡ inner_digest task)
    → AreBegun tasks queue (next + 1) (slice_set digests (slice_index places j) digest) (slice_set places j (slice_index queue next))
begun_next tasks queue places digests next j digest begun in_lane long within is k below inside = elim (cases_eq k next) [
  | inl same ↦ inr (j, (in_lane, get_or-set_same places j (slice_index queue next) 0 (omega arith) ∙ ap (slice_index queue) (sym same)))
  | inr apart ↦ elim (begun k (omega arith) inside) [
    | inl has ↦ inl (digest_kept tasks digests (slice_index places j) (slice_index queue k) digest within is has)
    | inr stands ↦ elim (cases_eq stands.0 j) [
      | inl same ↦ inl (subst (HasDigest tasks (slice_set digests (slice_index places j) digest)) (ap (slice_index places) (sym same) ∙ stands.1.1) (digest_put tasks digests (slice_index places j) digest within is))
      | inr other ↦ inr (stands.0, (stands.1.0, get_or-set_other places j stands.0 (slice_index queue next) 0 other ∙ stands.1.1))
    ]
  ]
]

-- at the end each message has its digest
pub all_written : (tasks : List Task) (queue places : List ℕ) (before after : List (List ℕ)) (next : ℕ) → AreBegun tasks queue next before places
    → DigestsWritten tasks before after places 8 → (k : ℕ) → k < next → k < length queue → HasDigest tasks after (slice_index queue k)
all_written tasks queue places before after next begun written k below inside = elim (begun k below inside) [
  | inl has ↦ written.kept (slice_index queue k) has
  | inr stands ↦ subst (HasDigest tasks after) stands.1.1 (written.done stands.0 stands.1.0)
]
