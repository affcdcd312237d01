-- What becomes of a list of deliveries (RFC 4303 section 3.4): which packets are judged, in words that know
-- nothing of how a window forgets.
use Rattle.std.specs.Prelude.{◌≡◌, ℕ, ◌+◌, ◌<◌, false, ◌↔◌, ◌&&◌, nat_lt, max, map, List, [], ◌∷◌, ◌++◌, length, take, drop, slice_get, Option, Some, None, Ok, Err}
use Rattle.std.specs.Borrow.{Bor}
use Rattle.std.specs.Ordering.{nat_cmp}
use Rattle.std.specs.FinSet as set
use Rattle.std.specs.FinMap as finite_map
use Rattle.replay.specs.Window.{Seen}
use Rattle.esp.specs.declared.sa.Sa.{Sa}
use Rattle.esp.specs.Packet.{PassesIntegrity, IsContents}
use Rattle.esp.specs.Judging.{IsJudgedLength, low_half, IsNumber, Judges}
use Rattle.esp.specs.Opening.{Answer, IsOpeningRefusal, Run}
use Rattle.esp.specs.Views.{Receiving}
use Rattle.esp.specs.declared.fault.ListFault.{ListFault}
use Rattle.esp.specs.declared.fault.ListStop.{ListStop}
use Rattle.esp.specs.declared.fault.EspFault.TheVariants.{BadPadding, Memory}

-- the greatest of these sequence numbers, 0 where there is none
abbrev pub greatest_of : List ℕ → ℕ
greatest_of [] = 0
greatest_of (n ∷ ns) = max n (greatest_of ns)

abbrev pub greatest : set.FinSet nat_cmp → ℕ
greatest taken = greatest_of (set.items taken)

-- all sequence numbers that were taken, as a window of this size that never forgot one
abbrev pub all_taken : ℕ → set.FinSet nat_cmp → Seen
all_taken size taken = record { top = greatest taken; size = size; taken = taken }

-- the sequence numbers taken after a list in which these packets were judged as these numbers, if any
abbrev pub taken_after : set.FinSet nat_cmp → List (Option ℕ) → set.FinSet nat_cmp
taken_after taken [] = taken
taken_after taken (None ∷ ns) = taken_after taken ns
taken_after taken (Some n ∷ ns) = taken_after (set.insert taken n) ns

-- packets that were delivered in order, and how they were judged
pub record History : Type 0 where
  pub association : Sa
  -- the size of the replay window
  pub size : ℕ
  -- the sequence numbers that were taken before the list
  pub before : set.FinSet nat_cmp
  pub packets : List (List ℕ)
  -- the sequence number that each packet was judged as, if any
  pub numbers : List (Option ℕ)

-- the sequence numbers taken before position i, of which none is forgotten
abbrev pub taken_at : History → ℕ → Seen
taken_at h i = all_taken h.size (taken_after h.before (take i h.numbers))

-- each packet was judged as a sequence number exactly if the rule judges it so at the numbers taken before it
pub record IsJudged (h : History) : Type 0 where
  pub each : length h.numbers ≡ length h.packets
  pub judged : (i n : ℕ) (b : List ℕ) → slice_get h.packets i ≡ Some b
      → (slice_get h.numbers i ≡ Some (Some n)) ↔ Judges h.association (taken_at h i) b n

-- The answer to a packet that was judged as a sequence number: its payload, or bad padding. To another: why
-- it was refused.
abbrev pub IsAnswerDue : Sa → Seen → List ℕ → Option ℕ → Answer → Type 0
IsAnswerDue a w b (Some n) (Ok o) = (o.number ≡ n) × IsContents b o.next o.payload.now
IsAnswerDue a w b (Some n) (Err BadPadding) = (next : ℕ) (payload : List ℕ) → ¬ IsContents b next payload
IsAnswerDue a w b (Some n) (Err e) = ⊥
IsAnswerDue a w b None (Ok o) = ⊥
IsAnswerDue a w b None (Err e) = IsOpeningRefusal a w b e

-- each packet has the answer that is due at the sequence numbers taken before it
pub record AreAnswers (h : History) (answers : List Answer) : Type 0 where
  pub each : length answers ≡ length h.packets
  pub due : (i : ℕ) (b : List ℕ) (n : Option ℕ) (r : Answer) → slice_get h.packets i ≡ Some b
      → slice_get h.numbers i ≡ Some n → slice_get answers i ≡ Some r → IsAnswerDue h.association (taken_at h i) b n r

-- no sequence number is accepted twice, nor one that was taken before the list
pub record AtMostOnce (h : History) : Type 0 where
  pub new : (i n : ℕ) → slice_get h.numbers i ≡ Some (Some n) → set.contains h.before n ≡ false
  pub once : (i j n : ℕ) → slice_get h.numbers i ≡ Some (Some n) → slice_get h.numbers j ≡ Some (Some n) → i ≡ j

-- The assumption that no ICV was forged. sent is what was sent, from sequence number to octets: each entry
-- passes the integrity check under its number and has a length that is judged, and whatever passes at a
-- delivery under the number of that packet there is that number's entry.
pub record Unforged (h : History) (sent : finite_map.FinMap nat_cmp (List ℕ)) : Type 0 where
  pub whole : (n : ℕ) (b : List ℕ) → finite_map.get sent n ≡ Some b → IsJudgedLength (length b)
  pub intact : (n : ℕ) (b : List ℕ) → finite_map.get sent n ≡ Some b → PassesIntegrity h.association n b
  pub no_other : (i n : ℕ) (b : List ℕ) → slice_get h.packets i ≡ Some b → IsJudgedLength (length b)
      → IsNumber h.association.extended (taken_at h i) (low_half b) n → PassesIntegrity h.association n b
      → finite_map.get sent n ≡ Some b

-- at position i the octets sent as n are delivered, the packet's sequence number there is n, and n lies above
-- the greatest number taken less the size
pub record Arrives (h : History) (sent : finite_map.FinMap nat_cmp (List ℕ)) (n i : ℕ) : Type 0 where
  pub packet : List ℕ
  pub delivered_here : slice_get h.packets i ≡ Some packet
  pub sent_so : finite_map.get sent n ≡ Some packet
  pub number : IsNumber h.association.extended (taken_at h i) (low_half packet) n
  pub in_reach : (taken_at h i).top < n + h.size

-- i is the first position at which what was sent as n arrives, and n was not taken before the list
pub record IsFirstArrival (h : History) (sent : finite_map.FinMap nat_cmp (List ℕ)) (n i : ℕ) : Type 0 where
  pub new : set.contains h.before n ≡ false
  pub arrives : Arrives h sent n i
  pub first : (j : ℕ) → j < i → ¬ Arrives h sent n j

-- a packet is judged exactly at the first arrival of what was sent
abbrev pub ExactlyAtFirst : History → finite_map.FinMap nat_cmp (List ℕ) → Type 0
ExactlyAtFirst h sent = (i n : ℕ) → (slice_get h.numbers i ≡ Some (Some n)) ↔ IsFirstArrival h sent n i

-- A packet that was refused for memory counts as not delivered. The packets that count, and their answers:
abbrev pub delivered_packets : List (List ℕ) → List Answer → List (List ℕ)
delivered_packets (b ∷ bs) (Err Memory ∷ rs) = delivered_packets bs rs
delivered_packets (b ∷ bs) (r ∷ rs) = b ∷ delivered_packets bs rs
delivered_packets bs rs = []

abbrev pub delivered_answers : List Answer → List Answer
delivered_answers [] = []
delivered_answers (Err Memory ∷ rs) = delivered_answers rs
delivered_answers (r ∷ rs) = r ∷ delivered_answers rs

-- memory is wanted only for a packet that would have been judged, and only where the window may want it
abbrev pub WantsWhereJudged : Type 0 → Sa → ℕ → set.FinSet nat_cmp → List (List ℕ) → List Answer → List (Option ℕ) → Type 0
WantsWhereJudged want a size taken [] [] [] = Unit {0}
WantsWhereJudged want a size taken (b ∷ bs) (Err Memory ∷ rs) ns =
    want × ((n : ℕ) × Judges a (all_taken size taken) b n) × WantsWhereJudged want a size taken bs rs ns
WantsWhereJudged want a size taken (b ∷ bs) (r ∷ rs) (n ∷ ns) =
    WantsWhereJudged want a size (taken_after taken (n ∷ [])) bs rs ns
WantsWhereJudged want a size taken bs rs ns = ⊥

-- the window shows these sequence numbers, as far as it spans them
pub record Shows (w : Seen) (size : ℕ) (taken : set.FinSet nat_cmp) : Type 0 where
  pub top : w.top ≡ greatest taken
  pub size_kept : w.size ≡ size
  pub in_span : (n : ℕ) → set.contains w.taken n ≡ (set.contains taken n && nat_lt w.top (n + size))

-- the octets of each packet of a list
abbrev pub octets_of : List (Bor (List ℕ)) → List (List ℕ)
octets_of packets = map (λ packet. packet.now) packets

-- what came of these packets at this end
abbrev pub history : Receiving → List (List ℕ) → List (Option ℕ) → History
history r packets numbers = record {
  association = r.association;
  size = r.window.size;
  before = r.window.taken;
  packets = packets;
  numbers = numbers;
}

-- These packets, delivered in order, were given these answers.
pub record Deliveries (want : Type 0) (old : Receiving) (packets : List (List ℕ)) (answers : List Answer) (new : Receiving) : Type 0 where
  pub each_answered : length answers ≡ length packets
  -- how the packets that count as delivered were judged: there is one such list
  pub numbers : List (Option ℕ)
  pub judged : IsJudged (history old (delivered_packets packets answers) numbers)
  pub answers_due : AreAnswers (history old (delivered_packets packets answers) numbers) (delivered_answers answers)
  pub memory : WantsWhereJudged want old.association old.window.size old.window.taken packets answers numbers
  -- at most once, whatever was delivered
  pub at_most_once : AtMostOnce (history old (delivered_packets packets answers) numbers)
  -- exactly at the first delivery, where no ICV was forged
  pub exactly_at_first : (sent : finite_map.FinMap nat_cmp (List ℕ)) → Unforged (history old (delivered_packets packets answers) numbers) sent
      → ExactlyAtFirst (history old (delivered_packets packets answers) numbers) sent
  -- what the end is afterwards
  pub association : new.association ≡ old.association
  pub window : Shows new.window old.window.size (taken_after old.window.taken numbers)

-- The first k of these packets were delivered in order, and their answers were appended.
pub record AnswersFirst (want : Type 0) (k : ℕ) (old : Receiving) (packets : List (List ℕ)) (before : List Answer) (new : Receiving) (after : List Answer) : Type 0 where
  pub answers : List Answer
  pub appended : after ≡ before ++ answers
  pub count : length answers ≡ k
  -- packet by packet, so that calls in a row can be joined to one run
  pub run : Run want old (take k packets) answers new
  pub deliveries : Deliveries want old (take k packets) answers new

-- what was appended to a list of answers
abbrev pub answers_since : List Answer → List Answer → List Answer
answers_since before after = drop (length before) after

-- These answers were given to these packets, or to the first of them: the packets that count as delivered
-- were judged as these sequence numbers, one list of which there is, and each of them has the answer that is
-- due.
pub record AnswersGiven (old : Receiving) (packets : List (List ℕ)) (answers : List Answer) : Type 0 where
  pub numbers : List (Option ℕ)
  pub judged : IsJudged (history old (delivered_packets packets answers) numbers)
  pub answers_due : AreAnswers (history old (delivered_packets packets answers) numbers) (delivered_answers answers)

-- so answered, no sequence number was accepted twice, nor one that was taken before the list
pub record JudgesAtMostOnce (old : Receiving) (packets : List (List ℕ)) (answers : List Answer) : Type 0 where
  pub given : AnswersGiven old packets answers
  pub at_most_once : AtMostOnce (history old (delivered_packets packets answers) given.numbers)

-- so answered, each sent packet was accepted exactly at its first delivery in reach of the window, where no
-- ICV was forged
pub record JudgesExactlyAtFirst (old : Receiving) (packets : List (List ℕ)) (answers : List Answer) : Type 0 where
  pub given : AnswersGiven old packets answers
  pub exactly_at_first : (sent : finite_map.FinMap nat_cmp (List ℕ))
      → Unforged (history old (delivered_packets packets answers) given.numbers) sent
      → ExactlyAtFirst (history old (delivered_packets packets answers) given.numbers) sent

-- There was no room for one more answer: the list was left after some of its packets, and not at its end.
pub record IsStop (want : Type 0) (old : Receiving) (packets : List (List ℕ)) (before : List Answer) (stop : ListStop ListFault) (new : Receiving) (after : List Answer) : Type 0 where
  pub some_left : stop.done < length packets
  pub first : AnswersFirst want stop.done old packets before new after
