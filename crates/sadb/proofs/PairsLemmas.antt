-- What a by_serial of SA pairs shows, and how it changes.
use Rattle.std.proofs.Common.{◌≡◌, ◌≢◌, ◌+◌, ◌-◌, ◌<◌, ◌≤◌, ◌⊎◌, ◌++◌, ◌∷◌, [], ℕ, zero, suc, List, length, set, get_or, true, cond, Option, Some, None, is_some, IsSome, IfSome, IsSomeAnd, Contains, Bor, min, count_by, arith, sym, ap, ◌∙◌, refl, inl, inr, subst, rules}
use Rattle.std.proofs.lemmas.Bool.{cases_eq, cases_lt}
use Rattle.std.proofs.lemmas.List.{get_or-set_same, get_or-set_other, get_or_past, get_or_append_left, length_push}
use Rattle.std.proofs.Math.Seq.{get_or-append_seam}
use Rattle.std.proofs.lemmas.List.Sums.{sum_by-set}
use Rattle.std.specs.Option.{option_copied, unwrap_or}
use Rattle.std.specs.Ordering.{nat_cmp}
use Rattle.std.specs.Cmp.{nat_cmp_total}
use Rattle.std.specs.FinMap as map
use Rattle.slab.specs.Slab.{Slab, get, slab_len, entries, Updates, with_value}
use Rattle.slab.proofs.SlabLemmas.{Updates-with_value, Contains-cons, Contains-cons_cases, Contains-entries}
use Rattle.replay.specs.Window.{IsSoundWindow}
use Rattle.sadb.specs.declared.pair.Pair.{Pair}
use Rattle.sadb.specs.Database.{IsAfter}
use Rattle.sadb.specs.Numbered.{numbered}
use Rattle.sadb.specs.Storage.{PairsBySerial, slab_key_at, key_of, at_key, serial_of, shown_pairs, IsIndexed}
use Rattle.sadb.proofs.NumberedLemmas.{numbered_at, numbered_below, numbered_inserts, numbered_removes, inserted_same, EndsAt}

-- an option with its value, if it has one
cases_option : {X : Type 0} (o : Option X) → (o ≡ None) ⊎ ((x : X) × (o ≡ Some x))
cases_option None = inl refl
cases_option (Some x) = inr (x, refl)

-- the SA pair of the serial i + 1
abbrev pair_at : List (Option ℕ) → Slab Pair → ℕ → Option Pair
pair_at keys slab i = at_key slab (slab_key_at keys i)

ends : (keys : List (Option ℕ)) (slab : Slab Pair) → EndsAt (pair_at keys slab) (length keys)
ends keys slab j past = ap (at_key slab) (get_or_past keys j None past)

-- what stands under a serial
pub shown_at : (keys : List (Option ℕ)) (slab : Slab Pair) (serial : ℕ) → map.get (shown_pairs keys slab) serial ≡ at_key slab (key_of keys serial)
shown_at keys slab zero = numbered_below 1 (pair_at keys slab) (length keys) 0 (omega arith)
shown_at keys slab (suc i) =
    let same : suc i ≡ 1 + i = omega arith in
    ap (map.get (shown_pairs keys slab)) same ∙ numbered_at 1 (pair_at keys slab) (length keys) (ends keys slab) i

-- the key of the serial index + 1 is in the list
in_range : (keys : List (Option ℕ)) (index key : ℕ) → slab_key_at keys index ≡ Some key → index < length keys
in_range keys index key at = grind (arith, get_or_past)

-- an SA pair with its serial, the index of its key, and that key
pub record Found (keys : List (Option ℕ)) (slab : Slab Pair) (serial index key : ℕ) (pair : Pair) : Type 0 where
  pub next : serial ≡ index + 1
  pub within : index < length keys
  pub at : slab_key_at keys index ≡ Some key
  pub there : get slab key ≡ Some pair

pub record Stands (keys : List (Option ℕ)) (slab : Slab Pair) (serial : ℕ) (pair : Pair) : Type 0 where
  pub index : ℕ
  pub key : ℕ
  pub found : Found keys slab serial index key pair

found_at_key : (keys : List (Option ℕ)) (slab : Slab Pair) (serial : ℕ) (pair : Pair) → at_key slab (key_of keys serial) ≡ Some pair → Stands keys slab serial pair
found_at_key keys slab zero pair there = absurd (cc)
found_at_key keys slab (suc index) pair there =
    elim (cases_option (slab_key_at keys index)) [
      | inl none ↦ (let nothing : None ≡ Some pair = sym (ap (at_key slab) none) ∙ there in absurd (cc))
      | inr some ↦
          record {
            index = index;
            key = some.0;
            found = record { next = omega arith; within = in_range keys index some.0 some.1; at = some.1; there = sym (ap (at_key slab) some.1) ∙ there };
          }
    ]

some_value : {X : Type 0} (o : Option X) → IsSome o → (x : X) × (o ≡ Some x)
some_value None some = absurd (search rules)
some_value (Some x) some = (x, refl)

pub shown_found : (keys : List (Option ℕ)) (slab : Slab Pair) (serial index key : ℕ) (pair : Pair) → Found keys slab serial index key pair → map.get (shown_pairs keys slab) serial ≡ Some pair
shown_found keys slab serial index key pair f =
    let same : serial ≡ suc index = omega (arith, f.next) in
    ap (map.get (shown_pairs keys slab)) same ∙ shown_at keys slab (suc index) ∙ ap (at_key slab) f.at ∙ f.there

pub own_serial : (keys : List (Option ℕ)) (slab : Slab Pair) (serial index key : ℕ) (pair : Pair) → IsIndexed keys slab → Found keys slab serial index key pair → pair.serial ≡ serial
own_serial keys slab serial index key pair by_serial f =
    let both : Some pair.serial ≡ Some (index + 1) = sym (ap serial_of f.there) ∙ by_serial.there index key f.at in
    let same : pair.serial ≡ index + 1 = cc in
    same ∙ sym f.next

-- two places with one key are one index
one_index : (keys : List (Option ℕ)) (slab : Slab Pair) (index other key : ℕ) → IsIndexed keys slab → slab_key_at keys index ≡ Some key → slab_key_at keys other ≡ Some key → index ≡ other
one_index keys slab index other key by_serial at at_other =
    let both : Some (index + 1) ≡ Some (other + 1) = sym (by_serial.there index key at) ∙ by_serial.there other key at_other in
    let same : index + 1 ≡ other + 1 = cc in
    omega arith

-- what stands at the key of another index is as it was
others_kept : (keys : List (Option ℕ)) (old new : Slab Pair) (index key : ℕ) (slot : Option Pair) → IsIndexed keys old → slab_key_at keys index ≡ Some key → Updates old new key slot → (other : ℕ) → other ≢ index → pair_at keys new other ≡ pair_at keys old other
others_kept keys old new index key slot by_serial at updates other apart =
    elim (cases_option (slab_key_at keys other)) [
      | inl none ↦ ap (at_key new) none ∙ sym (ap (at_key old) none)
      | inr some ↦
          ap (at_key new) some.1
          ∙ updates.others some.0 (λ same. apart (one_index keys old other index key by_serial (some.1 ∙ ap (λ (k : ℕ). Some k) same) at))
          ∙ sym (ap (at_key old) some.1)
    ]

-- the window of each SA pair is sound
abbrev AreSound : Slab Pair → Type 0
AreSound slab = (key : ℕ) (pair : Pair) → get slab key ≡ Some pair → IsSoundWindow pair.inbound.window

sound_some : (pair : Pair) → IsSoundWindow pair.inbound.window → (p : Pair) → Some pair ≡ Some p → IsSoundWindow p.inbound.window
sound_some pair sound p is =
    let same : pair ≡ p = cc in
    subst (λ (x : Pair). IsSoundWindow x.inbound.window) same sound

windows_after : (old new : Slab Pair) (key : ℕ) (slot : Option Pair) → AreSound old → Updates old new key slot → ((p : Pair) → slot ≡ Some p → IsSoundWindow p.inbound.window) → AreSound new
windows_after old new key slot sound updates here k p is =
    elim (cases_eq k key) [
      | inl at ↦ here p (sym (ap (get new) at ∙ updates.changed) ∙ is)
      | inr apart ↦ sound k p (sym (updates.others k apart) ∙ is)
    ]

-- a by_serial with another capacity
pub by_serial_grown : (keys keys' : List (Option ℕ)) (old new : Slab Pair) → keys' ≡ keys → new ≡ record old { capacity = new.capacity } → IsIndexed keys old → IsIndexed keys' new
by_serial_grown keys keys' old new same_keys grown by_serial =
    let roomy : IsIndexed keys (record old { capacity = new.capacity }) = record { there = by_serial.there; back = by_serial.back; counted = by_serial.counted; windows = by_serial.windows } in
    subst (λ (ks : List (Option ℕ)). IsIndexed ks new) (sym same_keys) (subst (λ (slab : Slab Pair). IsIndexed keys slab) (sym grown) roomy)

-- An SA pair is changed.
module _ (keys : List (Option ℕ)) (old new : Slab Pair) (serial index key : ℕ) (pair changed : Pair) (by_serial : IsIndexed keys old) (f : Found keys old serial index key pair) (updates : Updates old new key (Some changed)) where
  pub shown_changed : shown_pairs keys new ≡ map.insert (shown_pairs keys old) serial changed
  shown_changed =
      let same : 1 + index ≡ serial = omega (arith, f.next) in
      numbered_inserts 1 (pair_at keys old) (pair_at keys new) (length keys) (length keys) (ends keys old) (ends keys new) index changed
      (ap (at_key new) f.at ∙ updates.changed)
      (others_kept keys old new index key (Some changed) by_serial f.at updates)
      ∙ ap (λ k. map.insert (shown_pairs keys old) k changed) same

  len_changed : map.len (shown_pairs keys new) ≡ map.len (shown_pairs keys old)
  len_changed =
      let there : map.contains_key (shown_pairs keys old) serial ≡ true = ap is_some (shown_found keys old serial index key pair f) in
      ap map.len shown_changed ∙ map.len-insert nat_cmp_total (shown_pairs keys old) serial changed
      ∙ ap (λ b. cond b (map.len (shown_pairs keys old)) (map.len (shown_pairs keys old) + 1)) there

  serials_kept : changed.serial ≡ pair.serial → (k : ℕ) → serial_of (get new k) ≡ serial_of (get old k)
  serials_kept same k =
      elim (cases_eq k key) [
        | inl here ↦ ap (λ x. serial_of (get new x)) here ∙ ap serial_of updates.changed ∙ ap (λ (x : ℕ). Some x) same ∙ sym (ap serial_of f.there) ∙ sym (ap (λ x. serial_of (get old x)) here)
        | inr apart ↦ ap serial_of (updates.others k apart)
      ]

  pub by_serial_changed : changed.serial ≡ pair.serial → IsSoundWindow changed.inbound.window → slab_len new ≡ slab_len old → IsIndexed keys new
  by_serial_changed same sound counted =
      record {
        there = λ i k at. serials_kept same k ∙ by_serial.there i k at;
        back = λ k s at. by_serial.back k s (sym (serials_kept same k) ∙ at);
        counted = counted ∙ by_serial.counted ∙ sym len_changed;
        windows = windows_after old new key (Some changed) by_serial.windows updates (sound_some changed sound);
      }

len_with_value : (slab : Slab Pair) (key : ℕ) (pair changed : Pair) → get slab key ≡ Some pair → slab_len (with_value slab key changed) ≡ slab_len slab
len_with_value slab key pair changed there =
    let within : key < length slab.slots = grind (arith, get_or_past) in
    let weigh : Option Pair → ℕ = λ o. cond (is_some o) 1 0 in
    let here : weigh (get slab key) ≡ 1 = ap weigh there in
    omega (arith, sum_by-set weigh slab.slots key (Some changed) None within)

-- An SA pair is added at the end.
module _ (keys : List (Option ℕ)) (old new : Slab Pair) (key : ℕ) (pair : Pair) (by_serial : IsIndexed keys old) (vacant : get old key ≡ None) (updates : Updates old new key (Some pair)) where
  abbrev longer : List (Option ℕ)
  longer = keys ++ Some key ∷ []

  key_before : (i : ℕ) → i < length keys → slab_key_at longer i ≡ slab_key_at keys i
  key_before i within = get_or_append_left keys (Some key ∷ []) None i within

  key_here : slab_key_at longer (length keys) ≡ Some key
  key_here = get_or-append_seam keys (Some key) [] None

  key_past : (i : ℕ) → length keys + 1 ≤ i → slab_key_at longer i ≡ None
  key_past i past = get_or_past longer i None (omega (arith, length_push keys (Some key)))

  -- no index had this key
  fresh : (i k : ℕ) → slab_key_at keys i ≡ Some k → k ≢ key
  fresh i k at same =
      let nothing : None ≡ Some (i + 1) = sym (ap (λ x. serial_of (get old x)) same ∙ ap serial_of vacant) ∙ by_serial.there i k at in
      absurd (cc)

  pair_before : (i : ℕ) → i ≢ length keys → pair_at longer new i ≡ pair_at keys old i
  pair_before i apart =
      elim (cases_lt i (length keys)) [
        | inl before ↦
            elim (cases_option (slab_key_at keys i)) [
              | inl none ↦ ap (at_key new) (key_before i before ∙ none) ∙ sym (ap (at_key old) none)
              | inr some ↦ ap (at_key new) (key_before i before ∙ some.1) ∙ updates.others some.0 (fresh i some.0 some.1) ∙ sym (ap (at_key old) some.1)
            ]
        | inr past ↦ ap (at_key new) (key_past i (omega arith)) ∙ sym (ends keys old i (omega arith))
      ]

  pub shown_added : shown_pairs longer new ≡ map.insert (shown_pairs keys old) (length keys + 1) pair
  shown_added =
      let same : 1 + length keys ≡ length keys + 1 = omega arith in
      numbered_inserts 1 (pair_at keys old) (pair_at longer new) (length keys) (length longer) (ends keys old) (ends longer new) (length keys) pair
      (ap (at_key new) key_here ∙ updates.changed)
      pair_before
      ∙ ap (λ k. map.insert (shown_pairs keys old) k pair) same

  pub new_serial : map.get (shown_pairs keys old) (length keys + 1) ≡ None
  new_serial =
      let same : length keys + 1 ≡ suc (length keys) = omega arith in
      ap (map.get (shown_pairs keys old)) same ∙ shown_at keys old (suc (length keys)) ∙ ends keys old (length keys) (omega arith)

  len_added : map.len (shown_pairs longer new) ≡ map.len (shown_pairs keys old) + 1
  len_added =
      ap map.len shown_added ∙ map.len-insert nat_cmp_total (shown_pairs keys old) (length keys + 1) pair
      ∙ ap (λ b. cond b (map.len (shown_pairs keys old)) (map.len (shown_pairs keys old) + 1)) (ap is_some new_serial)

  there_added : pair.serial ≡ length keys + 1 → (i k : ℕ) → slab_key_at longer i ≡ Some k → serial_of (get new k) ≡ Some (i + 1)
  there_added numbered i k at =
      elim (cases_eq i (length keys)) [
        | inl here ↦
            (let both : Some key ≡ Some k = sym key_here ∙ sym (ap (slab_key_at longer) here) ∙ at in
            let same : k ≡ key = cc in
            ap (λ x. serial_of (get new x)) same ∙ ap serial_of updates.changed ∙ ap (λ (x : ℕ). Some x) (numbered ∙ sym (ap (λ (x : ℕ). x + 1) here)))
        | inr apart ↦
            elim (cases_lt i (length keys)) [
              | inl before ↦ (let was = sym (key_before i before) ∙ at in ap serial_of (updates.others k (fresh i k was)) ∙ by_serial.there i k was)
              | inr past ↦ (let nothing : None ≡ Some k = sym (key_past i (omega arith)) ∙ at in absurd (cc))
            ]
      ]

  back_added : pair.serial ≡ length keys + 1 → (k serial : ℕ) → serial_of (get new k) ≡ Some serial → key_of longer serial ≡ Some k
  back_added numbered k serial at =
      elim (cases_eq k key) [
        | inl here ↦
            (let both : Some pair.serial ≡ Some serial = sym (ap serial_of updates.changed) ∙ sym (ap (λ x. serial_of (get new x)) here) ∙ at in
            let same : serial ≡ pair.serial = cc in
            let index : serial ≡ suc (length keys) = omega arith in
            ap (key_of longer) index ∙ key_here ∙ ap (λ (x : ℕ). Some x) (sym here))
        | inr apart ↦ kept serial (by_serial.back k serial (sym (ap serial_of (updates.others k apart)) ∙ at))
      ]
    where
      kept : (s : ℕ) → key_of keys s ≡ Some k → key_of longer s ≡ Some k
      kept zero was = was
      kept (suc i) was = key_before i (in_range keys i k was) ∙ was

  pub by_serial_added : pair.serial ≡ length keys + 1 → IsSoundWindow pair.inbound.window → slab_len new ≡ slab_len old + 1 → IsIndexed longer new
  by_serial_added numbered sound counted =
      record {
        there = there_added numbered;
        back = back_added numbered;
        counted = counted ∙ ap (λ (n : ℕ). n + 1) by_serial.counted ∙ sym len_added;
        windows = windows_after old new key (Some pair) by_serial.windows updates (sound_some pair sound);
      }

-- An SA pair is taken out.
module _ (keys : List (Option ℕ)) (old new : Slab Pair) (serial index key : ℕ) (pair : Pair) (by_serial : IsIndexed keys old) (f : Found keys old serial index key pair) (updates : Updates old new key None) where
  abbrev cleared : List (Option ℕ)
  cleared = set keys index None

  key_gone : slab_key_at cleared index ≡ None
  key_gone = get_or-set_same keys index None None f.within

  key_kept : (i : ℕ) → i ≢ index → slab_key_at cleared i ≡ slab_key_at keys i
  key_kept i apart = get_or-set_other keys index i None None apart

  pair_kept : (i : ℕ) → i ≢ index → pair_at cleared new i ≡ pair_at keys old i
  pair_kept i apart = ap (at_key new) (key_kept i apart) ∙ others_kept keys old new index key None by_serial f.at updates i apart

  pub shown_removed : shown_pairs cleared new ≡ map.remove (shown_pairs keys old) serial
  shown_removed =
      let same : 1 + index ≡ serial = omega (arith, f.next) in
      numbered_removes 1 (pair_at keys old) (pair_at cleared new) (length keys) (length cleared) (ends keys old) (ends cleared new) index
      (ap (at_key new) key_gone)
      pair_kept
      ∙ ap (map.remove (shown_pairs keys old)) same

  len_removed : map.len (shown_pairs cleared new) ≡ map.len (shown_pairs keys old) - 1
  len_removed =
      let there : map.contains_key (shown_pairs keys old) serial ≡ true = ap is_some (shown_found keys old serial index key pair f) in
      ap map.len shown_removed ∙ map.len-remove nat_cmp_total (shown_pairs keys old) serial
      ∙ ap (λ b. cond b (map.len (shown_pairs keys old) - 1) (map.len (shown_pairs keys old))) there

  there_removed : (i k : ℕ) → slab_key_at cleared i ≡ Some k → serial_of (get new k) ≡ Some (i + 1)
  there_removed i k at =
      elim (cases_eq i index) [
        | inl here ↦ (let nothing : None ≡ Some k = sym key_gone ∙ sym (ap (slab_key_at cleared) here) ∙ at in absurd (cc))
        | inr apart ↦
            (let was = sym (key_kept i apart) ∙ at in
            ap serial_of (updates.others k (λ same. apart (one_index keys old i index key by_serial (was ∙ ap (λ (x : ℕ). Some x) same) f.at)))
            ∙ by_serial.there i k was)
      ]

  back_removed : (k s : ℕ) → serial_of (get new k) ≡ Some s → key_of cleared s ≡ Some k
  back_removed k s at =
      elim (cases_eq k key) [
        | inl here ↦ (let nothing : None ≡ Some s = sym (ap (λ x. serial_of (get new x)) here ∙ ap serial_of updates.changed) ∙ at in absurd (cc))
        | inr apart ↦ kept apart s (by_serial.back k s (sym (ap serial_of (updates.others k apart)) ∙ at))
      ]
    where
      kept : k ≢ key → (n : ℕ) → key_of keys n ≡ Some k → key_of cleared n ≡ Some k
      kept apart zero was = was
      kept apart (suc i) was =
          key_kept i (λ here. (let both : Some k ≡ Some key = sym was ∙ ap (slab_key_at keys) here ∙ f.at in apart (cc))) ∙ was

  pub by_serial_removed : slab_len new + 1 ≡ slab_len old → IsIndexed cleared new
  by_serial_removed counted =
      record {
        there = there_removed;
        back = back_removed;
        counted = omega (arith, len_removed, by_serial.counted);
        windows = windows_after old new key None by_serial.windows updates (λ p is. (let nothing : None ≡ Some p = is in absurd (cc)));
      }

-- what holds of the map of a view
module _ (keys : List (Option ℕ)) (slab : Slab Pair) (pairs : map.FinMap nat_cmp Pair) (shown : shown_pairs keys slab ≡ pairs) where
  pub get_shown : (serial : ℕ) → map.get pairs serial ≡ at_key slab (key_of keys serial)
  get_shown serial = sym (ap (λ (m : map.FinMap nat_cmp Pair). map.get m serial) shown) ∙ shown_at keys slab serial

  pub stands_in_view : (serial : ℕ) (pair : Pair) → map.get pairs serial ≡ Some pair → Stands keys slab serial pair
  stands_in_view serial pair there = found_at_key keys slab serial pair (sym (get_shown serial) ∙ there)

  pub sound_serial : IsIndexed keys slab → (serial : ℕ) (pair : Pair) → map.get pairs serial ≡ Some pair → pair.serial ≡ serial
  sound_serial by_serial serial pair there =
      let s = stands_in_view serial pair there in
      own_serial keys slab serial s.index s.key pair by_serial s.found

  pub sound_window : IsIndexed keys slab → (serial : ℕ) (pair : Pair) → map.get pairs serial ≡ Some pair → IsSoundWindow pair.inbound.window
  sound_window by_serial serial pair there =
      let s = stands_in_view serial pair there in
      by_serial.windows s.key pair s.found.there

  pub sound_given : (next : ℕ) → length keys + 1 ≡ next → (serial : ℕ) → IsSome (map.get pairs serial) → (1 ≤ serial) × (serial < next)
  sound_given next last serial some =
      let value = some_value (map.get pairs serial) some in
      let s = stands_in_view serial value.0 value.1 in
      (omega (arith, s.found.next), omega (arith, s.found.next, s.found.within))

pub by_serial_empty : (keys : List (Option ℕ)) (slab : Slab Pair) → keys ≡ [] → slab.slots ≡ [] → IsIndexed keys slab
by_serial_empty keys slab no_keys no_slots =
    let no_key : (i : ℕ) → slab_key_at keys i ≡ None = λ i. ap (λ (ks : List (Option ℕ)). slab_key_at ks i) no_keys in
    let no_pair : (k : ℕ) → get slab k ≡ None = λ k. ap (λ (slots : List (Option Pair)). get_or slots k None) no_slots in
    record {
      there = λ i k at. (let nothing : None ≡ Some k = sym (no_key i) ∙ at in absurd (cc));
      back = λ k s at. (let nothing : None ≡ Some s = sym (ap serial_of (no_pair k)) ∙ at in absurd (cc));
      counted = ap (λ (slots : List (Option Pair)). count_by is_some slots) no_slots ∙ sym (ap (λ (ks : List (Option ℕ)). map.len (shown_pairs ks slab)) no_keys ∙ map.len-empty nat_cmp Pair);
      windows = λ k p at. (let nothing : None ≡ Some p = sym (no_pair k) ∙ at in absurd (cc));
    }

has_key : (slab : Slab Pair) (key : Option ℕ) → IsSome (at_key slab key) → IsSome key
has_key slab None some = some
has_key slab (Some key) some = refl

-- where the SA pair under a key stands
pub record Located (keys : List (Option ℕ)) (slab : Slab Pair) (serial key : ℕ) (pair : Pair) : Type 0 where
  pub index : ℕ
  pub found : Found keys slab serial index key pair

located : (keys : List (Option ℕ)) (slab : Slab Pair) (serial key : ℕ) (pair : Pair) → key_of keys serial ≡ Some key → get slab key ≡ Some pair → Located keys slab serial key pair
located keys slab zero key pair at there = absurd (cc)
located keys slab (suc index) key pair at there =
    record {
      index = index;
      found = record { next = omega arith; within = in_range keys index key at; at = at; there = there };
    }

-- a key that was looked up leads to the SA pair of the view
module _ (keys : List (Option ℕ)) (slab : Slab Pair) (pairs : map.FinMap nat_cmp Pair) (serial : ℕ) (shown : shown_pairs keys slab ≡ pairs) where
  pub key_given : IsSome (map.get pairs serial) → IsSome (key_of keys serial)
  key_given some = has_key slab (key_of keys serial) (subst (λ (o : Option Pair). IsSome o) (get_shown keys slab pairs shown serial) some)

  pub get_at_key : (key : ℕ) → key_of keys serial ≡ Some key → map.get pairs serial ≡ get slab key
  get_at_key key at = get_shown keys slab pairs shown serial ∙ ap (at_key slab) at

  pub pair_given : (key : ℕ) → key_of keys serial ≡ Some key → IsSome (map.get pairs serial) → IsSome (get slab key)
  pair_given key at some = subst (λ (o : Option Pair). IsSome o) (get_at_key key at) some

  -- an SA pair that is changed where it stands
  module _ (key : ℕ) (pair changed : Pair) (by_serial : IsIndexed keys slab) (at : key_of keys serial ≡ Some key) (there : get slab key ≡ Some pair) where
    abbrev where_it_stands : Located keys slab serial key pair
    where_it_stands = located keys slab serial key pair at there

    updated : Updates slab (with_value slab key changed) key (Some changed)
    updated = Updates-with_value slab key changed (ap is_some there)

    pub written_by_serial : changed.serial ≡ pair.serial → IsSoundWindow changed.inbound.window → IsIndexed keys (with_value slab key changed)
    written_by_serial same sound =
        by_serial_changed keys slab (with_value slab key changed) serial where_it_stands.index key pair changed by_serial where_it_stands.found updated same sound (len_with_value slab key pair changed there)

    pub written_shown : shown_pairs keys (with_value slab key changed) ≡ map.insert pairs serial changed
    written_shown =
        shown_changed keys slab (with_value slab key changed) serial where_it_stands.index key pair changed by_serial where_it_stands.found updated
        ∙ ap (λ (m : map.FinMap nat_cmp Pair). map.insert m serial changed) shown

    pub written_len : slab_len (with_value slab key changed) ≡ slab_len slab
    written_len = len_with_value slab key pair changed there

    -- to write what is there changes nothing
    pub written_same : changed ≡ pair → shown_pairs keys (with_value slab key changed) ≡ pairs
    written_same same = written_shown ∙ inserted_same pairs serial changed (get_at_key key at ∙ there ∙ ap (λ (p : Pair). Some p) (sym same))

  -- an SA pair that is taken out
  module _ (new : Slab Pair) (key : ℕ) (pair : Pair) (by_serial : IsIndexed keys slab) (at : key_of keys serial ≡ Some key) (there : get slab key ≡ Some pair) (updates : Updates slab new key None) where
    abbrev where_it_stood : Located keys slab serial key pair
    where_it_stood = located keys slab serial key pair at there

    index_is : where_it_stood.index ≡ serial - 1
    index_is = omega (arith, where_it_stood.found.next)

    pub taken_by_serial : slab_len new + 1 ≡ slab_len slab → IsIndexed (set keys (serial - 1) None) new
    taken_by_serial counted =
        subst (λ (index : ℕ). IsIndexed (set keys index None) new) index_is (by_serial_removed keys slab new serial where_it_stood.index key pair by_serial where_it_stood.found updates counted)

    pub taken_shown : shown_pairs (set keys (serial - 1) None) new ≡ map.remove pairs serial
    taken_shown =
        sym (ap (λ (index : ℕ). shown_pairs (set keys index None) new) index_is)
        ∙ shown_removed keys slab new serial where_it_stood.index key pair by_serial where_it_stood.found updates
        ∙ ap (λ (m : map.FinMap nat_cmp Pair). map.remove m serial) shown

-- an SA pair that is added, in the view
module _ (keys keys' : List (Option ℕ)) (old new : Slab Pair) (pairs : map.FinMap nat_cmp Pair) (serial key : ℕ) (pair : Pair) (by_serial : IsIndexed keys old) (shown : shown_pairs keys old ≡ pairs) (vacant : get old key ≡ None) (updates : Updates old new key (Some pair)) (longer : keys' ≡ keys ++ Some key ∷ []) (serial_is : serial ≡ length keys + 1) where
  pub added_fresh : map.get pairs serial ≡ None
  added_fresh =
      ap (map.get pairs) serial_is ∙ ap (λ (m : map.FinMap nat_cmp Pair). map.get m (length keys + 1)) (sym shown)
      ∙ new_serial keys old new key pair by_serial vacant updates

  pub added_by_serial : pair.serial ≡ serial → IsSoundWindow pair.inbound.window → slab_len new ≡ slab_len old + 1 → IsIndexed keys' new
  added_by_serial numbered sound counted =
      subst (λ (ks : List (Option ℕ)). IsIndexed ks new) (sym longer)
      (by_serial_added keys old new key pair by_serial vacant updates (numbered ∙ serial_is) sound counted)

  pub added_shown : shown_pairs keys' new ≡ map.insert pairs serial pair
  added_shown =
      ap (λ (ks : List (Option ℕ)). shown_pairs ks new) longer
      ∙ shown_added keys old new key pair by_serial vacant updates
      ∙ ap (λ (k : ℕ). map.insert (shown_pairs keys old) k pair) (sym serial_is)
      ∙ ap (λ (m : map.FinMap nat_cmp Pair). map.insert m serial pair) shown

-- two shelves with the same parts are the same
pub same_by_serial : (s t : PairsBySerial) → s.next ≡ t.next → s.pairs ≡ t.pairs → s.room ≡ t.room → s ≡ t
same_by_serial s t next pairs room = λ i. record { next = next i; pairs = pairs i; room = room i }

-- what holds of each SA pair that a call may answer
pub each_copied : (P : Pair → Type 0) (o : Option (Bor Pair)) → ((pair : Pair) → option_copied o ≡ Some pair → P pair) → IfSome o (λ p. P p.now)
each_copied P None each = tt
each_copied P (Some p) each = each p.now refl

-- what stands in the slab stands in the view under its serial
pub view_of_slab : (keys : List (Option ℕ)) (slab : Slab Pair) (pairs : map.FinMap nat_cmp Pair) (by_serial : IsIndexed keys slab) (shown : shown_pairs keys slab ≡ pairs) (key : ℕ) (pair : Pair) → get slab key ≡ Some pair → map.get pairs pair.serial ≡ Some pair
view_of_slab keys slab pairs by_serial shown key pair there =
    get_at_key keys slab pairs pair.serial shown key (by_serial.back key pair.serial (ap serial_of there)) ∙ there

-- some entry has this SA pair
pub record Waits (left : List (ℕ × Pair)) (pair : Pair) : Type 0 where
  pub key : ℕ
  pub there : Contains left (key, pair)

-- A walk over the entries of a slab: those that are left are the view's SA pairs, and each pair that is
-- wanted is left, or its serial was counted.
pub record Walk (pairs : map.FinMap nat_cmp Pair) (left : List (ℕ × Pair)) (Wanted : Pair → Type 0) (Counted : ℕ → Type 0) : Type 0 where
  pub there : (key : ℕ) (pair : Pair) → Contains left (key, pair) → map.get pairs pair.serial ≡ Some pair
  pub met : (serial : ℕ) (pair : Pair) → map.get pairs serial ≡ Some pair → Wanted pair → Waits left pair ⊎ Counted serial

pub walk_begins : (keys : List (Option ℕ)) (slab : Slab Pair) (pairs : map.FinMap nat_cmp Pair) (by_serial : IsIndexed keys slab) (shown : shown_pairs keys slab ≡ pairs) (left : List (ℕ × Pair)) (Wanted : Pair → Type 0) (Counted : ℕ → Type 0) → left ≡ entries slab → Walk pairs left Wanted Counted
walk_begins keys slab pairs by_serial shown left Wanted Counted whole =
    record {
      there = λ key pair here.
          view_of_slab keys slab pairs by_serial shown key pair ((Contains-entries slab key pair).0 (subst (λ (es : List (ℕ × Pair)). Contains es (key, pair)) whole here));
      met = λ serial pair there wanted.
          (let s = stands_in_view keys slab pairs shown serial pair there in
          inl (record { key = s.key; there = subst (λ (es : List (ℕ × Pair)). Contains es (s.key, pair)) (sym whole) ((Contains-entries slab s.key pair).1 s.found.there) }));
    }

module _ (pairs : map.FinMap nat_cmp Pair) (Wanted : Pair → Type 0) where
  pub walk_finds : (left rest : List (ℕ × Pair)) (key : ℕ) (pair : Pair) (Counted : ℕ → Type 0) → left ≡ (key, pair) ∷ rest → Walk pairs left Wanted Counted → map.get pairs pair.serial ≡ Some pair
  walk_finds left rest key pair Counted turn walk =
      walk.there key pair (subst (λ (es : List (ℕ × Pair)). Contains es (key, pair)) (sym turn) (0, omega arith, refl))

  pub walk_goes_on : (left rest : List (ℕ × Pair)) (key : ℕ) (pair : Pair) (Counted Counted' : ℕ → Type 0) → (own : (serial : ℕ) → map.get pairs serial ≡ Some pair → pair.serial ≡ serial) → left ≡ (key, pair) ∷ rest → ((n : ℕ) → Counted n → Counted' n) → (Wanted pair → Counted' pair.serial) → Walk pairs left Wanted Counted → Walk pairs rest Wanted Counted'
  walk_goes_on left rest key pair Counted Counted' own turn keeps counts walk =
      record {
        there = λ k p here. walk.there k p (subst (λ (es : List (ℕ × Pair)). Contains es (k, p)) (sym turn) (Contains-cons (key, pair) (k, p) rest here));
        met = λ serial p there wanted.
            elim (walk.met serial p there wanted) [
              | inl waits ↦
                  elim (Contains-cons_cases (key, pair) (waits.key, p) rest (subst (λ (es : List (ℕ × Pair)). Contains es (waits.key, p)) turn waits.there)) [
                    | inl same ↦
                        (let its : p ≡ pair = sym (ap (λ e. e.1) same) in
                        inr (subst Counted' (own serial (there ∙ ap (λ (x : Pair). Some x) its)) (counts (subst Wanted its wanted))))
                    | inr later ↦ inl (record { key = waits.key; there = later })
                  ]
              | inr counted ↦ inr (keeps serial counted)
            ];
      }

  pub walk_ends : (left : List (ℕ × Pair)) (Counted : ℕ → Type 0) → left ≡ [] → Walk pairs left Wanted Counted → (serial : ℕ) (pair : Pair) → map.get pairs serial ≡ Some pair → Wanted pair → Counted serial
  walk_ends left Counted none walk serial pair there wanted =
      elim (walk.met serial pair there wanted) [
        | inl waits ↦ (let nothing : Contains [] (waits.key, pair) = subst (λ (es : List (ℕ × Pair)). Contains es (waits.key, pair)) none waits.there in absurd (omega (arith, nothing.1)))
        | inr counted ↦ counted
      ]

-- the first serial so far, where one more is counted
abbrev pub NotBelow : Option ℕ → ℕ → Type 0
NotBelow first serial = IsSomeAnd first (λ (f : ℕ). f ≤ serial)

pub lower_keeps : (first : Option ℕ) (serial n : ℕ) → NotBelow first n → min (unwrap_or first serial) serial ≤ n
lower_keeps None serial n counted = absurd counted
lower_keeps (Some f) serial n counted = omega arith

pub lower_is_one : (P : ℕ → Type 0) (first : Option ℕ) (serial : ℕ) → ((f : ℕ) → first ≡ Some f → P f) → P serial → P (min (unwrap_or first serial) serial)
lower_is_one P None serial before now = (let same : serial ≡ min serial serial = omega arith in subst P same now)
lower_is_one P (Some f) serial before now =
    elim (cases_lt f serial) [
      | inl less ↦ (let same : f ≡ min f serial = omega arith in subst P same (before f refl))
      | inr not_less ↦ (let same : serial ≡ min f serial = omega arith in subst P same now)
    ]

abbrev OwnSerials : map.FinMap nat_cmp Pair → Type 0
OwnSerials pairs = (serial : ℕ) (pair : Pair) → map.get pairs serial ≡ Some pair → pair.serial ≡ serial

-- at the end of a walk for the SA pairs above a serial
module _ (pairs : map.FinMap nat_cmp Pair) (own : OwnSerials pairs) (serial : ℕ) (first : Option ℕ) (walk : Walk pairs [] (λ pair. serial < pair.serial) (NotBelow first)) where
  counted_after : (other : ℕ) (pair : Pair) → serial < other → map.get pairs other ≡ Some pair → NotBelow first other
  counted_after other pair above there =
      walk_ends pairs (λ p. serial < p.serial) [] (NotBelow first) refl walk other pair there (omega (arith, own other pair there))

  pub none_after : first ≡ None → (other : ℕ) → serial < other → map.get pairs other ≡ None
  none_after none other above =
      elim (cases_option (map.get pairs other)) [
        | inl nothing ↦ nothing
        | inr some ↦ absurd (subst (λ (o : Option ℕ). NotBelow o other) none (counted_after other some.0 above some.1))
      ]

  pub first_after : (f : ℕ) (pair : Pair) → first ≡ Some f → serial < f → map.get pairs f ≡ Some pair → IsAfter pairs serial pair
  first_after f pair is above there =
      let its_own = own f pair there in
      record {
        there = ap (map.get pairs) its_own ∙ there;
        above = omega (arith, its_own);
        least = λ other higher lower.
            elim (cases_option (map.get pairs other)) [
              | inl nothing ↦ nothing
              | inr some ↦ (let counted : f ≤ other = subst (λ (o : Option ℕ). NotBelow o other) is (counted_after other some.0 higher some.1) in absurd (omega (arith, its_own)))
            ];
      }
