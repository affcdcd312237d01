-- One delivery after another, as the window sees them, and what that is in words that know no window.
use Rattle.std.proofs.Common.{◌≡◌, ℕ, zero, suc, ◌+◌, ◌<◌, ◌≤◌, Bool, true, false, List, [], ◌∷◌, ◌++◌, length, map, get_or, take, drop, refl, sym, ap, ◌∙◌, subst, arith, inl, inr, Some, None, Option, Result, Ok, Err}
use Rattle.std.specs.Prelude.{◌||◌, ◌&&◌, nat_eq, nat_lt, slice_get, max}
use Rattle.std.specs.Ordering.{nat_cmp}
use Rattle.std.specs.FinSet as set
use Rattle.std.proofs.lemmas.List.{append_assoc, take-map, map_more}
use Rattle.std.proofs.Math.Seq.{drop-append_seam}
use Rattle.std.proofs.lemmas.Bool.{and_left, and_cases, and_parts, and_from, ltb-true, lt-ltb, cases_Bool, false≢true, both_ways}
use Rattle.replay.specs.Window.{Seen, IsSoundWindow, Takes}
use Rattle.esp.specs.declared.sa.Sa.{Sa}
use Rattle.esp.specs.Packet.{PassesIntegrity}
use Rattle.esp.specs.Judging.{low_half, IsNumber, Judges}
use Rattle.esp.specs.Views.{Receiving}
use Rattle.esp.specs.Opening.{Answer, IsOpeningRefusal, Step, Run, TakesNumber}
use Rattle.esp.specs.Delivery.{greatest, all_taken, taken_after, History, taken_at, IsJudged, IsAnswerDue, AreAnswers, delivered_packets, delivered_answers, WantsWhereJudged, Shows, history, Deliveries, AnswersFirst, answers_since, AnswersGiven, JudgesAtMostOnce, JudgesExactlyAtFirst, AtMostOnce, ExactlyAtFirst, Unforged, IsStop}
use Rattle.std.specs.Prelude.{OnOk, IfErr}
use Rattle.esp.specs.declared.fault.ListFault.{ListFault}
use Rattle.esp.specs.declared.fault.ListStop.{ListStop}
use Rattle.esp.specs.declared.fault.EspFault.{EspFault}
use Rattle.esp.specs.declared.fault.EspFault.TheVariants.{Exhausted, PayloadSize, BadLength, Old, Replayed, BadNumber, BadIcv, BadPadding, Memory}
use Rattle.esp.proofs.NumberLemmas.{one_number_of, judged_as_one, judged_positive, contains-insert_nat, greatest-insert, greatest-is}
use Rattle.esp.proofs.HistoryLemmas.{at_most_once, exactly_at_first}

-- one more packet
pub run_more : (want : Type 0) (old : Receiving) (bs : List (List ℕ)) (rs : List Answer) (mid : Receiving) (b : List ℕ) (r : Answer) (new : Receiving)
    → Run want old bs rs mid → Step want mid b r new → Run want old (bs ++ b ∷ []) (rs ++ r ∷ []) new
run_more want old [] [] mid b r new run step = (new, subst (λ (o : Receiving). Step want o b r new) run step, refl)
run_more want old (x ∷ bs) (y ∷ rs) mid b r new run step = (run.0, run.1, run_more want run.0 bs rs mid b r new run.2 step)
run_more want old [] (y ∷ rs) mid b r new run step = absurd run
run_more want old (x ∷ bs) [] mid b r new run step = absurd run

-- a sequence number at one window is that at another with the same top and size
number_seen : (e : Bool) (w v : Seen) (low n : ℕ) → w.top ≡ v.top → w.size ≡ v.size → IsNumber e w low n → IsNumber e v low n
number_seen false w v low n top size h = h
number_seen true w v low n top size h = record {
  low_half = h.low_half;
  from_the_edge = let edge = h.from_the_edge in omega arith;
  one_cycle = let cycle = h.one_cycle in omega arith;
  not_zero = h.not_zero;
  fits = h.fits;
}

-- what a window that shows these sequence numbers says of a packet, they all say
module _ (w : Seen) (size : ℕ) (taken : set.FinSet nat_cmp) (shows : Shows w size taken) where
  number_all : (e : Bool) (low n : ℕ) → IsNumber e w low n → IsNumber e (all_taken size taken) low n
  number_all e low n h = number_seen e w (all_taken size taken) low n shows.top shows.size_kept h

  number_shown : (e : Bool) (low n : ℕ) → IsNumber e (all_taken size taken) low n → IsNumber e w low n
  number_shown e low n h = number_seen e (all_taken size taken) w low n (sym shows.top) (sym shows.size_kept) h

  reach_all : (n : ℕ) → w.top < n + w.size → greatest taken < n + size
  reach_all n h = let top = shows.top in let kept = shows.size_kept in omega arith

  not_shown : (n : ℕ) → w.top < n + w.size → set.contains w.taken n ≡ false → set.contains taken n ≡ false
  not_shown n reach h =
      let kept = shows.size_kept in
      elim (and_cases (set.contains taken n) (nat_lt w.top (n + size)) (sym (shows.in_span n) ∙ h)) [
        | inl absent ↦ absent
        | inr below ↦ absurd (both_ways _ below (lt-ltb w.top (n + size) (omega arith)))
      ]

  shown_taken : (n : ℕ) → set.contains w.taken n ≡ true → set.contains taken n ≡ true
  shown_taken n h = (and_parts (set.contains taken n) (nat_lt w.top (n + size)) (sym (shows.in_span n) ∙ h)).0

  judges_all : (a : Sa) (b : List ℕ) (n : ℕ) → Judges a w b n → Judges a (all_taken size taken) b n
  judges_all a b n j = record {
    whole = j.whole;
    number = number_all a.extended (low_half b) n j.number;
    in_reach = reach_all n j.in_reach;
    new = not_shown n j.in_reach j.new;
    intact = j.intact;
  }

  refuses_all : (a : Sa) (b : List ℕ) (e : EspFault) → IsOpeningRefusal a w b e → IsOpeningRefusal a (all_taken size taken) b e
  refuses_all a b BadLength h = h
  refuses_all a b BadNumber h = (h.0, λ n is. h.1 n (number_shown a.extended (low_half b) n is))
  refuses_all a b Old h = (h.0, (h.1.0, number_all a.extended (low_half b) h.1.0 h.1.1, (let below = h.1.2 in let top = shows.top in let kept = shows.size_kept in omega arith)))
  refuses_all a b Replayed h = (h.0, (h.1.0, number_all a.extended (low_half b) h.1.0 h.1.1, reach_all h.1.0 h.1.2, shown_taken h.1.0 h.1.3))
  refuses_all a b BadIcv h = (h.0, (h.1.0, number_all a.extended (low_half b) h.1.0 h.1.1, reach_all h.1.0 h.1.2, not_shown h.1.0 h.1.2 h.1.3, h.1.4))
  refuses_all a b Exhausted h = h
  refuses_all a b PayloadSize h = h
  refuses_all a b BadPadding h = h
  refuses_all a b Memory h = h

-- what is refused is judged as no sequence number
refused_unjudged : (a : Sa) (w : Seen) (b : List ℕ) (e : EspFault) → IsOpeningRefusal a w b e → (n : ℕ) → ¬ Judges a w b n
refused_unjudged a w b BadLength h n j = h j.whole
refused_unjudged a w b BadNumber h n j = h.1 n j.number
refused_unjudged a w b Old h n j =
    let same = one_number_of a.extended w (low_half b) h.1.0 n h.1.1 j.number in
    let below = h.1.2 in let reach = j.in_reach in omega arith
refused_unjudged a w b Replayed h n j =
    let same = one_number_of a.extended w (low_half b) n h.1.0 j.number h.1.1 in
    both_ways _ j.new (ap (set.contains w.taken) same ∙ h.1.3)
refused_unjudged a w b BadIcv h n j =
    let same = one_number_of a.extended w (low_half b) n h.1.0 j.number h.1.1 in
    h.1.4 (subst (λ (k : ℕ). PassesIntegrity a k b) same j.intact)
refused_unjudged a w b Exhausted h n j = h
refused_unjudged a w b PayloadSize h n j = h
refused_unjudged a w b BadPadding h n j = h
refused_unjudged a w b Memory h n j = h

same_in_span : (x y l m : Bool) → (m ≡ true → l ≡ true) → ((x || (y && l)) && m) ≡ ((x || y) && m)
same_in_span true y l m h = refl
same_in_span false true true m h = refl
same_in_span false false l m h = refl
same_in_span false true false true h = absurd (false≢true (h refl))
same_in_span false true false false h = refl

-- the window that took n shows the sequence numbers with n
pub takes_shown : (old new : Seen) (n size : ℕ) (taken : set.FinSet nat_cmp) → 1 ≤ n → Shows old size taken → Takes old n new → Shows new size (set.insert taken n)
takes_shown old new n size taken positive shows takes = record {
  top = takes.top ∙ ap (λ (t : ℕ). max t n) shows.top ∙ sym (greatest-insert taken n positive);
  size_kept = takes.size ∙ shows.size_kept;
  in_span = λ q.
      let sizes : new.size ≡ size = takes.size ∙ shows.size_kept in
      let tops = takes.top in
      let within : nat_lt new.top (q + size) ≡ true → nat_lt old.top (q + size) ≡ true =
      λ e. (let above = ltb-true new.top (q + size) e in lt-ltb old.top (q + size) (omega arith)) in
      takes.taken q
      ∙ ap (λ (s : ℕ). (nat_eq q n || set.contains old.taken q) && nat_lt new.top (q + s)) sizes
      ∙ ap (λ (c : Bool). (nat_eq q n || c) && nat_lt new.top (q + size)) (shows.in_span q)
      ∙ same_in_span (nat_eq q n) (set.contains taken q) (nat_lt old.top (q + size)) (nat_lt new.top (q + size)) within
      ∙ ap (λ (c : Bool). c && nat_lt new.top (q + size)) (sym (contains-insert_nat taken n q));
}

-- a sound window shows the sequence numbers that are in it
pub sound_shown : (w : Seen) → IsSoundWindow w → Shows w w.size w.taken
sound_shown w sound = record {
  top = greatest-is w.taken w.top sound.up_to_top sound.top_taken;
  size_kept = refl;
  in_span = λ n. elim (cases_Bool (set.contains w.taken n)) [
    | inl there ↦ there ∙ sym (and_from _ _ there (lt-ltb w.top (n + w.size) (sound.in_span n there)))
    | inr absent ↦ absent ∙ sym (and_left _ _ absent)
  ];
}

-- Packet by packet: each was judged as the sequence number beside it, or as none because no number judges it.
abbrev AreJudged : Sa → ℕ → set.FinSet nat_cmp → List (List ℕ) → List (Option ℕ) → Type 0
AreJudged a size taken [] [] = Unit {0}
AreJudged a size taken (b ∷ bs) (Some n ∷ ns) = Judges a (all_taken size taken) b n × AreJudged a size (set.insert taken n) bs ns
AreJudged a size taken (b ∷ bs) (None ∷ ns) = ((n : ℕ) → ¬ Judges a (all_taken size taken) b n) × AreJudged a size taken bs ns
AreJudged a size taken [] (n ∷ ns) = ⊥
AreJudged a size taken (b ∷ bs) [] = ⊥

-- packet by packet, the answers
abbrev AreDue : Sa → ℕ → set.FinSet nat_cmp → List (List ℕ) → List (Option ℕ) → List Answer → Type 0
AreDue a size taken [] [] [] = Unit {0}
AreDue a size taken (b ∷ bs) (n ∷ ns) (r ∷ rs) = IsAnswerDue a (all_taken size taken) b n r × AreDue a size (taken_after taken (n ∷ [])) bs ns rs
AreDue a size taken bs ns rs = ⊥

abbrev past : Sa → ℕ → set.FinSet nat_cmp → List (List ℕ) → List (Option ℕ) → History
past a size taken bs ns = record { association = a; size = size; before = taken; packets = bs; numbers = ns }

-- the same, by positions
judged_each : (a : Sa) (size : ℕ) (taken : set.FinSet nat_cmp) (bs : List (List ℕ)) (ns : List (Option ℕ)) → AreJudged a size taken bs ns → length ns ≡ length bs
judged_each a size taken [] [] h = refl
judged_each a size taken (b ∷ bs) (Some n ∷ ns) h = ap suc (judged_each a size (set.insert taken n) bs ns h.1)
judged_each a size taken (b ∷ bs) (None ∷ ns) h = ap suc (judged_each a size taken bs ns h.1)
judged_each a size taken [] (n ∷ ns) h = absurd h
judged_each a size taken (b ∷ bs) [] h = absurd h

judged_there : (a : Sa) (size : ℕ) (taken : set.FinSet nat_cmp) (bs : List (List ℕ)) (ns : List (Option ℕ)) (i n : ℕ) (packet : List ℕ)
    → AreJudged a size taken bs ns → slice_get bs i ≡ Some packet → slice_get ns i ≡ Some (Some n) → Judges a (taken_at (past a size taken bs ns) i) packet n
judged_there a size taken [] ns i n packet h e at = absurd (cc)
judged_there a size taken (b ∷ bs) [] i n packet h e at = absurd h
judged_there a size taken (b ∷ bs) (Some m ∷ ns) zero n packet h e at =
    let same : m ≡ n = cc in
    let same_packet : b ≡ packet = cc in
    let at_n : Judges a (all_taken size taken) b n = subst (λ (k : ℕ). Judges a (all_taken size taken) b k) same h.0 in
    subst (λ (p : List ℕ). Judges a (all_taken size taken) p n) same_packet at_n
judged_there a size taken (b ∷ bs) (None ∷ ns) zero n packet h e at = absurd (cc)
judged_there a size taken (b ∷ bs) (Some m ∷ ns) (suc i) n packet h e at = judged_there a size (set.insert taken m) bs ns i n packet h.1 e at
judged_there a size taken (b ∷ bs) (None ∷ ns) (suc i) n packet h e at = judged_there a size taken bs ns i n packet h.1 e at

judges_there : (a : Sa) (size : ℕ) (taken : set.FinSet nat_cmp) (bs : List (List ℕ)) (ns : List (Option ℕ)) (i n : ℕ) (packet : List ℕ)
    → AreJudged a size taken bs ns → slice_get bs i ≡ Some packet → Judges a (taken_at (past a size taken bs ns) i) packet n → slice_get ns i ≡ Some (Some n)
judges_there a size taken [] ns i n packet h e j = absurd (cc)
judges_there a size taken (b ∷ bs) [] i n packet h e j = absurd h
judges_there a size taken (b ∷ bs) (Some m ∷ ns) zero n packet h e j =
    let same : packet ≡ b = cc in
    let j' : Judges a (all_taken size taken) b n = subst (λ (p : List ℕ). Judges a (all_taken size taken) p n) same j in
    ap (λ (k : ℕ). Some (Some k)) (judged_as_one a (all_taken size taken) b m n h.0 j')
judges_there a size taken (b ∷ bs) (None ∷ ns) zero n packet h e j =
    let same : packet ≡ b = cc in
    absurd (h.0 n (subst (λ (p : List ℕ). Judges a (all_taken size taken) p n) same j))
judges_there a size taken (b ∷ bs) (Some m ∷ ns) (suc i) n packet h e j = judges_there a size (set.insert taken m) bs ns i n packet h.1 e j
judges_there a size taken (b ∷ bs) (None ∷ ns) (suc i) n packet h e j = judges_there a size taken bs ns i n packet h.1 e j

is_judged : (a : Sa) (size : ℕ) (taken : set.FinSet nat_cmp) (bs : List (List ℕ)) (ns : List (Option ℕ)) → AreJudged a size taken bs ns → IsJudged (past a size taken bs ns)
is_judged a size taken bs ns h = record {
  each = judged_each a size taken bs ns h;
  judged = λ i n b e. (judged_there a size taken bs ns i n b h e, judges_there a size taken bs ns i n b h e);
}

due_each : (a : Sa) (size : ℕ) (taken : set.FinSet nat_cmp) (bs : List (List ℕ)) (ns : List (Option ℕ)) (rs : List Answer) → AreDue a size taken bs ns rs → length rs ≡ length bs
due_each a size taken [] [] [] h = refl
due_each a size taken (b ∷ bs) (n ∷ ns) (r ∷ rs) h = ap suc (due_each a size (taken_after taken (n ∷ [])) bs ns rs h.1)
due_each a size taken [] [] (r ∷ rs) h = absurd h
due_each a size taken [] (n ∷ ns) rs h = absurd h
due_each a size taken (b ∷ bs) [] rs h = absurd h
due_each a size taken (b ∷ bs) (n ∷ ns) [] h = absurd h

-- what is taken after one more sequence number in front
taken_one_more : (taken : set.FinSet nat_cmp) (n : Option ℕ) (ns : List (Option ℕ)) → taken_after (taken_after taken (n ∷ [])) ns ≡ taken_after taken (n ∷ ns)
taken_one_more taken None ns = refl
taken_one_more taken (Some n) ns = refl

due_there : (a : Sa) (size : ℕ) (taken : set.FinSet nat_cmp) (bs : List (List ℕ)) (ns : List (Option ℕ)) (rs : List Answer) (i : ℕ) (b : List ℕ) (n : Option ℕ) (r : Answer)
    → AreDue a size taken bs ns rs → slice_get bs i ≡ Some b → slice_get ns i ≡ Some n → slice_get rs i ≡ Some r → IsAnswerDue a (taken_at (past a size taken bs ns) i) b n r
due_there a size taken [] ns rs i b n r h e at is = absurd (cc)
due_there a size taken (x ∷ bs) [] rs i b n r h e at is = absurd (cc)
due_there a size taken (x ∷ bs) (m ∷ ns) [] i b n r h e at is = absurd (cc)
due_there a size taken (x ∷ bs) (m ∷ ns) (s ∷ rs) zero b n r h e at is =
    let same_packet : x ≡ b = cc in
    let same_number : m ≡ n = cc in
    let same_answer : s ≡ r = cc in
    let one : IsAnswerDue a (all_taken size taken) b m s = subst (λ (p : List ℕ). IsAnswerDue a (all_taken size taken) p m s) same_packet h.0 in
    let two : IsAnswerDue a (all_taken size taken) b n s = subst (λ (k : Option ℕ). IsAnswerDue a (all_taken size taken) b k s) same_number one in
    subst (λ (q : Answer). IsAnswerDue a (all_taken size taken) b n q) same_answer two
due_there a size taken (x ∷ bs) (m ∷ ns) (s ∷ rs) (suc i) b n r h e at is =
    subst (λ (t : set.FinSet nat_cmp). IsAnswerDue a (all_taken size t) b n r) (taken_one_more taken m (take i ns))
    (due_there a size (taken_after taken (m ∷ [])) bs ns rs i b n r h.1 e at is)

are_answers : (a : Sa) (size : ℕ) (taken : set.FinSet nat_cmp) (bs : List (List ℕ)) (ns : List (Option ℕ)) (rs : List Answer) → AreDue a size taken bs ns rs → AreAnswers (past a size taken bs ns) rs
are_answers a size taken bs ns rs h = record {
  each = due_each a size taken bs ns rs h;
  due = λ i b n r e at is. due_there a size taken bs ns rs i b n r h e at is;
}

-- What a run is, at a receiver whose window shows these sequence numbers.
record Outcome (want : Type 0) (a : Sa) (size : ℕ) (taken : set.FinSet nat_cmp) (bs : List (List ℕ)) (rs : List Answer) (new : Receiving) : Type 0 where
  numbers : List (Option ℕ)
  judged : AreJudged a size taken (delivered_packets bs rs) numbers
  due : AreDue a size taken (delivered_packets bs rs) numbers (delivered_answers rs)
  memory : WantsWhereJudged want a size taken bs rs numbers
  association : new.association ≡ a
  window : Shows new.window size (taken_after taken numbers)

-- A receiver of this SA whose window shows these sequence numbers.
record Stands (r : Receiving) (a : Sa) (size : ℕ) (taken : set.FinSet nat_cmp) : Type 0 where
  association : r.association ≡ a
  window : Shows r.window size taken

module _ (a : Sa) (size : ℕ) (taken : set.FinSet nat_cmp) (r : Receiving) (stands : Stands r a size taken) where
  judges_stands : (b : List ℕ) (n : ℕ) → Judges r.association r.window b n → Judges a (all_taken size taken) b n
  judges_stands b n j = subst (λ (x : Sa). Judges x (all_taken size taken) b n) stands.association (judges_all r.window size taken stands.window r.association b n j)

  refusal_stands : (b : List ℕ) (e : EspFault) → IsOpeningRefusal r.association r.window b e → IsOpeningRefusal a (all_taken size taken) b e
  refusal_stands b e h = subst (λ (x : Sa). IsOpeningRefusal x (all_taken size taken) b e) stands.association (refuses_all r.window size taken stands.window r.association b e h)

  takes_stands : (n : ℕ) (new : Receiving) → 1 ≤ n → TakesNumber r n new → Stands new a size (set.insert taken n)
  takes_stands n new positive t = record {
    association = t.association ∙ stands.association;
    window = takes_shown r.window new.window n size taken positive stands.window t.window;
  }

  moved : (new : Receiving) → new ≡ r → Stands new a size taken
  moved new same = subst (λ (q : Receiving). Stands q a size taken) (sym same) stands

module _ (want : Type 0) (a : Sa) (size : ℕ) where
  -- a packet in front that was refused, and is judged as no sequence number
  without_number : (taken : set.FinSet nat_cmp) (b : List ℕ) (e : EspFault) (bs : List (List ℕ)) (rs : List Answer) (new : Receiving) → IsOpeningRefusal a (all_taken size taken) b e
      → delivered_packets (b ∷ bs) (Err e ∷ rs) ≡ b ∷ delivered_packets bs rs → delivered_answers (Err e ∷ rs) ≡ Err e ∷ delivered_answers rs
      → ((ns : List (Option ℕ)) → WantsWhereJudged want a size taken bs rs ns → WantsWhereJudged want a size taken (b ∷ bs) (Err e ∷ rs) (None ∷ ns))
      → Outcome want a size taken bs rs new → Outcome want a size taken (b ∷ bs) (Err e ∷ rs) new
  without_number taken b e bs rs new h packets answers wants o =
      let judged : AreJudged a size taken (b ∷ delivered_packets bs rs) (None ∷ o.numbers) = (refused_unjudged a (all_taken size taken) b e h, o.judged) in
      let due : AreDue a size taken (b ∷ delivered_packets bs rs) (None ∷ o.numbers) (Err e ∷ delivered_answers rs) = (h, o.due) in
      let due' : AreDue a size taken (b ∷ delivered_packets bs rs) (None ∷ o.numbers) (delivered_answers (Err e ∷ rs)) =
      subst (λ (qs : List Answer). AreDue a size taken (b ∷ delivered_packets bs rs) (None ∷ o.numbers) qs) (sym answers) due in
      record {
        numbers = None ∷ o.numbers;
        judged = subst (λ (ps : List (List ℕ)). AreJudged a size taken ps (None ∷ o.numbers)) (sym packets) judged;
        due = subst (λ (ps : List (List ℕ)). AreDue a size taken ps (None ∷ o.numbers) (delivered_answers (Err e ∷ rs))) (sym packets) due';
        memory = wants o.numbers o.memory;
        association = o.association;
        window = o.window;
      }

  outcome : (taken : set.FinSet nat_cmp) (old : Receiving) (bs : List (List ℕ)) (rs : List Answer) (new : Receiving)
      → Stands old a size taken → Run want old bs rs new → Outcome want a size taken bs rs new
  outcome taken old [] [] new stands run = record {
    numbers = [];
    judged = tt;
    due = tt;
    memory = tt;
    association = ap (λ (r : Receiving). r.association) run ∙ stands.association;
    window = subst (λ (r : Receiving). Shows r.window size taken) (sym run) stands.window;
  }
  outcome taken old [] (r ∷ rs) new stands run = absurd run
  outcome taken old (b ∷ bs) [] new stands run = absurd run
  outcome taken old (b ∷ bs) (Ok up ∷ rs) new stands run =
      let n = up.number in
      let handed = run.1 in
      let j = judges_stands a size taken old stands b n handed.judged in
      let positive = judged_positive a (all_taken size taken) b n j in
      let o = outcome (set.insert taken n) run.0 bs rs new (takes_stands a size taken old stands n run.0 positive handed.taken) run.2 in
      record {
        numbers = Some n ∷ o.numbers;
        judged = (j, o.judged);
        due = ((refl, handed.contents), o.due);
        memory = o.memory;
        association = o.association;
        window = o.window;
      }
  outcome taken old (b ∷ bs) (Err BadPadding ∷ rs) new stands run =
      let n = run.1.0 in
      let wasted = run.1.1 in
      let j = judges_stands a size taken old stands b n wasted.judged in
      let positive = judged_positive a (all_taken size taken) b n j in
      let o = outcome (set.insert taken n) run.0 bs rs new (takes_stands a size taken old stands n run.0 positive wasted.taken) run.2 in
      record {
        numbers = Some n ∷ o.numbers;
        judged = (j, o.judged);
        due = (wasted.contents, o.due);
        memory = o.memory;
        association = o.association;
        window = o.window;
      }
  outcome taken old (b ∷ bs) (Err Memory ∷ rs) new stands run =
      let o = outcome taken run.0 bs rs new (moved a size taken old stands run.0 run.1.2) run.2 in
      record {
        numbers = o.numbers;
        judged = o.judged;
        due = o.due;
        memory = (run.1.0, (run.1.1.0, judges_stands a size taken old stands b run.1.1.0 run.1.1.1), o.memory);
        association = o.association;
        window = o.window;
      }
  outcome taken old (b ∷ bs) (Err BadLength ∷ rs) new stands run =
      without_number taken b BadLength bs rs new (refusal_stands a size taken old stands b BadLength run.1.0) refl refl (λ ns m. m) (outcome taken run.0 bs rs new (moved a size taken old stands run.0 run.1.1) run.2)
  outcome taken old (b ∷ bs) (Err BadNumber ∷ rs) new stands run =
      without_number taken b BadNumber bs rs new (refusal_stands a size taken old stands b BadNumber run.1.0) refl refl (λ ns m. m) (outcome taken run.0 bs rs new (moved a size taken old stands run.0 run.1.1) run.2)
  outcome taken old (b ∷ bs) (Err Old ∷ rs) new stands run =
      without_number taken b Old bs rs new (refusal_stands a size taken old stands b Old run.1.0) refl refl (λ ns m. m) (outcome taken run.0 bs rs new (moved a size taken old stands run.0 run.1.1) run.2)
  outcome taken old (b ∷ bs) (Err Replayed ∷ rs) new stands run =
      without_number taken b Replayed bs rs new (refusal_stands a size taken old stands b Replayed run.1.0) refl refl (λ ns m. m) (outcome taken run.0 bs rs new (moved a size taken old stands run.0 run.1.1) run.2)
  outcome taken old (b ∷ bs) (Err BadIcv ∷ rs) new stands run =
      without_number taken b BadIcv bs rs new (refusal_stands a size taken old stands b BadIcv run.1.0) refl refl (λ ns m. m) (outcome taken run.0 bs rs new (moved a size taken old stands run.0 run.1.1) run.2)
  outcome taken old (b ∷ bs) (Err Exhausted ∷ rs) new stands run = absurd run.1.0
  outcome taken old (b ∷ bs) (Err PayloadSize ∷ rs) new stands run = absurd run.1.0

-- one run after another
pub run_joined : (want : Type 0) (old : Receiving) (bs : List (List ℕ)) (rs : List Answer) (mid : Receiving) (cs : List (List ℕ)) (qs : List Answer) (new : Receiving)
    → Run want old bs rs mid → Run want mid cs qs new → Run want old (bs ++ cs) (rs ++ qs) new
run_joined want old [] [] mid cs qs new run next = subst (λ (o : Receiving). Run want o cs qs new) run next
run_joined want old (b ∷ bs) (r ∷ rs) mid cs qs new run next = (run.0, run.1, run_joined want run.0 bs rs mid cs qs new run.2 next)
run_joined want old [] (r ∷ rs) mid cs qs new run next = absurd run
run_joined want old (b ∷ bs) [] mid cs qs new run next = absurd run

-- each packet of a run has its answer
run_each : (want : Type 0) (old : Receiving) (bs : List (List ℕ)) (rs : List Answer) (new : Receiving) → Run want old bs rs new → length rs ≡ length bs
run_each want old [] [] new run = refl
run_each want old (b ∷ bs) (r ∷ rs) new run = ap suc (run_each want run.0 bs rs new run.2)
run_each want old [] (r ∷ rs) new run = absurd run
run_each want old (b ∷ bs) [] new run = absurd run

-- the theorem on a list of deliveries
pub deliveries : (want : Type 0) (old : Receiving) (packets : List (List ℕ)) (answers : List Answer) (new : Receiving)
    → IsSoundWindow old.window → Run want old packets answers new → Deliveries want old packets answers new
deliveries want old packets answers new sound run =
    let a = old.association in
    let size = old.window.size in
    let taken = old.window.taken in
    let stands : Stands old a size taken = record { association = refl; window = sound_shown old.window sound } in
    let o = outcome want a size taken old packets answers new stands run in
    let judged = is_judged a size taken (delivered_packets packets answers) o.numbers o.judged in
    record {
      each_answered = run_each want old packets answers new run;
      numbers = o.numbers;
      judged = judged;
      answers_due = are_answers a size taken (delivered_packets packets answers) o.numbers (delivered_answers answers) o.due;
      memory = o.memory;
      at_most_once = at_most_once (history old (delivered_packets packets answers) o.numbers) judged;
      exactly_at_first = λ sent unforged. exactly_at_first (history old (delivered_packets packets answers) o.numbers) judged sent unforged;
      association = o.association;
      window = o.window;
    }

-- a step keeps the SA
pub step_keeps : (want : Type 0) (old : Receiving) (b : List ℕ) (r : Answer) (new : Receiving) → Step want old b r new → new.association ≡ old.association
step_keeps want old b (Ok o) new s = s.taken.association
step_keeps want old b (Err BadPadding) new s = s.1.taken.association
step_keeps want old b (Err Memory) new s = ap (λ (r : Receiving). r.association) s.2
step_keeps want old b (Err BadLength) new s = ap (λ (r : Receiving). r.association) s.1
step_keeps want old b (Err BadNumber) new s = ap (λ (r : Receiving). r.association) s.1
step_keeps want old b (Err Old) new s = ap (λ (r : Receiving). r.association) s.1
step_keeps want old b (Err Replayed) new s = ap (λ (r : Receiving). r.association) s.1
step_keeps want old b (Err BadIcv) new s = ap (λ (r : Receiving). r.association) s.1
step_keeps want old b (Err Exhausted) new s = absurd s.0
step_keeps want old b (Err PayloadSize) new s = absurd s.0

-- one more of a list in its image
pub take-map_more : {X : Type 0} (f : X → List ℕ) (xs : List X) (i : ℕ) (d : X) → i < length xs → take (i + 1) (map f xs) ≡ take i (map f xs) ++ f (get_or xs i d) ∷ []
take-map_more f xs i d h =
    take-map f (i + 1) xs ∙ map_more f xs i d h ∙ ap (λ (ys : List (List ℕ)). ys ++ f (get_or xs i d) ∷ []) (sym (take-map f i xs))

-- the answers to the first packets, once they are delivered
pub answers_first : (want : Type 0) (k : ℕ) (old : Receiving) (packets : List (List ℕ)) (before : List Answer) (new : Receiving) (after answers : List Answer)
    → IsSoundWindow old.window → after ≡ before ++ answers → length answers ≡ k → Run want old (take k packets) answers new → AnswersFirst want k old packets before new after
answers_first want k old packets before new after answers sound appended count run = record {
  answers = answers;
  appended = appended;
  count = count;
  run = run;
  deliveries = deliveries want old (take k packets) answers new sound run;
}

-- one more element
pub pushed : {X : Type 0} (start front mid after : List X) (x : X) → after ≡ mid ++ x ∷ [] → mid ≡ start ++ front → after ≡ start ++ (front ++ x ∷ [])
pushed start front mid after x is before = is ∙ ap (λ (xs : List _). xs ++ x ∷ []) before ∙ append_assoc start front (x ∷ [])

-- packets behind those that have an answer don't count
counted_front : (packets : List (List ℕ)) (answers : List Answer) → delivered_packets (take (length answers) packets) answers ≡ delivered_packets packets answers
counted_front [] [] = refl
counted_front [] (r ∷ rs) = refl
counted_front (b ∷ bs) [] = refl
counted_front (b ∷ bs) (Err Memory ∷ rs) = counted_front bs rs
counted_front (b ∷ bs) (r ∷ rs) = ap (λ (xs : List (List ℕ)). b ∷ xs) (counted_front bs rs)

-- the packets that count are those of the first k, of which each has an answer
counted : (k : ℕ) (packets : List (List ℕ)) (before after answers : List Answer) → after ≡ before ++ answers → length answers ≡ k
    → delivered_packets (take k packets) answers ≡ delivered_packets packets (answers_since before after)
counted k packets before after answers appended count =
    let since : answers_since before after ≡ answers = ap (λ (xs : List Answer). drop (length before) xs) appended ∙ drop-append_seam before answers in
    ap (λ (n : ℕ). delivered_packets (take n packets) answers) (sym count)
    ∙ counted_front packets answers
    ∙ ap (λ (xs : List Answer). delivered_packets packets xs) (sym since)

abbrev given : {want : Type 0} {k : ℕ} {old : Receiving} {packets : List (List ℕ)} {before : List Answer} {new : Receiving} {after : List Answer}
    → AnswersFirst want k old packets before new after → AnswersGiven old packets (answers_since before after)
given {want} {k} {old} {packets} {before} {new} {after} a =
    let same = counted k packets before after a.answers a.appended a.count in
    let since : answers_since before after ≡ a.answers = ap (λ (xs : List Answer). drop (length before) xs) a.appended ∙ drop-append_seam before a.answers in
    record {
      numbers = a.deliveries.numbers;
      judged = subst (λ (ps : List (List ℕ)). IsJudged (history old ps a.deliveries.numbers)) same a.deliveries.judged;
      answers_due = subst (λ (xs : List Answer). AreAnswers (history old (delivered_packets packets (answers_since before after)) a.deliveries.numbers) (delivered_answers xs)) (sym since)
          (subst (λ (ps : List (List ℕ)). AreAnswers (history old ps a.deliveries.numbers) (delivered_answers a.answers)) same a.deliveries.answers_due);
    }

pub once : {want : Type 0} {k : ℕ} {old : Receiving} {packets : List (List ℕ)} {before : List Answer} {new : Receiving} {after : List Answer}
    → AnswersFirst want k old packets before new after → JudgesAtMostOnce old packets (answers_since before after)
once {want} {k} {old} {packets} {before} {new} {after} a =
    let same = counted k packets before after a.answers a.appended a.count in
    record {
      given = given a;
      at_most_once = subst (λ (ps : List (List ℕ)). AtMostOnce (history old ps a.deliveries.numbers)) same a.deliveries.at_most_once;
    }

pub at_first : {want : Type 0} {k : ℕ} {old : Receiving} {packets : List (List ℕ)} {before : List Answer} {new : Receiving} {after : List Answer}
    → AnswersFirst want k old packets before new after → JudgesExactlyAtFirst old packets (answers_since before after)
at_first {want} {k} {old} {packets} {before} {new} {after} a =
    let same = counted k packets before after a.answers a.appended a.count in
    record {
      given = given a;
      exactly_at_first = λ sent. subst (λ (ps : List (List ℕ)). Unforged (history old ps a.deliveries.numbers) sent → ExactlyAtFirst (history old ps a.deliveries.numbers) sent) same (a.deliveries.exactly_at_first sent);
    }

-- whether all packets have an answer or only the first ones
pub once_by : (want : Type 0) (old : Receiving) (packets : List (List ℕ)) (before : List Answer) (new : Receiving) (after : List Answer) (k : ℕ)
    (r : Result (Unit {0}) (ListStop ListFault)) → OnOk r (AnswersFirst want k old packets before new after) → IfErr r (λ stop. IsStop want old packets before stop new after)
    → JudgesAtMostOnce old packets (answers_since before after)
once_by want old packets before new after k (Ok u) all stopped = once all
once_by want old packets before new after k (Err stop) all stopped = once stopped.first

pub at_first_by : (want : Type 0) (old : Receiving) (packets : List (List ℕ)) (before : List Answer) (new : Receiving) (after : List Answer) (k : ℕ)
    (r : Result (Unit {0}) (ListStop ListFault)) → OnOk r (AnswersFirst want k old packets before new after) → IfErr r (λ stop. IsStop want old packets before stop new after)
    → JudgesExactlyAtFirst old packets (answers_since before after)
at_first_by want old packets before new after k (Ok u) all stopped = at_first all
at_first_by want old packets before new after k (Err stop) all stopped = at_first stopped.first
