-- What a packet is to a receiver is determined: its sequence number, what it carries, and what is left
-- behind.
use Rattle.std.proofs.Common.{◌≡◌, ◌⊎◌, ◌&&◌, ◌||◌, ℕ, ◌+◌, Bool, Some, nat_eq, nat_lt, refl, sym, ap, ◌∙◌, subst, arith, inl, inr}
use Rattle.std.proofs.lemmas.Bool.{both_ways}
use Rattle.std.specs.Cmp.{nat_cmp_total}
use Rattle.std.specs.FinMap as map
use Rattle.std.specs.FinSet as set
use Rattle.std.specs.Option.{unwrap_or}
use Rattle.base.specs.Octets.{Octets}
use Rattle.replay.specs.Window.{Seen, Takes}
use Rattle.esp.specs.declared.sa.Sa.{Sa}
use Rattle.esp.specs.Judging.{IsNumber, Judges, low_half}
use Rattle.esp.specs.Packet.{IsContents, PassesIntegrity}
use Rattle.esp.specs.Opening.{HandsUp, IsOpeningRefusal, Refuses, TakesNumber, WastesNumber}
use Rattle.esp.specs.Views.{Receiving}
use Rattle.esp.specs.declared.fault.EspFault.{EspFault}
use Rattle.esp.specs.declared.fault.EspFault.TheVariants.{Exhausted, PayloadSize, BadLength, Old, Replayed, BadNumber, BadIcv, BadPadding, Memory}
use Rattle.sadb.specs.Database.{Database, OpensAt, RefusesAt}
use Rattle.sadb.specs.declared.pair.Pair.{Pair}

-- what esp's laws say of a packet: its sequence number, and what it carries
pub record PacketFacts : Type 0 where
  pub number : (e : Bool) (w : Seen) (low n m : ℕ) → IsNumber e w low n → IsNumber e w low m → n ≡ m
  pub judged : (a : Sa) (w : Seen) (b : Octets) (n m : ℕ) → Judges a w b n → Judges a w b m → n ≡ m
  pub contents : (b : Octets) (next other : ℕ) (payload another : Octets) → IsContents b next payload → IsContents b other another
      → (other ≡ next) × (another ≡ payload)

same_window : (a b : Seen) → a.top ≡ b.top → a.size ≡ b.size → a.taken ≡ b.taken → a ≡ b
same_window a b top size taken = λ i. record { top = top i; size = size i; taken = taken i }

-- the members of a window that took a sequence number, by its top and size
abbrev taken_in : Seen → ℕ → ℕ → ℕ → ℕ → Bool
taken_in old n top size q = (nat_eq q n || set.contains old.taken q) && nat_lt top (q + size)

one_window : (old : Seen) (n : ℕ) (a b : Seen) → Takes old n a → Takes old n b → a ≡ b
one_window old n a b first second =
    let top : a.top ≡ b.top = first.top ∙ sym second.top in
    let size : a.size ≡ b.size = first.size ∙ sym second.size in
    same_window a b top size (set.same_set nat_cmp_total set.nat_cmp-IsAntisymmetric a.taken b.taken
    (λ q. first.taken q ∙ (λ i. taken_in old n (top i) (size i) q) ∙ sym (second.taken q)))

one_taking : (old : Receiving) (n : ℕ) (a b : Receiving) → TakesNumber old n a → TakesNumber old n b → a ≡ b
one_taking old n a b first second =
    let association : a.association ≡ b.association = first.association ∙ sym second.association in
    let window : a.window ≡ b.window = one_window old.window n a.window b.window first.window second.window in
    λ i. record { association = association i; window = window i }

-- what comes of one packet at one end
record IsSameOpening (n n' next next' : ℕ) (payload payload' : Octets) (new new' : Receiving) : Type 0 where
  number : n ≡ n'
  next_is : next ≡ next'
  payload_is : payload ≡ payload'
  new_is : new ≡ new'

one_opening : PacketFacts → (r : Receiving) (b : Octets) (n n' next next' : ℕ) (payload payload' : Octets) (new new' : Receiving)
    → HandsUp r b n next payload new → HandsUp r b n' next' payload' new' → IsSameOpening n n' next next' payload payload' new new'
one_opening facts r b n n' next next' payload payload' new new' first second =
    let number : n ≡ n' = facts.judged r.association r.window b n n' first.judged second.judged in
    let contents = facts.contents b next' next payload' payload second.contents first.contents in
    record {
      number = number;
      next_is = contents.0;
      payload_is = contents.1;
      new_is = one_taking r n new new' first.taken (subst (λ k. TakesNumber r k new') (sym number) second.taken);
    }

-- a packet that is judged isn't refused before
pub judged_anyway : PacketFacts → (a : Sa) (w : Seen) (b : Octets) (n : ℕ) (e : EspFault) → Judges a w b n → IsOpeningRefusal a w b e → ⊥
judged_anyway facts a w b n BadLength j is = is j.whole
judged_anyway facts a w b n BadNumber j is = is.1 n j.number
judged_anyway facts a w b n Old j is =
    let same = facts.number a.extended w (low_half b) is.1.0 n is.1.1 j.number in
    let below = is.1.2 in let reach = j.in_reach in omega arith
judged_anyway facts a w b n Replayed j is =
    let same = facts.number a.extended w (low_half b) n is.1.0 j.number is.1.1 in
    both_ways _ j.new (ap (set.contains w.taken) same ∙ is.1.3)
judged_anyway facts a w b n BadIcv j is =
    let same = facts.number a.extended w (low_half b) n is.1.0 j.number is.1.1 in
    is.1.4 (subst (λ (k : ℕ). PassesIntegrity a k b) same j.intact)
judged_anyway facts a w b n Exhausted j is = is
judged_anyway facts a w b n PayloadSize j is = is
judged_anyway facts a w b n BadPadding j is = is
judged_anyway facts a w b n Memory j is = is

-- a packet that isn't judged has one refusal
module _ (facts : PacketFacts) (a : Sa) (w : Seen) (b : Octets) where
  same_number : (n m : ℕ) → IsNumber a.extended w (low_half b) n → IsNumber a.extended w (low_half b) m → n ≡ m
  same_number n m first second = facts.number a.extended w (low_half b) n m first second

  one_refusal : (e f : EspFault) → IsOpeningRefusal a w b e → IsOpeningRefusal a w b f → e ≡ f
  one_refusal BadLength BadLength x y = refl
  one_refusal BadLength BadNumber x y = absurd (x y.0)
  one_refusal BadLength Old x y = absurd (x y.0)
  one_refusal BadLength Replayed x y = absurd (x y.0)
  one_refusal BadLength BadIcv x y = absurd (x y.0)
  one_refusal BadNumber BadLength x y = absurd (y x.0)
  one_refusal BadNumber BadNumber x y = refl
  one_refusal BadNumber Old x y = absurd (x.1 y.1.0 y.1.1)
  one_refusal BadNumber Replayed x y = absurd (x.1 y.1.0 y.1.1)
  one_refusal BadNumber BadIcv x y = absurd (x.1 y.1.0 y.1.1)
  one_refusal Old BadLength x y = absurd (y x.0)
  one_refusal Old BadNumber x y = absurd (y.1 x.1.0 x.1.1)
  one_refusal Old Old x y = refl
  one_refusal Old Replayed x y = absurd (let same = same_number x.1.0 y.1.0 x.1.1 y.1.1 in let below = x.1.2 in let above = y.1.2 in omega arith)
  one_refusal Old BadIcv x y = absurd (let same = same_number x.1.0 y.1.0 x.1.1 y.1.1 in let below = x.1.2 in let above = y.1.2 in omega arith)
  one_refusal Replayed BadLength x y = absurd (y x.0)
  one_refusal Replayed BadNumber x y = absurd (y.1 x.1.0 x.1.1)
  one_refusal Replayed Old x y = absurd (let same = same_number x.1.0 y.1.0 x.1.1 y.1.1 in let above = x.1.2 in let below = y.1.2 in omega arith)
  one_refusal Replayed Replayed x y = refl
  one_refusal Replayed BadIcv x y = absurd (both_ways _ (ap (set.contains w.taken) (same_number x.1.0 y.1.0 x.1.1 y.1.1) ∙ y.1.3) x.1.3)
  one_refusal BadIcv BadLength x y = absurd (y x.0)
  one_refusal BadIcv BadNumber x y = absurd (y.1 x.1.0 x.1.1)
  one_refusal BadIcv Old x y = absurd (let same = same_number x.1.0 y.1.0 x.1.1 y.1.1 in let above = x.1.2 in let below = y.1.2 in omega arith)
  one_refusal BadIcv Replayed x y = absurd (both_ways _ x.1.3 (ap (set.contains w.taken) (same_number x.1.0 y.1.0 x.1.1 y.1.1) ∙ y.1.3))
  one_refusal BadIcv BadIcv x y = refl
  one_refusal Exhausted f x y = absurd x
  one_refusal PayloadSize f x y = absurd x
  one_refusal BadPadding f x y = absurd x
  one_refusal Memory f x y = absurd x
  one_refusal e Exhausted x y = absurd y
  one_refusal e PayloadSize x y = absurd y
  one_refusal e BadPadding x y = absurd y
  one_refusal e Memory x y = absurd y

-- a refusal is before judging, with nothing changed, or for the padding
pub record IsBefore (r : Receiving) (b : Octets) (e : EspFault) (new : Receiving) : Type 0 where
  pub refusal : IsOpeningRefusal r.association r.window b e
  pub unchanged : new ≡ r

pub record IsWasted (r : Receiving) (b : Octets) (e : EspFault) (new : Receiving) : Type 0 where
  pub padding : e ≡ BadPadding
  pub number : ℕ
  pub wasted : WastesNumber r b number new

pub before_or_wasted : (r : Receiving) (b : Octets) (e : EspFault) (new : Receiving) → Refuses ⊥ r b e new → IsBefore r b e new ⊎ IsWasted r b e new
before_or_wasted r b BadPadding new is = inr (record { padding = refl; number = is.0; wasted = is.1 })
before_or_wasted r b Memory new is = absurd is.0
before_or_wasted r b BadLength new is = inl (record { refusal = is.0; unchanged = is.1 })
before_or_wasted r b BadNumber new is = inl (record { refusal = is.0; unchanged = is.1 })
before_or_wasted r b Old new is = inl (record { refusal = is.0; unchanged = is.1 })
before_or_wasted r b Replayed new is = inl (record { refusal = is.0; unchanged = is.1 })
before_or_wasted r b BadIcv new is = inl (record { refusal = is.0; unchanged = is.1 })
before_or_wasted r b Exhausted new is = inl (record { refusal = is.0; unchanged = is.1 })
before_or_wasted r b PayloadSize new is = inl (record { refusal = is.0; unchanged = is.1 })

one_refused_end : PacketFacts → (r : Receiving) (b : Octets) (e f : EspFault) (x y : Receiving) → IsBefore r b e x ⊎ IsWasted r b e x → IsBefore r b f y ⊎ IsWasted r b f y
    → (e ≡ f) × (x ≡ y)
one_refused_end facts r b e f x y (inl first) (inl second) =
    (one_refusal facts r.association r.window b e f first.refusal second.refusal, first.unchanged ∙ sym second.unchanged)
one_refused_end facts r b e f x y (inl first) (inr second) =
    absurd (judged_anyway facts r.association r.window b second.number e second.wasted.judged first.refusal)
one_refused_end facts r b e f x y (inr first) (inl second) =
    absurd (judged_anyway facts r.association r.window b first.number f first.wasted.judged second.refusal)
one_refused_end facts r b e f x y (inr first) (inr second) =
    let number : first.number ≡ second.number = facts.judged r.association r.window b first.number second.number first.wasted.judged second.wasted.judged in (
      first.padding ∙ sym second.padding,
      one_taking r first.number x y first.wasted.taken (subst (λ k. TakesNumber r k y) (sym number) second.wasted.taken),
    )

not_both_ends : PacketFacts → (r : Receiving) (b : Octets) (n next : ℕ) (payload : Octets) (x : Receiving) (e : EspFault) (y : Receiving)
    → HandsUp r b n next payload x → IsBefore r b e y ⊎ IsWasted r b e y → ⊥
not_both_ends facts r b n next payload x e y up (inl before) = judged_anyway facts r.association r.window b n e up.judged before.refusal
not_both_ends facts r b n next payload x e y up (inr wasted) = wasted.wasted.contents next payload up.contents

-- ---- the same of an SA pair in the table

pub same_pair : (a b : Pair) → Some a ≡ Some b → a ≡ b
same_pair a b is = ap (λ o. unwrap_or o a) is

-- the table with another window at an SA pair
abbrev opened_table : Database → ℕ → Pair → Receiving → Database
opened_table old serial pair inbound = record old { pairs = map.insert old.pairs serial (record pair { inbound = inbound }) }

pub record IsOneOpening (n n' next next' : ℕ) (payload payload' : Octets) (new new' : Database) : Type 0 where
  pub number : n ≡ n'
  pub next_is : next ≡ next'
  pub payload_is : payload ≡ payload'
  pub table : new ≡ new'

pub one_opened : PacketFacts → (old : Database) (serial : ℕ) (packet : Octets) (n n' next next' : ℕ) (payload payload' : Octets) (new new' : Database)
    → OpensAt old serial packet n next payload new → OpensAt old serial packet n' next' payload' new' → IsOneOpening n n' next next' payload payload' new new'
one_opened facts old serial packet n n' next next' payload payload' new new' first second =
    let pair : second.pair ≡ first.pair = same_pair second.pair first.pair (sym second.changed.there ∙ first.changed.there) in
    let same = one_opening facts first.pair.inbound packet n n' next next' payload payload' first.inbound second.inbound first.opened
    (subst (λ (p : Pair). HandsUp p.inbound packet n' next' payload' second.inbound) pair second.opened) in
    record {
      number = same.number;
      next_is = same.next_is;
      payload_is = same.payload_is;
      table = first.changed.content ∙ (λ i. opened_table old serial (sym pair i) (same.new_is i)) ∙ sym second.changed.content;
    }

pub one_refused : PacketFacts → (old : Database) (serial : ℕ) (packet : Octets) (e f : EspFault) (new new' : Database)
    → RefusesAt old serial packet e new → RefusesAt old serial packet f new' → (e ≡ f) × (new ≡ new')
one_refused facts old serial packet e f new new' first second =
    let pair : second.pair ≡ first.pair = same_pair second.pair first.pair (sym second.changed.there ∙ first.changed.there) in
    let same = one_refused_end facts first.pair.inbound packet e f first.inbound second.inbound
    (before_or_wasted first.pair.inbound packet e first.inbound first.refused)
    (before_or_wasted first.pair.inbound packet f second.inbound (subst (λ (p : Pair). Refuses ⊥ p.inbound packet f second.inbound) pair second.refused)) in
    (same.0, first.changed.content ∙ (λ i. opened_table old serial (sym pair i) (same.1 i)) ∙ sym second.changed.content)

pub not_both : PacketFacts → (old : Database) (serial : ℕ) (packet : Octets) (n next : ℕ) (payload : Octets) (e : EspFault) (new new' : Database)
    → OpensAt old serial packet n next payload new → RefusesAt old serial packet e new' → ⊥
not_both facts old serial packet n next payload e new new' first second =
    let pair : second.pair ≡ first.pair = same_pair second.pair first.pair (sym second.changed.there ∙ first.changed.there) in
    not_both_ends facts first.pair.inbound packet n next payload first.inbound e second.inbound first.opened
    (before_or_wasted first.pair.inbound packet e second.inbound (subst (λ (p : Pair). Refuses ⊥ p.inbound packet e second.inbound) pair second.refused))
