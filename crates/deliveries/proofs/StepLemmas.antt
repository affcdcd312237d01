-- What one step does to a Child SA: which sequence number of its is judged, if any, and what of it stands
-- afterwards.
use Rattle.std.proofs.Common.{◌≡◌, ◌≢◌, ◌⊎◌, ◌↔◌, ◌+◌, ◌<◌, ◌≤◌, ◌||◌, ◌&&◌, ℕ, Bool, true, false, Option, Some, None, refl, sym, ap, ◌∙◌, subst, arith, inl, inr}
use Rattle.std.specs.Prelude.{nat_eq, nat_lt}
use Rattle.std.proofs.lemmas.Bool.{and_from, both_ways, cases_Bool, eq-eqb, lt-ltb, or_left}
use Rattle.std.proofs.lemmas.Bool.Decides.{eqb_tells}
use Rattle.std.specs.FinMap as finite_map
use Rattle.std.specs.FinSet as set
use Rattle.std.specs.Ordering.{nat_cmp}
use Rattle.base.specs.Octets.{Octets}
use Rattle.replay.specs.Window.{IsSoundWindow, Seen, Takes}
use Rattle.esp.specs.declared.sa.Sa.{Sa}
use Rattle.esp.specs.Delivery.{AtMostOnce, ExactlyAtFirst, History, IsJudged, Shows, Unforged}
use Rattle.esp.specs.Judging.{IsNumber, Judges}
use Rattle.esp.specs.Opening.{TakesNumber}
use Rattle.esp.specs.Views.{Receiving}
use Rattle.sadb.specs.Database.{Database, IsInbound, IsSoundTable, PairMap, pair_at}
use Rattle.sadb.specs.declared.pair.Pair.{Pair}
use Rattle.traffic.specs.Faults.{is_after_judging}
use Rattle.traffic.specs.Outcomes.{Outcome, Up, Dummy, Sealed, Clear, Discarded, Dropped}
use Rattle.traffic.specs.Receiving.{Receives, TakesNumberAt, TakesOneNumber, spi_of}
use Rattle.traffic.specs.declared.fault.PacketFault.{PacketFault}
use Rattle.deliveries.specs.Numbers.{IsJudgedAs}
use Rattle.deliveries.specs.Passages.{IsPassage, Leads, Passage, Reception}
use Rattle.deliveries.specs.Promises.{IsSameEnd}
use Rattle.deliveries.proofs.TableLemmas.{changed_apart, changed_here, changed_next, one_held}

-- what the crates below say of a packet that came, and of the window that it came to
pub record PacketFacts : Type 0 where
  pub up : (old new : Database) (packet inner : Octets) (child number : ℕ) → Receives old packet (Up child number inner) new → TakesNumberAt old packet child number new
  pub dummy : (old new : Database) (packet : Octets) (child number : ℕ) → Receives old packet (Dummy child number) new → TakesNumberAt old packet child number new
  pub after : (old new : Database) (packet : Octets) (fault : PacketFault) → Receives old packet (Dropped fault) new → is_after_judging fault ≡ true → TakesOneNumber old packet new
  pub before : (old new : Database) (packet : Octets) (fault : PacketFault) → Receives old packet (Dropped fault) new → is_after_judging fault ≡ false → new ≡ old
  pub inbound : (pairs : PairMap) (spi : ℕ) (a b : Pair) → IsInbound pairs spi a → IsInbound pairs spi b → a ≡ b
  -- its sequence number
  pub number : (e : Bool) (w : Seen) (low n m : ℕ) → IsNumber e w low n → IsNumber e w low m → n ≡ m
  pub judged : (a : Sa) (w : Seen) (b : Octets) (n m : ℕ) → Judges a w b n → Judges a w b m → n ≡ m
  pub positive : (a : Sa) (w : Seen) (b : Octets) (n : ℕ) → Judges a w b n → 1 ≤ n
  -- what its window shows
  pub sound : (w : Seen) → IsSoundWindow w → Shows w w.size w.taken
  pub taking : (old new : Seen) (n size : ℕ) (taken : set.FinSet nat_cmp) → 1 ≤ n → Shows old size taken → Takes old n new → Shows new size (set.insert taken n)
  -- all deliveries to one SA
  pub once : (h : History) → IsJudged h → AtMostOnce h
  pub exactly : (h : History) → IsJudged h → (sent : finite_map.FinMap nat_cmp Octets) → Unforged h sent → ExactlyAtFirst h sent

-- a packet takes a sequence number, or is turned away
pub record IsAway (old : Database) (outcome : Outcome) (new : Database) : Type 0 where
  pub fault : PacketFault
  pub dropped : outcome ≡ Dropped fault
  pub before_judging : is_after_judging fault ≡ false
  pub unchanged : new ≡ old

pub judged_or_away : PacketFacts → (old : Database) (packet : Octets) (outcome : Outcome) (new : Database) → Receives old packet outcome new
    → TakesOneNumber old packet new ⊎ IsAway old outcome new
judged_or_away facts old packet (Up child number inner) new is = inl (record { child = child; number = number; takes = facts.up old new packet inner child number is })
judged_or_away facts old packet (Dummy child number) new is = inl (record { child = child; number = number; takes = facts.dummy old new packet child number is })
judged_or_away facts old packet (Dropped fault) new is = elim (cases_Bool (is_after_judging fault)) [
  | inl after ↦ inl (facts.after old new packet fault is after)
  | inr before ↦ inr (record { fault = fault; dropped = refl; before_judging = before; unchanged = facts.before old new packet fault is before })
]
judged_or_away facts old packet (Sealed child number octets) new is = absurd is
judged_or_away facts old packet (Clear octets) new is = absurd is
judged_or_away facts old packet Discarded new is = absurd is

-- a packet takes one number, of one Child SA
pub record IsOneTaking (child other n m : ℕ) : Type 0 where
  pub child_is : child ≡ other
  pub number_is : n ≡ m

pub one_taking : PacketFacts → (old : Database) (packet : Octets) (child other n m : ℕ) (new last : Database)
    → TakesNumberAt old packet child n new → TakesNumberAt old packet other m last → IsOneTaking child other n m
one_taking facts old packet child other n m new last first second =
    let same : first.pair ≡ second.pair = facts.inbound old.pairs (spi_of packet) first.pair second.pair first.addressed.inbound second.addressed.inbound in
    record {
      child_is = first.child_is ∙ ap (λ (p : Pair). p.serial) same ∙ sym second.child_is;
      number_is =
          facts.judged second.pair.inbound.association second.pair.inbound.window packet n m
          (subst (λ (p : Pair). Judges p.inbound.association p.inbound.window packet n) same first.judged) second.judged;
    }

taken_true : (is_new was in_span : Bool) → is_new ≡ true → in_span ≡ true → ((is_new || was) && in_span) ≡ true
taken_true is_new was in_span one two = and_from _ _ (or_left is_new was one) two

-- what takes a sequence number changes the table
pub taking_changes : (old : Database) (packet : Octets) (child n : ℕ) (new : Database) → TakesNumberAt old packet child n new → new ≡ old → ⊥
taking_changes old packet child n new takes same =
    let w = takes.pair.inbound.window in
    let here : pair_at new.pairs takes.pair.serial ≡ Some (record takes.pair { inbound = takes.inbound }) =
    changed_here old takes.pair.serial takes.pair (record takes.pair { inbound = takes.inbound }) new takes.changed in
    let there : pair_at new.pairs takes.pair.serial ≡ Some takes.pair =
    ap (λ (d : Database). pair_at d.pairs takes.pair.serial) same ∙ takes.addressed.inbound.there in
    let pair : record takes.pair { inbound = takes.inbound } ≡ takes.pair = one_held (record takes.pair { inbound = takes.inbound }) takes.pair (sym here ∙ there) in
    let window : takes.inbound.window ≡ w = ap (λ (p : Pair). p.inbound.window) pair in
    let again : Takes w n w = subst (λ (v : Seen). Takes w n v) window takes.taken.window in
    both_ways _ takes.judged.new (again.taken n ∙ taken_true (nat_eq n n) (set.contains w.taken n) (nat_lt w.top (n + w.size))
    (eq-eqb n n refl) (lt-ltb w.top (n + w.size) takes.judged.in_reach))

-- which sequence number of the Child SA's is judged at a step
pub record NumberAt (child : ℕ) (p : Passage) : Type 0 where
  pub number : Option ℕ
  pub exactly : (n : ℕ) → (number ≡ Some n) ↔ IsJudgedAs child n p

pub one_reception : (a b : Reception) → Some a ≡ Some b → a ≡ b
one_reception a b is = cc

-- a step that is no packet judges none
pub none_received : (child n : ℕ) (old new : Database) → IsJudgedAs child n (record { before = old; received = None; after = new }) → ⊥
none_received child n old new j = let is = j.received in cc

-- what is judged is judged of the packet that came
pub of_reception : (child n : ℕ) (p : Passage) (r : Reception) → p.received ≡ Some r → IsJudgedAs child n p → TakesNumberAt p.before r.packet child n p.after
of_reception child n p r received j =
    subst (λ (q : Reception). TakesNumberAt p.before q.packet child n p.after) (one_reception j.reception r (sym j.received ∙ received)) j.takes

module _ (facts : PacketFacts) (child : ℕ) (old : Database) where
  abbrev step : Option Reception → Database → Passage
  step received new = record { before = old; received = received; after = new }

  judged_here : (r : Reception) (new : Database) (t : TakesOneNumber old r.packet new) → child ≡ t.child → NumberAt child (step (Some r) new)
  judged_here r new t same = record {
    number = Some t.number;
    exactly = λ n. (
      λ is. record {
        reception = r;
        received = refl;
        takes =
            let number : t.number ≡ n = cc in
            subst (λ (k : ℕ). TakesNumberAt old r.packet child k new) number (subst (λ (c : ℕ). TakesNumberAt old r.packet c t.number new) (sym same) t.takes);
      },
      λ j. ap (λ (k : ℕ). Some k) (one_taking facts old r.packet t.child child t.number n new new t.takes (of_reception child n (step (Some r) new) r refl j)).number_is,
    );
  }

  judged_elsewhere : (r : Reception) (new : Database) (t : TakesOneNumber old r.packet new) → child ≢ t.child → NumberAt child (step (Some r) new)
  judged_elsewhere r new t apart = record {
    number = None;
    exactly = λ n. (
      λ is. absurd (cc),
      λ j. absurd (apart (one_taking facts old r.packet child t.child n t.number new new (of_reception child n (step (Some r) new) r refl j) t.takes).child_is),
    );
  }

  turned_away : (r : Reception) (new : Database) → new ≡ old → NumberAt child (step (Some r) new)
  turned_away r new same = record {
    number = None;
    exactly = λ n. (
      λ is. absurd (cc),
      λ j. absurd (taking_changes old r.packet child n new (of_reception child n (step (Some r) new) r refl j) same),
    );
  }

  number_by : (received : Option Reception) (new : Database) → Leads old received new → NumberAt child (step received new)
  number_by None new leads = record { number = None; exactly = λ n. (λ is. absurd (cc), λ j. absurd (none_received child n old new j)) }
  number_by (Some r) new leads = elim (judged_or_away facts old r.packet r.outcome new leads) [
    | inl t ↦ elim (eqb_tells child t.child) [
      | inl (_, same) ↦ judged_here r new t same
      | inr (_, apart) ↦ judged_elsewhere r new t apart
    ]
    | inr away ↦ turned_away r new away.unchanged
  ]

pub number_at : PacketFacts → (child : ℕ) (p : Passage) → IsPassage p → NumberAt child p
number_at facts child p is = number_by facts child p.before p.received p.after is.leads

-- The SA pair that stands under a serial after a step was there before: it took the sequence number that was
-- judged, or nothing of it changed.
pub record Took (child : ℕ) (p : Passage) (was is : Pair) : Type 0 where
  pub number : ℕ
  pub judged : IsJudgedAs child number p
  pub takes : TakesNumber was.inbound number is.inbound

pub record Rests (child : ℕ) (p : Passage) (was is : Pair) : Type 0 where
  pub none : (n : ℕ) → ¬ IsJudgedAs child n p
  pub inbound : is.inbound ≡ was.inbound

pub record Stood (child : ℕ) (p : Passage) (is : Pair) : Type 0 where
  pub was : Pair
  pub there : pair_at p.before.pairs child ≡ Some was
  pub local : is.local ≡ was.local
  pub remote : is.remote ≡ was.remote
  pub moves : Took child p was is ⊎ Rests child p was is

module _ (facts : PacketFacts) (child : ℕ) (old : Database) where
  abbrev past : Option Reception → Database → Passage
  past received new = record { before = old; received = received; after = new }

  stood_took : (r : Reception) (new : Database) (t : TakesOneNumber old r.packet new) (is : Pair) → child ≡ t.child → pair_at new.pairs child ≡ Some is
      → Stood child (past (Some r) new) is
  stood_took r new t is same there =
      let takes = t.takes in
      let serial : child ≡ takes.pair.serial = same ∙ takes.child_is in
      let moved : Pair = record takes.pair { inbound = takes.inbound } in
      let here : pair_at new.pairs child ≡ Some moved =
      ap (pair_at new.pairs) serial ∙ changed_here old takes.pair.serial takes.pair moved new takes.changed in
      let pair : moved ≡ is = one_held moved is (sym here ∙ there) in
      subst (λ (q : Pair). Stood child (past (Some r) new) q) pair (record {
        was = takes.pair;
        there = ap (pair_at old.pairs) serial ∙ takes.addressed.inbound.there;
        local = refl;
        remote = refl;
        moves = inl (record {
          number = t.number;
          judged = record { reception = r; received = refl; takes = subst (λ (c : ℕ). TakesNumberAt old r.packet c t.number new) (sym same) takes };
          takes = takes.taken;
        });
      })

  stood_apart : (r : Reception) (new : Database) (t : TakesOneNumber old r.packet new) (is : Pair) → child ≢ t.child → pair_at new.pairs child ≡ Some is
      → Stood child (past (Some r) new) is
  stood_apart r new t is apart there =
      let takes = t.takes in
      record {
        was = is;
        there =
            sym (changed_apart old takes.pair.serial takes.pair (record takes.pair { inbound = takes.inbound }) new takes.changed child
            (λ same. apart (same ∙ sym takes.child_is)))
            ∙ there;
        local = refl;
        remote = refl;
        moves = inr (record {
          none = λ n j. apart (one_taking facts old r.packet child t.child n t.number new new (of_reception child n (past (Some r) new) r refl j) takes).child_is;
          inbound = refl;
        });
      }

  stood_still : (r : Reception) (new : Database) (is : Pair) → new ≡ old → pair_at new.pairs child ≡ Some is → Stood child (past (Some r) new) is
  stood_still r new is same there = record {
    was = is;
    there = sym (ap (λ (d : Database). pair_at d.pairs child) same) ∙ there;
    local = refl;
    remote = refl;
    moves = inr (record {
      none = λ n j. taking_changes old r.packet child n new (of_reception child n (past (Some r) new) r refl j) same;
      inbound = refl;
    });
  }

  stood_received : (r : Reception) (new : Database) (is : Pair) → Receives old r.packet r.outcome new → pair_at new.pairs child ≡ Some is
      → Stood child (past (Some r) new) is
  stood_received r new is receives there = elim (judged_or_away facts old r.packet r.outcome new receives) [
    | inl t ↦ elim (eqb_tells child t.child) [
      | inl (_, same) ↦ stood_took r new t is same there
      | inr (_, apart) ↦ stood_apart r new t is apart there
    ]
    | inr away ↦ stood_still r new is away.unchanged there
  ]

  stood_by : (received : Option Reception) (new : Database) (is : Pair) → Leads old received new → child < old.next → pair_at new.pairs child ≡ Some is
      → Stood child (past received new) is
  stood_by None new is leads below there =
      let stood = leads.old_pairs child is below there in
      record {
        was = stood.was;
        there = stood.there;
        local = stood.local;
        remote = stood.remote;
        moves = inr (record { none = λ n j. none_received child n old new j; inbound = stood.inbound });
      }
  stood_by (Some r) new is leads below there = stood_received r new is leads there

  -- one that comes has a window in which no sequence number is taken
  came_by : (received : Option Reception) (new : Database) (is : Pair) → IsSoundTable old → Leads old received new → old.next ≤ child
      → pair_at new.pairs child ≡ Some is → (n : ℕ) → set.contains is.inbound.window.taken n ≡ false
  came_by None new is sound leads above there n = leads.new_pairs child n is above there
  came_by (Some r) new is sound leads above there n =
      let stood = stood_received r new is leads there in
      let below = (sound.serial_given child stood.was stood.there).1 in
      absurd (omega arith)

  -- no serial comes again
  next_by : (received : Option Reception) (new : Database) → Leads old received new → old.next ≤ new.next
  next_by None new leads = leads.next
  next_by (Some r) new leads = elim (judged_or_away facts old r.packet r.outcome new leads) [
    | inl t ↦
        let same = changed_next old t.takes.pair.serial t.takes.pair (record t.takes.pair { inbound = t.takes.inbound }) new t.takes.changed in
        omega arith
    | inr away ↦ (let same = ap (λ (d : Database). d.next) away.unchanged in omega arith)
  ]

module _ (facts : PacketFacts) (child : ℕ) (p : Passage) (is : IsPassage p) where
  pub stood_before : (pair : Pair) → child < p.before.next → pair_at p.after.pairs child ≡ Some pair → Stood child p pair
  stood_before pair below there = stood_by facts child p.before p.received p.after pair is.leads below there

  pub came_unused : (pair : Pair) → p.before.next ≤ child → pair_at p.after.pairs child ≡ Some pair → (n : ℕ) → set.contains pair.inbound.window.taken n ≡ false
  came_unused pair above there = came_by facts child p.before p.received p.after pair is.sound is.leads above there

  pub next_grows : p.before.next ≤ p.after.next
  next_grows = next_by facts child p.before p.received p.after is.leads

  -- what is judged stands
  pub judged_stands : (n : ℕ) → IsJudgedAs child n p → child < p.before.next
  judged_stands n j =
      let takes = j.takes in
      let serial = takes.child_is in
      let below = (is.sound.serial_given takes.pair.serial takes.pair takes.addressed.inbound.there).1 in
      omega arith

-- the same end through a step
pub same_end : (child : ℕ) (p : Passage) (is : Pair) (stood : Stood child p is) → IsSameEnd stood.was is
same_end child p is stood = elim stood.moves [
  | inl took ↦ record { association = took.takes.association; size = took.takes.window.size; local = stood.local; remote = stood.remote }
  | inr rests ↦ record {
    association = ap (λ (r : Receiving). r.association) rests.inbound;
    size = ap (λ (r : Receiving). r.window.size) rests.inbound;
    local = stood.local;
    remote = stood.remote;
  }
]
