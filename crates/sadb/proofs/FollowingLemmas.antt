-- What each call makes of a table, and what follows over many calls.
use Rattle.std.proofs.Common.{◌≡◌, ◌≢◌, ◌+◌, ◌<◌, ◌≤◌, ℕ, List, true, Some, arith, sym, ap, ◌∙◌, refl, inl, inr, subst, Bool, false, ◌&&◌, ◌||◌, nat_eq, nat_lt}
use Rattle.std.proofs.lemmas.Bool.{true≢false}
use Rattle.std.proofs.lemmas.Bool.Decides.{eqb_tells, leb_tells, nat_tests}
use Rattle.std.proofs.lemmas.Option.{none-some}
use Rattle.std.specs.Option.{unwrap_or}
use Rattle.std.specs.Ordering.{nat_cmp}
use Rattle.std.specs.FinMap as map
use Rattle.std.specs.FinSet as set
use Rattle.replay.specs.Window.{Seen, Takes}
use Rattle.replay.proofs.WindowFacts.{IsFresh, fresh, judged_fresh}
use Rattle.esp.specs.Opening.{Refuses}
use Rattle.esp.specs.Views.{Receiving}
use Rattle.esp.specs.declared.fault.EspFault.{EspFault}
use Rattle.esp.specs.declared.fault.EspFault.TheVariants.{Exhausted, PayloadSize, BadLength, Old, Replayed, BadNumber, BadIcv, BadPadding, Memory}
use Rattle.sadb.specs.declared.pair.Pair.{Pair}
use Rattle.sadb.specs.declared.pair.State.TheVariants.{Deleting}
use Rattle.sadb.specs.Database.{Database, IsAsBefore, HasInbound, IsReserved, IsSoundTable, Reserves, Releases, Installs, Removes, Marks, OpensAt, RefusesAt, SealsAt, RemovesAllOf, PairMap, pair_at}
use Rattle.sadb.specs.Following.{Follows, IsLaterWindow, IsSamePair, MayCome, WasSamePair}
use Rattle.sadb.proofs.NumberedLemmas.{inserted_here, inserted_apart, removed_here, removed_apart, member_apart, gone_here, gone_apart}
use Rattle.sadb.proofs.TableLemmas.{same_association}

same_window : (w : Seen) → IsLaterWindow w w
same_window w = record { size = refl; spent = λ n is. is }

later_window : (a b c : Seen) → IsLaterWindow a b → IsLaterWindow b c → IsLaterWindow a c
later_window a b c first second = record { size = second.size ∙ first.size; spent = λ n is. second.spent n (first.spent n is) }

taken_still : (is_n was in_span : Bool) → was ≡ true → in_span ≡ true → ((is_n || was) && in_span) ≡ true
taken_still true was in_span one two = two
taken_still false was in_span one two = cc

-- what is fresh after a sequence number was taken was fresh before
fresh_before : (was is : Seen) (m n : ℕ) → Takes was m is → IsFresh is n → IsFresh was n
fresh_before was is m n takes fresh_now =
    let top = takes.top in
    let size = takes.size in
    let not_old = fresh_now.not_old in
    record {
      not_zero = fresh_now.not_zero;
      not_old = omega arith;
      not_taken =
          elim (set.contains was.taken n) as (λ b. set.contains was.taken n ≡ b → b ≡ false) [
            | true ↦ λ taken.
                (let in_span : nat_lt is.top (n + is.size) ≡ true = grind (arith, nat_tests) in
                absurd (true≢false (sym (takes.taken n ∙ taken_still (nat_eq n m) (set.contains was.taken n) (nat_lt is.top (n + is.size)) taken in_span) ∙ fresh_now.not_taken)))
            | false ↦ λ _. refl
          ] refl;
    }

window_after_taking : (was is : Seen) (m : ℕ) → Takes was m is → IsLaterWindow was is
window_after_taking was is m takes =
    record {
      size = takes.size;
      spent = λ n spent fresh_now. spent (judged_fresh was n (fresh_before was is m n takes (fresh is n fresh_now)));
    }

window_after_refusing : (old new : Receiving) (packet : List ℕ) (fault : EspFault) → Refuses ⊥ old packet fault new → IsLaterWindow old.window new.window
window_after_refusing old new packet Exhausted is = subst (λ r. IsLaterWindow old.window r.window) (sym is.1) (same_window old.window)
window_after_refusing old new packet PayloadSize is = subst (λ r. IsLaterWindow old.window r.window) (sym is.1) (same_window old.window)
window_after_refusing old new packet BadLength is = subst (λ r. IsLaterWindow old.window r.window) (sym is.1) (same_window old.window)
window_after_refusing old new packet Old is = subst (λ r. IsLaterWindow old.window r.window) (sym is.1) (same_window old.window)
window_after_refusing old new packet Replayed is = subst (λ r. IsLaterWindow old.window r.window) (sym is.1) (same_window old.window)
window_after_refusing old new packet BadNumber is = subst (λ r. IsLaterWindow old.window r.window) (sym is.1) (same_window old.window)
window_after_refusing old new packet BadIcv is = subst (λ r. IsLaterWindow old.window r.window) (sym is.1) (same_window old.window)
window_after_refusing old new packet BadPadding is = window_after_taking old.window new.window is.0 is.1.taken.window
window_after_refusing old new packet Memory is = absurd is.0

same_pair : (a : Pair) → IsSamePair a a
same_pair a = record { serial = refl; ike = refl; inbound = refl; outbound = refl; local = refl; remote = refl; state = λ is. is; last = omega arith; window = same_window a.inbound.window }

same_again : (a b c : Pair) → IsSamePair a b → IsSamePair b c → IsSamePair a c
same_again a b c first second =
    record {
      serial = second.serial ∙ first.serial;
      ike = second.ike ∙ first.ike;
      inbound = second.inbound ∙ first.inbound;
      outbound = second.outbound ∙ first.outbound;
      local = second.local ∙ first.local;
      remote = second.remote ∙ first.remote;
      state = λ is. second.state (first.state is);
      last = let one = first.last in let two = second.last in omega arith;
      window = later_window a.inbound.window b.inbound.window c.inbound.window first.window second.window;
    }

may_come_still : (a b : Database) (spi : ℕ) → Follows a b → MayCome b spi → MayCome a spi
may_come_still a b spi first (inl is) = first.reserved spi is
may_come_still a b spi first (inr above) = inr (let start = first.start in let given = first.given in omega arith)

module _ (a b c : Database) (first : Follows a b) (second : Follows b c) where
  later_pair : (serial : ℕ) (pair : Pair) → pair_at c.pairs serial ≡ Some pair → a.next ≤ serial → MayCome a pair.inbound.association.spi
  later_pair serial pair there above =
      elim (leb_tells b.next serial) [
        | inl (_, upward) ↦ may_come_still a b pair.inbound.association.spi first (second.new_pairs serial pair there upward)
        | inr (_, below) ↦
            (let was : WasSamePair b serial pair = second.old_pairs serial pair there (omega arith) in
            subst (MayCome a) (ap (λ x. x.spi) (sym was.same.inbound)) (first.new_pairs serial was.was was.there above))
      ]

  earlier_pair : (serial : ℕ) (pair : Pair) → pair_at c.pairs serial ≡ Some pair → serial < a.next → WasSamePair a serial pair
  earlier_pair serial pair there below =
      let next = first.next in
      let between : WasSamePair b serial pair = second.old_pairs serial pair there (omega arith) in
      let was : WasSamePair a serial between.was = first.old_pairs serial between.was between.there below in
      record { was = was.was; there = was.there; same = same_again was.was between.was pair was.same between.same }

  pub follows_again : Follows a c
  follows_again =
      record {
        start = second.start ∙ first.start;
        given = let one = first.given in let two = second.given in omega arith;
        next = let one = first.next in let two = second.next in omega arith;
        reserved = λ spi is. may_come_still a b spi first (second.reserved spi is);
        old_pairs = earlier_pair;
        new_pairs = later_pair;
      }

-- where no SA pair is added, changed or taken out
module _ (old new : Database) (pairs : new.pairs ≡ old.pairs) (sound : IsSoundTable old) where
  kept_pairs : (serial : ℕ) (pair : Pair) → pair_at new.pairs serial ≡ Some pair → serial < old.next → WasSamePair old serial pair
  kept_pairs serial pair there below = record { was = pair; there = ap (λ m. map.get m serial) (sym pairs) ∙ there; same = same_pair pair }

  no_later : (serial : ℕ) (pair : Pair) → pair_at new.pairs serial ≡ Some pair → old.next ≤ serial → MayCome old pair.inbound.association.spi
  no_later serial pair there above =
      absurd (let given = sound.serial_given serial pair (ap (λ m. map.get m serial) (sym pairs) ∙ there) in let below = given.1 in omega arith)

pub as_before : (old new : Database) → IsSoundTable old → IsAsBefore old new → Follows old new
as_before old new sound is =
    record {
      start = ap (λ d. d.start) is.content;
      given = let same : new.given ≡ old.given = ap (λ d. d.given) is.content in omega arith;
      next = let same : new.next ≡ old.next = ap (λ d. d.next) is.content in omega arith;
      reserved = λ spi reserved. inl (ap (λ d. set.contains d.reserved spi) (sym is.content) ∙ reserved);
      old_pairs = kept_pairs old new (ap (λ d. d.pairs) is.content) sound;
      new_pairs = no_later old new (ap (λ d. d.pairs) is.content) sound;
    }

pub after_reserving : (old new : Database) (spi : ℕ) → IsSoundTable old → Reserves old spi new → Follows old new
after_reserving old new spi sound is =
    let start : new.start ≡ old.start = ap (λ d. d.start) is.content in
    let given : new.given ≡ old.given + 1 = ap (λ d. d.given) is.content in
    let next : new.next ≡ old.next = ap (λ d. d.next) is.content in
    let reserved : new.reserved ≡ set.insert old.reserved spi = ap (λ d. d.reserved) is.content in
    let in_order = is.in_order in
    record {
      start = start;
      given = omega arith;
      next = omega arith;
      reserved = λ q there.
          elim (eqb_tells q spi) [
            | inl (_, same) ↦ inr (omega arith)
            | inr (_, apart) ↦ inl (sym (member_apart old.reserved spi q apart) ∙ ap (λ t. set.contains t q) (sym reserved) ∙ there)
          ];
      old_pairs = kept_pairs old new (ap (λ d. d.pairs) is.content) sound;
      new_pairs = no_later old new (ap (λ d. d.pairs) is.content) sound;
    }

still_reserved : (s : set.FinSet nat_cmp) (spi q : ℕ) → set.contains (set.remove s spi) q ≡ true → set.contains s q ≡ true
still_reserved s spi q there =
    elim (eqb_tells q spi) [
      | inl (_, same) ↦ absurd (true≢false (sym there ∙ gone_here s spi q same))
      | inr (_, apart) ↦ sym (gone_apart s spi q apart) ∙ there
    ]

pub after_releasing : (old new : Database) (spi : ℕ) → IsSoundTable old → Releases old spi new → Follows old new
after_releasing old new spi sound is =
    record {
      start = ap (λ d. d.start) is.content;
      given = let same : new.given ≡ old.given = ap (λ d. d.given) is.content in omega arith;
      next = let same : new.next ≡ old.next = ap (λ d. d.next) is.content in omega arith;
      reserved = λ q there. inl (still_reserved old.reserved spi q (ap (λ d. set.contains d.reserved q) (sym is.content) ∙ there));
      old_pairs = kept_pairs old new (ap (λ d. d.pairs) is.content) sound;
      new_pairs = no_later old new (ap (λ d. d.pairs) is.content) sound;
    }

some_pair : (a b : Pair) → Some a ≡ Some b → a ≡ b
some_pair a b is = ap (λ o. unwrap_or o a) is

pub after_installing : (old new : Database) (spi : ℕ) (pair : Pair) (serial : ℕ) → IsSoundTable old → Installs old spi pair serial new → Follows old new
after_installing old new spi pair serial sound is =
    let given : new.given ≡ old.given = ap (λ d. d.given) is.content in
    let next : new.next ≡ old.next + 1 = ap (λ d. d.next) is.content in
    let pairs : new.pairs ≡ map.insert old.pairs serial (record pair { serial = serial }) = ap (λ d. d.pairs) is.content in
    let in_order = is.in_order in
    record {
      start = ap (λ d. d.start) is.content;
      given = omega arith;
      next = omega arith;
      reserved = λ q there. inl (still_reserved old.reserved spi q (ap (λ d. set.contains d.reserved q) (sym is.content) ∙ there));
      old_pairs = λ n held there below.
          record {
            was = held;
            there = sym (inserted_apart old.pairs serial n (record pair { serial = serial }) (λ same. omega arith)) ∙ ap (λ m. map.get m n) (sym pairs) ∙ there;
            same = same_pair held;
          };
      new_pairs = λ n held there above.
          elim (eqb_tells n serial) [
            | inl (_, same) ↦
                (let is_new : held ≡ record pair { serial = serial } = some_pair _ _ (sym there ∙ ap (λ m. map.get m n) pairs ∙ inserted_here old.pairs serial n (record pair { serial = serial }) same) in
                inl (subst (IsReserved old) (sym (ap (λ p. p.inbound.association.spi) is_new ∙ is.its_own)) is.reserved))
            | inr (_, apart) ↦
                absurd (let old_one = sound.serial_given n held (sym (inserted_apart old.pairs serial n (record pair { serial = serial }) apart) ∙ ap (λ m. map.get m n) (sym pairs) ∙ there) in
                let below = old_one.1 in omega arith)
          ];
    }

pub after_removing : (old new : Database) (serial : ℕ) → IsSoundTable old → Removes old serial new → Follows old new
after_removing old new serial sound is =
    let pairs : new.pairs ≡ map.remove old.pairs serial = ap (λ d. d.pairs) is.content in
    let was : (n : ℕ) (held : Pair) → pair_at new.pairs n ≡ Some held → pair_at old.pairs n ≡ Some held =
    λ n held there. elim (eqb_tells n serial) [
      | inl (_, same) ↦ absurd (none-some held (sym (removed_here old.pairs serial n same) ∙ ap (λ m. map.get m n) (sym pairs) ∙ there))
      | inr (_, apart) ↦ sym (removed_apart old.pairs serial n apart) ∙ ap (λ m. map.get m n) (sym pairs) ∙ there
    ]
    in
    record {
      start = ap (λ d. d.start) is.content;
      given = let same : new.given ≡ old.given = ap (λ d. d.given) is.content in omega arith;
      next = let same : new.next ≡ old.next = ap (λ d. d.next) is.content in omega arith;
      reserved = λ q there. inl (ap (λ d. set.contains d.reserved q) (sym is.content) ∙ there);
      old_pairs = λ n held there below. record { was = held; there = was n held there; same = same_pair held };
      new_pairs = λ n held there above. absurd (let given = sound.serial_given n held (was n held there) in let below = given.1 in omega arith);
    }

-- one SA pair is another state of itself, and nothing else is changed
pub after_changing : (old new : Database) (serial : ℕ) (was is : Pair) → IsSoundTable old → pair_at old.pairs serial ≡ Some was → IsSamePair was is
    → new ≡ record old { pairs = new.pairs } → new.pairs ≡ map.insert old.pairs serial is → Follows old new
after_changing old new serial was is sound there same rest pairs =
    let before : (n : ℕ) (held : Pair) → pair_at new.pairs n ≡ Some held → WasSamePair old n held =
    λ n held here. elim (eqb_tells n serial) [
      | inl (_, one) ↦
          (let is_new : held ≡ is = some_pair _ _ (sym here ∙ ap (λ m. map.get m n) pairs ∙ inserted_here old.pairs serial n is one) in
          record { was = was; there = ap (map.get old.pairs) one ∙ there; same = subst (IsSamePair was) (sym is_new) same })
      | inr (_, apart) ↦ record { was = held; there = sym (inserted_apart old.pairs serial n is apart) ∙ ap (λ m. map.get m n) (sym pairs) ∙ here; same = same_pair held }
    ]
    in
    record {
      start = ap (λ d. d.start) rest;
      given = let equal : new.given ≡ old.given = ap (λ d. d.given) rest in omega arith;
      next = let equal : new.next ≡ old.next = ap (λ d. d.next) rest in omega arith;
      reserved = λ q reserved. inl (ap (λ d. set.contains d.reserved q) (sym rest) ∙ reserved);
      old_pairs = λ n held here below. before n held here;
      new_pairs = λ n held here above.
          absurd (let one = before n held here in let given = sound.serial_given n one.was one.there in let below = given.1 in omega arith);
    }

pub after_emptying : (old new : Database) (ike : ℕ) → IsSoundTable old → RemovesAllOf old ike new → Follows old new
after_emptying old new ike sound is =
    let was : (n : ℕ) (held : Pair) → pair_at new.pairs n ≡ Some held → pair_at old.pairs n ≡ Some held = λ n held there. ((is.kept n held).0 there).0 in
    record {
      start = ap (λ d. d.start) is.content;
      given = let same : new.given ≡ old.given = ap (λ d. d.given) is.content in omega arith;
      next = let same : new.next ≡ old.next = ap (λ d. d.next) is.content in omega arith;
      reserved = λ q there. inl (ap (λ d. set.contains d.reserved q) (sym is.content) ∙ there);
      old_pairs = λ n held there below. record { was = held; there = was n held there; same = same_pair held };
      new_pairs = λ n held there above. absurd (let given = sound.serial_given n held (was n held there) in let below = given.1 in omega arith);
    }

-- what changed of the SA pairs alone
rest_of : (old new : Database) (pairs : PairMap) → new ≡ record old { pairs = pairs } → new ≡ record old { pairs = new.pairs }
rest_of old new pairs content = content ∙ ap (λ ps. record old { pairs = ps }) (sym (ap (λ d. d.pairs) content))

pub after_marking : (old new : Database) (serial : ℕ) → IsSoundTable old → Marks old serial new → Follows old new
after_marking old new serial sound is =
    after_changing old new serial is.pair (record is.pair { state = Deleting }) sound is.changed.there
    (record { serial = refl; ike = refl; inbound = refl; outbound = refl; local = refl; remote = refl; state = λ _. refl; last = omega arith; window = same_window is.pair.inbound.window }) (rest_of old new _ is.changed.content) (ap (λ d. d.pairs) is.changed.content)

pub after_opening : (old new : Database) (serial : ℕ) (packet : List ℕ) (number next : ℕ) (payload : List ℕ) → IsSoundTable old → OpensAt old serial packet number next payload new → Follows old new
after_opening old new serial packet number next payload sound is =
    after_changing old new serial is.pair (record is.pair { inbound = is.inbound }) sound is.changed.there
    (record {
      serial = refl;
      ike = refl;
      inbound = is.opened.taken.association;
      outbound = refl;
      local = refl;
      remote = refl;
      state = λ deleting. deleting;
      last = omega arith;
      window = window_after_taking is.pair.inbound.window is.inbound.window number is.opened.taken.window;
    }) (rest_of old new _ is.changed.content) (ap (λ d. d.pairs) is.changed.content)

pub after_refusing : (old new : Database) (serial : ℕ) (packet : List ℕ) (fault : EspFault) → IsSoundTable old → RefusesAt old serial packet fault new → Follows old new
after_refusing old new serial packet fault sound is =
    after_changing old new serial is.pair (record is.pair { inbound = is.inbound }) sound is.changed.there
    (record {
      serial = refl;
      ike = refl;
      inbound = same_association is.pair.inbound is.inbound packet fault is.refused;
      outbound = refl;
      local = refl;
      remote = refl;
      state = λ deleting. deleting;
      last = omega arith;
      window = window_after_refusing is.pair.inbound is.inbound packet fault is.refused;
    }) (rest_of old new _ is.changed.content) (ap (λ d. d.pairs) is.changed.content)

pub after_sealing : (old new : Database) (serial next : ℕ) (payload before : List ℕ) (number : ℕ) (after : List ℕ) → IsSoundTable old → SealsAt old serial next payload before number new after → Follows old new
after_sealing old new serial next payload before number after sound is =
    after_changing old new serial is.pair (record is.pair { outbound = is.outbound }) sound is.changed.there
    (record {
      serial = refl;
      ike = refl;
      inbound = refl;
      outbound = ap (λ s. s.association) is.sealed.last;
      local = refl;
      remote = refl;
      state = λ deleting. deleting;
      last = let number_is = is.sealed.number in let last : is.outbound.last ≡ number = ap (λ s. s.last) is.sealed.last in omega arith;
      window = same_window is.pair.inbound.window;
    }) (rest_of old new _ is.changed.content) (ap (λ d. d.pairs) is.changed.content)

-- an SA pair that has an SPI for which one may come, at a sound table that has it already
no_pair_may_come : (d : Database) (serial spi : ℕ) → IsSoundTable d → HasInbound d.pairs spi serial → MayCome d spi → ⊥
no_pair_may_come d serial spi sound held (inl reserved) = sound.spi_taken serial spi held reserved
no_pair_may_come d serial spi sound held (inr above) = let given = (sound.spi_given serial spi held).before_next in omega arith

pub one_pair_for_ever : (a c : Database) (spi serial later : ℕ) → IsSoundTable a → Follows a c → HasInbound a.pairs spi serial → HasInbound c.pairs spi later → later ≡ serial
one_pair_for_ever a c spi serial later sound follows first second =
    elim (leb_tells a.next later) [
      | inl (_, upward) ↦ absurd (no_pair_may_come a serial spi sound first (subst (MayCome a) second.its_own (follows.new_pairs later second.pair second.there upward)))
      | inr (_, below) ↦
          (let was : WasSamePair a later second.pair = follows.old_pairs later second.pair second.there (omega arith) in
          sound.apart later serial spi (record { pair = was.was; there = was.there; its_own = ap (λ x. x.spi) (sym was.same.inbound) ∙ second.its_own }) first)
    ]

pub given_once : (a b c d : Database) (first second : ℕ) → Reserves a first b → Follows b c → Reserves c second d → first ≢ second
given_once a b c d first second one between two same =
    let given : b.given ≡ a.given + 1 = ap (λ t. t.given) one.content in
    let start : b.start ≡ a.start = ap (λ t. t.start) one.content in
    let start_then : c.start ≡ b.start = between.start in
    let given_then : b.given ≤ c.given = between.given in
    let is_first = one.in_order in
    let is_second = two.in_order in
    omega arith
