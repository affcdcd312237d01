-- A tick keeps what holds of the IKE SAs that are held on.
use Rattle.std.proofs.Common.{◌≡◌, ◌⊎◌, inl, inr, ℕ, zero, suc, ◌<◌, ◌≤◌, ◌∷◌, [], Bool, true, false, cond, List, length, Option, Some, None, ap, refl, subst, sym, ◌∙◌, arith}
use Rattle.std.proofs.lemmas.Option.{none-some}
use Rattle.std.specs.FinMap as map
use Rattle.std.proofs.lemmas.Bool.Decides.{eqb_tells}
use Rattle.std.specs.List.{slice_get}
use Rattle.std.specs.Ordering.{nat_cmp}
use Rattle.std.specs.Prelude.{◌==◌}
use Rattle.exchange.specs.declared.headers.Role.{Role}
use Rattle.requests.specs.Incoming.{after_number_0, no_requests, IsLeftBehind, PeerRequests}
use Rattle.requests.specs.Numbers.{HasNumber}
use Rattle.requests.specs.Outgoing.{OwnRequests}
use Rattle.sadb.specs.Database.{Database, IsReserved}
use Rattle.association.specs.Closing.{HoldsReserved, HoldsSpi}
use Rattle.association.specs.Phases.{keys_in, spi_in}
use Rattle.association.specs.Purposes.{spi_asked, AwaitsChild}
use Rattle.association.specs.declared.phase.Association.{Association}
use Rattle.association.specs.declared.phase.HalfOpen.{HalfOpen}
use Rattle.association.specs.declared.phase.Phase.{Phase}
use Rattle.association.specs.declared.phase.Phase.TheVariants as phase
use Rattle.association.specs.declared.phase.Request.{Request}
use Rattle.suite.specs.declared.key_record.KeyRecord.{KeyRecord}
use Rattle.initial.specs.Answering.{IsHalfOpen}
use Rattle.initial.specs.Ending.{IsAuthSent}
use Rattle.initial.specs.Reading.{IsInitSent}
use Rattle.effects.specs.Keeping.{kept_reply, IsShort, KeepsShort}
use Rattle.effects.specs.Requests.{is_concluded, IsSoundlyHeld}
use Rattle.effects.specs.Waiting.{MayBeOutstanding}
use Rattle.moments.specs.Due.{has_failed}
use Rattle.moments.specs.Held.{IsClosedAt}
use Rattle.moments.specs.Holding.{HoldSome, HoldsNone, HoldsOn}
use Rattle.moments.specs.Ticking.{HoldTheirSpis, Ticks}
use Rattle.moments.specs.declared.ticking.Ticked.{Ticked}
use Rattle.association.specs.declared.purpose.Purpose.{Purpose}
use Rattle.ike.specs.Machines.{association_of, half_open_count, has_serial, own_spi, spi_by_role, Held, SERIAL_END}
use Rattle.ike.specs.Soundness.{AreApart, AreSound, At, IsSound}
use Rattle.ike.proofs.CountLemmas.{count_lighter, count_more}
use Rattle.ike.proofs.SerialLemmas.{same_one, sound_found}
use Rattle.ike.proofs.SoundLemmas.{alone}

-- what is known of a tick
abbrev pub TicksHold : Type 0
TicksHold = (now : ℕ) (old : List Association) (table : Database) (ticked : Ticked) (new : List Association) (new_table : Database) → Ticks now old table ticked new new_table → HoldSome now old new

-- ---- where an IKE SA that is held on came from

pub record Origin (now : ℕ) (old : List Association) (place : ℕ) (b : Association) : Type 0 where
  pub from : ℕ
  pub above : place ≤ from
  pub was : Association
  pub there : slice_get old from ≡ Some was
  pub on : HoldsOn now was b

pub record Origins (now : ℕ) (old : List Association) (b c : Association) : Type 0 where
  pub one : ℕ
  pub two : ℕ
  pub before : one < two
  pub was : Association
  pub other : Association
  pub there : slice_get old one ≡ Some was
  pub too : slice_get old two ≡ Some other
  pub on : HoldsOn now was b
  pub also : HoldsOn now other c

later : (now : ℕ) (a : Association) (rest : List Association) (place : ℕ) (b : Association) → Origin now rest place b → Origin now (a ∷ rest) place b
later now a rest place b o = record { from = suc o.from; above = omega (arith, o.above); was = o.was; there = o.there; on = o.on }

shifted : (now : ℕ) (a : Association) (rest : List Association) (place : ℕ) (b : Association) → Origin now rest place b → Origin now (a ∷ rest) (suc place) b
shifted now a rest place b o = record { from = suc o.from; above = omega (arith, o.above); was = o.was; there = o.there; on = o.on }

both_later : (now : ℕ) (a : Association) (rest : List Association) (b c : Association) → Origins now rest b c → Origins now (a ∷ rest) b c
both_later now a rest b c o =
    record { one = suc o.one; two = suc o.two; before = omega (arith, o.before); was = o.was; other = o.other; there = o.there; too = o.too; on = o.on; also = o.also }

same_item : (x y : Association) → Some x ≡ Some y → x ≡ y
same_item x y e = cc

none_stands : (place : ℕ) (b : Association) (new : List Association) → new ≡ [] → slice_get new place ≡ Some b → ⊥
none_stands place b new none there = let nothing : slice_get [] place ≡ Some b = subst (λ xs. slice_get xs place ≡ Some b) none there in cc

pub origin : (now : ℕ) (old new : List Association) (place : ℕ) (b : Association) → HoldSome now old new → slice_get new place ≡ Some b → Origin now old place b
origin now [] new place b some there = absurd (none_stands place b new some there)
origin now (a ∷ rest) new place b (inl some) there = later now a rest place b (origin now rest new place b some there)
origin now (a ∷ rest) [] place b (inr some) there = absurd some
origin now (a ∷ rest) (x ∷ others) zero b (inr some) there =
    record { from = 0; above = omega arith; was = a; there = refl; on = subst (λ y. HoldsOn now a y) (same_item x b there) some.0 }
origin now (a ∷ rest) (x ∷ others) (suc place) b (inr some) there = shifted now a rest place b (origin now rest others place b some.1 there)

first_two : (now : ℕ) (a : Association) (rest : List Association) (b c : Association) (place : ℕ) → HoldsOn now a b → Origin now rest place c → Origins now (a ∷ rest) b c
first_two now a rest b c place on o =
    record { one = 0; two = suc o.from; before = omega arith; was = a; other = o.was; there = refl; too = o.there; on = on; also = o.on }

pub origins : (now : ℕ) (old new : List Association) (place next : ℕ) (b c : Association) → HoldSome now old new → place < next → slice_get new place ≡ Some b → slice_get new next ≡ Some c → Origins now old b c
origins now [] new place next b c some less there too = absurd (none_stands place b new some there)
origins now (a ∷ rest) new place next b c (inl some) less there too = both_later now a rest b c (origins now rest new place next b c some less there too)
origins now (a ∷ rest) [] place next b c (inr some) less there too = absurd some
origins now (a ∷ rest) (x ∷ others) place zero b c (inr some) less there too = absurd (omega (arith, less))
origins now (a ∷ rest) (x ∷ others) zero (suc next) b c (inr some) less there too =
    first_two now a rest b c next (subst (λ y. HoldsOn now a y) (same_item x b there) some.0) (origin now rest others next c some.1 too)
origins now (a ∷ rest) (x ∷ others) (suc place) (suc next) b c (inr some) less there too =
    both_later now a rest b c (origins now rest others place next b c some.1 (omega (arith, less)) there too)

-- ---- one that is held on

same_own : (r : Role) (a b : Association) → a.role ≡ r → b.role ≡ r → b.spi_i ≡ a.spi_i → b.spi_r ≡ a.spi_r → own_spi b ≡ own_spi a
same_own r a b was is i j =
    ap (λ x. spi_by_role x b.spi_i b.spi_r) (is ∙ sym was) ∙ ap (λ n. spi_by_role a.role n b.spi_r) i ∙ ap (λ n. spi_by_role a.role a.spi_i n) j

on_own : (now : ℕ) (a b : Association) → HoldsOn now a b → own_spi b ≡ own_spi a
on_own now a b on = same_own a.role a b refl on.role on.spi_i on.spi_r

closed_phase : (now : ℕ) (a b : Association) → IsClosedAt now a b → b.phase ≡ phase.Closed (keys_in a.phase) now
closed_phase now a b is = ap (λ (x : Association). x.phase) is.content

-- what holds of a phase that stays, and of none that is closed
on_phase : (P : Phase → Type 0) (now : ℕ) (a b : Association) → HoldsOn now a b → ((keys : Option KeyRecord) (at : ℕ) → P (phase.Closed keys at) → ⊥) → P b.phase → P a.phase
on_phase P now a b on never is = elim on.phase [
  | inl stays ↦ subst (λ p. P p) stays.1 is
  | inr closes ↦ absurd (never (keys_in a.phase) now (subst (λ p. P p) (closed_phase now a b closes) is))
]

closed_waits : (keys : Option KeyRecord) (at : ℕ) → IsInitSent (phase.Closed keys at) → ⊥
closed_waits keys at is = let e = is.is in cc

closed_asks : (keys : Option KeyRecord) (at : ℕ) → IsAuthSent (phase.Closed keys at) → ⊥
closed_asks keys at is = let e = is.is in cc

closed_opened : (keys : Option KeyRecord) (at : ℕ) → IsHalfOpen (phase.Closed keys at) → ⊥
closed_opened keys at is = let e = is.is in cc

on_waits : (now : ℕ) (a b : Association) → HoldsOn now a b → IsInitSent b.phase ⊎ IsAuthSent b.phase → IsInitSent a.phase ⊎ IsAuthSent a.phase
on_waits now a b on (inl is) = inl (on_phase IsInitSent now a b on closed_waits is)
on_waits now a b on (inr is) = inr (on_phase IsAuthSent now a b on closed_asks is)

pub on_opened : (now : ℕ) (a b : Association) → HoldsOn now a b → IsHalfOpen b.phase → IsHalfOpen a.phase
on_opened now a b on is = on_phase IsHalfOpen now a b on closed_opened is

-- an SPI that it holds it held before, and then it has not failed
record Held_on (now : ℕ) (a : Association) (spi : ℕ) : Type 0 where
  alive : has_failed now a ≡ false
  held : HoldsSpi a spi

none_some : (spi : ℕ) → None ≡ Some spi → ⊥
none_some spi e = cc

closed_holds : (now : ℕ) (a b : Association) (spi : ℕ) → IsClosedAt now a b → HoldsSpi b spi → ⊥
closed_holds now a b spi is (inl its) = none_some spi (sym (ap spi_in (closed_phase now a b is)) ∙ its)
closed_holds now a b spi is (inr awaits) =
    none-some awaits.awaits.request (sym (ap (λ (o : OwnRequests Request). map.get o.outstanding awaits.number) is.requests.content ∙ map.get-empty nat_cmp awaits.number) ∙ awaits.awaits.outstanding)

was_awaited : (now : ℕ) (a b : Association) (number spi : ℕ) → HoldsOn now a b → AwaitsChild b.outgoing number spi → AwaitsChild a.outgoing number spi
was_awaited now a b number spi on awaits =
    let was = on.requests number awaits.request awaits.outstanding in
    record { request = was.was; outstanding = was.there; reserved = ap spi_asked (sym was.purpose) ∙ awaits.reserved }

was_held : (now : ℕ) (a b : Association) (spi : ℕ) → HoldsOn now a b → HoldsSpi b spi → HoldsSpi a spi
was_held now a b spi on (inl its) = elim on.phase [
  | inl stays ↦ inl (ap spi_in (sym stays.1) ∙ its)
  | inr closes ↦ absurd (none_some spi (sym (ap spi_in (closed_phase now a b closes)) ∙ its))
]
was_held now a b spi on (inr awaits) = inr (record { number = awaits.number; awaits = was_awaited now a b awaits.number spi on awaits.awaits })

on_holds : (now : ℕ) (a b : Association) (spi : ℕ) → HoldsOn now a b → HoldsSpi b spi → Held_on now a spi
on_holds now a b spi on holds = elim on.phase [
  | inl stays ↦ record { alive = stays.0; held = was_held now a b spi on holds }
  | inr closes ↦ absurd (closed_holds now a b spi closes holds)
]

-- its keys stay
pub on_keys : (now : ℕ) (a b : Association) → HoldsOn now a b → keys_in b.phase ≡ keys_in a.phase
on_keys now a b on = elim on.phase [
  | inl stays ↦ ap keys_in stays.1
  | inr closes ↦ ap keys_in (closed_phase now a b closes)
]

some_reply : (reply : List ℕ) → None ≡ Some reply → ⊥
some_reply reply e = cc

on_short : (now : ℕ) (a b : Association) → HoldsOn now a b → KeepsShort a → KeepsShort b
on_short now a b on short =
    record {
      replies = λ number reply there. short.replies number reply (ap (λ (r : PeerRequests). map.get r.kept number) (sym on.incoming) ∙ there);
      requests = λ number request there.
          let was = on.requests number request there in
          subst (λ o. IsShort o) (sym was.octets) (short.requests number was.was was.there);
      first = λ reply kept. elim on.phase [
        | inl stays ↦ short.first reply (ap kept_reply (sym stays.1) ∙ kept)
        | inr closes ↦ absurd (some_reply reply (sym (ap kept_reply (closed_phase now a b closes)) ∙ kept))
      ];
    }

closed_half_open : (keys : Option KeyRecord) (at : ℕ) (opened : HalfOpen) → phase.Closed keys at ≡ phase.HalfOpen opened → ⊥
closed_half_open keys at opened is = cc

pub on_half_open : (now : ℕ) (a b : Association) → HoldsOn now a b → (opened : HalfOpen) → b.phase ≡ phase.HalfOpen opened → a.phase ≡ phase.HalfOpen opened
on_half_open now a b on opened is = on_phase (λ p. p ≡ phase.HalfOpen opened) now a b on (λ keys at here. closed_half_open keys at opened here) is

-- IKE_AUTH stays done
pub on_concluded : (now : ℕ) (a b : Association) → HoldsOn now a b → is_concluded a.phase ≡ true → is_concluded b.phase ≡ true
on_concluded now a b on is = elim on.phase [
  | inl stays ↦ ap is_concluded stays.1 ∙ is
  | inr closes ↦ ap is_concluded (closed_phase now a b closes)
]

none_waits : (number : ℕ) (request : Request) → map.get {R = nat_cmp} (map.empty {X = Request}) number ≡ Some request → ⊥
none_waits number request there = let none : map.get {R = nat_cmp} (map.empty {X = Request}) number ≡ None = map.get-empty nat_cmp number in cc

pub on_soundly : (now : ℕ) (a b : Association) → HoldsOn now a b → IsSoundlyHeld a → IsSoundlyHeld b
on_soundly now a b on held = record {
  in_effect = λ number reply kept.
      subst (λ (r : PeerRequests). HasNumber r.in_effect number) (sym on.incoming) (held.in_effect number reply (ap (λ (r : PeerRequests). map.get r.kept number) (sym on.incoming) ∙ kept));
  near = λ number reply kept.
      subst (λ (r : PeerRequests). ¬ IsLeftBehind r number) (sym on.incoming) (held.near number reply (ap (λ (r : PeerRequests). map.get r.kept number) (sym on.incoming) ∙ kept));
  concluded = λ number reply kept. on_concluded now a b on (held.concluded number reply (ap (λ (r : PeerRequests). map.get r.kept number) (sym on.incoming) ∙ kept));
  named = λ keyed initiator zero.
      held.named (record { keys = keyed.keys; are = sym (on_keys now a b on) ∙ keyed.are }) (sym on.role ∙ initiator) (sym on.spi_r ∙ zero);
  waits = elim on.phase [
    | inl stays ↦ (λ number request there.
        let was = on.requests number request there in
        subst (λ (p : Phase). MayBeOutstanding p number request.purpose) (sym stays.1)
        (subst (λ (asked : Purpose). MayBeOutstanding a.phase number asked) (sym was.purpose) (held.waits number was.was was.there)))
    | inr closes ↦ (λ number request there. absurd (none_waits number request (sym (ap (λ (r : OwnRequests Request). map.get r.outstanding number) closes.requests.content) ∙ there)))
  ];
  issued = λ number request there.
      let was = on.requests number request there in
      subst (λ (n : ℕ). number < n) (sym on.next) (held.issued number was.was was.there);
  took_none = λ is.
      let none = held.took_none (on_waits now a b on is) in
      record {
        role = on.role ∙ none.role;
        incoming = subst (λ (r : PeerRequests). r ≡ record no_requests { room = r.room }) (sym on.incoming) none.incoming;
        window = on.window ∙ none.window;
      };
  took_first = λ is.
      let first = held.took_first (on_opened now a b on is) in
      record {
        role = on.role ∙ first.role;
        incoming = subst (λ (r : PeerRequests). r ≡ record after_number_0 { room = r.room }) (sym on.incoming) first.incoming;
        next = on.next ∙ first.next;
        answered = on.answered ∙ first.answered;
        window = on.window ∙ first.window;
      };
  peers = omega (arith, on.window, held.peers);
}

-- ---- all of them

-- fewer are held, and fewer half open
fewer : (now : ℕ) (old new : List Association) → HoldSome now old new → length new ≤ length old
fewer now [] new some = omega (arith, ap length some)
fewer now (a ∷ rest) new (inl some) = let less = fewer now rest new some in omega (arith, less)
fewer now (a ∷ rest) [] (inr some) = absurd some
fewer now (a ∷ rest) (b ∷ others) (inr some) = let less = fewer now rest others some.1 in omega (arith, less)

fewer_opened : (now : ℕ) (old new : List Association) → HoldSome now old new → half_open_count new ≤ half_open_count old
fewer_opened now [] new some = omega (arith, ap half_open_count some)
fewer_opened now (a ∷ rest) new (inl some) = let less = fewer_opened now rest new some in let more = count_more a rest in omega (arith, less, more)
fewer_opened now (a ∷ rest) [] (inr some) = absurd some
fewer_opened now (a ∷ rest) (b ∷ others) (inr some) =
    let less = fewer_opened now rest others some.1 in
    count_lighter a b rest others (on_opened now a b some.0) less

-- what is reserved for one that is held on stays reserved
abbrev pub KeepsReserved : ℕ → List Association → Database → Database → Type 0
KeepsReserved now old table new_table = (spi : ℕ) → HoldsNone now old spi → IsReserved table spi → IsReserved new_table spi

-- no other holds the SPI of one that has not failed
none_fails : (now : ℕ) (held : Held) (table : Database) (place : ℕ) (a : Association) (spi : ℕ) → AreSound held table → At held place a → has_failed now a ≡ false → HoldsSpi a spi → HoldsNone now held.associations spi
none_fails now held table place a spi sound there alive holds k c is other = elim (eqb_tells k place) [
  | inl (one, same) ↦ subst (λ x. has_failed now x ≡ false) (same_one a c (sym there ∙ subst (λ n. slice_get held.associations n ≡ Some c) same is)) alive
  | inr (none, apart) ↦ absurd (alone held table k place c a spi sound apart is there other holds)
]

reserved_on : (now : ℕ) (held : Held) (table new_table : Database) (place : ℕ) (a b : Association) → AreSound held table → At held place a → KeepsReserved now held.associations table new_table
    → HoldsOn now a b → HoldsReserved b new_table
reserved_on now held table new_table place a b sound there keeps on =
    let was = (sound.each place a there).reserved in
    record {
      reserved = λ spi held_now.
          let before = on_holds now a b spi on held_now in
          keeps spi (none_fails now held table place a spi sound there before.alive before.held) (was.reserved spi before.held);
      first = λ spi its awaits. elim on.phase [
        | inl stays ↦ was.first spi (ap spi_in (sym stays.1) ∙ its) (record { number = awaits.number; awaits = was_awaited now a b awaits.number spi on awaits.awaits })
        | inr closes ↦ absurd (none_some spi (sym (ap spi_in (closed_phase now a b closes)) ∙ its))
      ];
      one = λ number other spi one two. was.one number other spi (was_awaited now a b number spi on one) (was_awaited now a b other spi on two);
    }

each_on : (now : ℕ) (held : Held) (table new_table : Database) (b : Association) → AreSound held table → KeepsReserved now held.associations table new_table → (place : ℕ) → Origin now held.associations place b → IsSound b held.next new_table
each_on now held table new_table b sound keeps place o =
    let was = sound.each o.from o.was o.there in
    record {
      serial_least = subst (λ n. 1 ≤ n) (sym o.on.serial) was.serial_least;
      serial_given = subst (λ n. n < held.next) (sym o.on.serial) was.serial_given;
      own = λ e. was.own (sym (on_own now o.was b o.on) ∙ e);
      initiator = λ w. o.on.role ∙ was.initiator (on_waits now o.was b o.on w);
      responder = λ h. o.on.role ∙ was.responder (on_opened now o.was b o.on h);
      reserved = reserved_on now held table new_table o.from o.was b sound o.there keeps o.on;
      short = on_short now o.was b o.on was.short;
      soundly = on_soundly now o.was b o.on was.soundly;
      asked = λ opened here. was.asked opened (on_half_open now o.was b o.on opened here);
      whole = λ keys are. was.whole keys (sym (on_keys now o.was b o.on) ∙ are);
    }

apart_on : (now : ℕ) (held : Held) (table : Database) (b c : Association) → AreSound held table → Origins now held.associations b c → AreApart b c
apart_on now held table b c sound o =
    let was = sound.apart o.one o.two o.was o.other o.before o.there o.too in
    record {
      rising = subst (λ n. n < c.serial) (sym o.on.serial) (subst (λ n. o.was.serial < n) (sym o.also.serial) was.rising);
      own = λ e. was.own (sym (on_own now o.was b o.on) ∙ e ∙ on_own now o.other c o.also);
      held = λ spi holds too. was.held spi (on_holds now o.was b spi o.on holds).held (on_holds now o.other c spi o.also too).held;
      asked = λ one two is also. was.asked one two (on_half_open now o.was b o.on one is) (on_half_open now o.other c o.also two also);
    }

pub ticked_sound : (now : ℕ) (old new : Held) (table new_table : Database) → AreSound old table → HoldSome now old.associations new.associations → new.next ≡ old.next → KeepsReserved now old.associations table new_table → AreSound new new_table
ticked_sound now old new table new_table sound some next keeps =
    record {
      first = subst (λ n. 1 ≤ n) (sym next) sound.first;
      serials = subst (λ n. n ≤ SERIAL_END) (sym next) sound.serials;
      few = let less = fewer now old.associations new.associations some in omega (arith, less, sound.few);
      few_half_open = let less = fewer_opened now old.associations new.associations some in omega (arith, less, sound.few_half_open);
      each = λ place b there. subst (λ n. IsSound b n new_table) (sym next) (each_on now old table new_table b sound keeps place (origin now old.associations new.associations place b some there));
      apart = λ place more b c less there too. apart_on now old table b c sound (origins now old.associations new.associations place more b c some less there too);
    }

-- ---- by serials

-- where the one with a serial stands
pub record Found (xs : List Association) (serial : ℕ) (b : Association) : Type 0 where
  pub place : ℕ
  pub there : slice_get xs place ≡ Some b
  pub serial_is : b.serial ≡ serial

tested : (n m : ℕ) → (n == m) ≡ true → n ≡ m
tested n m is = elim (eqb_tells n m) [
  | inl (yes_it_is, same) ↦ same
  | inr (no_it_is_not, apart) ↦ let clash : true ≡ false = sym is ∙ no_it_is_not in cc
]

found_next : (x : Association) (xs : List Association) (serial : ℕ) (b : Association) → Found xs serial b → Found (x ∷ xs) serial b
found_next x xs serial b f = record { place = suc f.place; there = f.there; serial_is = f.serial_is }

found_by : (here : Bool) (x : Association) (xs : List Association) (serial : ℕ) (b : Association) → has_serial serial x ≡ here → (association_of serial xs ≡ Some b → Found xs serial b)
    → cond here (Some x) (association_of serial xs) ≡ Some b → Found (x ∷ xs) serial b
found_by true x xs serial b is more e = record { place = 0; there = e; serial_is = ap (λ (y : Association). y.serial) (sym (same_item x b e)) ∙ tested x.serial serial is }
found_by false x xs serial b is more e = found_next x xs serial b (more e)

pub found_at : (xs : List Association) (serial : ℕ) (b : Association) → association_of serial xs ≡ Some b → Found xs serial b
found_at [] serial b e = absurd cc
found_at (x ∷ xs) serial b e = found_by (has_serial serial x) x xs serial b refl (found_at xs serial b) e

-- the IKE SA with a serial was held under it before
pub record WasHeld (now : ℕ) (old : Held) (serial : ℕ) (b : Association) : Type 0 where
  pub was : Association
  pub stood : association_of serial old.associations ≡ Some was
  pub on : HoldsOn now was b

pub ticked_stood : (now : ℕ) (old new : Held) (table : Database) (serial : ℕ) (b : Association) → AreSound old table → HoldSome now old.associations new.associations → association_of serial new.associations ≡ Some b → WasHeld now old serial b
ticked_stood now old new table serial b sound some stands =
    let f = found_at new.associations serial b stands in
    let o = origin now old.associations new.associations f.place b some f.there in
    record {
      was = o.was;
      stood = subst (λ n. association_of n old.associations ≡ Some o.was) (sym o.on.serial ∙ f.serial_is) (sound_found old table o.from o.was sound o.there);
      on = o.on;
    }

-- what is asked of them before
pub hold_theirs : (held : Held) (table : Database) → AreSound held table → HoldTheirSpis held.associations table
hold_theirs held table sound =
    record {
      reserved = λ place a there. (sound.each place a there).reserved;
      apart = λ place later a other spi less there too holds. (sound.apart place later a other less there too).held spi holds;
    }
