-- What a message or a tick makes of the SPIs that are given: none comes back.
use Rattle.std.proofs.Common.{◌≡◌, ◌⊎◌, ◌+◌, ◌≤◌, ◌||◌, ◌&&◌, inl, inr, ℕ, not, cond, Bool, true, false, List, [], ◌∷◌, Option, Some, None, Result, Ok, Err, refl, ap, subst, sym, ◌∙◌, arith}
use Rattle.std.specs.Prelude.{◌==◌}
use Rattle.std.proofs.lemmas.Bool.Decides.{eqb_tells}
use Rattle.std.specs.Cmp.{nat_cmp_total, unsigned_tied}
use Rattle.std.specs.FinMap as map
use Rattle.std.specs.FinSet as set
use Rattle.std.specs.Ordering.{nat_cmp}
use Rattle.base.specs.Octets.{Octets}
use Rattle.wire.specs.Numbers.{INFORMATIONAL}
use Rattle.wire.specs.declared.message.Message.{Message}
use Rattle.exchange.specs.declared.sealed.Plain.{Plain}
use Rattle.sadb.specs.Database.{pair_at, Database, Installs, IsAsBefore, IsReserved, PairMap, Releases, RemovesAllOf, Reserves}
use Rattle.sadb.specs.Following.{MayCome}
use Rattle.sadb.specs.declared.pair.Pair.{Pair}
use Rattle.sa_init.specs.Cookies.{CookieSecrets}
use Rattle.association.specs.Closing.{Closes, GivesUpSpis, HoldsSpi}
use Rattle.association.specs.Finding.{place_meant}
use Rattle.association.specs.Outcomes.{made_by}
use Rattle.association.specs.Phases.{established_spi}
use Rattle.association.specs.Receiving.{Reception, Refused, Repeat, TakesEffect, Answers, AnswersInitial}
use Rattle.association.specs.declared.fault.MessageFault.{MessageFault}
use Rattle.association.specs.declared.outcome.Fate.{Fate}
use Rattle.association.specs.declared.outcome.Fate.TheVariants as fate
use Rattle.association.specs.declared.phase.Association.{Association}
use Rattle.association.specs.declared.phase.Phase.{Phase}
use Rattle.association.specs.declared.phase.Phase.TheVariants as phase
use Rattle.deletions.specs.Removing.{RemovesNamed}
use Rattle.children.specs.Responding.{AddsNext}
use Rattle.setup.specs.Configs.{Setup}
use Rattle.initial.specs.Concluding.{AddsChild, ConcludesBy}
use Rattle.initial.specs.declared.concluding.Outcome.{Outcome}
use Rattle.initial.specs.declared.concluding.Outcome.TheVariants as outcome
use Rattle.informational.specs.Orders.{ClosesIf}
use Rattle.create_child.specs.Answering.{AddsFurther, ConcludesFurther}
use Rattle.create_child.specs.Counting.{EndsFurther}
use Rattle.further.specs.declared.concluding.Conclusion.{Conclusion}
use Rattle.further.specs.declared.concluding.Conclusion.TheVariants as conclusion
use Rattle.effects.specs.Taking.{asked_further, Does, DoesAnswer, DoesAtEstablished, DoesRequest, DoesResponse, Meaning}
use Rattle.effects.specs.declared.taking.Effect.{Effect}
use Rattle.effects.specs.declared.taking.Effect.TheVariants as effect
use Rattle.moments.specs.Due.{has_failed, is_over}
use Rattle.moments.specs.Ticking.{PassAll, PassesBy}
use Rattle.moments.specs.declared.resent.Resent.{Resent}
use Rattle.ike.specs.Machines.{Held}
use Rattle.ike.specs.Receiving.{is_initial_request, TakesDatagram, TakesFound, TakesRead}
use Rattle.ike.specs.Starting.{Starts}
use Rattle.ike.specs.declared.output.Stepped.{Stepped}

-- An SPI that is reserved was so before, or was not given yet, and so was the SPI of each SA pair that came.
-- That one change after another does so asks for no sound table in between.
pub record Gives (old new : Database) : Type 0 where
  pub start : new.start ≡ old.start
  pub given : old.given ≤ new.given
  pub reserved : (spi : ℕ) → IsReserved new spi → MayCome old spi
  pub pairs : (serial : ℕ) (pair : Pair) → pair_at new.pairs serial ≡ Some pair → (pair_at old.pairs serial ≡ Some pair) ⊎ MayCome old pair.inbound.association.spi

-- ---- several changes in a row

might : (a b : Database) (spi : ℕ) → Gives a b → MayCome b spi → MayCome a spi
might a b spi is (inl reserved) = is.reserved spi reserved
might a b spi is (inr above) = inr (let start = is.start in let given = is.given in omega (arith, start, given, above))

pub in_turn : (a b c : Database) → Gives a b → Gives b c → Gives a c
in_turn a b c one two = record {
  start = two.start ∙ one.start;
  given = (let first = one.given in let second = two.given in omega (arith, first, second));
  reserved = λ spi there. might a b spi one (two.reserved spi there);
  pairs = λ serial pair there. elim (two.pairs serial pair there) [
    | inl before ↦ one.pairs serial pair before
    | inr may ↦ inr (might a b pair.inbound.association.spi one may)
  ];
}

itself : (d : Database) → Gives d d
itself d = record { start = refl; given = omega arith; reserved = λ spi there. inl there; pairs = λ serial pair there. inl there }

pub unchanged : (old new : Database) → new ≡ old → Gives old new
unchanged old new same = subst (λ (d : Database). Gives old d) (sym same) (itself old)

-- ---- maps and sets

inserted : (m : PairMap) (k : ℕ) (v : Pair) (q : ℕ) (p : Pair) → map.get (map.insert m k v) q ≡ Some p → (Some v ≡ Some p) ⊎ (map.get m q ≡ Some p)
inserted m k v q p is = elim (eqb_tells q k) [
  | inl (one, same) ↦ inl (sym (map.get-insert nat_cmp_total m k v q ∙ ap (λ b. cond b (Some v) (map.get m q)) (unsigned_tied q k ∙ one)) ∙ is)
  | inr (none, other) ↦ inr (sym (map.get-insert nat_cmp_total m k v q ∙ ap (λ b. cond b (Some v) (map.get m q)) (unsigned_tied q k ∙ none)) ∙ is)
]

same_pair : (v p : Pair) → Some v ≡ Some p → v ≡ p
same_pair v p e = cc

false_true : false ≡ true → ⊥
false_true e = cc

left_in : (s : set.FinSet nat_cmp) (k q : ℕ) → set.contains (set.remove s k) q ≡ true → set.contains s q ≡ true
left_in s k q there = elim (eqb_tells q k) [
  | inl (one, same) ↦ absurd (false_true (sym (ap (λ b. not b && set.contains s q) (unsigned_tied q k ∙ one)) ∙ sym (set.contains-remove nat_cmp_total s k q) ∙ there))
  | inr (none, apart) ↦ sym (ap (λ b. not b && set.contains s q) (unsigned_tied q k ∙ none)) ∙ sym (set.contains-remove nat_cmp_total s k q) ∙ there
]

was_in : (s : set.FinSet nat_cmp) (k q : ℕ) → set.contains (set.insert s k) q ≡ true → (q ≡ k) ⊎ (set.contains s q ≡ true)
was_in s k q there = elim (eqb_tells q k) [
  | inl (one, same) ↦ inl same
  | inr (none, apart) ↦ inr (sym (ap (λ b. b || set.contains s q) (unsigned_tied q k ∙ none)) ∙ sym (set.contains-insert nat_cmp_total s k q) ∙ there)
]

in_set : (a b : set.FinSet nat_cmp) (q : ℕ) → a ≡ b → set.contains a q ≡ true → set.contains b q ≡ true
in_set a b q same there = subst (λ (s : set.FinSet nat_cmp). set.contains s q ≡ true) same there

in_map : (a b : PairMap) (q : ℕ) (p : Pair) → a ≡ b → pair_at a q ≡ Some p → pair_at b q ≡ Some p
in_map a b q p same there = subst (λ (m : PairMap). pair_at m q ≡ Some p) same there

-- ---- the table's changes

pub room_gives : (old new : Database) → IsAsBefore old new → Gives old new
room_gives old new is = record {
  start = ap (λ (d : Database). d.start) is.content;
  given = (let same : new.given ≡ old.given = ap (λ (d : Database). d.given) is.content in omega (arith, same));
  reserved = λ q there. inl (in_set new.reserved old.reserved q (ap (λ (d : Database). d.reserved) is.content) there);
  pairs = λ q p there. inl (in_map new.pairs old.pairs q p (ap (λ (d : Database). d.pairs) is.content) there);
}

pub reserve_gives : (old : Database) (spi : ℕ) (new : Database) → Reserves old spi new → Gives old new
reserve_gives old spi new is = record {
  start = ap (λ (d : Database). d.start) is.content;
  given = (let same : new.given ≡ old.given + 1 = ap (λ (d : Database). d.given) is.content in omega (arith, same));
  reserved = λ q there. elim (was_in old.reserved spi q (in_set new.reserved (set.insert old.reserved spi) q (ap (λ (d : Database). d.reserved) is.content) there)) [
    | inl same ↦ inr (let first = is.in_order in omega (arith, same, first))
    | inr before ↦ inl before
  ];
  pairs = λ q p there. inl (in_map new.pairs old.pairs q p (ap (λ (d : Database). d.pairs) is.content) there);
}

release_gives : (old : Database) (spi : ℕ) (new : Database) → Releases old spi new → Gives old new
release_gives old spi new is = record {
  start = ap (λ (d : Database). d.start) is.content;
  given = (let same : new.given ≡ old.given = ap (λ (d : Database). d.given) is.content in omega (arith, same));
  reserved = λ q there. inl (left_in old.reserved spi q (in_set new.reserved (set.remove old.reserved spi) q (ap (λ (d : Database). d.reserved) is.content) there));
  pairs = λ q p there. inl (in_map new.pairs old.pairs q p (ap (λ (d : Database). d.pairs) is.content) there);
}

install_gives : (old : Database) (spi : ℕ) (pair : Pair) (serial : ℕ) (new : Database) → Installs old spi pair serial new → Gives old new
install_gives old spi pair serial new is =
    let v : Pair = record pair { serial = serial } in
    record {
      start = ap (λ (d : Database). d.start) is.content;
      given = (let same : new.given ≡ old.given = ap (λ (d : Database). d.given) is.content in omega (arith, same));
      reserved = λ q there. inl (left_in old.reserved spi q (in_set new.reserved (set.remove old.reserved spi) q (ap (λ (d : Database). d.reserved) is.content) there));
      pairs = λ q p there. elim (inserted old.pairs serial v q p (in_map new.pairs (map.insert old.pairs serial v) q p (ap (λ (d : Database). d.pairs) is.content) there)) [
        | inl here ↦
            let own : spi ≡ p.inbound.association.spi = sym is.its_own ∙ ap (λ (x : Pair). x.inbound.association.spi) (same_pair v p here) in
            inr (inl (subst (λ n. IsReserved old n) own is.reserved))
        | inr before ↦ inl before
      ];
    }

removal_gives : (old : Database) (ike : ℕ) (new : Database) → RemovesAllOf old ike new → Gives old new
removal_gives old ike new is = record {
  start = ap (λ (d : Database). d.start) is.content;
  given = (let same : new.given ≡ old.given = ap (λ (d : Database). d.given) is.content in omega (arith, same));
  reserved = λ q there. inl (in_set new.reserved old.reserved q (ap (λ (d : Database). d.reserved) is.content) there);
  pairs = λ q p there. inl ((is.kept q p).0 there).0;
}

named_gives : (old : Database) (serials : List ℕ) (new : Database) → RemovesNamed old serials new → Gives old new
named_gives old serials new is = record {
  start = ap (λ (d : Database). d.start) is.content;
  given = (let same : new.given ≡ old.given = ap (λ (d : Database). d.given) is.content in omega (arith, same));
  reserved = λ q there. inl (in_set new.reserved old.reserved q (ap (λ (d : Database). d.reserved) is.content) there);
  pairs = λ q p there. inl ((is.kept q p).0 there).0;
}

spis_gives : (held : ℕ → Type 0) (old new : Database) → GivesUpSpis held old new → Gives old new
spis_gives held old new is = record {
  start = ap (λ (d : Database). d.start) is.content;
  given = (let same : new.given ≡ old.given = ap (λ (d : Database). d.given) is.content in omega (arith, same));
  reserved = λ q there. inl ((is.reserved q).0 there).0;
  pairs = λ q p there. inl (in_map new.pairs old.pairs q p (ap (λ (d : Database). d.pairs) is.content) there);
}

-- ---- by what an exchange makes of the IKE SA

next_gives : (old : Database) (pair : Pair) (serial : ℕ) (new : Database) → AddsNext old pair serial new → Gives old new
next_gives old pair serial new is = in_turn old is.between new (reserve_gives old is.spi is.between is.reserved) (install_gives is.between is.spi pair serial new is.installed)

child_gives : (old : Database) (spi : Option ℕ) (pair : Option Pair) (child : Option ℕ) (new : Database) → AddsChild old spi pair child new → Gives old new
child_gives old None None None new is = unchanged old new is
child_gives old None (Some pair) (Some serial) new is = next_gives old pair serial new is
child_gives old (Some spi) None None new is = release_gives old spi new is
child_gives old (Some spi) (Some pair) (Some serial) new is = install_gives old spi pair serial new is
child_gives old None None (Some serial) new is = absurd is
child_gives old None (Some pair) None new is = absurd is
child_gives old (Some spi) None (Some serial) new is = absurd is
child_gives old (Some spi) (Some pair) None new is = absurd is

over_gives : (a : Association) (table : Database) (moment : ℕ) (b : Association) (new : Database) → Closes a table moment b new → Gives table new
over_gives a table moment b new is = in_turn table is.between new (spis_gives (HoldsSpi a) table is.between is.released) (removal_gives is.between a.serial new is.removed)

concluded_gives : (setup : Setup) (a : Association) (table : Database) (o : Outcome) (came : Fate) (b : Association) (new : Database) → ConcludesBy setup a table o came b new → Gives table new
concluded_gives setup a table outcome.Closes came b new is = over_gives a table setup.moment b new is.over
concluded_gives setup a table (outcome.Establishes pair window) came b new is = child_gives table (established_spi a.phase) pair (made_by came) new is.added

closed_if_gives : (ending : Bool) (serials : List ℕ) (a : Association) (table : Database) (moment : ℕ) (b : Association) (new : Database) → ClosesIf ending serials a table moment b new → Gives table new
closed_if_gives true serials a table moment b new is = over_gives a table moment b new is
closed_if_gives false serials a table moment b new is = named_gives table serials new is.1.removed

further_gives : (pair : Option Pair) (table : Database) (came : Fate) (new : Database) → AddsFurther pair table came new → Gives table new
further_gives None table fate.Stands new is = unchanged table new is
further_gives None table (fate.Made serial) new is = absurd is
further_gives None table fate.Closed new is = absurd is
further_gives (Some pair) table fate.Stands new is = absurd is
further_gives (Some pair) table (fate.Made serial) new is = next_gives table pair serial new is
further_gives (Some pair) table fate.Closed new is = absurd is

answered_gives : (ending : Bool) (pair : Option Pair) (a : Association) (table : Database) (moment : ℕ) (came : Fate) (b : Association) (new : Database)
    → ConcludesFurther ending pair a table moment came b new → Gives table new
answered_gives true pair a table moment came b new is = over_gives a table moment b new is.1
answered_gives false pair a table moment came b new is = further_gives pair table came new is.1

counted_gives : (o : Conclusion) (spi : ℕ) (a : Association) (table : Database) (moment : ℕ) (came : Fate) (b : Association) (new : Database)
    → EndsFurther o spi a table moment came b new → Gives table new
counted_gives conclusion.Closes spi a table moment came b new is = in_turn table is.between new (release_gives table spi is.between is.released) (over_gives a is.between moment b new is.over)
counted_gives (conclusion.Made pair) spi a table moment came b new is = install_gives table spi pair is.serial new is.installed
counted_gives conclusion.NoChild spi a table moment came b new is = release_gives table spi new is.released

-- ---- by what a message does

established_gives : (informational : Bool) (meaning : Meaning) (setup : Setup) (old : Association) (table : Database) (number : ℕ) (plain : Plain) (e : Effect) (new : Association) (new_table : Database)
    → DoesAtEstablished informational meaning setup old table number plain e new new_table → Gives table new_table
established_gives true meaning setup old table number plain (effect.Replied answered) new new_table is = closed_if_gives _ _ _ table setup.moment new new_table is.concluded
established_gives true meaning setup old table number plain e new new_table is = absurd is
established_gives false meaning setup old table number plain (effect.Replied answered) new new_table is =
    in_turn table is.between new_table (room_gives table is.between is.room) (answered_gives _ _ _ is.between setup.moment answered.fate new new_table is.concluded)
established_gives false meaning setup old table number plain e new new_table is = absurd is

request_gives : (meaning : Meaning) (setup : Setup) (p : Phase) (exchange : ℕ) (old : Association) (table : Database) (number : ℕ) (plain : Plain) (e : Effect) (new : Association) (new_table : Database)
    → DoesRequest meaning setup p exchange old table number plain e new new_table → Gives table new_table
request_gives meaning setup (phase.HalfOpen opened) exchange old table number plain (effect.Replied answered) new new_table is =
    in_turn table is.between new_table (room_gives table is.between is.room) (concluded_gives setup _ is.between _ answered.fate new new_table is.concluded)
request_gives meaning setup (phase.HalfOpen opened) exchange old table number plain e new new_table is = absurd is
request_gives meaning setup (phase.Established keys) exchange old table number plain e new new_table is =
    established_gives (exchange == INFORMATIONAL) meaning setup old table number plain e new new_table is
request_gives meaning setup p exchange old table number plain (effect.Refused fault) new new_table is = unchanged table new_table is.1.pairs
request_gives meaning setup p exchange old table number plain e new new_table is = absurd is

answer_gives : (further : Bool) (setup : Setup) (old : Association) (table : Database) (number : ℕ) (plain : Plain) (e : Effect) (new : Association) (new_table : Database)
    → DoesAnswer further setup old table number plain e new new_table → Gives table new_table
answer_gives true setup old table number plain (effect.Counted ended) new new_table is = counted_gives is.conclusion _ _ table setup.moment ended.fate new new_table is.ends
answer_gives true setup old table number plain e new new_table is = absurd is
answer_gives false setup old table number plain (effect.Counted ended) new new_table is = closed_if_gives _ _ _ table setup.moment new new_table is.concluded
answer_gives false setup old table number plain e new new_table is = absurd is

response_gives : (meaning : Meaning) (setup : Setup) (p : Phase) (old : Association) (table : Database) (number : ℕ) (plain : Plain) (e : Effect) (new : Association) (new_table : Database)
    → DoesResponse meaning setup p old table number plain e new new_table → Gives table new_table
response_gives meaning setup (phase.AuthSent sent) old table number plain (effect.Counted ended) new new_table is =
    concluded_gives setup _ table is.verdict ended.fate new new_table is.concluded
response_gives meaning setup (phase.AuthSent sent) old table number plain e new new_table is = absurd is
response_gives meaning setup (phase.Established keys) old table number plain e new new_table is = answer_gives (asked_further old number) setup old table number plain e new new_table is
response_gives meaning setup p old table number plain (effect.Refused fault) new new_table is = unchanged table new_table is.1.pairs
response_gives meaning setup p old table number plain e new new_table is = absurd is

does_gives : (meaning : Meaning) (setup : Setup) (old : Association) (table : Database) (octets : Octets) (m : Message) (r : Reception) (e : Effect) (new : Association) (new_table : Database)
    → Does meaning setup old table octets m r e new new_table → Gives table new_table
does_gives meaning setup old table octets m (Refused fault) (effect.Refused said) new new_table is = unchanged table new_table is.1.pairs
does_gives meaning setup old table octets m (Repeat reply) (effect.Repeated said) new new_table is = unchanged table new_table is.1.pairs
does_gives meaning setup old table octets m (TakesEffect plain) e new new_table is = request_gives meaning setup old.phase m.header.exchange old table m.header.id plain e new new_table is
does_gives meaning setup old table octets m (Answers plain) e new new_table is = response_gives meaning setup old.phase old table m.header.id plain e new new_table is
does_gives meaning setup old table octets m AnswersInitial e new new_table is = unchanged table new_table is.1
does_gives meaning setup old table octets m reception e new new_table is = absurd is

-- ---- by what a datagram does

found_gives : (r : Result ℕ MessageFault) (meaning : Meaning) (setup : Setup) (octets : Octets) (m : Message) (old : Held) (table : Database) (stepped : Stepped) (new : Held) (new_table : Database)
    → TakesFound r meaning setup octets m old table stepped new new_table → Gives table new_table
found_gives (Ok place) meaning setup octets m old table stepped new new_table is =
    does_gives meaning setup is.association table octets m is.takes.reception is.effect is.changed new_table is.takes.done
found_gives (Err fault) meaning setup octets m old table stepped new new_table is = unchanged table new_table is.1

read_gives : (initial : Bool) (meaning : Meaning) (setup : Setup) (cookies : CookieSecrets) (from octets : Octets) (m : Message) (old : Held) (table : Database) (stepped : Stepped) (new : Held) (new_table : Database)
    → TakesRead initial meaning setup cookies from octets m old table stepped new new_table → Gives table new_table
read_gives true meaning setup cookies from octets m old table stepped new new_table is = unchanged table new_table is.1
read_gives false meaning setup cookies from octets m old table stepped new new_table is =
    found_gives (place_meant m.header old.associations) meaning setup octets m old table stepped new new_table is

pub datagram_gives : (meaning : Meaning) (setup : Setup) (cookies : CookieSecrets) (from octets : Octets) (old : Held) (table : Database) (stepped : Stepped) (new : Held) (new_table : Database)
    → TakesDatagram meaning setup cookies from octets old table stepped new new_table → Gives table new_table
datagram_gives meaning setup cookies from octets old table stepped new new_table (inl is) = unchanged table new_table is.unchanged
datagram_gives meaning setup cookies from octets old table stepped new new_table (inr is) =
    read_gives (is_initial_request is.message.header) meaning setup cookies from octets is.message old table stepped new new_table is.done

-- ---- by a command, and by a tick

pub start_gives : (meaning : Meaning) (setup : Setup) (ike : Option ℕ) (place : ℕ) (old : Held) (table : Database) (stepped : Stepped) (new : Held) (new_table : Database)
    → Starts meaning setup ike place old table stepped new new_table → Gives table new_table
start_gives meaning setup None place old table stepped new new_table is =
    in_turn table is.between new_table (room_gives table is.between is.room) (reserve_gives is.between is.done.spi new_table is.done.reserved)
start_gives meaning setup (Some ike) place old table stepped new new_table is =
    let f = is.asks.further in
    in_turn table f.between new_table (room_gives table f.between f.room) (reserve_gives f.between f.spi new_table f.reserved)

passed_gives : (over failed : Bool) (now : ℕ) (a : Association) (table : Database) (sent : List Resent) (closed : List ℕ) (held : List Association) (new_table : Database)
    → PassesBy over failed now a table sent closed held new_table → Gives table new_table
passed_gives true failed now a table sent closed held new_table is = unchanged table new_table is.3
passed_gives false true now a table sent closed held new_table is = over_gives a table now is.0 new_table is.1
passed_gives false false now a table sent closed held new_table is = unchanged table new_table is.5

pub tick_gives : (now : ℕ) (old : List Association) (table : Database) (sent : List Resent) (closed : List ℕ) (new : List Association) (new_table : Database)
    → PassAll now old table sent closed new new_table → Gives table new_table
tick_gives now [] table sent closed new new_table is = unchanged table new_table is.3
tick_gives now (a ∷ rest) table sent closed new new_table is =
    in_turn table is.between new_table
    (passed_gives (is_over now a.phase) (has_failed now a) now a table is.sent_first is.closed_first is.held_first is.between is.passes.done)
    (tick_gives now rest is.between is.sent_rest is.closed_rest is.held_rest new_table is.others)
