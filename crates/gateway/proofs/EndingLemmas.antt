-- A message by which an IKE SA is closed takes its pairs along.
use Rattle.std.proofs.Common.{◌≡◌, ◌≢◌, ℕ, Bool, true, false, List, Option, Some, None, refl, ap, sym, ◌∙◌}
use Rattle.std.specs.Prelude.{◌==◌}
use Rattle.base.specs.Octets.{Octets}
use Rattle.wire.specs.Numbers.{INFORMATIONAL}
use Rattle.wire.specs.declared.message.Message.{Message}
use Rattle.exchange.specs.declared.sealed.Plain.{Plain}
use Rattle.sadb.specs.Database.{pair_at, Database}
use Rattle.sadb.specs.declared.pair.Pair.{Pair}
use Rattle.association.specs.Closing.{Closes}
use Rattle.association.specs.Outcomes.{childless, closed_by}
use Rattle.association.specs.Receiving.{Reception, Refused, Repeat, TakesEffect, Answers, AnswersInitial}
use Rattle.association.specs.declared.outcome.Fate.{Fate}
use Rattle.association.specs.declared.outcome.Fate.TheVariants as fate
use Rattle.association.specs.declared.outcome.Answered.{Answered}
use Rattle.association.specs.declared.outcome.Ended.{Ended}
use Rattle.association.specs.declared.phase.Association.{Association}
use Rattle.association.specs.declared.phase.Phase.{Phase}
use Rattle.association.specs.declared.phase.Phase.TheVariants as phase
use Rattle.setup.specs.Configs.{Setup}
use Rattle.initial.specs.Concluding.{ConcludesBy}
use Rattle.initial.specs.declared.concluding.Outcome.{Outcome}
use Rattle.initial.specs.declared.concluding.Outcome.TheVariants as outcome
use Rattle.initial.specs.declared.reading.Continued.{Continued}
use Rattle.informational.specs.Orders.{ClosesIf}
use Rattle.create_child.specs.Answering.{AddsFurther, ConcludesFurther}
use Rattle.create_child.specs.Counting.{EndsFurther}
use Rattle.further.specs.declared.concluding.Conclusion.{Conclusion}
use Rattle.further.specs.declared.concluding.Conclusion.TheVariants as conclusion
use Rattle.effects.specs.Taking.{asked_further, Does, DoesAnswer, DoesAtEstablished, DoesRequest, DoesResponse, Meaning, Says, TakesMessage}
use Rattle.effects.specs.declared.taking.Effect.{Effect}
use Rattle.effects.specs.declared.taking.Effect.TheVariants as effect

-- no pair of the IKE SA with this serial is in the table
abbrev pub HasNone : ℕ → Database → Type 0
HasNone ike table = (child : ℕ) (pair : Pair) → pair_at table.pairs child ≡ Some pair → pair.ike ≢ ike

no : (b : Bool) → b ≡ false → b ≡ true → ⊥
no b is other = absurd (let e : false ≡ true = sym is ∙ other in cc)

closed_has_none : (a : Association) (table : Database) (moment : ℕ) (b : Association) (new : Database) → Closes a table moment b new → HasNone a.serial new
closed_has_none a table moment b new is child pair there = ((is.removed.kept child pair).0 there).1

-- ---- by what an exchange makes of the IKE SA

childless_closed : (b : Bool) (came : Fate) → came ≡ childless b → closed_by came ≡ true → b ≡ true
childless_closed true came is closed = refl
childless_closed false came is closed = absurd (no (closed_by came) (ap closed_by is) closed)

closes_if : (b : Bool) (serials : List ℕ) (a : Association) (table : Database) (moment : ℕ) (new : Association) (new_table : Database)
    → ClosesIf b serials a table moment new new_table → b ≡ true → HasNone a.serial new_table
closes_if true serials a table moment new new_table is e = closed_has_none a table moment new new_table is
closes_if false serials a table moment new new_table is e = absurd (no false refl e)

added_stands : (pair : Option Pair) (table : Database) (came : Fate) (new : Database) → AddsFurther pair table came new → closed_by came ≡ true → ⊥
added_stands None table fate.Stands new is closed = no false refl closed
added_stands None table (fate.Made serial) new is closed = is
added_stands None table fate.Closed new is closed = is
added_stands (Some pair) table fate.Stands new is closed = is
added_stands (Some pair) table (fate.Made serial) new is closed = no false refl closed
added_stands (Some pair) table fate.Closed new is closed = is

further_ends : (b : Bool) (pair : Option Pair) (a : Association) (table : Database) (moment : ℕ) (came : Fate) (new : Association) (new_table : Database)
    → ConcludesFurther b pair a table moment came new new_table → closed_by came ≡ true → HasNone a.serial new_table
further_ends true pair a table moment came new new_table is closed = closed_has_none a table moment new new_table is.1
further_ends false pair a table moment came new new_table is closed = absurd (added_stands pair table came new_table is.1 closed)

concluded_ends : (o : Conclusion) (spi : ℕ) (a : Association) (table : Database) (moment : ℕ) (came : Fate) (new : Association) (new_table : Database)
    → EndsFurther o spi a table moment came new new_table → closed_by came ≡ true → HasNone a.serial new_table
concluded_ends conclusion.Closes spi a table moment came new new_table is closed = closed_has_none a is.between moment new new_table is.over
concluded_ends (conclusion.Made pair) spi a table moment came new new_table is closed = absurd (no (closed_by came) (ap closed_by is.told) closed)
concluded_ends conclusion.NoChild spi a table moment came new new_table is closed = absurd (no (closed_by came) (ap closed_by is.stands) closed)

auth_ends : (setup : Setup) (a : Association) (table : Database) (o : Outcome) (came : Fate) (new : Association) (new_table : Database)
    → ConcludesBy setup a table o came new new_table → closed_by came ≡ true → HasNone a.serial new_table
auth_ends setup a table outcome.Closes came new new_table is closed = closed_has_none a table setup.moment new new_table is.over
auth_ends setup a table (outcome.Establishes pair window) came new new_table is closed = absurd (no (closed_by came) is.stands closed)

-- ---- by what a message does

-- the effect tells that the IKE SA is closed
abbrev pub closes : Effect → Bool
closes (effect.Replied answered) = closed_by answered.fate
closes (effect.Counted ended) = closed_by ended.fate
closes _ = false

established_ends : (b : Bool) (meaning : Meaning) (setup : Setup) (old : Association) (table : Database) (number : ℕ) (plain : Plain) (answered : Answered) (new : Association) (new_table : Database)
    → DoesAtEstablished b meaning setup old table number plain (effect.Replied answered) new new_table → closed_by answered.fate ≡ true → HasNone old.serial new_table
established_ends true meaning setup old table number plain answered new new_table is closed =
    closes_if _ _ _ table setup.moment new new_table is.concluded (childless_closed _ answered.fate is.fate closed)
established_ends false meaning setup old table number plain answered new new_table is closed =
    further_ends _ _ _ is.between setup.moment answered.fate new new_table is.concluded closed

request_ends : (meaning : Meaning) (setup : Setup) (p : Phase) (exchange : ℕ) (old : Association) (table : Database) (number : ℕ) (plain : Plain) (answered : Answered) (new : Association) (new_table : Database)
    → DoesRequest meaning setup p exchange old table number plain (effect.Replied answered) new new_table → closed_by answered.fate ≡ true → HasNone old.serial new_table
request_ends meaning setup (phase.HalfOpen opened) exchange old table number plain answered new new_table is closed =
    auth_ends setup _ is.between _ answered.fate new new_table is.concluded closed
request_ends meaning setup (phase.Established keys) exchange old table number plain answered new new_table is closed =
    established_ends (exchange == INFORMATIONAL) meaning setup old table number plain answered new new_table is closed
request_ends meaning setup (phase.InitSent sent) exchange old table number plain answered new new_table is closed = absurd is
request_ends meaning setup (phase.AuthSent sent) exchange old table number plain answered new new_table is closed = absurd is
request_ends meaning setup (phase.Closed keys at) exchange old table number plain answered new new_table is closed = absurd is

at_established : (b : Bool) (meaning : Meaning) (setup : Setup) (old : Association) (table : Database) (number : ℕ) (plain : Plain) (ended : Ended) (new : Association) (new_table : Database)
    → DoesAtEstablished b meaning setup old table number plain (effect.Counted ended) new new_table → ⊥
at_established true meaning setup old table number plain ended new new_table is = is
at_established false meaning setup old table number plain ended new new_table is = is

-- no request is counted
request_counts : (meaning : Meaning) (setup : Setup) (p : Phase) (exchange : ℕ) (old : Association) (table : Database) (number : ℕ) (plain : Plain) (ended : Ended) (new : Association) (new_table : Database)
    → DoesRequest meaning setup p exchange old table number plain (effect.Counted ended) new new_table → ⊥
request_counts meaning setup (phase.HalfOpen opened) exchange old table number plain ended new new_table is = is
request_counts meaning setup (phase.Established keys) exchange old table number plain ended new new_table is =
    at_established (exchange == INFORMATIONAL) meaning setup old table number plain ended new new_table is
request_counts meaning setup (phase.InitSent sent) exchange old table number plain ended new new_table is = is
request_counts meaning setup (phase.AuthSent sent) exchange old table number plain ended new new_table is = is
request_counts meaning setup (phase.Closed keys at) exchange old table number plain ended new new_table is = is

answer_ends : (b : Bool) (setup : Setup) (old : Association) (table : Database) (number : ℕ) (plain : Plain) (ended : Ended) (new : Association) (new_table : Database)
    → DoesAnswer b setup old table number plain (effect.Counted ended) new new_table → closed_by ended.fate ≡ true → HasNone old.serial new_table
answer_ends true setup old table number plain ended new new_table is closed =
    concluded_ends is.conclusion _ _ table setup.moment ended.fate new new_table is.ends closed
answer_ends false setup old table number plain ended new new_table is closed =
    closes_if _ _ _ table setup.moment new new_table is.concluded (childless_closed _ ended.fate is.fate closed)

response_ends : (meaning : Meaning) (setup : Setup) (p : Phase) (old : Association) (table : Database) (number : ℕ) (plain : Plain) (ended : Ended) (new : Association) (new_table : Database)
    → DoesResponse meaning setup p old table number plain (effect.Counted ended) new new_table → closed_by ended.fate ≡ true → HasNone old.serial new_table
response_ends meaning setup (phase.AuthSent sent) old table number plain ended new new_table is closed =
    auth_ends setup _ table is.verdict ended.fate new new_table is.concluded closed
response_ends meaning setup (phase.Established keys) old table number plain ended new new_table is closed =
    answer_ends (asked_further old number) setup old table number plain ended new new_table is closed
response_ends meaning setup (phase.InitSent sent) old table number plain ended new new_table is closed = absurd is
response_ends meaning setup (phase.HalfOpen opened) old table number plain ended new new_table is closed = absurd is
response_ends meaning setup (phase.Closed keys at) old table number plain ended new new_table is closed = absurd is

at_answer : (b : Bool) (setup : Setup) (old : Association) (table : Database) (number : ℕ) (plain : Plain) (answered : Answered) (new : Association) (new_table : Database)
    → DoesAnswer b setup old table number plain (effect.Replied answered) new new_table → ⊥
at_answer true setup old table number plain answered new new_table is = is
at_answer false setup old table number plain answered new new_table is = is

-- no response is replied to
response_replies : (meaning : Meaning) (setup : Setup) (p : Phase) (old : Association) (table : Database) (number : ℕ) (plain : Plain) (answered : Answered) (new : Association) (new_table : Database)
    → DoesResponse meaning setup p old table number plain (effect.Replied answered) new new_table → ⊥
response_replies meaning setup (phase.AuthSent sent) old table number plain answered new new_table is = is
response_replies meaning setup (phase.Established keys) old table number plain answered new new_table is =
    at_answer (asked_further old number) setup old table number plain answered new new_table is
response_replies meaning setup (phase.InitSent sent) old table number plain answered new new_table is = is
response_replies meaning setup (phase.HalfOpen opened) old table number plain answered new new_table is = is
response_replies meaning setup (phase.Closed keys at) old table number plain answered new new_table is = is

initial_replies : (answered : Answered) (c : Continued) → Says (effect.Replied answered) c → ⊥
initial_replies answered c is = is

initial_counts : (ended : Ended) (c : Continued) → Says (effect.Counted ended) c → ⊥
initial_counts ended c is = is

replied_ends : (meaning : Meaning) (setup : Setup) (old : Association) (table : Database) (octets : Octets) (m : Message) (r : Reception) (answered : Answered) (new : Association) (new_table : Database)
    → Does meaning setup old table octets m r (effect.Replied answered) new new_table → closed_by answered.fate ≡ true → HasNone old.serial new_table
replied_ends meaning setup old table octets m (Refused fault) answered new new_table is closed = absurd is
replied_ends meaning setup old table octets m (Repeat reply) answered new new_table is closed = absurd is
replied_ends meaning setup old table octets m (TakesEffect plain) answered new new_table is closed =
    request_ends meaning setup old.phase m.header.exchange old table m.header.id plain answered new new_table is closed
replied_ends meaning setup old table octets m (Answers plain) answered new new_table is closed =
    absurd (response_replies meaning setup old.phase old table m.header.id plain answered new new_table is)
replied_ends meaning setup old table octets m AnswersInitial answered new new_table is closed = absurd (initial_replies answered is.0.continued is.0.said)

counted_ends : (meaning : Meaning) (setup : Setup) (old : Association) (table : Database) (octets : Octets) (m : Message) (r : Reception) (ended : Ended) (new : Association) (new_table : Database)
    → Does meaning setup old table octets m r (effect.Counted ended) new new_table → closed_by ended.fate ≡ true → HasNone old.serial new_table
counted_ends meaning setup old table octets m (Refused fault) ended new new_table is closed = absurd is
counted_ends meaning setup old table octets m (Repeat reply) ended new new_table is closed = absurd is
counted_ends meaning setup old table octets m (TakesEffect plain) ended new new_table is closed =
    absurd (request_counts meaning setup old.phase m.header.exchange old table m.header.id plain ended new new_table is)
counted_ends meaning setup old table octets m (Answers plain) ended new new_table is closed =
    response_ends meaning setup old.phase old table m.header.id plain ended new new_table is closed
counted_ends meaning setup old table octets m AnswersInitial ended new new_table is closed = absurd (initial_counts ended is.0.continued is.0.said)

-- Where its effect tells that the IKE SA is closed, no pair of it is left.
pub message_ends : (meaning : Meaning) (setup : Setup) (old : Association) (table : Database) (octets : Octets) (m : Message) (e : Effect) (new : Association) (new_table : Database)
    → TakesMessage meaning setup old table octets m e new new_table → closes e ≡ true → HasNone old.serial new_table
message_ends meaning setup old table octets m (effect.Refused fault) new new_table is closed = absurd (no false refl closed)
message_ends meaning setup old table octets m (effect.Repeated reply) new new_table is closed = absurd (no false refl closed)
message_ends meaning setup old table octets m (effect.Replied answered) new new_table is closed =
    replied_ends meaning setup old table octets m is.reception answered new new_table is.done closed
message_ends meaning setup old table octets m (effect.Again next) new new_table is closed = absurd (no false refl closed)
message_ends meaning setup old table octets m (effect.AsksAuth next) new new_table is closed = absurd (no false refl closed)
message_ends meaning setup old table octets m (effect.Counted ended) new new_table is closed =
    counted_ends meaning setup old table octets m is.reception ended new new_table is.done closed
