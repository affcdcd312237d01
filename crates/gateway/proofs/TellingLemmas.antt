-- Where a step tells that an IKE SA is closed, no pair of it is left.
use Rattle.std.proofs.Common.{◌≡◌, ℕ, Bool, true, false, List, Option, Some, None, Result, Ok, Err, refl, subst, inl, inr}
use Rattle.std.specs.List.{position}
use Rattle.base.specs.Octets.{Octets}
use Rattle.wire.specs.declared.message.Message.{Message}
use Rattle.policy.specs.declared.entry.Entry.{Entry}
use Rattle.sadb.specs.Database.{Database}
use Rattle.sa_init.specs.Cookies.{CookieSecrets}
use Rattle.sa_init.specs.Judging.{Accepted, Answered, Full, Incomplete, JudgementView}
use Rattle.association.specs.Finding.{place_meant}
use Rattle.association.specs.Outcomes.{closed_by, made_by}
use Rattle.association.specs.declared.fault.MessageFault.{MessageFault}
use Rattle.setup.specs.Configs.{Setup}
use Rattle.effects.specs.Taking.{Meaning}
use Rattle.effects.specs.declared.taking.Effect.{Effect}
use Rattle.effects.specs.declared.taking.Effect.TheVariants as effect
use Rattle.ike.specs.Machines.{setup_at, Held, Machine}
use Rattle.ike.specs.Moves.{TellsClosed}
use Rattle.ike.specs.Outputs.{closed_serial, passed_over, stepped_of}
use Rattle.ike.specs.Receiving.{is_answered, is_initial_request, is_sound_initial, DoesJudgement, PassesOver, TakesDatagram, TakesFound, TakesRead, TakesRequestAt, TakesSound}
use Rattle.ike.specs.Steps.{is_tick, InputView, Steps}
use Rattle.ike.specs.Steps as input
use Rattle.ike.specs.Orders as order
use Rattle.ike.specs.declared.fault.IkeFault.{IkeFault}
use Rattle.ike.specs.declared.output.IkeOutput.TheVariants as output
use Rattle.ike.specs.declared.output.Stepped.{Stepped}
use Rattle.gateway.proofs.EndingLemmas.{closes, message_ends, HasNone}

-- what a step tells, by what it is
tells_as : (serial : ℕ) (s t : Stepped) → s ≡ t → TellsClosed serial s.output → TellsClosed serial t.output
tells_as serial s t same is = subst (λ (x : Stepped). TellsClosed serial x.output) same is

passes_over : (serial : ℕ) (why : IkeFault) (old : Held) (stepped : Stepped) (new : Held) → PassesOver why old stepped new → TellsClosed serial stepped.output → ⊥
passes_over serial why old stepped new is tells = tells_as serial stepped (passed_over why) is.said tells

-- ---- a request of IKE_SA_INIT closes nothing

judged_tells : (serial : ℕ) (meaning : Meaning) (setup : Setup) (spi_i : ℕ) (octets : Octets) (j : JudgementView) (old : Held) (stepped : Stepped) (new : Held)
    → DoesJudgement meaning setup spi_i octets j old stepped new → TellsClosed serial stepped.output → ⊥
judged_tells serial meaning setup spi_i octets (Answered notice) old stepped new is tells = tells_as serial stepped _ is.0.said tells
judged_tells serial meaning setup spi_i octets Incomplete old stepped new is tells = passes_over serial _ old stepped new is tells
judged_tells serial meaning setup spi_i octets Full old stepped new is tells = passes_over serial _ old stepped new is tells
judged_tells serial meaning setup spi_i octets (Accepted offer) old stepped new is tells = elim is.done [
  | inl refused ↦ passes_over serial _ old stepped new refused.1 tells
  | inr admits ↦ tells_as serial stepped _ admits.said tells
]

first_tells : (serial : ℕ) (place : Option ℕ) (meaning : Meaning) (setup : Setup) (cookies : CookieSecrets) (from octets : Octets) (m : Message) (old : Held) (stepped : Stepped) (new : Held)
    → TakesRequestAt place meaning setup cookies from octets m old stepped new → TellsClosed serial stepped.output → ⊥
first_tells serial (Some place) meaning setup cookies from octets m old stepped new is tells = tells_as serial stepped _ is.0.said tells
first_tells serial None meaning setup cookies from octets m old stepped new is tells =
    judged_tells serial meaning setup m.header.spi_i octets is.judgement old stepped new is.done tells

initial_tells : (serial : ℕ) (b : Bool) (meaning : Meaning) (setup : Setup) (cookies : CookieSecrets) (from octets : Octets) (m : Message) (old : Held) (stepped : Stepped) (new : Held)
    → TakesSound b meaning setup cookies from octets m old stepped new → TellsClosed serial stepped.output → ⊥
initial_tells serial true meaning setup cookies from octets m old stepped new is tells =
    first_tells serial (position (is_answered octets) old.associations) meaning setup cookies from octets m old stepped new is tells
initial_tells serial false meaning setup cookies from octets m old stepped new is tells = passes_over serial _ old stepped new is tells

-- ---- a message for an IKE SA

-- this IKE SA is the one that its effect closes
reply_tells : (serial ike : ℕ) (octets : Octets) (b : Bool) → TellsClosed serial (output.Reply octets (closed_serial ike b)) → (b ≡ true) × (ike ≡ serial)
reply_tells serial ike octets true tells = (refl, tells)
reply_tells serial ike octets false tells = absurd tells

counted_tells : (serial ike : ℕ) (child : Option ℕ) (b : Bool) → TellsClosed serial (output.Counted ike child (closed_serial ike b)) → (b ≡ true) × (ike ≡ serial)
counted_tells serial ike child true tells = (refl, tells)
counted_tells serial ike child false tells = absurd tells

effect_tells : (serial ike number : ℕ) (e : Effect) → TellsClosed serial (stepped_of ike number e).output → (closes e ≡ true) × (ike ≡ serial)
effect_tells serial ike number (effect.Refused fault) tells = absurd tells
effect_tells serial ike number (effect.Repeated octets) tells = absurd tells
effect_tells serial ike number (effect.Replied answered) tells = reply_tells serial ike answered.octets (closed_by answered.fate) tells
effect_tells serial ike number (effect.Again octets) tells = absurd tells
effect_tells serial ike number (effect.AsksAuth octets) tells = absurd tells
effect_tells serial ike number (effect.Counted ended) tells = counted_tells serial ike (made_by ended.fate) (closed_by ended.fate) tells

found_tells : (serial : ℕ) (place : Result ℕ MessageFault) (meaning : Meaning) (setup : Setup) (octets : Octets) (m : Message) (old : Held) (table : Database) (stepped : Stepped) (new : Held) (new_table : Database)
    → TakesFound place meaning setup octets m old table stepped new new_table → TellsClosed serial stepped.output → HasNone serial new_table
found_tells serial (Ok place) meaning setup octets m old table stepped new new_table is tells =
    let told = effect_tells serial is.association.serial m.header.id is.effect (tells_as serial stepped _ is.said tells) in
    subst (λ n. HasNone n new_table) told.1 (message_ends meaning setup is.association table octets m is.effect is.changed new_table is.takes told.0)
found_tells serial (Err fault) meaning setup octets m old table stepped new new_table is tells = absurd (passes_over serial _ old stepped new is.0 tells)

read_tells : (serial : ℕ) (b : Bool) (meaning : Meaning) (setup : Setup) (cookies : CookieSecrets) (from octets : Octets) (m : Message) (old : Held) (table : Database) (stepped : Stepped) (new : Held) (new_table : Database)
    → TakesRead b meaning setup cookies from octets m old table stepped new new_table → TellsClosed serial stepped.output → HasNone serial new_table
read_tells serial true meaning setup cookies from octets m old table stepped new new_table is tells =
    absurd (initial_tells serial (is_sound_initial m.header) meaning setup cookies from octets m old stepped new is.0 tells)
read_tells serial false meaning setup cookies from octets m old table stepped new new_table is tells =
    found_tells serial (place_meant m.header old.associations) meaning setup octets m old table stepped new new_table is tells

datagram_tells : (serial : ℕ) (meaning : Meaning) (setup : Setup) (cookies : CookieSecrets) (from octets : Octets) (old : Held) (table : Database) (stepped : Stepped) (new : Held) (new_table : Database)
    → TakesDatagram meaning setup cookies from octets old table stepped new new_table → TellsClosed serial stepped.output → HasNone serial new_table
datagram_tells serial meaning setup cookies from octets old table stepped new new_table (inl fails) tells = absurd (passes_over serial _ old stepped new fails.passed tells)
datagram_tells serial meaning setup cookies from octets old table stepped new new_table (inr reads) tells =
    read_tells serial (is_initial_request reads.message.header) meaning setup cookies from octets reads.message old table stepped new new_table reads.done tells

-- ---- a step

clash : (b : Bool) → b ≡ true → b ≡ false → ⊥
clash true one other = cc
clash false one other = cc

pub step_tells : (serial : ℕ) (meaning : Meaning) (entries : List Entry) (given : InputView) (old : Machine) (table : Database) (stepped : Stepped) (new : Machine) (new_table : Database)
    → is_tick given ≡ false → Steps meaning entries given old table stepped new new_table → TellsClosed serial stepped.output → HasNone serial new_table
step_tells serial meaning entries (input.Message from octets fresh) old table stepped new new_table still is tells =
    datagram_tells serial meaning (setup_at old entries fresh) old.cookies from octets old.held table stepped new.held new_table is.1 tells
step_tells serial meaning entries (input.Start None place fresh) old table stepped new new_table still is tells = absurd (tells_as serial stepped _ is.1.done.said tells)
step_tells serial meaning entries (input.Start (Some ike) place fresh) old table stepped new new_table still is tells = absurd (tells_as serial stepped _ is.1.asks.asks.said tells)
step_tells serial meaning entries (input.Order (order.Probe ike) fresh) old table stepped new new_table still is tells = absurd (tells_as serial stepped _ is.1.asks.said tells)
step_tells serial meaning entries (input.Order (order.DeleteChild child) fresh) old table stepped new new_table still is tells = absurd (tells_as serial stepped _ is.1.asks.asks.said tells)
step_tells serial meaning entries (input.Order (order.DeleteIke ike) fresh) old table stepped new new_table still is tells = absurd (tells_as serial stepped _ is.1.asks.said tells)
step_tells serial meaning entries (input.Secret secret) old table stepped new new_table still is tells = absurd (tells_as serial stepped _ is.said tells)
step_tells serial meaning entries (input.Tick moment) old table stepped new new_table still is tells = absurd (clash true refl still)
