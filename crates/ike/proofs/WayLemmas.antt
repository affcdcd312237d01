-- What a step did, by the ways in which it can do something.
use Rattle.std.proofs.Common.{◌≡◌, ◌⊎◌, inl, inr, ℕ, Bool, true, false, [], List, Option, Some, None, Result, Ok, Err, ap, max, refl}
use Rattle.std.specs.List.{position, slice_get}
use Rattle.base.specs.Octets.{Octets}
use Rattle.wire.specs.Messages.{Spells}
use Rattle.wire.specs.declared.message.Message.{Message}
use Rattle.policy.specs.declared.entry.Entry.{Entry}
use Rattle.suite.specs.declared.fresh.Fresh.{Fresh}
use Rattle.sadb.specs.Database.{Database, IsAsBefore, PairMap, Reserves}
use Rattle.sa_init.specs.Cookies.{CookieSecrets}
use Rattle.sa_init.specs.Judging.{Accepted, Answered, Full, Incomplete, JudgementView, OfferView}
use Rattle.association.specs.Finding.{place_meant}
use Rattle.association.specs.declared.fault.MessageFault.{MessageFault}
use Rattle.association.specs.declared.phase.Association.{Association}
use Rattle.setup.specs.Configs.{Setup}
use Rattle.effects.specs.Keeping.{kept_reply, IsShort}
use Rattle.effects.specs.Taking.{Meaning}
use Rattle.ike.specs.Machines.{setup_at, Held, Machine}
use Rattle.ike.specs.Outputs.{plain_step}
use Rattle.ike.specs.Receiving.{is_answered, is_initial_request, is_sound_initial, AdmitsNext, DoesJudgement, PassesOver, TakesAt, TakesDatagram, TakesFound, TakesRead, TakesRequestAt, TakesSound, IsInitialRequest}
use Rattle.informational.specs.Ordering.{MarksFor}
use Rattle.informational.specs.declared.ordering.Order.{Order}
use Rattle.informational.specs.declared.ordering.Order.TheVariants as asked
use Rattle.ike.specs.Asking.{AsksAt, AsksFor, AsksThat}
use Rattle.ike.specs.Pairs.{IsOwnLive}
use Rattle.ike.specs.Orders.{OrderView}
use Rattle.ike.specs.Orders as orders
use Rattle.ike.specs.Starting.{BeginsBy, FurthersBy}
use Rattle.ike.specs.Ticking.{TakesHeld}
use Rattle.ike.specs.Tracing.{IsFirstResponse}
use Rattle.ike.specs.Steps.{is_tick, InputView, Steps}
use Rattle.ike.specs.Steps as steps
use Rattle.ike.specs.declared.fault.IkeFault.{IkeFault}
use Rattle.ike.specs.declared.output.IkeOutput.{IkeOutput}
use Rattle.ike.specs.declared.output.IkeOutput.TheVariants as output
use Rattle.ike.specs.declared.output.Stepped.{Stepped}

-- a half-open IKE SA keeps this reply
pub record IsKept (old : Held) (octets : Octets) : Type 0 where
  pub place : ℕ
  pub association : Association
  pub there : slice_get old.associations place ≡ Some association
  pub kept : kept_reply association.phase ≡ Some octets

-- what goes out where nothing changes: a notification, a reply that is kept, or nothing
abbrev pub GoesOut : Held → IkeOutput → Type 0
GoesOut old (output.Reply octets None) = IsFirstResponse octets × IsShort octets
GoesOut old (output.Reply octets (Some closed)) = ⊥
GoesOut old (output.Repeat octets) = IsKept old octets
GoesOut old (output.Request ike octets) = ⊥
GoesOut old (output.Counted ike child closed) = ⊥
GoesOut old (output.Ticked ticked) = ⊥
GoesOut old output.Done = Unit {0}
GoesOut old (output.Dropped f) = Unit {0}

pub record Rests (old : Held) (table : Database) (stepped : Stepped) (new : Held) (new_table : Database) : Type 0 where
  pub said : IkeOutput
  pub is : stepped ≡ plain_step said
  pub goes : GoesOut old said
  pub same : new ≡ old
  pub pairs : new_table ≡ table

-- an IKE SA that is held takes a message
pub record Takes (meaning : Meaning) (setup : Setup) (octets : Octets) (old : Held) (table : Database) (stepped : Stepped) (new : Held) (new_table : Database) : Type 0 where
  pub message : Message
  pub spelled : Spells message octets
  pub place : ℕ
  pub found_there : place_meant message.header old.associations ≡ Ok place
  pub takes : TakesAt place meaning setup octets message old table stepped new new_table

-- an IKE SA is half open from then on
pub record AdmitsOne (meaning : Meaning) (setup : Setup) (octets : Octets) (old : Held) (table : Database) (stepped : Stepped) (new : Held) (new_table : Database) : Type 0 where
  pub offer : OfferView
  pub spi_i : ℕ
  pub asked : IsInitialRequest octets
  pub admits : AdmitsNext meaning setup offer spi_i octets old stepped new
  pub pairs : new_table ≡ table

-- an IKE SA is begun
pub record StartsOne (meaning : Meaning) (setup : Setup) (old : Held) (table : Database) (stepped : Stepped) (new : Held) (new_table : Database) : Type 0 where
  pub place : ℕ
  pub starts : BeginsBy meaning setup place old table stepped new new_table

-- the Child SA that an IKE SA asks to delete is its own, and Live
abbrev pub IsOwnFor : Order → PairMap → ℕ → Type 0
IsOwnFor asked.Probe pairs ike = Unit {0}
IsOwnFor (asked.DeleteChild child spi) pairs ike = IsOwnLive pairs ike child
IsOwnFor asked.DeleteAssociation pairs ike = Unit {0}

-- what a command leaves of the table: an SA pair of the IKE SA's is being deleted, or nothing is changed
pub record LeavesOrdered (ike : ℕ) (table new_table : Database) : Type 0 where
  pub order : Order
  pub own : IsOwnFor order table.pairs ike
  pub marked : MarksFor order table new_table

-- or the next SPI is reserved
pub record LeavesReserved (table new_table : Database) : Type 0 where
  pub between : Database
  pub room : IsAsBefore table between
  pub spi : ℕ
  pub reserved : Reserves between spi new_table

-- an IKE SA asks its peer something
pub record AsksOne (meaning : Meaning) (setup : Setup) (old : Held) (table : Database) (stepped : Stepped) (new : Held) (new_table : Database) : Type 0 where
  pub ike : ℕ
  pub probes : AsksAt meaning.body_of setup ike old stepped new
  pub leaves : LeavesOrdered ike table new_table ⊎ LeavesReserved table new_table

that_one : (meaning : Meaning) (setup : Setup) (ike : ℕ) (order : Order) (old : Held) (table : Database) (stepped : Stepped) (new : Held) (new_table : Database)
    → IsOwnFor order table.pairs ike → AsksThat meaning.body_of setup ike order old table stepped new new_table → AsksOne meaning setup old table stepped new new_table
that_one meaning setup ike order old table stepped new new_table own is = record {
  ike = ike;
  probes = is.asks;
  leaves = inl (record { order = order; own = own; marked = is.marked });
}

pub further_one : (meaning : Meaning) (setup : Setup) (ike place : ℕ) (old : Held) (table : Database) (stepped : Stepped) (new : Held) (new_table : Database)
    → FurthersBy meaning setup ike place old table stepped new new_table → AsksOne meaning setup old table stepped new new_table
further_one meaning setup ike place old table stepped new new_table is =
    let f = is.asks.further in
    record { ike = ike; probes = is.asks.asks; leaves = inr (record { between = f.between; room = f.room; spi = f.spi; reserved = f.reserved }) }

pub asked_one : (meaning : Meaning) (setup : Setup) (what : OrderView) (old : Held) (table : Database) (stepped : Stepped) (new : Held) (new_table : Database)
    → AsksFor meaning.body_of setup what old table stepped new new_table → AsksOne meaning setup old table stepped new new_table
asked_one meaning setup (orders.Probe ike) old table stepped new new_table is = that_one meaning setup ike asked.Probe old table stepped new new_table tt is
asked_one meaning setup (orders.DeleteChild child) old table stepped new new_table is =
    that_one meaning setup is.pair.ike (asked.DeleteChild child is.pair.inbound.association.spi) old table stepped new new_table
    (record { pair = is.pair; there = is.there; its = refl; live = is.live }) is.asks
asked_one meaning setup (orders.DeleteIke ike) old table stepped new new_table is = that_one meaning setup ike asked.DeleteAssociation old table stepped new new_table tt is

-- what is due at a time is done
pub record PassesMoment (input : InputView) (old : Held) (table : Database) (stepped : Stepped) (new : Held) (new_table : Database) : Type 0 where
  pub now : ℕ
  pub ticks : is_tick input ≡ true
  pub takes : TakesHeld now old table new new_table stepped

pub data Way (meaning : Meaning) (setup : Setup) (octets : Octets) (old : Held) (table : Database) (stepped : Stepped) (new : Held) (new_table : Database) : Type 0 where
  rested : Rests old table stepped new new_table → Way meaning setup octets old table stepped new new_table
  took : Takes meaning setup octets old table stepped new new_table → Way meaning setup octets old table stepped new new_table
  admitted : AdmitsOne meaning setup octets old table stepped new new_table → Way meaning setup octets old table stepped new new_table
  started : StartsOne meaning setup old table stepped new new_table → Way meaning setup octets old table stepped new new_table
  probed : AsksOne meaning setup old table stepped new new_table → Way meaning setup octets old table stepped new new_table

-- what a datagram does
pub data Came (meaning : Meaning) (setup : Setup) (octets : Octets) (old : Held) (table : Database) (stepped : Stepped) (new : Held) (new_table : Database) : Type 0 where
  stood : Rests old table stepped new new_table → Came meaning setup octets old table stepped new new_table
  taken : Takes meaning setup octets old table stepped new new_table → Came meaning setup octets old table stepped new new_table
  joined : AdmitsOne meaning setup octets old table stepped new new_table → Came meaning setup octets old table stepped new new_table

passed_came : (meaning : Meaning) (setup : Setup) (octets : Octets) (reason : IkeFault) (old : Held) (table : Database) (stepped : Stepped) (new : Held) (new_table : Database)
    → PassesOver reason old stepped new → new_table ≡ table → Came meaning setup octets old table stepped new new_table
passed_came meaning setup octets reason old table stepped new new_table is same =
    stood (record { said = output.Dropped reason; is = is.said; goes = tt; same = is.unchanged; pairs = same })

judged_came : (meaning : Meaning) (setup : Setup) (octets : Octets) (m : Message) (j : JudgementView) (old : Held) (table : Database) (stepped : Stepped) (new : Held) (new_table : Database)
    → IsInitialRequest octets → DoesJudgement meaning setup m.header.spi_i octets j old stepped new → new_table ≡ table → Came meaning setup octets old table stepped new new_table
judged_came meaning setup octets m (Answered notice) old table stepped new new_table asked is same =
    stood (record { said = output.Reply is.0.octets None; is = is.0.said; goes = (record { message = _; spelled = is.0.spelled; exchange = refl; response = refl }, is.0.spelled.limit); same = is.1; pairs = same })
judged_came meaning setup octets m Incomplete old table stepped new new_table asked is same = passed_came meaning setup octets _ old table stepped new new_table is same
judged_came meaning setup octets m Full old table stepped new new_table asked is same = passed_came meaning setup octets _ old table stepped new new_table is same
judged_came meaning setup octets m (Accepted offer) old table stepped new new_table asked is same =
    elim is.done [
      | inl refused ↦ passed_came meaning setup octets _ old table stepped new new_table refused.1 same
      | inr made ↦ joined (record { offer = offer; spi_i = m.header.spi_i; asked = asked; admits = made; pairs = same })
    ]

request_came : (o : Option ℕ) (meaning : Meaning) (setup : Setup) (cookies : CookieSecrets) (from octets : Octets) (m : Message) (old : Held) (table : Database) (stepped : Stepped) (new : Held) (new_table : Database)
    → IsInitialRequest octets → TakesRequestAt o meaning setup cookies from octets m old stepped new → new_table ≡ table → Came meaning setup octets old table stepped new new_table
request_came (Some place) meaning setup cookies from octets m old table stepped new new_table asked is same =
    stood (record {
      said = output.Repeat is.0.reply;
      is = is.0.said;
      goes = record { place = place; association = is.0.association; there = is.0.there; kept = is.0.kept };
      same = is.1;
      pairs = same;
    })
request_came None meaning setup cookies from octets m old table stepped new new_table asked is same =
    judged_came meaning setup octets m is.judgement old table stepped new new_table asked is.done same

initial_came : (b : Bool) (meaning : Meaning) (setup : Setup) (cookies : CookieSecrets) (from octets : Octets) (m : Message) (old : Held) (table : Database) (stepped : Stepped) (new : Held) (new_table : Database)
    → (b ≡ true → IsInitialRequest octets) → TakesSound b meaning setup cookies from octets m old stepped new → new_table ≡ table → Came meaning setup octets old table stepped new new_table
initial_came true meaning setup cookies from octets m old table stepped new new_table asked is same =
    request_came (position (is_answered octets) old.associations) meaning setup cookies from octets m old table stepped new new_table (asked refl) is same
initial_came false meaning setup cookies from octets m old table stepped new new_table asked is same = passed_came meaning setup octets _ old table stepped new new_table is same

found_came : (r : Result ℕ MessageFault) (meaning : Meaning) (setup : Setup) (octets : Octets) (m : Message) (old : Held) (table : Database) (stepped : Stepped) (new : Held) (new_table : Database)
    → Spells m octets → place_meant m.header old.associations ≡ r → TakesFound r meaning setup octets m old table stepped new new_table → Came meaning setup octets old table stepped new new_table
found_came (Ok place) meaning setup octets m old table stepped new new_table spelled finds is = taken (record { message = m; spelled = spelled; place = place; found_there = finds; takes = is })
found_came (Err f) meaning setup octets m old table stepped new new_table spelled finds is = passed_came meaning setup octets _ old table stepped new new_table is.0 is.1

read_came : (b : Bool) (meaning : Meaning) (setup : Setup) (cookies : CookieSecrets) (from octets : Octets) (m : Message) (old : Held) (table : Database) (stepped : Stepped) (new : Held) (new_table : Database)
    → Spells m octets → is_initial_request m.header ≡ b → TakesRead b meaning setup cookies from octets m old table stepped new new_table → Came meaning setup octets old table stepped new new_table
read_came true meaning setup cookies from octets m old table stepped new new_table spelled initial is =
    initial_came (is_sound_initial m.header) meaning setup cookies from octets m old table stepped new new_table
    (λ sound. record { message = m; spelled = spelled; initial = initial; sound = sound }) is.0 is.1
read_came false meaning setup cookies from octets m old table stepped new new_table spelled initial is =
    found_came (place_meant m.header old.associations) meaning setup octets m old table stepped new new_table spelled refl is

pub datagram_came : (meaning : Meaning) (setup : Setup) (cookies : CookieSecrets) (from octets : Octets) (old : Held) (table : Database) (stepped : Stepped) (new : Held) (new_table : Database)
    → TakesDatagram meaning setup cookies from octets old table stepped new new_table → Came meaning setup octets old table stepped new new_table
datagram_came meaning setup cookies from octets old table stepped new new_table is =
    elim is [
      | inl unread ↦ passed_came meaning setup octets _ old table stepped new new_table unread.passed unread.unchanged
      | inr read ↦ read_came (is_initial_request read.message.header) meaning setup cookies from octets read.message old table stepped new new_table read.spelled refl read.done
    ]

way_by : (meaning : Meaning) (setup : Setup) (octets : Octets) (old : Held) (table : Database) (stepped : Stepped) (new : Held) (new_table : Database)
    → Came meaning setup octets old table stepped new new_table → Way meaning setup octets old table stepped new new_table
way_by meaning setup octets old table stepped new new_table (stood is) = rested is
way_by meaning setup octets old table stepped new new_table (taken is) = took is
way_by meaning setup octets old table stepped new new_table (joined is) = admitted is

pub datagram_way : (meaning : Meaning) (setup : Setup) (cookies : CookieSecrets) (from octets : Octets) (old : Held) (table : Database) (stepped : Stepped) (new : Held) (new_table : Database)
    → TakesDatagram meaning setup cookies from octets old table stepped new new_table → Way meaning setup octets old table stepped new new_table
datagram_way meaning setup cookies from octets old table stepped new new_table is =
    way_by meaning setup octets old table stepped new new_table (datagram_came meaning setup cookies from octets old table stepped new new_table is)

-- what is not asked for
abbrev pub no_fresh : Fresh
no_fresh = record { spi = 0; nonce = []; secret = []; seal = [] }

-- some way, by what the step had to hand
pub record SomeWay (meaning : Meaning) (old : Held) (table : Database) (stepped : Stepped) (new : Held) (new_table : Database) : Type 0 where
  pub setup : Setup
  pub octets : Octets
  pub way : Way meaning setup octets old table stepped new new_table

pub step_way : (meaning : Meaning) (entries : List Entry) (input : InputView) (old : Machine) (table : Database) (stepped : Stepped) (new : Machine) (new_table : Database)
    → Steps meaning entries input old table stepped new new_table → SomeWay meaning old.held table stepped new.held new_table ⊎ PassesMoment input old.held table stepped new.held new_table
step_way meaning entries (steps.Message from octets fresh) old table stepped new new_table is =
    inl (record {
      setup = setup_at old entries fresh;
      octets = octets;
      way = datagram_way meaning (setup_at old entries fresh) old.cookies from octets old.held table stepped new.held new_table is.1;
    })
step_way meaning entries (steps.Start None place fresh) old table stepped new new_table is =
    inl (record { setup = setup_at old entries fresh; octets = []; way = started (record { place = place; starts = is.1 }) })
step_way meaning entries (steps.Start (Some ike) place fresh) old table stepped new new_table is =
    inl (record { setup = setup_at old entries fresh; octets = []; way = probed (further_one meaning (setup_at old entries fresh) ike place old.held table stepped new.held new_table is.1) })
step_way meaning entries (steps.Order what fresh) old table stepped new new_table is =
    inl (record { setup = setup_at old entries fresh; octets = []; way = probed (asked_one meaning (setup_at old entries fresh) what old.held table stepped new.held new_table is.1) })
step_way meaning entries (steps.Tick moment) old table stepped new new_table is =
    inr (record { now = max old.moment moment; ticks = refl; takes = is.takes })
step_way meaning entries (steps.Secret secret) old table stepped new new_table is =
    inl (record {
      setup = setup_at old entries no_fresh;
      octets = [];
      way = rested (record { said = output.Done; is = is.said; goes = tt; same = ap (λ (m : Machine). m.held) is.content; pairs = is.unchanged });
    })
