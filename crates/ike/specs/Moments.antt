-- Time at the machine: what a `Tick` brings, and that nothing is left overdue (RFC 7296 sections 2.1 and
-- 2.4).
use Rattle.std.specs.Prelude.{◌≡◌, ◌⊎◌, ℕ, Bool, true, false, Option, Some, All}
use Rattle.std.specs.FinMap as map
use Rattle.std.specs.List.{flat_map, AllZip}
use Rattle.suite.specs.declared.key_record.KeyRecord.{KeyRecord}
use Rattle.association.specs.declared.phase.Association.{Association}
use Rattle.association.specs.declared.phase.HalfOpen.{HalfOpen}
use Rattle.association.specs.declared.phase.Phase.{Phase}
use Rattle.association.specs.declared.phase.Phase.TheVariants as phase
use Rattle.association.specs.declared.phase.Request.{Request}
use Rattle.moments.specs.Due.{closed_of, held_of, sent_of}
use Rattle.sadb.specs.Database.{Database}
use Rattle.moments.specs.Held.{IsInTime, LeavesPairsBut, StaysItself}
use Rattle.moments.specs.declared.ticking.Ticked.{Ticked}
use Rattle.effects.specs.Waiting.{TakesCookie}
use Rattle.ike.specs.Machines.{association_of, Held, Machine}
use Rattle.ike.specs.Moves.{TellsClosed}
use Rattle.ike.specs.declared.output.IkeOutput.{IkeOutput}
use Rattle.ike.specs.declared.output.IkeOutput.TheVariants as output
use Rattle.ike.specs.declared.output.Stepped.{Stepped}

-- Nothing is overdue at the greatest time so far: no request is due, and no IKE SA is to be closed or
-- removed. And no timer starts later than that.
abbrev pub IsTimely : Machine → Type 0
IsTimely machine = All (IsInTime machine.moment) machine.held.associations

-- All that is due at this time comes, and nothing else: the requests that are due, of each IKE SA in its
-- order by rising Message ID, and the serials of the IKE SAs that are closed. Those that do not expire are
-- held on, unchanged but for timers, or closed. The pairs of those that are closed go, and no others.
pub record BringsDue (now : ℕ) (old : Held) (table : Database) (ticked : Ticked) (new : Held) (new_table : Database) : Type 0 where
  pub requests : ticked.requests ≡ flat_map (sent_of now) old.associations
  pub closed : ticked.closed ≡ flat_map (closed_of now) old.associations
  pub held : AllZip (StaysItself now ticked.closed) (held_of now old.associations) new.associations
  pub pairs : LeavesPairsBut ticked.closed table new_table

-- a step with this time
pub record ComesTo (now : ℕ) (old : Machine) (table : Database) (stepped : Stepped) (new : Machine) (new_table : Database) : Type 0 where
  pub ticked : Ticked
  pub said : stepped.output ≡ output.Ticked ticked
  pub brings : BringsDue now old.held table ticked new.held new_table
  pub moment : new.moment ≡ now

abbrev pub tells_moment : IkeOutput → Bool
tells_moment (output.Ticked ticked) = true
tells_moment _ = false

-- a request with this Message ID is outstanding at the IKE SA with this serial
pub record WaitsAt (held : Held) (serial number : ℕ) (request : Request) : Type 0 where
  pub association : Association
  pub there : association_of serial held.associations ≡ Some association
  pub waits : map.get association.outgoing.outstanding number ≡ Some request

-- its IKE SA takes one more cookie by this step
pub record TakesCookieAt (old new : Held) (serial : ℕ) : Type 0 where
  pub before : Association
  pub after : Association
  pub stood : association_of serial old.associations ≡ Some before
  pub stands : association_of serial new.associations ≡ Some after
  pub takes : TakesCookie before after

-- It is sent by this step, and waits from this time on: for the first time, or anew with a cookie.
pub record StartsToWait (moment : ℕ) (old : Held) (stepped : Stepped) (new : Held) (serial number : ℕ) (request : Request) : Type 0 where
  pub said : stepped.output ≡ output.Request serial request.octets
  pub timer : request.timer ≡ record { sent = moment; repeats = 0 }
  pub fresh : ((before : Request) → WaitsAt old serial number before → ⊥) ⊎ TakesCookieAt old new serial

-- A request with this Message ID waits no more, by a step whose output matches a response with the first
-- number. Either its IKE SA ends by a response of this end. Or the response answers it, or ends its IKE SA.
-- Or it is that of IKE_SA_INIT, which is sent anew with a cookie, or whose answer brought the keys.
abbrev pub StopsWaiting : ℕ → IkeOutput → ℕ → ℕ → Type 0
StopsWaiting answered (output.Reply octets (Some closed)) serial number = closed ≡ serial
StopsWaiting answered (output.Counted ike child closed) serial number = (ike ≡ serial) × ((number ≡ answered) ⊎ (closed ≡ Some serial))
StopsWaiting answered (output.Request ike octets) serial number = (ike ≡ serial) × (number ≡ 0)
StopsWaiting answered o serial number = ⊥

-- an IKE SA with this serial is held in this phase
pub record StandsIn (held : Held) (serial : ℕ) (p : Phase) : Type 0 where
  pub association : Association
  pub there : association_of serial held.associations ≡ Some association
  pub is : association.phase ≡ p

-- A step at which no time passes. What is outstanding after it was so before, since the same time and sent
-- as often, or is sent now. What was outstanding before still is, unless it stops. An IKE SA that is closed
-- or half open was so before, since the same time, or is so from this time on.
pub record StaysAt (old : Machine) (stepped : Stepped) (new : Machine) : Type 0 where
  pub moment : new.moment ≡ old.moment
  pub said : tells_moment stepped.output ≡ false
  -- the Message ID of the request that is answered, if one is
  pub answered : ℕ
  pub waits : (serial number : ℕ) (request : Request) → WaitsAt new.held serial number request → WaitsAt old.held serial number request ⊎ StartsToWait old.moment old.held stepped new.held serial number request
  pub waited : (serial number : ℕ) (request : Request) → WaitsAt old.held serial number request → WaitsAt new.held serial number request ⊎ StopsWaiting answered stepped.output serial number
  pub closed : (serial : ℕ) (keys : Option KeyRecord) (at : ℕ) → StandsIn new.held serial (phase.Closed keys at)
      → StandsIn old.held serial (phase.Closed keys at) ⊎ ((at ≡ old.moment) × TellsClosed serial stepped.output)
  pub half_open : (serial : ℕ) (opened : HalfOpen) → StandsIn new.held serial (phase.HalfOpen opened) → StandsIn old.held serial (phase.HalfOpen opened) ⊎ (opened.made ≡ old.moment)
