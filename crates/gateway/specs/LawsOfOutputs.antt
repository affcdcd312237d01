-- What a step sends, what it makes, and what its trace names.
use Rattle.std.specs.Prelude.{◌≡◌, ◌+◌, ◌≤◌, false, true, ℕ, Contains, IsSome, List, Some, length, take, drop}
use Rattle.base.specs.Octets.{Octets}
use Rattle.sadb.specs.Database.{IsSoundTable}
use Rattle.moments.specs.declared.resent.Resent.{Resent}
use Rattle.effects.specs.Taking.{Meaning}
use Rattle.ike.specs.Soundness.{IsSoundMachine}
use Rattle.ike.specs.declared.output.MadeChild.{MadeChild}
use Rattle.ike.specs.declared.output.Mark as ike
use Rattle.ike.specs.declared.output.Trace.{Trace}
use Rattle.gateway.specs.Groups.{packet_in}
use Rattle.gateway.specs.Inputs.{Input}
use Rattle.gateway.specs.Outputs.{FewAgain, FitsChild, FitsDatagram, OutputView, Ticked, Up}
use Rattle.gateway.specs.States.{State}
use Rattle.gateway.specs.Steps.{Steps, Traces}
use Rattle.gateway.specs.Storing.{again_by}
use Rattle.gateway.specs.Worlds.{child_by, ike_mark, keyed_by, mark_again, IsMarked}
use Rattle.gateway.specs.declared.world.stored.End.{End}

-- the packet is a part of an ESP packet, and begins behind its SPI and its sequence number, four octets
-- each (RFC 4303 section 2)
pub record IsPartBehindHead (came packet : Octets) : Type 0 where
  pub part : packet ≡ take (length packet) (drop 8 came)
  pub within : 8 + length packet ≤ length came

-- for any type of provider
module _ (C : Type 0) where
  -- ---- what_is_sent_fits
  abbrev pub WhatIsSentFits : Type 0
  WhatIsSentFits = (meaning : Meaning) (given : Input) (said : OutputView) (trace : Trace) (old new : State C)
      → IsSoundMachine old.machine old.table
      → Traces meaning given old said trace new
      → FitsDatagram said

  -- ---- few_go_out_again
  abbrev pub FewGoOutAgain : Type 0
  FewGoOutAgain = (meaning : Meaning) (given : Input) (said : OutputView) (trace : Trace) (old new : State C)
      → Traces meaning given old said trace new
      → FewAgain said (again_by given old.machine)

  -- ---- what_goes_up_is_part_of_what_came
  abbrev pub WhatGoesUpIsPartOfWhatCame : Type 0
  WhatGoesUpIsPartOfWhatCame = (meaning : Meaning) (given : Input) (child number : ℕ) (packet : Octets) (old new : State C)
      → Steps meaning given old (Up child number packet) new
      → IsPartBehindHead (packet_in given) packet

  -- ---- what_is_made_fits
  abbrev pub WhatIsMadeFits : Type 0
  WhatIsMadeFits = (meaning : Meaning) (given : Input) (said : OutputView) (trace : Trace) (old new : State C)
      → IsSoundTable old.table
      → IsSoundMachine old.machine old.table
      → Traces meaning given old said trace new
      → FitsChild trace.child new.table.pairs

  -- ---- what_is_told_is_stored
  abbrev pub SentMessagesAreStored : Type 0
  SentMessagesAreStored = (meaning : Meaning) (given : Input) (said : OutputView) (trace : Trace)
      (mark : ike.Mark) (old new : State C)
      → IsSoundTable old.table
      → IsSoundMachine old.machine old.table
      → Traces meaning given old said trace new
      → trace.sent ≡ Some mark
      → IsMarked mark (ike_mark new.machine trace.sent)

  abbrev pub MadeKeysAreStored : Type 0
  MadeKeysAreStored = (meaning : Meaning) (given : Input) (said : OutputView) (trace : Trace) (end : End)
      (ike : ℕ) (old new : State C)
      → IsSoundTable old.table
      → IsSoundMachine old.machine old.table
      → Traces meaning given old said trace new
      → trace.keyed ≡ Some ike
      → IsSome (keyed_by end trace.keyed new.machine)

  abbrev pub MadeChildrenAreStored : Type 0
  MadeChildrenAreStored = (meaning : Meaning) (given : Input) (said : OutputView) (trace : Trace) (end : End)
      (made : MadeChild) (old new : State C)
      → IsSoundTable old.table
      → IsSoundMachine old.machine old.table
      → Traces meaning given old said trace new
      → trace.child ≡ Some made
      → IsSome (child_by end trace.child new)

  abbrev pub WhatGoesOutAgainIsStored : Type 0
  WhatGoesOutAgainIsStored = (meaning : Meaning) (given : Input) (said : OutputView) (trace : Trace)
      (requests : List Resent) (closed : List ℕ) (request : Resent) (old new : State C)
      → IsSoundTable old.table
      → IsSoundMachine old.machine old.table
      → Traces meaning given old said trace new
      → said ≡ Ticked requests closed
      → Contains requests request
      → request.encrypted ≡ true
      → IsMarked (record { ike = request.ike; response = false; number = request.number })
      (ike_mark new.machine (mark_again request))
