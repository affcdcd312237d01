-- A worked pair of ends, for which the premises are shown to hold: both come to the keys, and one request
-- is answered.
use Rattle.std.specs.Prelude.{◌∷◌, ◌==◌, Some, None, List, [], if◌then◌else◌}
use Rattle.std.specs.FinMap as map
use Rattle.std.specs.FinSet as set
use Rattle.base.specs.Octets.{Octets}
use Rattle.suite.specs.declared.key_record.KeyRecord.{KeyRecord}
use Rattle.exchange.specs.declared.headers.Role.TheVariants.{Initiator, Responder}
use Rattle.requests.specs.Numbers.{NumberSet}
use Rattle.effects.specs.Moves.{first_ledger, put, Count, Issue, Ledger, Make, TakeEffect}
use Rattle.lockstep.specs.Ends.{fresh_end, request_of, response_of}
use Rattle.lockstep.specs.Parties.{Party, Turn}
use Rattle.lockstep.specs.Histories.{AtOne, AtOther, Ends, Step}

abbrev pub fresh_ends : Ends
fresh_ends = record { one = fresh_end; other = fresh_end }

abbrev pub zero_and_one : NumberSet
zero_and_one = set.insert (set.insert set.empty 0) 1

-- the initiator, while its request of number 1 waits, and once it is answered
abbrev pub waiting_ledger : KeyRecord → Octets → Ledger
waiting_ledger keys request = record (first_ledger keys Initiator) {
  next = 2;
  outstanding = put (first_ledger keys Initiator).outstanding 1 (Some request);
}

abbrev pub asked_ledger : KeyRecord → Octets → Ledger
asked_ledger keys request = record (first_ledger keys Initiator) {
  next = 2;
  answered = zero_and_one;
  outstanding = put (put (first_ledger keys Initiator).outstanding 1 (Some request)) 1 None;
}

-- the responder, once it was processed
abbrev pub answered_ledger : KeyRecord → Octets → Ledger
answered_ledger keys reply = record (first_ledger keys Responder) {
  in_effect = zero_and_one;
  kept = map.insert map.empty 1 reply;
}

-- The responder comes to the keys first, and the initiator by its answer, and asks at once. The reply goes
-- out twice.
abbrev pub worked_steps : KeyRecord → Octets → Octets → List Step
worked_steps keys request reply =
    AtOther (record { moves = Make keys ∷ []; again = [] })
    ∷ AtOne (record { moves = Make keys ∷ Issue 1 request ∷ []; again = [] })
    ∷ AtOther (record { moves = TakeEffect 1 reply ∷ []; again = [] })
    ∷ AtOther (record { moves = []; again = response_of 1 reply ∷ [] })
    ∷ AtOne (record { moves = Count 1 ∷ []; again = [] })
    ∷ []

abbrev pub worked_ends : KeyRecord → Octets → Octets → Ends
worked_ends keys request reply = record {
  one = record { ledger = Some (asked_ledger keys request); made = 1; sent = request_of 1 request ∷ [] };
  other = record { ledger = Some (answered_ledger keys reply); made = 1; sent = response_of 1 reply ∷ response_of 1 reply ∷ [] };
}

abbrev pub new_party : Party
new_party = record { ledgers = λ serial. None; made = []; sent = [] }

-- the first IKE SA of a party comes to keys and asks
abbrev pub worked_turn : KeyRecord → Octets → Turn
worked_turn keys request = record {
  moves = λ serial. if serial == 1 then Make keys ∷ Issue 1 request ∷ [] else [];
  coming = Some (record { serial = 1; keys = keys });
  sent = record { keys = keys; entry = request_of 1 request } ∷ [];
}

abbrev pub asking_party : KeyRecord → Octets → Party
asking_party keys request = record {
  ledgers = λ serial. if serial == 1 then Some (waiting_ledger keys request) else None;
  made = keys ∷ [];
  sent = record { keys = keys; entry = request_of 1 request } ∷ [];
}
