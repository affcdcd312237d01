-- An end that holds many IKE SAs, and what it stores of them: all that it sent under any keys, and all
-- keys that it came to. Of what it does under one key record is said what is said of an end that holds one
-- IKE SA (RFC 7296 sections 2.1 to 2.4 and 2.14).
use Rattle.std.specs.Prelude.{◌≡◌, ◌⊎◌, ◌+◌, ◌≤◌, ◌++◌, ◌∷◌, ℕ, Bool, Option, Some, None, List, [], Contains, length, nat_eq, if◌then◌else◌}
use Rattle.std.specs.Cmp.Lexicographic.{pointwise}
use Rattle.base.specs.Octets.{Octets}
use Rattle.suite.specs.declared.key_record.KeyRecord.{KeyRecord}
use Rattle.exchange.specs.Headers.{other_role}
use Rattle.effects.specs.Moves.{Lead, Ledger, Make, Move}
use Rattle.lockstep.specs.Ends.{sent_in, Entry, GoesOutAgain}
use Rattle.lockstep.specs.Histories.{AreGenuine}
use Rattle.lockstep.specs.Soundness.{IsSoundLedger, SendsOnce}

-- a message that was sent under these keys
pub record Marked : Type 0 where
  pub keys : KeyRecord
  pub entry : Entry

pub record Party : Type 0 where
  -- by the serials of the IKE SAs
  pub ledgers : ℕ → Option Ledger
  pub made : List KeyRecord
  pub sent : List Marked

abbrev pub texts_of : KeyRecord → List Octets
texts_of keys =
    (keys.spi_i ∷ []) ∷ (keys.spi_r ∷ []) ∷ keys.nonce_i ∷ keys.nonce_r ∷ keys.sk_d ∷ keys.sk_ai ∷ keys.sk_ar ∷ keys.sk_ei ∷ keys.sk_er ∷ keys.sk_pi ∷ keys.sk_pr ∷ []

abbrev pub same_keys : KeyRecord → KeyRecord → Bool
same_keys one other = pointwise (pointwise nat_eq) (texts_of one) (texts_of other)

-- what was sent under these keys, in its order
abbrev pub under : KeyRecord → List Marked → List Entry
under keys [] = []
under keys (m ∷ ms) = if same_keys keys m.keys then m.entry ∷ under keys ms else under keys ms

-- how often these keys are there
abbrev pub times : KeyRecord → List KeyRecord → ℕ
times keys [] = 0
times keys (k ∷ ks) = (if same_keys keys k then 1 else 0) + times keys ks

-- an IKE SA is held under these keys
pub record Holds (p : Party) (keys : KeyRecord) (serial : ℕ) (l : Ledger) : Type 0 where
  pub there : p.ledgers serial ≡ Some l
  pub keyed : l.keys ≡ keys

-- an IKE SA comes to keys
pub record Coming : Type 0 where
  pub serial : ℕ
  pub keys : KeyRecord

abbrev pub keys_come : Option Coming → List KeyRecord
keys_come None = []
keys_come (Some coming) = coming.keys ∷ []

-- What a party does in a step: the moves of each IKE SA, the keys that come, and what is sent.
pub record Turn : Type 0 where
  pub moves : ℕ → List Move
  pub coming : Option Coming
  pub sent : List Marked

-- what is sent is of an IKE SA that is held under its keys, by a move or again
pub record IsSentNow (turn : Turn) (old new : Party) (keys : KeyRecord) (entry : Entry) : Type 0 where
  pub serial : ℕ
  pub ledger : Ledger
  pub holds : Holds new keys serial ledger
  pub by : (Contains (sent_in (turn.moves serial)) entry) ⊎ (GoesOutAgain (old.ledgers serial) entry)

-- The moves lead each IKE SA from its old ledger to its new one, two at most, and leave it the keys
-- that it has. Keys come where the step says so, and what is sent is what the moves say, or goes out again.
pub record TakesTurn (turn : Turn) (old new : Party) : Type 0 where
  pub few : (serial : ℕ) → length (turn.moves serial) ≤ 2
  pub lead : (serial : ℕ) → Lead (turn.moves serial) (old.ledgers serial) (new.ledgers serial)
  pub keys_stay : (serial : ℕ) (was is : Ledger) → old.ledgers serial ≡ Some was → new.ledgers serial ≡ Some is → is.keys ≡ was.keys
  pub come : (serial : ℕ) (is : Ledger) (keys : KeyRecord) → new.ledgers serial ≡ Some is → Contains (turn.moves serial) (Make keys)
      → turn.coming ≡ Some (record { serial = serial; keys = is.keys })
  pub made : new.made ≡ old.made ++ keys_come turn.coming
  pub sent : new.sent ≡ old.sent ++ turn.sent
  pub sent_by : (keys : KeyRecord) (entry : Entry) → Contains turn.sent (record { keys = keys; entry = entry }) → IsSentNow turn old new keys entry
  pub all_sent : (serial : ℕ) (is : Ledger) (entry : Entry) → new.ledgers serial ≡ Some is → Contains (sent_in (turn.moves serial)) entry
      → Contains turn.sent (record { keys = is.keys; entry = entry })

-- The premise that no message under these keys was forged, where this is what the peer sent under them.
abbrev pub IsGenuineTurn : KeyRecord → Turn → Party → List Entry → Type 0
IsGenuineTurn keys turn new others = (serial : ℕ) (l : Ledger) → Holds new keys serial l → AreGenuine others (turn.moves serial)

-- nothing is held or was sent under these keys
pub record HasNone (p : Party) (keys : KeyRecord) : Type 0 where
  pub held : (serial : ℕ) (l : Ledger) → ¬ Holds p keys serial l
  pub sent : (entry : Entry) → ¬ Contains (under keys p.sent) entry

-- What holds of a party under these keys, where this is what the peer sent under them till now, or till
-- later: one IKE SA at most is held under them, which came to them, and it is sound.
pub record IsSoundParty (keys : KeyRecord) (p : Party) (others : List Entry) : Type 0 where
  pub unmade : times keys p.made ≡ 0 → HasNone p keys
  pub alone : (s t : ℕ) (l m : Ledger) → Holds p keys s l → Holds p keys t m → s ≡ t
  pub once : SendsOnce (under keys p.sent)
  pub holds : (serial : ℕ) (l : Ledger) → Holds p keys serial l → IsSoundLedger l (under keys p.sent) others

pub record Parties : Type 0 where
  pub one : Party
  pub other : Party

-- two parties, each the other's peer, under these keys
pub record AreSoundParties (keys : KeyRecord) (parties : Parties) : Type 0 where
  pub one : IsSoundParty keys parties.one (under keys parties.other.sent)
  pub other : IsSoundParty keys parties.other (under keys parties.one.sent)

-- a party that holds no IKE SA, and stored nothing
pub record IsNewParty (p : Party) : Type 0 where
  pub none : (serial : ℕ) → p.ledgers serial ≡ None
  pub made : p.made ≡ []
  pub sent : p.sent ≡ []

-- Each of two parties holds an IKE SA under these keys, one of them as its initiator and one as its
-- responder.
pub record AreHeldUnder (keys : KeyRecord) (parties : Parties) (asking answering : Ledger) : Type 0 where
  pub asks : ℕ
  pub answers : ℕ
  pub held : (Holds parties.one keys asks asking × Holds parties.other keys answers answering)
      ⊎ (Holds parties.other keys asks asking × Holds parties.one keys answers answering)
  pub roles : answering.role ≡ other_role asking.role
