-- What an initiator makes of the answer to its request for an additional Child SA (RFC 7296 sections 1.3.1,
-- 2.7, 2.9, 2.17 and 2.21.3).
use Rattle.std.specs.Prelude.{◌≡◌, ◌⊎◌, ℕ, true, false, Option, Some, None, List}
use Rattle.std.specs.List.{list_any}
use Rattle.base.specs.Octets.{Octets}
use Rattle.wire.specs.declared.payload.Payload.{Payload}
use Rattle.suite.specs.declared.key_record.KeyRecord.{KeyRecord}
use Rattle.exchange.specs.Counting.{only_nonce}
use Rattle.exchange.specs.Notices.{is_invalid_syntax}
use Rattle.exchange.specs.declared.sealed.Plain.{Plain}
use Rattle.sadb.specs.declared.pair.Pair.{Pair}
use Rattle.children.specs.Accepting.{IsAcceptedChild, IsUnacceptable, KeepsToRequest}
use Rattle.children.specs.declared.asking.Asked.{Asked}
use Rattle.exchange.specs.Chains.{IsRead}
use Rattle.further.specs.Deciding.{further_setting}
use Rattle.further.specs.declared.concluding.Conclusion.{Conclusion}
use Rattle.further.specs.declared.concluding.Conclusion.TheVariants as conclusion

-- the answer doesn't tell that the request was not in the grammar; it has one nonce, and an acceptable Child
-- SA under the keys that come of it
pub record AcceptsFurtherChild (blocks ike : ℕ) (keys : KeyRecord) (asked : Asked) (own_nonce : Octets) (answer : List Payload) (pair : Pair) : Type 0 where
  pub stands : list_any is_invalid_syntax answer ≡ false
  pub nonce : Octets
  pub alone : only_nonce answer ≡ Some nonce
  pub child : IsAcceptedChild (further_setting blocks ike keys own_nonce nonce) asked answer pair

-- it has no acceptable Child SA, or not one nonce
pub record HasNoChild (asked : Asked) (answer : List Payload) : Type 0 where
  pub stands : list_any is_invalid_syntax answer ≡ false
  pub none : (only_nonce answer ≡ None) ⊎ IsUnacceptable asked answer

-- By what is read: what is not in the grammar says nothing, and a Notify payload INVALID_SYNTAX ends the IKE
-- SA, also beside a complete Child SA. That any other Notify payload brings about nothing, and that a
-- critical payload which is not known is passed over, are rules of this implementation, the latter against
-- section 2.5.
abbrev pub IsConclusion : ℕ → ℕ → KeyRecord → Asked → Octets → Option (List Payload) → Conclusion → Type 0
IsConclusion blocks ike keys asked own_nonce None conclusion.Closes = ⊥
IsConclusion blocks ike keys asked own_nonce None (conclusion.Made pair) = ⊥
IsConclusion blocks ike keys asked own_nonce None conclusion.NoChild = Unit {0}
IsConclusion blocks ike keys asked own_nonce (Some answer) conclusion.Closes = list_any is_invalid_syntax answer ≡ true
IsConclusion blocks ike keys asked own_nonce (Some answer) (conclusion.Made pair) = AcceptsFurtherChild blocks ike keys asked own_nonce answer pair
IsConclusion blocks ike keys asked own_nonce (Some answer) conclusion.NoChild = HasNoChild asked answer

pub record Concludes (blocks ike : ℕ) (keys : KeyRecord) (asked : Asked) (own_nonce : Octets) (plain : Plain) (concluded : Conclusion) : Type 0 where
  pub payloads : Option (List Payload)
  pub read : IsRead plain payloads
  pub due : IsConclusion blocks ike keys asked own_nonce payloads concluded

-- an SA pair that is made keeps to what was asked
abbrev pub KeepsTo : Asked → Conclusion → Type 0
KeepsTo asked conclusion.Closes = Unit {0}
KeepsTo asked (conclusion.Made pair) = KeepsToRequest asked pair
KeepsTo asked conclusion.NoChild = Unit {0}
