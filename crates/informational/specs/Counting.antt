-- The response to a request of INFORMATIONAL (RFC 7296 sections 1.4, 1.4.1 and 2.21.3).
use Rattle.std.specs.Prelude.{◌≡◌, ◌==◌, ◌||◌, ℕ, Bool, false, Option, Some, None, List, [], ◌∷◌, if◌then◌else◌}
use Rattle.std.specs.List.{list_any}
use Rattle.wire.specs.declared.payload.Payload.{Payload}
use Rattle.exchange.specs.Notices.{is_invalid_syntax}
use Rattle.exchange.specs.declared.sealed.Plain.{Plain}
use Rattle.requests.specs.Outgoing.{CountsAnswer, OwnRequests}
use Rattle.sadb.specs.Database.{pair_at, Database, PairMap}
use Rattle.sadb.specs.declared.pair.Pair.{Pair}
use Rattle.association.specs.Outcomes.{childless, IsDeclinedBy}
use Rattle.association.specs.Purposes.{asks_to_end}
use Rattle.association.specs.Phases.{IsEstablished}
use Rattle.association.specs.declared.phase.Association.{Association}
use Rattle.association.specs.declared.phase.Request.{Request}
use Rattle.association.specs.declared.purpose.Purpose.{Purpose}
use Rattle.association.specs.declared.purpose.Purpose.TheVariants as purpose
use Rattle.association.specs.Issuing.{with_outgoing}
use Rattle.setup.specs.Configs.{Setup}
use Rattle.exchange.specs.Chains.{error_of, IsRead}
use Rattle.association.specs.declared.outcome.Ended.{Ended}
use Rattle.informational.specs.Orders.{ClosesIf}

-- The peer tells that a request was not in its grammar: that ends the IKE SA, whatever else the response
-- says. What is not in the grammar itself says nothing.
abbrev pub is_rejected : Option (List Payload) → Bool
is_rejected None = false
is_rejected (Some payloads) = list_any is_invalid_syntax payloads

-- what is read so, and the error that it tells; only private contracts cite this
pub record IsRejectedBy (plain : Plain) (rejected : Bool) (error : Option ℕ) : Type 0 where
  pub payloads : Option (List Payload)
  pub read : IsRead plain payloads
  pub told : rejected ≡ is_rejected payloads
  pub error_is : error ≡ error_of payloads

-- The IKE SA ends by it, or by the answer to this end's request to delete it (section 1.4.1).
abbrev pub is_ended : Option (List Payload) → Purpose → Bool
is_ended payloads asked = is_rejected payloads || asks_to_end asked

-- the SA pair with this serial goes, if it is there and of this IKE SA
abbrev pub if_its_own : Option Pair → ℕ → ℕ → List ℕ
if_its_own None ike child = []
if_its_own (Some pair) ike child = if pair.ike == ike then child ∷ [] else []

-- the SA pairs that go with the answer: that of the Child SA which this end asked to delete (section 1.4.1)
abbrev pub gone_with : PairMap → ℕ → Purpose → List ℕ
gone_with pairs ike purpose.Begin = []
gone_with pairs ike purpose.Identify = []
gone_with pairs ike (purpose.CreateChild further) = []
gone_with pairs ike purpose.Probe = []
gone_with pairs ike (purpose.DeleteChild child) = if_its_own (pair_at pairs child) ike child
gone_with pairs ike purpose.DeleteAssociation = []

-- The response is matched, and the IKE SA is closed, or the SA pair goes whose deletion it answers.
pub record CountsInformational (setup : Setup) (old : Association) (table : Database) (number : ℕ) (plain : Plain) (ended : Ended) (new : Association) (new_table : Database) : Type 0 where
  pub payloads : Option (List Payload)
  pub read : IsRead plain payloads
  pub request : Request
  pub outgoing : OwnRequests Request
  pub counted : CountsAnswer old.outgoing number request outgoing
  pub fate : ended.fate ≡ childless (is_ended payloads request.purpose)
  pub declined : IsDeclinedBy plain ended.fate ended.declined
  pub concluded : ClosesIf (is_ended payloads request.purpose) (gone_with table.pairs old.serial request.purpose) (with_outgoing old outgoing) table setup.moment new new_table

-- It is matched at an established IKE SA; else nothing is done.
abbrev pub CountsWhereEstablished : Setup → Association → Database → ℕ → Plain → Option Ended → Association → Database → Type 0
CountsWhereEstablished setup old table number plain None new new_table = (¬ IsEstablished old.phase) × (new ≡ old) × (new_table ≡ table)
CountsWhereEstablished setup old table number plain (Some ended) new new_table = IsEstablished old.phase × CountsInformational setup old table number plain ended new new_table
