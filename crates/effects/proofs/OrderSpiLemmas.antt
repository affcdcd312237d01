-- The SPIs that an IKE SA holds from a command on.
use Rattle.std.proofs.Common.{◌≡◌, inl, inr, ℕ, Option, None, Some, refl, ap, subst, sym, ◌∙◌}
use Rattle.std.proofs.lemmas.Option.{none-some}
use Rattle.std.specs.FinMap as map
use Rattle.std.specs.Ordering.{nat_cmp}
use Rattle.base.specs.Octets.{Octets}
use Rattle.suite.specs.declared.fresh.Fresh.{Fresh}
use Rattle.suite.specs.declared.key_record.KeyRecord.{KeyRecord}
use Rattle.suite.specs.declared.keys.Keys.{Keys}
use Rattle.suite.specs.declared.sealer.Cipher.{Cipher}
use Rattle.requests.specs.Outgoing.{none_issued, OwnRequests}
use Rattle.sadb.specs.Database.{Database, IsReserved}
use Rattle.association.specs.AskedChildren.{AskedChildView}
use Rattle.association.specs.Closing.{HoldsReserved, HoldsSpi}
use Rattle.association.specs.Phases.{spi_in}
use Rattle.association.specs.Purposes.{spi_asked, AwaitsChild, AwaitsSpi}
use Rattle.association.specs.declared.phase.Association.{Association}
use Rattle.association.specs.declared.phase.Request.{Request}
use Rattle.association.specs.declared.purpose.Purpose.TheVariants.{Begin}
use Rattle.association.specs.Admitting.{half_open}
use Rattle.initial.specs.Beginning.{begun, Begins}
use Rattle.setup.specs.Configs.{Setup}
use Rattle.association.specs.Issuing.{new_request, IssuesNext}
use Rattle.initial.specs.declared.beginning.Beginning.{Beginning}
use Rattle.informational.specs.Asking.{Asks}
use Rattle.informational.specs.Ordering.{purpose_of}
use Rattle.informational.specs.declared.ordering.Order.{Order}
use Rattle.informational.specs.declared.ordering.Order.TheVariants as order
use Rattle.effects.proofs.HeldFacts.{HeldFacts}

none_awaited : (number spi : ℕ) → AwaitsChild none_issued number spi → ⊥
none_awaited number spi awaits = none-some awaits.request (sym (map.get-empty nat_cmp number) ∙ awaits.outstanding)

-- what is issued next asks for no Child SA
issued_next : HeldFacts → (old : OwnRequests Request) (request : Request) (new : OwnRequests Request) (number spi : ℕ) → spi_asked request.purpose ≡ None → IssuesNext old request new
    → AwaitsChild new number spi → AwaitsChild old number spi
issued_next facts old request new number spi none is awaits =
    facts.preparing old is.ready number spi is.prepared (facts.issuing is.ready new request old.next number spi none is.issued awaits)

begun_awaits : HeldFacts → (cipher : Cipher) (group : ℕ) (public_value : Octets → Octets) (fresh : Fresh) (moment : ℕ) (beginning : Beginning) → Begins cipher group public_value fresh moment beginning
    → (spi : ℕ) → AwaitsSpi beginning.outgoing spi → ⊥
begun_awaits facts cipher group public_value fresh moment beginning is spi awaits =
    none_awaited awaits.number spi (issued_next facts none_issued (new_request beginning.octets Begin moment) beginning.outgoing awaits.number spi refl is.issued awaits.awaits)

same_spi : (a b : ℕ) → Some a ≡ Some b → b ≡ a
same_spi a b e = cc

pub begun_spi : HeldFacts → (cipher : Cipher) (group : ℕ) (public_value : Octets → Octets) (fresh : Fresh) (moment serial : ℕ) (beginning : Beginning) (child : AskedChildView) (spi : ℕ)
    → Begins cipher group public_value fresh moment beginning → HoldsSpi (begun serial beginning child) spi → spi ≡ child.spi
begun_spi facts cipher group public_value fresh moment serial beginning child spi is (inl its) = same_spi child.spi spi its
begun_spi facts cipher group public_value fresh moment serial beginning child spi is (inr awaits) = absurd (begun_awaits facts cipher group public_value fresh moment beginning is spi awaits)

pub begun_first : HeldFacts → (cipher : Cipher) (group : ℕ) (public_value : Octets → Octets) (fresh : Fresh) (moment serial : ℕ) (beginning : Beginning) (child : AskedChildView) (table : Database)
    → Begins cipher group public_value fresh moment beginning → IsReserved table child.spi → HoldsReserved (begun serial beginning child) table
begun_first facts cipher group public_value fresh moment serial beginning child table is there = record {
  reserved = λ spi held. subst (IsReserved table) (sym (begun_spi facts cipher group public_value fresh moment serial beginning child spi is held)) there;
  first = λ spi its awaits. begun_awaits facts cipher group public_value fresh moment beginning is spi awaits;
  one = λ number other spi one two. absurd (begun_awaits facts cipher group public_value fresh moment beginning is spi (record { number = number; awaits = one }));
}

pub opened_none : (serial spi_i spi_r : ℕ) (keys : KeyRecord) (request reply : Octets) (moment spi : ℕ) → HoldsSpi (half_open serial spi_i spi_r keys request reply moment) spi → ⊥
opened_none serial spi_i spi_r keys request reply moment spi (inl its) = none-some spi its
opened_none serial spi_i spi_r keys request reply moment spi (inr awaits) = none_awaited awaits.number spi awaits.awaits

abbrev spi_of : Association → Option ℕ
spi_of a = spi_in a.phase

no_child : (o : Order) → spi_asked (purpose_of o) ≡ None
no_child order.Probe = refl
no_child (order.DeleteChild child spi) = refl
no_child order.DeleteAssociation = refl

asked_awaits : HeldFacts → (body_of : Keys → Octets → Octets → Octets → Octets) (setup : Setup) (order : Order) (old : Association) (octets : Octets) (new : Association) → Asks body_of setup order old octets new
    → (number spi : ℕ) → AwaitsChild new.outgoing number spi → AwaitsChild old.outgoing number spi
asked_awaits facts body_of setup order old octets new is number spi awaits =
    issued_next facts old.outgoing (new_request octets (purpose_of order) setup.moment) is.outgoing number spi (no_child order) is.issued
    (subst (λ (a : Association). AwaitsChild a.outgoing number spi) is.content awaits)

pub asked_spi : HeldFacts → (body_of : Keys → Octets → Octets → Octets → Octets) (setup : Setup) (order : Order) (old : Association) (octets : Octets) (new : Association) (spi : ℕ)
    → Asks body_of setup order old octets new → HoldsSpi new spi → HoldsSpi old spi
asked_spi facts body_of setup order old octets new spi is (inl its) = inl (sym (ap spi_of is.content) ∙ its)
asked_spi facts body_of setup order old octets new spi is (inr awaits) =
    inr (record { number = awaits.number; awaits = asked_awaits facts body_of setup order old octets new is awaits.number spi awaits.awaits })

pub asking_spis : HeldFacts → (body_of : Keys → Octets → Octets → Octets → Octets) (setup : Setup) (order : Order) (old : Association) (octets : Octets) (new : Association) (table : Database)
    → Asks body_of setup order old octets new → HoldsReserved old table → HoldsReserved new table
asking_spis facts body_of setup order old octets new table is holds =
    facts.fewer old new table table (λ spi its. sym (ap spi_of is.content) ∙ its) (asked_awaits facts body_of setup order old octets new is) (λ spi held there. there) holds
