-- A command at an established IKE SA sends one request.
use Rattle.std.proofs.Common.{◌≡◌, inl, inr, ℕ, refl, subst, sym}
use Rattle.base.specs.Octets.{Octets}
use Rattle.base.specs.declared.selector.Selector.{Selector}
use Rattle.wire.specs.Numbers.{INFORMATIONAL}
use Rattle.suite.specs.declared.keys.Keys.{Keys}
use Rattle.exchange.specs.Headers.{keys_of}
use Rattle.exchange.specs.Sealed.{IsSealed}
use Rattle.sadb.specs.Database.{Database}
use Rattle.association.specs.AskedChildren.{asked_of}
use Rattle.association.specs.Purposes.{exchange_of}
use Rattle.association.specs.declared.phase.Association.{Association}
use Rattle.association.specs.declared.purpose.Purpose.TheVariants.{CreateChild}
use Rattle.children.specs.Asking.{child_request}
use Rattle.setup.specs.Configs.{Setup}
use Rattle.informational.specs.Asking.{Asks}
use Rattle.association.specs.Sending.{request_message}
use Rattle.informational.specs.Ordering.{payloads_of_order, purpose_of}
use Rattle.informational.specs.declared.ordering.Order.{Order}
use Rattle.informational.specs.declared.ordering.Order.TheVariants as order
use Rattle.further.specs.Payloads.{further_payloads}
use Rattle.create_child.specs.Asking.{wanted, AsksForFurther}
use Rattle.effects.specs.Sending.{SendsRequest}
use Rattle.effects.proofs.OpeningLemmas.{further_clear, order_clear}

asks_informational : (o : Order) → exchange_of (purpose_of o) ≡ INFORMATIONAL
asks_informational order.Probe = refl
asks_informational (order.DeleteChild child spi) = refl
asks_informational order.DeleteAssociation = refl

pub order_sends : (body_of : Keys → Octets → Octets → Octets → Octets) (setup : Setup) (order : Order) (old : Association) (octets : Octets) (new : Association)
    → Asks body_of setup order old octets new → SendsRequest body_of setup old octets new
order_sends body_of setup order old octets new is =
    record {
      keys = is.keys;
      established = is.established;
      purpose = purpose_of order;
      later = inl (asks_informational order);
      payloads = payloads_of_order order;
      clear = order_clear order;
      sealed = subst (λ (x : ℕ). IsSealed body_of (keys_of old.role is.keys) setup.fresh.seal (request_message old x old.outgoing.next (payloads_of_order order)) octets) (sym (asks_informational order)) is.sealed;
      outgoing = is.outgoing;
      issued = is.issued;
      content = is.content;
    }

pub further_sends : (body_of : Keys → Octets → Octets → Octets → Octets) (setup : Setup) (local remote : Selector) (old : Association) (table : Database) (octets : Octets) (new : Association) (new_table : Database)
    → AsksForFurther body_of setup local remote old table octets new new_table → SendsRequest body_of setup old octets new
further_sends body_of setup local remote old table octets new new_table is =
    record {
      keys = is.keys;
      established = is.established;
      purpose = CreateChild (wanted setup is.spi local remote);
      later = inr refl;
      payloads = further_payloads (child_request (asked_of (wanted setup is.spi local remote).child)) setup.fresh.nonce;
      clear = further_clear (child_request (asked_of (wanted setup is.spi local remote).child)) setup.fresh.nonce;
      sealed = is.sealed;
      outgoing = is.outgoing;
      issued = is.issued;
      content = is.content;
    }
