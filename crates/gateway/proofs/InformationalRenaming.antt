-- What INFORMATIONAL does goes by no serial of an IKE SA.
use Rattle.std.proofs.Common.{◌≡◌, ℕ, Bool, true, false, List, [], ◌∷◌, Option, Some, None, refl, sym, ap, subst, ◌∙◌}
use Rattle.std.specs.Prelude.{if◌then◌else◌}
use Rattle.std.specs.Option.{option_map}
use Rattle.base.specs.Octets.{Octets}
use Rattle.base.specs.declared.selector.Selector.{Selector}
use Rattle.wire.specs.Numbers.{INFORMATIONAL}
use Rattle.suite.specs.declared.keys.Keys.{Keys}
use Rattle.exchange.specs.Headers.{keys_of}
use Rattle.exchange.specs.Sealed.{IsSealed}
use Rattle.exchange.specs.declared.sealed.Plain.{Plain}
use Rattle.sadb.specs.Database.{pair_at, Database, PairMap}
use Rattle.sadb.specs.declared.pair.Pair.{Pair}
use Rattle.association.specs.Issuing.{with_incoming, with_outgoing}
use Rattle.association.specs.Outcomes.{childless}
use Rattle.association.specs.Sending.{reply_message}
use Rattle.association.specs.declared.outcome.Answered.{Answered}
use Rattle.association.specs.declared.outcome.Ended.{Ended}
use Rattle.association.specs.declared.phase.Association.{Association}
use Rattle.association.specs.declared.purpose.Purpose.{Purpose}
use Rattle.association.specs.declared.purpose.Purpose.TheVariants as purpose
use Rattle.setup.specs.Configs.{Setup}
use Rattle.deletions.specs.Answering.{payloads_of_verdict}
use Rattle.deletions.specs.Deciding.{is_closing_verdict, verdict_on}
use Rattle.deletions.specs.declared.deciding.Verdict.{Verdict}
use Rattle.informational.specs.Answering.{gone_by, AnswersInformational}
use Rattle.informational.specs.Asking.{Asks}
use Rattle.informational.specs.Counting.{gone_with, if_its_own, is_ended, CountsInformational}
use Rattle.informational.specs.Ordering.{IsOfLive, MarksFor}
use Rattle.informational.specs.Orders.{ClosesIf, RemovesOwn}
use Rattle.informational.specs.declared.ordering.Order.{Order}
use Rattle.informational.specs.declared.ordering.Order.TheVariants.{Probe, DeleteChild, DeleteAssociation}
use Rattle.create_child.specs.Asking.{AsksForFurther}
use Rattle.gateway.specs.Renaming.{renamed_association, renamed_pair, renamed_pairs, renamed_table}
use Rattle.gateway.proofs.PairRenaming.{at_renamed}
use Rattle.gateway.proofs.TableRenaming.{as_before_renamed, belongs_renamed, closes_renamed, live_renamed, marks_renamed, not_full_renamed, removes_named_renamed, reserves_renamed, same_serial, verdict_renamed, KeepsApart}

module _ (r : ℕ → ℕ) where
  -- ---- what this end asks

  pub asks_renamed : (body_of : Keys → Octets → Octets → Octets → Octets) (setup : Setup) (order : Order) (old new : Association) (octets : Octets)
      → Asks body_of setup order old octets new → Asks body_of setup order (renamed_association r old) octets (renamed_association r new)
  asks_renamed body_of setup order old new octets it = record {
    keys = it.keys;
    established = it.established;
    not_deleting = it.not_deleting;
    sealed = it.sealed;
    outgoing = it.outgoing;
    issued = it.issued;
    content = ap (renamed_association r) it.content;
  }

  pub asks_further_renamed : (body_of : Keys → Octets → Octets → Octets → Octets) (setup : Setup) (local remote : Selector) (old new : Association) (table new_table : Database) (octets : Octets)
      → AsksForFurther body_of setup local remote old table octets new new_table → AsksForFurther body_of setup local remote (renamed_association r old) (renamed_table r table) octets (renamed_association r new) (renamed_table r new_table)
  asks_further_renamed body_of setup local remote old new table new_table octets it = record {
    keys = it.keys;
    established = it.established;
    not_deleting = it.not_deleting;
    not_full = not_full_renamed r table it.not_full;
    not_spent = it.not_spent;
    between = renamed_table r it.between;
    room = as_before_renamed r table it.between it.room;
    spi = it.spi;
    reserved = reserves_renamed r it.between it.spi new_table it.reserved;
    sealed = it.sealed;
    outgoing = it.outgoing;
    issued = it.issued;
    content = ap (renamed_association r) it.content;
  }

  pub of_live_renamed : (order : Order) (pairs : PairMap) → IsOfLive order pairs → IsOfLive order (renamed_pairs r pairs)
  of_live_renamed Probe pairs it = it
  of_live_renamed (DeleteChild child spi) pairs it = live_renamed r pairs child it
  of_live_renamed DeleteAssociation pairs it = it

  pub marks_for_renamed : (order : Order) (table new : Database) → MarksFor order table new → MarksFor order (renamed_table r table) (renamed_table r new)
  marks_for_renamed Probe table new it = ap (renamed_table r) it
  marks_for_renamed (DeleteChild child spi) table new it = marks_renamed r table child new it
  marks_for_renamed DeleteAssociation table new it = ap (renamed_table r) it

  pub removes_own_renamed : (ike : ℕ) (serials : List ℕ) (old new : Database) → RemovesOwn ike serials old new → RemovesOwn (r ike) serials (renamed_table r old) (renamed_table r new)
  removes_own_renamed ike serials old new it = record {
    its_own = λ k d within. belongs_renamed r old.pairs ike _ (it.its_own k d within);
    removed = removes_named_renamed r old serials new it.removed;
  }

  module _ (apart : KeepsApart r) where
    -- ---- what comes of it

    pub closes_if_renamed : (closing : Bool) (serials : List ℕ) (old : Association) (table : Database) (moment : ℕ) (new : Association) (new_table : Database)
        → ClosesIf closing serials old table moment new new_table → ClosesIf closing serials (renamed_association r old) (renamed_table r table) moment (renamed_association r new) (renamed_table r new_table)
    closes_if_renamed true serials old table moment new new_table it = closes_renamed r apart old new table new_table moment it
    closes_if_renamed false serials old table moment new new_table it = (ap (renamed_association r) it.0, removes_own_renamed old.serial serials table new_table it.1)

    -- the peer's request is answered
    pub answers_informational_renamed : (body_of : Keys → Octets → Octets → Octets → Octets) (setup : Setup) (old : Association) (table : Database) (number : ℕ) (plain : Plain) (answer : Answered) (new : Association) (new_table : Database)
        → AnswersInformational body_of setup old table number plain answer new new_table → AnswersInformational body_of setup (renamed_association r old) (renamed_table r table) number plain answer (renamed_association r new) (renamed_table r new_table)
    answers_informational_renamed body_of setup old table number plain answer new new_table it =
        let same : verdict_on (renamed_pairs r table.pairs) (r old.serial) it.payloads ≡ verdict_on table.pairs old.serial it.payloads = verdict_renamed r apart table.pairs old.serial it.payloads in
        record {
          keys = it.keys;
          established = it.established;
          payloads = it.payloads;
          read = it.read;
          sealed = subst (λ (v : Verdict). IsSealed body_of (keys_of old.role it.keys) setup.fresh.seal (reply_message old INFORMATIONAL number (payloads_of_verdict v)) answer.octets) (sym same) it.sealed;
          incoming = it.incoming;
          ready = it.ready;
          prepared = it.prepared;
          taken = it.taken;
          fate = subst (λ (v : Verdict). answer.fate ≡ childless (is_closing_verdict v)) (sym same) it.fate;
          concluded =
              subst (λ (v : Verdict). ClosesIf (is_closing_verdict v) (gone_by v) (renamed_association r (with_incoming old it.incoming)) (renamed_table r table) setup.moment (renamed_association r new) (renamed_table r new_table)) (sym same)
              (closes_if_renamed (is_closing_verdict (verdict_on table.pairs old.serial it.payloads)) (gone_by (verdict_on table.pairs old.serial it.payloads)) (with_incoming old it.incoming) table setup.moment new new_table it.concluded);
        }

    own_renamed : (found : Option Pair) (ike child : ℕ) → if_its_own (option_map (renamed_pair r) found) (r ike) child ≡ if_its_own found ike child
    own_renamed None ike child = refl
    own_renamed (Some pair) ike child = ap (λ b. if b then child ∷ [] else []) (same_serial r apart pair.ike ike)

    pub gone_renamed : (pairs : PairMap) (ike : ℕ) (asked : Purpose) → gone_with (renamed_pairs r pairs) (r ike) asked ≡ gone_with pairs ike asked
    gone_renamed pairs ike purpose.Begin = refl
    gone_renamed pairs ike purpose.Identify = refl
    gone_renamed pairs ike (purpose.CreateChild further) = refl
    gone_renamed pairs ike purpose.Probe = refl
    gone_renamed pairs ike (purpose.DeleteChild child) =
        ap (λ (found : Option Pair). if_its_own found (r ike) child) (at_renamed r pairs child) ∙ own_renamed (pair_at pairs child) ike child
    gone_renamed pairs ike purpose.DeleteAssociation = refl

    -- the peer's response is matched
    pub counts_informational_renamed : (setup : Setup) (old : Association) (table : Database) (number : ℕ) (plain : Plain) (ended : Ended) (new : Association) (new_table : Database)
        → CountsInformational setup old table number plain ended new new_table → CountsInformational setup (renamed_association r old) (renamed_table r table) number plain ended (renamed_association r new) (renamed_table r new_table)
    counts_informational_renamed setup old table number plain ended new new_table it = record {
      payloads = it.payloads;
      read = it.read;
      request = it.request;
      outgoing = it.outgoing;
      counted = it.counted;
      fate = it.fate;
      declined = it.declined;
      concluded =
          subst (λ (serials : List ℕ). ClosesIf (is_ended it.payloads it.request.purpose) serials (renamed_association r (with_outgoing old it.outgoing)) (renamed_table r table) setup.moment (renamed_association r new) (renamed_table r new_table)) (sym (gone_renamed table.pairs old.serial it.request.purpose))
          (closes_if_renamed (is_ended it.payloads it.request.purpose) (gone_with table.pairs old.serial it.request.purpose) (with_outgoing old it.outgoing) table setup.moment new new_table it.concluded);
    }
