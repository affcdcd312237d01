-- A packet leaves each pair with its IKE SA.
use Rattle.std.proofs.Common.{◌≡◌, ◌≢◌, ℕ, Bool, cond, Option, Some, List, refl, ap, subst, sym, ◌∙◌, inl, inr}
use Rattle.std.proofs.lemmas.Bool.{eq-eqb, ne_eqb}
use Rattle.std.proofs.lemmas.Bool.Decides.{eqb_tells}
use Rattle.std.specs.Cmp.{nat_cmp_total, unsigned_tied}
use Rattle.std.specs.FinMap as map
use Rattle.base.specs.Octets.{Octets}
use Rattle.policy.specs.declared.entry.Entry.{Entry}
use Rattle.esp.specs.Opening.{Refuses}
use Rattle.esp.specs.Views.{Receiving, Sending}
use Rattle.esp.specs.declared.fault.EspFault.{EspFault}
use Rattle.esp.specs.declared.fault.EspFault.TheVariants as esp
use Rattle.sadb.specs.Database.{pair_at, ChangesAt, Database, PairMap}
use Rattle.sadb.specs.declared.pair.Pair.{Pair}
use Rattle.policy.specs.declared.flow.Flow.{Flow}
use Rattle.traffic.specs.Outcomes.{Outcome, Up, Dummy, Sealed, Clear, Discarded, Dropped}
use Rattle.traffic.specs.Receiving.{IsUnopened, Receives}
use Rattle.traffic.specs.Sending.{Protects, Sends}
use Rattle.traffic.specs.declared.fault.PacketFault.{PacketFault}
use Rattle.traffic.specs.declared.fault.PacketFault.TheVariants.{UnknownAssociation, Esp, Inner, OutsideSelectors}
use Rattle.gateway.specs.Carrying.{KeepsItself}
use Rattle.gateway.proofs.StandingLemmas.{itself}

-- under this serial the same pair stood before
pub record StoodFor (old : Database) (child : ℕ) (pair : Pair) : Type 0 where
  pub was : Pair
  pub there : pair_at old.pairs child ≡ Some was
  pub same : KeepsItself was pair

abbrev pub AllStood : Database → Database → Type 0
AllStood old new = (child : ℕ) (pair : Pair) → pair_at new.pairs child ≡ Some pair → StoodFor old child pair

pub stood_same : (old new : Database) → new ≡ old → AllStood old new
stood_same old new same child pair there = record { was = pair; there = sym (ap (λ (d : Database). pair_at d.pairs child) same) ∙ there; same = itself pair }

one_held : (a b : Pair) → Some a ≡ Some b → a ≡ b
one_held a b is = cc

abbrev choice : Option Pair → Option Pair → Bool → Option Pair
choice here there b = cond b here there

inserted_here : (m : PairMap) (k q : ℕ) (v : Pair) → q ≡ k → map.get (map.insert m k v) q ≡ Some v
inserted_here m k q v same = map.get-insert nat_cmp_total m k v q ∙ ap (choice (Some v) (map.get m q)) (unsigned_tied q k ∙ eq-eqb q k same)

inserted_apart : (m : PairMap) (k q : ℕ) (v : Pair) → q ≢ k → map.get (map.insert m k v) q ≡ map.get m q
inserted_apart m k q v apart = map.get-insert nat_cmp_total m k v q ∙ ap (choice (Some v) (map.get m q)) (unsigned_tied q k ∙ ne_eqb q k apart)

stood_changed : (old : Database) (serial : ℕ) (was is : Pair) (new : Database) → ChangesAt old serial was is new → KeepsItself was is → AllStood old new
stood_changed old serial was is new changed same child pair there = elim (eqb_tells child serial) [
  | inl (yes_it_is, here) ↦
      let now : is ≡ pair = one_held is pair (sym (inserted_here old.pairs serial child is here) ∙ sym (ap (λ (d : Database). pair_at d.pairs child) changed.content) ∙ there) in
      record {
        was = was;
        there = ap (λ n. pair_at old.pairs n) here ∙ changed.there;
        same = subst (λ (p : Pair). KeepsItself was p) now same;
      }
  | inr (no_it_is_not, apart) ↦ record {
    was = pair;
    there = sym (inserted_apart old.pairs serial child is apart) ∙ sym (ap (λ (d : Database). pair_at d.pairs child) changed.content) ∙ there;
    same = itself pair;
  }
]

-- by what is accepted the window changes alone
taken : (was : Pair) (inbound : Receiving) → inbound.association ≡ was.inbound.association → KeepsItself was (record was { inbound = inbound })
taken was inbound same = record { ike = refl; inbound = same; outbound = refl; local = refl; remote = refl }

-- by what is sealed the last number alone
numbered : (was : Pair) (outbound : Sending) → outbound.association ≡ was.outbound.association → KeepsItself was (record was { outbound = outbound })
numbered was outbound same = record { ike = refl; inbound = refl; outbound = same; local = refl; remote = refl }

refused_same : (was : Receiving) (packet : Octets) (fault : EspFault) (inbound : Receiving) → Refuses ⊥ was packet fault inbound → inbound.association ≡ was.association
refused_same was packet esp.BadPadding inbound is = is.1.taken.association
refused_same was packet esp.Memory inbound is = ap (λ (r : Receiving). r.association) is.2
refused_same was packet esp.Exhausted inbound is = ap (λ (r : Receiving). r.association) is.1
refused_same was packet esp.PayloadSize inbound is = ap (λ (r : Receiving). r.association) is.1
refused_same was packet esp.BadLength inbound is = ap (λ (r : Receiving). r.association) is.1
refused_same was packet esp.Old inbound is = ap (λ (r : Receiving). r.association) is.1
refused_same was packet esp.Replayed inbound is = ap (λ (r : Receiving). r.association) is.1
refused_same was packet esp.BadNumber inbound is = ap (λ (r : Receiving). r.association) is.1
refused_same was packet esp.BadIcv inbound is = ap (λ (r : Receiving). r.association) is.1

unopened_stood : (old : Database) (packet : Octets) (fault : PacketFault) (new : Database) → IsUnopened old packet fault new → AllStood old new
unopened_stood old packet (Esp fault) new is =
    stood_changed old is.pair.serial is.refused.pair _ new is.refused.changed (taken is.refused.pair is.refused.inbound (refused_same is.refused.pair.inbound packet fault is.refused.inbound is.refused.refused))
unopened_stood old packet (Inner fault) new is = absurd is
unopened_stood old packet UnknownAssociation new is = absurd is
unopened_stood old packet OutsideSelectors new is = absurd is

pub received_stood : (old : Database) (packet : Octets) (o : Outcome) (new : Database) → Receives old packet o new → AllStood old new
received_stood old packet (Up child number inner) new is =
    stood_changed old child is.opened.pair _ new is.opened.changed (taken is.opened.pair is.opened.inbound is.opened.opened.taken.association)
received_stood old packet (Dummy child number) new is =
    stood_changed old child is.opened.pair _ new is.opened.changed (taken is.opened.pair is.opened.inbound is.opened.opened.taken.association)
received_stood old packet (Dropped fault) new is = elim is [
  | inl none ↦ stood_same old new none.1
  | inr some ↦ elim some [
    | inl unopened ↦ unopened_stood old packet fault new unopened
    | inr rejected ↦
        let o = rejected.opened.opened in
        stood_changed old rejected.child o.pair _ new o.changed (taken o.pair o.inbound o.opened.taken.association)
  ]
]
received_stood old packet (Sealed child number octets) new is = absurd is
received_stood old packet (Clear octets) new is = absurd is
received_stood old packet Discarded new is = absurd is

exhausted_stood : (old : Database) (flow : Flow) (packet : Octets) (fault : EspFault) (new : Database) → Protects old flow packet (Dropped (Esp fault)) new → AllStood old new
exhausted_stood old flow packet esp.Exhausted new is = stood_same old new is.1
exhausted_stood old flow packet esp.PayloadSize new is = absurd is
exhausted_stood old flow packet esp.BadLength new is = absurd is
exhausted_stood old flow packet esp.Old new is = absurd is
exhausted_stood old flow packet esp.Replayed new is = absurd is
exhausted_stood old flow packet esp.BadNumber new is = absurd is
exhausted_stood old flow packet esp.BadIcv new is = absurd is
exhausted_stood old flow packet esp.BadPadding new is = absurd is
exhausted_stood old flow packet esp.Memory new is = absurd is

protected_stood : (old : Database) (flow : Flow) (packet : Octets) (fault : PacketFault) (new : Database) → Protects old flow packet (Dropped fault) new → AllStood old new
protected_stood old flow packet UnknownAssociation new is = stood_same old new is.1
protected_stood old flow packet (Esp fault) new is = exhausted_stood old flow packet fault new is
protected_stood old flow packet (Inner fault) new is = absurd is
protected_stood old flow packet OutsideSelectors new is = absurd is

dropped_stood : (old : Database) (entries : List Entry) (packet : Octets) (fault : PacketFault) (new : Database) → Sends old entries packet (Dropped fault) new → AllStood old new
dropped_stood old entries packet (Inner fault) new is = stood_same old new is.1
dropped_stood old entries packet UnknownAssociation new is = protected_stood old is.flow packet UnknownAssociation new is.protects
dropped_stood old entries packet (Esp fault) new is = protected_stood old is.flow packet (Esp fault) new is.protects
dropped_stood old entries packet OutsideSelectors new is = protected_stood old is.flow packet OutsideSelectors new is.protects

pub sent_stood : (old : Database) (entries : List Entry) (packet : Octets) (o : Outcome) (new : Database) → Sends old entries packet o new → AllStood old new
sent_stood old entries packet (Up child number inner) new is = absurd is
sent_stood old entries packet (Dummy child number) new is = absurd is
sent_stood old entries packet (Sealed child number octets) new is =
    let s = is.protects.sealed in
    stood_changed old child s.pair _ new s.changed (numbered s.pair s.outbound (ap (λ (x : Sending). x.association) s.sealed.last))
sent_stood old entries packet (Clear octets) new is = stood_same old new is.2
sent_stood old entries packet Discarded new is = stood_same old new is.1
sent_stood old entries packet (Dropped fault) new is = dropped_stood old entries packet fault new is
