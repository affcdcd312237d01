-- What one end's pair of a Child SA seals goes up at the other end, in a world that accounts for its pairs.
use Rattle.std.proofs.Common.{◌≡◌, ◌↔◌, ℕ, zero, suc, List, [], ◌∷◌, Contains, Some, inl, inr, refl, sym, ap, ◌∙◌, subst}
use Rattle.std.specs.List.{slice_get}
use Rattle.std.proofs.lemmas.List.Elements.{Contains-append_left}
use Rattle.base.specs.Octets.{Octets}
use Rattle.esp.specs.declared.sa.Sa.{Sa}
use Rattle.suite.specs.declared.key_record.KeyRecord.{KeyRecord}
use Rattle.suite.specs.declared.keys.Keys.{Keys}
use Rattle.sadb.specs.Database.{pair_at}
use Rattle.sadb.specs.Mirrors.{Mirrors}
use Rattle.sadb.specs.declared.pair.Pair.{Pair}
use Rattle.association.specs.Receiving.{Opening}
use Rattle.effects.specs.Taking.{Meaning}
use Rattle.gateway.specs.BothEnds.{IsWhollySound, PromisesOfBothEnds}
use Rattle.gateway.specs.Outputs.{Up}
use Rattle.gateway.specs.WorldChildren.{AreEndsOfOneChild, ChildrenMirror, IsStoredOf, MirrorEachOther}
use Rattle.gateway.specs.WorldHistories.{Happening, IsWorldTrail}
use Rattle.gateway.specs.WorldPackets.{AccountsForPairs, HasStored}
use Rattle.gateway.specs.WorldParties.{IsNeverMadeTwice}
use Rattle.gateway.specs.WorldPromises.{IsUnforged}
use Rattle.gateway.specs.WorldRuns.{IsLater}
use Rattle.gateway.specs.Worlds.{gateway_at, simplex_of, Stored, WorldState}
use Rattle.gateway.specs.declared.world.stored.Child.{Child}
use Rattle.gateway.specs.declared.world.stored.End.{End}
use Rattle.gateway.specs.declared.world.stored.Simplex.{Simplex}
use Rattle.gateway.proofs.SoundWorldLemmas.{place_later}
use Rattle.laws_progress.specs.Delivering.{ComesTo, ComesToChild, IsSealedFrom, WasSealedFor}
use Rattle.laws_progress.proofs.DeliveringLemmas.{seals, step_at}

-- ---- what mirrors what

same_sa : (a b : Sa) → simplex_of a ≡ simplex_of b → a ≡ b
same_sa a b is = λ i. record { spi = (is i).spi; key = (is i).key; extended = (is i).extended }

turned : (one other : Child) → MirrorEachOther other one → MirrorEachOther one other
turned one other is = record {
  inward = sym is.outward;
  outward = sym is.inward;
  extension = ap (λ (s : Simplex). s.extended) (sym is.outward) ∙ sym is.extension ∙ ap (λ (s : Simplex). s.extended) is.inward;
  local = sym is.remote;
  remote = sym is.local;
}

pairs_mirror : (one other : Child) (a b : Pair) → IsStoredOf one a → IsStoredOf other b → MirrorEachOther one other → Mirrors a b
pairs_mirror one other a b first second is = record {
  inward = same_sa a.inbound.association b.outbound.association (sym first.inbound ∙ is.inward ∙ second.outbound);
  outward = same_sa a.outbound.association b.inbound.association (sym first.outbound ∙ is.outward ∙ second.inbound);
  extension = ap (λ (s : Simplex). s.extended) (sym first.inbound) ∙ is.extension ∙ ap (λ (s : Simplex). s.extended) first.outbound;
  local = sym first.local ∙ is.local ∙ second.remote;
  remote = sym first.remote ∙ is.remote ∙ second.local;
}

mirror_each_other : {C : Type 0} (keys : KeyRecord) (w : WorldState C) (one other : Child) → ChildrenMirror keys w → Contains w.stored.children one → Contains w.stored.children other
    → one.keys ≡ keys → AreEndsOfOneChild one other → MirrorEachOther one other
mirror_each_other {C} keys w one other mirror first second under (inl is) = mirror one other first second under is
mirror_each_other {C} keys w one other mirror first second under (inr is) = turned one other (mirror other one second first (sym is.keys ∙ under) is)

-- ---- what is stored of a pair that was held

same_step : {C : Type 0} (g h : Happening C) → Some g ≡ Some h → g ≡ h
same_step {C} g h is = cc

accounts_before : {C : Type 0} (meaning_of : C → Meaning) (hs : List (Happening C)) (old new : WorldState C) → IsWorldTrail meaning_of old hs new → AccountsForPairs old
    → ((place : ℕ) (h : Happening C) → slice_get hs place ≡ Some h → AccountsForPairs h.after) → (place : ℕ) (h : Happening C) → slice_get hs place ≡ Some h → AccountsForPairs h.before
accounts_before {C} meaning_of [] old new trail first each place h there = absurd cc
accounts_before {C} meaning_of (x ∷ hs) old new trail first each zero h there =
    subst (λ (w : WorldState C). AccountsForPairs w) (sym (ap (λ (y : Happening C). y.before) (sym (same_step x h there)) ∙ trail.0)) first
accounts_before {C} meaning_of (x ∷ hs) old new trail first each (suc place) h there =
    accounts_before meaning_of hs x.after new trail.2 (each 0 x refl) (λ k g is. each (suc k) g is) place h there

more_children : (now last : Stored) (child : Child) → IsLater now last → Contains now.children child → Contains last.children child
more_children now last child later there = subst (λ (cs : List Child). Contains cs child) (sym later.children) (Contains-append_left now.children later.more.children child there)

module _ {C : Type 0} (w last : WorldState C) (later : IsLater w.stored last.stored) (then_ : AccountsForPairs w) (now_ : AccountsForPairs last) where
  stored_of : (child : Child) (pair : Pair) → Contains last.stored.children child → pair_at (gateway_at child.end w).table.pairs child.serial ≡ Some pair → IsStoredOf child pair
  stored_of child pair there held =
      let was : HasStored child.end child.serial w.stored = then_.stored child.end child.serial pair held in
      let same : was.child ≡ child = now_.alone was.child child (more_children w.stored last.stored was.child later was.there) there was.end_is was.serial_is in
      then_.same child pair (subst (λ (c : Child). Contains w.stored.children c) same was.there) held

-- ---- both ends of one Child SA

-- what the pairs of both ends have to be
record Meets {C : Type 0} (other : Child) (number : ℕ) (packet octets : Octets) (pair : Pair) (happenings : List (Happening C)) (h : Happening C) : Type 0 where
  was : WasSealedFor pair number packet octets happenings
  comes : ComesTo pair octets h
  serial : pair.serial ≡ other.serial

module _ {C : Type 0} (meaning_of : C → Meaning) (body_of : Keys → Octets → Octets → Octets → Octets) (plain_of : Opening) (keys : KeyRecord) (happenings : List (Happening C)) (old new : WorldState C)
    (trail : IsWorldTrail meaning_of old happenings new) (promises : PromisesOfBothEnds body_of plain_of meaning_of happenings old new)
    (sound : IsWhollySound body_of plain_of keys old) (unforged : IsUnforged meaning_of keys happenings new.stored) (once : IsNeverMadeTwice keys new.stored) where
  stored_then : (place : ℕ) (h : Happening C) (child : Child) (pair : Pair) → slice_get happenings place ≡ Some h → Contains new.stored.children child
      → pair_at (gateway_at child.end h.before).table.pairs child.serial ≡ Some pair → IsStoredOf child pair
  stored_then place h child pair at there held =
      stored_of h.before new (place_later meaning_of happenings old new place h trail at)
      (accounts_before meaning_of happenings old new trail sound.pairs (promises.pairs sound.pairs) place h at) (promises.stays keys sound unforged once).pairs child pair there held

  module _ (one other : Child) (first : Contains new.stored.children one) (second : Contains new.stored.children other) (under : one.keys ≡ keys) (ends : AreEndsOfOneChild one other)
      (sealing place number : ℕ) (packet octets : Octets) (pair : Pair) (g h : Happening C) (here : slice_get happenings sealing ≡ Some g) (there : slice_get happenings place ≡ Some h)
      (sealed : IsSealedFrom one number packet octets g) (comes : ComesToChild other pair octets h) where
    meets : Meets other number packet octets pair happenings h
    meets =
        let takes = step_at meaning_of happenings old new trail sealing g here in
        let far_takes = step_at meaning_of happenings old new trail place h there in
        let sends = seals meaning_of g takes one.serial number packet octets sealed.given sealed.said in
        let near : Pair = sends.protects.sealed.pair in
        let stood : pair_at (gateway_at g.event.end g.before).table.pairs one.serial ≡ Some near = sends.protects.sealed.changed.there in
        let near_is : IsStoredOf one near =
        stored_then sealing g one near here first (subst (λ (e : End). pair_at (gateway_at e g.before).table.pairs one.serial ≡ Some near) sealed.end_is stood) in
        let far_is : IsStoredOf other pair = stored_then place h other pair there second comes.held in
        let mirrors : Mirrors near pair = pairs_mirror one other near pair near_is far_is (mirror_each_other keys new one other (promises.agree keys sound unforged once).mirror first second under ends) in
        let held : pair_at (gateway_at h.event.end h.before).table.pairs other.serial ≡ Some pair =
        subst (λ (e : End). pair_at (gateway_at e h.before).table.pairs other.serial ≡ Some pair) (sym comes.end_is) comes.held in
        let serial : pair.serial ≡ other.serial = far_takes.sound.table.serial other.serial pair held in
        record {
          was = record {
            place = sealing;
            happening = g;
            there = here;
            child = one.serial;
            pair = near;
            sealed = record { given = sealed.given; said = sealed.said; stood = stood };
            mirrors = mirrors;
          };
          comes = record {
            given = comes.given;
            held = subst (λ (s : ℕ). pair_at (gateway_at h.event.end h.before).table.pairs s ≡ Some pair) (sym serial) held;
          };
          serial = serial;
        }

    -- what goes up exactly by such a premise
    pub child_goes_up : (Due : Type 0) → (WasSealedFor pair number packet octets happenings → ComesTo pair octets h → (h.said ≡ Up pair.serial number packet) ↔ Due)
        → (h.said ≡ Up other.serial number packet) ↔ Due
    child_goes_up Due law = subst (λ (s : ℕ). (h.said ≡ Up s number packet) ↔ Due) meets.serial (law meets.was meets.comes)

    -- and what goes up by such a one
    pub child_follows : (Due : Type 0) → (WasSealedFor pair number packet octets happenings → ComesTo pair octets h → Due → h.said ≡ Up pair.serial number packet)
        → Due → h.said ≡ Up other.serial number packet
    child_follows Due law due = subst (λ (s : ℕ). h.said ≡ Up s number packet) meets.serial (law meets.was meets.comes due)
