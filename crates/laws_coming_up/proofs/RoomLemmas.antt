-- Two new gateways that brought a tunnel up have room for another.
use Rattle.std.proofs.Common.{◌≡◌, ◌≢◌, ◌+◌, ◌≤◌, ◌==◌, ◌||◌, ◌∷◌, ℕ, Bool, true, false, [], Some, cond, ap, arith, refl, subst, sym, ◌∙◌}
use Rattle.std.proofs.lemmas.Bool.{ne_eqb}
use Rattle.std.specs.Cmp.{nat_cmp_total}
use Rattle.std.specs.FinMap as map
use Rattle.std.specs.FinSet as set
use Rattle.std.specs.Ordering.{nat_cmp}
use Rattle.base.specs.Octets.{Octets}
use Rattle.policy.specs.declared.entry.Entry.{Entry}
use Rattle.suite.specs.declared.fresh.Fresh.{Fresh}
use Rattle.suite.specs.declared.key_record.KeyRecord.{KeyRecord}
use Rattle.exchange.specs.declared.headers.Role.TheVariants.{Initiator, Responder}
use Rattle.sadb.specs.declared.pair.Pair.{Pair}
use Rattle.association.specs.declared.phase.Association.{Association}
use Rattle.association.specs.declared.phase.Phase.TheVariants.{Established}
use Rattle.effects.specs.Taking.{Meaning}
use Rattle.ike.specs.Machines.{is_bad_spi, own_spi, spi_by_role}
use Rattle.ike.specs.Starting.{protecting_entry}
use Rattle.gateway.specs.Histories.{Passage}
use Rattle.gateway.specs.States.{State}
use Rattle.laws_opening.specs.Beside.{CanAnswer, CanBegin}
use Rattle.laws_opening.specs.Opened.{Side}
use Rattle.laws_coming_up.specs.ComingUp.{pair_on, table_with}
use Rattle.laws_coming_up.specs.ComingUpBeside.{HasPlace}
use Rattle.laws_coming_up.specs.BringingUp.{HaveTunnel}

-- ---- the IKE SA that is held is not half open, and has another SPI

abbrev established_as : Association → KeyRecord → Association
established_as a keys = record a { phase = Established keys }

not_bad : (fresh own : ℕ) (a : Association) → own_spi a ≡ own → fresh ≢ 0 → fresh ≢ own → is_bad_spi fresh (a ∷ []) ≡ false
not_bad fresh own a is named apart =
    (λ i. ne_eqb fresh 0 named i || ((is i == fresh) || false)) ∙ ap (λ (b : Bool). b || false) (ne_eqb own fresh (λ same. apart (sym same)))

can_answer : (a : Association) (keys : KeyRecord) (request : Octets) (fresh own : ℕ) → own_spi a ≡ own → fresh ≢ 0 → fresh ≢ own
    → CanAnswer request fresh (record { next = 2; associations = established_as a keys ∷ [] })
can_answer a keys request fresh own is named apart = record {
  few = omega arith;
  place = omega arith;
  serial = omega arith;
  usable = not_bad fresh own (established_as a keys) is named apart;
  first = refl;
}

-- ---- a table with one pair has a place left

abbrev none_held : map.FinMap nat_cmp Pair
none_held = map.empty

at_most : (b : Bool) (n : ℕ) → cond b n (n + 1) ≤ n + 1
at_most true n = omega arith
at_most false n = omega arith

pub place_left : (start : ℕ) (pair : Pair) (room : ℕ) → HasPlace (table_with start pair room)
place_left start pair room = record {
  not_full = λ full.
      let none = map.len-empty nat_cmp Pair in
      let spis = set.len-empty nat_cmp in
      let one = map.len-insert nat_cmp_total none_held 1 (record pair { serial = 1 }) in
      let most = at_most (map.contains_key none_held 1) (map.len none_held) in
      absurd (omega (arith, full, none, spis, one, most));
  not_spent = λ spent. absurd (omega (arith, spent));
}

-- ---- both

module _ {C : Type 0} (meaning_of : C → Meaning) (one other : Side) (a b : C) (entry : Entry) (asking answering reading : Fresh) (shared : Octets) (p q r s t : Passage C)
    (tunnel : HaveTunnel meaning_of one other a b entry asking answering reading shared p q r s t) where
  pub can_begin_again : (place : ℕ) (again : Entry) (fresh : Fresh) → protecting_entry one.entries place ≡ Some again → fresh.spi ≢ 0 → fresh.spi ≢ asking.spi
      → CanBegin place again fresh t.after
  can_begin_again place again fresh protects named apart =
      let up = tunnel.up.initiator.concludes.up in
      let own : own_spi up.association ≡ asking.spi = (λ i. spi_by_role (up.standing.role_is i) (up.standing.spi_i i) up.association.spi_r)
      ∙ ap (λ (f : Fresh). f.spi) tunnel.opened.asking_is in
      let left = place_left one.start (pair_on Initiator one tunnel.opened.opening tunnel.up.responder.terms) tunnel.up.initiator.room in
      subst (λ (x : State C). CanBegin place again fresh x) (sym up.state)
      (record {
        protects = protects;
        few = omega arith;
        serial = omega arith;
        usable = not_bad fresh.spi asking.spi up.association own named apart;
        not_full = left.not_full;
        not_spent = left.not_spent;
      })

  pub can_answer_again : (request : Octets) (fresh : Fresh) → fresh.spi ≢ 0 → fresh.spi ≢ answering.spi → CanAnswer request fresh.spi s.after.machine.held
  can_answer_again request fresh named apart =
      let up = tunnel.up.responder.accepts.up in
      let own : own_spi up.association ≡ answering.spi = (λ i. spi_by_role (up.standing.role_is i) up.association.spi_i (up.standing.spi_r i))
      ∙ ap (λ (f : Fresh). f.spi) tunnel.opened.answering_is in
      let so : up.association ≡ established_as up.association tunnel.opened.opening.keys = (λ i. record up.association { phase = up.standing.established i }) in
      subst (λ (x : State C). CanAnswer request fresh.spi x.machine.held) (sym up.state)
      (subst (λ (x : Association). CanAnswer request fresh.spi (record { next = 2; associations = x ∷ [] })) (sym so)
      (can_answer up.association tunnel.opened.opening.keys request fresh.spi answering.spi own named apart))

  pub has_place_again : HasPlace s.after.table
  has_place_again =
      let up = tunnel.up.responder.accepts.up in
      subst (λ (x : State C). HasPlace x.table) (sym up.state) (place_left other.start (pair_on Responder other tunnel.opened.opening tunnel.up.responder.terms) tunnel.up.responder.room)
