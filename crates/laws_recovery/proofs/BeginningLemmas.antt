-- When an IKE SA begins, and when it does not.
use Rattle.std.proofs.Common.{◌≡◌, ◌≢◌, ◌<◌, ◌⊎◌, ◌↔◌, ◌++◌, ◌∷◌, [], ℕ, zero, suc, List, Bool, true, false, cond, Option, Some, None, Contains, length, ap, arith, refl, subst, sym, ◌∙◌, inl, inr}
use Rattle.std.proofs.lemmas.Bool.{both_ways, eq-eqb, eqb-false, false_from_ne_true, leb-false, lt-leb, ne_eqb, or_from, or_parts, eqb-true}
use Rattle.std.proofs.lemmas.Option.{none-some, same_Some}
use Rattle.std.specs.Cmp.{nat_cmp_total, unsigned_tied}
use Rattle.std.specs.FinMap as map
use Rattle.std.specs.List.{list_any, slice_get}
use Rattle.std.specs.Ordering.{nat_cmp}
use Rattle.std.specs.Prelude.{◌==◌, nat_le}
use Rattle.policy.specs.declared.entry.Action.{Action}
use Rattle.policy.specs.declared.entry.Action.TheVariants as action
use Rattle.policy.specs.declared.entry.Entry.{Entry}
use Rattle.suite.specs.declared.fresh.Fresh.{Fresh}
use Rattle.requests.specs.Outgoing.{none_issued, OwnRequests}
use Rattle.sa_init.specs.Judging.{ASSOCIATION_LIMIT}
use Rattle.sadb.specs.Database.{Database, IsAsBefore, IsFull, IsSpent}
use Rattle.association.specs.Issuing.{IssuesNext}
use Rattle.association.specs.declared.phase.Association.{Association}
use Rattle.association.specs.declared.phase.Request.{Request}
use Rattle.effects.specs.Taking.{Meaning}
use Rattle.ike.specs.Faults as faults
use Rattle.ike.specs.Machines.{association_of, has_own_spi, has_serial, is_bad_spi, own_spi, Held, SERIAL_END}
use Rattle.ike.specs.Starting.{beginning_fault, beginning_fault_of, if_protects, new_association_fault, protecting, BeginsBy, GivesNoSpi, RefusesBeginning}
use Rattle.ike.specs.Machines.{setup_at, Machine}
use Rattle.gateway.specs.Strangers.{IsAsItWas}
use Rattle.ike.specs.Steps as ike
use Rattle.ike.specs.declared.fault.IkeFault.{IkeFault}
use Rattle.ike.specs.declared.fault.IkeFault.TheVariants as fault
use Rattle.ike.specs.declared.output.Stepped.{Stepped}
use Rattle.gateway.specs.Histories.{IsPassage, Passage}
use Rattle.gateway.specs.Inputs.{Input}
use Rattle.gateway.specs.Inputs as input
use Rattle.gateway.specs.Outputs as output
use Rattle.gateway.specs.Outputs.{view_of_ike, wants_memory}
use Rattle.gateway.specs.Steps.{DoesInput, StepsIke}
use Rattle.gateway.specs.declared.fault.Reason.TheVariants as reason
use Rattle.laws_recovery.specs.Beginning.{BeginsAnew, IsRefused, MayBegin}
use Rattle.laws_recovery.proofs.CountingLemmas.{among, any_there}

-- ---- the entry that protects

record ProtectsBy (o : Option Entry) (entry : Entry) : Type 0 where
  there : o ≡ Some entry
  protects : entry.action ≡ action.Protect

by_action : (a : Action) (e entry : Entry) → e.action ≡ a → if_protects a e ≡ Some entry → ProtectsBy (Some e) entry
by_action action.Protect e entry its is = record { there = is; protects = subst (λ (x : Entry). x.action ≡ action.Protect) (same_Some e entry is) its }
by_action action.Bypass e entry its is = absurd cc
by_action action.Discard e entry its is = absurd cc

protects_by : (o : Option Entry) (entry : Entry) → protecting o ≡ Some entry → ProtectsBy o entry
protects_by None entry is = absurd cc
protects_by (Some e) entry is = by_action e.action e entry refl is

protecting_by : (o : Option Entry) (entry : Entry) → o ≡ Some entry → entry.action ≡ action.Protect → protecting o ≡ Some entry
protecting_by o entry there protects = ap protecting there ∙ ap (λ a. if_protects a entry) protects

-- ---- what stands against it

record NoneOf (a b c : Bool) : Type 0 where
  one : a ≡ false
  two : b ≡ false
  three : c ≡ false

none_of : (a b c : Bool) (x y z : IkeFault) → cond a (Some x) (cond b (Some y) (cond c (Some z) None)) ≡ None → NoneOf a b c
none_of true b c x y z is = absurd cc
none_of false true c x y z is = absurd cc
none_of false false true x y z is = absurd cc
none_of false false false x y z is = record { one = refl; two = refl; three = refl }

of_none : (a b c : Bool) (x y z : IkeFault) → a ≡ false → b ≡ false → c ≡ false → cond a (Some x) (cond b (Some y) (cond c (Some z) None)) ≡ None
of_none a b c x y z one two three =
    ap (λ (u : Bool). cond u (Some x) (cond b (Some y) (cond c (Some z) None))) one
    ∙ ap (λ (u : Bool). cond u (Some y) (cond c (Some z) None)) two
    ∙ ap (λ (u : Bool). cond u (Some z) None) three

record MayBeMade (old : Held) (spi : ℕ) : Type 0 where
  few : length old.associations < ASSOCIATION_LIMIT
  apart : (old.next == SERIAL_END) ≡ false
  named : spi ≢ 0
  unused : (a : Association) → Contains old.associations a → own_spi a ≢ spi

may_be : (old : Held) (spi : ℕ) → new_association_fault old spi ≡ None → MayBeMade old spi
may_be old spi is =
    let free = none_of (nat_le ASSOCIATION_LIMIT (length old.associations)) (old.next == SERIAL_END) (is_bad_spi spi old.associations) fault.Crowded fault.NumbersSpent fault.BadFresh is in
    let usable = or_parts (spi == 0) (list_any (has_own_spi spi) old.associations) free.three in
    record {
      few = leb-false ASSOCIATION_LIMIT (length old.associations) free.one;
      apart = free.two;
      named = eqb-false spi 0 usable.0;
      unused = λ a there same. both_ways (list_any (has_own_spi spi) old.associations) usable.1 (any_there (has_own_spi spi) old.associations a there (eq-eqb (own_spi a) spi same));
    }

none_has : (spi : ℕ) (xs : List Association) → ((a : Association) → Contains xs a → own_spi a ≢ spi) → list_any (has_own_spi spi) xs ≡ false
none_has spi xs unused = false_from_ne_true (list_any (has_own_spi spi) xs) (λ some.
    let x = among (has_own_spi spi) xs some in
    unused x.item x.there (eqb-true (own_spi x.item) spi x.passes))

no_fault : (old : Held) (spi : ℕ) → length old.associations < ASSOCIATION_LIMIT → old.next < SERIAL_END → spi ≢ 0
    → ((a : Association) → Contains old.associations a → own_spi a ≢ spi) → new_association_fault old spi ≡ None
no_fault old spi few left named unused =
    of_none (nat_le ASSOCIATION_LIMIT (length old.associations)) (old.next == SERIAL_END) (is_bad_spi spi old.associations) fault.Crowded fault.NumbersSpent fault.BadFresh
    (lt-leb ASSOCIATION_LIMIT (length old.associations) few)
    (ne_eqb old.next SERIAL_END (λ same. omega (arith, left, same)))
    (or_from (spi == 0) (list_any (has_own_spi spi) old.associations) (ne_eqb spi 0 named) (none_has spi old.associations unused))

-- ---- the new IKE SA is found, and its request waits

last_cons : (serial : ℕ) (x : Association) (found : Option Association) (a : Association) → x.serial ≢ serial → found ≡ Some a → cond (has_serial serial x) (Some x) found ≡ Some a
last_cons serial x found a apart there = ap (λ b. cond b (Some x) found) (ne_eqb x.serial serial apart) ∙ there

found_last : (serial : ℕ) (xs : List Association) (a : Association) → a.serial ≡ serial → ((place : ℕ) (x : Association) → slice_get xs place ≡ Some x → x.serial ≢ serial)
    → association_of serial (xs ++ a ∷ []) ≡ Some a
found_last serial [] a named others = ap (λ b. cond b (Some a) None) (eq-eqb a.serial serial named)
found_last serial (x ∷ xs) a named others = last_cons serial x (association_of serial (xs ++ a ∷ [])) a (others zero x refl) (found_last serial xs a named (λ place y there. others (suc place) y there))

put_there : (m : map.FinMap nat_cmp Request) (k : ℕ) (v : Request) → map.get (map.insert m k v) k ≡ Some v
put_there m k v = map.get-insert nat_cmp_total m k v k ∙ ap (λ (b : Bool). cond b (Some v) (map.get m k)) (unsigned_tied k k ∙ eq-eqb k k refl)

pub issued_waits : (old : OwnRequests Request) (request : Request) (new : OwnRequests Request) → IssuesNext old request new → map.get new.outstanding old.next ≡ Some request
issued_waits old request new is =
    ap (λ (o : OwnRequests Request). map.get o.outstanding old.next) is.issued.content ∙ put_there is.ready.outstanding old.next request

-- ---- the step

module _ {C : Type 0} (meaning_of : C → Meaning) (place : ℕ) (fresh : Fresh) (p : Passage C) (is : IsPassage meaning_of p) (given : p.given ≡ input.Start None place fresh) where
  does : StepsIke (meaning_of p.before.caller) p.before.entries (ike.Start None place fresh) p.before.machine p.before.table p.said is.steps.trace p.after.machine p.after.table
  does = subst (λ (i : Input). DoesInput (meaning_of p.before.caller) p.before.entries i p.before.machine p.before.table p.said is.steps.trace p.after.machine p.after.table) given is.steps.traces.does

  as_it_was : p.after.machine ≡ p.before.machine → IsAsBefore p.before.table p.after.table → IsAsItWas p.before p.after
  as_it_was machine table = record {
    content = is.steps.traces.kept ∙ ap (λ (m : Machine). record p.before { machine = m; table = p.after.table }) machine;
    table = table;
  }

  -- a step that is done begins an IKE SA
  begins_by : (stepped : Stepped) → p.said ≡ view_of_ike stepped.output
      → BeginsBy (meaning_of p.before.caller) (setup_at p.before.machine p.before.entries fresh) place p.before.machine.held p.before.table stepped p.after.machine.held p.after.table
      → BeginsAnew (meaning_of p.before.caller) fresh p
  begins_by stepped said by =
      let held = ap (λ (h : Held). h.associations) by.done.content in
      let new : Association = _ in
      let there : association_of p.before.machine.held.next p.after.machine.held.associations ≡ Some new =
      ap (association_of p.before.machine.held.next) held
      ∙ found_last p.before.machine.held.next p.before.machine.held.associations new refl (λ k x at same.
      let given_before = (is.sound.machine.held.each k x at).serial_given in
      omega (arith, given_before, same)) in
      record {
        octets = by.beginning.octets;
        spelled = by.begins.spelled;
        said = said ∙ ap (λ (s : Stepped). view_of_ike s.output) by.done.said;
        association = new;
        held = held;
        there = there;
        role = refl;
        spi = by.begins.spi;
        sent = _;
        begun = refl;
        secret = by.begins.secret;
        nonce = by.begins.nonce_is;
        request = _;
        waits = record { association = new; there = there; waits = issued_waits none_issued _ by.beginning.outgoing by.begins.issued };
        octets_are = refl;
        timer = refl;
        table = record { between = by.between; room = by.room; spi = by.done.spi; reserved = by.done.reserved };
      }

  allowed_by : (stepped : Stepped)
      → BeginsBy (meaning_of p.before.caller) (setup_at p.before.machine p.before.entries fresh) place p.before.machine.held p.before.table stepped p.after.machine.held p.after.table
      → MayBegin place fresh p.before
  allowed_by stepped by =
      let entry = protects_by (slice_get p.before.entries place) by.entry by.allowed.protects in
      let free = may_be p.before.machine.held fresh.spi
      (sym (ap (λ (o : Option Entry). beginning_fault_of o p.before.machine.held fresh.spi) by.allowed.protects) ∙ by.allowed.none) in
      record {
        entry = by.entry;
        there = entry.there;
        protects = entry.protects;
        few = free.few;
        left = by.allowed.left;
        named = free.named;
        unused = free.unused;
        not_full = λ full. by.done.not_full (subst (λ (d : Database). IsFull d) (sym by.room.content) full);
        not_spent = λ spent. by.done.not_spent (subst (λ (d : Database). IsSpent d) (sym by.room.content) spent);
      }

  -- where it may begin, it is refused for memory alone
  none_against : (may : MayBegin place fresh p.before) → beginning_fault p.before.entries place fresh p.before.machine.held ≡ None
  none_against may =
      ap (λ (o : Option Entry). beginning_fault_of o p.before.machine.held fresh.spi) (protecting_by (slice_get p.before.entries place) may.entry may.there may.protects)
      ∙ no_fault p.before.machine.held fresh.spi may.few may.left may.named may.unused

  for_memory : (may : MayBegin place fresh p.before) (why : IkeFault) → GivesNoSpi p.before.table why → faults.is_want_of_memory why ≡ true
  for_memory may fault.TableFull full = absurd (may.not_full full)
  for_memory may fault.SpisSpent spent = absurd (may.not_spent spent.1)
  for_memory may (fault.Memory f) none = refl
  for_memory may (fault.Unread f) none = absurd none
  for_memory may (fault.Message f) none = absurd none
  for_memory may fault.Unprotected none = absurd none
  for_memory may fault.Crowded none = absurd none
  for_memory may fault.HalfOpenFull none = absurd none
  for_memory may fault.Busy none = absurd none
  for_memory may fault.NumbersSpent none = absurd none
  for_memory may fault.BadFresh none = absurd none

  refused_for : (may : MayBegin place fresh p.before) (why : IkeFault) → RefusesBeginning p.before.entries fresh place p.before.machine.held p.before.table why → faults.is_want_of_memory why ≡ true
  refused_for may why (inl said) = absurd (none-some why (sym (none_against may) ∙ said))
  refused_for may why (inr none) = for_memory may why none.1

  may_by : MayBegin place fresh p.before → wants_memory p.said ≡ false → BeginsAnew (meaning_of p.before.caller) fresh p
  may_by may memory = elim does [
    | inl answers ↦ begins_by answers.stepped answers.output answers.steps.1
    | inr refuses ↦ absurd (both_ways (wants_memory p.said) memory (ap wants_memory refuses.output ∙ refused_for may refuses.fault refuses.refuses))
  ]

  only : BeginsAnew (meaning_of p.before.caller) fresh p → MayBegin place fresh p.before
  only begun = elim does [
    | inl answers ↦ allowed_by answers.stepped answers.steps.1
    | inr refuses ↦ absurd (let wrong : output.Refused (reason.Ike refuses.fault) ≡ output.Request p.before.machine.held.next begun.octets = sym refuses.output ∙ begun.said in cc)
  ]

  pub exactly : BeginsAnew (meaning_of p.before.caller) fresh p ↔ ((wants_memory p.said ≡ false) × MayBegin place fresh p.before)
  exactly = ((λ begun. (ap wants_memory begun.said, only begun)), (λ both. may_by both.1 both.0))

  pub either : BeginsAnew (meaning_of p.before.caller) fresh p ⊎ IsRefused p
  either = elim does [
    | inl answers ↦ inl (begins_by answers.stepped answers.output answers.steps.1)
    | inr refuses ↦ inr (record { why = reason.Ike refuses.fault; said = refuses.output; unchanged = as_it_was refuses.machine refuses.pairs })
  ]
