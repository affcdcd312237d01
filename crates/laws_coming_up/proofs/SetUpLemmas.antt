-- Two new gateways that are set up are gateways that are set up so, beside nothing else.
use Rattle.std.proofs.Common.{◌≡◌, ◌≢◌, ◌||◌, ℕ, Bool, false, None, Some, [], ap, arith, refl, subst, sym, ◌∙◌}
use Rattle.std.proofs.lemmas.Bool.{ne_eqb}
use Rattle.base.specs.Octets.{Octets}
use Rattle.policy.specs.declared.entry.Entry.{Entry}
use Rattle.suite.specs.declared.fresh.Fresh.{Fresh}
use Rattle.effects.specs.Taking.{Meaning}
use Rattle.ike.specs.Machines.{is_bad_spi, none_held}
use Rattle.ike.specs.Starting.{protecting_entry}
use Rattle.gateway.specs.Histories.{IsPassage, Passage}
use Rattle.gateway.specs.Inputs as input
use Rattle.gateway.specs.Outputs.{wants_memory, OutputView, Request}
use Rattle.gateway.specs.States.{State}
use Rattle.laws_opening.specs.Beside.{next_child, AsksBeside, CanAnswer, CanBegin, IsExchangeBeside, OpensBeside, StillWaits}
use Rattle.laws_opening.specs.Opened.{initiator_opened, made, responder_opened, Side}
use Rattle.laws_opening.specs.Opening.{CanOpen, HasOpened, IsExchange, PutsOut}
use Rattle.laws_coming_up.specs.ComingUpBeside.{meeting_by, AwaitsAnswer, AwaitsIdentity, HasPlace}
use Rattle.laws_coming_up.specs.BringingUp.{AreSetUp, CanProveItself}
use Rattle.laws_coming_up.specs.BringingUpBeside.{AreSetUpBeside, CanBeKnown}
use Rattle.laws_coming_up.proofs.BesideLemmas.{is_half_open, is_waiting}
use Rattle.laws_coming_up.proofs.ChildLemmas.{empty_not_full, empty_not_spent}

-- ---- IKE_SA_INIT

usable : (spi : ℕ) → spi ≢ 0 → is_bad_spi spi [] ≡ false
usable spi named = ap (λ (b : Bool). b || false) (ne_eqb spi 0 named)

pub new_can_begin : {C : Type 0} (side : Side) (caller : C) (place : ℕ) (entry : Entry) (asking : Fresh) → protecting_entry side.entries place ≡ Some entry
    → asking.spi ≢ 0 → CanBegin place entry asking (made side caller)
new_can_begin {C} side caller place entry asking protects named = record {
  protects = protects;
  few = omega arith;
  serial = omega arith;
  usable = usable asking.spi named;
  not_full = empty_not_full side.start;
  not_spent = empty_not_spent side.start;
}

pub new_can_answer : (request : Octets) (answering : Fresh) → answering.spi ≢ 0 → CanAnswer request answering.spi none_held
new_can_answer request answering named = record {
  few = omega arith;
  place = omega arith;
  serial = omega arith;
  usable = usable answering.spi named;
  first = refl;
}

-- what the law of the first step says
abbrev EachAsks : {C : Type 0} → (C → Meaning) → Type 0
EachAsks {C} meaning_of =
    (place : ℕ) (entry : Entry) (asking : Fresh) (p : Passage C) → IsPassage meaning_of p → p.given ≡ input.Start None place asking → wants_memory p.said ≡ false
    → CanBegin place entry asking p.before → AsksBeside (meaning_of p.before.caller) entry asking p

abbrev EachWaits : Type 0 → Type 0
EachWaits C =
    (meaning : Meaning) (entry : Entry) (asking : Fresh) (p : Passage C) (asks : AsksBeside meaning entry asking p)
    → StillWaits asking asks.request (next_child entry p.before) p.after.machine.held

module _ {C : Type 0} (meaning_of : C → Meaning) (each_asks : EachAsks meaning_of) (each_waits : EachWaits C) (meaning : Meaning) (one other : Side) (a b : C) (place : ℕ)
    (entry : Entry) (asking answering reading : Fresh) (shared : Octets) (p q r : Passage C) (can : CanOpen meaning one place entry asking answering shared)
    (is : IsExchange meaning_of one other a b place asking answering reading p q r) where
  pub can_begin : CanBegin place entry asking p.before
  can_begin =
      subst (λ (s : State C). CanBegin place entry asking s) (sym is.told.new) (new_can_begin one a place entry asking can.protects can.asking_drawn.nonzero)

  pub asked_so : AsksBeside (meaning_of p.before.caller) entry asking p
  asked_so = each_asks place entry asking p is.begins is.told.given is.told.memory can_begin

  pub request_sent : asked_so.request ≡ is.request
  request_sent = subst (λ (said : OutputView). PutsOut said is.request) asked_so.said is.sent

  abbrev pub is_beside : IsExchangeBeside meaning_of place entry asking answering reading p q r
  is_beside = record {
    begins = is.begins;
    told = is.told.given;
    can_begin = can_begin;
    memory = is.told.memory;
    request = is.request;
    sent = is.sent;
    answers = is.answers;
    address = is.asked.address;
    asked = is.asked.given;
    can_answer =
        subst (λ (s : State C). CanAnswer is.request answering.spi s.machine.held) (sym is.asked.new) (new_can_answer is.request answering can.answering_drawn.nonzero);
    memory_there = is.asked.memory;
    response = is.response;
    sent_back = is.sent_back;
    reads = is.reads;
    address_back = is.address;
    given = is.given;
    waits = subst (λ (s : State C). StillWaits asking is.request (next_child entry p.before) s.machine.held) (sym is.waits)
        (subst (λ (octets : Octets). StillWaits asking octets (next_child entry p.before) p.after.machine.held) request_sent
        (each_waits (meaning_of p.before.caller) entry asking p asked_so));
    memory_back = is.memory;
  }

-- ---- both exchanges

same_serial : (x y : ℕ) (sent other : Octets) → Request x sent ≡ Request y other → x ≡ y
same_serial x y sent other is = cc

module _ {C : Type 0} (meaning_of : C → Meaning) (one other : Side) (a b : C) (place : ℕ) (entry : Entry) (asking answering reading : Fresh) (shared : Octets)
    (p q r s t : Passage C) (can : CanOpen (meaning_of a) one place entry asking answering shared)
    (agrees : (meaning_of q.before.caller).shared_secret answering.secret ((meaning_of q.before.caller).public_value asking.secret) ≡ Some shared)
    (one_can : CanProveItself one other (meaning_of a) (meaning_of b)) (other_can : CanProveItself other one (meaning_of b) (meaning_of a))
    (are : AreSetUp meaning_of one other a b place asking answering reading p q r s t)
    (h : HasOpened (meaning_of a) one other a b entry asking answering reading shared p q r)
    (opens : IsExchangeBeside meaning_of place entry asking answering reading p q r)
    (k : OpensBeside meaning_of place entry asking answering reading shared p q r opens) where
  responder_is : s.before ≡ responder_opened other h.opening b
  responder_is = are.then_other ∙ h.responder

  initiator_is : t.before ≡ initiator_opened one h.opening h.auth h.room a
  initiator_is = are.then_one ∙ h.initiator

  first_serial : opens.waits.association.serial ≡ 1
  first_serial = same_serial opens.waits.association.serial 1 k.takes_up.auth h.auth (sym k.takes_up.said ∙ h.told)

  one_known : CanBeKnown t.before.machine.config s.before.machine.config (meaning_of t.before.caller) (meaning_of s.before.caller)
  one_known =
      subst (λ (x : State C). CanBeKnown x.machine.config s.before.machine.config (meaning_of x.caller) (meaning_of s.before.caller)) (sym initiator_is)
      (subst (λ (x : State C). CanBeKnown one.config x.machine.config (meaning_of a) (meaning_of x.caller)) (sym responder_is)
      (record { named = one_can.named; proved = one_can.proved }))

  other_known : CanBeKnown s.before.machine.config t.before.machine.config (meaning_of s.before.caller) (meaning_of t.before.caller)
  other_known =
      subst (λ (x : State C). CanBeKnown s.before.machine.config x.machine.config (meaning_of s.before.caller) (meaning_of x.caller)) (sym initiator_is)
      (subst (λ (x : State C). CanBeKnown x.machine.config one.config (meaning_of x.caller) (meaning_of a)) (sym responder_is)
      (record { named = other_can.named; proved = other_can.proved }))

  half_open_so : AwaitsIdentity (meeting_by asking answering shared opens.request opens.response (next_child entry p.before)) s.before.machine.held
  half_open_so =
      subst (λ (x : State C). AwaitsIdentity (meeting_by asking answering shared opens.request opens.response (next_child entry p.before)) x.machine.held) (sym are.then_other)
      (subst (λ (octets : Octets). AwaitsIdentity (meeting_by asking answering shared opens.request octets (next_child entry p.before)) q.after.machine.held) k.response_is
      (is_half_open (meaning_of q.before.caller) asking answering shared opens.request (next_child entry p.before) q k.answers))

  waits_so : AwaitsAnswer (meeting_by asking answering shared opens.request opens.response (next_child entry p.before)) t.before.machine.held
  waits_so =
      subst (λ (x : State C). AwaitsAnswer (meeting_by asking answering shared opens.request opens.response (next_child entry p.before)) x.machine.held) (sym are.then_one)
      (is_waiting (meaning_of r.before.caller) asking answering reading shared opens.request opens.response (next_child entry p.before) r opens.waits k.takes_up)

  pub set_up_beside : AreSetUpBeside meaning_of place entry asking answering reading shared p q r s t
  set_up_beside = record {
    opens = opens;
    agrees = agrees;
    asking_drawn = can.asking_drawn;
    answering_drawn = can.answering_drawn;
    asking_nonce = are.asking_nonce;
    answering_nonce = are.answering_nonce;
    seal = are.seal;
    accepts = are.accepts;
    asked = λ octets said. are.asked octets (said ∙ ap (λ (n : ℕ). Request n octets) first_serial);
    half_open = half_open_so;
    concludes = are.concludes;
    answered = are.answered;
    waits = waits_so;
    config_stays = ap (λ (x : State C). x.machine.config) (are.then_one ∙ k.takes_up.after);
    caller_stays = ap (λ (x : State C). x.caller) (are.then_one ∙ k.takes_up.after);
    one_known = one_known;
    other_known = other_known;
  }

  pub has_place : HasPlace s.before.table
  has_place =
      subst (λ (x : State C). HasPlace x.table) (sym responder_is) (record { not_full = empty_not_full other.start; not_spent = empty_not_spent other.start })
