-- Two gateways that IKE_SA_INIT opened as new ones are gateways that wait so. What is said of them follows
-- from what is said of all.
use Rattle.std.proofs.Common.{◌≡◌, ◌+◌, ℕ, Option, Some, None, ap, arith, refl, subst, sym, ◌∙◌}
use Rattle.std.specs.FinSet as set
use Rattle.std.specs.List.{slice_get}
use Rattle.std.specs.Ordering.{nat_cmp}
use Rattle.base.specs.Octets.{Octets}
use Rattle.exchange.specs.Headers.{keys_of}
use Rattle.exchange.specs.Sealed.{IsSealed}
use Rattle.exchange.specs.declared.child.ChildAnswer.{ChildAnswer}
use Rattle.exchange.specs.declared.child.ChildAnswer.TheVariants as told
use Rattle.exchange.specs.declared.headers.Role.TheVariants.{Initiator, Responder}
use Rattle.exchange.specs.declared.notices.Notice.{Notice}
use Rattle.exchange.specs.declared.notices.Notice.TheVariants.{TsUnacceptable}
use Rattle.sadb.specs.Database.{Database}
use Rattle.sadb.specs.Mirrors.{Mirrors}
use Rattle.association.specs.Issuing.{new_request}
use Rattle.association.specs.declared.purpose.Purpose.TheVariants.{Identify}
use Rattle.children.specs.Terms.{Terms}
use Rattle.children.specs.declared.responding.Response.{Response}
use Rattle.children.specs.declared.responding.Response.TheVariants as response
use Rattle.initial.specs.Answering.{child_answer}
use Rattle.effects.specs.Taking.{Meaning}
use Rattle.gateway.specs.Histories.{IsPassage, Passage}
use Rattle.gateway.specs.States.{IsSoundState, State}
use Rattle.laws_opening.specs.Beside.{next_spi}
use Rattle.laws_opening.specs.Opened.{asked_child, auth_message, holding, initiator_opened, opened, responder_opened, telling, Opening, Side}
use Rattle.laws_coming_up.specs.ComingUp.{answer_message, answer_on, pair_on, table_untouched, table_with, table_without, Accepts, AcceptsWithChild, AcceptsWithoutChild, AreAgreed, Brings, CanBeMade, Concludes, ConcludesWithChild, ConcludesWithoutChild, IsKnownTo, IsSentBy, PoliciesMeet}
use Rattle.laws_coming_up.specs.ComingUpBeside.{adding, answer_in, as_before, becoming, installing, pair_in, releasing, told_on, AcceptsBeside, AreTermsIn, AwaitsAnswer, AwaitsIdentity, CanAskFor, ConcludesBeside, HasPlace, IsKnownIn, Meeting, PolicyMeetsChild}
use Rattle.laws_coming_up.proofs.TableLemmas.{taken_out}
use Rattle.laws_coming_up.proofs.BesideLemmas.{identity_waits}
use Rattle.laws_coming_up.proofs.InitiatorLemmas as initiator
use Rattle.laws_coming_up.proofs.ResponderLemmas as responder
use Rattle.laws_coming_up.proofs.ChildLemmas.{empty_not_full, empty_not_spent}

-- what both have come to
abbrev pub meeting_of : Side → Opening → Meeting
meeting_of one o = record {
  asking = o.asking;
  answering = o.answering;
  keys = o.keys;
  request = o.request;
  response = o.response;
  child = asked_child one o;
}

-- ---- the responder

module _ {C : Type 0} (meaning_of : C → Meaning) (a b : C) (one other : Side) (o : Opening) (auth : Octets) (q : Passage C)
    (before : q.before ≡ responder_opened other o b) where
  abbrev d : Meeting
  d = meeting_of one o

  abbrev half_open : AwaitsIdentity d q.before.machine.held
  half_open = record {
    place = 0;
    association = opened o;
    there = ap (λ (s : State C). slice_get s.machine.held.associations 0) before;
    spi_i = refl;
    spi_r = refl;
    made = 0;
    phase_is = refl;
  }

  agreed_so : (terms : Terms) → AreTermsIn d q.before.machine.config.extended q.before.entries (next_spi q.before.table) terms → AreAgreed one other o terms
  agreed_so terms agreed =
      let there : AreTermsIn d other.config.extended other.entries (other.start + 0) terms =
      subst (λ (s : State C). AreTermsIn d s.machine.config.extended s.entries (next_spi s.table) terms) before agreed in
      record {
        spi_i = there.spi_i;
        spi_r = (let own = there.spi_r in omega (arith, own));
        extended = there.extension;
        narrowed = there.narrowed;
      }

  accepts_so : (answer : ChildAnswer) (table : Database) (answered : Response) (new : Database) → answer ≡ child_answer answered → table ≡ new
      → AcceptsBeside (meaning_of q.before.caller) one.config d answer table q half_open → Accepts (meaning_of b) one other b o answered new q
  accepts_so answer table answered new same same_table g =
      let standing = g.standing in
      record {
        octets = g.octets;
        said = g.said;
        sent = record {
          fresh = g.sent.fresh;
          seal = g.sent.seal;
          sealed =
              subst (λ (x : ChildAnswer). IsSealed (meaning_of b).body_of (keys_of Responder o.keys) g.sent.fresh.seal (answer_in (meaning_of b) other.config d x) g.octets) same
              (subst (λ (s : State C). IsSealed (meaning_of s.caller).body_of (keys_of Responder o.keys) g.sent.fresh.seal
              (answer_in (meaning_of s.caller) s.machine.config d answer) g.octets) before g.sent.sealed);
        };
        up = record {
          association = g.association;
          standing = record {
            serial = standing.serial;
            role_is = standing.role_is;
            spi_i = standing.spi_i;
            spi_r = standing.spi_r;
            established = standing.established;
            incoming = standing.incoming ∙ ap (λ (s : State C). s.machine.config.window) before;
            outgoing = standing.outgoing;
            quiet = standing.quiet;
          };
          state = g.after ∙ ap (λ (s : State C). becoming s 0 g.association table) before ∙ ap (λ (t : Database). holding other g.association t b) same_table;
        };
      }

  module _ (laws : responder.GoesBy (meaning_of a) (meaning_of q.before.caller)) (can : CanBeMade one) (known : IsKnownTo Initiator one other (meaning_of a) (meaning_of b) o)
      (sent : IsSentBy Initiator (meaning_of a) o (auth_message (meaning_of a) one o) auth) (is : IsPassage meaning_of q) (brings : Brings auth q) where
    can_ask : CanAskFor one.config d.child
    can_ask = record { valid = can.config; least = can.start.least; most = (let most = can.start.most in omega (arith, most)) }

    known_so : IsKnownIn Initiator one.config q.before.machine.config (meaning_of a) (meaning_of q.before.caller) d
    known_so =
        subst (λ (s : State C). IsKnownIn Initiator one.config s.machine.config (meaning_of a) (meaning_of s.caller) d) (sym before)
        (record { named = known.named; proved = known.proved })

    has_place : HasPlace q.before.table
    has_place =
        subst (λ (s : State C). HasPlace s.table) (sym before)
        (record { not_full = empty_not_full other.start; not_spent = empty_not_spent other.start })

    pub accepts_with_child : PoliciesMeet other.entries o.entry → AcceptsWithChild (meaning_of b) one other b o q
    accepts_with_child meets =
        let g = responder.accepts_with_child meaning_of (meaning_of a) one.config d auth q laws is brings half_open can_ask known_so
        (record { fresh = sent.fresh; seal = sent.seal; sealed = sent.sealed }) (subst (λ (s : State C). PolicyMeetsChild s.entries d.child) (sym before) meets) has_place in
        record {
          terms = g.terms;
          agreed = agreed_so g.terms g.agreed;
          room = g.room;
          accepts = accepts_so (told_on q.before.machine.config.extended g.terms) (adding q.before.table (pair_in Responder q.before.machine.config d 1 g.terms) g.room)
              (answer_on other o g.terms) (table_with other.start (pair_on Responder other o g.terms) g.room)
              (ap (λ (s : State C). told_on s.machine.config.extended g.terms) before)
              (ap (λ (s : State C). adding s.table (pair_in Responder s.machine.config d 1 g.terms) g.room) before) g.accepts;
        }

    pub accepts_without_child : ¬ PoliciesMeet other.entries o.entry → AcceptsWithoutChild (meaning_of b) one other b o q
    accepts_without_child cannot =
        let g = responder.accepts_without_child meaning_of (meaning_of a) one.config d auth q laws is brings half_open can_ask known_so
        (record { fresh = sent.fresh; seal = sent.seal; sealed = sent.sealed })
        (λ meets. cannot (subst (λ (s : State C). PolicyMeetsChild s.entries d.child) before meets)) in
        record {
          room = g.room;
          accepts = accepts_so (told.Notice TsUnacceptable) (as_before q.before.table g.room) (response.Refused TsUnacceptable) (table_untouched other.start g.room) refl
              (ap (λ (s : State C). as_before s.table g.room) before) g.accepts;
        }

-- a gateway that is so and is sound was made as one can be
pub responder_can_be : {C : Type 0} (other : Side) (o : Opening) (b : C) (s : State C) → s ≡ responder_opened other o b → IsSoundState s → CanBeMade other
responder_can_be {C} other o b s is sound =
    let here : IsSoundState (responder_opened other o b) = subst (λ (x : State C). IsSoundState x) is sound in record { config = here.machine.config; start = here.table.start }

-- ---- the initiator

module _ {C : Type 0} (meaning_of : C → Meaning) (a b : C) (one other : Side) (o : Opening) (auth : Octets) (room : ℕ) (octets : Octets) (r : Passage C)
    (before : r.before ≡ initiator_opened one o auth room a) where
  abbrev waits : AwaitsAnswer (meeting_of one o) r.before.machine.held
  waits = record {
    place = 0;
    association = telling one o auth;
    there = ap (λ (s : State C). slice_get s.machine.held.associations 0) before;
    spi_i = refl;
    spi_r = refl;
    phase_is = refl;
    asked = new_request auth Identify 0;
    outstanding = identity_waits (new_request auth Identify 0);
  }

  concludes_so : (serial : Option ℕ) (table : Database) (child : Option ℕ) (new : Database) → serial ≡ child → table ≡ new
      → ConcludesBeside other.config (meeting_of one o) serial table r waits → Concludes one other a o child new r
  concludes_so serial table child new same same_table g =
      let standing = g.standing in
      let concludes : Concludes one other a o serial new r = record {
        said = g.said;
        up = record {
          association = g.association;
          standing = record {
            serial = standing.serial;
            role_is = standing.role_is;
            spi_i = standing.spi_i;
            spi_r = standing.spi_r;
            established = standing.established;
            incoming = standing.incoming ∙ ap (λ (s : State C). s.machine.config.window) before;
            outgoing = standing.outgoing;
            quiet = standing.quiet;
          };
          state = g.after ∙ ap (λ (s : State C). becoming s 0 g.association table) before ∙ ap (λ (t : Database). holding one g.association t a) same_table;
        };
      } in
      subst (λ (n : Option ℕ). Concludes one other a o n new r) same concludes

  -- the one SPI that was reserved is reserved no more
  none_reserved : set.remove (set.insert (set.empty {R = nat_cmp}) one.start) one.start ≡ set.empty
  none_reserved = taken_out set.empty one.start (set.contains-empty nat_cmp one.start)

  module _ (laws : initiator.EndsBy (meaning_of b) (meaning_of r.before.caller)) (can : CanBeMade other)
      (known : IsKnownTo Responder other one (meaning_of b) (meaning_of a) o) (is : IsPassage meaning_of r) (brings : Brings octets r) where
    known_back : IsKnownIn Responder other.config r.before.machine.config (meaning_of b) (meaning_of r.before.caller) (meeting_of one o)
    known_back =
        subst (λ (s : State C). IsKnownIn Responder other.config s.machine.config (meaning_of b) (meaning_of s.caller) (meeting_of one o)) (sym before)
        (record { named = known.named; proved = known.proved })

    terms_so : (terms : Terms) → AreAgreed one other o terms → AreTermsIn (meeting_of one o) other.config.extended other.entries other.start terms
    terms_so terms agreed = record {
      spi_i = agreed.spi_i;
      spi_r = agreed.spi_r;
      least = (let own = agreed.spi_r in let least = can.start.least in omega (arith, own, least));
      most = (let own = agreed.spi_r in let most = can.start.most in omega (arith, own, most));
      extension = agreed.extended;
      narrowed = agreed.narrowed;
    }

    pub concludes_with_child : (terms : Terms) → AreAgreed one other o terms
        → IsSentBy Responder (meaning_of b) o (answer_message (meaning_of b) other o (answer_on other o terms)) octets → ConcludesWithChild one other a o terms r
    concludes_with_child terms agreed sent =
        let g = initiator.concludes_with_child meaning_of (meaning_of b) other.config (meeting_of one o) octets r laws is brings waits can.config known_back
        other.config.extended other.entries other.start terms (terms_so terms agreed) (record { fresh = sent.fresh; seal = sent.seal; sealed = sent.sealed }) in
        record {
          room = g.room;
          concludes = concludes_so (Some r.before.table.next)
              (installing r.before.table one.start (pair_in Initiator r.before.machine.config (meeting_of one o) 1 terms) g.room)
              (Some 1) (table_with one.start (pair_on Initiator one o terms) g.room)
              (ap (λ (s : State C). Some s.table.next) before)
              (ap (λ (s : State C). installing s.table one.start (pair_in Initiator s.machine.config (meeting_of one o) 1 terms) g.room) before
              ∙ ap (λ (x : set.FinSet nat_cmp). record (table_with one.start (pair_on Initiator one o terms) g.room) { reserved = x }) none_reserved)
              g.concludes;
        }

    pub concludes_without_child : (notice : Notice) → IsSentBy Responder (meaning_of b) o (answer_message (meaning_of b) other o (response.Refused notice)) octets
        → ConcludesWithoutChild one other a o r
    concludes_without_child notice sent =
        let g = initiator.concludes_without_child meaning_of (meaning_of b) other.config (meeting_of one o) octets r laws is brings waits can.config known_back notice
        (record { fresh = sent.fresh; seal = sent.seal; sealed = sent.sealed }) in
        record {
          room = g.room;
          concludes = concludes_so None (releasing r.before.table one.start g.room) None (table_without one.start g.room) refl
              (ap (λ (s : State C). releasing s.table one.start g.room) before
              ∙ ap (λ (x : set.FinSet nat_cmp). record (table_without one.start g.room) { reserved = x }) none_reserved)
              g.concludes;
        }

-- what one end sends by its pair the other receives by its own
pub mirrored : (one other : Side) (o : Opening) (terms : Terms) → Mirrors (pair_on Initiator one o terms) (pair_on Responder other o terms)
mirrored one other o terms = record { inward = refl; outward = refl; extension = refl; local = refl; remote = refl }

-- a gateway that is so and is sound was made as one can be
pub initiator_can_be : {C : Type 0} (one : Side) (o : Opening) (auth : Octets) (room : ℕ) (a : C) (s : State C) → s ≡ initiator_opened one o auth room a → IsSoundState s
    → CanBeMade one
initiator_can_be {C} one o auth room a s is sound =
    let here : IsSoundState (initiator_opened one o auth room a) = subst (λ (x : State C). IsSoundState x) is sound in record { config = here.machine.config; start = here.table.start }
