-- The worked run of a world begins with two new gateways that bring a tunnel up.
use Rattle.std.proofs.Common.{◌≡◌, ◌≢◌, ◌≤◌, ◌∷◌, inl, inr, ℕ, zero, suc, false, List, [], None, Some, slice_get, map, ap, arith, refl, subst, sym, ◌∙◌}
use Rattle.std.specs.List.{slice_set}
use Rattle.std.specs.Prelude.{replicate}
use Rattle.base.specs.declared.address.Address.TheVariants as address
use Rattle.policy.specs.Decisions.{local_side}
use Rattle.policy.specs.Points.{HasPorts, HoldsPoint, IsNonempty}
use Rattle.policy.specs.declared.entry.Entry.{Entry}
use Rattle.suite.specs.declared.fresh.Fresh.{Fresh}
use Rattle.wire.specs.Messages.{Spells, SpellsPlainly}
use Rattle.wire.specs.declared.message.Message.{Message}
use Rattle.association.specs.Phases.{keys_in}
use Rattle.association.specs.declared.phase.Association.{Association}
use Rattle.effects.specs.Taking.{Meaning}
use Rattle.ike.specs.Starting.{protecting_entry}
use Rattle.gateway.specs.Histories.{IsPassage, Passage}
use Rattle.base.specs.Octets.{Octets}
use Rattle.ike.specs.Moves.{HasSeal}
use Rattle.gateway.specs.Inputs.{Event}
use Rattle.gateway.specs.Inputs as input
use Rattle.gateway.specs.Outputs.{wants_memory, Counted, OutputView, Reply, Request}
use Rattle.gateway.specs.States.{IsSoundState, State}
use Rattle.gateway.specs.Steps.{Traces}
use Rattle.gateway.specs.WorldHistories.{passage_at, Happening, IsWorldTrail}
use Rattle.gateway.specs.Worlds.{gateway_at, other_end, storing, with_gateway, Stored, TakesEvent, WorldState}
use Rattle.gateway.specs.declared.world.stored.End.{End}
use Rattle.gateway.specs.declared.world.stored.End.TheVariants.{A, B}
use Rattle.laws_two_ends.specs.WorkedRecords.{fresh_of, worked_record}
use Rattle.laws_two_ends.specs.WorldRecords.{associations_at}
use Rattle.laws_two_ends.specs.WorkedRuns.{comes_to, config_at, events_of, new_ends, outputs_of, run_meaning, IsRunFromNewGateways}
use Rattle.laws_opening.specs.Exchanged.{asking_message}
use Rattle.laws_opening.specs.Opened.{Side}
use Rattle.laws_opening.specs.Opening.{Answers, Asks, CanOpen, IsAsked, IsToldToBegin, PutsOut}
use Rattle.laws_opening.specs.Worked.{first_entry, worked_side}
use Rattle.laws_coming_up.specs.WorkedTunnel.{IsWorkedTunnel}
use Rattle.laws_coming_up.specs.BringingUp.{AreSetUp, CanProveItself}
use Rattle.laws_coming_up.specs.BringingUpBeside.{AreSetUpBeside}
use Rattle.laws_coming_up.specs.ComingUp.{Brings, PoliciesMeet}
use Rattle.laws_coming_up.specs.ComingUpBeside.{HasPlace}
use Rattle.laws_coming_up.proofs.StepLemmas.{NoFault, OneMessage}
use Rattle.laws_coming_up.proofs.ToldLemmas.{has_place_there, set_up_told}

-- ---- a step of the world is one of its end, and leaves the other as it was

module _ {C : Type 0} (meaning_of : C → Meaning) where
  abbrev Happens : Happening C → Type 0
  Happens h = TakesEvent meaning_of h.event h.before h.said h.after

  put_at : (end : End) (gateway : State C) (stored : Stored) (world : WorldState C) → gateway_at end (with_gateway end gateway stored world) ≡ gateway
  put_at A gateway stored world = refl
  put_at B gateway stored world = refl

  its_passage : (end : End) (h : Happening C) → h.event.end ≡ end → Happens h → IsPassage meaning_of (passage_at end h)
  its_passage end h is happens =
      let stored : Stored = storing h.event.end h.said happens.trace happens.gateway h.before.stored in
      let leads : gateway_at end h.after ≡ happens.gateway =
      ap (λ (w : WorldState C). gateway_at end w) happens.content
      ∙ ap (λ (e : End). gateway_at end (with_gateway e happens.gateway stored h.before)) is
      ∙ put_at end happens.gateway stored h.before in
      let traces : Traces (meaning_of (gateway_at end h.before).caller) h.event.input (gateway_at end h.before) h.said happens.trace happens.gateway =
      subst (λ (e : End). Traces (meaning_of (gateway_at e h.before).caller) h.event.input (gateway_at e h.before) h.said happens.trace happens.gateway) is happens.traces in
      record {
        sound = subst (λ (e : End). IsSoundState (gateway_at e h.before)) is happens.sound;
        steps = record {
          trace = happens.trace;
          traces = subst (λ (g : State C). Traces (meaning_of (gateway_at end h.before).caller) h.event.input (gateway_at end h.before) h.said happens.trace g)
              (sym leads) traces;
        };
      }

  a_stays : (h : Happening C) → h.event.end ≡ B → Happens h → h.after.a ≡ h.before.a
  a_stays h is happens =
      ap (λ (w : WorldState C). w.a) happens.content
      ∙ ap (λ (e : End). (with_gateway e happens.gateway (storing h.event.end h.said happens.trace happens.gateway h.before.stored) h.before).a) is

  b_stays : (h : Happening C) → h.event.end ≡ A → Happens h → h.after.b ≡ h.before.b
  b_stays h is happens =
      ap (λ (w : WorldState C). w.b) happens.content
      ∙ ap (λ (e : End). (with_gateway e happens.gateway (storing h.event.end h.said happens.trace happens.gateway h.before.stored) h.before).b) is

-- ---- the policies meet

without_ports : ¬ HasPorts 0
without_ports (inl is) = absurd (omega (arith, is))
without_ports (inr is) = absurd (omega (arith, is))

some_point : IsNonempty (HoldsPoint (local_side first_entry))
some_point = record {
  point = record { protocol = 0; address = address.V4 0; port = None };
  inside = record {
    point = record { protocol = omega arith; address = omega arith; port = without_ports };
    protocol = inl refl;
    address = (omega arith, omega arith);
    port = (refl, refl);
  };
}

they_meet : PoliciesMeet (worked_side B).entries first_entry
they_meet = record {
  place = 0;
  entry = first_entry;
  chosen = inl (record {
    there = refl;
    holds = record { protects = refl; remote = (some_point, λ p held. held); local = (some_point, λ p held. held) };
    before = λ k other less there. absurd (omega (arith, less));
  });
}

-- ---- the first five steps

-- what the laws of the first two steps say
abbrev EachAsks : Type 0 → Type 0
EachAsks C =
    (side : Side) (caller : C) (place : ℕ) (entry : Entry) (asking : Fresh) (p : Passage C) → IsPassage (λ (x : C). run_meaning) p
    → IsToldToBegin side caller place asking p → protecting_entry side.entries place ≡ Some entry → asking.spi ≢ 0 → Asks run_meaning side caller asking entry p

abbrev EachAnswers : Type 0 → Type 0
EachAnswers C =
    (side : Side) (caller : C) (asking answering : Fresh) (shared request : Octets) (q : Passage C) → IsPassage (λ (x : C). run_meaning) q
    → IsAsked side caller request answering q → SpellsPlainly (asking_message run_meaning asking) request → asking.spi ≢ 0 → answering.spi ≢ 0
    → run_meaning.shared_secret answering.secret (run_meaning.public_value asking.secret) ≡ Some shared
    → Answers run_meaning side caller asking answering shared request q

module _ {C : Type 0} (a b : C) (one_message : OneMessage) (no_fault : NoFault) (plain : (m : Message) (b : Octets) → SpellsPlainly m b → Spells m b) (each_asks : EachAsks C)
    (each_answers : EachAnswers C) (run : IsRunFromNewGateways a b) where
  abbrev means : C → Meaning
  means = λ _. run_meaning

  can : CanOpen run_meaning (worked_side A) 0 first_entry (fresh_of 1) (fresh_of 2) (replicate 32 0)
  can = record {
    protects = refl;
    asking_drawn = record { nonzero = (run.fresh 1 (omega arith) (omega arith)).named; secret = (run.fresh 1 (omega arith) (omega arith)).secret };
    answering_drawn = record { nonzero = (run.fresh 2 (omega arith) (omega arith)).named; secret = (run.fresh 2 (omega arith) (omega arith)).secret };
    agrees = refl;
  }

  sealing : (number : ℕ) → 1 ≤ number → number ≤ 8 → HasSeal (fresh_of number)
  sealing number least most = record { octets = (run.fresh number least most).seal_octets; many = (run.fresh number least most).seal_long }

  same_request : (one other : Octets) → Request 1 one ≡ Request 1 other → one ≡ other
  same_request one other is = cc

  same_reply : (one other : Octets) → Reply one None ≡ Reply other None → one ≡ other
  same_reply one other is = cc

  -- these octets come at this step
  brought : (end : End) (octets : Octets) (number : ℕ) → 1 ≤ number → number ≤ 8 → (h : Happening C) → h.event ≡ comes_to end octets number → wants_memory h.said ≡ false
      → Brings octets (passage_at end h)
  brought end octets number least most h came memory = record {
    from = (config_at (other_end end)).own.address;
    fresh = fresh_of number;
    seal = sealing number least most;
    given = ap (λ (e : Event). e.input) came;
    memory = memory;
  }

  same_happening : (x y : Happening C) → Some x ≡ Some y → x ≡ y
  same_happening x y is = cc

  one_there : (x y : Association) (place : ℕ) → slice_get (x ∷ []) place ≡ Some y → x ≡ y
  one_there x y zero is = cc
  one_there x y (suc place) is = absurd cc

  keyed_so : (x new : Association) (place : ℕ) (xs : List Association) → xs ≡ x ∷ [] → slice_get xs place ≡ Some new → keys_in new.phase ≡ Some worked_record
      → keys_in x.phase ≡ Some worked_record
  keyed_so x new place xs alone stands keyed =
      ap (λ (a : Association). keys_in a.phase) (one_there x new place (subst (λ (ys : List Association). slice_get ys place ≡ Some new) alone stands)) ∙ keyed

  record IsBeside (p q r s t : Passage C) : Type 0 where
    set_up : AreSetUpBeside means 0 first_entry (fresh_of 1) (fresh_of 2) (fresh_of 3) (replicate 32 0) p q r s t
    place : HasPlace s.before.table

  -- they are gateways that may hold more, by the keys that the one is known to have
  beside_so : (p q : Passage C) (k : Happening C) (s t : Passage C) → CanProveItself (worked_side A) (worked_side B) run_meaning run_meaning
      → CanProveItself (worked_side B) (worked_side A) run_meaning run_meaning → k.event.end ≡ A → k ≡ run.initiator_step
      → AreSetUp means (worked_side A) (worked_side B) a b 0 (fresh_of 1) (fresh_of 2) (fresh_of 3) p q (passage_at A k) s t → IsBeside p q (passage_at A k) s t
  beside_so p q k s t one_proves other_proves at_a third_is are =
      let asks = each_asks (worked_side A) a 0 first_entry (fresh_of 1) p are.opens.begins are.opens.told can.protects can.asking_drawn.nonzero in
      let sent : asks.request ≡ are.opens.request = subst (λ (said : OutputView). PutsOut said are.opens.request) asks.said are.opens.sent in
      let answers = each_answers (worked_side B) b (fresh_of 1) (fresh_of 2) (replicate 32 0) are.opens.request q are.opens.answers are.opens.asked
      (subst (λ (octets : Octets). SpellsPlainly (asking_message run_meaning (fresh_of 1)) octets) sent asks.spelled) can.asking_drawn.nonzero can.answering_drawn.nonzero refl in
      let c = run.as_initiator in
      let stands : slice_get (associations_at k.event.end k.after) c.place ≡ Some c.new =
      subst (λ (x : Happening C). slice_get (associations_at x.event.end x.after) c.place ≡ Some c.new) (sym third_is) c.stands in
      let at_one : slice_get (associations_at A k.after) c.place ≡ Some c.new =
      subst (λ (e : End). slice_get (associations_at e k.after) c.place ≡ Some c.new) at_a stands in
      let keyed : (x : Association) → associations_at A k.after ≡ slice_set (associations_at A k.before) 0 x → keys_in x.phase ≡ Some worked_record =
      λ x is. keyed_so x c.new c.place (associations_at A k.after) (is ∙ ap (λ (st : State C). slice_set st.machine.held.associations 0 x) (are.opens.waits ∙ asks.after)) at_one c.keyed in
      record {
        set_up = set_up_told one_message no_fault plain run_meaning (worked_side A) (worked_side B) a b 0 first_entry (fresh_of 1) (fresh_of 2) (fresh_of 3) (replicate 32 0) p q
            (passage_at A k) s t can one_proves other_proves are asks answers keyed;
        place = has_place_there one_message no_fault plain run_meaning (worked_side A) (worked_side B) a b 0 first_entry (fresh_of 1) (fresh_of 2) (fresh_of 3) (replicate 32 0) p q
            (passage_at A k) s t can one_proves other_proves are asks answers keyed;
      }

  comes_up_so : (hs : List (Happening C)) → map (λ (h : Happening C). h.event) hs ≡ events_of run.exchanged → map (λ (h : Happening C). h.said) hs ≡ outputs_of run.exchanged
      → slice_get hs 2 ≡ Some run.initiator_step → IsWorldTrail means (new_ends a b) hs run.last → IsWorkedTunnel a b
  comes_up_so [] takes says third_is trail = absurd cc
  comes_up_so (h ∷ []) takes says third_is trail = absurd cc
  comes_up_so (h ∷ g ∷ []) takes says third_is trail = absurd cc
  comes_up_so (h ∷ g ∷ k ∷ []) takes says third_is trail = absurd cc
  comes_up_so (h ∷ g ∷ k ∷ l ∷ []) takes says third_is trail = absurd cc
  comes_up_so (h ∷ g ∷ k ∷ l ∷ m ∷ rest) takes says third_is trail =
      let told : h.event ≡ record { end = A; input = input.Start None 0 (fresh_of 1) } = cc in
      let came : g.event ≡ comes_to B run.exchanged.init_request 2 = cc in
      let came_back : k.event ≡ comes_to A run.exchanged.init_response 3 = cc in
      let came_again : l.event ≡ comes_to B run.exchanged.auth_request 4 = cc in
      let came_last : m.event ≡ comes_to A run.exchanged.auth_response 5 = cc in
      let asked : h.said ≡ Request 1 run.exchanged.init_request = cc in
      let answered : g.said ≡ Reply run.exchanged.init_response None = cc in
      let identified : k.said ≡ Request 1 run.exchanged.auth_request = cc in
      let accepted : l.said ≡ Reply run.exchanged.auth_response None = cc in
      let counted : m.said ≡ Counted 1 (Some 1) None = cc in
      let at_h : h.event.end ≡ A = ap (λ (e : Event). e.end) told in
      let at_g : g.event.end ≡ B = ap (λ (e : Event). e.end) came in
      let at_k : k.event.end ≡ A = ap (λ (e : Event). e.end) came_back in
      let at_l : l.event.end ≡ B = ap (λ (e : Event). e.end) came_again in
      let at_m : m.event.end ≡ A = ap (λ (e : Event). e.end) came_last in
      let first : Happens means h = trail.1 in
      let second : Happens means g = trail.2.1 in
      let third : Happens means k = trail.2.2.1 in
      let fourth : Happens means l = trail.2.2.2.1 in
      let fifth : Happens means m = trail.2.2.2.2.1 in
      let between : g.before ≡ h.after = trail.2.0 in
      let later : k.before ≡ g.after = trail.2.2.0 in
      let then : l.before ≡ k.after = trail.2.2.2.0 in
      let last : m.before ≡ l.after = trail.2.2.2.2.0 in
      let one_proves : CanProveItself (worked_side A) (worked_side B) run_meaning run_meaning = record { named = refl; proved = λ octets are. refl } in
      let other_proves : CanProveItself (worked_side B) (worked_side A) run_meaning run_meaning = record { named = refl; proved = λ octets are. refl } in
      let set_up : AreSetUp means (worked_side A) (worked_side B) a b 0 (fresh_of 1) (fresh_of 2) (fresh_of 3) (passage_at A h) (passage_at B g) (passage_at A k) (passage_at B l)
      (passage_at A m) = record {
        opens = record {
          begins = its_passage means A h at_h first;
          told = record {
            new = ap (λ (w : WorldState C). w.a) trail.0;
            given = ap (λ (e : Event). e.input) told;
            memory = ap wants_memory asked;
          };
          request = run.exchanged.init_request;
          sent = subst (λ (said : OutputView). PutsOut said run.exchanged.init_request) (sym asked) refl;
          answers = its_passage means B g at_g second;
          asked = record {
            new = ap (λ (w : WorldState C). w.b) between ∙ b_stays means h at_h first ∙ ap (λ (w : WorldState C). w.b) trail.0;
            address = (config_at A).own.address;
            given = ap (λ (e : Event). e.input) came;
            memory = ap wants_memory answered;
          };
          response = run.exchanged.init_response;
          sent_back = subst (λ (said : OutputView). PutsOut said run.exchanged.init_response) (sym answered) refl;
          reads = its_passage means A k at_k third;
          waits = ap (λ (w : WorldState C). w.a) later ∙ a_stays means g at_g second ∙ ap (λ (w : WorldState C). w.a) between;
          address = (config_at B).own.address;
          given = ap (λ (e : Event). e.input) came_back;
          memory = ap wants_memory identified;
        };
        asking_nonce = (run.fresh 1 (omega arith) (omega arith)).nonce_octets;
        answering_nonce = (run.fresh 2 (omega arith) (omega arith)).nonce_octets;
        seal = sealing 3 (omega arith) (omega arith);
        accepts = its_passage means B l at_l fourth;
        then_other = ap (λ (w : WorldState C). w.b) then ∙ b_stays means k at_k third ∙ ap (λ (w : WorldState C). w.b) later;
        asked = λ octets said.
            subst (λ (x : Octets). Brings x (passage_at B l)) (same_request run.exchanged.auth_request octets (sym identified ∙ said))
            (brought B run.exchanged.auth_request 4 (omega arith) (omega arith) l came_again (ap wants_memory accepted));
        concludes = its_passage means A m at_m fifth;
        then_one = ap (λ (w : WorldState C). w.a) last ∙ a_stays means l at_l fourth ∙ ap (λ (w : WorldState C). w.a) then;
        answered = λ octets said.
            subst (λ (x : Octets). Brings x (passage_at A m)) (same_reply run.exchanged.auth_response octets (sym accepted ∙ said))
            (brought A run.exchanged.auth_response 5 (omega arith) (omega arith) m came_last (ap wants_memory counted));
      } in
      let beside = beside_so (passage_at A h) (passage_at B g) k (passage_at B l) (passage_at A m) one_proves other_proves at_k (same_happening k run.initiator_step third_is) set_up in
      record {
        p = passage_at A h;
        q = passage_at B g;
        r = passage_at A k;
        s = passage_at B l;
        t = passage_at A m;
        shared = replicate 32 0;
        can_be = run.can_be;
        can = can;
        one_proves = one_proves;
        other_proves = other_proves;
        set_up = set_up;
        meet = they_meet;
        beside = beside.set_up;
        place = beside.place;
      }

  pub is_met : IsWorkedTunnel a b
  is_met = comes_up_so run.happenings run.takes run.says run.reads run.trail
