-- What is due comes with the first tick that reaches it, over a run.
use Rattle.std.proofs.Common.{◌≡◌, inl, inr, ℕ, Bool, true, false, List, Option, Some, None, max, ap, refl, subst, sym, ◌∙◌}
use Rattle.policy.specs.declared.entry.Entry.{Entry}
use Rattle.sadb.specs.Database.{Database}
use Rattle.effects.specs.Taking.{Meaning}
use Rattle.ike.specs.Faults as faults
use Rattle.ike.specs.Machines.{Machine}
use Rattle.ike.specs.Moments as moments
use Rattle.ike.specs.Moments.{ComesTo, IsTimely, StaysAt}
use Rattle.ike.specs.Soundness.{IsSoundMachine}
use Rattle.ike.specs.Steps as ike
use Rattle.ike.specs.declared.fault.IkeFault.{IkeFault}
use Rattle.ike.specs.declared.output.IkeOutput.{IkeOutput}
use Rattle.ike.specs.declared.output.IkeOutput.TheVariants as made
use Rattle.ike.specs.declared.output.Stepped.{Stepped}
use Rattle.gateway.specs.Histories.{IsTrail, Passage}
use Rattle.gateway.specs.Inputs.{Input}
use Rattle.gateway.specs.Inputs as input
use Rattle.moments.specs.Due.{SomethingComes}
use Rattle.gateway.specs.Moments.{is_moment, tells_moment, Brings, BringsNone, MomentsComeInTime}
use Rattle.gateway.specs.Outputs.{view_of_ike, wants_memory, Clear, Counted, Discarded, Done, Dropped, Dummy, Refused, Repeat, Reply, Request, OutputView, Sealed, Ticked, Up}
use Rattle.gateway.specs.Requests.{for_ike}
use Rattle.gateway.specs.States.{State}
use Rattle.gateway.proofs.HistoryLemmas.{answered, at_place, elsewhere, passage_way, refused, IkeWay, IsOfPacket}
use Rattle.gateway.proofs.MoveLemmas.{wants_none}

-- what is known of a step of the machine
pub record MomentFacts : Type 0 where
  pub timely : (meaning : Meaning) (entries : List Entry) (view : ike.InputView) (old : Machine) (table : Database) (stepped : Stepped) (new : Machine) (new_table : Database) → IsTimely old
      → ike.Steps meaning entries view old table stepped new new_table → IsTimely new
  pub comes : (meaning : Meaning) (entries : List Entry) (moment : ℕ) (old : Machine) (table : Database) (stepped : Stepped) (new : Machine) (new_table : Database)
      → ike.Steps meaning entries (ike.Tick moment) old table stepped new new_table → ComesTo (max old.moment moment) old table stepped new new_table
  pub unrefused : (meaning : Meaning) (entries : List Entry) (moment : ℕ) (machine : Machine) (table : Database) (reason : IkeFault)
      → ike.Refuses meaning entries (ike.Tick moment) machine table reason → faults.is_want_of_memory reason ≡ true
  pub needed : (meaning : Meaning) (entries : List Entry) (moment : ℕ) (machine : Machine) (table : Database) (reason : IkeFault)
      → ike.Refuses meaning entries (ike.Tick moment) machine table reason → SomethingComes (max machine.moment moment) machine.held.associations
  pub stays : (meaning : Meaning) (entries : List Entry) (view : ike.InputView) (old : Machine) (table : Database) (stepped : Stepped) (new : Machine) (new_table : Database) → ike.is_tick view ≡ false
      → IsSoundMachine old table → ike.Steps meaning entries view old table stepped new new_table → StaysAt old stepped new

ticks_in : Option ike.InputView → Bool
ticks_in None = false
ticks_in (Some view) = ike.is_tick view

ticks_by : (given : Input) → ticks_in (for_ike given) ≡ is_moment given
unfolding ticks_in
ticks_by (input.Ike from octets fresh) = refl
ticks_by (input.Start serial entry fresh) = refl
ticks_by (input.Probe serial fresh) = refl
ticks_by (input.DeleteChild serial fresh) = refl
ticks_by (input.DeleteIke serial fresh) = refl
ticks_by (input.Secret secret) = refl
ticks_by (input.Tick moment) = refl
ticks_by (input.Esp octets) = refl
ticks_by (input.Outward packet) = refl
ticks_by (input.Inward packet) = refl

no_tick : (given : Input) (view : ike.InputView) → is_moment given ≡ false → for_ike given ≡ Some view → ike.is_tick view ≡ false
unfolding ticks_in
no_tick given view none is = sym (ap ticks_in is) ∙ ticks_by given ∙ none

told_by : (o : IkeOutput) → tells_moment (view_of_ike o) ≡ moments.tells_moment o
told_by (made.Reply octets closed) = refl
told_by (made.Repeat octets) = refl
told_by (made.Request serial octets) = refl
told_by (made.Counted serial child closed) = refl
told_by (made.Ticked ticked) = refl
told_by made.Done = refl
told_by (made.Dropped fault) = refl

told_of_packet : (s : OutputView) → IsOfPacket s → tells_moment s ≡ false
told_of_packet (Reply octets closed) is = refl
told_of_packet (Repeat octets) is = refl
told_of_packet (Request serial octets) is = refl
told_of_packet (Counted serial child closed) is = refl
told_of_packet (Ticked requests closed) is = absurd is
told_of_packet Done is = refl
told_of_packet (Up child number packet) is = refl
told_of_packet (Dummy child number) is = refl
told_of_packet (Sealed child number octets) is = refl
told_of_packet (Clear packet) is = refl
told_of_packet Discarded is = refl
told_of_packet (Dropped why) is = refl
told_of_packet (Refused why) is = refl

same_view : (one two : ike.InputView) → Some one ≡ Some two → one ≡ two
same_view one two is = cc

no_view : (view : ike.InputView) → None ≡ Some view → ⊥
no_view view is = cc

yes_no : (b : Bool) → b ≡ true → b ≡ false → ⊥
yes_no b one other = cc

module _ {C : Type 0} (facts : MomentFacts) (meaning_of : C → Meaning) where
  come_to : (moment : ℕ) (p : Passage C) → for_ike p.given ≡ Some (ike.Tick moment) → wants_memory p.said ≡ false → IkeWay (meaning_of p.before.caller) (for_ike p.given) p.before p.said p.after
      → Brings (max p.before.machine.moment moment) p
  come_to moment p given had (answered s) =
      let view : s.view ≡ ike.Tick moment = same_view s.view (ike.Tick moment) (sym s.is ∙ given) in
      let steps : ike.Steps (meaning_of p.before.caller) p.before.entries (ike.Tick moment) p.before.machine p.before.table s.stepped p.after.machine p.after.table =
      subst (λ (v : ike.InputView). ike.Steps (meaning_of p.before.caller) p.before.entries v p.before.machine p.before.table s.stepped p.after.machine p.after.table) view s.steps in
      let comes = facts.comes (meaning_of p.before.caller) p.before.entries moment p.before.machine p.before.table s.stepped p.after.machine p.after.table steps in
      record { ticked = comes.ticked; said = s.output ∙ ap view_of_ike comes.said; brings = comes.brings; moment = comes.moment }
  come_to moment p given had (refused r) =
      let view : r.view ≡ ike.Tick moment = same_view r.view (ike.Tick moment) (sym r.is ∙ given) in
      let refuses : ike.Refuses (meaning_of p.before.caller) p.before.entries (ike.Tick moment) p.before.machine p.before.table r.fault =
      subst (λ (v : ike.InputView). ike.Refuses (meaning_of p.before.caller) p.before.entries v p.before.machine p.before.table r.fault) view r.refuses in
      let wants = facts.unrefused (meaning_of p.before.caller) p.before.entries moment p.before.machine p.before.table r.fault refuses in
      absurd (yes_no (faults.is_want_of_memory r.fault) wants (sym (ap wants_memory r.output) ∙ had))
  come_to moment p given had (elsewhere e) = absurd (no_view (ike.Tick moment) (sym e.is ∙ given))

  need_for : (moment : ℕ) (p : Passage C) → for_ike p.given ≡ Some (ike.Tick moment) → wants_memory p.said ≡ true → IkeWay (meaning_of p.before.caller) (for_ike p.given) p.before p.said p.after
      → SomethingComes (max p.before.machine.moment moment) p.before.machine.held.associations
  need_for moment p given had (answered s) = absurd (yes_no (wants_memory p.said) had (ap wants_memory s.output ∙ wants_none s.stepped.output))
  need_for moment p given had (refused r) =
      let view : r.view ≡ ike.Tick moment = same_view r.view (ike.Tick moment) (sym r.is ∙ given) in
      let refuses : ike.Refuses (meaning_of p.before.caller) p.before.entries (ike.Tick moment) p.before.machine p.before.table r.fault =
      subst (λ (v : ike.InputView). ike.Refuses (meaning_of p.before.caller) p.before.entries v p.before.machine p.before.table r.fault) view r.refuses in
      facts.needed (meaning_of p.before.caller) p.before.entries moment p.before.machine p.before.table r.fault refuses
  need_for moment p given had (elsewhere e) = absurd (no_view (ike.Tick moment) (sym e.is ∙ given))

  none_come : (p : Passage C) → is_moment p.given ≡ false → IsSoundMachine p.before.machine p.before.table → IkeWay (meaning_of p.before.caller) (for_ike p.given) p.before p.said p.after → BringsNone p
  none_come p none sound (answered s) =
      let stays = facts.stays (meaning_of p.before.caller) p.before.entries s.view p.before.machine p.before.table s.stepped p.after.machine p.after.table (no_tick p.given s.view none s.is) sound s.steps in
      record {
        said = ap tells_moment s.output ∙ told_by s.stepped.output ∙ stays.said;
        moment = stays.moment;
        stays = inr (record { stepped = s.stepped; said = s.output; stays = stays });
      }
  none_come p none sound (refused r) = record {
    said = ap tells_moment r.output;
    moment = ap (λ (m : Machine). m.moment) r.same;
    stays = inl r.same;
  }
  none_come p none sound (elsewhere e) = record {
    said = told_of_packet p.said e.said;
    moment = ap (λ (m : Machine). m.moment) e.same;
    stays = inl e.same;
  }

  -- nothing is due after a step
  done_after : (p : Passage C) → IsTimely p.before.machine → IkeWay (meaning_of p.before.caller) (for_ike p.given) p.before p.said p.after → IsTimely p.after.machine
  done_after p timely (answered s) = facts.timely (meaning_of p.before.caller) p.before.entries s.view p.before.machine p.before.table s.stepped p.after.machine p.after.table timely s.steps
  done_after p timely (refused r) = subst (λ (m : Machine). IsTimely m) (sym r.same) timely
  done_after p timely (elsewhere e) = subst (λ (m : Machine). IsTimely m) (sym e.same) timely

  pub moments_kept : (old new : State C) (ps : List (Passage C)) → IsTrail meaning_of old ps new → MomentsComeInTime ps
  moments_kept old new ps trail = record {
    done = λ place p there.
        let passage = (at_place meaning_of old new ps place p trail there).passage in
        (passage.sound.timely, done_after p passage.sound.timely (passage_way meaning_of p passage));
    comes = λ place moment p there given had.
        come_to moment p (ap for_ike given) had (passage_way meaning_of p (at_place meaning_of old new ps place p trail there).passage);
    needed = λ place moment p there given had.
        need_for moment p (ap for_ike given) had (passage_way meaning_of p (at_place meaning_of old new ps place p trail there).passage);
    otherwise = λ place p there none. none_come p none (at_place meaning_of old new ps place p trail there).passage.sound.machine (passage_way meaning_of p (at_place meaning_of old new ps place p trail there).passage);
  }
