-- Which requests are processed over a run, and how what comes again is answered.
use Rattle.std.proofs.Common.{◌≡◌, ◌⊎◌, ◌↔◌, inl, inr, ℕ, zero, suc, ◌+◌, ◌<◌, ◌≤◌, Bool, true, false, List, length, Option, Some, None, ap, refl, subst, sym, ◌∙◌, arith}
use Rattle.std.specs.FinMap as map
use Rattle.std.specs.FinSet as set
use Rattle.std.specs.List.{slice_get}
use Rattle.std.proofs.lemmas.Bool.Decides.{eqb_tells, leb_tells}
use Rattle.std.proofs.lemmas.Option.{slice_get_within}
use Rattle.base.specs.Octets.{Octets}
use Rattle.policy.specs.declared.entry.Entry.{Entry}
use Rattle.requests.specs.Incoming.{IsLeftBehind}
use Rattle.requests.specs.Numbers.{HasNumber, LacksNumber}
use Rattle.sadb.specs.Database.{Database, IsAsBefore}
use Rattle.association.specs.declared.fault.MessageFault.TheVariants.{Forgotten}
use Rattle.association.specs.declared.phase.Association.{Association}
use Rattle.association.specs.declared.phase.HalfOpen.{HalfOpen}
use Rattle.association.specs.declared.phase.Phase.TheVariants as phase
use Rattle.effects.specs.Requests.{IsSoundlyHeld, KeepsWindow}
use Rattle.effects.specs.Taking.{Meaning}
use Rattle.ike.specs.Faults as faults
use Rattle.ike.specs.Machines.{association_of, Machine}
use Rattle.ike.specs.Outputs as quiet
use Rattle.ike.specs.Requests as asked
use Rattle.ike.specs.Requests.{first_requests, ComesIntoEffect, HoldsInEffect, IsAdmitted, IsAnswered, IsFirstReplyKept, IsGivenUp, IsHeldThrough, IsInitialDatagram, IsNewRequest, IsOfOctets, IsReplyKept, OpensAsRequest, PutsOneIntoEffect}
use Rattle.ike.specs.Soundness.{IsSoundMachine}
use Rattle.ike.specs.Steps as ike
use Rattle.ike.specs.declared.fault.IkeFault.{IkeFault}
use Rattle.ike.specs.declared.fault.IkeFault.TheVariants.{Message}
use Rattle.ike.specs.declared.output.IkeOutput.{IkeOutput}
use Rattle.ike.specs.declared.output.IkeOutput.TheVariants as made
use Rattle.ike.specs.declared.output.Stepped.{Stepped}
use Rattle.gateway.specs.Histories.{IsPassage, IsTrail, Passage}
use Rattle.gateway.specs.Inputs.{Input}
use Rattle.gateway.specs.Outputs.{view_of_ike, wants_memory, Clear, Counted, Discarded, Done, Dropped, Dummy, IsQuiet, Refused, Repeat, Reply, Request, OutputView, Sealed, Ticked, Up}
use Rattle.gateway.specs.Requests.{for_ike, AnswersBy, IsDatagram, IsFirstReply, IsInitial, IsNew, IsOverAt, IsReplied, KeepsHalfOpen, MakesHalfOpen, OnlySays, Opens, RepeatsAreAnswered, RepeatsInitial, RepeatsRequest, RequestsTakeEffect, TakesEffect, TakesOne, TookEffect}
use Rattle.gateway.specs.States.{association_in, State}
use Rattle.gateway.specs.Steps.{Steps}
use Rattle.gateway.specs.declared.fault.Reason.{Reason}
use Rattle.gateway.specs.declared.fault.Reason.TheVariants as reason
use Rattle.gateway.proofs.HistoryLemmas.{answered, at_place, elsewhere, exists, held_between, passage_way, refused, state_at, through, way_begun, Facts, IkeWay, IsAt, IsOfPacket, Through}
use Rattle.gateway.proofs.MoveLemmas.{wants_none}

-- ---- what is known of a step of the machine

pub record RequestFacts : Type 0 where
  pub steps : Facts
  pub alone : (meaning : Meaning) (entries : List Entry) (view : ike.InputView) (old : Machine) (table : Database) (stepped : Stepped) (new : Machine) (new_table : Database) (serial : ℕ) (a b : Association) (number : ℕ)
      → IsSoundMachine old table → ike.Steps meaning entries view old table stepped new new_table → IsHeldThrough serial old.held new.held a b → ComesIntoEffect number a b → IsNewRequest meaning view a number × IsAnswered stepped number b
  pub always : (meaning : Meaning) (entries : List Entry) (view : ike.InputView) (old : Machine) (table : Database) (stepped : Stepped) (new : Machine) (new_table : Database) (serial : ℕ) (a : Association) (number : ℕ)
      → IsSoundMachine old table → ike.Steps meaning entries view old table stepped new new_table → association_of serial old.held.associations ≡ Some a → IsNewRequest meaning view a number → HoldsInEffect new.held serial number
  pub repeated : (meaning : Meaning) (entries : List Entry) (view : ike.InputView) (old : Machine) (table : Database) (stepped : Stepped) (new : Machine) (new_table : Database) (serial : ℕ) (a : Association) (number : ℕ) (reply : Octets)
      → IsSoundMachine old table → ike.Steps meaning entries view old table stepped new new_table → association_of serial old.held.associations ≡ Some a → OpensAsRequest meaning view a number
      → map.get a.incoming.kept number ≡ Some reply → asked.OnlySays (made.Repeat reply) old table stepped new new_table
  pub forgotten : (meaning : Meaning) (entries : List Entry) (view : ike.InputView) (old : Machine) (table : Database) (stepped : Stepped) (new : Machine) (new_table : Database) (serial : ℕ) (a : Association) (number : ℕ)
      → IsSoundMachine old table → ike.Steps meaning entries view old table stepped new new_table → association_of serial old.held.associations ≡ Some a → OpensAsRequest meaning view a number
      → HasNumber a.incoming.in_effect number → map.get a.incoming.kept number ≡ None → asked.OnlySays (made.Dropped (Message Forgotten)) old table stepped new new_table
  pub first : (meaning : Meaning) (entries : List Entry) (view : ike.InputView) (old : Machine) (table : Database) (stepped : Stepped) (new : Machine) (new_table : Database) (serial : ℕ) (a : Association) (opened : HalfOpen)
      → IsSoundMachine old table → ike.Steps meaning entries view old table stepped new new_table → association_of serial old.held.associations ≡ Some a → a.phase ≡ phase.HalfOpen opened
      → IsOfOctets view opened.request → asked.OnlySays (made.Repeat opened.reply) old table stepped new new_table
  pub admitted : (meaning : Meaning) (entries : List Entry) (view : ike.InputView) (old : Machine) (table : Database) (stepped : Stepped) (new : Machine) (new_table : Database) (serial : ℕ) (b : Association) (opened : HalfOpen)
      → IsSoundMachine old table → ike.Steps meaning entries view old table stepped new new_table → association_of serial old.held.associations ≡ None → association_of serial new.held.associations ≡ Some b
      → b.phase ≡ phase.HalfOpen opened → IsAdmitted view opened stepped
  pub unrefused : (meaning : Meaning) (entries : List Entry) (view : ike.InputView) (machine : Machine) (table : Database) (why : IkeFault) (serial : ℕ) (a : Association) (number : ℕ)
      → IsSoundMachine machine table → association_of serial machine.held.associations ≡ Some a → OpensAsRequest meaning view a number → ike.Refuses meaning entries view machine table why → faults.is_want_of_memory why ≡ true
  pub unrefused_first : (meaning : Meaning) (entries : List Entry) (view : ike.InputView) (machine : Machine) (table : Database) (why : IkeFault) (serial : ℕ) (a : Association) (opened : HalfOpen)
      → association_of serial machine.held.associations ≡ Some a → a.phase ≡ phase.HalfOpen opened → IsOfOctets view opened.request → ike.Refuses meaning entries view machine table why → faults.is_want_of_memory why ≡ true
  pub otherwise : (meaning : Meaning) (entries : List Entry) (view : ike.InputView) (old : Machine) (table : Database) (stepped : Stepped) (new : Machine) (new_table : Database) (serial : ℕ) (a : Association) (number : ℕ)
      → IsSoundMachine old table → ike.Steps meaning entries view old table stepped new new_table → association_of serial old.held.associations ≡ Some a → OpensAsRequest meaning view a number
      → quiet.IsQuiet stepped.output ⊎ IsNewRequest meaning view a number
  pub replied : (meaning : Meaning) (entries : List Entry) (view : ike.InputView) (old : Machine) (table : Database) (stepped : Stepped) (new : Machine) (new_table : Database) (reply : Octets) (closed : Option ℕ)
      → IsSoundMachine old table → ike.Steps meaning entries view old table stepped new new_table → stepped.output ≡ made.Reply reply closed → PutsOneIntoEffect old.held new.held ⊎ IsInitialDatagram view
  pub only : (meaning : Meaning) (entries : List Entry) (view : ike.InputView) (old : Machine) (table : Database) (stepped : Stepped) (new : Machine) (new_table : Database) (reply : Octets)
      → IsSoundMachine old table → ike.Steps meaning entries view old table stepped new new_table → stepped.output ≡ made.Repeat reply → IsReplyKept meaning view old.held reply ⊎ IsFirstReplyKept view old.held reply
  pub window : (meaning : Meaning) (entries : List Entry) (view : ike.InputView) (old : Machine) (table : Database) (stepped : Stepped) (new : Machine) (new_table : Database) (serial : ℕ) (a b : Association)
      → IsSoundMachine old table → ike.Steps meaning entries view old table stepped new new_table → IsHeldThrough serial old.held new.held a b → KeepsWindow old.config.window a b
  pub gone : (meaning : Meaning) (entries : List Entry) (view : ike.InputView) (old : Machine) (table : Database) (stepped : Stepped) (new : Machine) (new_table : Database) (serial : ℕ) (a : Association)
      → IsSoundMachine old table → ike.Steps meaning entries view old table stepped new new_table → association_of serial old.held.associations ≡ Some a → association_of serial new.held.associations ≡ None → IsGivenUp view old a
  pub still : (meaning : Meaning) (entries : List Entry) (view : ike.InputView) (old : Machine) (table : Database) (stepped : Stepped) (new : Machine) (new_table : Database)
      → ike.Steps meaning entries view old table stepped new new_table → quiet.IsQuiet stepped.output → (new ≡ old) × (new_table ≡ table)
  -- what is kept is not below the window, and only once IKE_AUTH is done
  pub soundly : (machine : Machine) (table : Database) (serial : ℕ) (a : Association) → IsSoundMachine machine table → association_of serial machine.held.associations ≡ Some a → IsSoundlyHeld a

yes_no : (b : Bool) → b ≡ true → b ≡ false → ⊥
yes_no true one two = cc
yes_no false one two = cc

none_some : {T : Type 0} (x : T) → None ≡ Some x → ⊥
none_some x is = cc

-- ---- one step

none_new : (meaning : Meaning) (given : Option ike.InputView) (a : Association) (number : ℕ) → given ≡ None → IsNew meaning given a number → ⊥
none_new meaning given a number none is = subst (λ (g : Option ike.InputView). IsNew meaning g a number) none is

none_opens : (meaning : Meaning) (given : Option ike.InputView) (a : Association) (number : ℕ) → given ≡ None → Opens meaning given a number → ⊥
none_opens meaning given a number none is = subst (λ (g : Option ike.InputView). Opens meaning g a number) none is

none_datagram : (given : Option ike.InputView) (octets : Octets) → given ≡ None → IsDatagram given octets → ⊥
none_datagram given octets none is = subst (λ (g : Option ike.InputView). IsDatagram g octets) none is

-- a new request opens, and its number is not in effect
new_opens : (meaning : Meaning) (view : ike.InputView) (a : Association) (number : ℕ) → IsNewRequest meaning view a number → OpensAsRequest meaning view a number × LacksNumber a.incoming.in_effect number
new_opens meaning (ike.Message from octets fresh) a number is = ((is.exchange, is.opens), is.fresh.not_in_effect)
new_opens meaning (ike.Start serial entry fresh) a number is = absurd is
new_opens meaning (ike.Order what fresh) a number is = absurd is
new_opens meaning (ike.Secret secret) a number is = absurd is
new_opens meaning (ike.Tick moment) a number is = absurd is

memory_only : (s : OutputView) (why : IkeFault) → s ≡ Refused (reason.Ike why) → wants_memory s ≡ false → faults.is_want_of_memory why ≡ true → ⊥
memory_only s why is no_want want = yes_no (faults.is_want_of_memory why) want (sym (ap wants_memory is) ∙ no_want)

same_held : (a b : Association) → Some a ≡ Some b → a ≡ b
same_held a b is = cc

same_view : (view other : ike.InputView) → Some view ≡ Some other → view ≡ other
same_view view other is = cc

quiet_said : (o : IkeOutput) → quiet.IsQuiet o → IsQuiet (view_of_ike o)
quiet_said (made.Reply octets closed) is = absurd is
quiet_said (made.Repeat octets) is = tt
quiet_said (made.Request serial octets) is = absurd is
quiet_said (made.Counted serial child closed) is = absurd is
quiet_said (made.Ticked ticked) is = absurd is
quiet_said made.Done is = absurd is
quiet_said (made.Dropped fault) is = tt

reply_made : (o : IkeOutput) (reply : Octets) (closed : Option ℕ) → view_of_ike o ≡ Reply reply closed → o ≡ made.Reply reply closed
reply_made (made.Reply octets other) reply closed is = cc
reply_made (made.Repeat octets) reply closed is = absurd cc
reply_made (made.Request serial octets) reply closed is = absurd cc
reply_made (made.Counted serial child other) reply closed is = absurd cc
reply_made (made.Ticked ticked) reply closed is = absurd cc
reply_made made.Done reply closed is = absurd cc
reply_made (made.Dropped fault) reply closed is = absurd cc

repeat_made : (o : IkeOutput) (reply : Octets) → view_of_ike o ≡ Repeat reply → o ≡ made.Repeat reply
repeat_made (made.Reply octets other) reply is = absurd cc
repeat_made (made.Repeat octets) reply is = cc
repeat_made (made.Request serial octets) reply is = absurd cc
repeat_made (made.Counted serial child other) reply is = absurd cc
repeat_made (made.Ticked ticked) reply is = absurd cc
repeat_made made.Done reply is = absurd cc
repeat_made (made.Dropped fault) reply is = absurd cc

refused_reply : (why : Reason) (reply : Octets) (closed : Option ℕ) → Refused why ≡ Reply reply closed → ⊥
refused_reply why reply closed is = cc

refused_repeat : (why : Reason) (reply : Octets) → Refused why ≡ Repeat reply → ⊥
refused_repeat why reply is = cc

same_size : (a b : Association) → b ≡ a → b.incoming.size ≡ a.incoming.size
same_size a b same = ap (λ (x : Association). x.incoming.size) same

module _ {C : Type 0} (facts : RequestFacts) (meaning_of : C → Meaning) (p : Passage C) (is : IsPassage meaning_of p) where
  abbrev pub meaning : Meaning
  meaning = meaning_of p.before.caller

  abbrev Ways : Type 0
  Ways = IkeWay meaning (for_ike p.given) p.before p.said p.after

  way : Ways
  way = passage_way meaning_of p is

  unmoved : (serial : ℕ) (a b : Association) (number : ℕ) → p.after.machine ≡ p.before.machine → IsHeldThrough serial p.before.machine.held p.after.machine.held a b → ComesIntoEffect number a b → ⊥
  unmoved serial a b number same held comes =
      let one : b ≡ a = same_held b a (sym held.after ∙ ap (λ (m : Machine). association_of serial m.held.associations) same ∙ held.before) in
      yes_no (set.contains a.incoming.in_effect number) (ap (λ (x : Association). set.contains x.incoming.in_effect number) (sym one) ∙ comes.after) comes.before

  -- what came into effect, and how it was answered
  pub record Brought (b a : Association) (number : ℕ) : Type 0 where
    pub new_one : IsNew meaning (for_ike p.given) a number
    pub reply : Octets
    pub answered_by : AnswersBy p reply
    pub kept : map.get b.incoming.kept number ≡ Some reply

  brings_by : (serial : ℕ) (a b : Association) (number : ℕ) → Ways → IsHeldThrough serial p.before.machine.held p.after.machine.held a b → ComesIntoEffect number a b → Brought b a number
  brings_by serial a b number (answered w) held comes =
      let by = facts.alone meaning p.before.entries w.view p.before.machine p.before.table w.stepped p.after.machine p.after.table serial a b number is.sound.machine w.steps held comes in
      record {
        new_one = subst (λ (g : Option ike.InputView). IsNew meaning g a number) (sym w.is) by.0;
        reply = by.1.reply;
        answered_by = record { closed = by.1.closed; said = w.output ∙ ap view_of_ike by.1.said };
        kept = by.1.kept;
      }
  brings_by serial a b number (refused w) held comes = absurd (unmoved serial a b number w.same held comes)
  brings_by serial a b number (elsewhere w) held comes = absurd (unmoved serial a b number w.same held comes)

  pub brings : (serial : ℕ) (a b : Association) (number : ℕ) → IsHeldThrough serial p.before.machine.held p.after.machine.held a b → ComesIntoEffect number a b → Brought b a number
  brings serial a b number held comes = brings_by serial a b number way held comes

  takes_by : (serial : ℕ) (a : Association) (number : ℕ) → Ways → wants_memory p.said ≡ false → association_in p.before serial ≡ Some a → IsNew meaning (for_ike p.given) a number → TakesEffect serial number p
  takes_by serial a number (answered w) memory stands new_one =
      let one : IsNewRequest meaning w.view a number = subst (λ (g : Option ike.InputView). IsNew meaning g a number) w.is new_one in
      let holds = facts.always meaning p.before.entries w.view p.before.machine p.before.table w.stepped p.after.machine p.after.table serial a number is.sound.machine w.steps stands one in
      record {
        old = a;
        new = holds.association;
        held = record { before = stands; after = holds.there };
        comes = record { before = (new_opens meaning w.view a number one).1; after = holds.in_effect };
      }
  takes_by serial a number (refused w) memory stands new_one =
      let one : IsNewRequest meaning w.view a number = subst (λ (g : Option ike.InputView). IsNew meaning g a number) w.is new_one in
      absurd (memory_only p.said w.fault w.output memory
      (facts.unrefused meaning p.before.entries w.view p.before.machine p.before.table w.fault serial a number is.sound.machine stands (new_opens meaning w.view a number one).0 w.refuses))
  takes_by serial a number (elsewhere w) memory stands new_one = absurd (none_new meaning (for_ike p.given) a number w.is new_one)

  pub takes : (serial : ℕ) (a : Association) (number : ℕ) → wants_memory p.said ≡ false → association_in p.before serial ≡ Some a → IsNew meaning (for_ike p.given) a number → TakesEffect serial number p
  takes serial a number memory stands new_one = takes_by serial a number way memory stands new_one

  only_says : (o : IkeOutput) (stepped : Stepped) → p.said ≡ view_of_ike stepped.output → asked.OnlySays o p.before.machine p.before.table stepped p.after.machine p.after.table → OnlySays (view_of_ike o) p
  only_says o stepped output only = record {
    said = output ∙ ap view_of_ike only.said;
    unchanged = is.steps.traces.kept ∙ (λ i. record (p.before) { machine = only.machine i; table = only.pairs i });
  }

  repeats_by : (serial : ℕ) (a : Association) (number : ℕ) (reply : Octets) → Ways → wants_memory p.said ≡ false → association_in p.before serial ≡ Some a → map.get a.incoming.kept number ≡ Some reply
      → Opens meaning (for_ike p.given) a number → OnlySays (Repeat reply) p
  repeats_by serial a number reply (answered w) memory stands kept opens =
      let one : OpensAsRequest meaning w.view a number = subst (λ (g : Option ike.InputView). Opens meaning g a number) w.is opens in
      only_says (made.Repeat reply) w.stepped w.output
      (facts.repeated meaning p.before.entries w.view p.before.machine p.before.table w.stepped p.after.machine p.after.table serial a number reply is.sound.machine w.steps stands one kept)
  repeats_by serial a number reply (refused w) memory stands kept opens =
      let one : OpensAsRequest meaning w.view a number = subst (λ (g : Option ike.InputView). Opens meaning g a number) w.is opens in
      absurd (memory_only p.said w.fault w.output memory (facts.unrefused meaning p.before.entries w.view p.before.machine p.before.table w.fault serial a number is.sound.machine stands one w.refuses))
  repeats_by serial a number reply (elsewhere w) memory stands kept opens = absurd (none_opens meaning (for_ike p.given) a number w.is opens)

  pub repeats : (serial : ℕ) (a : Association) (number : ℕ) (reply : Octets) → wants_memory p.said ≡ false → association_in p.before serial ≡ Some a → map.get a.incoming.kept number ≡ Some reply
      → Opens meaning (for_ike p.given) a number → OnlySays (Repeat reply) p
  repeats serial a number reply memory stands kept opens = repeats_by serial a number reply way memory stands kept opens

  forgets_by : (serial : ℕ) (a : Association) (number : ℕ) → Ways → wants_memory p.said ≡ false → association_in p.before serial ≡ Some a → HasNumber a.incoming.in_effect number → map.get a.incoming.kept number ≡ None
      → Opens meaning (for_ike p.given) a number → OnlySays (Dropped (reason.Ike (Message Forgotten))) p
  forgets_by serial a number (answered w) memory stands has none opens =
      let one : OpensAsRequest meaning w.view a number = subst (λ (g : Option ike.InputView). Opens meaning g a number) w.is opens in
      only_says (made.Dropped (Message Forgotten)) w.stepped w.output
      (facts.forgotten meaning p.before.entries w.view p.before.machine p.before.table w.stepped p.after.machine p.after.table serial a number is.sound.machine w.steps stands one has none)
  forgets_by serial a number (refused w) memory stands has none opens =
      let one : OpensAsRequest meaning w.view a number = subst (λ (g : Option ike.InputView). Opens meaning g a number) w.is opens in
      absurd (memory_only p.said w.fault w.output memory (facts.unrefused meaning p.before.entries w.view p.before.machine p.before.table w.fault serial a number is.sound.machine stands one w.refuses))
  forgets_by serial a number (elsewhere w) memory stands has none opens = absurd (none_opens meaning (for_ike p.given) a number w.is opens)

  pub forgets : (serial : ℕ) (a : Association) (number : ℕ) → wants_memory p.said ≡ false → association_in p.before serial ≡ Some a → HasNumber a.incoming.in_effect number → map.get a.incoming.kept number ≡ None
      → Opens meaning (for_ike p.given) a number → OnlySays (Dropped (reason.Ike (Message Forgotten))) p
  forgets serial a number memory stands has none opens = forgets_by serial a number way memory stands has none opens

  first_by : (serial : ℕ) (a : Association) (opened : HalfOpen) → Ways → wants_memory p.said ≡ false → association_in p.before serial ≡ Some a → a.phase ≡ phase.HalfOpen opened → IsDatagram (for_ike p.given) opened.request
      → OnlySays (Repeat opened.reply) p
  first_by serial a opened (answered w) memory stands half given =
      let one : IsOfOctets w.view opened.request = subst (λ (g : Option ike.InputView). IsDatagram g opened.request) w.is given in
      only_says (made.Repeat opened.reply) w.stepped w.output
      (facts.first meaning p.before.entries w.view p.before.machine p.before.table w.stepped p.after.machine p.after.table serial a opened is.sound.machine w.steps stands half one)
  first_by serial a opened (refused w) memory stands half given =
      let one : IsOfOctets w.view opened.request = subst (λ (g : Option ike.InputView). IsDatagram g opened.request) w.is given in
      absurd (memory_only p.said w.fault w.output memory (facts.unrefused_first meaning p.before.entries w.view p.before.machine p.before.table w.fault serial a opened stands half one w.refuses))
  first_by serial a opened (elsewhere w) memory stands half given = absurd (none_datagram (for_ike p.given) opened.request w.is given)

  pub repeats_first : (serial : ℕ) (a : Association) (opened : HalfOpen) → wants_memory p.said ≡ false → association_in p.before serial ≡ Some a → a.phase ≡ phase.HalfOpen opened → IsDatagram (for_ike p.given) opened.request
      → OnlySays (Repeat opened.reply) p
  repeats_first serial a opened memory stands half given = first_by serial a opened way memory stands half given

  -- the request and the reply that made an IKE SA half open
  pub record Admitted (opened : HalfOpen) : Type 0 where
    pub request : IsDatagram (for_ike p.given) opened.request
    pub said : p.said ≡ Reply opened.reply None

  admits_by : (serial : ℕ) (b : Association) (opened : HalfOpen) → Ways → association_in p.before serial ≡ None → association_in p.after serial ≡ Some b → b.phase ≡ phase.HalfOpen opened → Admitted opened
  admits_by serial b opened (answered w) none there half =
      let by = facts.admitted meaning p.before.entries w.view p.before.machine p.before.table w.stepped p.after.machine p.after.table serial b opened is.sound.machine w.steps none there half in
      record { request = subst (λ (g : Option ike.InputView). IsDatagram g opened.request) (sym w.is) by.request; said = w.output ∙ ap view_of_ike by.said }
  admits_by serial b opened (refused w) none there half = absurd (none_some b (sym none ∙ sym (ap (λ (m : Machine). association_of serial m.held.associations) w.same) ∙ there))
  admits_by serial b opened (elsewhere w) none there half = absurd (none_some b (sym none ∙ sym (ap (λ (m : Machine). association_of serial m.held.associations) w.same) ∙ there))

  pub admits : (serial : ℕ) (b : Association) (opened : HalfOpen) → association_in p.before serial ≡ None → association_in p.after serial ≡ Some b → b.phase ≡ phase.HalfOpen opened → Admitted opened
  admits serial b opened none there half = admits_by serial b opened way none there half

  -- what was processed was delivered
  delivered_by : (serial : ℕ) (a b : Association) (number : ℕ) → Ways → IsHeldThrough serial p.before.machine.held p.after.machine.held a b → ComesIntoEffect number a b → wants_memory p.said ≡ false
  delivered_by serial a b number (answered w) held comes = ap wants_memory w.output ∙ wants_none w.stepped.output
  delivered_by serial a b number (refused w) held comes = absurd (unmoved serial a b number w.same held comes)
  delivered_by serial a b number (elsewhere w) held comes = absurd (unmoved serial a b number w.same held comes)

  pub delivered : (serial : ℕ) (a b : Association) (number : ℕ) → IsHeldThrough serial p.before.machine.held p.after.machine.held a b → ComesIntoEffect number a b → wants_memory p.said ≡ false
  delivered serial a b number held comes = delivered_by serial a b number way held comes

  otherwise_by : (serial : ℕ) (a : Association) (number : ℕ) → Ways → wants_memory p.said ≡ false → association_in p.before serial ≡ Some a → Opens meaning (for_ike p.given) a number
      → ¬ IsNew meaning (for_ike p.given) a number → IsQuiet p.said × (p.after ≡ p.before)
  otherwise_by serial a number (answered w) memory stands opens old_one =
      let one : OpensAsRequest meaning w.view a number = subst (λ (g : Option ike.InputView). Opens meaning g a number) w.is opens in
      elim (facts.otherwise meaning p.before.entries w.view p.before.machine p.before.table w.stepped p.after.machine p.after.table serial a number is.sound.machine w.steps stands one) [
        | inl still_one ↦
            let same = facts.still meaning p.before.entries w.view p.before.machine p.before.table w.stepped p.after.machine p.after.table w.steps still_one in (
              subst (λ (x : OutputView). IsQuiet x) (sym w.output) (quiet_said w.stepped.output still_one),
              is.steps.traces.kept ∙ (λ i. record (p.before) { machine = same.0 i; table = same.1 i }),
            )
        | inr new_one ↦ absurd (old_one (subst (λ (g : Option ike.InputView). IsNew meaning g a number) (sym w.is) new_one))
      ]
  otherwise_by serial a number (refused w) memory stands opens old_one =
      let one : OpensAsRequest meaning w.view a number = subst (λ (g : Option ike.InputView). Opens meaning g a number) w.is opens in
      absurd (memory_only p.said w.fault w.output memory (facts.unrefused meaning p.before.entries w.view p.before.machine p.before.table w.fault serial a number is.sound.machine stands one w.refuses))
  otherwise_by serial a number (elsewhere w) memory stands opens old_one = absurd (none_opens meaning (for_ike p.given) a number w.is opens)

  pub otherwise : (serial : ℕ) (a : Association) (number : ℕ) → wants_memory p.said ≡ false → association_in p.before serial ≡ Some a → Opens meaning (for_ike p.given) a number
      → ¬ IsNew meaning (for_ike p.given) a number → IsQuiet p.said × (p.after ≡ p.before)
  otherwise serial a number memory stands opens old_one = otherwise_by serial a number way memory stands opens old_one

  replies_by : (reply : Octets) (closed : Option ℕ) → Ways → p.said ≡ Reply reply closed → TakesOne p ⊎ IsInitial (for_ike p.given)
  replies_by reply closed (answered w) said_so =
      elim (facts.replied meaning p.before.entries w.view p.before.machine p.before.table w.stepped p.after.machine p.after.table reply closed is.sound.machine w.steps (reply_made w.stepped.output reply closed (sym w.output ∙ said_so))) [
        | inl put ↦ inl (record { serial = put.serial; number = put.number; takes = record { old = put.before; new = put.after; held = put.held; comes = put.comes } })
        | inr initial ↦ inr (subst (λ (g : Option ike.InputView). IsInitial g) (sym w.is) initial)
      ]
  replies_by reply closed (refused w) said_so = absurd (refused_reply (reason.Ike w.fault) reply closed (sym w.output ∙ said_so))
  replies_by reply closed (elsewhere w) said_so = absurd (subst (λ (x : OutputView). IsOfPacket x) said_so w.said)

  pub replies : (reply : Octets) (closed : Option ℕ) → p.said ≡ Reply reply closed → TakesOne p ⊎ IsInitial (for_ike p.given)
  replies reply closed said_so = replies_by reply closed way said_so

  only_by : (reply : Octets) → Ways → p.said ≡ Repeat reply → RepeatsRequest meaning_of reply p ⊎ RepeatsInitial reply p
  only_by reply (answered w) said_so =
      elim (facts.only meaning p.before.entries w.view p.before.machine p.before.table w.stepped p.after.machine p.after.table reply is.sound.machine w.steps (repeat_made w.stepped.output reply (sym w.output ∙ said_so))) [
        | inl kept ↦ inl (record {
          serial = kept.serial;
          number = kept.number;
          association = kept.association;
          there = kept.there;
          kept = kept.kept;
          opens = subst (λ (g : Option ike.InputView). Opens meaning g kept.association kept.number) (sym w.is) kept.opens;
        })
        | inr first ↦ inr (record {
          serial = first.serial;
          request = first.opened.request;
          kept = record { a = first.association; there = first.there; opened = first.opened; half_open = first.half_open; same_request = refl; same_reply = first.same };
          delivered = subst (λ (g : Option ike.InputView). IsDatagram g first.opened.request) (sym w.is) first.request;
        })
      ]
  only_by reply (refused w) said_so = absurd (refused_repeat (reason.Ike w.fault) reply (sym w.output ∙ said_so))
  only_by reply (elsewhere w) said_so = absurd (subst (λ (x : OutputView). IsOfPacket x) said_so w.said)

  pub only : (reply : Octets) → p.said ≡ Repeat reply → RepeatsRequest meaning_of reply p ⊎ RepeatsInitial reply p
  only reply said_so = only_by reply way said_so

  window_by : (serial : ℕ) (a b : Association) → Ways → association_in p.before serial ≡ Some a → association_in p.after serial ≡ Some b → KeepsWindow p.before.machine.config.window a b
  window_by serial a b (answered w) before after =
      facts.window meaning p.before.entries w.view p.before.machine p.before.table w.stepped p.after.machine p.after.table serial a b is.sound.machine w.steps (record { before = before; after = after })
  window_by serial a b (refused w) before after = inl (same_size a b (same_held b a (sym after ∙ ap (λ (m : Machine). association_of serial m.held.associations) w.same ∙ before)))
  window_by serial a b (elsewhere w) before after = inl (same_size a b (same_held b a (sym after ∙ ap (λ (m : Machine). association_of serial m.held.associations) w.same ∙ before)))

  pub window : (serial : ℕ) (a b : Association) → association_in p.before serial ≡ Some a → association_in p.after serial ≡ Some b → KeepsWindow p.before.machine.config.window a b
  window serial a b before after = window_by serial a b way before after

  gone_by : (serial : ℕ) (a : Association) → Ways → association_in p.before serial ≡ Some a → association_in p.after serial ≡ None → IsOverAt (for_ike p.given) p.before.machine a
  gone_by serial a (answered w) before after =
      subst (λ (g : Option ike.InputView). IsOverAt g p.before.machine a) (sym w.is)
      (facts.gone meaning p.before.entries w.view p.before.machine p.before.table w.stepped p.after.machine p.after.table serial a is.sound.machine w.steps before after)
  gone_by serial a (refused w) before after = absurd (none_some a (sym after ∙ ap (λ (m : Machine). association_of serial m.held.associations) w.same ∙ before))
  gone_by serial a (elsewhere w) before after = absurd (none_some a (sym after ∙ ap (λ (m : Machine). association_of serial m.held.associations) w.same ∙ before))

  pub gone : (serial : ℕ) (a : Association) → association_in p.before serial ≡ Some a → association_in p.after serial ≡ None → IsOverAt (for_ike p.given) p.before.machine a
  gone serial a before after = gone_by serial a way before after

  pub begins : (serial : ℕ) (a : Association) → association_in p.before serial ≡ None → association_in p.after serial ≡ Some a → a.incoming ≡ first_requests a.role
  begins serial a none there = (way_begun facts.steps meaning (for_ike p.given) p.before p.said p.after serial a is.sound.machine way none there).1

-- ---- the whole run

one_datagram : (given : Option ike.InputView) (one two : Octets) → IsDatagram given one → IsDatagram given two → one ≡ two
one_datagram None one two is also = absurd is
one_datagram (Some (ike.Message from octets fresh)) one two is also = sym is ∙ also
one_datagram (Some (ike.Start serial entry fresh)) one two is also = absurd is
one_datagram (Some (ike.Order what fresh)) one two is also = absurd is
one_datagram (Some (ike.Secret secret)) one two is also = absurd is
one_datagram (Some (ike.Tick moment)) one two is also = absurd is

same_said : (one two : Octets) (c d : Option ℕ) → Reply one c ≡ Reply two d → one ≡ two
same_said one two c d is = cc

same_opened : (one two : HalfOpen) → phase.HalfOpen one ≡ phase.HalfOpen two → one ≡ two
same_opened one two is = cc

-- what is known of what is refused
abbrev pub RefusalLaw : Type 0 → Type 0
RefusalLaw C = (meaning : Meaning) (given : Input) (why : Reason) (old new : State C) → Steps meaning given old (Refused why) new → (new ≡ record old { table = new.table }) × IsAsBefore old.table new.table

refused_said : (s : OutputView) → wants_memory s ≡ true → (why : Reason) × (s ≡ Refused why)
refused_said (Refused why) want = (why, refl)
refused_said (Reply octets closed) want = absurd cc
refused_said (Repeat octets) want = absurd cc
refused_said (Request serial octets) want = absurd cc
refused_said (Counted serial child closed) want = absurd cc
refused_said (Ticked requests closed) want = absurd cc
refused_said Done want = absurd cc
refused_said (Up child number packet) want = absurd cc
refused_said (Dummy child number) want = absurd cc
refused_said (Sealed child number octets) want = absurd cc
refused_said (Clear packet) want = absurd cc
refused_said Discarded want = absurd cc
refused_said (Dropped why) want = absurd cc

at_most : (i j : ℕ) → i < suc j → i ≤ j
at_most i j less = omega (arith, less)

sum_by : (b : Bool) → (b ≡ true) ⊎ (b ≡ false)
sum_by true = inl refl
sum_by false = inr refl

none_kept : (o : Option Octets) → ((reply : Octets) → o ≡ Some reply → ⊥) → o ≡ None
none_kept None never = refl
none_kept (Some reply) never = absurd (never reply refl)

module _ {C : Type 0} (facts : RequestFacts) (changes_nothing : RefusalLaw C) (meaning_of : C → Meaning) (old new : State C) (ps : List (Passage C)) (trail : IsTrail meaning_of old ps new) where
  at_k : (k : ℕ) (p : Passage C) → slice_get ps k ≡ Some p → IsAt meaning_of old ps k p
  at_k k p there = at_place meaning_of old new ps k p trail there

  sound_k : (k : ℕ) (p : Passage C) → slice_get ps k ≡ Some p → IsSoundMachine (state_at old ps k).machine (state_at old ps k).table
  sound_k k p there = subst (λ (s : State C). IsSoundMachine s.machine s.table) (at_k k p there).before (at_k k p there).passage.sound.machine

  before_k : (k serial : ℕ) (p : Passage C) (a : Association) → slice_get ps k ≡ Some p → association_in p.before serial ≡ Some a → association_in (state_at old ps k) serial ≡ Some a
  before_k k serial p a there stands = ap (λ (s : State C). association_in s serial) (sym (at_k k p there).before) ∙ stands

  after_k : (k serial : ℕ) (p : Passage C) (a : Association) → slice_get ps k ≡ Some p → association_in p.after serial ≡ Some a → association_in (state_at old ps (suc k)) serial ≡ Some a
  after_k k serial p a there stands = ap (λ (s : State C). association_in s serial) (sym (at_k k p there).after) ∙ stands

  -- from before one step to before a later one
  from_before : (i j serial : ℕ) (p q : Passage C) (a b : Association) → i ≤ j → slice_get ps i ≡ Some p → slice_get ps j ≡ Some q → association_in p.before serial ≡ Some a → association_in q.before serial ≡ Some b → Through a b
  from_before i j serial p q a b less there too stands later =
      let within = slice_get_within ps j q too in
      through facts.steps meaning_of old new ps trail i j serial a b less (omega (arith, within)) (sound_k i p there) (before_k i serial p a there stands) (before_k j serial q b too later)

  -- and from after one to before a later one
  from_after : (i j serial : ℕ) (p q : Passage C) (a b : Association) → i < j → slice_get ps i ≡ Some p → slice_get ps j ≡ Some q → association_in p.after serial ≡ Some a → association_in q.before serial ≡ Some b → Through a b
  from_after i j serial p q a b less there too stands later =
      let within = slice_get_within ps j q too in
      let e = exists ps (suc i) (omega (arith, less, within)) in
      through facts.steps meaning_of old new ps trail (suc i) j serial a b (omega (arith, less)) (omega (arith, within)) (sound_k (suc i) e.passage e.there) (after_k i serial p a there stands) (before_k j serial q b too later)

  exactly : (place serial number : ℕ) (p : Passage C) (a : Association) → slice_get ps place ≡ Some p → association_in p.before serial ≡ Some a
      → TakesEffect serial number p ↔ ((wants_memory p.said ≡ false) × IsNew (meaning_of p.before.caller) (for_ike p.given) a number)
  exactly place serial number p a there stands = (
    (λ t. (
      delivered facts meaning_of p (at_k place p there).passage serial t.old t.new number t.held t.comes,
      subst (λ (x : Association). IsNew (meaning_of p.before.caller) (for_ike p.given) x number) (same_held t.old a (sym t.held.before ∙ stands))
          (brings facts meaning_of p (at_k place p there).passage serial t.old t.new number t.held t.comes).new_one,
    )),
    (λ new_one. takes facts meaning_of p (at_k place p there).passage serial a number new_one.0 stands new_one.1),
  )

  answered_so : (place serial number : ℕ) (p : Passage C) → slice_get ps place ≡ Some p → TakesEffect serial number p → IsReplied serial number p
  answered_so place serial number p there t =
      let b = brings facts meaning_of p (at_k place p there).passage serial t.old t.new number t.held t.comes in
      record { reply = b.reply; answers = b.answered_by; association = t.new; there = t.held.after; kept = b.kept }

  never_twice : (i j serial number : ℕ) (p q : Passage C) → i < j → slice_get ps i ≡ Some p → slice_get ps j ≡ Some q → TakesEffect serial number p → TakesEffect serial number q → ⊥
  never_twice i j serial number p q less there too one two =
      let t = from_after i j serial p q one.new two.old less there too one.held.after two.held.before in
      yes_no (set.contains two.old.incoming.in_effect number) (t.follows.in_effect number one.comes.after) two.comes.before

  once : (i j serial number : ℕ) (p q : Passage C) → slice_get ps i ≡ Some p → slice_get ps j ≡ Some q → TakesEffect serial number p → TakesEffect serial number q → i ≡ j
  once i j serial number p q there too one two = elim (eqb_tells i j) [
    | inl (yes_it_is, same) ↦ same
    | inr (no_it_is_not, apart) ↦ elim (leb_tells i j) [
      | inl (at_most, less) ↦ absurd (never_twice i j serial number p q (omega (arith, apart, less)) there too one two)
      | inr (above, more) ↦ absurd (never_twice j i serial number q p more too there two one)
    ]
  ]

  -- what is in effect was so before, or was processed since
  took_at : (j serial number : ℕ) (c b : Association) → j < length ps → association_in (state_at old ps j) serial ≡ Some c → association_in (state_at old ps (suc j)) serial ≡ Some b → ComesIntoEffect number c b
      → (i : ℕ) → i ≤ j → TookEffect ps serial number i (suc j)
  took_at j serial number c b within before after comes i less =
      let e = exists ps j within in
      let at = at_k j e.passage e.there in
      record {
        place = j;
        least = less;
        before = omega arith;
        passage = e.passage;
        there = e.there;
        takes = record {
          old = c;
          new = b;
          held = record { before = ap (λ (s : State C). association_in s serial) at.before ∙ before; after = ap (λ (s : State C). association_in s serial) at.after ∙ after };
          comes = comes;
        };
      }

  later_took : (serial number i j k : ℕ) → j ≤ k → TookEffect ps serial number i j → TookEffect ps serial number i k
  later_took serial number i j k less t = record { place = t.place; least = t.least; before = omega (arith, less, t.before); passage = t.passage; there = t.there; takes = t.takes }

  grown : (i j serial number : ℕ) (a b : Association) → i ≤ j → j ≤ length ps → IsSoundMachine (state_at old ps i).machine (state_at old ps i).table → association_in (state_at old ps i) serial ≡ Some a
      → association_in (state_at old ps j) serial ≡ Some b → HasNumber b.incoming.in_effect number → HasNumber a.incoming.in_effect number ⊎ TookEffect ps serial number i j
  grown i zero serial number a b less within sound stands later has =
      inl (subst (λ (x : Association). HasNumber x.incoming.in_effect number) (same_held b a (sym later ∙ ap (λ n. association_in (state_at old ps n) serial) (omega (arith, less)) ∙ stands)) has)
  grown i (suc j) serial number a b less within sound stands later has = elim (eqb_tells i (suc j)) [
    | inl (yes_it_is, same) ↦
        inl (subst (λ (x : Association). HasNumber x.incoming.in_effect number) (same_held b a (sym later ∙ ap (λ n. association_in (state_at old ps n) serial) (sym same) ∙ stands)) has)
    | inr (no_it_is_not, apart) ↦
        let h = held_between facts.steps meaning_of old new ps trail i j serial a b (omega (arith, less, apart)) (omega (arith, within)) sound stands later in
        elim (sum_by (set.contains h.association.incoming.in_effect number)) [
          | inl had ↦ elim (grown i j serial number a h.association (omega (arith, less, apart)) (omega (arith, within)) sound stands h.there had) [
            | inl before ↦ inl before
            | inr took ↦ inr (later_took serial number i j (suc j) (omega arith) took)
          ]
          | inr lacked ↦ inr (took_at j serial number h.association b (omega (arith, within)) h.there later (record { before = lacked; after = has }) i (omega (arith, less, apart)))
        ]
  ]

  -- from after one step to after that one or a later one
  to_after : (i j serial : ℕ) (p q : Passage C) (a b : Association) (number : ℕ) → i ≤ j → slice_get ps i ≡ Some p → slice_get ps j ≡ Some q → association_in p.after serial ≡ Some a → association_in q.after serial ≡ Some b
      → HasNumber a.incoming.in_effect number → HasNumber b.incoming.in_effect number
  to_after i j serial p q a b number less there too stands later has = elim (eqb_tells i j) [
    | inl (yes_it_is, same) ↦
        let one : a ≡ b = same_held a b (sym (after_k i serial p a there stands) ∙ ap (λ n. association_in (state_at old ps (suc n)) serial) same ∙ after_k j serial q b too later) in
        subst (λ (x : Association). HasNumber x.incoming.in_effect number) one has
    | inr (no_it_is_not, apart) ↦
        let within = slice_get_within ps j q too in
        let e = exists ps (suc i) (omega (arith, less, apart, within)) in
        (through facts.steps meaning_of old new ps trail (suc i) (suc j) serial a b (omega (arith, less)) (omega (arith, within)) (sound_k (suc i) e.passage e.there) (after_k i serial p a there stands) (after_k j serial q b too later)).follows.in_effect number has
  ]

  in_effect : (i j serial number : ℕ) (p q : Passage C) (a b : Association) → i ≤ j → slice_get ps i ≡ Some p → slice_get ps j ≡ Some q → association_in p.before serial ≡ Some a → association_in q.after serial ≡ Some b
      → HasNumber b.incoming.in_effect number ↔ (HasNumber a.incoming.in_effect number ⊎ TookEffect ps serial number i (suc j))
  in_effect i j serial number p q a b less there too stands later = (
    (λ has. let within = slice_get_within ps j q too in
        grown i (suc j) serial number a b (omega (arith, less)) (omega (arith, within)) (sound_k i p there) (before_k i serial p a there stands) (after_k j serial q b too later) has),
    (λ by. elim by [
      | inl had ↦
          let within = slice_get_within ps j q too in
          (through facts.steps meaning_of old new ps trail i (suc j) serial a b (omega (arith, less)) (omega (arith, within)) (sound_k i p there) (before_k i serial p a there stands) (after_k j serial q b too later)).follows.in_effect number had
      | inr took ↦ to_after took.place j serial took.passage q took.takes.new b number (at_most took.place j took.before) took.there too took.takes.held.after later took.takes.comes.after
    ]),
  )

  -- ---- what is remembered

  soundly_k : (k serial : ℕ) (a : Association) → k < length ps → association_in (state_at old ps k) serial ≡ Some a → IsSoundlyHeld a
  soundly_k k serial a within stands =
      let e = exists ps k within in
      facts.soundly (state_at old ps k).machine (state_at old ps k).table serial a (sound_k k e.passage e.there) stands

  still_kept : (x a : Association) (number : ℕ) (reply : Octets) → Through x a → IsSoundlyHeld x → map.get x.incoming.kept number ≡ Some reply → ¬ IsLeftBehind a.incoming number → map.get a.incoming.kept number ≡ Some reply
  still_kept x a number reply t held kept near =
      let size = (t.concluded (held.concluded number reply kept)).size in
      t.follows.remembered number reply (held.in_effect number reply kept) kept
      (λ passed. near (record { later = passed.later; in_effect = passed.in_effect; far = subst (λ n. number + n ≤ passed.later) (sym size) passed.far }))

  remembered : (first place serial number : ℕ) (reply : Octets) (p q : Passage C) (a : Association) → first < place → slice_get ps first ≡ Some p → slice_get ps place ≡ Some q → wants_memory q.said ≡ false
      → IsFirstReply serial number reply p → association_in q.before serial ≡ Some a → ¬ IsLeftBehind a.incoming number → Opens (meaning_of q.before.caller) (for_ike q.given) a number → OnlySays (Repeat reply) q
  remembered first place serial number reply p q a less there too memory (inl (t, by)) stands near opens =
      let within = slice_get_within ps place q too in
      let b = brings facts meaning_of p (at_k first p there).passage serial t.old t.new number t.held t.comes in
      let same : b.reply ≡ reply = same_said b.reply reply b.answered_by.closed by.closed (sym b.answered_by.said ∙ by.said) in
      let on = from_after first place serial p q t.new a less there too t.held.after stands in
      let held : IsSoundlyHeld t.new = soundly_k (suc first) serial t.new (omega (arith, less, within)) (after_k first serial p t.new there t.held.after) in
      repeats facts meaning_of q (at_k place q too).passage serial a number reply memory stands
      (still_kept t.new a number reply on held (b.kept ∙ ap Some same) near) opens
  remembered first place serial number reply p q a less there too memory (inr (c, held_before, kept)) stands near opens =
      let within = slice_get_within ps first p there in
      let on = from_before first place serial p q c a (omega (arith, less)) there too held_before stands in
      let held : IsSoundlyHeld c = soundly_k first serial c within (before_k first serial p c there held_before) in
      repeats facts meaning_of q (at_k place q too).passage serial a number reply memory stands (still_kept c a number reply on held kept near) opens

  kept_now : (place serial number : ℕ) (reply : Octets) (q : Passage C) (a : Association) → slice_get ps place ≡ Some q → wants_memory q.said ≡ false → association_in q.before serial ≡ Some a
      → map.get a.incoming.kept number ≡ Some reply → Opens (meaning_of q.before.caller) (for_ike q.given) a number → OnlySays (Repeat reply) q
  kept_now place serial number reply q a too memory stands kept opens = repeats facts meaning_of q (at_k place q too).passage serial a number reply memory stands kept opens

  forgotten : (place serial number : ℕ) (q : Passage C) (a : Association) → slice_get ps place ≡ Some q → wants_memory q.said ≡ false → association_in q.before serial ≡ Some a → HasNumber a.incoming.in_effect number
      → IsLeftBehind a.incoming number ⊎ (map.get a.incoming.kept number ≡ None) → Opens (meaning_of q.before.caller) (for_ike q.given) a number → OnlySays (Dropped (reason.Ike (Message Forgotten))) q
  forgotten place serial number q a too memory stands has (inl behind) opens =
      let within = slice_get_within ps place q too in
      let held = soundly_k place serial a within (before_k place serial q a too stands) in
      forgets facts meaning_of q (at_k place q too).passage serial a number memory stands has (none_kept (map.get a.incoming.kept number) (λ reply kept. held.near number reply kept behind)) opens
  forgotten place serial number q a too memory stands has (inr none) opens = forgets facts meaning_of q (at_k place q too).passage serial a number memory stands has none opens

  -- ---- requests of IKE_SA_INIT

  again : (place serial : ℕ) (request reply : Octets) (q : Passage C) (a : Association) (opened : HalfOpen) → slice_get ps place ≡ Some q → wants_memory q.said ≡ false → association_in q.before serial ≡ Some a
      → a.phase ≡ phase.HalfOpen opened → opened.request ≡ request → opened.reply ≡ reply → IsDatagram (for_ike q.given) request → OnlySays (Repeat reply) q
  again place serial request reply q a opened too memory stands half asked_so replied_so given =
      subst (λ (o : Octets). OnlySays (Repeat o) q) replied_so
      (repeats_first facts meaning_of q (at_k place q too).passage serial a opened memory stands half (subst (λ (o : Octets). IsDatagram (for_ike q.given) o) (sym asked_so) given))

  initial : (first place serial : ℕ) (request reply : Octets) (p q : Passage C) (a : Association) (opened : HalfOpen) → first < place → slice_get ps first ≡ Some p → slice_get ps place ≡ Some q → wants_memory q.said ≡ false
      → MakesHalfOpen serial request reply p ⊎ KeepsHalfOpen serial request reply p → association_in q.before serial ≡ Some a → a.phase ≡ phase.HalfOpen opened → IsDatagram (for_ike q.given) request → OnlySays (Repeat reply) q
  initial first place serial request reply p q a opened less there too memory (inl m) stands half given =
      let by = admits facts meaning_of p (at_k first p there).passage serial m.a m.opened m.none m.there m.half_open in
      let on = from_after first place serial p q m.a a less there too m.there stands in
      let one : m.opened ≡ opened = same_opened m.opened opened (sym m.half_open ∙ on.opened opened half) in
      again place serial request reply q a opened too memory stands half
      (ap (λ (o : HalfOpen). o.request) (sym one) ∙ one_datagram (for_ike p.given) m.opened.request request by.request m.delivered)
      (ap (λ (o : HalfOpen). o.reply) (sym one) ∙ same_said m.opened.reply reply None None (sym by.said ∙ m.answered)) given
  initial first place serial request reply p q a opened less there too memory (inr k) stands half given =
      let on = from_before first place serial p q k.a a (omega (arith, less)) there too k.there stands in
      let one : k.opened ≡ opened = same_opened k.opened opened (sym k.half_open ∙ on.opened opened half) in
      again place serial request reply q a opened too memory stands half (ap (λ (o : HalfOpen). o.request) (sym one) ∙ k.same_request) (ap (λ (o : HalfOpen). o.reply) (sym one) ∙ k.same_reply) given

  undelivered : (place : ℕ) (p : Passage C) → slice_get ps place ≡ Some p → wants_memory p.said ≡ true → (p.after ≡ record (p.before) { table = p.after.table }) × IsAsBefore p.before.table p.after.table
  undelivered place p there want =
      let is = (at_k place p there).passage in
      let why = refused_said p.said want in
      changes_nothing (meaning_of p.before.caller) p.given why.0 p.before p.after (subst (λ (x : OutputView). Steps (meaning_of p.before.caller) p.given p.before x p.after) why.1 is.steps)

  pub requests_kept : RequestsTakeEffect meaning_of ps
  requests_kept = record {
    exactly = λ place serial number p a. exactly place serial number p a;
    answered = λ place serial number p. answered_so place serial number p;
    once = λ i j serial number p q. once i j serial number p q;
    in_effect = λ i j serial number p q a b. in_effect i j serial number p q a b;
    begun = λ place serial p a there none stands. begins facts meaning_of p (at_k place p there).passage serial a none stands;
    window = λ place serial p a b there before after. window facts meaning_of p (at_k place p there).passage serial a b before after;
    otherwise = λ place serial number p a there memory stands opens old_one. otherwise facts meaning_of p (at_k place p there).passage serial a number memory stands opens old_one;
    undelivered = λ place p. undelivered place p;
    replies = λ place p reply closed there said_so. replies facts meaning_of p (at_k place p there).passage reply closed said_so;
  }

  pub repeats_kept : RepeatsAreAnswered meaning_of ps
  repeats_kept = record {
    remembered = λ first place serial number reply p q a. remembered first place serial number reply p q a;
    kept = λ place serial number reply q a. kept_now place serial number reply q a;
    forgotten = λ place serial number q a. forgotten place serial number q a;
    initial = λ first place serial request reply p q a opened. initial first place serial request reply p q a opened;
    initial_kept = λ place serial request reply q there memory k. again place serial request reply q k.a k.opened there memory k.there k.half_open k.same_request k.same_reply;
    only = λ place reply q there said_so. only facts meaning_of q (at_k place q there).passage reply said_so;
    held = λ place serial q a there before after. gone facts meaning_of q (at_k place q there).passage serial a before after;
  }
