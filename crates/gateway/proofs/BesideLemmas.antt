-- A gateway beside one that is given what the first is, without the inputs of strangers: step by step.
use Rattle.std.proofs.Common.{◌≡◌, ◌<◌, ◌≤◌, ◌+◌, ◌==◌, ◌||◌, ◌⊎◌, inl, inr, ℕ, zero, suc, Bool, true, false, not, cond, List, [], ◌∷◌, ◌++◌, Some, map, nat_lt, slice_get, if◌then◌else◌, refl, sym, ap, subst, ◌∙◌, arith}
use Rattle.std.proofs.lemmas.Bool.{eq-eqb, eqb-true, ltb-false, ltb-true, ne_eqb}
use Rattle.std.specs.List.{filter}
use Rattle.sadb.specs.Contents.{table_content}
use Rattle.sadb.specs.Database.{pair_at, Database, PairMap}
use Rattle.sadb.specs.declared.pair.Pair.{Pair}
use Rattle.association.specs.Contents.{association_content}
use Rattle.association.specs.declared.phase.Association.{Association}
use Rattle.initial.specs.Answering.{IsHalfOpen}
use Rattle.effects.specs.Taking.{Meaning}
use Rattle.ike.specs.Contents.{machine_content}
use Rattle.ike.specs.LawsOfBefore.{NoSerialIsGivenAgain}
use Rattle.ike.specs.Machines.{association_of, has_serial, Held, Machine, SERIAL_END}
use Rattle.effects.specs.Lengths.{HoldsWholeKeys}
use Rattle.association.specs.declared.phase.Phase.{Phase}
use Rattle.association.specs.declared.phase.Phase.TheVariants.{Established, HalfOpen}
use Rattle.suite.specs.declared.key_record.KeyRecord.{KeyRecord}
use Rattle.gateway.proofs.BeforeLemmas.{serial_is}
use Rattle.ike.specs.Receiving.{with_next}
use Rattle.ike.specs.declared.output.Trace.{Trace}
use Rattle.gateway.proofs.EffectLemmas.{Facts, StillFacts}
use Rattle.gateway.specs.Carrying.{EachPairIsOfAnEstablished}
use Rattle.gateway.specs.Contents.{state_content}
use Rattle.gateway.specs.Histories.{IsPassage, IsTrail, Passage}
use Rattle.gateway.specs.Inputs.{Input}
use Rattle.gateway.specs.Inputs as input
use Rattle.gateway.specs.LeavingOut.{IsRightlyGiven}
use Rattle.gateway.specs.Outputs.{wants_memory, OutputView}
use Rattle.gateway.specs.Outputs as said
use Rattle.gateway.specs.States.{IsSoundState, State}
use Rattle.gateway.specs.Steps.{StepsIke, Traces}
use Rattle.gateway.specs.Strangers.{AddsAtMostAHalfOpen, HoldsOneMore}
use Rattle.gateway.proofs.BesideLists.{last_or, of_kept, of_mapped, to_mapped, EachThere, same_kept, same_pairs, same_renamed, without_last}
use Rattle.gateway.proofs.DatagramRemoval.{RemovalLaws}
use Rattle.gateway.proofs.PairRenaming.{pair_laws}
use Rattle.gateway.proofs.Removal.{removed_traces}
use Rattle.gateway.proofs.RenamedAll.{renamed_laws}
use Rattle.gateway.proofs.StepRenaming.{renamed_traces}
use Rattle.gateway.proofs.RenamingLemmas.{apart_of, below_next, from_next, less_back, later, passed_above, passed_below, passed_is, rises}
use Rattle.gateway.specs.Beside.{next_before, passing_over, renaming_after, strange_after, AreAnsweredBeside, AreGivenBeside, HoldsBeside, IsAnsweredBeside, IsFirst, IsGivenBeside, IsOfStranger}
use Rattle.gateway.specs.Others.{machine_without, said_without, state_without, stays, AreHalfOpen, HaveNoPairs}
use Rattle.gateway.specs.Renaming.{renamed_association, renamed_said, renamed_state, renamed_trace, IsRenaming}

-- what other lemmas and laws say of single steps
pub record StepLaws (C : Type 0) : Type 0 where
  pub facts : Facts C
  pub still : StillFacts C
  pub removal : RemovalLaws
  pub rising : NoSerialIsGivenAgain
  pub stays : (meaning_of : C → Meaning) (p : Passage C) → IsPassage meaning_of p → EachPairIsOfAnEstablished p.before → EachPairIsOfAnEstablished p.after

pub steps_of : {C : Type 0} → Facts C → StillFacts C → RemovalLaws → NoSerialIsGivenAgain
    → ((meaning_of : C → Meaning) (p : Passage C) → IsPassage meaning_of p → EachPairIsOfAnEstablished p.before → EachPairIsOfAnEstablished p.after) → StepLaws C
steps_of {C} facts still removal rising stays = record { facts = facts; still = still; removal = removal; rising = rising; stays = stays }

-- ---- that serials rise

rises_ike : NoSerialIsGivenAgain → (meaning : Meaning) (entries : _) (given : _) (old new : Machine) (table new_table : Database) (output : OutputView) (trace : Trace)
    → StepsIke meaning entries given old table output trace new new_table → old.held.next ≤ new.held.next
rises_ike rising meaning entries given old new table new_table output trace (inl is) = rising meaning entries given old table is.stepped new new_table is.steps
rises_ike rising meaning entries given old new table new_table output trace (inr is) = let same : new.held.next ≡ old.held.next = ap (λ (m : Machine). m.held.next) is.machine in omega arith

stays_next : (old new : Machine) → new ≡ old → old.held.next ≤ new.held.next
stays_next old new same = let equal : new.held.next ≡ old.held.next = ap (λ (m : Machine). m.held.next) same in omega arith

pub next_rises : {C : Type 0} → NoSerialIsGivenAgain → (meaning : Meaning) (given : Input) (old new : State C) (output : OutputView) (trace : Trace) → Traces meaning given old output trace new → old.machine.held.next ≤ new.machine.held.next
next_rises {C} rising meaning (input.Ike from octets fresh) old new output trace is = rises_ike rising meaning old.entries _ old.machine new.machine old.table new.table output trace is.does
next_rises {C} rising meaning (input.Start serial entry fresh) old new output trace is = rises_ike rising meaning old.entries _ old.machine new.machine old.table new.table output trace is.does
next_rises {C} rising meaning (input.Probe serial fresh) old new output trace is = rises_ike rising meaning old.entries _ old.machine new.machine old.table new.table output trace is.does
next_rises {C} rising meaning (input.DeleteChild child fresh) old new output trace is = rises_ike rising meaning old.entries _ old.machine new.machine old.table new.table output trace is.does
next_rises {C} rising meaning (input.DeleteIke serial fresh) old new output trace is = rises_ike rising meaning old.entries _ old.machine new.machine old.table new.table output trace is.does
next_rises {C} rising meaning (input.Secret secret) old new output trace is = rises_ike rising meaning old.entries _ old.machine new.machine old.table new.table output trace is.does
next_rises {C} rising meaning (input.Tick moment) old new output trace is = rises_ike rising meaning old.entries _ old.machine new.machine old.table new.table output trace is.does
next_rises {C} rising meaning (input.Esp octets) old new output trace is = stays_next old.machine new.machine is.does.0.machine
next_rises {C} rising meaning (input.Outward packet) old new output trace is = stays_next old.machine new.machine is.does.0.machine
next_rises {C} rising meaning (input.Inward packet) old new output trace is = stays_next old.machine new.machine is.does.0.machine

-- ---- what is refused for want of memory stays so

same_want : (strange : ℕ → Bool) (output : OutputView) → wants_memory (said_without strange output) ≡ wants_memory output
same_want strange (said.Reply octets closed) = refl
same_want strange (said.Repeat octets) = refl
same_want strange (said.Request ike octets) = refl
same_want strange (said.Counted ike child closed) = refl
same_want strange (said.Ticked requests closed) = refl
same_want strange said.Done = refl
same_want strange (said.Up child number packet) = refl
same_want strange (said.Dummy child number) = refl
same_want strange (said.Sealed child number octets) = refl
same_want strange (said.Clear packet) = refl
same_want strange said.Discarded = refl
same_want strange (said.Dropped why) = refl
same_want strange (said.Refused why) = refl

renamed_want : (r : ℕ → ℕ) (output : OutputView) → wants_memory (renamed_said r output) ≡ wants_memory output
renamed_want r (said.Reply octets closed) = refl
renamed_want r (said.Repeat octets) = refl
renamed_want r (said.Request ike octets) = refl
renamed_want r (said.Counted ike child closed) = refl
renamed_want r (said.Ticked requests closed) = refl
renamed_want r said.Done = refl
renamed_want r (said.Up child number packet) = refl
renamed_want r (said.Dummy child number) = refl
renamed_want r (said.Sealed child number octets) = refl
renamed_want r (said.Clear packet) = refl
renamed_want r said.Discarded = refl
renamed_want r (said.Dropped why) = refl
renamed_want r (said.Refused why) = refl

-- ---- what is known of two gateways, one beside the other

-- they hold alike, and each of their pairs is of an established IKE SA
pub record Alongside {C : Type 0} (r : ℕ → ℕ) (strange : ℕ → Bool) (one other : State C) : Type 0 where
  pub holds : HoldsBeside r strange one other
  pub standing : EachPairIsOfAnEstablished one
  pub also : EachPairIsOfAnEstablished other

abbrev serials_below : Held → Type 0
serials_below held = (place : ℕ) (a : Association) → slice_get held.associations place ≡ Some a → a.serial < held.next

below_of : {C : Type 0} → (s : State C) → IsSoundState s → serials_below s.machine.held
below_of {C} s sound place a there = (sound.machine.held.each place a there).serial_given

-- ---- which IKE SAs have pairs

find_by : (b : Bool) (serial : ℕ) (x : Association) (xs : List Association) (a : Association) → cond b (Some x) (association_of serial xs) ≡ Some a
    → (association_of serial xs ≡ Some a → (place : ℕ) × (slice_get xs place ≡ Some a)) → (place : ℕ) × (slice_get (x ∷ xs) place ≡ Some a)
find_by true serial x xs a is rest = (zero, is)
find_by false serial x xs a is rest = let found = rest is in (suc found.0, found.1)

pub find_there : (serial : ℕ) (xs : List Association) (a : Association) → association_of serial xs ≡ Some a → (place : ℕ) × (slice_get xs place ≡ Some a)
find_there serial [] a is = cc
find_there serial (x ∷ xs) a is = find_by (has_serial serial x) serial x xs a is (find_there serial xs a)

not_both : (p : Phase) → IsHalfOpen p → (keys : KeyRecord) → p ≡ Established keys → ⊥
not_both p half keys is = let same : HalfOpen half.opened ≡ Established keys = sym half.is ∙ is in cc

grown : (n : ℕ) → n ≡ n + 1 → ⊥
grown n same = omega arith

less_not : (a b : ℕ) → a < b → a ≡ b → ⊥
less_not a b less same = omega arith

not_above : {a b : ℕ} → a < b → b ≤ a → ⊥
not_above {a} {b} one two = omega arith

less_than : {a b c : ℕ} → a ≤ b → b < c → a < c
less_than {a} {b} {c} one two = omega arith

at_most : {a b c : ℕ} → a < b → b ≤ c → a < c
at_most {a} {b} {c} one two = omega arith

strange_or : (b : Bool) → (b ≡ true → ⊥) → b ≡ false
strange_or true out = absurd (out refl)
strange_or false out = refl

module _ {C : Type 0} where
  pub no_pairs : (strange : ℕ → Bool) (s : State C) → EachPairIsOfAnEstablished s → AreHalfOpen strange s.machine.held → HaveNoPairs strange s.table
  no_pairs strange s standing half serial pair there = strange_or (strange pair.ike) (λ is.
      let now = standing.each serial pair there in
      let place = find_there pair.ike s.machine.held.associations now.established.association now.established.there in
      let named : now.established.association.serial ≡ pair.ike = serial_is s.machine.held.associations pair.ike now.established.association now.established.there in
      let open_yet = half place.0 now.established.association place.1 (ap strange named ∙ is) in
      not_both now.established.association.phase open_yet now.keys now.established.established)

  pairs_below : (s : State C) → EachPairIsOfAnEstablished s → serials_below s.machine.held → (serial : ℕ) (pair : Pair) → pair_at s.table.pairs serial ≡ Some pair → pair.ike < s.machine.held.next
  pairs_below s standing below serial pair there =
      let now = standing.each serial pair there in
      let place = find_there pair.ike s.machine.held.associations now.established.association now.established.there in
      let named : now.established.association.serial ≡ pair.ike = serial_is s.machine.held.associations pair.ike now.established.association now.established.there in
      subst (λ n. n < s.machine.held.next) named (below place.0 now.established.association place.1)

-- those that are strange were given before
given_before : {C : Type 0} → (strange : ℕ → Bool) (s : State C) → ((serial : ℕ) → strange serial ≡ true → serial < s.machine.held.next) → (serial : ℕ) → s.machine.held.next ≤ serial → strange serial ≡ false
given_before {C} strange s given serial above = strange_or (strange serial) (λ is. not_above (given serial is) above)

-- ---- a step that stays

module _ {C : Type 0} (laws : StepLaws C) (meaning_of : C → Meaning) (r : ℕ → ℕ) (strange : ℕ → Bool) where
  pub kept : (p q : Passage C) → Alongside r strange p.before q.before → IsPassage meaning_of p → IsPassage meaning_of q → IsGivenBeside (IsRightlyGiven meaning_of) r strange p q
      → IsAnsweredBeside r strange p q × Alongside r strange p.after q.after
  kept p q along is also given =
      let caller : q.before.caller ≡ p.before.caller = sym (ap (λ (s : State C). s.caller) along.holds.content) in
      let next : p.before.machine.held.next ≡ r q.before.machine.held.next = ap (λ (s : State C). s.machine.held.next) along.holds.content in
      let m = meaning_of p.before.caller in
      let second : Traces m q.given q.before q.said also.steps.trace q.after = subst (λ (c : C). Traces (meaning_of c) q.given q.before q.said also.steps.trace q.after) caller also.steps.traces in
      let left : r q.before.machine.held.next < SERIAL_END = subst (λ n. n < SERIAL_END) next given.left in
      let least : q.before.machine.held.next ≤ r q.before.machine.held.next = rises r q.before.machine.held.next along.holds.renames q.before.machine.held.next in
      let under : Traces m p.given (renamed_state r q.before) (renamed_said r q.said) (renamed_trace r also.steps.trace) (renamed_state r q.after) =
      subst (λ (i : Input). Traces m i (renamed_state r q.before) (renamed_said r q.said) (renamed_trace r also.steps.trace) (renamed_state r q.after)) (sym given.given)
      (renamed_traces r (renamed_laws r (apart_of r q.before.machine.held.next along.holds.renames)) m q.given q.before q.said also.steps.trace q.after along.holds.renames (less_than least left) left second) in
      let without = removed_traces laws.removal strange m p.before is.sound along.holds.half_open (no_pairs strange p.before along.standing along.holds.half_open) (given_before strange p.before along.holds.given)
      p.given p.said is.steps.trace p.after given.apart given.memory is.steps.traces in
      let end = laws.facts.steps m p.given (state_without strange p.before) (renamed_state r q.before) (state_without strange p.after) (renamed_state r q.after) (said_without strange p.said) (renamed_said r q.said)
      given.is (of_kept (stays strange) p.before.machine.held.associations (λ a. HoldsWholeKeys a.phase) (laws.facts.whole p.before.machine p.before.table is.sound.machine))
      along.holds.content (same_want strange p.said ∙ given.memory) (renamed_want r q.said ∙ given.memory_too)
      (record { trace = is.steps.trace; traces = without.0 }) (record { trace = renamed_trace r also.steps.trace; traces = under }) in
      let more : p.before.machine.held.next ≤ p.after.machine.held.next = next_rises laws.rising m p.given p.before p.after p.said is.steps.trace is.steps.traces in (
        end.0,
        record {
          holds = record {
            content = end.1;
            renames = later r q.before.machine.held.next along.holds.renames q.after.machine.held.next (next_rises laws.rising m q.given q.before q.after q.said also.steps.trace second);
            apart = along.holds.apart;
            half_open = without.1;
            given = λ serial out. at_most (along.holds.given serial out) more;
          };
          standing = laws.stays meaning_of p is along.standing;
          also = laws.stays meaning_of q also along.also;
        },
      )

  -- ---- a step that is left out

  -- it changed nothing but spare room
  unchanged : (p : Passage C) (t : State C) → Alongside r strange p.before t → IsPassage meaning_of p → p.after.machine ≡ p.before.machine → state_content p.after ≡ record (state_content p.before) { machine = machine_content p.after.machine }
      → Alongside r strange p.after t
  unchanged p t along is machine content = record {
    holds = record {
      content = ap (λ (s : State C). record s { machine = machine_content (machine_without strange p.after.machine) }) content
          ∙ ap (λ (m : Machine). record (state_content p.before) { machine = machine_content (machine_without strange m) }) machine ∙ along.holds.content;
      renames = along.holds.renames;
      apart = along.holds.apart;
      half_open = subst (λ (m : Machine). AreHalfOpen strange m.held) (sym machine) along.holds.half_open;
      given = subst (λ (m : Machine). (serial : ℕ) → strange serial ≡ true → serial < m.held.next) (sym machine) along.holds.given;
    };
    standing = laws.stays meaning_of p is along.standing;
    also = along.also;
  }

  -- the gateway's own parts, once what the table holds is known
  table_too : (p : Passage C) → p.after ≡ record p.before { machine = p.after.machine; table = p.after.table } → table_content p.after.table ≡ table_content p.before.table
      → state_content p.after ≡ record (state_content p.before) { machine = machine_content p.after.machine }
  table_too p content table = ap (λ (s : State C). record s { machine = machine_content p.after.machine; table = table_content p.after.table }) content
      ∙ ap (λ (d : Database). record (state_content p.before) { machine = machine_content p.after.machine; table = d }) table

  -- no serial of the second gateway is strange in the first one
  apart_by : (s : ℕ) (t : State C) (n : ℕ) (b : Bool) → nat_lt n t.machine.held.next ≡ b → IsRenaming r t.machine.held.next → r t.machine.held.next ≡ s → ((n : ℕ) → strange (r n) ≡ false)
      → (passing_over s (r n) == s || strange (passing_over s (r n))) ≡ false
  apart_by s t n true less renames at apart =
      let below : r n < s = below_next r t.machine.held.next s renames at n (ltb-true n t.machine.held.next less) in
      subst (λ k. (k == s || strange k) ≡ false) (sym (passed_below s (r n) below)) (ap (λ b. b || strange (r n)) (ne_eqb (r n) s (λ same. less_not (r n) s below same)) ∙ apart n)
  apart_by s t n false less renames at apart =
      let from : t.machine.held.next ≤ n = ltb-false n t.machine.held.next less in
      let above : s ≤ r n = from_next r t.machine.held.next s renames at n from in
      let moved : passing_over s (r n) ≡ r (n + 1) = passed_above s (r n) above ∙ sym (renames.goes_on n from) in
      let more : s < r (n + 1) = subst (λ k. s < k) (sym (renames.goes_on n from)) (omega arith) in
      subst (λ k. (k == s || strange k) ≡ false) (sym moved) (ap (λ b. b || strange (r (n + 1))) (ne_eqb (r (n + 1)) s (λ same. less_not s (r (n + 1)) more (sym same))) ∙ apart (n + 1))

  given_by : (s n : ℕ) (b : Bool) → (n == s) ≡ b → (b || strange n) ≡ true → ((n : ℕ) → strange n ≡ true → n < s) → n < s + 1
  given_by s n true same is_out given = let equal : n ≡ s = eqb-true n s same in omega arith
  given_by s n false same is_out given = let less : n < s = given n is_out in omega arith

  -- one half-open IKE SA more is held, which is strange from then on
  one_more : (p : Passage C) (t : State C) → Alongside r strange p.before t → IsPassage meaning_of p → serials_below t.machine.held → state_content p.after ≡ record (state_content p.before) { machine = machine_content p.after.machine }
      → HoldsOneMore p.before.machine p.after.machine
      → Alongside (λ n. passing_over (next_before p) (r n)) (λ n. n == next_before p || strange n) p.after t
  one_more p t along is below_t content came =
      let s = p.before in
      let next = s.machine.held.next in
      let q : ℕ → ℕ = λ n. passing_over next (r n) in
      let out : ℕ → Bool = λ n. n == next || strange n in
      let at : r t.machine.held.next ≡ next = sym (ap (λ (u : State C). u.machine.held.next) along.holds.content) in
      let below : (n : ℕ) → n < t.machine.held.next → q n ≡ r n = λ n less. passed_below next (r n) (below_next r t.machine.held.next next along.holds.renames at n less) in
      let still_out : (n : ℕ) → n < next → out n ≡ strange n = λ n less. ap (λ b. b || strange n) (ne_eqb n next (λ same. less_not n next less same)) in
      let new_out : out came.association.serial ≡ true = ap (λ b. b || strange came.association.serial) (eq-eqb came.association.serial next came.serial) in
      let held : Machine = record s.machine { held = with_next s.machine.held came.association } in
      let kept_alike : filter (stays out) (s.machine.held.associations ++ came.association ∷ []) ≡ filter (stays strange) s.machine.held.associations =
      without_last (stays out) s.machine.held.associations came.association (ap not new_out) ∙ same_kept strange out s.machine.held.associations (λ place a there. still_out a.serial (below_of s is.sound place a there)) in
      let first : state_content (state_without out p.after) ≡ record (state_content s) { machine = machine_content (machine_without out p.after.machine) } =
      ap (λ (u : State C). record u { machine = machine_content (machine_without out p.after.machine) }) content in
      let second : record (state_content s) { machine = machine_content (machine_without out p.after.machine) } ≡ record (state_content s) { machine = machine_content (machine_without out held) } =
      ap (λ (m : Machine). record (state_content s) { machine = machine_content (machine_without out m) }) came.content in
      let third : record (state_content s) { machine = machine_content (machine_without out held) }
      ≡ record (state_content s) { machine = machine_content (record s.machine { held = record { next = next + 1; associations = filter (stays strange) s.machine.held.associations } }) } =
      ap (λ (xs : List Association). record (state_content s) { machine = machine_content (record s.machine { held = record { next = next + 1; associations = xs } }) }) kept_alike in
      let fourth : record (state_content s) { machine = machine_content (record s.machine { held = record { next = next + 1; associations = filter (stays strange) s.machine.held.associations } }) }
      ≡ record (state_content (renamed_state r t)) { machine = machine_content (record (renamed_state r t).machine { held = record (renamed_state r t).machine.held { next = r t.machine.held.next + 1 } }) } =
      ap (λ (u : State C). record u { machine = record u.machine { held = record u.machine.held { next = u.machine.held.next + 1 } } }) along.holds.content in
      let moved : q t.machine.held.next ≡ r t.machine.held.next + 1 = passed_above next (r t.machine.held.next) (from_next r t.machine.held.next next along.holds.renames at t.machine.held.next (omega arith)) in
      let those : map (renamed_association q) t.machine.held.associations ≡ map (renamed_association r) t.machine.held.associations =
      same_renamed r q t.machine.held.associations (λ place a there. below a.serial (below_t place a there)) in
      let pairs = same_pairs r q (pair_laws r) (pair_laws q) t.table.pairs (λ serial pair there. below pair.ike (pairs_below t along.also below_t serial pair there)) in
      let fifth : record (state_content (renamed_state r t)) { machine = machine_content (record (renamed_state r t).machine { held = record (renamed_state r t).machine.held { next = r t.machine.held.next + 1 } }) } ≡ state_content (renamed_state q t) =
      ap (λ (n : ℕ). record (state_content (renamed_state r t)) { machine = machine_content (record t.machine { held = record { next = n; associations = map (renamed_association r) t.machine.held.associations } }) }) (sym moved)
      ∙ ap (λ (xs : List Association). record (state_content (renamed_state r t)) { machine = machine_content (record t.machine { held = record { next = q t.machine.held.next; associations = xs } }) }) (sym those)
      ∙ ap (λ (ps : PairMap). state_content (record t { machine = record t.machine { held = record { next = q t.machine.held.next; associations = map (renamed_association q) t.machine.held.associations } }; table = record t.table { pairs = ps } })) (sym pairs) in
      record {
        holds = record {
          content = first ∙ second ∙ third ∙ fourth ∙ fifth;
          renames = passed_is r t.machine.held.next next along.holds.renames at;
          apart = λ n. apart_by next t n (nat_lt n t.machine.held.next) refl along.holds.renames at along.holds.apart;
          half_open = subst (λ (m : Machine). AreHalfOpen out m.held) (sym came.content)
              (last_or s.machine.held.associations came.association (λ a. out a.serial ≡ true → IsHalfOpen a.phase)
              (λ place a there is_out. along.holds.half_open place a there (sym (still_out a.serial (below_of s is.sound place a there)) ∙ is_out)) (λ is_out. came.half_open));
          given = λ n is_out. subst (λ (m : Machine). n < m.held.next) (sym came.content) (given_by next n (n == next) refl is_out along.holds.given);
        };
        standing = laws.stays meaning_of p is along.standing;
        also = along.also;
      }

  -- the second gateway gave each serial that its IKE SAs have, since the first one did
  second_below : (p : Passage C) (t : State C) → Alongside r strange p.before t → IsPassage meaning_of p → serials_below t.machine.held
  second_below p t along is place a there =
      let n = p.before.machine.held.next in
      let P : Association → Type 0 = λ a. a.serial < n in
      let at : r t.machine.held.next ≡ n = sym (ap (λ (u : State C). u.machine.held.next) along.holds.content) in
      let same : map association_content (filter (stays strange) p.before.machine.held.associations) ≡ map association_content (map (renamed_association r) t.machine.held.associations) =
      ap (λ (u : State C). u.machine.held.associations) along.holds.content in
      let first : EachThere P (filter (stays strange) p.before.machine.held.associations) = of_kept (stays strange) p.before.machine.held.associations P (below_of p.before is.sound) in
      let second : EachThere P (map association_content (map (renamed_association r) t.machine.held.associations)) =
      subst (λ (xs : List Association). EachThere P xs) same (to_mapped association_content (filter (stays strange) p.before.machine.held.associations) P first) in
      let third = of_mapped (renamed_association r) t.machine.held.associations (λ a. P (association_content a)) (of_mapped association_content (map (renamed_association r) t.machine.held.associations) P second) in
      less_back r t.machine.held.next along.holds.renames a.serial t.machine.held.next (subst (λ k. r a.serial < k) (sym at) (third place a there))

  -- by whether the step gave a serial
  same_after : (p : Passage C) (t : State C) → p.after.machine ≡ p.before.machine → Alongside r strange p.after t → Alongside (renaming_after r p) (strange_after strange p) p.after t
  same_after p t machine along =
      let none : (next_before p == p.after.machine.held.next) ≡ true = eq-eqb (next_before p) p.after.machine.held.next (sym (ap (λ (m : Machine). m.held.next) machine)) in
      subst (λ (b : Bool). Alongside (λ n. if b then r n else passing_over (next_before p) (r n)) (λ n. if b then strange n else n == next_before p || strange n) p.after t) (sym none) along

  more_after : (p : Passage C) (t : State C) → HoldsOneMore p.before.machine p.after.machine → Alongside (λ n. passing_over (next_before p) (r n)) (λ n. n == next_before p || strange n) p.after t
      → Alongside (renaming_after r p) (strange_after strange p) p.after t
  more_after p t came along =
      let moved : p.after.machine.held.next ≡ next_before p + 1 = ap (λ (m : Machine). m.held.next) came.content in
      let some : (next_before p == p.after.machine.held.next) ≡ false = ne_eqb (next_before p) p.after.machine.held.next (λ same. grown (next_before p) (same ∙ moved)) in
      subst (λ (b : Bool). Alongside (λ n. if b then r n else passing_over (next_before p) (r n)) (λ n. if b then strange n else n == next_before p || strange n) p.after t) (sym some) along

  by_machine : (p : Passage C) (t : State C) → Alongside r strange p.before t → IsPassage meaning_of p → state_content p.after ≡ record (state_content p.before) { machine = machine_content p.after.machine }
      → (p.after.machine ≡ p.before.machine) ⊎ HoldsOneMore p.before.machine p.after.machine → Alongside (renaming_after r p) (strange_after strange p) p.after t
  by_machine p t along is content (inl same) = same_after p t same (unchanged p t along is same content)
  by_machine p t along is content (inr more) = more_after p t more (one_more p t along is (second_below p t along is) content more)

  adds : (p : Passage C) (t : State C) → Alongside r strange p.before t → IsPassage meaning_of p → AddsAtMostAHalfOpen p.before p.after → Alongside (renaming_after r p) (strange_after strange p) p.after t
  adds p t along is came =
      let content = table_too p came.content (laws.still.prepared p.before.table p.after.table came.table) in
      by_machine p t along is content came.machine

  by_first : (p : Passage C) (t : State C) → Alongside r strange p.before t → IsPassage meaning_of p → (given : Input) → p.given ≡ given → IsFirst given → Alongside (renaming_after r p) (strange_after strange p) p.after t
  by_first p t along is (input.Ike from octets fresh) same first = adds p t along is (laws.still.first meaning_of from octets fresh p is same first)
  by_first p t along is (input.Esp octets) same first = absurd first
  by_first p t along is (input.Outward packet) same first = absurd first
  by_first p t along is (input.Inward packet) same first = absurd first
  by_first p t along is (input.Start serial entry fresh) same first = absurd first
  by_first p t along is (input.Probe serial fresh) same first = absurd first
  by_first p t along is (input.DeleteChild child fresh) same first = absurd first
  by_first p t along is (input.DeleteIke serial fresh) same first = absurd first
  by_first p t along is (input.Secret secret) same first = absurd first
  by_first p t along is (input.Tick moment) same first = absurd first

  pub left_out : (p : Passage C) (t : State C) → Alongside r strange p.before t → IsPassage meaning_of p → IsOfStranger meaning_of p → Alongside (renaming_after r p) (strange_after strange p) p.after t
  left_out p t along is (inl strange_one) =
      let was = laws.still.strange meaning_of p is strange_one in
      let machine : p.after.machine ≡ p.before.machine = ap (λ (s : State C). s.machine) was.content in
      let content : p.after ≡ record p.before { machine = p.after.machine; table = p.after.table } = was.content ∙ ap (λ (m : Machine). record p.before { machine = m; table = p.after.table }) (sym machine) in
      same_after p t machine (unchanged p t along is machine (table_too p content (laws.still.prepared p.before.table p.after.table was.table)))
  left_out p t along is (inr first) = by_first p t along is p.given refl first

-- ---- the runs

module _ {C : Type 0} (laws : StepLaws C) (meaning_of : C → Meaning) where
  pub beside : (marks : List Bool) (r : ℕ → ℕ) (strange : ℕ → Bool) (passages others : List (Passage C)) (old new other after : State C)
      → IsTrail meaning_of old passages new → IsTrail meaning_of other others after → Alongside r strange old other
      → AreGivenBeside meaning_of (IsRightlyGiven meaning_of) marks r strange passages others → AreAnsweredBeside marks r strange passages others new after
  beside [] r strange [] [] old new other after trail also along given = subst (λ (s : State C). HoldsBeside r strange s after) (sym trail) (subst (λ (s : State C). HoldsBeside r strange old s) (sym also) along.holds)
  beside (b ∷ marks) r strange [] [] old new other after trail also along given = subst (λ (s : State C). HoldsBeside r strange s after) (sym trail) (subst (λ (s : State C). HoldsBeside r strange old s) (sym also) along.holds)
  beside [] r strange [] (q ∷ others) old new other after trail also along given = absurd given
  beside (b ∷ marks) r strange [] (q ∷ others) old new other after trail also along given = absurd given
  beside [] r strange (p ∷ passages) [] old new other after trail also along given = absurd given
  beside [] r strange (p ∷ passages) (q ∷ others) old new other after trail also along given =
      let here : Alongside r strange p.before q.before = subst (λ (s : State C). Alongside r strange s q.before) (sym trail.0) (subst (λ (s : State C). Alongside r strange old s) (sym also.0) along) in
      let step = kept laws meaning_of r strange p q here trail.1 also.1 given.0 in
      (step.0, beside [] r strange passages others p.after new q.after after trail.2 also.2 step.1 given.1)
  beside (false ∷ marks) r strange (p ∷ passages) [] old new other after trail also along given = absurd given
  beside (false ∷ marks) r strange (p ∷ passages) (q ∷ others) old new other after trail also along given =
      let here : Alongside r strange p.before q.before = subst (λ (s : State C). Alongside r strange s q.before) (sym trail.0) (subst (λ (s : State C). Alongside r strange old s) (sym also.0) along) in
      let step = kept laws meaning_of r strange p q here trail.1 also.1 given.0 in
      (step.0, beside marks r strange passages others p.after new q.after after trail.2 also.2 step.1 given.1)
  beside (true ∷ marks) r strange (p ∷ passages) others old new other after trail also along given =
      let here : Alongside r strange p.before other = subst (λ (s : State C). Alongside r strange s other) (sym trail.0) along in
      (tt, beside marks (renaming_after r p) (strange_after strange p) passages others p.after new other after trail.2 also (left_out laws meaning_of r strange p other here trail.1 given.0) given.1)
