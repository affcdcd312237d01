-- A command on an IKE SA is done or refused by what is held of it, and a refusal has one reason.
use Rattle.std.proofs.Common.{◌≡◌, ◌⊎◌, inl, inr, ℕ, ◌+◌, ◌≤◌, Bool, true, false, cond, ◌∷◌, [], List, map, Option, Some, None, ap, refl, subst, sym, ◌∙◌}
use Rattle.std.specs.FinMap as numbers
use Rattle.std.specs.Option.{option_map}
use Rattle.suite.specs.declared.keys.Keys.{Keys}
use Rattle.base.specs.Octets.{Octets}
use Rattle.base.specs.declared.selector.Selector.{Selector}
use Rattle.policy.specs.declared.entry.Entry.{Entry}
use Rattle.sadb.specs.Contents.{table_content}
use Rattle.sadb.specs.Database.{pair_at, Database, IsFull, IsSpent}
use Rattle.sadb.specs.declared.pair.Pair.{Pair}
use Rattle.sadb.specs.declared.pair.State.{State}
use Rattle.sadb.specs.declared.pair.State.TheVariants as state
use Rattle.requests.specs.Contents.{outgoing_content}
use Rattle.requests.specs.Numbers.{IsGap}
use Rattle.requests.specs.Outgoing.{AreNumbersSpent, HasSameOwnRequests, IsBusy, MayIssue, OwnRequests}
use Rattle.association.specs.Contents.{association_content}
use Rattle.association.specs.Purposes.{AwaitsDeletion}
use Rattle.association.specs.declared.phase.Association.{Association}
use Rattle.association.specs.declared.phase.Request.{Request}
use Rattle.setup.specs.Configs.{Setup}
use Rattle.association.specs.Phases.{IsEstablished}
use Rattle.association.specs.Ordering.{RefusesOrder}
use Rattle.informational.specs.Asking.{Asks}
use Rattle.association.specs.declared.fault.OrderFault.{OrderFault}
use Rattle.association.specs.declared.fault.OrderFault.TheVariants as order
use Rattle.informational.specs.declared.ordering.Order.{Order}
use Rattle.informational.specs.declared.ordering.Order.TheVariants as asked
use Rattle.create_child.specs.Asking.{AsksForFurther, MayAsk, RefusesFurther}
use Rattle.ike.specs.Contents.{held_content}
use Rattle.ike.specs.Faults.{is_want_of_memory}
use Rattle.ike.specs.Machines.{association_of, has_serial, Held}
use Rattle.ike.specs.Asking.{fault_of_order, fault_of_order, AsksFor, AsksFurther, AsksThat, RefusesAsking, RefusesAskingAt, RefusesChild, RefusesChildBy, RefusesFurtherAt}
use Rattle.ike.specs.Starting.{RefusesFurtherBy}
use Rattle.ike.specs.Orders.{OrderView}
use Rattle.ike.specs.Orders as orders
use Rattle.moments.specs.Due.{SomethingComes}
use Rattle.ike.specs.Ticking.{RefusesMoment}
use Rattle.ike.specs.declared.fault.IkeFault.{IkeFault}
use Rattle.ike.specs.declared.fault.IkeFault.TheVariants as fault
use Rattle.ike.specs.declared.output.Stepped.{Stepped}
use Rattle.ike.proofs.ContentLemmas.{same_list}
use Rattle.ike.proofs.AskingLemmas.{probed_first}

-- ---- by content

kept_first : (b : Bool) (x : Association) (kept found : Option Association) → kept ≡ option_map association_content found
    → cond b (Some (association_content x)) kept ≡ option_map association_content (cond b (Some x) found)
kept_first true x kept found same = refl
kept_first false x kept found same = same

kept_found : (serial : ℕ) (xs : List Association) → association_of serial (map association_content xs) ≡ option_map association_content (association_of serial xs)
kept_found serial [] = refl
kept_found serial (x ∷ xs) = kept_first (has_serial serial x) x (association_of serial (map association_content xs)) (association_of serial xs) (kept_found serial xs)

same_association : (serial : ℕ) (old other : Held) → held_content old ≡ held_content other
    → option_map association_content (association_of serial old.associations) ≡ option_map association_content (association_of serial other.associations)
same_association serial old other same =
    sym (kept_found serial old.associations) ∙ ap (association_of serial) (same_list old other same) ∙ kept_found serial other.associations

busy_as : (a b : OwnRequests Request) → outgoing_content a ≡ outgoing_content b → IsBusy a → IsBusy b
busy_as a b same is =
    record {
      gap = is.gap;
      is_gap = subst (λ (r : OwnRequests Request). IsGap r.answered is.gap) same is.is_gap;
      full = subst (λ (r : OwnRequests Request). is.gap + r.window ≤ r.next) same is.full;
    }

deleting_as : (a b : OwnRequests Request) → outgoing_content a ≡ outgoing_content b → AwaitsDeletion a → AwaitsDeletion b
deleting_as a b same is = record {
  number = is.number;
  request = is.request;
  outstanding = sym (ap (λ (r : OwnRequests Request). numbers.get r.outstanding is.number) same) ∙ is.outstanding;
  deletion = is.deletion;
}

-- so the peer takes no more requests, or none is taken any more
full_as : (a b : OwnRequests Request) → outgoing_content a ≡ outgoing_content b → AwaitsDeletion a ⊎ IsBusy a → (¬ AwaitsDeletion b) → (¬ IsBusy b) → ⊥
full_as a b same (inl deleting) none free = none (deleting_as a b same deleting)
full_as a b same (inr busy) none free = free (busy_as a b same busy)

spent_as : (a b : OwnRequests Request) → outgoing_content a ≡ outgoing_content b → AreNumbersSpent a → AreNumbersSpent b
spent_as a b same is = subst (λ (r : OwnRequests Request). AreNumbersSpent r) same is

established_as : (a b : Association) → association_content a ≡ association_content b → IsEstablished a.phase → IsEstablished b.phase
established_as a b same is = record { keys = is.keys; is = sym (ap (λ (z : Association). z.phase) same) ∙ is.is }

same_outgoing : (a b : Association) → association_content a ≡ association_content b → outgoing_content a.outgoing ≡ outgoing_content b.outgoing
same_outgoing a b same = ap (λ (z : Association). z.outgoing) same

-- ---- one reason

-- what a command meets that is no allocation failure
abbrev pub Hinders : Association → OrderFault → Type 0
Hinders a o = RefusesOrder a o × (is_want_of_memory (fault_of_order o) ≡ false)

memory_only : (b : Bool) → b ≡ true → b ≡ false → ⊥
memory_only true one other = cc
memory_only false one other = cc

one_order : (a b : Association) → association_content a ≡ association_content b → (one two : OrderFault) → Hinders a one → Hinders b two → fault_of_order one ≡ fault_of_order two
one_order a b same order.WrongPhase order.WrongPhase is also = refl
one_order a b same order.WrongPhase order.Busy is also = absurd (is.0 (established_as b a (sym same) also.0.0))
one_order a b same order.WrongPhase order.NumbersSpent is also = absurd (is.0 (established_as b a (sym same) also.0.0))
one_order a b same order.Busy order.WrongPhase is also = absurd (also.0 (established_as a b same is.0.0))
one_order a b same order.Busy order.Busy is also = refl
one_order a b same order.Busy order.NumbersSpent is also = absurd (full_as a.outgoing b.outgoing (same_outgoing a b same) is.0.1 also.0.1 also.0.2)
one_order a b same order.NumbersSpent order.WrongPhase is also = absurd (also.0 (established_as a b same is.0.0))
one_order a b same order.NumbersSpent order.Busy is also = absurd (full_as b.outgoing a.outgoing (sym (same_outgoing a b same)) also.0.1 is.0.1 is.0.2)
one_order a b same order.NumbersSpent order.NumbersSpent is also = refl
one_order a b same order.Memory two is also = absurd (memory_only true refl is.1)
one_order a b same one order.Memory is also = absurd (memory_only true refl also.1)
one_order a b same order.TableFull two is also = absurd is.0
one_order a b same order.SpisSpent two is also = absurd is.0
one_order a b same order.TableMemory two is also = absurd is.0
one_order a b same one order.TableFull is also = absurd also.0
one_order a b same one order.SpisSpent is also = absurd also.0
one_order a b same one order.TableMemory is also = absurd also.0

one_at : (o p : Option Association) (one two : IkeFault) → option_map association_content o ≡ option_map association_content p → is_want_of_memory one ≡ false → is_want_of_memory two ≡ false
    → RefusesAskingAt o one → RefusesAskingAt p two → one ≡ two
one_at None None one two same not_one not_two is also = is ∙ sym also
one_at None (Some b) one two same not_one not_two is also = absurd cc
one_at (Some a) None one two same not_one not_two is also = absurd cc
one_at (Some a) (Some b) one two same not_one not_two is also =
    let alike : association_content a ≡ association_content b = cc in
    is.2
    ∙ one_order a b alike is.0 also.0 (is.1, sym (ap is_want_of_memory is.2) ∙ not_one) (also.1, sym (ap is_want_of_memory also.2) ∙ not_two)
    ∙ sym also.2

pub one_probe_refusal : (serial : ℕ) (old other : Held) (one two : IkeFault) → held_content old ≡ held_content other → is_want_of_memory one ≡ false → is_want_of_memory two ≡ false
    → RefusesAskingAt (association_of serial old.associations) one → RefusesAskingAt (association_of serial other.associations) two → one ≡ two
one_probe_refusal serial old other one two same not_one not_two is also =
    one_at (association_of serial old.associations) (association_of serial other.associations) one two (same_association serial old other same) not_one not_two is also

-- ---- done, or refused

may_before : (old ready : OwnRequests Request) → HasSameOwnRequests old ready → MayIssue ready → MayIssue old
may_before old ready room may =
    subst (λ (r : OwnRequests Request). MayIssue r → MayIssue old) (sym room.content) (λ m. record {
      not_busy = λ busy. m.not_busy (record { gap = busy.gap; is_gap = busy.is_gap; full = busy.full });
      not_spent = m.not_spent;
    }) may

ordered_may : (body_of : Keys → Octets → Octets → Octets → Octets) (setup : Setup) (order : Order) (a : Association) (octets : Octets) (changed : Association) → Asks body_of setup order a octets changed → MayAsk a
ordered_may body_of setup order a octets changed is =
    record { established = record { keys = is.keys; is = is.established }; not_deleting = is.not_deleting; allowed = may_before a.outgoing is.issued.ready is.issued.prepared is.issued.issued.allowed }

further_may : (body_of : Keys → Octets → Octets → Octets → Octets) (setup : Setup) (local remote : Selector) (a : Association) (table : Database) (octets : Octets) (changed : Association) (new_table : Database)
    → AsksForFurther body_of setup local remote a table octets changed new_table → MayAsk a
further_may body_of setup local remote a table octets changed new_table is =
    record { established = record { keys = is.keys; is = is.established }; not_deleting = is.not_deleting; allowed = may_before a.outgoing is.issued.ready is.issued.prepared is.issued.issued.allowed }

not_refused : (a b : Association) → association_content a ≡ association_content b → MayAsk a → (o : OrderFault) → RefusesOrder b o → is_want_of_memory (fault_of_order o) ≡ true
not_refused a b same may order.WrongPhase refuses = absurd (refuses (established_as a b same may.established))
not_refused a b same may order.Busy refuses = absurd (full_as b.outgoing a.outgoing (sym (same_outgoing a b same)) refuses.1 may.not_deleting may.allowed.not_busy)
not_refused a b same may order.NumbersSpent refuses = absurd (may.allowed.not_spent (spent_as b.outgoing a.outgoing (sym (same_outgoing a b same)) refuses.3))
not_refused a b same may order.Memory refuses = refl
not_refused a b same may order.TableFull refuses = absurd refuses
not_refused a b same may order.SpisSpent refuses = absurd refuses
not_refused a b same may order.TableMemory refuses = absurd refuses

done_or_not : (a : Association) (p : Option Association) (reason : IkeFault) → Some (association_content a) ≡ option_map association_content p → MayAsk a → RefusesAskingAt p reason → is_want_of_memory reason ≡ true
done_or_not a None reason same may refuses = absurd cc
done_or_not a (Some b) reason same may refuses =
    let alike : association_content a ≡ association_content b = cc in
    ap is_want_of_memory refuses.2 ∙ not_refused a b alike may refuses.0 refuses.1

pub probe_or_refused : (body_of : Keys → Octets → Octets → Octets → Octets) (setup : Setup) (serial : ℕ) (order : Order) (old other : Held) (table : Database) (stepped : Stepped) (new : Held) (new_table : Database) (reason : IkeFault)
    → held_content old ≡ held_content other → AsksThat body_of setup serial order old table stepped new new_table → RefusesAskingAt (association_of serial other.associations) reason → is_want_of_memory reason ≡ true
probe_or_refused body_of setup serial order old other table stepped new new_table reason same is refuses =
    let a = is.asks in
    done_or_not a.association (association_of serial other.associations) reason
    (sym (ap (option_map association_content) (probed_first body_of setup serial old stepped new a)) ∙ same_association serial old other same)
    (ordered_may body_of setup order a.association a.octets a.changed is.ordered) refuses

-- ---- an additional Child SA

not_refused_further : (a b : Association) (table another : Database) → association_content a ≡ association_content b → table_content table ≡ table_content another → MayAsk a → ¬ IsFull table → ¬ IsSpent table
    → (f : OrderFault) → RefusesFurther b another f → is_want_of_memory (fault_of_order f) ≡ true
not_refused_further a b table another same alike may not_full not_spent order.WrongPhase refuses = not_refused a b same may order.WrongPhase refuses
not_refused_further a b table another same alike may not_full not_spent order.Busy refuses = not_refused a b same may order.Busy refuses
not_refused_further a b table another same alike may not_full not_spent order.NumbersSpent refuses = not_refused a b same may order.NumbersSpent refuses
not_refused_further a b table another same alike may not_full not_spent order.TableFull refuses = absurd (not_full (subst (λ (d : Database). IsFull d) (sym alike) refuses.1))
not_refused_further a b table another same alike may not_full not_spent order.SpisSpent refuses = absurd (not_spent (subst (λ (d : Database). IsSpent d) (sym alike) refuses.2))
not_refused_further a b table another same alike may not_full not_spent order.TableMemory refuses = refl
not_refused_further a b table another same alike may not_full not_spent order.Memory refuses = refl

further_or_not : (a : Association) (p : Option Association) (table another : Database) (reason : IkeFault) → Some (association_content a) ≡ option_map association_content p → table_content table ≡ table_content another
    → MayAsk a → ¬ IsFull table → ¬ IsSpent table → RefusesFurtherAt p another reason → is_want_of_memory reason ≡ true
further_or_not a None table another reason same alike may not_full not_spent refuses = absurd cc
further_or_not a (Some b) table another reason same alike may not_full not_spent refuses =
    let here : association_content a ≡ association_content b = cc in
    ap is_want_of_memory refuses.2 ∙ not_refused_further a b table another here alike may not_full not_spent refuses.0 refuses.1

pub further_or_refused : (body_of : Keys → Octets → Octets → Octets → Octets) (setup : Setup) (serial : ℕ) (local remote : Selector) (old other : Held) (table another : Database) (stepped : Stepped) (new : Held) (new_table : Database) (reason : IkeFault)
    → held_content old ≡ held_content other → table_content table ≡ table_content another → AsksFurther body_of setup serial local remote old table stepped new new_table
    → RefusesFurtherAt (association_of serial other.associations) another reason → is_want_of_memory reason ≡ true
further_or_refused body_of setup serial local remote old other table another stepped new new_table reason same alike is refuses =
    let a = is.asks in
    further_or_not a.association (association_of serial other.associations) table another reason
    (sym (ap (option_map association_content) (probed_first body_of setup serial old stepped new a)) ∙ same_association serial old other same) alike
    (further_may body_of setup local remote a.association table a.octets a.changed new_table is.further) is.further.not_full is.further.not_spent refuses

-- what may be asked is not refused, but for the table or on allocation failure
may_clash : (a b : Association) → association_content a ≡ association_content b → MayAsk a → (o : OrderFault) → RefusesOrder b o → is_want_of_memory (fault_of_order o) ≡ false → ⊥
may_clash a b same may o refuses other = memory_only (is_want_of_memory (fault_of_order o)) (not_refused a b same may o refuses) other

one_ask : (a b : Association) (table another : Database) → association_content a ≡ association_content b → table_content table ≡ table_content another → (one two : OrderFault)
    → is_want_of_memory (fault_of_order one) ≡ false → is_want_of_memory (fault_of_order two) ≡ false → RefusesFurther a table one → RefusesFurther b another two → fault_of_order one ≡ fault_of_order two
one_ask a b table another same alike order.TableMemory two not_one not_two is also = absurd (memory_only true refl not_one)
one_ask a b table another same alike order.Memory two not_one not_two is also = absurd (memory_only true refl not_one)
one_ask a b table another same alike one order.TableMemory not_one not_two is also = absurd (memory_only true refl not_two)
one_ask a b table another same alike one order.Memory not_one not_two is also = absurd (memory_only true refl not_two)
one_ask a b table another same alike order.WrongPhase order.WrongPhase not_one not_two is also = refl
one_ask a b table another same alike order.WrongPhase order.Busy not_one not_two is also = one_order a b same order.WrongPhase order.Busy (is, refl) (also, refl)
one_ask a b table another same alike order.WrongPhase order.NumbersSpent not_one not_two is also = one_order a b same order.WrongPhase order.NumbersSpent (is, refl) (also, refl)
one_ask a b table another same alike order.WrongPhase order.TableFull not_one not_two is also = absurd (may_clash b a (sym same) also.0 order.WrongPhase is refl)
one_ask a b table another same alike order.WrongPhase order.SpisSpent not_one not_two is also = absurd (may_clash b a (sym same) also.0 order.WrongPhase is refl)
one_ask a b table another same alike order.Busy order.WrongPhase not_one not_two is also = one_order a b same order.Busy order.WrongPhase (is, refl) (also, refl)
one_ask a b table another same alike order.Busy order.Busy not_one not_two is also = refl
one_ask a b table another same alike order.Busy order.NumbersSpent not_one not_two is also = one_order a b same order.Busy order.NumbersSpent (is, refl) (also, refl)
one_ask a b table another same alike order.Busy order.TableFull not_one not_two is also = absurd (may_clash b a (sym same) also.0 order.Busy is refl)
one_ask a b table another same alike order.Busy order.SpisSpent not_one not_two is also = absurd (may_clash b a (sym same) also.0 order.Busy is refl)
one_ask a b table another same alike order.NumbersSpent order.WrongPhase not_one not_two is also = one_order a b same order.NumbersSpent order.WrongPhase (is, refl) (also, refl)
one_ask a b table another same alike order.NumbersSpent order.Busy not_one not_two is also = one_order a b same order.NumbersSpent order.Busy (is, refl) (also, refl)
one_ask a b table another same alike order.NumbersSpent order.NumbersSpent not_one not_two is also = refl
one_ask a b table another same alike order.NumbersSpent order.TableFull not_one not_two is also = absurd (may_clash b a (sym same) also.0 order.NumbersSpent is refl)
one_ask a b table another same alike order.NumbersSpent order.SpisSpent not_one not_two is also = absurd (may_clash b a (sym same) also.0 order.NumbersSpent is refl)
one_ask a b table another same alike order.TableFull order.WrongPhase not_one not_two is also = absurd (may_clash a b same is.0 order.WrongPhase also refl)
one_ask a b table another same alike order.TableFull order.Busy not_one not_two is also = absurd (may_clash a b same is.0 order.Busy also refl)
one_ask a b table another same alike order.TableFull order.NumbersSpent not_one not_two is also = absurd (may_clash a b same is.0 order.NumbersSpent also refl)
one_ask a b table another same alike order.TableFull order.TableFull not_one not_two is also = refl
one_ask a b table another same alike order.TableFull order.SpisSpent not_one not_two is also = absurd (also.1 (subst (λ (d : Database). IsFull d) alike is.1))
one_ask a b table another same alike order.SpisSpent order.WrongPhase not_one not_two is also = absurd (may_clash a b same is.0 order.WrongPhase also refl)
one_ask a b table another same alike order.SpisSpent order.Busy not_one not_two is also = absurd (may_clash a b same is.0 order.Busy also refl)
one_ask a b table another same alike order.SpisSpent order.NumbersSpent not_one not_two is also = absurd (may_clash a b same is.0 order.NumbersSpent also refl)
one_ask a b table another same alike order.SpisSpent order.TableFull not_one not_two is also = absurd (is.1 (subst (λ (d : Database). IsFull d) (sym alike) also.1))
one_ask a b table another same alike order.SpisSpent order.SpisSpent not_one not_two is also = refl

one_further_at : (o p : Option Association) (table another : Database) (one two : IkeFault) → option_map association_content o ≡ option_map association_content p → table_content table ≡ table_content another
    → is_want_of_memory one ≡ false → is_want_of_memory two ≡ false → RefusesFurtherAt o table one → RefusesFurtherAt p another two → one ≡ two
one_further_at None None table another one two same alike not_one not_two is also = is ∙ sym also
one_further_at None (Some b) table another one two same alike not_one not_two is also = absurd cc
one_further_at (Some a) None table another one two same alike not_one not_two is also = absurd cc
one_further_at (Some a) (Some b) table another one two same alike not_one not_two is also =
    let here : association_content a ≡ association_content b = cc in
    is.2
    ∙ one_ask a b table another here alike is.0 also.0 (sym (ap is_want_of_memory is.2) ∙ not_one) (sym (ap is_want_of_memory also.2) ∙ not_two) is.1 also.1
    ∙ sym also.2

pub one_further_refusal : (entry : Option Entry) (serial : ℕ) (old other : Held) (table another : Database) (one two : IkeFault) → held_content old ≡ held_content other → table_content table ≡ table_content another
    → is_want_of_memory one ≡ false → is_want_of_memory two ≡ false → RefusesFurtherBy entry serial old table one → RefusesFurtherBy entry serial other another two → one ≡ two
one_further_refusal None serial old other table another one two same alike not_one not_two is also = is ∙ sym also
one_further_refusal (Some entry) serial old other table another one two same alike not_one not_two is also =
    one_further_at (association_of serial old.associations) (association_of serial other.associations) table another one two (same_association serial old other same) alike not_one not_two is also

-- ---- what is commanded

same_pair : (one other : Pair) → Some one ≡ Some other → one ≡ other
same_pair one other same = cc

one_child_refusal : (state : State) (serial : ℕ) (old other : Held) (one two : IkeFault) → held_content old ≡ held_content other → is_want_of_memory one ≡ false → is_want_of_memory two ≡ false
    → RefusesChildBy state (association_of serial old.associations) one → RefusesChildBy state (association_of serial other.associations) two → one ≡ two
one_child_refusal state.Live serial old other one two same not_one not_two is also = one_probe_refusal serial old other one two same not_one not_two is also
one_child_refusal state.Deleting serial old other one two same not_one not_two is also = is ∙ sym also

one_named_refusal : (pair : Option Pair) (old other : Held) (one two : IkeFault) → held_content old ≡ held_content other → is_want_of_memory one ≡ false → is_want_of_memory two ≡ false
    → RefusesChild pair old one → RefusesChild pair other two → one ≡ two
one_named_refusal None old other one two same not_one not_two is also = is ∙ sym also
one_named_refusal (Some pair) old other one two same not_one not_two is also = one_child_refusal pair.state pair.ike old other one two same not_one not_two is also

pub one_asking_refusal : (what : OrderView) (old other : Held) (table another : Database) (one two : IkeFault) → held_content old ≡ held_content other → table_content table ≡ table_content another
    → is_want_of_memory one ≡ false → is_want_of_memory two ≡ false → RefusesAsking what old table one → RefusesAsking what other another two → one ≡ two
one_asking_refusal (orders.Probe ike) old other table another one two same alike not_one not_two is also = one_probe_refusal ike old other one two same not_one not_two is also
one_asking_refusal (orders.DeleteChild serial) old other table another one two same alike not_one not_two is also =
    one_named_refusal (pair_at table.pairs serial) old other one two same not_one not_two is
    (subst (λ (p : Option Pair). RefusesChild p other two) (sym (ap (λ (d : Database). pair_at d.pairs serial) alike)) also)
one_asking_refusal (orders.DeleteIke ike) old other table another one two same alike not_one not_two is also = one_probe_refusal ike old other one two same not_one not_two is also

pub asked_or_refused : (body_of : Keys → Octets → Octets → Octets → Octets) (setup : Setup) (what : OrderView) (old other : Held) (table another : Database) (stepped : Stepped) (new : Held) (new_table : Database) (reason : IkeFault)
    → held_content old ≡ held_content other → table_content table ≡ table_content another → AsksFor body_of setup what old table stepped new new_table → RefusesAsking what other another reason
    → is_want_of_memory reason ≡ true
asked_or_refused body_of setup (orders.Probe ike) old other table another stepped new new_table reason same alike is refuses = probe_or_refused body_of setup ike asked.Probe old other table stepped new new_table reason same is refuses
asked_or_refused body_of setup (orders.DeleteChild serial) old other table another stepped new new_table reason same alike is refuses =
    let there : pair_at another.pairs serial ≡ Some is.pair = sym (ap (λ (d : Database). pair_at d.pairs serial) alike) ∙ is.there in
    let by : RefusesChildBy is.pair.state (association_of is.pair.ike other.associations) reason = subst (λ (p : Option Pair). RefusesChild p other reason) there refuses in
    probe_or_refused body_of setup is.pair.ike (asked.DeleteChild serial is.pair.inbound.association.spi) old other table stepped new new_table reason same is.asks
    (subst (λ (s : State). RefusesChildBy s (association_of is.pair.ike other.associations) reason) is.live by)
asked_or_refused body_of setup (orders.DeleteIke ike) old other table another stepped new new_table reason same alike is refuses = probe_or_refused body_of setup ike asked.DeleteAssociation old other table stepped new new_table reason same is refuses

pub moment_refused : (now : ℕ) (associations : List Association) (reason : IkeFault) → RefusesMoment now associations reason → is_want_of_memory reason ≡ true
moment_refused now associations (fault.Unread f) is = absurd is
moment_refused now associations (fault.Message f) is = absurd is
moment_refused now associations fault.Unprotected is = absurd is
moment_refused now associations fault.Crowded is = absurd is
moment_refused now associations fault.TableFull is = absurd is
moment_refused now associations fault.SpisSpent is = absurd is
moment_refused now associations fault.HalfOpenFull is = absurd is
moment_refused now associations fault.Busy is = absurd is
moment_refused now associations fault.NumbersSpent is = absurd is
moment_refused now associations fault.BadFresh is = absurd is
moment_refused now associations (fault.Memory f) is = refl

-- it comes only where something comes with the tick
pub moment_needs : (now : ℕ) (associations : List Association) (reason : IkeFault) → RefusesMoment now associations reason → SomethingComes now associations
moment_needs now associations (fault.Unread f) is = absurd is
moment_needs now associations (fault.Message f) is = absurd is
moment_needs now associations fault.Unprotected is = absurd is
moment_needs now associations fault.Crowded is = absurd is
moment_needs now associations fault.TableFull is = absurd is
moment_needs now associations fault.SpisSpent is = absurd is
moment_needs now associations fault.HalfOpenFull is = absurd is
moment_needs now associations fault.Busy is = absurd is
moment_needs now associations fault.NumbersSpent is = absurd is
moment_needs now associations fault.BadFresh is = absurd is
moment_needs now associations (fault.Memory f) is = is.1
