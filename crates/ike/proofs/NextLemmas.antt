-- Before the next time at which something is due nothing comes.
use Rattle.std.proofs.Common.{◌≡◌, ◌<◌, ◌^◌, [], ℕ, List, Option, All, IfSome, length, max, ap, ◌∙◌, arith, inl, inr, subst, sym}
use Rattle.std.proofs.lemmas.Bool.Decides.{leb_tells}
use Rattle.std.proofs.lemmas.List.Elements.{All-weaker}
use Rattle.std.proofs.lemmas.Option.{IfSome_then}
use Rattle.sadb.specs.Database.{Database}
use Rattle.association.specs.declared.phase.Association.{Association}
use Rattle.moments.specs.Held.{HasNothingDue, IsInTime}
use Rattle.moments.specs.Next.{IsBefore, NothingIsDueBefore, SomethingIsDue}
use Rattle.moments.specs.Ticking.{Ticks}
use Rattle.moments.specs.declared.ticking.Ticked.{Ticked}
use Rattle.ike.specs.Machines.{Held, Machine}
use Rattle.ike.specs.Moments.{IsTimely}
use Rattle.ike.specs.Outputs.{plain_step}
use Rattle.policy.specs.declared.entry.Entry.{Entry}
use Rattle.moments.specs.Due.{SomethingComes}
use Rattle.effects.specs.Taking.{Meaning}
use Rattle.ike.specs.Steps.{Refuses, Tick}
use Rattle.ike.specs.Ticking.{TakesMoment}
use Rattle.ike.specs.declared.fault.IkeFault.{IkeFault}
use Rattle.ike.proofs.OrderLemmas.{moment_needs}
use Rattle.ike.specs.declared.output.IkeOutput.{IkeOutput}
use Rattle.ike.specs.declared.output.IkeOutput.TheVariants as output
use Rattle.ike.specs.declared.output.Stepped.{Stepped}

-- what is known of a time at which nothing is due
abbrev pub NothingBefore : Type 0
NothingBefore = (now : ℕ) (old new : List Association) (table new_table : Database) (ticked : Ticked) → All (HasNothingDue now) old → Ticks now old table ticked new new_table
    → (ticked ≡ record { requests = []; closed = [] }) × (new ≡ old) × (new_table ≡ table)

-- what is known of a time at which something is
abbrev pub LiesAhead : Type 0
LiesAhead = (now later : ℕ) (associations : List Association) → All (HasNothingDue now) associations → SomethingIsDue later associations → now < later

pub none_now : (machine : Machine) → IsTimely machine → All (HasNothingDue machine.moment) machine.held.associations
none_now machine timely = All-weaker (IsInTime machine.moment) (HasNothingDue machine.moment) (λ a is. is.nothing_due) machine.held.associations timely

none_then : (next : Option ℕ) (moment : ℕ) (old : Machine) → IsTimely old → NothingIsDueBefore next old.held.associations → moment < 2 ^ 64 → IsBefore moment next → All (HasNothingDue (max old.moment moment)) old.held.associations
none_then next moment old timely quiet fits before =
    elim (leb_tells old.moment moment) [
      | inl (_, less) ↦ (let same : moment ≡ max old.moment moment = omega arith in subst (λ (now : ℕ). All (HasNothingDue now) old.held.associations) same (quiet moment fits before))
      | inr (_, more) ↦ (let same : old.moment ≡ max old.moment moment = omega arith in subst (λ (now : ℕ). All (HasNothingDue now) old.held.associations) same (none_now old timely))
    ]

pub untouched : NothingBefore → (next : Option ℕ) (moment : ℕ) (old : Machine) (table : Database) (stepped : Stepped) (new : Machine) (new_table : Database) → IsTimely old → NothingIsDueBefore next old.held.associations → moment < 2 ^ 64 → IsBefore moment next
    → TakesMoment moment old table stepped new new_table → (stepped ≡ plain_step (output.Ticked (record { requests = []; closed = [] }))) × (new ≡ record old { moment = max old.moment moment }) × (new_table ≡ table)
untouched law next moment old table stepped new new_table timely quiet fits before is =
    let none = none_then next moment old timely quiet fits before in
    let same = law (max old.moment moment) old.held.associations new.held.associations table new_table is.takes.ticked none is.takes.ticks in
    let held : new.held ≡ old.held = λ i. record { next = is.takes.next i; associations = same.1 i } in
    (is.takes.said ∙ ap (λ (t : Ticked). plain_step (output.Ticked t)) same.0, is.content ∙ ap (λ (h : Held). record old { moment = max old.moment moment; held = h }) held, same.2)

pub ahead_of : LiesAhead → (machine : Machine) (next : Option ℕ) → IfSome next (λ moment. SomethingIsDue moment machine.held.associations) → IsTimely machine → IfSome next (λ moment. machine.moment < moment)
ahead_of law machine next due timely = IfSome_then next due (λ m some. law machine.moment m machine.held.associations (none_now machine timely) some)

-- what is known of a time at which nothing is due, by what comes of it
abbrev pub NoneComes : Type 0
NoneComes = (now : ℕ) (associations : List Association) → All (HasNothingDue now) associations → SomethingComes now associations → ⊥

pub unrefused_before : NoneComes → (meaning : Meaning) (entries : List Entry) (next : Option ℕ) (moment : ℕ) (machine : Machine) (table : Database) (reason : IkeFault) → IsTimely machine → NothingIsDueBefore next machine.held.associations
    → moment < 2 ^ 64 → IsBefore moment next → Refuses meaning entries (Tick moment) machine table reason → ⊥
unrefused_before law meaning entries next moment machine table reason timely quiet fits before is =
    law (max machine.moment moment) machine.held.associations (none_then next moment machine timely quiet fits before) (moment_needs (max machine.moment moment) machine.held.associations reason is)

-- what is known of a time at which something is due, by what comes of it
abbrev pub SomeComes : Type 0
SomeComes = (now : ℕ) (old new : List Association) (table new_table : Database) (ticked : Ticked) → SomethingIsDue now old → Ticks now old table ticked new new_table → (ticked.requests ≡ []) × (ticked.closed ≡ []) × (length new ≡ length old) → ⊥

abbrev ticked_of : IkeOutput → Ticked
ticked_of (output.Ticked ticked) = ticked
ticked_of _ = record { requests = []; closed = [] }

abbrev ticked_in : Stepped → Ticked
ticked_in s = ticked_of s.output

pub brought : SomeComes → (moment : ℕ) (old : Machine) (table : Database) (stepped : Stepped) (new : Machine) (new_table : Database) → SomethingIsDue (max old.moment moment) old.held.associations → TakesMoment moment old table stepped new new_table
    → (stepped ≡ plain_step (output.Ticked (record { requests = []; closed = [] }))) × (length new.held.associations ≡ length old.held.associations) → ⊥
brought law moment old table stepped new new_table due is nothing =
    let same : is.takes.ticked ≡ record { requests = []; closed = [] } = ap ticked_in (sym is.takes.said ∙ nothing.0) in
    law (max old.moment moment) old.held.associations new.held.associations table new_table is.takes.ticked due is.takes.ticks
    (ap (λ (t : Ticked). t.requests) same, ap (λ (t : Ticked). t.closed) same, nothing.1)
