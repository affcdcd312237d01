-- The time brings the same, whatever the serials of the IKE SAs.
use Rattle.std.proofs.Common.{◌≡◌, ◌∷◌, ℕ, Bool, true, false, [], List, map, max, refl, ap, sym, ◌∙◌}
use Rattle.std.specs.List.{filter}
use Rattle.std.proofs.lemmas.List.{map-append}
use Rattle.sadb.specs.Database.{Database}
use Rattle.association.specs.declared.phase.Association.{Association}
use Rattle.association.specs.declared.phase.Request.{Request}
use Rattle.moments.specs.Due.{closed_by, closed_of, due_of, has_failed, is_due, is_over, outstanding_of, resent, sent_by, sent_of, SendsAgain, SomethingComes}
use Rattle.moments.specs.Ticking.{PassAll, Passes, PassesBy}
use Rattle.moments.specs.declared.resent.Resent.{Resent}
use Rattle.ike.specs.Machines.{Machine}
use Rattle.ike.specs.Ticking.{RefusesMoment, TakesMoment}
use Rattle.ike.specs.declared.fault.IkeFault.{IkeFault}
use Rattle.ike.specs.declared.fault.IkeFault.TheVariants as fault
use Rattle.ike.specs.declared.output.Stepped.{Stepped}
use Rattle.gateway.specs.Renaming.{renamed_association, renamed_machine, renamed_resent, renamed_stepped, renamed_table, renamed_ticked}
use Rattle.gateway.proofs.RenamedLaws.{RenamedLaws}
use Rattle.gateway.proofs.HeldRenaming.{mapped}

-- ---- what is due

renamed_requests : (r : ℕ → ℕ) (a : Association) (es : List (ℕ × Request)) → map (resent (renamed_association r a)) es ≡ map (renamed_resent r) (map (resent a) es)
renamed_requests r a [] = refl
renamed_requests r a (e ∷ es) = ap (λ (l : List Resent). renamed_resent r (resent a e) ∷ l) (renamed_requests r a es)

renamed_due : (r : ℕ → ℕ) (now : ℕ) (a : Association) → due_of now (renamed_association r a) ≡ map (renamed_resent r) (due_of now a)
renamed_due r now a = renamed_requests r a (filter (λ e. is_due now e.1) (outstanding_of a))

renamed_sent_by : (r : ℕ → ℕ) (over failed : Bool) (now : ℕ) (a : Association) → sent_by over failed now (renamed_association r a) ≡ map (renamed_resent r) (sent_by over failed now a)
renamed_sent_by r true failed now a = refl
renamed_sent_by r false true now a = refl
renamed_sent_by r false false now a = renamed_due r now a

renamed_closed_by : (r : ℕ → ℕ) (over failed : Bool) (a : Association) → closed_by over failed (renamed_association r a) ≡ map r (closed_by over failed a)
renamed_closed_by r true failed a = refl
renamed_closed_by r false true a = refl
renamed_closed_by r false false a = refl

renamed_again : (r : ℕ → ℕ) (now : ℕ) (old new : Association) → SendsAgain now old new → SendsAgain now (renamed_association r old) (renamed_association r new)
renamed_again r now old new is = record { each = is.each; content = ap (renamed_association r) is.content }

-- ---- one IKE SA after the other

module _ (r : ℕ → ℕ) (laws : RenamedLaws r) (now : ℕ) where
  renamed_passes_by : (over failed : Bool) (old : Association) (table : Database) (sent : List Resent) (closed : List ℕ) (held : List Association) (new_table : Database)
      → PassesBy over failed now old table sent closed held new_table
      → PassesBy over failed now (renamed_association r old) (renamed_table r table) (map (renamed_resent r) sent) (map r closed) (map (renamed_association r) held) (renamed_table r new_table)
  renamed_passes_by true failed old table sent closed held new_table is = (
    ap (λ (l : List Resent). map (renamed_resent r) l) is.0,
    ap (λ (l : List ℕ). map r l) is.1,
    ap (λ (l : List Association). map (renamed_association r) l) is.2,
    ap (renamed_table r) is.3,
  )
  renamed_passes_by false true old table sent closed held new_table is = (
    renamed_association r is.0,
    laws.associations.closes old is.0 table new_table now is.1,
    ap (λ (l : List Resent). map (renamed_resent r) l) is.2,
    ap (λ (l : List ℕ). map r l) is.3,
    ap (λ (l : List Association). map (renamed_association r) l) is.4,
  )
  renamed_passes_by false false old table sent closed held new_table is = (
    renamed_association r is.0,
    renamed_again r now old is.0 is.1,
    ap (λ (l : List Resent). map (renamed_resent r) l) is.2 ∙ sym (renamed_due r now old),
    ap (λ (l : List ℕ). map r l) is.3,
    ap (λ (l : List Association). map (renamed_association r) l) is.4,
    ap (renamed_table r) is.5,
  )

  renamed_passes : (old : Association) (table : Database) (sent : List Resent) (closed : List ℕ) (held : List Association) (new_table : Database) → Passes now old table sent closed held new_table
      → Passes now (renamed_association r old) (renamed_table r table) (map (renamed_resent r) sent) (map r closed) (map (renamed_association r) held) (renamed_table r new_table)
  renamed_passes old table sent closed held new_table is = record { done = renamed_passes_by (is_over now old.phase) (has_failed now old) old table sent closed held new_table is.done }

  pub renamed_all : (old : List Association) (table : Database) (sent : List Resent) (closed : List ℕ) (held : List Association) (new_table : Database) → PassAll now old table sent closed held new_table
      → PassAll now (map (renamed_association r) old) (renamed_table r table) (map (renamed_resent r) sent) (map r closed) (map (renamed_association r) held) (renamed_table r new_table)
  renamed_all [] table sent closed held new_table is = (
    ap (λ (l : List Resent). map (renamed_resent r) l) is.0,
    ap (λ (l : List ℕ). map r l) is.1,
    ap (λ (l : List Association). map (renamed_association r) l) is.2,
    ap (renamed_table r) is.3,
  )
  renamed_all (a ∷ rest) table sent closed held new_table is = record {
    sent_first = map (renamed_resent r) is.sent_first;
    sent_rest = map (renamed_resent r) is.sent_rest;
    closed_first = map r is.closed_first;
    closed_rest = map r is.closed_rest;
    held_first = map (renamed_association r) is.held_first;
    held_rest = map (renamed_association r) is.held_rest;
    between = renamed_table r is.between;
    passes = renamed_passes a table is.sent_first is.closed_first is.held_first is.between is.passes;
    others = renamed_all rest is.between is.sent_rest is.closed_rest is.held_rest new_table is.others;
    sent_all = ap (λ (l : List Resent). map (renamed_resent r) l) is.sent_all ∙ map-append (renamed_resent r) is.sent_first is.sent_rest;
    closed_all = ap (λ (l : List ℕ). map r l) is.closed_all ∙ map-append r is.closed_first is.closed_rest;
    held_all = ap (λ (l : List Association). map (renamed_association r) l) is.held_all ∙ map-append (renamed_association r) is.held_first is.held_rest;
  }

-- ---- a moment

pub renamed_moment : (r : ℕ → ℕ) → RenamedLaws r → (moment : ℕ) (old : Machine) (table : Database) (stepped : Stepped) (new : Machine) (new_table : Database) → TakesMoment moment old table stepped new new_table
    → TakesMoment moment (renamed_machine r old) (renamed_table r table) (renamed_stepped r stepped) (renamed_machine r new) (renamed_table r new_table)
renamed_moment r laws moment old table stepped new new_table is =
    let takes = is.takes in
    record {
      takes = record {
        ticked = renamed_ticked r takes.ticked;
        ticks = renamed_all r laws (max old.moment moment) old.held.associations table takes.ticked.requests takes.ticked.closed new.held.associations new_table takes.ticks;
        said = ap (renamed_stepped r) takes.said;
        next = ap r takes.next;
      };
      content = ap (renamed_machine r) is.content;
    }

-- ---- why it is refused

nothing_mapped : {A B : Type 0} (g : A → B) (xs : List A) → map g xs ≡ [] → xs ≡ []
nothing_mapped g [] none = refl
nothing_mapped g (x ∷ xs) none = absurd (cc)

renamed_comes : (r : ℕ → ℕ) (now : ℕ) (associations : List Association) → SomethingComes now associations → SomethingComes now (map (renamed_association r) associations)
renamed_comes r now associations is =
    let a : Association = is.association in
    let over : Bool = is_over now a.phase in
    let failed : Bool = has_failed now a in
    record {
      association = renamed_association r a;
      held = mapped (renamed_association r) associations a is.held;
      comes = λ none. is.comes (
        nothing_mapped (renamed_resent r) (sent_of now a) (sym (renamed_sent_by r over failed now a) ∙ none.0),
        nothing_mapped r (closed_of now a) (sym (renamed_closed_by r over failed a) ∙ none.1),
      );
    }

pub renamed_moment_refusal : (r : ℕ → ℕ) (now : ℕ) (associations : List Association) (reason : IkeFault) → RefusesMoment now associations reason → RefusesMoment now (map (renamed_association r) associations) reason
renamed_moment_refusal r now associations (fault.Memory f) is = (is.0, renamed_comes r now associations is.1)
renamed_moment_refusal r now associations (fault.Unread f) is = absurd is
renamed_moment_refusal r now associations (fault.Message f) is = absurd is
renamed_moment_refusal r now associations fault.Unprotected is = absurd is
renamed_moment_refusal r now associations fault.Crowded is = absurd is
renamed_moment_refusal r now associations fault.TableFull is = absurd is
renamed_moment_refusal r now associations fault.SpisSpent is = absurd is
renamed_moment_refusal r now associations fault.HalfOpenFull is = absurd is
renamed_moment_refusal r now associations fault.Busy is = absurd is
renamed_moment_refusal r now associations fault.NumbersSpent is = absurd is
renamed_moment_refusal r now associations fault.BadFresh is = absurd is
