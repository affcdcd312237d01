-- What is dropped, or comes again, changes nothing.
use Rattle.std.proofs.Common.{◌≡◌, inl, inr, ℕ, zero, suc, ◌∷◌, [], Bool, true, false, List, Option, Some, None, Result, Ok, Err, ap, refl, subst, ◌∙◌}
use Rattle.std.specs.List.{position, slice_get}
use Rattle.std.specs.Prelude.{slice_set}
use Rattle.base.specs.Octets.{Octets}
use Rattle.wire.specs.declared.message.Message.{Message}
use Rattle.policy.specs.declared.entry.Entry.{Entry}
use Rattle.sadb.specs.Database.{Database}
use Rattle.sa_init.specs.Cookies.{CookieSecrets}
use Rattle.sa_init.specs.Judging.{Accepted, Answered, Full, Incomplete, JudgementView, OfferView}
use Rattle.association.specs.Finding.{place_meant}
use Rattle.association.specs.declared.fault.MessageFault.{MessageFault}
use Rattle.association.specs.declared.phase.Association.{Association}
use Rattle.setup.specs.Configs.{Setup}
use Rattle.effects.specs.Taking.{Meaning, TakesMessage}
use Rattle.effects.specs.declared.taking.Effect.{Effect}
use Rattle.effects.specs.declared.taking.Effect.TheVariants as effect
use Rattle.ike.proofs.WayLemmas.{asked_one, further_one}
use Rattle.ike.specs.Machines.{setup_at, Held, Machine}
use Rattle.ike.specs.Outputs.{half_open_step, stepped_of, IsQuiet}
use Rattle.ike.specs.Receiving.{is_answered, is_initial_request, is_sound_initial, DoesJudgement, TakesAt, TakesDatagram, TakesFound, TakesOffer, TakesRead, TakesRequestAt, TakesSound}
use Rattle.ike.specs.Steps.{InputView, KeepsRest, Steps}
use Rattle.ike.specs.Steps as steps
use Rattle.ike.specs.declared.output.Stepped.{Stepped}

-- what is known of a message's effect
pub record Quietness : Type 0 where
  pub refused : (meaning : Meaning) (setup : Setup) (old : Association) (table : Database) (octets : Octets) (m : Message) (fault : MessageFault) (new : Association) (new_table : Database)
      → TakesMessage meaning setup old table octets m (effect.Refused fault) new new_table → (new ≡ old) × (new_table ≡ table)
  pub repeated : (meaning : Meaning) (setup : Setup) (old : Association) (table : Database) (octets : Octets) (m : Message) (reply : Octets) (new : Association) (new_table : Database)
      → TakesMessage meaning setup old table octets m (effect.Repeated reply) new new_table → (new ≡ old) × (new_table ≡ table)

-- nothing of what is held changed, and nothing of the table
abbrev pub Still : Held → Database → Held → Database → Type 0
Still old table new new_table = (new ≡ old) × (new_table ≡ table)

abbrev pub quiet_like : (s t : Stepped) → s ≡ t → IsQuiet s.output → IsQuiet t.output
quiet_like s t same quiet = subst (λ (x : Stepped). IsQuiet x.output) same quiet

-- an item put back where it stood
first_item : {A : Type 0} (z x : A) → Some z ≡ Some x → x ≡ z
first_item z x e = cc

pub put_back : {A : Type 0} (xs : List A) (place : ℕ) (x y : A) → slice_get xs place ≡ Some x → y ≡ x → slice_set xs place y ≡ xs
put_back [] place x y there same = refl
put_back (z ∷ xs) zero x y there same = ap (λ w. w ∷ xs) (same ∙ first_item z x there)
put_back (z ∷ xs) (suc place) x y there same = ap (λ ws. z ∷ ws) (put_back xs place x y there same)

quiet_effect : (facts : Quietness) (meaning : Meaning) (setup : Setup) (octets : Octets) (m : Message) (e : Effect) (a changed : Association) (ike : ℕ) (table new_table : Database)
    → IsQuiet (stepped_of ike m.header.id e).output → TakesMessage meaning setup a table octets m e changed new_table → (changed ≡ a) × (new_table ≡ table)
quiet_effect facts meaning setup octets m (effect.Refused fault) a changed ike table new_table quiet takes = facts.refused meaning setup a table octets m fault changed new_table takes
quiet_effect facts meaning setup octets m (effect.Repeated reply) a changed ike table new_table quiet takes = facts.repeated meaning setup a table octets m reply changed new_table takes
quiet_effect facts meaning setup octets m (effect.Replied answered) a changed ike table new_table quiet takes = absurd quiet
quiet_effect facts meaning setup octets m (effect.Again next) a changed ike table new_table quiet takes = absurd quiet
quiet_effect facts meaning setup octets m (effect.AsksAuth next) a changed ike table new_table quiet takes = absurd quiet
quiet_effect facts meaning setup octets m (effect.Counted ended) a changed ike table new_table quiet takes = absurd quiet

quiet_at : (facts : Quietness) (place : ℕ) (meaning : Meaning) (setup : Setup) (octets : Octets) (m : Message) (old : Held) (table : Database) (stepped : Stepped) (new : Held) (new_table : Database)
    → IsQuiet stepped.output → TakesAt place meaning setup octets m old table stepped new new_table → Still old table new new_table
quiet_at facts place meaning setup octets m old table stepped new new_table quiet is =
    let same = quiet_effect facts meaning setup octets m is.effect is.association is.changed is.association.serial table new_table
    (quiet_like stepped (stepped_of is.association.serial m.header.id is.effect) is.said quiet) is.takes in
    (is.content ∙ ap (λ xs. record { next = old.next; associations = xs }) (put_back old.associations place is.association is.changed is.there same.0), same.1)

quiet_found : (facts : Quietness) (r : Result ℕ MessageFault) (meaning : Meaning) (setup : Setup) (octets : Octets) (m : Message) (old : Held) (table : Database) (stepped : Stepped) (new : Held) (new_table : Database)
    → IsQuiet stepped.output → TakesFound r meaning setup octets m old table stepped new new_table → Still old table new new_table
quiet_found facts (Ok place) meaning setup octets m old table stepped new new_table quiet is = quiet_at facts place meaning setup octets m old table stepped new new_table quiet is
quiet_found facts (Err f) meaning setup octets m old table stepped new new_table quiet is = (is.0.unchanged, is.1)

quiet_offer : (meaning : Meaning) (setup : Setup) (offer : OfferView) (spi_i : ℕ) (octets : Octets) (old : Held) (stepped : Stepped) (new : Held)
    → IsQuiet stepped.output → TakesOffer meaning setup offer spi_i octets old stepped new → new ≡ old
quiet_offer meaning setup offer spi_i octets old stepped new quiet is =
    elim is.done [
      | inl refused ↦ refused.1.unchanged
      | inr made ↦ absurd (quiet_like stepped (half_open_step old.next made.admitted.octets) made.said quiet)
    ]

quiet_judged : (meaning : Meaning) (setup : Setup) (spi_i : ℕ) (octets : Octets) (j : JudgementView) (old : Held) (stepped : Stepped) (new : Held)
    → IsQuiet stepped.output → DoesJudgement meaning setup spi_i octets j old stepped new → new ≡ old
quiet_judged meaning setup spi_i octets (Answered notice) old stepped new quiet is = is.1
quiet_judged meaning setup spi_i octets Incomplete old stepped new quiet is = is.unchanged
quiet_judged meaning setup spi_i octets Full old stepped new quiet is = is.unchanged
quiet_judged meaning setup spi_i octets (Accepted offer) old stepped new quiet is = quiet_offer meaning setup offer spi_i octets old stepped new quiet is

quiet_request : (o : Option ℕ) (meaning : Meaning) (setup : Setup) (cookies : CookieSecrets) (from octets : Octets) (m : Message) (old : Held) (stepped : Stepped) (new : Held)
    → IsQuiet stepped.output → TakesRequestAt o meaning setup cookies from octets m old stepped new → new ≡ old
quiet_request (Some place) meaning setup cookies from octets m old stepped new quiet is = is.1
quiet_request None meaning setup cookies from octets m old stepped new quiet is = quiet_judged meaning setup m.header.spi_i octets is.judgement old stepped new quiet is.done

quiet_sound : (b : Bool) (meaning : Meaning) (setup : Setup) (cookies : CookieSecrets) (from octets : Octets) (m : Message) (old : Held) (stepped : Stepped) (new : Held)
    → IsQuiet stepped.output → TakesSound b meaning setup cookies from octets m old stepped new → new ≡ old
quiet_sound true meaning setup cookies from octets m old stepped new quiet is =
    quiet_request (position (is_answered octets) old.associations) meaning setup cookies from octets m old stepped new quiet is
quiet_sound false meaning setup cookies from octets m old stepped new quiet is = is.unchanged

quiet_read : (facts : Quietness) (b : Bool) (meaning : Meaning) (setup : Setup) (cookies : CookieSecrets) (from octets : Octets) (m : Message) (old : Held) (table : Database) (stepped : Stepped) (new : Held) (new_table : Database)
    → IsQuiet stepped.output → TakesRead b meaning setup cookies from octets m old table stepped new new_table → Still old table new new_table
quiet_read facts true meaning setup cookies from octets m old table stepped new new_table quiet is =
    (quiet_sound (is_sound_initial m.header) meaning setup cookies from octets m old stepped new quiet is.0, is.1)
quiet_read facts false meaning setup cookies from octets m old table stepped new new_table quiet is =
    quiet_found facts (place_meant m.header old.associations) meaning setup octets m old table stepped new new_table quiet is

quiet_datagram : (facts : Quietness) (meaning : Meaning) (setup : Setup) (cookies : CookieSecrets) (from octets : Octets) (old : Held) (table : Database) (stepped : Stepped) (new : Held) (new_table : Database)
    → IsQuiet stepped.output → TakesDatagram meaning setup cookies from octets old table stepped new new_table → Still old table new new_table
quiet_datagram facts meaning setup cookies from octets old table stepped new new_table quiet is =
    elim is [
      | inl unread ↦ (unread.passed.unchanged, unread.unchanged)
      | inr read ↦ quiet_read facts (is_initial_request read.message.header) meaning setup cookies from octets read.message old table stepped new new_table quiet read.done
    ]

whole : (old new : Machine) → KeepsRest old new → new.held ≡ old.held → new ≡ old
whole old new rest same = rest ∙ ap (λ (h : Held). record old { held = h }) same

pub quiet_step : (facts : Quietness) (meaning : Meaning) (entries : List Entry) (input : InputView) (old : Machine) (table : Database) (stepped : Stepped) (new : Machine) (new_table : Database)
    → Steps meaning entries input old table stepped new new_table → IsQuiet stepped.output → (new ≡ old) × (new_table ≡ table)
quiet_step facts meaning entries (steps.Message from octets fresh) old table stepped new new_table is quiet =
    let still = quiet_datagram facts meaning (setup_at old entries fresh) old.cookies from octets old.held table stepped new.held new_table quiet is.1 in
    (whole old new is.0 still.0, still.1)
quiet_step facts meaning entries (steps.Start None place fresh) old table stepped new new_table is quiet =
    absurd (quiet_like stepped _ is.1.done.said quiet)
quiet_step facts meaning entries (steps.Start (Some asker) place fresh) old table stepped new new_table is quiet =
    let one = further_one meaning (setup_at old entries fresh) asker place old.held table stepped new.held new_table is.1 in
    absurd (quiet_like stepped _ one.probes.said quiet)
quiet_step facts meaning entries (steps.Order what fresh) old table stepped new new_table is quiet =
    let one = asked_one meaning (setup_at old entries fresh) what old.held table stepped new.held new_table is.1 in
    absurd (quiet_like stepped _ one.probes.said quiet)
quiet_step facts meaning entries (steps.Tick moment) old table stepped new new_table is quiet =
    absurd (quiet_like stepped _ is.takes.said quiet)
quiet_step facts meaning entries (steps.Secret secret) old table stepped new new_table is quiet =
    absurd (quiet_like stepped _ is.said quiet)
