-- A datagram does the same, whatever the serials of the IKE SAs.
use Rattle.std.proofs.Common.{◌<◌, ◌≤◌, ◌+◌, inl, inr, ℕ, Bool, true, false, length, map, Option, Some, None, Result, Ok, Err, ap, subst, sym, ◌∙◌, arith}
use Rattle.std.specs.FinSet as set
use Rattle.std.specs.List.{position}
use Rattle.base.specs.Octets.{Octets}
use Rattle.wire.specs.declared.message.Message.{Message}
use Rattle.exchange.specs.declared.notices.Notice.{Notice}
use Rattle.exchange.specs.declared.sealed.Plain.{Plain}
use Rattle.sadb.specs.Database.{Database, IsFull}
use Rattle.sa_init.specs.Cookies.{CookieSecrets}
use Rattle.sa_init.specs.Judging.{Accepted, Answered, Full, Incomplete, IsJudgement, JudgementView, OfferView}
use Rattle.children.specs.declared.fault.MemoryFault.{MemoryFault}
use Rattle.children.specs.declared.fault.MemoryFault.TheVariants as child
use Rattle.association.specs.Finding.{place_meant}
use Rattle.association.specs.Receiving.{Opening}
use Rattle.association.specs.declared.fault.MessageFault.{MessageFault}
use Rattle.association.specs.declared.fault.MessageFault.TheVariants.{WrongPhase}
use Rattle.association.specs.declared.phase.Association.{Association}
use Rattle.setup.specs.Configs.{Setup}
use Rattle.effects.specs.Taking.{CanMakeChild, CanTakeOf, HasItsEffect, Meaning}
use Rattle.ike.specs.Machines.{half_open_count, Held, SERIAL_END}
use Rattle.ike.specs.Receiving.{is_answered, is_initial_request, is_sound_initial, sender_of, AdmitsNext, CanMake, CannotMake, DoesJudgement, IsJudged, PassesOver, RefusesDatagram, RefusesInitial, Repeats, SaysNotice, TakesAt, TakesDatagram, TakesFound, TakesNew, TakesOffer, TakesRead, TakesRequestAt, TakesSound, WantsForChild}
use Rattle.ike.specs.declared.fault.IkeFault.{IkeFault}
use Rattle.ike.specs.declared.fault.IkeFault.TheVariants as fault
use Rattle.ike.specs.declared.output.Stepped.{Stepped}
use Rattle.gateway.specs.Renaming.{renamed_association, renamed_held, renamed_stepped, renamed_table, IsRenaming}
use Rattle.gateway.proofs.RenamedLaws.{RenamedLaws}
use Rattle.gateway.proofs.HeldRenaming.{renamed_after_change, renamed_after_next, renamed_effect, same_answered, same_bad, same_count, same_found, same_length, stands_renamed}

-- ---- room in the table

module _ (r : ℕ → ℕ) (laws : RenamedLaws r) (table : Database) where
  pub renamed_full : IsFull table → IsFull (renamed_table r table)
  renamed_full is = subst (λ (n : ℕ). 1024 ≤ n + set.len table.reserved) (sym (laws.pairs.count table.pairs)) is

  pub was_full : IsFull (renamed_table r table) → IsFull table
  was_full is = subst (λ (n : ℕ). 1024 ≤ n + set.len table.reserved) (laws.pairs.count table.pairs) is

  pub renamed_not_full : (¬ IsFull table) → ¬ IsFull (renamed_table r table)
  renamed_not_full none is = none (was_full is)

  renamed_taking : (response : Bool) (f : MemoryFault) → CanTakeOf response table f → CanTakeOf response (renamed_table r table) f
  renamed_taking response child.Message is = absurd is
  renamed_taking response child.Window is = is
  renamed_taking response child.Narrowing is = is
  renamed_taking response child.Table is = (is.0, (renamed_not_full is.1.0, is.1.1, is.1.2))

-- ---- a message that has its effect

module _ (r : ℕ → ℕ) (plain_of : Opening) (a : Association) (octets : Octets) (m : Message) where
  renamed_counts : (response : Bool) (plain : Plain) → HasItsEffect response plain_of a octets m plain → HasItsEffect response plain_of (renamed_association r a) octets m plain
  renamed_counts true plain is = record {
    due = record { response = is.due.response; open_yet = is.due.open_yet; request = is.due.request; outstanding = is.due.outstanding; exchange_is = is.due.exchange_is };
    opened = is.opened;
  }
  renamed_counts false plain is = record { request = is.request; fresh = is.fresh; admitted = is.admitted; opened = is.opened }

  renamed_making : CanMakeChild plain_of a octets m → CanMakeChild plain_of (renamed_association r a) octets m
  renamed_making is = record { plain = is.plain; counts = renamed_counts m.header.flags.response is.plain is.counts; kind = is.kind }

-- ---- a datagram

module _ (r : ℕ → ℕ) (laws : RenamedLaws r) (meaning : Meaning) (setup : Setup) (old : Held) (renaming : IsRenaming r old.next) (before : old.next < SERIAL_END) (left : r old.next < SERIAL_END) where
  renamed_passing : (reason : IkeFault) (stepped : Stepped) (new : Held) → PassesOver reason old stepped new → PassesOver reason (renamed_held r old) (renamed_stepped r stepped) (renamed_held r new)
  renamed_passing reason stepped new is = record { said = ap (renamed_stepped r) is.said; unchanged = ap (renamed_held r) is.unchanged }

  renamed_repeats : (place : ℕ) (stepped : Stepped) → Repeats place old.associations stepped → Repeats place (map (renamed_association r) old.associations) (renamed_stepped r stepped)
  renamed_repeats place stepped is = record {
    association = renamed_association r is.association;
    there = stands_renamed r old.associations place is.association is.there;
    reply = is.reply;
    kept = is.kept;
    said = ap (renamed_stepped r) is.said;
  }

  renamed_notice : (spi_i : ℕ) (notice : Notice) (stepped : Stepped) → SaysNotice spi_i notice stepped → SaysNotice spi_i notice (renamed_stepped r stepped)
  renamed_notice spi_i notice stepped is = record { octets = is.octets; spelled = is.spelled; said = ap (renamed_stepped r) is.said }

  renamed_can : (spi : ℕ) → CanMake old spi → CanMake (renamed_held r old) spi
  renamed_can spi is = record { serial = left; usable = same_bad r old.associations spi ∙ is.usable }

  renamed_admission : (offer : OfferView) (spi_i : ℕ) (octets : Octets) (stepped : Stepped) (new : Held) → AdmitsNext meaning setup offer spi_i octets old stepped new
      → AdmitsNext meaning setup offer spi_i octets (renamed_held r old) (renamed_stepped r stepped) (renamed_held r new)
  renamed_admission offer spi_i octets stepped new is = record {
    admitted = record { octets = is.admitted.octets; association = renamed_association r is.admitted.association };
    admits = record { agreed = is.admits.agreed; answer = is.admits.answer; octets = is.admits.octets; content = ap (renamed_association r) is.admits.content };
    said = ap (renamed_stepped r) is.said;
    content = ap (renamed_held r) is.content ∙ renamed_after_next r old renaming is.admitted.association;
  }

  renamed_offer : (offer : OfferView) (spi_i : ℕ) (octets : Octets) (stepped : Stepped) (new : Held) → TakesOffer meaning setup offer spi_i octets old stepped new
      → TakesOffer meaning setup offer spi_i octets (renamed_held r old) (renamed_stepped r stepped) (renamed_held r new)
  renamed_offer offer spi_i octets stepped new is = record {
    can = renamed_can setup.fresh.spi is.can;
    done = elim is.done [
      | inl (refused, passed) ↦ inl (refused, renamed_passing (fault.Message WrongPhase) stepped new passed)
      | inr admits ↦ inr (renamed_admission offer spi_i octets stepped new admits)
    ];
  }

  renamed_judged : (cookies : CookieSecrets) (from : Octets) (m : Message) (j : JudgementView) → IsJudged meaning cookies old from m j → IsJudged meaning cookies (renamed_held r old) from m j
  renamed_judged cookies from m j is =
      subst (λ (n : ℕ). IsJudgement meaning.cipher meaning.group cookies (sender_of from m.header) (half_open_count (map (renamed_association r) old.associations)) n m.payloads j) (sym (same_length r old.associations))
      (subst (λ (n : ℕ). IsJudgement meaning.cipher meaning.group cookies (sender_of from m.header) n (length old.associations) m.payloads j) (sym (same_count r old.associations)) is)

  renamed_doing : (spi_i : ℕ) (octets : Octets) (j : JudgementView) (stepped : Stepped) (new : Held) → DoesJudgement meaning setup spi_i octets j old stepped new
      → DoesJudgement meaning setup spi_i octets j (renamed_held r old) (renamed_stepped r stepped) (renamed_held r new)
  renamed_doing spi_i octets (Answered notice) stepped new is = (renamed_notice spi_i notice stepped is.0, ap (renamed_held r) is.1)
  renamed_doing spi_i octets Incomplete stepped new is = renamed_passing (fault.Message WrongPhase) stepped new is
  renamed_doing spi_i octets Full stepped new is = renamed_passing fault.HalfOpenFull stepped new is
  renamed_doing spi_i octets (Accepted offer) stepped new is = renamed_offer offer spi_i octets stepped new is

  renamed_new : (cookies : CookieSecrets) (from octets : Octets) (m : Message) (stepped : Stepped) (new : Held) → TakesNew meaning setup cookies from octets m old stepped new
      → TakesNew meaning setup cookies from octets m (renamed_held r old) (renamed_stepped r stepped) (renamed_held r new)
  renamed_new cookies from octets m stepped new is = record {
    judgement = is.judgement;
    judged = renamed_judged cookies from m is.judgement is.judged;
    done = renamed_doing m.header.spi_i octets is.judgement stepped new is.done;
  }

  renamed_request : (o : Option ℕ) (cookies : CookieSecrets) (from octets : Octets) (m : Message) (stepped : Stepped) (new : Held) → TakesRequestAt o meaning setup cookies from octets m old stepped new
      → TakesRequestAt o meaning setup cookies from octets m (renamed_held r old) (renamed_stepped r stepped) (renamed_held r new)
  renamed_request None cookies from octets m stepped new is = renamed_new cookies from octets m stepped new is
  renamed_request (Some place) cookies from octets m stepped new is = (renamed_repeats place stepped is.0, ap (renamed_held r) is.1)

  renamed_sound : (sound : Bool) (cookies : CookieSecrets) (from octets : Octets) (m : Message) (stepped : Stepped) (new : Held) → TakesSound sound meaning setup cookies from octets m old stepped new
      → TakesSound sound meaning setup cookies from octets m (renamed_held r old) (renamed_stepped r stepped) (renamed_held r new)
  renamed_sound true cookies from octets m stepped new is =
      subst (λ (o : Option ℕ). TakesRequestAt o meaning setup cookies from octets m (renamed_held r old) (renamed_stepped r stepped) (renamed_held r new)) (sym (same_answered r old.associations octets))
      (renamed_request (position (is_answered octets) old.associations) cookies from octets m stepped new is)
  renamed_sound false cookies from octets m stepped new is = renamed_passing (fault.Message WrongPhase) stepped new is

  renamed_message : (place : ℕ) (octets : Octets) (m : Message) (table : Database) (stepped : Stepped) (new : Held) (new_table : Database) → TakesAt place meaning setup octets m old table stepped new new_table
      → TakesAt place meaning setup octets m (renamed_held r old) (renamed_table r table) (renamed_stepped r stepped) (renamed_held r new) (renamed_table r new_table)
  renamed_message place octets m table stepped new new_table is = record {
    association = renamed_association r is.association;
    there = stands_renamed r old.associations place is.association is.there;
    effect = is.effect;
    changed = renamed_association r is.changed;
    takes = laws.associations.message meaning setup is.association is.changed table new_table octets m is.effect is.takes;
    said = ap (renamed_stepped r) is.said ∙ renamed_effect r is.association.serial m.header.id is.effect;
    content = ap (renamed_held r) is.content ∙ renamed_after_change r old place is.changed;
  }

  renamed_found : (found : Result ℕ MessageFault) (octets : Octets) (m : Message) (table : Database) (stepped : Stepped) (new : Held) (new_table : Database) → TakesFound found meaning setup octets m old table stepped new new_table
      → TakesFound found meaning setup octets m (renamed_held r old) (renamed_table r table) (renamed_stepped r stepped) (renamed_held r new) (renamed_table r new_table)
  renamed_found (Ok place) octets m table stepped new new_table is = renamed_message place octets m table stepped new new_table is
  renamed_found (Err f) octets m table stepped new new_table is = (renamed_passing (fault.Message f) stepped new is.0, ap (renamed_table r) is.1)

  renamed_read : (initial : Bool) (cookies : CookieSecrets) (from octets : Octets) (m : Message) (table : Database) (stepped : Stepped) (new : Held) (new_table : Database)
      → TakesRead initial meaning setup cookies from octets m old table stepped new new_table
      → TakesRead initial meaning setup cookies from octets m (renamed_held r old) (renamed_table r table) (renamed_stepped r stepped) (renamed_held r new) (renamed_table r new_table)
  renamed_read true cookies from octets m table stepped new new_table is = (renamed_sound (is_sound_initial m.header) cookies from octets m stepped new is.0, ap (renamed_table r) is.1)
  renamed_read false cookies from octets m table stepped new new_table is =
      subst (λ (found : Result ℕ MessageFault). TakesFound found meaning setup octets m (renamed_held r old) (renamed_table r table) (renamed_stepped r stepped) (renamed_held r new) (renamed_table r new_table)) (sym (same_found r old.associations m.header))
      (renamed_found (place_meant m.header old.associations) octets m table stepped new new_table is)

  pub renamed_datagram : (cookies : CookieSecrets) (from octets : Octets) (table : Database) (stepped : Stepped) (new : Held) (new_table : Database)
      → TakesDatagram meaning setup cookies from octets old table stepped new new_table
      → TakesDatagram meaning setup cookies from octets (renamed_held r old) (renamed_table r table) (renamed_stepped r stepped) (renamed_held r new) (renamed_table r new_table)
  renamed_datagram cookies from octets table stepped new new_table (inl fails) =
      inl (record { reason = fails.reason; is = fails.is; passed = renamed_passing (fault.Unread fails.reason) stepped new fails.passed; unchanged = ap (renamed_table r) fails.unchanged })
  renamed_datagram cookies from octets table stepped new new_table (inr reads) = inr (record {
    message = reads.message;
    spelled = reads.spelled;
    done = renamed_read (is_initial_request reads.message.header) cookies from octets reads.message table stepped new new_table reads.done;
  })

  -- ---- why it is refused

  renamed_cannot : (spi : ℕ) (reason : IkeFault) → CannotMake old spi reason → CannotMake (renamed_held r old) spi reason
  renamed_cannot spi fault.NumbersSpent is = absurd (omega (arith, before, is))
  renamed_cannot spi fault.BadFresh is = (left, same_bad r old.associations spi ∙ is.1)
  renamed_cannot spi (fault.Memory f) is = is
  renamed_cannot spi (fault.Unread f) is = absurd is
  renamed_cannot spi (fault.Message f) is = absurd is
  renamed_cannot spi fault.Unprotected is = absurd is
  renamed_cannot spi fault.Crowded is = absurd is
  renamed_cannot spi fault.TableFull is = absurd is
  renamed_cannot spi fault.SpisSpent is = absurd is
  renamed_cannot spi fault.HalfOpenFull is = absurd is
  renamed_cannot spi fault.Busy is = absurd is

  renamed_refusal : (cookies : CookieSecrets) (from octets : Octets) (reason : IkeFault) → RefusesInitial meaning setup cookies from octets old reason → RefusesInitial meaning setup cookies from octets (renamed_held r old) reason
  renamed_refusal cookies from octets reason is = record {
    message = is.message;
    spelled = is.spelled;
    initial = is.initial;
    sound = is.sound;
    first = same_answered r old.associations octets ∙ is.first;
    refused = record {
      offer = is.refused.offer;
      judged = renamed_judged cookies from is.message (Accepted is.refused.offer) is.refused.judged;
      why = renamed_cannot setup.fresh.spi reason is.refused.why;
    };
  }

  renamed_wants : (octets : Octets) (table : Database) (f : MemoryFault) → WantsForChild meaning.plain_of octets old table f → WantsForChild meaning.plain_of octets (renamed_held r old) (renamed_table r table) f
  renamed_wants octets table f is =
      let makes = is.makes in
      record {
        message = is.message;
        spelled = is.spelled;
        not_initial = is.not_initial;
        place = is.place;
        finds = same_found r old.associations is.message.header ∙ is.finds;
        makes = record {
          association = renamed_association r makes.association;
          there = stands_renamed r old.associations is.place makes.association makes.there;
          makes = renamed_making r meaning.plain_of makes.association octets is.message makes.makes;
          takes = renamed_taking r laws table is.message.header.flags.response f makes.takes;
        };
      }

  pub renamed_datagram_refusal : (cookies : CookieSecrets) (from octets : Octets) (table : Database) (reason : IkeFault) → RefusesDatagram meaning setup cookies from octets old table reason
      → RefusesDatagram meaning setup cookies from octets (renamed_held r old) (renamed_table r table) reason
  renamed_datagram_refusal cookies from octets table (fault.Memory f) is = (is.0, elim is.1 [ inl message ↦ inl message | inr wants ↦ inr (renamed_wants octets table f wants) ])
  renamed_datagram_refusal cookies from octets table (fault.Unread f) is = renamed_refusal cookies from octets (fault.Unread f) is
  renamed_datagram_refusal cookies from octets table (fault.Message f) is = renamed_refusal cookies from octets (fault.Message f) is
  renamed_datagram_refusal cookies from octets table fault.Unprotected is = renamed_refusal cookies from octets fault.Unprotected is
  renamed_datagram_refusal cookies from octets table fault.Crowded is = renamed_refusal cookies from octets fault.Crowded is
  renamed_datagram_refusal cookies from octets table fault.TableFull is = renamed_refusal cookies from octets fault.TableFull is
  renamed_datagram_refusal cookies from octets table fault.SpisSpent is = renamed_refusal cookies from octets fault.SpisSpent is
  renamed_datagram_refusal cookies from octets table fault.HalfOpenFull is = renamed_refusal cookies from octets fault.HalfOpenFull is
  renamed_datagram_refusal cookies from octets table fault.Busy is = renamed_refusal cookies from octets fault.Busy is
  renamed_datagram_refusal cookies from octets table fault.NumbersSpent is = renamed_refusal cookies from octets fault.NumbersSpent is
  renamed_datagram_refusal cookies from octets table fault.BadFresh is = renamed_refusal cookies from octets fault.BadFresh is
